-- One class more with its number.
use Rattle.std.proofs.Common.{◌≡◌, ◌∙◌, sym, ap, arith, ℕ, ◌+◌, ◌<◌, List, [], ◌∷◌, ◌++◌, length, get_or, take, map}
use Rattle.std.proofs.lemmas.List.{length-map, length-take-le, map_push, take_more}
use Rattle.program_model.specs.declared.kinds.ClassId.{ClassId}
use Rattle.class_names.specs.ClassNames.{class_number}
use Rattle.class_order.specs.declared.declared.Declared.{Declared}
use Rattle.class_order.specs.Declarations.{Declaration, declaration_of}
use Rattle.source_classes.specs.SourceClasses.{SourceClass, numbered_from}

abbrev pub source_class : ClassId → Declaration → SourceClass
source_class c d = record { class' = c; declaration = d }

abbrev pub numbered : ℕ → Declaration → SourceClass
numbered n d = source_class (class_number n) d

numbered_push : (first n : ℕ) (ds : List Declaration) (d : Declaration) → n ≡ first + length ds → numbered_from first (ds ++ d ∷ []) ≡ numbered_from first ds ++ numbered n d ∷ []
numbered_push first n [] d is = let same : first ≡ n = omega arith in ap (λ m. numbered m d ∷ []) same
numbered_push first n (x ∷ xs) d is = ap (λ cs. numbered first x ∷ cs) (numbered_push (first + 1) n xs d (omega arith))

pub numbered_more : (first : ℕ) (order : List Declared) (i : ℕ) (d : Declared) → i < length order → d ≡ get_or order i d → numbered_from first (map declaration_of (take (i + 1) order)) ≡ numbered_from first (map declaration_of (take i order)) ++ numbered (first + i) (declaration_of d) ∷ []
numbered_more first order i d within at =
    let long : length (take i order) ≡ i = length-take-le i order (omega arith) in
    let wide = length-map (take i order) declaration_of in
    ap (λ ds. numbered_from first (map declaration_of ds)) (take_more order i d within ∙ ap (λ x. take i order ++ x ∷ []) (sym at))
    ∙ ap (numbered_from first) (map_push declaration_of (take i order) d)
    ∙ numbered_push first (first + i) (map declaration_of (take i order)) (declaration_of d) (omega (arith, long, wide))
