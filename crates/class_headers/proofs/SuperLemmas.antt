-- The super types of one class more.
use Rattle.std.proofs.Common.{◌≡◌, ◌∙◌, sym, ap, arith, ℕ, ◌+◌, ◌<◌, List, [], ◌∷◌, ◌++◌, length, get_or, take, map}
use Rattle.std.proofs.lemmas.List.{length-map, length-take-le, map_push, take_more}
use Rattle.program_model.specs.declared.kinds.ClassId.{ClassId}
use Rattle.class_names.specs.declared.class_name.ClassName.{ClassName}
use Rattle.class_order.specs.declared.declared.Declared.{Declared}
use Rattle.class_order.specs.Declarations.{Declaration, declaration_of}
use Rattle.class_headers.specs.SuperTypes.{declared_supers, supers_from}

supers_push : (first n : ℕ) (classes : List ClassName) (object : ClassId) (ds : List Declaration) (d : Declaration) → n ≡ first + length ds → supers_from first classes object (ds ++ d ∷ []) ≡ supers_from first classes object ds ++ declared_supers classes object (record { 0 = n }) d ∷ []
supers_push first n classes object [] d is = let same : first ≡ n = omega arith in ap (λ m. declared_supers classes object (record { 0 = m }) d ∷ []) same
supers_push first n classes object (x ∷ xs) d is = ap (λ ss. declared_supers classes object (record { 0 = first }) x ∷ ss) (supers_push (first + 1) n classes object xs d (omega arith))

pub supers_more : (classes : List ClassName) (object : ClassId) (order : List Declared) (i : ℕ) (d : Declared) → i < length order → d ≡ get_or order i d → supers_from 0 classes object (map declaration_of (take (i + 1) order)) ≡ supers_from 0 classes object (map declaration_of (take i order)) ++ declared_supers classes object (record { 0 = i }) (declaration_of d) ∷ []
supers_more classes object order i d within at =
    let long : length (take i order) ≡ i = length-take-le i order (omega arith) in
    let wide = length-map (take i order) declaration_of in
    ap (λ xs. supers_from 0 classes object (map declaration_of xs)) (take_more order i d within ∙ ap (λ x. take i order ++ x ∷ []) (sym at))
    ∙ ap (supers_from 0 classes object) (map_push declaration_of (take i order) d)
    ∙ supers_push 0 i classes object (map declaration_of (take i order)) (declaration_of d) (omega (arith, long, wide))
