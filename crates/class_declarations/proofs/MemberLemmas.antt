-- The members of one class more.
use Rattle.std.proofs.Common.{◌≡◌, ◌∙◌, sym, ap, arith, ℕ, ◌+◌, ◌<◌, List, [], ◌∷◌, ◌++◌, length, get_or, take, map}
use Rattle.std.proofs.lemmas.List.{append-nil, append_assoc, length-map, length-take-le, map_push, take_more}
use Rattle.class_names.specs.declared.class_name.ClassName.{ClassName}
use Rattle.class_names.specs.ClassNames.{class_number}
use Rattle.class_order.specs.declared.declared.Declared.{Declared}
use Rattle.class_order.specs.Declarations.{Declaration, declaration_of}
use Rattle.class_declarations.specs.Members.{fields_from, fields_of, methods_from, methods_of}

fields_push : (first n : ℕ) (ds : List Declaration) (d : Declaration) → n ≡ first + length ds → fields_from first (ds ++ d ∷ []) ≡ fields_from first ds ++ fields_of (class_number n) d
fields_push first n [] d is =
    let same : first ≡ n = omega arith in
    append-nil (fields_of (class_number first) d) ∙ ap (λ m. fields_of (class_number m) d) same
fields_push first n (x ∷ xs) d is =
    ap (λ rest. fields_of (class_number first) x ++ rest) (fields_push (first + 1) n xs d (omega arith))
    ∙ sym (append_assoc (fields_of (class_number first) x) (fields_from (first + 1) xs) (fields_of (class_number n) d))

methods_push : (first n : ℕ) (classes : List ClassName) (ds : List Declaration) (d : Declaration) → n ≡ first + length ds → methods_from first classes (ds ++ d ∷ []) ≡ methods_from first classes ds ++ methods_of classes (class_number n) d
methods_push first n classes [] d is =
    let same : first ≡ n = omega arith in
    append-nil (methods_of classes (class_number first) d) ∙ ap (λ m. methods_of classes (class_number m) d) same
methods_push first n classes (x ∷ xs) d is =
    ap (λ rest. methods_of classes (class_number first) x ++ rest) (methods_push (first + 1) n classes xs d (omega arith))
    ∙ sym (append_assoc (methods_of classes (class_number first) x) (methods_from (first + 1) classes xs) (methods_of classes (class_number n) d))

one_more : (order : List Declared) (i : ℕ) (d : Declared) → i < length order → d ≡ get_or order i d → map declaration_of (take (i + 1) order) ≡ map declaration_of (take i order) ++ declaration_of d ∷ []
one_more order i d within at =
    ap (map declaration_of) (take_more order i d within ∙ ap (λ x. take i order ++ x ∷ []) (sym at)) ∙ map_push declaration_of (take i order) d

first_count : (order : List Declared) (i : ℕ) → i < length order → i ≡ 0 + length (map declaration_of (take i order))
first_count order i within =
    let long : length (take i order) ≡ i = length-take-le i order (omega arith) in
    let wide = length-map (take i order) declaration_of in
    omega (arith, long, wide)

pub fields_more : (order : List Declared) (i : ℕ) (d : Declared) → i < length order → d ≡ get_or order i d → fields_from 0 (map declaration_of (take (i + 1) order)) ≡ fields_from 0 (map declaration_of (take i order)) ++ fields_of (class_number i) (declaration_of d)
fields_more order i d within at =
    ap (fields_from 0) (one_more order i d within at) ∙ fields_push 0 i (map declaration_of (take i order)) (declaration_of d) (first_count order i within)

pub methods_more : (classes : List ClassName) (order : List Declared) (i : ℕ) (d : Declared) → i < length order → d ≡ get_or order i d → methods_from 0 classes (map declaration_of (take (i + 1) order)) ≡ methods_from 0 classes (map declaration_of (take i order)) ++ methods_of classes (class_number i) (declaration_of d)
methods_more classes order i d within at =
    ap (methods_from 0 classes) (one_more order i d within at) ∙ methods_push 0 i classes (map declaration_of (take i order)) (declaration_of d) (first_count order i within)
