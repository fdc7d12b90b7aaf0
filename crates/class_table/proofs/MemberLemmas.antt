-- The classes of the table when their members are put into them.
use Rattle.std.proofs.Common.{◌≡◌, ◌∙◌, sym, ap, refl, subst, arith, ⊎_elim, ℕ, zero, suc, ◌+◌, ◌<◌, ◌≤◌, Option, Some, None, List, [], ◌∷◌, length, get_or, set, map}
use Rattle.std.specs.Prelude.{slice_get}
use Rattle.std.specs.List.{AllZip}
use Rattle.std.specs.Option.{option_map}
use Rattle.std.proofs.lemmas.Bool.{cases_eq}
use Rattle.std.proofs.lemmas.List.{get_or-map, length-map, map-set, set-get_or}
use Rattle.std.proofs.lemmas.Option.{same_Some, slice_get-map, slice_get_read, slice_get_within}
use Rattle.program_model.specs.declared.kinds.ClassId.{ClassId}
use Rattle.program_model.specs.declared.program.Class.{Class}
use Rattle.class_order.specs.declared.declared.Declared.{Declared}
use Rattle.class_order.specs.Declarations.{Declaration, declaration_of}
use Rattle.class_headers.specs.Headers.{AllList, ListsAbove, declared_headers, header_of}
use Rattle.class_headers.specs.SuperTypes.{SuperTypes}
use Rattle.class_table.specs.Numbers.{AreNumbers, row_at}
use Rattle.class_table.specs.Table.{AllHave, AllHaveOwn, Bare, HasMembers, all_fields, all_methods, bare_of, field_numbers, field_owners, method_owners}

-- ---- one class more

-- the classes with a lower number have their members
abbrev pub HaveTo : ℕ → (ℕ → List ℕ) → (ℕ → List ℕ) → List Declaration → List Class → Type 0
HaveTo i fields methods order classes =
    (n : ℕ) (d : Declaration) (k : Class) → n < i → slice_get order n ≡ Some d → slice_get classes n ≡ Some k → HasMembers (fields n) (methods n) d k

set_other : {X : Type 0} (xs : List X) (i n : ℕ) (x : X) → (n ≡ i → ⊥) → slice_get (set xs i x) n ≡ slice_get xs n
set_other [] i n x other = refl
set_other (y ∷ ys) zero zero x other = absurd (other refl)
set_other (y ∷ ys) zero (suc n) x other = refl
set_other (y ∷ ys) (suc i) zero x other = refl
set_other (y ∷ ys) (suc i) (suc n) x other = set_other ys i n x (λ e. other (ap suc e))

set_same : {X : Type 0} (xs : List X) (i : ℕ) (x y : X) → slice_get (set xs i x) i ≡ Some y → x ≡ y
set_same [] i x y is = let never : None ≡ Some y = is in cc
set_same (z ∷ zs) zero x y is = same_Some x y is
set_same (z ∷ zs) (suc i) x y is = set_same zs i x y is

declared_at : (order : List Declared) (i : ℕ) (d : Declared) (e : Declaration) → i < length order → d ≡ get_or order i d → slice_get (map declaration_of order) i ≡ Some e → declaration_of d ≡ e
declared_at order i d e within is at =
    same_Some (declaration_of d) e (sym (slice_get-map declaration_of order i ∙ ap (option_map declaration_of) (slice_get_read order (length order) i d refl within is)) ∙ at)

pub have_more : (fields methods : ℕ → List ℕ) (order : List Declared) (classes : List Class) (i : ℕ) (d : Declared) (new : Class) → i < length order → d ≡ get_or order i d
    → HaveTo i fields methods (map declaration_of order) classes → HasMembers (fields i) (methods i) (declaration_of d) new → HaveTo (i + 1) fields methods (map declaration_of order) (set classes i new)
have_more fields methods order classes i d new within is before own n e k below at_d at_k =
    ⊎_elim
    (λ (same : n ≡ i).
    let O : ℕ → Type 0 = λ m. slice_get (map declaration_of order) m ≡ Some e in
    let K : ℕ → Type 0 = λ m. slice_get (set classes i new) m ≡ Some k in
    let D : Declaration → Type 0 = λ z. HasMembers (fields i) (methods i) z new in
    let C : Class → Type 0 = HasMembers (fields i) (methods i) e in
    let N : ℕ → Type 0 = λ m. HasMembers (fields m) (methods m) e k in
    subst N (sym same) (subst C (set_same classes i new k (subst K same at_k)) (subst D (declared_at order i d e within is (subst O same at_d)) own)))
    (λ other. before n e k (omega (arith, other)) at_d (sym (set_other classes i n new other) ∙ at_k))
    (cases_eq n i)

pub bare_kept : (classes : List Class) (i : ℕ) (d new : Class) → i < length classes → bare_of new ≡ bare_of (get_or classes i d) → map bare_of (set classes i new) ≡ map bare_of classes
bare_kept classes i d new within same =
    map-set bare_of classes i new ∙ ap (set (map bare_of classes) i) (same ∙ sym (get_or-map bare_of classes i d (bare_of d) within)) ∙ set-get_or (map bare_of classes) i (bare_of d)

pub have_all : (fields methods : ℕ → List ℕ) (order : List Declared) (classes : List Class) (i : ℕ) → length order ≤ i → HaveTo i fields methods (map declaration_of order) classes → AllHave fields methods (map declaration_of order) classes
have_all fields methods order classes i past all n d k at_d at_k =
    let within : n < length order = let below = slice_get_within (map declaration_of order) n d at_d in omega (arith, below, length-map order declaration_of) in
    all n d k (omega arith) at_d at_k

-- ---- what stays

bare_headers : (classes : List Class) → map (λ (b : Bare). b.header) (map bare_of classes) ≡ map header_of classes
bare_headers [] = refl
bare_headers (k ∷ ks) = ap (λ hs. header_of k ∷ hs) (bare_headers ks)

pub headers_kept : (old new : List Class) → map bare_of new ≡ map bare_of old → map header_of new ≡ map header_of old
headers_kept old new same = sym (bare_headers new) ∙ ap (map (λ (b : Bare). b.header)) same ∙ bare_headers old

lists_by : (direct : List (List ClassId)) (c : ClassId) (k : Class) (old : List Class) (o : Option Class) → AllList direct old → slice_get old c.0 ≡ o → option_map bare_of o ≡ Some (bare_of k) → ListsAbove direct c k.above.items
lists_by direct c k old (Some j) all at is =
    let L : List ClassId → Type 0 = ListsAbove direct c in
    subst L (ap (λ (b : Bare). b.above) (same_Some (bare_of j) (bare_of k) is)) (all c j at)
lists_by direct c k old None all at is = let never : None ≡ Some (bare_of k) = is in cc

pub lists_kept : (direct : List (List ClassId)) (old new : List Class) → map bare_of new ≡ map bare_of old → AllList direct old → AllList direct new
lists_kept direct old new same all c k at =
    lists_by direct c k old (slice_get old c.0) all refl (sym (slice_get-map bare_of old c.0) ∙ ap (λ bs. slice_get bs c.0) (sym same) ∙ slice_get-map bare_of new c.0 ∙ ap (option_map bare_of) at)

-- ---- the numbers are those of the members of the class

pub have_own : (order : List Declaration) (classes : List Class) (fields methods : List (List ℕ)) → AreNumbers (length order) (field_owners (all_fields order)) fields → AreNumbers (length order) (method_owners (all_methods order)) methods
    → AllHave (row_at fields) (row_at methods) order classes → AllHaveOwn order classes
have_own order classes fields methods own_fields own_methods all n d k at_d at_k =
    let within = slice_get_within order n d at_d in
    let F : List ℕ → Type 0 = λ ns. HasMembers ns (row_at methods n) d k in
    let M : List ℕ → Type 0 = λ ns. HasMembers (field_numbers order n) ns d k in
    subst M (own_methods n within) (subst F (own_fields n within) (all n d k at_d at_k))

pub length-headers : (ds : List Declaration) (ss : List SuperTypes) → length ds ≡ length ss → length (declared_headers ds ss) ≡ length ds
length-headers [] ss same = refl
length-headers (d ∷ ds) [] same = sym same
length-headers (d ∷ ds) (s ∷ ss) same = ap suc (length-headers ds ss (omega (arith, same)))

pub zip_long : {A B : Type 0} (R : A → B → Type 0) (xs : List A) (ys : List B) → AllZip R xs ys → length xs ≡ length ys
zip_long R [] [] zip = refl
zip_long R [] (y ∷ ys) zip = absurd zip
zip_long R (x ∷ xs) [] zip = absurd zip
zip_long R (x ∷ xs) (y ∷ ys) zip = ap suc (zip_long R xs ys zip.1)
