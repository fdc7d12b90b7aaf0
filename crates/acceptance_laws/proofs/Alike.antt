-- What classes and methods of the same tables say.
use Rattle.std.proofs.Common.{◌≡◌, ◌∙◌, ap, ap₂, sym, refl, suc, Bool, true, false, ◌&&◌, Option, Some, None, List, [], ◌∷◌, ◌++◌, length, map}
use Rattle.std.specs.Prelude.{◌||◌, not, cond}
use Rattle.std.specs.List.{AllZip, filter, flat_map, list_all, list_any}
use Rattle.std.specs.Str.{bytes_eq}
use Rattle.std.proofs.lemmas.List.Concat.{flat_map-append}
use Rattle.rlc_base.specs.declared.place.Pos.{Pos}
use Rattle.program_model.specs.declared.kinds.ClassId.{ClassId}
use Rattle.program_model.specs.declared.kinds.MethodId.{MethodId}
use Rattle.program_model.specs.declared.kinds.VType.{VType}
use Rattle.program_model.specs.declared.program.Class.{Class}
use Rattle.program_model.specs.declared.program.Method.{Method}
use Rattle.program_model.specs.declared.program.ParamSig.{ParamSig}
use Rattle.program_model.specs.declared.program.Program.{Program}
use Rattle.program_model.specs.Lookups.{class_at, method_at}
use Rattle.program_model.specs.Overrides.{are_alike, are_types, is_abstract, is_abstract_in, is_alike, is_alike_in, is_interface, is_interface_in, is_library, is_library_in, is_method_kind, is_static_kind, is_type, methods_in, methods_of, pos_in, super_in}
use Rattle.program_model.specs.SuperTests.{classes_above, has_class, is_under}
use Rattle.accepted_programs.proofs.SignedTables.{at_equal}
use Rattle.acceptance_laws.specs.SameTables.{HasSameHead, HaveSameTables, IsSameClass}

-- ---- lists

pub filter_same : {X : Type 0} (f g : X → Bool) → ((x : X) → f x ≡ g x) → (xs : List X) → filter f xs ≡ filter g xs
filter_same f g same [] = refl
filter_same {X} f g same (x ∷ xs) = ap₂ (λ (b : Bool) (rest : List X). cond b (x ∷ rest) rest) (same x) (filter_same f g same xs)

pub flat_same : {X Y : Type 0} (f g : X → List Y) → ((x : X) → f x ≡ g x) → (xs : List X) → flat_map f xs ≡ flat_map g xs
flat_same f g same [] = refl
flat_same {Y = Y} f g same (x ∷ xs) = ap₂ (λ (ys zs : List Y). ys ++ zs) (same x) (flat_same f g same xs)

pub any_same : {X : Type 0} (f g : X → Bool) → ((x : X) → f x ≡ g x) → (xs : List X) → list_any f xs ≡ list_any g xs
any_same f g same [] = refl
any_same f g same (x ∷ xs) = λ i. same x i || any_same f g same xs i

pub all_same : {X : Type 0} (f g : X → Bool) → ((x : X) → f x ≡ g x) → (xs : List X) → list_all f xs ≡ list_all g xs
all_same f g same [] = refl
all_same f g same (x ∷ xs) = λ i. same x i && all_same f g same xs i

pub flat_flat : {X Y Z : Type 0} (f : Y → List Z) (g : X → List Y) (xs : List X) → flat_map f (flat_map g xs) ≡ flat_map (λ x. flat_map f (g x)) xs
flat_flat f g [] = refl
flat_flat {Z = Z} f g (x ∷ xs) = flat_map-append f (g x) (flat_map g xs) ∙ ap (λ (zs : List Z). flat_map f (g x) ++ zs) (flat_flat f g xs)

-- ---- classes

pub class_same : {Y : Type 0} (p q : Program) → HaveSameTables p q → (f : Option Class → Y) → ((k j : Class) → IsSameClass k j → f (Some k) ≡ f (Some j)) → (c : ClassId) → f (class_at p c) ≡ f (class_at q c)
class_same p q h f step c = at_equal IsSameClass f f p.classes.items q.classes.items c.0 h.classes refl step

pub methods_same : (p q : Program) → HaveSameTables p q → (c : ClassId) → methods_of p c ≡ methods_of q c
methods_same p q h c = class_same p q h methods_in (λ k j s. s.methods) c

pub above_same : (p q : Program) → HaveSameTables p q → (c : ClassId) → classes_above c (class_at p c) ≡ classes_above c (class_at q c)
above_same p q h c = class_same p q h (classes_above c) (λ k j s. s.above) c

pub under_same : (p q : Program) → HaveSameTables p q → (c d : ClassId) → is_under p c d ≡ is_under q c d
under_same p q h c d = ap (λ (cs : List ClassId). has_class cs d) (above_same p q h c)

pub super_same : (p q : Program) → HaveSameTables p q → (c : ClassId) → super_in (class_at p c) ≡ super_in (class_at q c)
super_same p q h c = class_same p q h super_in (λ k j s. s.super_class) c

pub library_same : (p q : Program) → HaveSameTables p q → (c : ClassId) → is_library p c ≡ is_library q c
library_same p q h c = class_same p q h is_library_in (λ k j s. s.library) c

pub interface_same : (p q : Program) → HaveSameTables p q → (c : ClassId) → is_interface p c ≡ is_interface q c
interface_same p q h c = class_same p q h is_interface_in (λ k j s. s.interface) c

pub abstract_same : (p q : Program) → HaveSameTables p q → (c : ClassId) → is_abstract p c ≡ is_abstract q c
abstract_same p q h c = class_same p q h is_abstract_in (λ k j s. s.abstract) c

pub place_same : (p q : Program) → HaveSameTables p q → (c : ClassId) → pos_in (class_at p c) ≡ pos_in (class_at q c)
place_same p q h c = class_same p q h pos_in (λ k j s. ap (λ (x : Pos). x ∷ []) s.place) c

long : {X : Type 0} (R : X → X → Type 0) (xs ys : List X) → AllZip R xs ys → length xs ≡ length ys
long R [] [] all = refl
long R [] (y ∷ ys) all = absurd all
long R (x ∷ xs) [] all = absurd all
long R (x ∷ xs) (y ∷ ys) all = ap suc (long R xs ys all.1)

pub count_same : (p q : Program) → HaveSameTables p q → length p.classes.items ≡ length q.classes.items
count_same p q h = long IsSameClass p.classes.items q.classes.items h.classes

-- ---- methods

pub method_same : {Y : Type 0} (p q : Program) → HaveSameTables p q → (f g : Option Method → Y) → f None ≡ g None → ((m n : Method) → HasSameHead m n → f (Some m) ≡ g (Some n)) → (m : MethodId) → f (method_at p m) ≡ g (method_at q m)
method_same p q h f g none step m = at_equal HasSameHead f g p.methods.items q.methods.items m.0 h.methods none step

are_same_types : List VType → List VType → Bool
are_same_types [] [] = true
are_same_types [] (u ∷ us) = false
are_same_types (t ∷ ts) [] = false
are_same_types (t ∷ ts) (u ∷ us) = is_type t u && are_same_types ts us

types_of : List ParamSig → List VType
types_of xs = map (λ (x : ParamSig). x.vtype) xs

by_types : (xs ys : List ParamSig) → are_types xs ys ≡ are_same_types (types_of xs) (types_of ys)
unfolding are_same_types types_of
by_types [] [] = refl
by_types [] (y ∷ ys) = refl
by_types (x ∷ xs) [] = refl
by_types (x ∷ xs) (y ∷ ys) = ap (λ (b : Bool). is_type x.vtype y.vtype && b) (by_types xs ys)

types_same : (m m' n n' : Method) → HasSameHead m m' → HasSameHead n n' → are_types m.sig.params.items n.sig.params.items ≡ are_types m'.sig.params.items n'.sig.params.items
unfolding types_of
types_same m m' n n' a b = by_types m.sig.params.items n.sig.params.items ∙ ap₂ are_same_types a.params b.params ∙ sym (by_types m'.sig.params.items n'.sig.params.items)

pub alike_same : (m m' n n' : Method) → HasSameHead m m' → HasSameHead n n' → are_alike m n ≡ are_alike m' n'
alike_same m m' n n' a b =
    let types = types_same m m' n n' a b in
    λ i. is_method_kind (a.kind i) && is_method_kind (b.kind i) && not (is_static_kind (a.kind i) && is_static_kind (b.kind i))
    && not (a.private i) && not (b.private i) && bytes_eq (a.name i) (b.name i) && types i

pub is_alike_same : (p q : Program) → HaveSameTables p q → (n n' : Method) → HasSameHead n n' → (m : MethodId) → is_alike p n m ≡ is_alike q n' m
is_alike_same p q h n n' b m = method_same p q h (is_alike_in n) (is_alike_in n') refl (λ x y a. alike_same x y n n' a b) m
