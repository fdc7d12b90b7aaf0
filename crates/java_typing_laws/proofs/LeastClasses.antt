-- In a valid program any two classes have a least upper bound (JLS 4.10.4).
use Rattle.std.proofs.Common.{◌≡◌, inl, inr, ℕ, zero, suc, ◌<◌, Bool, true, false, true≢false, not, ◌&&◌, ◌||◌, Option, Some, None, List, [], ◌∷◌, ◌++◌, Contains, IsSomeAnd, codes, find, length, slice_get, refl, sym, subst, ap, ap₂, ◌∙◌, arith}
use Rattle.std.specs.Option.{is_some}
use Rattle.std.specs.List.{list_any}
use Rattle.std.proofs.lemmas.Bool.{eq-eqb, eqb-true}
use Rattle.std.proofs.lemmas.List.Elements.{Contains-append_left, Contains-append_right}
use Rattle.std.proofs.lemmas.List.Folds.{list_any-from_Any}
use Rattle.program_model.specs.declared.kinds.ClassId.{ClassId}
use Rattle.program_model.specs.declared.program.Class.{Class}
use Rattle.program_model.specs.declared.program.Program.{Program}
use Rattle.program_model.specs.Hierarchy.{IsDirectSuper, IsHierarchy, IsUnder, above, implied_super, itself}
use Rattle.program_model.specs.Lookups.{class_at, optional}
use Rattle.program_model.specs.SuperTests.{classes_above, is_class, is_under}
use Rattle.program_model.specs.Validity.{IsTypedProgram}
use Rattle.program_model.proofs.HierarchyLaws.{is_under_along}
use Rattle.program_model.proofs.Supers.{unknown_is_itself}
use Rattle.java_conversions.specs.Conditionals.{is_minimal, is_minimal_class, is_nearer, is_shared, least_class, or_else}
use Rattle.java_conversions.specs.Casts.{is_interface}
use Rattle.java_typing_laws.specs.CatchParameters.{HasCatchTypes}
use Rattle.java_typing_laws.proofs.Nearest.{IsFound, IsLast, found_or_none, found_where, last_from, not_true}

-- ---- Bools

and_false : (b : Bool) → (b && false) ≡ false
and_false true = refl
and_false false = refl

left_of : (a b : Bool) → (a && b) ≡ true → a ≡ true
left_of true b h = refl
left_of false b h = h

right_of : (a b : Bool) → (a && b) ≡ true → b ≡ true
right_of true b h = h
right_of false b h = absurd (true≢false (sym h))

negated : (b : Bool) → not b ≡ true → b ≡ false
negated true h = absurd (true≢false (sym h))
negated false h = refl

both : (a b : Bool) → a ≡ true → b ≡ true → (a && b) ≡ true
both a b h g = ap₂ (λ x y. x && y) h g

-- ---- super types

same_class : (c d : ClassId) → c.0 ≡ d.0 → c ≡ d
same_class c d same = λ i. record { 0 = same i }

is_itself : (c : ClassId) → is_class c c ≡ true
is_itself c = eq-eqb c.0 c.0 refl

equal_of : (c d : ClassId) → is_class c d ≡ true → c ≡ d
equal_of c d same = same_class c d (eqb-true c.0 d.0 same)

proof_of : (p : Program) → IsHierarchy p → (c d : ClassId) → is_under p c d ≡ true → IsUnder p c d
proof_of p hierarchy c d held = (is_under_along p c d (is_under p c d) refl hierarchy).0 held

test_of : (p : Program) → IsHierarchy p → (c d : ClassId) → IsUnder p c d → is_under p c d ≡ true
test_of p hierarchy c d under = (is_under_along p c d (is_under p c d) refl hierarchy).1 under

onward : (p : Program) (c d e : ClassId) → IsUnder p c d → IsUnder p d e → IsUnder p c e
onward p c d e (itself x) more = more
onward p c d e (above x y z direct rest) more = above x y e direct (onward p y z e rest more)

same_both : (p : Program) → IsHierarchy p → (c d : ClassId) → IsUnder p c d → IsUnder p d c → c ≡ d
same_both p hierarchy c d (itself x) back = refl
same_both p hierarchy c d (above x y z direct rest) back = absurd ((hierarchy.supers x direct.0 direct.1).acyclic y direct (onward p y z x rest back))

-- a class is other than those above one above it
apart : (p : Program) → IsHierarchy p → (x y z : ClassId) → IsUnder p x y → IsUnder p y z → is_class x y ≡ false → is_class x z ≡ false
apart p hierarchy x y z under more other = not_true (is_class x z) (λ same.
    let back : IsUnder p y x = subst (λ w. IsUnder p y w) (sym (equal_of x z same)) more in
    let one = same_both p hierarchy x y under back in
    true≢false (sym (subst (λ w. is_class x w ≡ true) one (is_itself x)) ∙ other))

some_at : {X : Type 0} (xs : List X) (n : ℕ) → n < length xs → (x : X) × (slice_get xs n ≡ Some x)
some_at [] n below = absurd (omega arith)
some_at (x ∷ xs) zero below = (x, refl)
some_at (x ∷ xs) (suc n) below = some_at xs n (omega arith)

known_above : (p : Program) → IsHierarchy p → (c d : ClassId) (k : Class) → class_at p c ≡ Some k → IsUnder p c d → (j : Class) × (class_at p d ≡ Some j)
known_above p hierarchy c d k at (itself x) = (k, at)
known_above p hierarchy c d k at (above x y z direct rest) =
    let j = some_at p.classes.items y.0 ((hierarchy.supers x k at).known y direct) in
    known_above p hierarchy y z j.0 j.1 rest

-- ---- all classes are under `Object`

abbrev is_strict : Program → ClassId → ClassId → Bool
is_strict p c d = is_under p c d && not (is_class c d)

never_strict : (p : Program) (c : ClassId) → is_strict p c c ≡ false
never_strict p c = ap (λ b. is_under p c c && not b) (is_itself c) ∙ and_false (is_under p c c)

strict_onward : (p : Program) → IsHierarchy p → (x y z : ClassId) → is_strict p x y ≡ true → is_strict p y z ≡ true → is_strict p x z ≡ true
strict_onward p hierarchy x y z first second =
    let xy = proof_of p hierarchy x y (left_of (is_under p x y) (not (is_class x y)) first) in
    let yz = proof_of p hierarchy y z (left_of (is_under p y z) (not (is_class y z)) second) in
    let other = apart p hierarchy x y z xy yz (negated (is_class x y) (right_of (is_under p x y) (not (is_class x y)) first)) in
    both (is_under p x z) (not (is_class x z)) (test_of p hierarchy x z (onward p x y z xy yz)) (ap not other)

-- a class without a super type is `Object`
top_is_object : (p : Program) → IsTypedProgram p → (m : ClassId) (j : Class) → class_at p m ≡ Some j → ((e : ClassId) → IsDirectSuper p m e → ⊥) → is_class m p.core.object ≡ true
top_is_object p valid m j at none_above = by j.sup j.interface (is_class m p.core.object) refl refl (valid.classes m j at).super_class
  where
    extended : (e : ClassId) → j.sup ≡ Some e → IsDirectSuper p m e
    extended e is = (j, at, Contains-append_left (optional j.sup ++ j.faces.items) (implied_super p j.interface) e (Contains-append_left (optional j.sup) j.faces.items e (subst (λ o. Contains (optional o) e) (sym is) (0, omega arith, refl))))

    implied : j.interface ≡ true → IsDirectSuper p m p.core.object
    implied kind = (j, at, Contains-append_right (optional j.sup ++ j.faces.items) (implied_super p j.interface) p.core.object (subst (λ b. Contains (implied_super p b) p.core.object) (sym kind) (0, omega arith, refl)))

    by : (o : Option ClassId) (i s : Bool) → j.sup ≡ o → j.interface ≡ i → is_some o ≡ not (i || s) → s ≡ true
    by (Some e) i s is kind sup = absurd (none_above e (extended e is))
    by None true s is kind sup = absurd (none_above p.core.object (implied kind))
    by None false true is kind sup = refl
    by None false false is kind sup = absurd (true≢false (sym sup))

under_object : (p : Program) → IsTypedProgram p → (c : ClassId) (k : Class) → class_at p c ≡ Some k → IsUnder p c p.core.object
under_object p valid c k at =
    let h = valid.hierarchy in
    let l : IsLast (is_strict p) k.above.items c = last_from (is_strict p) (never_strict p) (strict_onward p h) k.above.items c in
    let below : IsUnder p c l.last = elim l.from [ inl same ↦ subst (λ w. IsUnder p c w) (sym same) (itself c) | inr far ↦ proof_of p h c l.last (left_of (is_under p c l.last) (not (is_class c l.last)) far) ] in
    let j = known_above p h c l.last k at below in
    let none_above : (e : ClassId) → IsDirectSuper p l.last e → ⊥ = λ e direct.
    let up : IsUnder p l.last e = above l.last e e direct (itself e) in
    let here = ((h.supers c k at).above.exact e).1 (onward p c l.last e below up) in
    let other = not_true (is_class l.last e) (λ same. (h.supers l.last j.0 j.1).acyclic e direct (subst (λ w. IsUnder p e w) (sym (equal_of l.last e same)) (itself e))) in
    true≢false (sym (list_any-from_Any (λ d. is_strict p l.last d) k.above.items (here.0, e, here.1, here.2, both (is_under p l.last e) (not (is_class l.last e)) (test_of p h l.last e up) (ap not other))) ∙ l.none) in
    subst (λ w. IsUnder p c w) (equal_of l.last p.core.object (top_is_object p valid l.last j.0 j.1 none_above)) below

-- what is above a class that is under `Object` is so too
object_above : (p : Program) → IsTypedProgram p → (a c : ClassId) → is_under p a p.core.object ≡ true → is_under p a c ≡ true → is_under p c p.core.object ≡ true
object_above p valid a c held up = by (class_at p a) refl
  where
    by : (o : Option Class) → class_at p a ≡ o → is_under p c p.core.object ≡ true
    by None is = subst (λ w. is_under p w p.core.object ≡ true) (unknown_is_itself p a c (sym is) (proof_of p valid.hierarchy a c up)) held
    by (Some k) is =
        let j = known_above p valid.hierarchy a c k is (proof_of p valid.hierarchy a c up) in
        test_of p valid.hierarchy c p.core.object (under_object p valid c j.0 j.1)

-- ---- the least upper bound

never_nearer : (p : Program) (a b c : ClassId) → is_nearer p a b c c ≡ false
never_nearer p a b c = ap (λ e. is_shared p a b c && is_under p c c && not e) (is_itself c) ∙ and_false (is_shared p a b c && is_under p c c)

shared_of : (p : Program) (a b c d : ClassId) → is_nearer p a b c d ≡ true → is_shared p a b d ≡ true
shared_of p a b c d h = left_of (is_shared p a b d) (is_under p d c) (left_of (is_shared p a b d && is_under p d c) (not (is_class d c)) h)

under_of : (p : Program) → IsHierarchy p → (a b c d : ClassId) → is_nearer p a b c d ≡ true → IsUnder p d c
under_of p hierarchy a b c d h = proof_of p hierarchy d c (right_of (is_shared p a b d) (is_under p d c) (left_of (is_shared p a b d && is_under p d c) (not (is_class d c)) h))

nearer_onward : (p : Program) → IsHierarchy p → (a b x y z : ClassId) → is_nearer p a b x y ≡ true → is_nearer p a b y z ≡ true → is_nearer p a b x z ≡ true
nearer_onward p hierarchy a b x y z first second =
    let yx = under_of p hierarchy a b x y first in
    let zy = under_of p hierarchy a b y z second in
    let other = apart p hierarchy z y x zy yx (negated (is_class z y) (right_of (is_shared p a b z && is_under p z y) (not (is_class z y)) second)) in
    both (is_shared p a b z && is_under p z x) (not (is_class z x)) (both (is_shared p a b z) (is_under p z x) (shared_of p a b y z second) (test_of p hierarchy z x (onward p z y x zy yx))) (ap not other)

-- the class that stands for the least upper bound is above the first
pub record HasLeast (p : Program) (a b : ClassId) : Type 0 where
  pub least : ClassId
  pub is : least_class p a b ≡ Some least
  pub over : is_under p a least ≡ true

over_of : (p : Program) (a b c : ClassId) (more : Bool) → (is_shared p a b c && more) ≡ true → is_under p a c ≡ true
over_of p a b c more h = left_of (is_under p a c) (is_under p b c) (left_of (is_shared p a b c) more h)

pub has_least : (p : Program) → IsTypedProgram p → (a b : ClassId) → is_under p a p.core.object ≡ true → is_under p b p.core.object ≡ true → HasLeast p a b
has_least p valid a b ha hb =
    let xs = classes_above a (class_at p a) in
    let l : IsLast (is_nearer p a b) xs p.core.object = last_from (is_nearer p a b) (never_nearer p a b) (nearer_onward p valid.hierarchy a b) xs p.core.object in
    let shared : is_shared p a b l.last ≡ true = elim l.from [ inl same ↦ subst (λ w. is_shared p a b w ≡ true) (sym same) (both (is_under p a p.core.object) (is_under p b p.core.object) ha hb) | inr far ↦ shared_of p a b p.core.object l.last far ] in
    let minimal : is_minimal p a b xs l.last ≡ true = both (is_shared p a b l.last) (not (list_any (λ d. is_nearer p a b l.last d) xs)) shared (ap not l.none) in
    let any : IsFound (λ c. is_minimal p a b xs c) xs = found_where (λ c. is_minimal p a b xs c) (λ z. is_class z l.last) (λ z same. subst (λ w. is_minimal p a b xs w ≡ true) (sym (equal_of z l.last same)) minimal) xs (left_of (is_under p a l.last) (is_under p b l.last) shared) in
    elim (found_or_none (λ c. is_minimal_class p a b xs c) xs) [
      | inl f ↦ record { least = f.found; is = ap (λ o. or_else o (find (λ c. is_minimal p a b xs c) xs)) f.is; over = over_of p a b f.found (not (list_any (λ d. is_nearer p a b f.found d) xs)) (right_of (not (is_interface p f.found)) (is_minimal p a b xs f.found) f.passes) }
      | inr none ↦ record { least = any.found; is = ap (λ o. or_else o (find (λ c. is_minimal p a b xs c) xs)) none ∙ any.is; over = over_of p a b any.found (not (list_any (λ d. is_nearer p a b any.found d) xs)) any.passes }
    ]

-- ---- exceptions are under `Object`

pub exception_under_object : (p : Program) → IsTypedProgram p → (c : ClassId) → is_under p c p.core.throwable ≡ true → is_under p c p.core.object ≡ true
exception_under_object p valid c held = by (class_at p c) refl
  where
    by : (o : Option Class) → class_at p c ≡ o → is_under p c p.core.object ≡ true
    by None is =
        let one = unknown_is_itself p c p.core.throwable (sym is) (proof_of p valid.hierarchy c p.core.throwable held) in
        absurd (subst (λ o. IsSomeAnd o (λ k. k.name ≡ codes "java.lang.Throwable")) (subst (λ w. class_at p w ≡ None) one is) valid.core.throwable)
    by (Some k) is = test_of p valid.hierarchy c p.core.object (under_object p valid c k is)

pub valid_has_catch_types : (p : Program) → IsTypedProgram p → HasCatchTypes p
valid_has_catch_types p valid = record { exceptions = exception_under_object p valid; least = least }
  where
    least : (a b : ClassId) → is_under p a p.core.object ≡ true → is_under p b p.core.object ≡ true → (c : ClassId) × (least_class p a b ≡ Some c) × (is_under p c p.core.object ≡ true)
    least a b ha hb = let l = has_least p valid a b ha hb in (l.least, l.is, object_above p valid a l.least ha l.over)
