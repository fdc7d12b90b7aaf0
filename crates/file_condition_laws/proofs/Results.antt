-- What callers of an overridden method own, in the program of files, asks for calls as its type says, or owes nothing.
use Rattle.std.proofs.Common.{◌≡◌, ◌⊎◌, inl, inr, ◌∙◌, ap, refl, sym, subst, eqb-true, true≢false, ℕ, zero, suc, Bool, true, false, not, ◌&&◌, ◌||◌, Option, Some, None, IsSomeAnd, List, [], ◌∷◌, ◌++◌, Contains, slice_get}
use Rattle.std.specs.List.{flat_map, list_any}
use Rattle.rlc_base.specs.declared.code.Code.TheVariants as refused
use Rattle.rlc_base.specs.declared.faults.Refusal.{Refusal}
use Rattle.program_model.specs.declared.kinds.ClassId.{ClassId}
use Rattle.program_model.specs.declared.kinds.MethodId.{MethodId}
use Rattle.program_model.specs.declared.program.Class.{Class}
use Rattle.program_model.specs.declared.program.Method.{Method}
use Rattle.program_model.specs.declared.program.Program.{Program}
use Rattle.program_model.specs.Lookups.{class_at, method_at}
use Rattle.program_model.specs.NameSets.{is_empty}
use Rattle.program_model.specs.Overrides.{are_alike, methods_in, methods_of}
use Rattle.program_model.specs.SuperTests.{has_class, is_class}
use Rattle.must_call_sets.specs.MustCallSets.{must_of_optional}
use Rattle.class_members.proofs.Elements.{contains-cases, contains-first, contains-later, contains-none}
use Rattle.agreement.specs.Conditions.{KeepsObligations}
use Rattle.acceptance_laws.specs.Programs.{Input, IsProgram}
use Rattle.acceptance_laws.specs.ResultCases.{all_owe_nothing, are_lost_beside, declares_losing, gives_obligation, has_lost_result, is_lost_beside, may_lose, result_cases_in}
use Rattle.file_condition_laws.proofs.Read.{neither, not_refused}

none_any : {X : Type 0} (test : X → Bool) (xs : List X) → list_any test xs ≡ false → (x : X) → Contains xs x → test x ≡ false
none_any test [] none x among = absurd (contains-none x among)
none_any test (y ∷ ys) none x among =
    let parts = neither (test y) (list_any test ys) none in
    elim (contains-cases y ys x among) [ inl one ↦ ap test (sym one) ∙ parts.0 | inr later ↦ none_any test ys parts.1 x later ]

class_listed : (cs : List ClassId) (d : ClassId) → has_class cs d ≡ true → Contains cs d
class_listed [] d is = absurd (true≢false (sym is))
class_listed (e ∷ es) d is = by (is_class e d) refl is (class_listed es d)
  where
    by : (b : Bool) → is_class e d ≡ b → (b || has_class es d) ≡ true → (has_class es d ≡ true → Contains es d) → Contains (e ∷ es) d
    by true same found later = subst (Contains (e ∷ es)) (let number : e.0 ≡ d.0 = eqb-true e.0 d.0 same in λ i. record { 0 = number i }) (contains-first e es)
    by false other found later = contains-later e es d (later found)

-- the class of a method lists it
declared_there : (o : Option Class) (m : MethodId) → IsSomeAnd o (λ k. Contains k.methods.items m) → Contains (methods_in o) m
declared_there None m has = absurd has
declared_there (Some k) m has = has

either : (a b : Bool) → (a && not b) ≡ false → (a ≡ true) → b ≡ true
either true true none is = refl
either true false none is = absurd (true≢false none)
either false b none is = absurd (true≢false (sym is))

left_empty : (xs ys : List Refusal) → xs ++ ys ≡ [] → xs ≡ []
left_empty [] ys none = refl
left_empty (x ∷ xs) ys none = absurd (let never : ◌≡◌ {A = List Refusal} (x ∷ xs ++ ys) [] = none in cc)

right_empty : (xs ys : List Refusal) → xs ++ ys ≡ [] → ys ≡ []
right_empty [] ys none = none
right_empty (x ∷ xs) ys none = absurd (let never : ◌≡◌ {A = List Refusal} (x ∷ xs ++ ys) [] = none in cc)

pub gathered_none : {X : Type 0} (f : X → List Refusal) (xs : List X) → flat_map f xs ≡ [] → (x : X) → Contains xs x → f x ≡ []
gathered_none f [] none x among = absurd (contains-none x among)
gathered_none f (y ∷ ys) none x among =
    elim (contains-cases y ys x among) [ inl one ↦ ap f (sym one) ∙ left_empty (f y) (flat_map f ys) none | inr later ↦ gathered_none f ys (right_empty (f y) (flat_map f ys) none) x later ]

pub element : {X : Type 0} (xs : List X) (i : ℕ) (x : X) → slice_get xs i ≡ Some x → Contains xs x
element [] zero x at = absurd (let never : None ≡ Some x = at in cc)
element [] (suc i) x at = absurd (let never : None ≡ Some x = at in cc)
element (y ∷ ys) zero x at = subst (Contains (y ∷ ys)) (let both : Some y ≡ Some x = at in (let one : y ≡ x = cc in one)) (contains-first y ys)
element (y ∷ ys) (suc i) x at = contains-later y ys x (element ys i x at)

-- callers of an overridden method own what something must be called on, or what owes nothing
pub read_results : (input : Input) (p : Program) → IsProgram input p → KeepsObligations p
read_results input p is c k m r n x at_c named other at_n at_x alike kind owning light =
    by (is_empty (must_of_optional p n.sig.result)) refl
  where
    declares : (i : MethodId) (y : Method) → method_at p i ≡ Some y → Contains (methods_of p y.class) i
    declares i y at = declared_there (class_at p y.class) i (is.well_formed.valid.typed.methods i y at).listed

    nothing : has_lost_result p k ≡ false
    nothing = not_refused (has_lost_result p k) refused.BadOwningOverride k.pos (gathered_none (result_cases_in p) p.classes.items is.right.results k (element p.classes.items c.0 k at_c))

    beside : is_lost_beside p k (Some n) ≡ false
    beside =
        ap (is_lost_beside p k) (sym at_n)
        ∙ none_any (λ i. is_lost_beside p k (method_at p i)) (methods_of p n.class) (none_any (are_lost_beside p k) k.above.items nothing n.class (class_listed k.above.items n.class named)) m (declares m n at_n)

    by : (b : Bool) → is_empty (must_of_optional p n.sig.result) ≡ b → (b ≡ true) ⊎ (all_owe_nothing p x.sig.result ≡ true)
    by true empty = inl refl
    by false heavy =
        let gives : gives_obligation p n ≡ true = rw (kind, owning, heavy) refl in
        let declared : list_any (declares_losing p n) k.above.items ≡ false = sym (ap (λ b. b && list_any (declares_losing p n) k.above.items) gives) ∙ beside in
        let losing : may_lose p n (Some x) ≡ false =
        ap (may_lose p n) (sym at_x)
        ∙ none_any (λ i. may_lose p n (method_at p i)) (methods_of p x.class) (none_any (declares_losing p n) k.above.items declared x.class (class_listed k.above.items x.class other)) r (declares r x at_x) in
        inr (either (are_alike x n && is_empty (must_of_optional p x.sig.result)) (all_owe_nothing p x.sig.result) losing (rw (alike, light) refl))
