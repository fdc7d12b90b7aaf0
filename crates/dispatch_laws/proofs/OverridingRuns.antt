-- Where the method that an object of a class runs is declared.
use Rattle.std.proofs.Common.{◌≡◌, ◌∙◌, ◌⊎◌, inl, inr, ap, refl, sym, subst, eq-eqb, eqb-true, true≢false, arith, ℕ, zero, suc, ◌<◌, Bool, true, false, ◌||◌, not, Option, Some, None, List, [], ◌∷◌, ◌++◌, Contains, length}
use Rattle.std.specs.Prelude.{unwrap_or, if◌then◌else◌}
use Rattle.std.specs.List.{filter, find, flat_map, list_all}
use Rattle.std.specs.Option.{IsSomeAnd}
use Rattle.std.proofs.lemmas.Bool.{or_cases, or_left, or_parts, or_right, not-false}
use Rattle.std.proofs.lemmas.List.Elements.{All-contains, Contains-append_left}
use Rattle.std.proofs.lemmas.Option.{slice_get_within}
use Rattle.program_model.specs.declared.kinds.ClassId.{ClassId}
use Rattle.program_model.specs.declared.kinds.MethodId.{MethodId}
use Rattle.program_model.specs.declared.program.Class.{Class}
use Rattle.program_model.specs.declared.program.Method.{Method}
use Rattle.program_model.specs.declared.program.Program.{Program}
use Rattle.program_model.specs.Hierarchy.{IsDirectSuper, IsHierarchy, IsUnder, above, implied_super, itself}
use Rattle.program_model.specs.Lookups.{class_at, method_at, optional}
use Rattle.program_model.specs.Overrides.{carried_methods, chain_behind, chain_of, has_code, inherited_methods, is_alike, is_carried, is_no_higher, method_run, methods_in, methods_of, most_specific, run_of, super_classes, super_in}
use Rattle.program_model.specs.SuperTests.{classes_above, has_class, is_class, is_under}
use Rattle.program_model.specs.Validity.{IsMethodOf, IsTypedProgram}
use Rattle.program_model.proofs.HierarchyLaws.{is_under_law}
use Rattle.program_model.proofs.Supers.{unknown_is_itself}
use Rattle.agreement.proofs.Elements.{contains-cases, contains-first, contains-later, contains-none, filter-among, find-none, gathered-among}
use Rattle.agreement.proofs.Walks.{run_found, runs_found}
use Rattle.agreement.specs.LedgerCallsCalls.{overriding}
use Rattle.dispatch_laws.proofs.Lists.{first_of, found_first, none_is_some, some_is}

-- ---- classes

pub same_class : (c d : ClassId) → is_class c d ≡ true → c ≡ d
same_class c d h = let same : c.0 ≡ d.0 = eqb-true c.0 d.0 h in λ i. record { 0 = same i }

pub class_listed : (cs : List ClassId) (d : ClassId) → Contains cs d → has_class cs d ≡ true
class_listed [] d c = absurd (contains-none d c)
class_listed (e ∷ es) d c =
    elim (contains-cases e es d c) [
      | inl same ↦ or_left (is_class e d) (has_class es d) (ap (λ (z : ClassId). is_class z d) same ∙ eq-eqb d.0 d.0 refl)
      | inr more ↦ or_right (is_class e d) (has_class es d) (class_listed es d more)
    ]

pub listed_class : (cs : List ClassId) (d : ClassId) → has_class cs d ≡ true → Contains cs d
listed_class [] d h = absurd (true≢false (sym h))
listed_class (e ∷ es) d h =
    elim (or_cases (is_class e d) (has_class es d) h) [
      | inl same ↦ subst (Contains (e ∷ es)) (same_class e d same) (contains-first e es)
      | inr more ↦ contains-later e es d (listed_class es d more)
    ]

pub above_under : (p : Program) → IsHierarchy p → (c d : ClassId) → Contains (classes_above c (class_at p c)) d → IsUnder p c d
above_under p h c d listed = (is_under_law p h c d).0 (class_listed (classes_above c (class_at p c)) d listed)

sup_is_direct : (p : Program) (c e : ClassId) (k : Class) → class_at p c ≡ Some k → k.sup ≡ Some e → IsDirectSuper p c e
sup_is_direct p c e k at is =
    let first : Contains (optional k.sup) e = subst (λ (o : Option ClassId). Contains (optional o) e) (sym is) (contains-first e []) in
    (k, at, Contains-append_left (optional k.sup ++ k.faces.items) (implied_super p k.interface) e (Contains-append_left (optional k.sup) k.faces.items e first))

super_is_direct : (p : Program) (c e : ClassId) (o : Option Class) → class_at p c ≡ o → super_in o ≡ Some e → IsDirectSuper p c e
super_is_direct p c e None at h = absurd (none_is_some e h)
super_is_direct p c e (Some k) at h = sup_is_direct p c e k at h

behind_under : (p : Program) (c d : ClassId) (n : ℕ) (o : Option ClassId) → super_in (class_at p c) ≡ o → ((e : ClassId) → Contains (chain_of p n e) d → IsUnder p e d) → Contains (chain_behind o (chain_of p n)) d → IsUnder p c d
behind_under p c d n None is more h = absurd (contains-none d h)
behind_under p c d n (Some e) is more h = above c e d (super_is_direct p c e (class_at p c) refl is) (more e h)

chain_under : (p : Program) (n : ℕ) (c d : ClassId) → Contains (chain_of p n c) d → IsUnder p c d
chain_under p zero c d h = absurd (contains-none d h)
chain_under p (suc n) c d h =
    elim (contains-cases c (chain_behind (super_in (class_at p c)) (chain_of p n)) d h) [
      | inl same ↦ subst (IsUnder p c) same (itself c)
      | inr more ↦ behind_under p c d n (super_in (class_at p c)) refl (λ e g. chain_under p n e d g) more
    ]

-- ---- methods of classes

in_known : (o : Option Class) (m : MethodId) → Contains (methods_in o) m → (k : Class) × (o ≡ Some k) × Contains k.methods.items m
in_known None m h = absurd (contains-none m h)
in_known (Some k) m h = (k, refl, h)

-- a class that declares a method is one of the program's
pub declaring_class : (p : Program) (d : ClassId) (m : MethodId) → Contains (methods_of p d) m → (k : Class) × (class_at p d ≡ Some k) × Contains k.methods.items m
declaring_class p d m h = in_known (class_at p d) m h

listed_in : (o : Option Class) (m : MethodId) → IsSomeAnd o (λ k. Contains k.methods.items m) → Contains (methods_in o) m
listed_in None m h = absurd h
listed_in (Some k) m h = h

pub declared_there : (p : Program) → IsTypedProgram p → (m : MethodId) (x : Method) → method_at p m ≡ Some x → Contains (methods_of p x.class) m
declared_there p typed m x at = listed_in (class_at p x.class) m (typed.methods m x at).listed

of_known : {X : Type 0} (o : Option X) (x : X) (P : X → Type 0) → o ≡ Some x → IsSomeAnd o P → P x
of_known {X} o x P e h = let Q : Option X → Type 0 = λ y. IsSomeAnd y P in subst Q e h

pub class_of_declared : (p : Program) → IsTypedProgram p → (d : ClassId) (m : MethodId) (x : Method) → Contains (methods_of p d) m → method_at p m ≡ Some x → x.class ≡ d
class_of_declared p typed d m x h at =
    let k = declaring_class p d m h in
    of_known (method_at p m) x (λ y. y.class ≡ d) at (All-contains (IsMethodOf p d) k.0.methods.items m (typed.members d k.0 k.1).methods k.2)

-- ---- what runs

pub record RunsFrom (p : Program) (n : Method) (c : ClassId) (r : MethodId) : Type 0 where
  pub declaring : ClassId
  pub above : IsUnder p c declaring
  pub declared : Contains (methods_of p declaring) r
  pub alike : is_alike p n r ≡ true

among : (p : Program) (n : Method) (cs : List ClassId) (r : MethodId) → Contains (filter (is_alike p n) (flat_map (methods_of p) cs)) r → (d : ClassId) × Contains cs d × Contains (methods_of p d) r × (is_alike p n r ≡ true)
among p n cs r h =
    let kept = filter-among (is_alike p n) (flat_map (methods_of p) cs) r h in
    let from = gathered-among (methods_of p) cs r kept.0 in
    (from.0, from.1, from.2, kept.1)

if_code : (b : Bool) (m r : MethodId) → (if b then Some m else None) ≡ Some r → m ≡ r
if_code true m r h = some_is m r h
if_code false m r h = absurd (none_is_some r h)

run_cases : (p : Program) (ms carried : List MethodId) (r : MethodId) → run_of p ms carried ≡ Some r → Contains ms r ⊎ Contains carried r
run_cases p [] carried r h = inr (filter-among (λ m. list_all (is_no_higher p m) carried) carried r (first_of (most_specific p carried) r h)).0
run_cases p (m ∷ ms) carried r h = inl (subst (Contains (m ∷ ms)) (if_code (has_code p m) m r h) (contains-first m ms))

-- it is declared by the class or one above it, and alike to the named one
pub runs_from : (p : Program) → IsHierarchy p → (n : Method) (c : ClassId) (r : MethodId) → method_run p n c ≡ Some r → RunsFrom p n c r
runs_from p h n c r run =
    let above_all : List ClassId = classes_above c (class_at p c) in
    elim (run_cases p (inherited_methods p n c) (carried_methods p n c) r run) [
      | inl own ↦ (
          let d = among p n (super_classes p c) r own in
          record { declaring = d.0; above = chain_under p (length p.classes.items) c d.0 d.1; declared = d.2; alike = d.3 }
          )
      | inr carried ↦ (
          let d = among p n (filter (is_carried p c) above_all) r carried in
          let kept = filter-among (is_carried p c) above_all d.0 d.1 in
          record { declaring = d.0; above = above_under p h c d.0 kept.0; declared = d.2; alike = d.3 }
          )
    ]

-- the class is one of the program's
pub running_class : (p : Program) (n : Method) (c : ClassId) (r : MethodId) → RunsFrom p n c r → (k : Class) × (class_at p c ≡ Some k)
running_class p n c r from = by (class_at p c) refl
  where
    by : (o : Option Class) → class_at p c ≡ o → (k : Class) × (class_at p c ≡ Some k)
    by (Some k) at = (k, at)
    by None at =
        let same : c ≡ from.declaring = unknown_is_itself p c from.declaring (sym at) from.above in
        let here : Contains (methods_of p c) r = subst (λ (z : ClassId). Contains (methods_of p z) r) (sym same) from.declared in
        absurd (contains-none r (subst (λ (o : Option Class). Contains (methods_in o) r) at here))

found_runs : (p : Program) (o : Option MethodId) (carried : List MethodId) (m r : MethodId) → o ≡ Some m → run_found p o carried ≡ Some r → m ≡ r
found_runs p o carried m r is h =
    let P : Option MethodId → Type 0 = λ z. run_found p z carried ≡ Some r in
    if_code (has_code p m) m r (subst P is h)

-- where the class itself declares a method alike to the named one, it runs a method of its own
pub own_first : (p : Program) (n : Method) (c : ClassId) (k : Class) (named r : MethodId) → class_at p c ≡ Some k → Contains (methods_of p c) named → is_alike p n named ≡ true → method_run p n c ≡ Some r → Contains (methods_of p c) r
own_first p n c k named r at has alike run = by (length p.classes.items) refl
  where
    by : (count : ℕ) → length p.classes.items ≡ count → Contains (methods_of p c) r
    by zero none =
        let below : c.0 < length p.classes.items = slice_get_within p.classes.items c.0 k at in
        absurd (omega (arith, below, none))
    by (suc j) some =
        let rest : List MethodId = flat_map (methods_of p) (chain_behind (super_in (class_at p c)) (chain_of p j)) in
        let Q : ℕ → Type 0 = λ count. run_of p (filter (is_alike p n) (flat_map (methods_of p) (chain_of p count c))) (carried_methods p n c) ≡ Some r in
        let counted : Q (suc j) = subst Q some run in
        let found : run_found p (find (is_alike p n) (methods_of p c ++ rest)) (carried_methods p n c) ≡ Some r =
        sym (runs_found p (is_alike p n) (methods_of p c ++ rest) (carried_methods p n c)) ∙ counted in
        of_search rest (find (is_alike p n) (methods_of p c ++ rest)) refl found
      where
        of_search : (rest : List MethodId) (o : Option MethodId) → find (is_alike p n) (methods_of p c ++ rest) ≡ o → run_found p (find (is_alike p n) (methods_of p c ++ rest)) (carried_methods p n c) ≡ Some r → Contains (methods_of p c) r
        of_search rest None is found = absurd (find-none (is_alike p n) (methods_of p c ++ rest) is named (Contains-append_left (methods_of p c) rest named has) alike)
        of_search rest (Some m) is found =
            let same : m ≡ r = found_runs p (find (is_alike p n) (methods_of p c ++ rest)) (carried_methods p n c) m r is found in
            subst (Contains (methods_of p c)) same (found_first (is_alike p n) (methods_of p c) rest named m has alike is)

-- ---- what runs at a call

chosen : (b : Bool) (run : Option MethodId) (named : MethodId) → ((if b then named else unwrap_or run named) ≡ named) ⊎ ((r : MethodId) × (b ≡ false) × (run ≡ Some r) × ((if b then named else unwrap_or run named) ≡ r))
chosen true run named = inl refl
chosen false None named = inl refl
chosen false (Some r) named = inr (r, refl, refl, refl)

-- the named method, or what a class under its own runs
pub dispatched : (p : Program) (named : MethodId) (n : Method) (c : ClassId) → (overriding p named n c ≡ named) ⊎ ((r : MethodId) × (is_under p c n.class ≡ true) × (method_run p n c ≡ Some r) × (overriding p named n c ≡ r))
dispatched p named n c =
    elim (chosen (n.is_private || not (is_under p c n.class)) (method_run p n c) named) [
      | inl same ↦ inl same
      | inr other ↦ inr (other.0, not-false (is_under p c n.class) (or_parts n.is_private (not (is_under p c n.class)) other.1).1, other.2, other.3)
    ]
