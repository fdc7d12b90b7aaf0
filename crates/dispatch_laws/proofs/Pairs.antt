-- Which pairs of methods stand among the overridings of a program.
use Rattle.std.proofs.Common.{◌≡◌, ◌∙◌, inl, inr, ap, refl, sym, subst, arith, ℕ, ◌+◌, ◌<◌, Bool, true, false, not, Option, Some, None, List, [], ◌∷◌, Contains, length, map}
use Rattle.std.specs.Prelude.{if◌then◌else◌}
use Rattle.std.specs.List.{filter, range_with_len}
use Rattle.std.proofs.lemmas.Bool.{and_from, not_from_false}
use Rattle.std.proofs.lemmas.List.Elements.{Contains-append_cases, Contains-append_left, Contains-append_right}
use Rattle.std.proofs.lemmas.Option.{slice_get_within}
use Rattle.rlc_base.specs.declared.place.Pos.{Pos}
use Rattle.program_model.specs.declared.kinds.ClassId.{ClassId}
use Rattle.program_model.specs.declared.kinds.MethodId.{MethodId}
use Rattle.program_model.specs.declared.program.Class.{Class}
use Rattle.program_model.specs.declared.program.Method.{Method}
use Rattle.program_model.specs.declared.program.Program.{Program}
use Rattle.program_model.specs.Hierarchy.{IsHierarchy, IsUnder}
use Rattle.program_model.specs.Lookups.{class_at, method_at}
use Rattle.program_model.specs.Overrides.{Overriding, are_alike, declared_overrides, is_abstract, is_alike, is_joined, joined_override, joined_overrides, method_run, methods_above, methods_of, override_at, overrides_in, overrides_of, pos_in, run_method}
use Rattle.program_model.specs.SuperTests.{classes_above, is_class, is_under}
use Rattle.program_model.specs.Validity.{IsTypedProgram}
use Rattle.program_model.proofs.HierarchyLaws.{is_under_law}
use Rattle.agreement.proofs.Elements.{contains-cases, contains-first, contains-none, contains-one, filter-among, filter-has, gathered-among, gathered-has}
use Rattle.annotation_rules.specs.Overridings.{class_ids, overridings}
use Rattle.dispatch_laws.specs.Dispatch.{IsOverriding}
use Rattle.agreement.proofs.Alike.{alike_at, alike_known, alike_there}
use Rattle.dispatch_laws.proofs.Lists.{in_range, mapped}
use Rattle.dispatch_laws.proofs.OverridingRuns.{declared_there, listed_class, runs_from}

-- ---- pairs that stand there

class_known : (p : Program) (d : ClassId) (k : Class) → class_at p d ≡ Some k → Contains (class_ids p) d
class_known p d k at =
    let below : d.0 < length p.classes.items = slice_get_within p.classes.items d.0 k at in
    let number : 0 + d.0 ≡ d.0 = omega arith in
    let to_class : ℕ → ClassId = λ n. record { 0 = n } in
    let there : Contains (range_with_len 0 (length p.classes.items)) d.0 = subst (Contains (range_with_len 0 (length p.classes.items))) number (in_range 0 (length p.classes.items) d.0 below) in
    mapped to_class (range_with_len 0 (length p.classes.items)) d.0 there

-- what a class does with a method that is declared above it
pair_there : (p : Program) (d : ClassId) (j : Class) (k : MethodId) (n : Method) (o : Overriding) → class_at p d ≡ Some j → Contains (methods_above p d) k → method_at p k ≡ Some n → Contains (overrides_of p d (Some n)) o → Contains (overridings p) o
pair_there p d j k n o known above at here =
    let of_method : Contains (overrides_of p d (method_at p k)) o = subst (λ (z : Option Method). Contains (overrides_of p d z) o) (sym at) here in
    let of_class : Contains (overrides_in p d) o = gathered-has (λ m. overrides_of p d (method_at p m)) (methods_above p d) k o above of_method in
    gathered-has (overrides_in p) (class_ids p) d o (class_known p d j known) of_class

pub method_above : (p : Program) → IsTypedProgram p → (d : ClassId) (k : MethodId) (n : Method) → method_at p k ≡ Some n → IsUnder p d n.class → is_class n.class d ≡ false → Contains (methods_above p d) k
method_above p typed d k n at under other =
    let above : List ClassId = classes_above d (class_at p d) in
    let listed : Contains above n.class = listed_class above n.class ((is_under_law p typed.hierarchy d n.class).1 under) in
    let kept : Contains (filter (λ e. not (is_class e d)) above) n.class = filter-has (λ e. not (is_class e d)) above n.class listed (not_from_false (is_class n.class d) other) in
    gathered-has (methods_of p) (filter (λ e. not (is_class e d)) above) n.class k kept (declared_there p typed k n at)

-- a class declares a method alike to one above it
pub declared_pair : (p : Program) → IsTypedProgram p → (d : ClassId) (j : Class) (m k : MethodId) (x n : Method) → class_at p d ≡ Some j → Contains (methods_of p d) m → method_at p m ≡ Some x → method_at p k ≡ Some n → IsUnder p d n.class → is_class n.class d ≡ false → are_alike x n ≡ true → IsOverriding p x n
declared_pair p typed d j m k x n known declared at_x at_n under other alike =
    let o : Overriding = record { by = x; overridden = n; pos = x.pos } in
    let kept : Contains (filter (is_alike p n) (methods_of p d)) m = filter-has (is_alike p n) (methods_of p d) m declared (alike_at p n x m at_x alike) in
    let at_m : Contains (override_at n (method_at p m)) o = subst (λ (z : Option Method). Contains (override_at n z) o) (sym at_x) (contains-first o []) in
    let here : Contains (declared_overrides p d n) o = gathered-has (λ m. override_at n (method_at p m)) (filter (is_alike p n) (methods_of p d)) m o kept at_m in
    let both : Contains (overrides_of p d (Some n)) o = Contains-append_left (declared_overrides p d n) (joined_overrides p d n) o here in
    (o, pair_there p d j k n o known (method_above p typed d k n at_n under other) at_n both, refl, refl)

joined_here : (p : Program) (c : ClassId) (n x : Method) (r : MethodId) (j : Class) (o : Overriding) → (b : Bool) → b ≡ false → method_run p n c ≡ Some r → method_at p r ≡ Some x → class_at p c ≡ Some j → is_joined p c x n ≡ true
    → o ≡ record { by = x; overridden = n; pos = j.pos } → Contains (if b then [] else joined_override p c n (run_method p (method_run p n c))) o
joined_here p c n x r j o true abstract run at known joined is = absurd (let never : true ≡ false = abstract in cc)
joined_here p c n x r j o false abstract run at known joined is =
    let pair : Pos → Overriding = λ pos. record { by = x; overridden = n; pos = pos } in
    let what : run_method p (method_run p n c) ≡ Some x = ap (run_method p) run ∙ at in
    let one : Contains (map pair (j.pos ∷ [])) o = subst (Contains (map pair (j.pos ∷ []))) (sym is) (contains-first (pair j.pos) []) in
    let placed : Contains (map pair (pos_in (class_at p c))) o = subst (λ (z : Option Class). Contains (map pair (pos_in z)) o) (sym known) one in
    let tested : Contains (if is_joined p c x n then map pair (pos_in (class_at p c)) else []) o = subst (λ (z : Bool). Contains (if z then map pair (pos_in (class_at p c)) else []) o) (sym joined) placed in
    subst (λ (z : Option Method). Contains (joined_override p c n z) o) (sym what) tested

-- a class that is not abstract runs a method of a class beside that of the named one
pub joined_pair : (p : Program) → IsTypedProgram p → (c : ClassId) (j : Class) (r k : MethodId) (x n : Method) → class_at p c ≡ Some j → is_abstract p c ≡ false → method_run p n c ≡ Some r → method_at p r ≡ Some x → method_at p k ≡ Some n
    → IsUnder p c n.class → is_class n.class c ≡ false → is_class x.class c ≡ false → is_under p x.class n.class ≡ false → IsOverriding p x n
joined_pair p typed c j r k x n known concrete run at_x at_n under other_n other_x beside =
    let o : Overriding = record { by = x; overridden = n; pos = j.pos } in
    let joined : is_joined p c x n ≡ true = and_from (not (is_class x.class c)) (not (is_under p x.class n.class)) (not_from_false (is_class x.class c) other_x) (not_from_false (is_under p x.class n.class) beside) in
    let here : Contains (joined_overrides p c n) o = joined_here p c n x r j o (is_abstract p c) concrete run at_x known joined refl in
    let both : Contains (overrides_of p c (Some n)) o = Contains-append_right (declared_overrides p c n) (joined_overrides p c n) o here in
    (o, pair_there p c j k n o known (method_above p typed c k n at_n under other_n) at_n both, refl, refl)

-- ---- the methods of such a pair are alike

AreAlike : Overriding → Type 0
AreAlike o = are_alike o.by o.overridden ≡ true

declared_alike : (p : Program) (c : ClassId) (n : Method) (o : Overriding) → Contains (declared_overrides p c n) o → AreAlike o
unfolding AreAlike
declared_alike p c n o h =
    let from = gathered-among (λ m. override_at n (method_at p m)) (filter (is_alike p n) (methods_of p c)) o h in
    let kept = filter-among (is_alike p n) (methods_of p c) from.0 from.1 in
    let there = alike_there p n from.0 kept.1 in
    let pair : Overriding = record { by = there.0; overridden = n; pos = there.0.pos } in
    let one : Contains (pair ∷ []) o = subst (λ (z : Option Method). Contains (override_at n z) o) there.1 from.2 in
    let same : pair ≡ o = contains-one pair o one in
    let P : Overriding → Type 0 = λ z. are_alike z.by z.overridden ≡ true in
    subst P same there.2

placed_alike : (x n : Method) (places : List Pos) (o : Overriding) → are_alike x n ≡ true → (let pair : Pos → Overriding = λ pos. record { by = x; overridden = n; pos = pos } in Contains (map pair places) o) → AreAlike o
unfolding AreAlike
placed_alike x n [] o alike h = absurd (contains-none o h)
placed_alike x n (pos ∷ places) o alike h =
    let pair : Pos → Overriding = λ pos. record { by = x; overridden = n; pos = pos } in
    let P : Overriding → Type 0 = λ z. are_alike z.by z.overridden ≡ true in
    elim (contains-cases (pair pos) (map pair places) o h) [ inl same ↦ subst P same alike | inr more ↦ placed_alike x n places o alike more ]

tested_alike : (p : Program) (c : ClassId) (x n : Method) (b : Bool) (o : Overriding) → are_alike x n ≡ true
    → (let pair : Pos → Overriding = λ pos. record { by = x; overridden = n; pos = pos } in Contains (if b then map pair (pos_in (class_at p c)) else []) o) → AreAlike o
tested_alike p c x n true o alike h = placed_alike x n (pos_in (class_at p c)) o alike h
tested_alike p c x n false o alike h = absurd (contains-none o h)

found_alike : (p : Program) (c : ClassId) (n : Method) (r : MethodId) (m : Option Method) (o : Overriding) → method_at p r ≡ m → is_alike p n r ≡ true → Contains (joined_override p c n m) o → AreAlike o
found_alike p c n r None o at alike h = absurd (contains-none o h)
found_alike p c n r (Some x) o at alike h = tested_alike p c x n (is_joined p c x n) o (alike_known p n x r alike at) h

run_alike : (p : Program) → IsHierarchy p → (c : ClassId) (n : Method) (run : Option MethodId) (o : Overriding) → method_run p n c ≡ run → Contains (joined_override p c n (run_method p run)) o → AreAlike o
run_alike p hierarchy c n None o is h = absurd (contains-none o h)
run_alike p hierarchy c n (Some r) o is h = found_alike p c n r (method_at p r) o refl (runs_from p hierarchy n c r is).alike h

joined_alike : (p : Program) → IsHierarchy p → (c : ClassId) (n : Method) (b : Bool) (o : Overriding) → Contains (if b then [] else joined_override p c n (run_method p (method_run p n c))) o → AreAlike o
joined_alike p hierarchy c n true o h = absurd (contains-none o h)
joined_alike p hierarchy c n false o h = run_alike p hierarchy c n (method_run p n c) o refl h

method_alike : (p : Program) → IsHierarchy p → (c : ClassId) (m : Option Method) (o : Overriding) → Contains (overrides_of p c m) o → AreAlike o
method_alike p hierarchy c None o h = absurd (contains-none o h)
method_alike p hierarchy c (Some n) o h =
    elim (Contains-append_cases (declared_overrides p c n) (joined_overrides p c n) o h) [
      | inl declared ↦ declared_alike p c n o declared
      | inr joined ↦ joined_alike p hierarchy c n (is_abstract p c) o joined
    ]

pub pair_alike : (p : Program) → IsHierarchy p → (c : ClassId) (o : Overriding) → Contains (overrides_in p c) o → are_alike o.by o.overridden ≡ true
unfolding AreAlike
pair_alike p hierarchy c o h =
    let from = gathered-among (λ m. overrides_of p c (method_at p m)) (methods_above p c) o h in
    method_alike p hierarchy c (method_at p from.0) o from.2
