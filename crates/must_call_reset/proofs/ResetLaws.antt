-- The least of the refusals of resets, and tests of all classes in turn.
use Rattle.std.proofs.Common.{◌≡◌, ℕ, suc, ◌+◌, ◌-◌, ◌<◌, ◌≤◌, Bool, true, false, ◌||◌, Option, List, map, sym, ap, ◌∙◌, arith}
use Rattle.std.specs.List.{flat_map, list_any, range_with_len}
use Rattle.rlc_base.specs.declared.faults.Refusal.{Refusal}
use Rattle.program_model.specs.declared.kinds.ClassId.{ClassId}
use Rattle.program_model.specs.declared.program.Method.{Method}
use Rattle.program_model.specs.declared.program.Program.{Program}
use Rattle.must_call_sets.specs.Overridings.{overridings}
use Rattle.must_call_sets.specs.ResetCases.{reset_cases, reset_cases_of_method, reset_cases_of_override}
use Rattle.refusal_order.specs.Refusals.{least, least_of_all, lesser_of}
use Rattle.refusal_order.proofs.LeastLaws.{least-append, least-flat_map}

-- what the join of cases needs
pub ruleset case_laws = (least-append)

abbrev pub class_of : ℕ → ClassId
class_of k = record { 0 = k }

-- some class from number i on, and below e, passes the test
abbrev pub any_class : (ClassId → Bool) → ℕ → ℕ → Bool
any_class t i e = list_any t (map class_of (range_with_len i (e - i)))

one_more : (t : ClassId → Bool) (i e : ℕ) → i < e → any_class t i e ≡ (t (class_of i) || any_class t (i + 1) e)
one_more t i e below = let one : e - i ≡ suc (e - (i + 1)) = omega arith in ap (λ n. list_any t (map class_of (range_with_len i n))) one

pub any_next : (t : ClassId → Bool) (i e : ℕ) → i < e → t (class_of i) ≡ false → any_class t (i + 1) e ≡ any_class t i e
any_next t i e below fails = sym (one_more t i e below ∙ ap (λ b. b || any_class t (i + 1) e) fails)

pub any_found : (t : ClassId → Bool) (i e : ℕ) → i < e → t (class_of i) ≡ true → any_class t i e ≡ true
any_found t i e below passes = one_more t i e below ∙ ap (λ b. b || any_class t (i + 1) e) passes

pub any_past : (t : ClassId → Bool) (i e : ℕ) → e ≤ i → any_class t i e ≡ false
any_past t i e past = let none : e - i ≡ 0 = omega arith in ap (λ n. list_any t (map class_of (range_with_len i n))) none

pub ruleset any_laws = (any_next, any_found, any_past)

abbrev pub case_of_method : Program → Method → Option Refusal
case_of_method p m = least (reset_cases_of_method p m)

-- the least of all cases, from that of the methods by themselves and that of the overridings
pub all_resets : (p : Program) → lesser_of (least_of_all (case_of_method p) p.methods.items) (least (flat_map reset_cases_of_override (overridings p))) ≡ least (reset_cases p)
all_resets p =
    let overriding : List Refusal = flat_map reset_cases_of_override (overridings p) in
    sym (least-append (flat_map (reset_cases_of_method p) p.methods.items) overriding
    ∙ ap (λ x. lesser_of x (least overriding)) (least-flat_map (reset_cases_of_method p) p.methods.items))
