-- The least refusal over all overridings, from that of each part of the walk through classes and methods.
use Rattle.std.proofs.Common.{◌≡◌, ℕ, not, Option, None, List, [], ◌∷◌, ◌++◌, length, sym, ◌∙◌}
use Rattle.std.specs.Prelude.{if◌then◌else◌}
use Rattle.std.specs.List.{flat_map, filter, range_with_len}
use Rattle.rlc_base.specs.declared.faults.Refusal.{Refusal}
use Rattle.refusal_order.specs.Refusals.{least, least_of_all, lesser_of}
use Rattle.refusal_order.proofs.LeastLaws.{lesser_of-none, least_of_all-append, least_of_all-flat_map, least_of_all-filter, least_of_all-map, least-flat_map}
use Rattle.program_model.specs.declared.kinds.ClassId.{ClassId}
use Rattle.program_model.specs.declared.kinds.MethodId.{MethodId}
use Rattle.program_model.specs.declared.program.Program.{Program}
use Rattle.program_model.specs.declared.program.Method.{Method}
use Rattle.program_model.specs.Lookups.{method_at}
use Rattle.program_model.specs.SuperTests.{is_class}
use Rattle.program_model.specs.Overrides.{Overriding, is_alike, methods_of, override_at, overrides_in, overrides_of}
use Rattle.must_call_sets.specs.Overridings.{class_ids, overridings}

pub one_case : (f : Overriding → Option Refusal) (o : Overriding) → least_of_all f (o ∷ []) ≡ f o
one_case f o = lesser_of-none (f o)

pub declared_law : (p : Program) (f : Overriding → Option Refusal) (n : Method) (methods : List MethodId)
    → least_of_all f (flat_map (λ m. override_at n (method_at p m)) (filter (is_alike p n) methods)) ≡ least_of_all (λ m. if is_alike p n m then least_of_all f (override_at n (method_at p m)) else None) methods
declared_law p f n methods =
    least_of_all-flat_map f (λ m. override_at n (method_at p m)) (filter (is_alike p n) methods)
    ∙ least_of_all-filter (λ m. least_of_all f (override_at n (method_at p m))) (is_alike p n) methods

pub both_law : (f : Overriding → Option Refusal) (xs ys : List Overriding) → lesser_of (least_of_all f xs) (least_of_all f ys) ≡ least_of_all f (xs ++ ys)
both_law f xs ys = sym (least_of_all-append f xs ys)

pub class_law : (p : Program) (f : Overriding → Option Refusal) (c : ClassId) (above : List ClassId)
    → least_of_all f (flat_map (λ n. overrides_of p c (method_at p n)) (flat_map (methods_of p) (filter (λ d. not (is_class d c)) above)))
    ≡ least_of_all (λ d. if not (is_class d c) then least_of_all (λ n. least_of_all f (overrides_of p c (method_at p n))) (methods_of p d) else None) above
class_law p f c above =
    let each : MethodId → Option Refusal = λ n. least_of_all f (overrides_of p c (method_at p n)) in
    least_of_all-flat_map f (λ n. overrides_of p c (method_at p n)) (flat_map (methods_of p) (filter (λ d. not (is_class d c)) above))
    ∙ least_of_all-flat_map each (methods_of p) (filter (λ d. not (is_class d c)) above)
    ∙ least_of_all-filter (λ d. least_of_all each (methods_of p d)) (λ d. not (is_class d c)) above

-- over all classes
pub program_law : (p : Program) (g : Overriding → List Refusal)
    → least (flat_map g (overridings p)) ≡ least_of_all (λ k. least_of_all (λ o. least (g o)) (overrides_in p (record { 0 = k }))) (range_with_len 0 (length p.classes.items))
program_law p g =
    let f : Overriding → Option Refusal = λ o. least (g o) in
    let number : ℕ → ClassId = λ k. record { 0 = k } in
    least-flat_map g (overridings p)
    ∙ least_of_all-flat_map f (overrides_in p) (class_ids p)
    ∙ least_of_all-map (λ c. least_of_all f (overrides_in p c)) number (range_with_len 0 (length p.classes.items))
