-- The least refusal, from that of each part.
use Rattle.std.proofs.Common.{◌≡◌, ℕ, List, ◌++◌, length, sym, ap, ◌∙◌}
use Rattle.std.specs.List.{flat_map, range_with_len}
use Rattle.rlc_base.specs.declared.faults.Refusal.{Refusal}
use Rattle.refusal_order.specs.Refusals.{least, least_of_all, lesser_of}
use Rattle.refusal_order.proofs.LeastLaws.{least-append, least-flat_map, least_of_all-map}
use Rattle.program_model.specs.declared.kinds.ClassId.{ClassId}
use Rattle.program_model.specs.declared.program.Program.{Program}
use Rattle.must_call_sets.specs.Overridings.{class_ids}

pub three_parts : (xs ys zs : List Refusal) → lesser_of (lesser_of (least xs) (least ys)) (least zs) ≡ least ((xs ++ ys) ++ zs)
three_parts xs ys zs = sym (least-append (xs ++ ys) zs ∙ ap (λ x. lesser_of x (least zs)) (least-append xs ys))

pub of_each : {X : Type 0} (g : X → List Refusal) (xs : List X) → least (flat_map g xs) ≡ least_of_all (λ x. least (g x)) xs
of_each g xs = least-flat_map g xs

-- over all classes
pub of_classes : (p : Program) (g : ClassId → List Refusal) → least (flat_map g (class_ids p)) ≡ least_of_all (λ k. least (g (record { 0 = k }))) (range_with_len 0 (length p.classes.items))
of_classes p g =
    let number : ℕ → ClassId = λ k. record { 0 = k } in
    least-flat_map g (class_ids p) ∙ least_of_all-map (λ c. least (g c)) number (range_with_len 0 (length p.classes.items))
