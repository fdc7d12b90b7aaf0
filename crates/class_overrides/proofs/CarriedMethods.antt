-- The method of a stub's interface that has a body in a class, found class by class.
use Rattle.std.proofs.Common.{◌≡◌, ◌∙◌, ap, ◌&&◌, List, filter, slice_get}
use Rattle.std.specs.List.{find, flat_map, list_all}
use Rattle.std.proofs.Math.Path.{fun_ext}
use Rattle.std.specs.Option.{is_some}
use Rattle.program_model.specs.declared.kinds.ClassId.{ClassId}
use Rattle.program_model.specs.declared.kinds.MethodId.{MethodId}
use Rattle.program_model.specs.declared.program.Method.{Method}
use Rattle.program_model.specs.declared.program.Program.{Program}
use Rattle.program_model.specs.Overrides.{is_alike, is_carried, is_no_higher, methods_of, most_specific}
use Rattle.class_overrides.specs.CarriedMethods.{best_in, carried_among, is_best, is_passed, passes}
use Rattle.class_overrides.proofs.Lists.{find-filter, find-flat_map, first-filter, list_all-filter, list_all-flat_map, of_first}

-- no other is below `m` exactly where it passes by each class
pub no_higher_by_class : (p : Program) (n : Method) (c : ClassId) (above : List ClassId) (m : MethodId) → list_all (is_no_higher p m) (carried_among p n c above) ≡ list_all (passes p n c m) above
no_higher_by_class p n c above m =
    list_all-filter (is_no_higher p m) (is_alike p n) (flat_map (methods_of p) (filter (is_carried p c) above))
    ∙ list_all-flat_map (is_passed p n m) (methods_of p) (filter (is_carried p c) above)
    ∙ list_all-filter (λ d. list_all (is_passed p n m) (methods_of p d)) (is_carried p c) above

best_among : (p : Program) (n : Method) (c : ClassId) (above : List ClassId) → (λ m. is_alike p n m && list_all (is_no_higher p m) (carried_among p n c above)) ≡ is_best p n c above
best_among p n c above = fun_ext (λ m. ap (λ b. is_alike p n m && b) (no_higher_by_class p n c above m))

pub carried_by_class : (p : Program) (n : Method) (c : ClassId) (above : List ClassId) → slice_get (most_specific p (carried_among p n c above)) 0 ≡ of_first (find (λ d. is_carried p c d && is_some (best_in p n c above d)) above) (best_in p n c above)
carried_by_class p n c above =
    first-filter (λ m. list_all (is_no_higher p m) (carried_among p n c above)) (carried_among p n c above)
    ∙ find-filter (λ m. list_all (is_no_higher p m) (carried_among p n c above)) (is_alike p n) (flat_map (methods_of p) (filter (is_carried p c) above))
    ∙ ap (λ f. find f (flat_map (methods_of p) (filter (is_carried p c) above))) (best_among p n c above)
    ∙ find-flat_map (is_best p n c above) (methods_of p) (filter (is_carried p c) above)
    ∙ ap (λ x. of_first x (best_in p n c above)) (find-filter (λ d. is_some (best_in p n c above d)) (is_carried p c) above)
