-- The methods of stubs' interfaces that have a body in a class, as they are looked through class by class.
use Rattle.std.specs.Prelude.{Bool, ◌&&◌, ◌||◌, not, Option, List, filter}
use Rattle.std.specs.List.{find, flat_map, list_all}
use Rattle.program_model.specs.declared.kinds.ClassId.{ClassId}
use Rattle.program_model.specs.declared.kinds.MethodId.{MethodId}
use Rattle.program_model.specs.declared.program.Method.{Method}
use Rattle.program_model.specs.declared.program.Program.{Program}
use Rattle.program_model.specs.Overrides.{is_alike, is_carried, is_no_higher, methods_of}

-- those of these classes that are alike to `n`
abbrev pub carried_among : Program → Method → ClassId → List ClassId → List MethodId
carried_among p n c above = filter (is_alike p n) (flat_map (methods_of p) (filter (is_carried p c) above))

abbrev pub is_passed : Program → Method → MethodId → MethodId → Bool
is_passed p n m o = not (is_alike p n o) || is_no_higher p m o

-- no method of the class that is alike to `n` and has a body in `c` overrides `m`
abbrev pub passes : Program → Method → ClassId → MethodId → ClassId → Bool
passes p n c m d = not (is_carried p c d) || list_all (is_passed p n m) (methods_of p d)

-- `m` is alike to `n`, and no other of those with a body in `c` overrides it
abbrev pub is_best : Program → Method → ClassId → List ClassId → MethodId → Bool
is_best p n c above m = is_alike p n m && list_all (passes p n c m) above

abbrev pub best_in : Program → Method → ClassId → List ClassId → ClassId → Option MethodId
best_in p n c above d = find (is_best p n c above) (methods_of p d)
