-- What the places of a frame hold.
use Rattle.std.specs.Prelude.{ℕ, Option, Some, None, filter, slice_get}
use Rattle.program_model.specs.declared.kinds.ClassId.{ClassId}
use Rattle.program_model.specs.declared.kinds.FieldId.{FieldId}
use Rattle.program_model.specs.declared.kinds.MethodId.{MethodId}
use Rattle.program_model.specs.declared.program.Program.{Program}
use Rattle.program_model.specs.declared.program.Class.{Class}
use Rattle.program_model.specs.declared.program.Method.{Method}
use Rattle.program_model.specs.Lookups.{class_at, method_at}
use Rattle.control_actions.specs.Owned.{fields_in, is_owning}
use Rattle.control_actions.specs.declared.place.Place.{Place}
use Rattle.control_actions.specs.declared.place.Place.TheVariants as places
use Rattle.ledger_state.specs.declared.locals.Locals.{Locals}
use Rattle.ledger_state.specs.declared.value.Value.{Value}
use Rattle.ledger_state.specs.declared.value.Value.TheVariants as values
use Rattle.ledger_state.specs.Contents.{HeapContents}
use Rattle.ledger_state.specs.Fields.{field_of}
use Rattle.ledger_state.specs.Locals.{temp_value, variable_value}

abbrev pub class_of_method : Option Method → Option ClassId
class_of_method None = None
class_of_method (Some m) = Some m.class

abbrev pub class_by : Program → Option ClassId → Option Class
class_by p None = None
class_by p (Some c) = class_at p c

-- the k-th owning field that the class declares
abbrev pub owning_field : Program → Option Class → ℕ → Option FieldId
owning_field p k n = slice_get (filter (is_owning p) (fields_in k)) n

-- the k-th owning field that the class of the method declares
abbrev pub owning_field_beside : Program → MethodId → ℕ → Option FieldId
owning_field_beside p m n = owning_field p (class_by p (class_of_method (method_at p m))) n

abbrev pub field_place_value : Program → HeapContents → Value → Option FieldId → Value
field_place_value p h this None = values.Nothing
field_place_value p h this (Some f) = field_of p h this f

-- what the place of a frame of the method holds. An owning field of `this` stands in the heap
abbrev pub place_value : Program → HeapContents → MethodId → Locals → Place → Value
place_value p h m l (places.Var i) = variable_value l i
place_value p h m l places.This = l.this
place_value p h m l (places.Field k) = field_place_value p h l.this (owning_field_beside p m k)
place_value p h m l (places.Temp d) = temp_value l d
place_value p h m l places.Super = values.Nothing
