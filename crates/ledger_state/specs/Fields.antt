-- What the fields of objects and the static fields hold.
use Rattle.std.specs.Prelude.{ℕ, Bool, Option, Some, None, List, nat_eq}
use Rattle.std.specs.List.{find, position_from}
use Rattle.std.specs.Option.{unwrap_or}
use Rattle.program_model.specs.declared.kinds.FieldId.{FieldId}
use Rattle.program_model.specs.declared.kinds.Literal.{Literal}
use Rattle.program_model.specs.declared.kinds.VType.{VType}
use Rattle.program_model.specs.declared.program.Program.{Program}
use Rattle.program_model.specs.declared.program.Field.{Field}
use Rattle.program_model.specs.Lookups.{field_at}
use Rattle.ledger_state.specs.declared.object.StoredStatic.{StoredStatic}
use Rattle.ledger_state.specs.declared.value.Value.{Value}
use Rattle.ledger_state.specs.declared.value.Value.TheVariants as values
use Rattle.ledger_state.specs.Contents.{HeapContents}
use Rattle.ledger_state.specs.Heaps.{put_at, stored_field}
use Rattle.ledger_state.specs.Values.{default_of, literal_value}

abbrev pub default_in : Option Field → Value
default_in None = values.Nothing
default_in (Some f) = default_of f.vtype

-- what the field of the object with number `w` holds
abbrev pub field_value : Program → HeapContents → ℕ → FieldId → Value
field_value p h w f = unwrap_or (stored_field h w f) (default_in (field_at p f))

-- what the field of the object that `v` is holds
abbrev pub field_of : Program → HeapContents → Value → FieldId → Value
field_of p h (values.Object k) f = field_value p h k f
field_of p h v f = values.Nothing

abbrev pub is_static : FieldId → StoredStatic → Bool
is_static f s = nat_eq s.field.0 f.0

abbrev pub value_put : Option StoredStatic → Option Value
value_put None = None
value_put (Some s) = Some s.value

-- the value of the static field, where it was stored
abbrev pub stored_static : List StoredStatic → FieldId → Option Value
stored_static statics f = value_put (find (is_static f) statics)

abbrev pub static : FieldId → Value → StoredStatic
static f v = record { field = f; value = v }

-- the static field takes the value
abbrev pub put_static : FieldId → Value → List StoredStatic → List StoredStatic
put_static f v statics = put_at (position_from (is_static f) 0 statics) (static f v) statics

abbrev pub initial_of : VType → Option Literal → Value
initial_of t None = default_of t
initial_of t (Some l) = literal_value l

abbrev pub initial_in : Option Field → Value
initial_in None = values.Nothing
initial_in (Some f) = initial_of f.vtype f.initial

-- what the static field holds (JLS 8.3.2)
abbrev pub static_value : Program → List StoredStatic → FieldId → Value
static_value p statics f = unwrap_or (stored_static statics f) (initial_in (field_at p f))
