-- What a method's signature says of the positions of a call: the receiver at 0, and the k-th declared parameter at k.
use Rattle.std.specs.Prelude.{ℕ, zero, suc, Bool, true, false, nat_eq, Option, Some, None, List, slice_get}
use Rattle.std.specs.FinSet as set
use Rattle.rlc_base.specs.declared.name_id.NameId.{NameId}
use Rattle.program_model.specs.declared.kinds.ClassId.{ClassId}
use Rattle.program_model.specs.declared.kinds.FieldId.{FieldId}
use Rattle.program_model.specs.declared.kinds.Target.{Target}
use Rattle.program_model.specs.declared.kinds.Target.TheVariants as promised
use Rattle.program_model.specs.declared.kinds.VType.{VType}
use Rattle.program_model.specs.declared.program.Program.{Program}
use Rattle.program_model.specs.declared.program.Method.{Method}
use Rattle.program_model.specs.declared.program.Sig.{Sig}
use Rattle.program_model.specs.declared.program.ParamSig.{ParamSig}
use Rattle.program_model.specs.declared.program.Promise.{Promise}
use Rattle.program_model.specs.declared.program.Field.{Field}
use Rattle.program_model.specs.Lookups.{field_at}
pub use Rattle.program_model.specs.NameSets.{when, names_of_all}
use Rattle.must_call_sets.specs.MustCallSets.{Names, must_of}

-- a position is that of an optional one
abbrev pub is_position : Option ℕ → ℕ → Bool
is_position None k = false
is_position (Some j) k = nat_eq j k

abbrev pub is_present : {X : Type 0} → Option X → Bool
is_present None = false
is_present (Some x) = true

-- the parameter at a position
abbrev pub parameter_at : Sig → ℕ → Option ParamSig
parameter_at s zero = Some s.receiver
parameter_at s (suc k) = slice_get s.params.items k

abbrev pub type_in : Option ParamSig → Option VType
type_in None = None
type_in (Some x) = Some x.vtype

-- the declared type of a position
abbrev pub type_at : Sig → ℕ → Option VType
type_at s k = type_in (parameter_at s k)

abbrev pub owning_in : Option ParamSig → Bool
owning_in None = false
owning_in (Some x) = x.owning

-- an argument at the position moves to the callee
abbrev pub is_owning_at : Sig → ℕ → Bool
is_owning_at s k = owning_in (parameter_at s k)

abbrev pub type_of_field : Option Field → Option VType
type_of_field None = None
type_of_field (Some x) = Some x.vtype

-- the declared type of a field
abbrev pub field_type : Program → FieldId → Option VType
field_type p f = type_of_field (field_at p f)

-- the name is among these
abbrev pub has_name : Names → Option NameId → Bool
has_name names None = false
has_name names (Some n) = set.contains names n.0

-- A must-call method of a class is an instance method without parameters whose name must be called on its objects. (The
-- name of interest is that of an instance method without parameters.)
abbrev pub is_must_call_method : Program → ClassId → Method → Bool
is_must_call_method p c m = has_name (must_of p c) m.sig.interest

-- a promise speaks of the position, or of the field
abbrev pub is_at : Target → ℕ → Bool
is_at (promised.At j) k = nat_eq j k
is_at (promised.OfField f) k = false

abbrev pub is_of_field : Target → FieldId → Bool
is_of_field (promised.At k) f = false
is_of_field (promised.OfField g) f = nat_eq g.0 f.0

-- all names that promises give to targets which pass a test
abbrev pub promised_names : (Target → Bool) → List Promise → Names
promised_names test promises = names_of_all (λ (x : Promise). when (test x.target) x.names) promises
