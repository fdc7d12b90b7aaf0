-- Tables in which each class lists its fields.
use Rattle.std.specs.Prelude.{◌≡◌, Some}
use Rattle.program_model.specs.declared.kinds.FieldId.{FieldId}
use Rattle.program_model.specs.declared.program.Field.{Field}
use Rattle.program_model.specs.declared.program.Program.{Program}
use Rattle.program_model.specs.Lookups.{field_at}
use Rattle.program_model.specs.Validity.{IsListedField}

-- the class of each field lists it
abbrev pub HasListedFields : Program → Type 0
HasListedFields p = (f : FieldId) (x : Field) → field_at p f ≡ Some x → IsListedField p f x
