-- Values that may stand where the type is under a class: null, and objects whose class is under it (JLS 4.3.1, 4.12.2).
use Rattle.std.specs.Prelude.{◌≡◌, ℕ, true, Option, Some, None}
use Rattle.program_model.specs.declared.kinds.ClassId.{ClassId}
use Rattle.program_model.specs.declared.program.Program.{Program}
use Rattle.program_model.specs.SuperTests.{is_under}
use Rattle.ledger_state.specs.Contents.{HeapContents}
use Rattle.ledger_state.specs.declared.locals.Locals.{Locals}
use Rattle.ledger_state.specs.declared.value.Value.{Value}
use Rattle.ledger_state.specs.declared.value.Value.TheVariants as values
use Rattle.ledger_state.specs.Locals.{temp_value}
use Rattle.value_laws.specs.Objects.{object_class}

-- there is an object, and its class is under `bound`
abbrev pub HasClassUnder : Program → ClassId → Option ClassId → Type 0
HasClassUnder p bound None = ⊥
HasClassUnder p bound (Some c) = is_under p c bound ≡ true

-- the value is no number, and an object is one of the class. (Of texts and arrays nothing is asked.)
abbrev pub FitsClass : Program → ClassId → HeapContents → Value → Type 0
FitsClass p bound h values.Nothing = Unit {0}
FitsClass p bound h values.Null = Unit {0}
FitsClass p bound h values.Text = Unit {0}
FitsClass p bound h (values.Number z) = ⊥
FitsClass p bound h (values.Object k) = HasClassUnder p bound (object_class h k)
FitsClass p bound h (values.Array a) = Unit {0}

-- so is that of the temp of the depth
abbrev pub temp_fits_class : Program → ClassId → HeapContents → Locals → ℕ → Type 0
temp_fits_class p bound h l d = FitsClass p bound h (temp_value l d)
