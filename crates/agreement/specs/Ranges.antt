-- Each object that is held somewhere in a run is there: its number is below that of the next object.
use Rattle.std.specs.Prelude.{◌≡◌, ℕ, ◌<◌, Some}
use Rattle.std.specs.List.{All}
use Rattle.ledger_state.specs.Contents.{HeapContents}
use Rattle.ledger_state.specs.Heaps.{next_number}
use Rattle.ledger_state.specs.Locals.{temp_value, variable_value}
use Rattle.ledger_state.specs.Values.{number_of}
use Rattle.ledger_state.specs.declared.array.ArrayObject.{ArrayObject}
use Rattle.ledger_state.specs.declared.locals.Locals.{Locals}
use Rattle.ledger_state.specs.declared.object.StoredField.{StoredField}
use Rattle.ledger_state.specs.declared.object.StoredStatic.{StoredStatic}
use Rattle.ledger_state.specs.declared.value.Value.{Value}
use Rattle.ledger_runs.specs.Configuration.{Config, Frame}

-- the number is that of an object
abbrev pub IsNumber : HeapContents → ℕ → Type 0
IsNumber h k = (0 < k) × (k < next_number h)

-- where the value is an object, it is one that is there
abbrev pub IsInRange : HeapContents → Value → Type 0
IsInRange h v = (k : ℕ) → number_of v ≡ Some k → IsNumber h k

pub record LocalsInRange (h : HeapContents) (l : Locals) : Type 0 where
  pub variables : (i : ℕ) → IsInRange h (variable_value l i)
  pub this : IsInRange h l.this
  pub temps : (d : ℕ) → IsInRange h (temp_value l d)

abbrev pub IsStoredInRange : HeapContents → StoredField → Type 0
IsStoredInRange h s = IsNumber h s.holder × IsInRange h s.value

-- what the fields of objects hold
abbrev pub FieldsInRange : HeapContents → Type 0
FieldsInRange h = All (IsStoredInRange h) h.fields

-- what frames, fields, static fields and arrays hold
pub record AreInRange (c : Config) : Type 0 where
  pub frames : All (λ (fr : Frame). LocalsInRange c.heap fr.locals) c.frames
  pub fields : FieldsInRange c.heap
  pub statics : All (λ (s : StoredStatic). IsInRange c.heap s.value) c.statics
  pub arrays : All (λ (a : ArrayObject). All (IsInRange c.heap) a.elements) c.arrays
