-- What the variables and owning fields of a frame hold, by their types. (`texts` are the objects of class `String`.)
use Rattle.std.specs.Prelude.{ℕ, Bool}
use Rattle.program_model.specs.declared.kinds.MethodId.{MethodId}
use Rattle.program_model.specs.declared.program.Program.{Program}
use Rattle.program_model.specs.declared.tree.Body.{Body}
use Rattle.program_model.specs.Lookups.{variable_type}
use Rattle.control_actions.specs.declared.place.Place.TheVariants as places
use Rattle.ledger_state.specs.declared.locals.Locals.{Locals}
use Rattle.ledger_state.specs.Contents.{HeapContents}
use Rattle.ledger_state.specs.Locals.{variable_value}
use Rattle.ledger_frames.specs.Places.{place_value}
use Rattle.step_laws.specs.Operands.{HasNoObjectAt, NoObject}
use Rattle.place_laws.specs.Values.{IsNoObjectBut}

-- no variable of a type of no class holds an object
abbrev pub VariablesHoldNone : (ℕ → Bool) → Body → Locals → Type 0
VariablesHoldNone texts b l = (i : ℕ) → NoObject (variable_type b i) → IsNoObjectBut texts (variable_value l i)

-- neither does an owning field of `this`
abbrev pub FieldsHoldNone : (ℕ → Bool) → Program → HeapContents → MethodId → Body → Locals → Type 0
FieldsHoldNone texts p h m b l = (k : ℕ) → HasNoObjectAt p b k → IsNoObjectBut texts (place_value p h m l (places.Field k))
