-- What the parameters of a frame hold while its body runs.
use Rattle.std.specs.Prelude.{◌≡◌, ℕ, suc, Bool, true, false, Some, List, [], ◌∷◌, slice_get}
use Rattle.program_model.specs.declared.program.Method.{Method}
use Rattle.program_model.specs.declared.program.Program.{Program}
use Rattle.program_model.specs.Lookups.{method_at}
use Rattle.fact_laws.specs.Assigned.{is_spoken_variable}
use Rattle.java_control.specs.Control.{Step}
use Rattle.control_actions.specs.declared.action.Action.{Action}
use Rattle.control_actions.specs.declared.action.Action.TheVariants as actions
use Rattle.ledger_state.specs.Locals.{variable_value}
use Rattle.ledger_state.specs.declared.value.Value.TheVariants as values
use Rattle.ledger_steps.specs.LedgerCallsCalls.{operand_of}
use Rattle.ledger_moves.specs.Configuration.{Frame}
use Rattle.ledger_moves.specs.Choosing.{frame_steps}

-- the object at position 0 is there before the call: a `new` makes it
abbrev pub has_receiver : Action → Bool
has_receiver (actions.New m d n) = false
has_receiver a = true

-- A frame of a method that was called at the control where the other frame waits. Each parameter of which the method's signature speaks holds the
-- operand of its position, and `this` is the receiver, where that is an object, and where the call is no `new`.
pub record HasArguments (p : Program) (caller fr : Frame) : Type 0 where
  pub parameters : (i : ℕ) (t : Step) (m : Method) (v : ℕ) → slice_get (frame_steps p caller) i ≡ Some t → method_at p fr.method ≡ Some m → is_spoken_variable m v ≡ true
      → variable_value fr.locals v ≡ operand_of caller.locals t.action (suc v)
  pub receiver : (i : ℕ) (t : Step) (w : ℕ) → slice_get (frame_steps p caller) i ≡ Some t → operand_of caller.locals t.action 0 ≡ values.Object w → fr.locals.this ≡ values.Object w
  pub target : (i : ℕ) (t : Step) → slice_get (frame_steps p caller) i ≡ Some t → has_receiver t.action ≡ true → fr.locals.this ≡ operand_of caller.locals t.action 0

-- the frame has the arguments that the first of those below it gave, and so on
abbrev pub AreGiven : Program → Frame → List Frame → Type 0
AreGiven p fr [] = Unit {0}
AreGiven p fr (caller ∷ frs) = HasArguments p caller fr × AreGiven p caller frs

-- each frame has the arguments that the one below it gave. The top one stands first
abbrev pub HaveArguments : Program → List Frame → Type 0
HaveArguments p [] = Unit {0}
HaveArguments p (fr ∷ frs) = AreGiven p fr frs
