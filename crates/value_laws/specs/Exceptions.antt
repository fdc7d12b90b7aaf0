-- Exceptions that a frame throws or ends by.
use Rattle.std.specs.Prelude.{◌≡◌, ℕ, Option, Some, None, List, [], ◌∷◌, slice_get}
use Rattle.rlc_base.specs.declared.place.Pos.{Pos}
use Rattle.program_model.specs.declared.kinds.ClassId.{ClassId}
use Rattle.program_model.specs.declared.program.Program.{Program}
use Rattle.java_control.specs.Control.{Step}
use Rattle.control_actions.specs.declared.action.Action.TheVariants as actions
use Rattle.control_actions.specs.declared.action.Completion.TheVariants as completions
use Rattle.ledger_state.specs.Contents.{HeapContents}
use Rattle.ledger_moves.specs.Configuration.{Frame}
use Rattle.ledger_moves.specs.Choosing.{frame_steps}
use Rattle.ledger_steps.specs.Ends.{exception_class, thrown_in}
use Rattle.value_laws.specs.Values.{temp_fits_class}

-- an exception by which the frame ends has a class
abbrev pub EndsByException : Program → HeapContents → Frame → Type 0
EndsByException p h fr = (i : ℕ) (s : Step) (d : ℕ) (t : ClassId) (pos : Pos) → slice_get (frame_steps p fr) i ≡ Some s → s.action ≡ actions.End (completions.Throw d t pos)
    → exception_class p h (thrown_in fr.locals (completions.Throw d t pos)) ≡ None → ⊥

abbrev pub TopEndsByException : Program → HeapContents → List Frame → Type 0
TopEndsByException p h [] = Unit {0}
TopEndsByException p h (fr ∷ frs) = EndsByException p h fr

-- what a `throw` of the top frame throws is an exception, or null
abbrev pub RaisesException : Program → HeapContents → Frame → Type 0
RaisesException p h fr = (i : ℕ) (s : Step) (d : ℕ) (c : Option ClassId) → slice_get (frame_steps p fr) i ≡ Some s → s.action ≡ actions.Raise d c → temp_fits_class p p.core.throwable h fr.locals d

abbrev pub TopRaisesException : Program → HeapContents → List Frame → Type 0
TopRaisesException p h [] = Unit {0}
TopRaisesException p h (fr ∷ frs) = RaisesException p h fr
