-- The exception by which a frame ends has a class.
use Rattle.std.specs.Prelude.{◌≡◌, ℕ, true, Some, None, List, [], ◌∷◌, slice_get}
use Rattle.program_model.specs.declared.program.Program.{Program}
use Rattle.java_control.specs.Control.{Step}
use Rattle.control_actions.specs.declared.action.Action.TheVariants as actions
use Rattle.control_actions.specs.declared.action.Completion.{Completion}
use Rattle.covering_laws.specs.Ends.{is_throw}
use Rattle.ledger_state.specs.Contents.{HeapContents}
use Rattle.covering_laws.specs.Configuration.{Frame}
use Rattle.covering_laws.specs.Choosing.{frame_steps}
use Rattle.ledger_steps.specs.Ends.{exception_class, thrown_in}

-- where the frame ends by a throw, the exception has a class
abbrev pub EndsByClass : Program → HeapContents → Frame → Type 0
EndsByClass p h fr = (i : ℕ) (s : Step) (q : Completion) → slice_get (frame_steps p fr) i ≡ Some s → s.action ≡ actions.End q → is_throw q ≡ true → exception_class p h (thrown_in fr.locals q) ≡ None → ⊥

-- the top one of these frames does so
abbrev pub TopEndsByClass : Program → HeapContents → List Frame → Type 0
TopEndsByClass p h [] = Unit {0}
TopEndsByClass p h (fr ∷ frs) = EndsByClass p h fr
