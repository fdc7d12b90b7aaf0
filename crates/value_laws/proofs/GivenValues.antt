-- A value that a frame gives is an object of the class that its method declares for its result, or null.
use Rattle.std.proofs.Common.{◌≡◌, ℕ, Some, slice_get, sym, subst}
use Rattle.rlc_base.specs.declared.place.Pos.{Pos}
use Rattle.program_model.specs.declared.kinds.ClassId.{ClassId}
use Rattle.program_model.specs.declared.kinds.MethodId.{MethodId}
use Rattle.program_model.specs.declared.program.Program.{Program}
use Rattle.program_model.specs.Lookups.{method_at}
use Rattle.java_control.specs.Control.{Step}
use Rattle.control_actions.specs.declared.action.Action.{Action}
use Rattle.control_actions.specs.declared.action.Action.TheVariants as actions
use Rattle.control_actions.specs.declared.action.Completion.TheVariants as completions
use Rattle.dispatch_laws.specs.Accept.{Accept}
use Rattle.ledger_state.specs.Contents.{HeapContents}
use Rattle.ledger_state.specs.Locals.{temp_value}
use Rattle.ledger_moves.specs.Configuration.{Frame}
use Rattle.ledger_moves.specs.Choosing.{frame_steps}
use Rattle.dispatch_laws.specs.ClassOperands.{Fits, IsNotAboveString, OfClass, result_of}
use Rattle.value_laws.specs.Values.{FitsClass, temp_fits_class}
use Rattle.value_laws.specs.ClassValues.{FrameFitsClass}
use Rattle.value_laws.proofs.ClassBegun.{fits}

pub given_fits : (p : Program) (bound : ClassId) → Accept p → IsNotAboveString p bound → (h : HeapContents) (fr : Frame) → FrameFitsClass p bound h fr → (i : ℕ) (s : Step) (d : ℕ) (pos : Pos)
    → slice_get (frame_steps p fr) i ≡ Some s → s.action ≡ actions.End (completions.ReturnValue d pos) → OfClass p bound (result_of (method_at p fr.method)) → FitsClass p bound h (temp_value fr.locals d)
given_fits p bound ac own h fr keeps i s d pos here is to =
    let gives : Fits p bound keeps.body (actions.End (completions.ReturnValue d pos)) (temp_fits_class p bound h fr.locals) =
    subst (λ (a : Action). Fits p bound keeps.body a (temp_fits_class p bound h fr.locals)) is (fits p bound ac own h fr keeps i s here) in
    gives (subst (λ (m : MethodId). OfClass p bound (result_of (method_at p m))) (sym keeps.method) to)
