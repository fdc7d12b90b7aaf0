-- A step of the machine.
use Rattle.std.specs.Prelude.{◌+◌, Bool, true, false, Option, Some, None, List, [], ◌∷◌, ◌++◌, length, slice_get}
use Rattle.program_model.specs.declared.kinds.ClassId.{ClassId}
use Rattle.program_model.specs.declared.kinds.MethodId.{MethodId}
use Rattle.program_model.specs.declared.program.Program.{Program}
use Rattle.program_model.specs.Lookups.{method_at}
use Rattle.rlc_base.specs.declared.place.Pos.{Pos}
use Rattle.control_actions.specs.declared.action.Action.{Action}
use Rattle.control_actions.specs.declared.action.Completion.{Completion}
use Rattle.java_control.specs.Control.{Step}
use Rattle.stub_conduct.specs.declared.choice.Conduct.{Conduct}
use Rattle.ledger_steps.specs.CallSteps.{library_done, self_begun, started}
use Rattle.ledger_steps.specs.Ends.{answered, exception_class, main_gone, result_value, thrown_in}
use Rattle.ledger_steps.specs.Ends as ends
use Rattle.ledger_steps.specs.InnerSteps.{inner, thrown_value}
use Rattle.ledger_steps.specs.LedgerCallsCalls.{argument_values, begun}
use Rattle.ledger_steps.specs.Conducts.{arguments_shared, arrays_given, conduct_value, positions, result_in}
use Rattle.ledger_moves.specs.Configuration.{Config, Frame, held_by}
use Rattle.ledger_moves.specs.Choosing.{frame_steps}
use Rattle.ledger_moves.specs.Frames.{frame_after}
use Rattle.ledger_moves.specs.Operations.{arrays_after, made_value, next_choice, one_more_used, statics_after, used_after}
use Rattle.ledger_state.specs.Heaps.{next_number}
use Rattle.ledger_moves.specs.Moves.{Move, Inner, Start, Library, End, Stray, Rest, next_move, standing}
use Rattle.ledger_moves.specs.Moves.{Return, Back, StrayBack, NoWay, return_move}
use Rattle.ledger_runs.specs.Outcomes.{Outcome, went, ended, stray}

-- what an operation changes stays where it throws
abbrev pub if_thrown : {X : Type 0} → Option ClassId → X → X → X
if_thrown None old new = new
if_thrown (Some e) old new = old

-- a step within the frame, which throws an exception of the class `e` or none
abbrev pub within : Program → Config → Frame → List Frame → Option ClassId → Step → Config
within p c fr frs e s =
    let made = made_value p c.heap c.arrays c.statics (next_choice c.choices c.used) fr.locals s.action in
    let after = frame_after p c.heap fr s (thrown_value c.heap e made) in
    let effect = inner p c.heap fr.method fr.locals e s.action s.pos (held_by (after ∷ frs)) in
    record c {
      frames = after ∷ frs;
      heap = effect.heap;
      arrays = if_thrown e c.arrays (arrays_after c.arrays fr.locals s.action);
      statics = if_thrown e c.statics (statics_after c.statics fr.locals s.action);
      used = if_thrown e c.used (used_after c.arrays c.choices c.used fr.locals s.action);
      entries = c.entries ++ effect.lines;
    }

-- a call of the program's method begins a frame; the caller keeps its control and its places until that ends
abbrev pub began : Program → Config → Frame → List Frame → MethodId → MethodId → Action → Pos → Config
began p c fr frs named runs a pos =
    let callee = begun p runs (self_begun fr.locals a c.heap) (argument_values fr.locals a (method_at p named)) in
    let frames = callee ∷ fr ∷ frs in
    let effect = started p c.heap fr.locals a (method_at p named) (length frames) pos (held_by frames) in
    record c { frames = frames; heap = effect.heap; entries = c.entries ++ effect.lines }

-- a call of the library begins and ends in one step, and may make the object that is the next one
abbrev pub library_went : Program → Config → Frame → List Frame → MethodId → MethodId → Conduct → Step → Config
library_went p c fr frs named m d s =
    let k = next_number c.heap in
    let shared = arguments_shared c.arrays fr.locals s.action (method_at p named) in
    let value = conduct_value (length shared) (method_at p m) (positions fr.locals s.action k d) k d in
    let after = frame_after p c.heap fr s value in
    let effect = library_done p c.heap fr.locals s.action (method_at p named) (method_at p m) d (length frs + 1) s.pos (held_by (after ∷ frs)) in
    record c {
      frames = after ∷ frs;
      heap = effect.heap;
      arrays = arrays_given shared (result_in (method_at p m)) d;
      used = one_more_used c.choices c.used;
      entries = c.entries ++ effect.lines;
    }

-- the frame of `main` ends
abbrev pub main_ended : Program → Config → Frame → Pos → Completion → Config
main_ended p c fr pos q =
    let effect = main_gone p c.heap pos in
    record c {
      frames = [];
      heap = effect.heap;
      ended = exception_class p c.heap (thrown_in fr.locals q);
      entries = c.entries ++ effect.lines;
    }

-- a frame ends, and its caller takes the step `t` of its call
abbrev pub returned : Program → Config → Frame → Frame → List Frame → Pos → Completion → Option ClassId → MethodId → Step → Config
returned p c fr caller frs pos q e named t =
    let runs = method_at p fr.method in
    let v = result_value fr.locals runs q in
    let after = frame_after p c.heap caller t (answered fr.locals.this t.action v e) in
    let effect = ends.returned p c.heap (length frs + 1) fr.locals.this caller.locals t.action runs (method_at p named) v e pos t.pos (held_by (after ∷ frs)) in
    record c { frames = after ∷ frs; heap = effect.heap; entries = c.entries ++ effect.lines }

abbrev pub returned_by : Program → Config → Frame → Frame → List Frame → Pos → Completion → Return → Outcome
returned_by p c fr caller frs pos q (Back e named t) = went (returned p c fr caller frs pos q e named t)
returned_by p c fr caller frs pos q (StrayBack e at) = stray e at
returned_by p c fr caller frs pos q NoWay = went c

-- the top frame ends
abbrev pub end : Program → Config → Frame → List Frame → Pos → Completion → Outcome
end p c fr [] pos q = went (main_ended p c fr pos q)
end p c fr (caller ∷ frs) pos q =
    returned_by p c fr caller frs pos q (return_move p (frame_steps p caller) (exception_class p c.heap (thrown_in fr.locals q)))

abbrev pub moved : Program → Config → Frame → List Frame → Move → Outcome
moved p c fr frs (Inner e s) = went (within p c fr frs e s)
moved p c fr frs (Start named runs a pos) = went (began p c fr frs named runs a pos)
moved p c fr frs (Library named m d s) = went (library_went p c fr frs named m d s)
moved p c fr frs (End pos q) = end p c fr frs pos q
moved p c fr frs (Stray e pos) = stray e pos
moved p c fr frs Rest = went c

-- no frame is left
abbrev pub has_ended : List Frame → Bool
has_ended [] = true
has_ended (fr ∷ frs) = false

-- what the top frame does, of these frames; where no frame is left the run has ended
abbrev pub moved_by : Program → Config → List Frame → Move → Outcome
moved_by p c [] move = ended c.ended
moved_by p c (fr ∷ frs) move = moved p c fr frs move

abbrev pub top_move : Program → Config → List Frame → Move
top_move p c [] = Rest
top_move p c (fr ∷ frs) =
    next_move p c.heap c.arrays (next_choice c.choices c.used) fr.method fr.locals (frame_steps p fr) (standing (slice_get fr.control 0))

-- one step of the machine
unfoldable pub step : Program → Config → Outcome
step p c = moved_by p c c.frames (top_move p c c.frames)
