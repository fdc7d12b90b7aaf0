-- What a step within a frame of a run comes to, from what each of its parts leaves.
use Rattle.std.proofs.Common.{◌≡◌, ◌∙◌, sym, ap, ℕ, Option, List, [], ◌∷◌, ◌++◌, map, reverse}
use Rattle.program_model.specs.declared.kinds.ClassId.{ClassId}
use Rattle.program_model.specs.declared.program.Program.{Program}
use Rattle.java_control.specs.Changes.{step_in}
use Rattle.control_actions.specs.declared.cell.Cell.{Cell}
use Rattle.control_actions.specs.declared.triple.Triple.{Triple}
use Rattle.ledger_frames.specs.Configuration.{Config}
use Rattle.ledger_frames.specs.Frames.{locals_after}
use Rattle.machine_state.proofs.FrameLaws.{frame_with, moved_top, held_seen, last_seen}
use Rattle.machine_state.specs.Frames.{frame_seen, frames_seen}
use Rattle.machine_state.specs.Moves.{Inner}
use Rattle.machine_state.specs.LedgerRunsSteps.{if_thrown, moved_by, within}
use Rattle.ledger_obligations.specs.declared.active_frame.ActiveFrame.{ActiveFrame}
use Rattle.ledger_obligations.specs.Obligations.{held_in}
use Rattle.ledger_operations.specs.Operations.{arrays_after, made_value, next_choice, statics_after, used_after}
use Rattle.ledger_state.specs.declared.array.ArrayObject.{ArrayObject}
use Rattle.ledger_state.specs.declared.locals.Locals.{Locals}
use Rattle.ledger_state.specs.declared.value.Value.{Value}
use Rattle.ledger_state.specs.Locals.{held}
use Rattle.ledger_steps.specs.InnerSteps.{inner, thrown_value}
use Rattle.machine_state.specs.declared.run_state.RunState.{RunState}
use Rattle.machine_state.specs.RunStates.{config_of}
use Rattle.machine_state.specs.LedgerRunsOutcomes.{went}
use Rattle.ledger_state.specs.Contents.{HeapContents}
use Rattle.ledger_state.specs.declared.entry.Entry.{Entry}
use Rattle.ledger_state.specs.declared.object.StoredStatic.{StoredStatic}

-- the values of the top frame after a step within it
abbrev pub inner_locals : Program → Config → ActiveFrame → Option ClassId → Triple → Locals
inner_locals p c top e s =
    locals_after p c.heap top.method top.locals s.action s.edge (thrown_value c.heap e (made_value p c.heap c.arrays c.statics (next_choice c.choices c.used) top.locals s.action))

-- a step within the top frame, part by part
pub within_is : (p : Program) (cells : List Cell) (c : Config) (top : ActiveFrame) (below : List ActiveFrame) (e : Option ClassId) (s : Triple) → record c {
  frames = frame_seen cells (frame_with top.method s.to (inner_locals p c top e s)) ∷ frames_seen cells below;
  heap = (inner p c.heap top.method top.locals e s.action s.pos (held (inner_locals p c top e s) ∷ map held_in (reverse below))).heap;
  arrays = if_thrown e c.arrays (arrays_after c.arrays top.locals s.action);
  statics = if_thrown e c.statics (statics_after c.statics top.locals s.action);
  used = if_thrown e c.used (used_after c.arrays c.choices c.used top.locals s.action);
  entries = c.entries ++ (inner p c.heap top.method top.locals e s.action s.pos (held (inner_locals p c top e s) ∷ map held_in (reverse below))).lines;
} ≡ within p c (frame_seen cells top) (frames_seen cells below) e (step_in cells s)
within_is p cells c top below e s =
    ap (λ below_held. record c {
      frames = frame_seen cells (frame_with top.method s.to (inner_locals p c top e s)) ∷ frames_seen cells below;
      heap = (inner p c.heap top.method top.locals e s.action s.pos (held (inner_locals p c top e s) ∷ below_held)).heap;
      arrays = if_thrown e c.arrays (arrays_after c.arrays top.locals s.action);
      statics = if_thrown e c.statics (statics_after c.statics top.locals s.action);
      used = if_thrown e c.used (used_after c.arrays c.choices c.used top.locals s.action);
      entries = c.entries ++ (inner p c.heap top.method top.locals e s.action s.pos (held (inner_locals p c top e s) ∷ below_held)).lines;
    }) (sym (held_seen cells below))

-- a step within the top frame
pub inner_went : (p : Program) (m : RunState) (top : ActiveFrame) (below : List ActiveFrame) (e : Option ClassId) (s : Triple) (made : Value) (locals : Locals) (frames : List ActiveFrame) (heap : HeapContents) (arrays : List ArrayObject) (statics : List StoredStatic) (used : ℕ) (entries : List Entry)
    → m.frames.items ≡ below ++ top ∷ []
    → frames ≡ below ++ frame_with top.method s.to locals ∷ []
    → made ≡ made_value p m.heap m.arrays.items m.statics.items (next_choice m.choices.items m.used) top.locals s.action
    → locals ≡ locals_after p m.heap top.method top.locals s.action s.edge (thrown_value m.heap e made)
    → heap ≡ (inner p m.heap top.method top.locals e s.action s.pos (held locals ∷ map held_in (reverse below))).heap
    → arrays ≡ if_thrown e m.arrays.items (arrays_after m.arrays.items top.locals s.action)
    → statics ≡ if_thrown e m.statics.items (statics_after m.statics.items top.locals s.action)
    → used ≡ if_thrown e m.used (used_after m.arrays.items m.choices.items m.used top.locals s.action)
    → entries ≡ m.entries.items ++ (inner p m.heap top.method top.locals e s.action s.pos (held locals ∷ map held_in (reverse below))).lines
    → went (record (config_of m) { frames = frames_seen m.lists.cells.keys frames; heap = heap; arrays = arrays; statics = statics; used = used; entries = entries })
    ≡ moved_by p (config_of m) (frames_seen m.lists.cells.keys m.frames.items) (Inner e (step_in m.lists.cells.keys s))
inner_went p m top below e s made locals frames heap arrays statics used entries split put made_is locals_is heap_is arrays_is statics_is used_is entries_is =
    let cells : List Cell = m.lists.cells.keys in
    let same : locals ≡ inner_locals p (config_of m) top e s = locals_is ∙ ap (λ v. locals_after p m.heap top.method top.locals s.action s.edge (thrown_value m.heap e v)) made_is in
    let frames_are = last_seen cells frames below (frame_with top.method s.to locals) put ∙ ap (λ l. frame_seen cells (frame_with top.method s.to l) ∷ frames_seen cells below) same in
    let heap_same = heap_is ∙ ap (λ l. (inner p m.heap top.method top.locals e s.action s.pos (held l ∷ map held_in (reverse below))).heap) same in
    let lines_same = entries_is ∙ ap (λ l. m.entries.items ++ (inner p m.heap top.method top.locals e s.action s.pos (held l ∷ map held_in (reverse below))).lines) same in
    ap went ((λ i. record (config_of m) { frames = frames_are i; heap = heap_same i; arrays = arrays_is i; statics = statics_is i; used = used_is i; entries = lines_same i }) ∙ within_is p cells (config_of m) top below e s)
    ∙ sym (moved_top p (config_of m) (frames_seen cells m.frames.items) (frame_seen cells top) (frames_seen cells below) (Inner e (step_in cells s)) (last_seen cells m.frames.items below top split))
