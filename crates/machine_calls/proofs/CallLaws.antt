-- What steps that begin and end calls come to, from what each of their parts leaves.
use Rattle.std.proofs.Common.{◌≡◌, ◌∙◌, sym, ap, refl, arith, true, ℕ, ◌+◌, Option, Some, None, List, [], ◌∷◌, ◌++◌, length, map, reverse, slice_get, ◌-◌, ◌≤◌, length-append, take}
use Rattle.std.proofs.lemmas.List.{length-set}
use Rattle.program_model.specs.declared.kinds.ClassId.{ClassId}
use Rattle.program_model.specs.declared.kinds.MethodId.{MethodId}
use Rattle.program_model.specs.declared.program.Program.{Program}
use Rattle.program_model.specs.Lookups.{method_at}
use Rattle.rlc_base.specs.declared.place.Pos.{Pos}
use Rattle.java_control.specs.Changes.{step_in}
use Rattle.control_actions.specs.declared.action.Action.{Action}
use Rattle.control_actions.specs.declared.action.Completion.{Completion}
use Rattle.control_actions.specs.declared.cell.Cell.{Cell}
use Rattle.control_actions.specs.declared.triple.Triple.{Triple}
use Rattle.stub_conduct.specs.declared.choice.Conduct.{Conduct}
use Rattle.ledger_calls.specs.Calls.{argument_values, begun}
use Rattle.ledger_calls.specs.Conducts.{arguments_shared, arrays_given, conduct_value, positions, result_in, share, share_all, share_value}
use Rattle.ledger_calls.specs.Configuration.{Config, Frame, held_by}
use Rattle.ledger_frames.specs.Frames.{locals_after}
use Rattle.machine_state.proofs.FrameLaws.{frame_with, moved_top, count_seen, held_seen, frames_kept, highest_append, last_seen}
use Rattle.ledger_moves.specs.Frames.{frame_seen, frames_seen, highest_control}
use Rattle.ledger_moves.specs.Moves.{End, Library, Start, Return, return_move}
use Rattle.machine_state.specs.LedgerRunsSteps.{began, library_went, moved_by, returned, within}
use Rattle.ledger_obligations.specs.declared.active_frame.ActiveFrame.{ActiveFrame}
use Rattle.ledger_obligations.specs.Obligations.{held_in}
use Rattle.ledger_operations.specs.Operations.{one_more_used}
use Rattle.ledger_state.specs.declared.array.ArrayObject.{ArrayObject}
use Rattle.ledger_state.specs.declared.locals.Locals.{Locals}
use Rattle.ledger_state.specs.declared.value.Value.{Value}
use Rattle.ledger_state.specs.declared.value.Value.TheVariants as values
use Rattle.ledger_state.specs.Heaps.{next_number}
use Rattle.ledger_state.specs.Locals.{held}
use Rattle.ledger_steps.specs.CallSteps.{library_done, self_begun, started}
use Rattle.ledger_steps.specs.Effects.{Effect}
use Rattle.ledger_steps.specs.Ends.{answered, result_value, exception_class, main_gone, thrown_in}
use Rattle.ledger_steps.specs.Ends as ends
use Rattle.std.proofs.Math.Seq.{take-append_seam}
use Rattle.java_control.specs.Tables.{Keeps}
use Rattle.ledger_frames.specs.Choosing.{frame_steps}
use Rattle.machine_state.specs.declared.run_state.RunState.{RunState}
use Rattle.machine_state.specs.RunStates.{config_of}
use Rattle.machine_state.specs.LedgerRunsOutcomes.{went}
use Rattle.ledger_state.specs.Contents.{HeapContents}
use Rattle.ledger_state.specs.declared.entry.Entry.{Entry}

share_length : (arrays : List ArrayObject) (n : ℕ) (o : Option ArrayObject) → length (share arrays n o) ≡ length arrays
share_length arrays n None = refl
share_length arrays n (Some a) = length-set arrays n (record a { shared = true })

value_length : (arrays : List ArrayObject) (v : Value) → length (share_value arrays v) ≡ length arrays
value_length arrays (values.Array n) = share_length arrays n (slice_get arrays n)
value_length arrays values.Nothing = refl
value_length arrays values.Null = refl
value_length arrays values.Text = refl
value_length arrays (values.Number z) = refl
value_length arrays (values.Object k) = refl

-- sharing makes no array and drops none
pub shared_length : (arrays : List ArrayObject) (vs : List Value) → length (share_all arrays vs) ≡ length arrays
shared_length arrays [] = refl
shared_length arrays (v ∷ vs) = shared_length (share_value arrays v) vs ∙ value_length arrays v

-- the frame that begins at a call, and what the step leaves, part by part
pub began_is : (p : Program) (cells : List Cell) (c : Config) (top : ActiveFrame) (below all : List ActiveFrame) (named runs : MethodId) (a : Action) (pos : Pos) (callee : Frame) → c.frames ≡ frame_seen cells top ∷ frames_seen cells below → c.frames ≡ frames_seen cells all → callee ≡ begun p runs (self_begun top.locals a c.heap) (argument_values top.locals a (method_at p named)) → record c {
  frames = callee ∷ c.frames;
  heap = (started p c.heap top.locals a (method_at p named) (length all + 1) pos (held callee.locals ∷ map held_in (reverse all))).heap;
  entries = c.entries ++ (started p c.heap top.locals a (method_at p named) (length all + 1) pos (held callee.locals ∷ map held_in (reverse all))).lines;
} ≡ began p c (frame_seen cells top) (frames_seen cells below) named runs a pos
began_is p cells c top below all named runs a pos callee split whole is =
    let more : length all + 1 ≡ length (frame_seen cells top ∷ frames_seen cells below) + 1 = ap (λ n. n + 1) (sym (count_seen cells all) ∙ ap length (sym whole ∙ split)) in
    let held_all : map held_in (reverse all) ≡ held_by (frame_seen cells top ∷ frames_seen cells below) = sym (held_seen cells all) ∙ ap held_by (sym whole ∙ split) in
    let count : length (frame_seen cells top ∷ frames_seen cells below) + 1 ≡ length (callee ∷ frame_seen cells top ∷ frames_seen cells below) = omega arith in
    (λ i. record c {
      frames = (is i) ∷ (split i);
      heap = (started p c.heap top.locals a (method_at p named) ((more ∙ count) i) pos (held (is i).locals ∷ (held_all i))).heap;
      entries = c.entries ++ (started p c.heap top.locals a (method_at p named) ((more ∙ count) i) pos (held (is i).locals ∷ (held_all i))).lines;
    })

-- the values of the caller after a call of the library
abbrev pub library_locals : Program → Config → ActiveFrame → MethodId → Conduct → Triple → Locals
library_locals p c top m d s =
    locals_after p c.heap top.method top.locals s.action s.edge (conduct_value (length c.arrays) (method_at p m) (positions top.locals s.action (next_number c.heap) d) (next_number c.heap) d)

-- a call of the library, part by part
pub library_is : (p : Program) (cells : List Cell) (c : Config) (top : ActiveFrame) (below : List ActiveFrame) (named m : MethodId) (d : Conduct) (s : Triple) → record c {
  frames = frame_seen cells (frame_with top.method s.to (library_locals p c top m d s)) ∷ frames_seen cells below;
  heap = (library_done p c.heap top.locals s.action (method_at p named) (method_at p m) d (length below + 1) s.pos (held (library_locals p c top m d s) ∷ map held_in (reverse below))).heap;
  arrays = arrays_given (arguments_shared c.arrays top.locals s.action (method_at p named)) (result_in (method_at p m)) d;
  used = one_more_used c.choices c.used;
  entries = c.entries ++ (library_done p c.heap top.locals s.action (method_at p named) (method_at p m) d (length below + 1) s.pos (held (library_locals p c top m d s) ∷ map held_in (reverse below))).lines;
} ≡ library_went p c (frame_seen cells top) (frames_seen cells below) named m d (step_in cells s)
library_is p cells c top below named m d s =
    let l : ℕ → Locals = λ n. locals_after p c.heap top.method top.locals s.action s.edge (conduct_value n (method_at p m) (positions top.locals s.action (next_number c.heap) d) (next_number c.heap) d) in
    let arrays : length c.arrays ≡ length (arguments_shared c.arrays top.locals s.action (method_at p named)) = sym (shared_length c.arrays (argument_values top.locals s.action (method_at p named))) in
    let held_all : map held_in (reverse below) ≡ held_by (frames_seen cells below) = sym (held_seen cells below) in
    let count : length below + 1 ≡ length (frames_seen cells below) + 1 = ap (λ n. n + 1) (sym (count_seen cells below)) in
    (λ i. record c {
      frames = frame_seen cells (frame_with top.method s.to (l (arrays i))) ∷ frames_seen cells below;
      heap = (library_done p c.heap top.locals s.action (method_at p named) (method_at p m) d (count i) s.pos (held (l (arrays i)) ∷ (held_all i))).heap;
      arrays = arrays_given (arguments_shared c.arrays top.locals s.action (method_at p named)) (result_in (method_at p m)) d;
      used = one_more_used c.choices c.used;
      entries = c.entries ++ (library_done p c.heap top.locals s.action (method_at p named) (method_at p m) d (count i) s.pos (held (l (arrays i)) ∷ (held_all i))).lines;
    })

-- the values of the caller after a return
abbrev pub returned_locals : Program → Config → ActiveFrame → ActiveFrame → Completion → Option ClassId → Triple → Locals
returned_locals p c top caller q e t =
    locals_after p c.heap caller.method caller.locals t.action t.edge (answered top.locals.this t.action (result_value top.locals (method_at p top.method) q) e)

abbrev pub return_effect : Program → Config → ActiveFrame → ActiveFrame → ℕ → Pos → Completion → Option ClassId → MethodId → Triple → List (List Value) → Effect
return_effect p c top caller i pos q e named t held_after =
    ends.returned p c.heap i top.locals.this caller.locals t.action (method_at p top.method) (method_at p named) (result_value top.locals (method_at p top.method) q) e pos t.pos held_after

-- a return, part by part
pub returned_is : (p : Program) (cells : List Cell) (c : Config) (top caller : ActiveFrame) (below : List ActiveFrame) (pos : Pos) (q : Completion) (e : Option ClassId) (named : MethodId) (t : Triple) → record c {
  frames = frame_seen cells (frame_with caller.method t.to (returned_locals p c top caller q e t)) ∷ frames_seen cells below;
  heap = (return_effect p c top caller (length below + 1) pos q e named t (held (returned_locals p c top caller q e t) ∷ map held_in (reverse below))).heap;
  entries = c.entries ++ (return_effect p c top caller (length below + 1) pos q e named t (held (returned_locals p c top caller q e t) ∷ map held_in (reverse below))).lines;
} ≡ returned p c (frame_seen cells top) (frame_seen cells caller) (frames_seen cells below) pos q e named (step_in cells t)
returned_is p cells c top caller below pos q e named t =
    let held_all : map held_in (reverse below) ≡ held_by (frames_seen cells below) = sym (held_seen cells below) in
    let count : length below + 1 ≡ length (frames_seen cells below) + 1 = ap (λ n. n + 1) (sym (count_seen cells below)) in
    (λ i. record c {
      frames = frame_seen cells (frame_with caller.method t.to (returned_locals p c top caller q e t)) ∷ frames_seen cells below;
      heap = (return_effect p c top caller (count i) pos q e named t (held (returned_locals p c top caller q e t) ∷ (held_all i))).heap;
      entries = c.entries ++ (return_effect p c top caller (count i) pos q e named t (held (returned_locals p c top caller q e t) ∷ (held_all i))).lines;
    })

-- a call of the program's method begins
pub start_went : (p : Program) (m : RunState) (cells : List Cell) (top : ActiveFrame) (below : List ActiveFrame) (named runs : MethodId) (a : Action) (pos : Pos) (frame : ActiveFrame) (all frames : List ActiveFrame) (heap : HeapContents) (entries : List Entry)
    → m.frames.items ≡ below ++ top ∷ []
    → all ≡ m.frames.items
    → frames_seen cells m.frames.items ≡ frames_seen m.lists.cells.keys m.frames.items
    → frames ≡ m.frames.items ++ frame ∷ []
    → frame_seen cells frame ≡ begun p runs (self_begun top.locals a m.heap) (argument_values top.locals a (method_at p named))
    → heap ≡ (started p m.heap top.locals a (method_at p named) (length all + 1) pos (held frame.locals ∷ map held_in (reverse all))).heap
    → entries ≡ m.entries.items ++ (started p m.heap top.locals a (method_at p named) (length all + 1) pos (held frame.locals ∷ map held_in (reverse all))).lines
    → went (record (config_of m) { frames = frames_seen cells frames; heap = heap; entries = entries })
    ≡ moved_by p (config_of m) (frames_seen m.lists.cells.keys m.frames.items) (Start named runs a pos)
start_went p m cells top below named runs a pos frame all frames heap entries split all_is kept put frame_is heap_is entries_is =
    let old : List Cell = m.lists.cells.keys in
    let frames_are : frames_seen cells frames ≡ frame_seen cells frame ∷ frames_seen old m.frames.items = last_seen cells frames m.frames.items frame put ∙ ap (λ frs. frame_seen cells frame ∷ frs) kept in
    let on_top = last_seen old m.frames.items below top split in
    ap went ((λ i. record (config_of m) { frames = frames_are i; heap = heap_is i; entries = entries_is i }) ∙ began_is p old (config_of m) top below all named runs a pos (frame_seen cells frame) on_top (ap (frames_seen old) (sym all_is)) frame_is)
    ∙ sym (moved_top p (config_of m) (frames_seen old m.frames.items) (frame_seen old top) (frames_seen old below) (Start named runs a pos) on_top)

-- a call of the library
pub library_call_went : (p : Program) (m : RunState) (top : ActiveFrame) (below : List ActiveFrame) (named method : MethodId) (d : Conduct) (s : Triple) (count : ℕ) (value : Value) (locals : Locals) (frames : List ActiveFrame) (heap : HeapContents) (arrays : List ArrayObject) (used : ℕ) (entries : List Entry)
    → m.frames.items ≡ below ++ top ∷ []
    → frames ≡ below ++ frame_with top.method s.to locals ∷ []
    → count ≡ length m.arrays.items
    → value ≡ conduct_value count (method_at p method) (positions top.locals s.action (next_number m.heap) d) (next_number m.heap) d
    → locals ≡ locals_after p m.heap top.method top.locals s.action s.edge value
    → heap ≡ (library_done p m.heap top.locals s.action (method_at p named) (method_at p method) d (length below + 1) s.pos (held locals ∷ map held_in (reverse below))).heap
    → arrays ≡ arrays_given (arguments_shared m.arrays.items top.locals s.action (method_at p named)) (result_in (method_at p method)) d
    → used ≡ one_more_used m.choices.items m.used
    → entries ≡ m.entries.items ++ (library_done p m.heap top.locals s.action (method_at p named) (method_at p method) d (length below + 1) s.pos (held locals ∷ map held_in (reverse below))).lines
    → went (record (config_of m) { frames = frames_seen m.lists.cells.keys frames; heap = heap; arrays = arrays; used = used; entries = entries })
    ≡ moved_by p (config_of m) (frames_seen m.lists.cells.keys m.frames.items) (Library named method d (step_in m.lists.cells.keys s))
library_call_went p m top below named method d s count value locals frames heap arrays used entries split put count_is value_is locals_is heap_is arrays_is used_is entries_is =
    let cells : List Cell = m.lists.cells.keys in
    let value_same = value_is ∙ ap (λ n. conduct_value n (method_at p method) (positions top.locals s.action (next_number m.heap) d) (next_number m.heap) d) count_is in
    let same : locals ≡ library_locals p (config_of m) top method d s = locals_is ∙ ap (λ v. locals_after p m.heap top.method top.locals s.action s.edge v) value_same in
    let frames_are = last_seen cells frames below (frame_with top.method s.to locals) put ∙ ap (λ l. frame_seen cells (frame_with top.method s.to l) ∷ frames_seen cells below) same in
    let heap_same = heap_is ∙ ap (λ l. (library_done p m.heap top.locals s.action (method_at p named) (method_at p method) d (length below + 1) s.pos (held l ∷ map held_in (reverse below))).heap) same in
    let lines_same = entries_is ∙ ap (λ l. m.entries.items ++ (library_done p m.heap top.locals s.action (method_at p named) (method_at p method) d (length below + 1) s.pos (held l ∷ map held_in (reverse below))).lines) same in
    ap went ((λ i. record (config_of m) { frames = frames_are i; heap = heap_same i; arrays = arrays_is i; used = used_is i; entries = lines_same i }) ∙ library_is p cells (config_of m) top below named method d s)
    ∙ sym (moved_top p (config_of m) (frames_seen cells m.frames.items) (frame_seen cells top) (frames_seen cells below) (Library named method d (step_in cells s)) (last_seen cells m.frames.items below top split))

-- the two frames on top
pub two_seen : (cells : List Cell) (xs ys zs : List ActiveFrame) (top caller : ActiveFrame) → xs ≡ ys ++ top ∷ [] → ys ≡ zs ++ caller ∷ [] → frames_seen cells xs ≡ frame_seen cells top ∷ frame_seen cells caller ∷ frames_seen cells zs
two_seen cells xs ys zs top caller e f = last_seen cells xs ys top e ∙ ap (λ frs. frame_seen cells top ∷ frs) (last_seen cells ys zs caller f)

-- a frame ends, and its caller takes the step of its call
pub return_went : (p : Program) (m : RunState) (top caller : ActiveFrame) (below others : List ActiveFrame) (fr from : Frame) (frs : List Frame) (pos : Pos) (q : Completion) (e : Option ClassId) (named : MethodId) (t : Triple) (value : Value) (locals : Locals) (frames : List ActiveFrame) (heap : HeapContents) (entries : List Entry)
    → m.frames.items ≡ others ++ top ∷ []
    → others ≡ below ++ caller ∷ []
    → frames_seen m.lists.cells.keys m.frames.items ≡ fr ∷ from ∷ frs
    → frames ≡ below ++ frame_with caller.method t.to locals ∷ []
    → value ≡ result_value top.locals (method_at p top.method) q
    → locals ≡ locals_after p m.heap caller.method caller.locals t.action t.edge (answered top.locals.this t.action value e)
    → heap ≡ (ends.returned p m.heap (length below + 1) top.locals.this caller.locals t.action (method_at p top.method) (method_at p named) value e pos t.pos (held locals ∷ map held_in (reverse below))).heap
    → entries ≡ m.entries.items ++ (ends.returned p m.heap (length below + 1) top.locals.this caller.locals t.action (method_at p top.method) (method_at p named) value e pos t.pos (held locals ∷ map held_in (reverse below))).lines
    → record (config_of m) { frames = frames_seen m.lists.cells.keys frames; heap = heap; entries = entries }
    ≡ returned p (config_of m) fr from frs pos q e named (step_in m.lists.cells.keys t)
return_went p m top caller below others fr from frs pos q e named t value locals frames heap entries split under seen put value_is locals_is heap_is entries_is =
    let cells : List Cell = m.lists.cells.keys in
    let two : frame_seen cells top ∷ frame_seen cells caller ∷ frames_seen cells below ≡ fr ∷ from ∷ frs = sym (two_seen cells m.frames.items others below top caller split under) ∙ seen in
    let first : frame_seen cells top ≡ fr = cc in
    let second : frame_seen cells caller ≡ from = cc in
    let third : frames_seen cells below ≡ frs = cc in
    let same : locals ≡ returned_locals p (config_of m) top caller q e t = locals_is ∙ ap (λ v. locals_after p m.heap caller.method caller.locals t.action t.edge (answered top.locals.this t.action v e)) value_is in
    let frames_are = last_seen cells frames below (frame_with caller.method t.to locals) put ∙ ap (λ l. frame_seen cells (frame_with caller.method t.to l) ∷ frames_seen cells below) same in
    let heap_same = heap_is ∙ (λ i. (ends.returned p m.heap (length below + 1) top.locals.this caller.locals t.action (method_at p top.method) (method_at p named) (value_is i) e pos t.pos (held (same i) ∷ map held_in (reverse below))).heap) in
    let lines_same = entries_is ∙ (λ i. m.entries.items ++ (ends.returned p m.heap (length below + 1) top.locals.this caller.locals t.action (method_at p top.method) (method_at p named) (value_is i) e pos t.pos (held (same i) ∷ map held_in (reverse below))).lines) in
    (λ i. record (config_of m) { frames = frames_are i; heap = heap_same i; entries = lines_same i })
    ∙ returned_is p cells (config_of m) top caller below pos q e named t
    ∙ (λ i. returned p (config_of m) (first i) (second i) (third i) pos q e named (step_in cells t))

-- how the end of the top frame goes on in its caller
pub return_seen_of : (p : Program) (cells : List Cell) (heap : HeapContents) (xs ys zs : List ActiveFrame) (top caller : ActiveFrame) (q : Completion) (r : Return) (thrown : Option ClassId) (fr from : Frame) (frs : List Frame)
    → xs ≡ ys ++ top ∷ []
    → ys ≡ zs ++ caller ∷ []
    → r ≡ return_move p (frame_steps p (frame_seen cells caller)) thrown
    → thrown ≡ exception_class p heap (thrown_in top.locals q)
    → frames_seen cells xs ≡ fr ∷ from ∷ frs
    → r ≡ return_move p (frame_steps p from) (exception_class p heap (thrown_in fr.locals q))
return_seen_of p cells heap xs ys zs top caller q r thrown fr from frs split under is thrown_is seen =
    let two : frame_seen cells top ∷ frame_seen cells caller ∷ frames_seen cells zs ≡ fr ∷ from ∷ frs = sym (two_seen cells xs ys zs top caller split under) ∙ seen in
    let first : frame_seen cells top ≡ fr = cc in
    let second : frame_seen cells caller ≡ from = cc in
    let class_is = thrown_is ∙ ap (λ (x : Frame). exception_class p heap (thrown_in x.locals q)) first in
    is ∙ (λ i. return_move p (frame_steps p (second i)) (class_is i))

-- all stays but the table, which keeps the lists, and the room for frames and lines
pub all_kept : (m : RunState) (cells : List Cell) (frames : List ActiveFrame) (entries : List Entry) → Keeps m.lists.cells.keys cells → highest_control m.frames.items ≤ length m.lists.cells.keys → frames ≡ m.frames.items → entries ≡ m.entries.items
    → record (config_of m) { frames = frames_seen cells frames; entries = entries } ≡ config_of m
all_kept m cells frames entries keeps h frames_are lines_are =
    let seen : frames_seen cells frames ≡ frames_seen m.lists.cells.keys m.frames.items = ap (frames_seen cells) frames_are ∙ frames_kept m.lists.cells.keys cells m.frames.items keeps h in
    (λ i. record (config_of m) { frames = seen i; entries = lines_are i })

-- the frames are within the bound of a longer table
pub more_bounded : (n k : ℕ) (frames xs : List ActiveFrame) → frames ≡ xs → highest_control xs ≤ n → n ≤ k → highest_control frames ≤ k
more_bounded n k frames xs e h more =
    let same : highest_control frames ≡ highest_control xs = ap highest_control e in
    omega (arith, same)

-- so are they with another one on top
pub added_bounded : (n k : ℕ) (frames xs : List ActiveFrame) (z : ActiveFrame) → frames ≡ xs ++ z ∷ [] → highest_control xs ≤ n → n ≤ k → z.control ≤ k → highest_control frames ≤ k
added_bounded n k frames xs z e h more within =
    let same : highest_control frames ≡ highest_control (xs ++ z ∷ []) = ap highest_control e in
    let parts = highest_append xs (z ∷ []) in
    omega (arith, same, parts)

-- the frames without the last one
pub top_dropped : (xs ys : List ActiveFrame) (y : ActiveFrame) (n : ℕ) → xs ≡ ys ++ y ∷ [] → n ≡ length xs → take (n - 1) xs ≡ ys
top_dropped xs ys y n e count =
    let all : length xs ≡ length ys + 1 = ap length e ∙ length-append ys (y ∷ []) in
    let at : n - 1 ≡ length ys = omega (arith, all, count) in
    ap (λ k. take k xs) at ∙ ap (take (length ys)) e ∙ take-append_seam ys (y ∷ [])

nothing_seen : (cells : List Cell) (xs : List ActiveFrame) → length xs ≡ 0 → frames_seen cells xs ≡ []
nothing_seen cells [] h = refl
nothing_seen cells (x ∷ xs) h = absurd (omega (arith, h))

-- the frame of `main` ends
pub main_went : (p : Program) (m : RunState) (top : ActiveFrame) (below : List ActiveFrame) (pos : Pos) (q : Completion) (frames : List ActiveFrame) (heap : HeapContents) (thrown : Option ClassId) (entries : List Entry)
    → m.frames.items ≡ below ++ top ∷ []
    → length below ≡ 0
    → frames ≡ []
    → heap ≡ (main_gone p m.heap pos).heap
    → thrown ≡ exception_class p m.heap (thrown_in top.locals q)
    → entries ≡ m.entries.items ++ (main_gone p m.heap pos).lines
    → went (record (config_of m) { frames = frames_seen m.lists.cells.keys frames; heap = heap; ended = thrown; entries = entries })
    ≡ moved_by p (config_of m) (frames_seen m.lists.cells.keys m.frames.items) (End pos q)
main_went p m top below pos q frames heap thrown entries split alone none heap_is thrown_is entries_is =
    let cells : List Cell = m.lists.cells.keys in
    let on_top : frames_seen cells m.frames.items ≡ frame_seen cells top ∷ [] = last_seen cells m.frames.items below top split ∙ ap (λ frs. frame_seen cells top ∷ frs) (nothing_seen cells below alone) in
    (λ i. went (record (config_of m) { frames = frames_seen cells (none i); heap = heap_is i; ended = thrown_is i; entries = entries_is i }))
    ∙ sym (ap (λ frs. moved_by p (config_of m) frs (End pos q)) on_top)

-- so is a heap that stays
pub all_kept_heap : (m : RunState) (cells : List Cell) (frames : List ActiveFrame) (heap : HeapContents) (entries : List Entry) → Keeps m.lists.cells.keys cells → highest_control m.frames.items ≤ length m.lists.cells.keys → frames ≡ m.frames.items → heap ≡ m.heap → entries ≡ m.entries.items
    → record (config_of m) { frames = frames_seen cells frames; heap = heap; entries = entries } ≡ config_of m
all_kept_heap m cells frames heap entries keeps h frames_are heap_is lines_are =
    let seen : frames_seen cells frames ≡ frames_seen m.lists.cells.keys m.frames.items = ap (frames_seen cells) frames_are ∙ frames_kept m.lists.cells.keys cells m.frames.items keeps h in
    (λ i. record (config_of m) { frames = seen i; heap = heap_is i; entries = lines_are i })
