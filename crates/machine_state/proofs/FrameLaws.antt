-- Frames over a table of lists.
use Rattle.std.proofs.Common.{◌≡◌, ◌∙◌, ap, refl, arith, Result, Ok, Err, OnErr, ℕ, ◌+◌, ◌-◌, ◌<◌, ◌≤◌, max, List, [], ◌∷◌, ◌++◌, map, length, length-append, nat_eq, reverse, set}
use Rattle.std.proofs.lemmas.List.{length-map, length-reverse, reverse-append, set-append_right}
use Rattle.control_actions.specs.declared.cell.Cell.{Cell}
use Rattle.control_actions.specs.Remaining.{todos}
use Rattle.control_actions.specs.Tables.{Keeps}
use Rattle.ledger_runs.specs.Configuration.{Config, Frame, held_by}
use Rattle.program_model.specs.declared.kinds.MethodId.{MethodId}
use Rattle.program_model.specs.declared.program.Program.{Program}
use Rattle.ledger_runs.specs.Moves.{Move}
use Rattle.ledger_runs.specs.Steps.{has_ended, moved, moved_by}
use Rattle.ledger_state.specs.declared.locals.Locals.{Locals}
use Rattle.control_actions.specs.declared.lists.Lists.{Lists}
use Rattle.machine_state.specs.declared.run_state.RunState.{RunState}
use Rattle.machine_state.specs.RunStates.{config_of}
use Rattle.ledger_runs.specs.Frames.{frame_seen, frames_seen, highest_control}
use Rattle.ledger_obligations.specs.declared.active_frame.ActiveFrame.{ActiveFrame}
use Rattle.ledger_obligations.specs.Obligations.{held_in}

-- a frame is the same over a table that keeps the lists
pub frame_kept : (old new : List Cell) (fr : ActiveFrame) → Keeps old new → fr.control ≤ length old → frame_seen new fr ≡ frame_seen old fr
frame_kept old new fr keeps h = ap (λ list. record { method = fr.method; control = todos list; locals = fr.locals }) (keeps.same fr.control h)

each_kept : (old new : List Cell) (frs : List ActiveFrame) → Keeps old new → highest_control frs ≤ length old → map (frame_seen new) frs ≡ map (frame_seen old) frs
each_kept old new [] keeps h = refl
each_kept old new (fr ∷ frs) keeps h =
    let first : frame_seen new fr ≡ frame_seen old fr = frame_kept old new fr keeps (omega arith) in
    let rest : map (frame_seen new) frs ≡ map (frame_seen old) frs = each_kept old new frs keeps (omega arith) in
    cc

pub highest_append : (xs ys : List ActiveFrame) → highest_control (xs ++ ys) ≡ max (highest_control xs) (highest_control ys)
highest_append [] ys = omega arith
highest_append (x ∷ xs) ys =
    let rest = highest_append xs ys in
    omega (arith, rest)

highest_reverse : (xs : List ActiveFrame) → highest_control (reverse xs) ≡ highest_control xs
highest_reverse [] = refl
highest_reverse (x ∷ xs) =
    let turned : reverse (x ∷ xs) ≡ reverse xs ++ x ∷ [] = reverse-append (x ∷ []) xs in
    let parts = highest_append (reverse xs) (x ∷ []) in
    let rest = highest_reverse xs in
    ap highest_control turned ∙ omega (arith, parts, rest)

-- so are all frames
pub frames_kept : (old new : List Cell) (frs : List ActiveFrame) → Keeps old new → highest_control frs ≤ length old → frames_seen new frs ≡ frames_seen old frs
frames_kept old new frs keeps h =
    let turned = highest_reverse frs in
    each_kept old new (reverse frs) keeps (omega (arith, turned))

-- the last of the frames is on top
pub last_seen : (cells : List Cell) (xs ys : List ActiveFrame) (y : ActiveFrame) → xs ≡ ys ++ y ∷ [] → frames_seen cells xs ≡ frame_seen cells y ∷ frames_seen cells ys
last_seen cells xs ys y e = ap (frames_seen cells) e ∙ ap (map (frame_seen cells)) (reverse-append ys (y ∷ []))

-- another frame stands in the place of the last one
pub last_put : (xs ys : List ActiveFrame) (y z : ActiveFrame) → xs ≡ ys ++ y ∷ [] → set xs (length xs - 1) z ≡ ys ++ z ∷ []
last_put xs ys y z e =
    let n : length xs ≡ length ys + 1 = ap length e ∙ length-append ys (y ∷ []) in
    let at : length xs - 1 ≡ length ys = omega (arith, n) in
    let gap : length ys - length ys ≡ 0 = omega arith in
    ap (λ i. set xs i z) at ∙ ap (λ ws. set ws (length ys) z) e ∙ set-append_right ys (y ∷ []) (length ys) (length ys) z refl (omega arith)
    ∙ ap (λ i. ys ++ set (y ∷ []) i z) gap

each_held : (cells : List Cell) (frs : List ActiveFrame) → held_by (map (frame_seen cells) frs) ≡ map held_in frs
each_held cells [] = refl
each_held cells (fr ∷ frs) = ap (λ xs. held_in fr ∷ xs) (each_held cells frs)

-- what the frames hold
pub held_seen : (cells : List Cell) (frs : List ActiveFrame) → held_by (frames_seen cells frs) ≡ map held_in (reverse frs)
held_seen cells frs = each_held cells (reverse frs)

-- there are as many as there are
pub count_seen : (cells : List Cell) (frs : List ActiveFrame) → length (frames_seen cells frs) ≡ length frs
count_seen cells frs = length-map (reverse frs) (frame_seen cells) ∙ length-reverse frs

ended_where : (frs : List Frame) → has_ended frs ≡ nat_eq (length frs) 0
ended_where [] = refl
ended_where (fr ∷ frs) = grind (arith)

-- no frame is left
pub ended_seen : (cells : List Cell) (frs : List ActiveFrame) → has_ended (frames_seen cells frs) ≡ nat_eq (length frs) 0
ended_seen cells frs = ended_where (frames_seen cells frs) ∙ ap (λ n. nat_eq n 0) (count_seen cells frs)

-- the last frame is within the bound of all
pub last_bounded : (n : ℕ) (xs ys : List ActiveFrame) (y : ActiveFrame) → xs ≡ ys ++ y ∷ [] → highest_control xs ≤ n → y.control ≤ n
last_bounded n xs ys y e h =
    let parts = highest_append ys (y ∷ []) in
    let all : highest_control xs ≡ highest_control (ys ++ y ∷ []) = ap highest_control e in
    omega (arith, parts, all)

-- so are those before it, with another one behind them
pub put_bounded : (n : ℕ) (xs ys : List ActiveFrame) (y z : ActiveFrame) → xs ≡ ys ++ y ∷ [] → highest_control xs ≤ n → z.control ≤ n → highest_control (ys ++ z ∷ []) ≤ n
put_bounded n xs ys y z e h k =
    let parts = highest_append ys (y ∷ []) in
    let after = highest_append ys (z ∷ []) in
    let all : highest_control xs ≡ highest_control (ys ++ y ∷ []) = ap highest_control e in
    omega (arith, parts, after, all)

-- the configuration is the same over a table that keeps the lists
pub lists_kept : (m : RunState) (lists : Lists) → Keeps m.lists.cells.keys lists.cells.keys → highest_control m.frames.items ≤ length m.lists.cells.keys → config_of (record m { lists = lists }) ≡ config_of m
lists_kept m lists keeps h = ap (λ frs. record (config_of m) { frames = frs }) (frames_kept m.lists.cells.keys lists.cells.keys m.frames.items keeps h)

-- so are those before it
pub rest_bounded : (n : ℕ) (xs ys : List ActiveFrame) (y : ActiveFrame) → xs ≡ ys ++ y ∷ [] → highest_control xs ≤ n → highest_control ys ≤ n
rest_bounded n xs ys y e h =
    let parts = highest_append ys (y ∷ []) in
    let all : highest_control xs ≡ highest_control (ys ++ y ∷ []) = ap highest_control e in
    omega (arith, parts, all)

-- a frame with its method, control and values
abbrev pub frame_with : MethodId → ℕ → Locals → ActiveFrame
frame_with m control l = record { method = m; control = control; locals = l }

-- the top frame moves
pub moved_top : (p : Program) (c : Config) (all : List Frame) (fr : Frame) (frs : List Frame) (m : Move) → all ≡ fr ∷ frs → moved_by p c all m ≡ moved p c fr frs m
moved_top p c all fr frs m e = ap (λ xs. moved_by p c xs m) e

-- the frame `z` stands in the place of the last one
pub top_put : (frames xs ys : List ActiveFrame) (y z : ActiveFrame) (n : ℕ) → xs ≡ ys ++ y ∷ [] → n ≡ length xs → frames ≡ set xs (n - 1) z → frames ≡ ys ++ z ∷ []
top_put frames xs ys y z n e count is = is ∙ ap (λ k. set xs (k - 1) z) count ∙ last_put xs ys y z e

-- what holds holds where memory ran out
pub on_error : {X E P : Type 0} (r : Result X E) → P → OnErr r P
on_error (Ok x) h = tt
on_error (Err e) h = h

-- there are as many frames as are seen
pub more_seen : (cells : List Cell) (items : List ActiveFrame) (k n : ℕ) → k < n → n ≡ length items → k < length (frames_seen cells items)
more_seen cells items k n h count =
    let seen = count_seen cells items in
    omega (arith, h, count, seen)

pub none_seen : (cells : List Cell) (items : List ActiveFrame) → length items ≡ 0 → length (frames_seen cells items) ≡ 0
none_seen cells items h = count_seen cells items ∙ h
