use Rattle.std.proofs.Common.{◌≡◌, ◌∙◌, ◌∷◌, ◌<◌, ◌-◌, [], Some, ap, length, map, refl, reverse, slice_get, sym, arith}
use Rattle.std.proofs.lemmas.Grind.{common_steps}
use Rattle.std.proofs.lemmas.List.{length-reverse}
use Rattle.std.proofs.lemmas.Option.{slice_get_read}
use Rattle.ledger_obligations.proofs.HeldLaws.{held_at_frame, held_at_none, held_at_zero}
use Rattle.ledger_obligations.specs.Obligations.{held_at, held_in, holds}
use Rattle.ledger_state.specs.Locals.{held}
use Rattle.settled_heaps.proofs.frames.frame_holds.Goals as goal

pub returns-then-position-eq0 : goal.returns-then-position-eq0
returns-then-position-eq0 c =
    let none : held_at (held c.args.top.now ∷ map held_in (reverse c.args.below.now)) c.args.position ≡ [] =
    ap (held_at (held c.args.top.now ∷ map held_in (reverse c.args.below.now))) c.if-position-eq0.true ∙ held_at_zero (held c.args.top.now ∷ map held_in (reverse c.args.below.now)) in
    ap (λ v. holds c.args.heap.now v c.args.root) (sym none)

pub returns-then-position-count-2 : goal.returns-then-position-count-2
returns-then-position-count-2 c =
    let below = map held_in (reverse c.args.below.now) in
    let count : length below ≡ length c.args.below.now = grind (arith, common_steps, length-reverse c.args.below.now) in
    let beyond : length (held c.args.top.now ∷ below) < c.args.position = omega arith in
    let none : held_at (held c.args.top.now ∷ below) c.args.position ≡ [] = held_at_none (held c.args.top.now ∷ below) c.args.position beyond in
    ap (λ v. holds c.args.heap.now v c.args.root) (sym none)

pub returns : goal.returns
returns c =
    let above : 0 < c.args.position = omega arith in
    let within : c.args.position - 1 < length c.args.below.now = omega arith in
    let at : slice_get c.args.below.now (c.args.position - 1) ≡ Some c.index-below-position.result =
    slice_get_read c.args.below.now (length c.args.below.now) (c.args.position - 1) c.index-below-position.result refl within c.index-below-position.is in
    c.frame_has.ensures ∙ ap (λ v. holds c.args.heap.now v c.args.root) (sym (held_at_frame c.args.below.now (held c.args.top.now) c.args.position c.index-below-position.result above at))
