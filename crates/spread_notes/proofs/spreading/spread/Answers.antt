use Rattle.std.proofs.Common.{◌≡◌, ◌+◌, ◌*◌, ◌≤◌, ap, length, arith}
use Rattle.ledger_state.specs.Contents.{HeapContents}
use Rattle.spread_notes.proofs.NewNotes.{follows_next, turn_grows}
use Rattle.spread_notes.proofs.NoteTurns.{spread_found, spread_next}
use Rattle.spread_notes.proofs.spreading.spread.Goals as goal

pub turns-preserved : goal.turns-preserved
turns-preserved c =
    let p = c.args.p.now in
    let h = c.args.heap.now in
    let before = c.turns.notes.items in
    let after = c.turn.new.notes.items in
    let made = c.in_ok-turn.ensures in
    let old = c.turns.notes.ok.0 in
    let count : c.len-before.result ≡ length c.turns.notes.items = omega (arith, old, c.len-before.ensures) in
    record {
      reached = spread_next c.turns._turn (c.turns._turn + 1) p h c.args.notes.now.items before after (omega arith) c.turns.invariant.reached made;
      within = turn_grows p h before after c.len-before.result count made;
      follows = follows_next p h before after c.len-before.result count made;
    }

pub returns-then-len-before : goal.returns-then-len-before
returns-then-len-before c =
    let count = ap (λ (h : HeapContents). length h.objects) c.heap.view_is in
    let few : c.turns._turn ≤ 256 * length c.args.heap.now.objects = omega (arith, count, c.turns-test.true, c.len-in-turns.ensures) in
    let old = c.turns.notes.ok.0 in
    let new = c.turn.new.notes.ok.0 in
    let same : length c.turn.new.notes.items ≡ length c.turns.notes.items = omega (arith, old, new, c.len.ensures, c.len-before.ensures, c.if-len-before.true) in
    λ _. spread_found c.turns._turn c.args.p.now c.args.heap.now c.args.notes.now.items c.turns.notes.items c.turn.new.notes.items few c.turns.invariant.reached c.in_ok-turn.ensures same
