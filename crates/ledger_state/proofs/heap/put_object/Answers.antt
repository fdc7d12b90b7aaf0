use Rattle.std.proofs.Common.{◌≤◌, sym, arith}
use Rattle.ledger_state.proofs.HeapLemmas.{put_at_place, put_nowhere, put_past}
use Rattle.ledger_state.proofs.heap.put_object.Goals as goal

pub returns-then-number-eq0 : goal.returns-then-number-eq0
returns-then-number-eq0 c = rw c.if-number-eq0.true (sym (put_nowhere c.args.object c.args.objects.now))

pub returns-then-place-objects : goal.returns-then-place-objects
returns-then-place-objects c =
    let above : 1 ≤ c.args.number = omega arith in
    sym (put_at_place c.args.number c.args.object c.args.objects.now above)

pub returns-else-place-objects : goal.returns-else-place-objects
returns-else-place-objects c =
    let above : 1 ≤ c.args.number = omega arith in
    sym (put_past c.args.number c.args.object c.args.objects.now (omega arith) above)
