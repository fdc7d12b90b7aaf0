use Rattle.java_literals.proofs.TextLaws.{text_turn}
use Rattle.java_literals.proofs.texts.text_between.Goals as goal

pub each-preserved : goal.each-preserved
each-preserved c = record {
  read = text_turn c.args.bytes.now c.each.byte-index c.each.text.items _ c.each.state c.in-Some.next c.each-test.true (rw c.in-Some.is at c.in_ok-next.ensures.step) c.each.invariant.read;
  room = rw c.in-Some.is at c.in_ok-next.ensures.room;
}
