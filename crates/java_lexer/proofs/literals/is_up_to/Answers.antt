use Rattle.java_lexer.proofs.NumberLaws.{past_largest}
use Rattle.java_lexer.proofs.literals.is_up_to.Goals as goal

pub returns-in-None : goal.returns-in-None
returns-in-None c =
    past_largest c.args.base c.args.largest c.loop-byte.number c.loop-byte.byte-index c.args.text.now c.requires c.ranges.largest.fits c.loop-byte-test.true c.loop-byte.invariant c.in-None.ensures
