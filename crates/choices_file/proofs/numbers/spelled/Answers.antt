use Rattle.choices_file.proofs.NumberLaws.{past_largest}
use Rattle.choices_file.proofs.numbers.spelled.Goals as goal

pub returns-in-None : goal.returns-in-None
returns-in-None c =
    past_largest c.args.largest c.each.number c.each.byte-index c.args.text.now c.ranges.largest.fits c.each-test.true c.each.invariant c.in-None.ensures
