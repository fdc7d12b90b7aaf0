use Rattle.std.proofs.Common.{refl, arith}
use Rattle.effective_signatures.proofs.Decimals.{too_large}
use Rattle.effective_signatures.proofs.targets.number_up_to.Goals as goal

pub returns-then-value-from : goal.returns-then-value-from
returns-then-value-from c =
    too_large c.args.count c.loop-digit.digit-index c.args.digits.now c.loop-digit.value _ _ c.loop-digit-test.true c.loop-digit.invariant.read refl c.next_digit-value.ensures (omega arith)
