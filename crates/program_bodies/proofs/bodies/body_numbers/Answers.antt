use Rattle.std.proofs.Common.{◌≡◌, ℕ, subst, arith}
use Rattle.program_bodies.proofs.NumberSteps.{AreNoted, notes_end}
use Rattle.program_bodies.proofs.bodies.body_numbers.Goals as goal

pub returns-clause-numbers : goal.returns-clause-numbers
returns-clause-numbers c =
    let first : c.loop-number.number ≡ 0 = omega arith in
    let N : ℕ → Type 0 = λ n. AreNoted c.args.bodies.now c.args.methods n c.loop-number.numbers.items in
    notes_end c.args.bodies.now c.args.methods c.loop-number.numbers.items (subst N first c.loop-number.invariant.noted)
