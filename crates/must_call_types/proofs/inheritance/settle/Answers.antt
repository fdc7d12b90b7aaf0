use Rattle.std.proofs.Common.{◌≤◌, ◌∙◌, arith}
use Rattle.must_call_types.proofs.Settling.{all_settled, graded_kept}
use Rattle.must_call_types.proofs.inheritance.settle.Goals as goal

pub settle_level-requires-clause-graded : goal.settle_level-requires-clause-graded
settle_level-requires-clause-graded c = graded_kept c.args.classes.now c.loop-size.classes c.loop-size.invariant.kept c.requires

pub returns-2-clause-sets : goal.returns-2-clause-sets
returns-2-clause-sets c =
    let last : c.greatest_level-greatest.result ≤ c.loop-size.size = omega arith in
    all_settled c.args.classes.now c.settle_level.new.classes c.loop-size.size (c.settle_level.ensures.kept ∙ c.loop-size.invariant.kept)
    (λ k d h. let most = c.greatest_level-greatest.ensures k d h in omega (arith, most, last)) c.settle_level.ensures.after
