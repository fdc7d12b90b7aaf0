use Rattle.must_call_types.proofs.Settling.{kept_by, settled_by}
use Rattle.must_call_types.proofs.inheritance.settle_at.Goals as goal

pub returns-then-level_of-size-clause-kept : goal.returns-then-level_of-size-clause-kept
returns-then-level_of-size-clause-kept c = kept_by c.args.classes.now c.settle_class.new.classes c.args.class c.requires.class c.settle_class.ensures

pub returns-then-level_of-size-clause-after : goal.returns-then-level_of-size-clause-after
returns-then-level_of-size-clause-after c =
    settled_by c.args.classes.now c.settle_class.new.classes c.args.size c.args.class c.level_of.result c.requires.graded c.requires.class c.level_of.ensures
    c.if-level_of-size.true c.requires.before c.settle_class.ensures
