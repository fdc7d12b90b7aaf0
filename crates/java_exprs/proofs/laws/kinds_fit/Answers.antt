use Rattle.java_exprs.proofs.Sense.{whole_leaves}
use Rattle.java_exprs.proofs.laws.kinds_fit.Goals as goal

pub returns : goal.returns
returns c = whole_leaves
