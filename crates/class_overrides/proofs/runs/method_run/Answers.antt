-- Nothing is alike to a constructor or a private method.
use Rattle.std.proofs.Common.{◌∙◌, sym}
use Rattle.class_overrides.proofs.NoneAlike.{no_run}
use Rattle.class_overrides.proofs.runs.method_run.Goals as goal

pub returns-else-may_have_alike : goal.returns-else-may_have_alike
returns-else-may_have_alike c = sym (no_run c.args.p.now c.args.n.now c.args.class (sym c.may_have_alike.ensures ∙ c.if-may_have_alike.false))
