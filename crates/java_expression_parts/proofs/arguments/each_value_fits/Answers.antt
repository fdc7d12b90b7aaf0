-- The arguments in memory are the typings that they say.
use Rattle.std.proofs.Common.{◌∙◌}
use Rattle.java_expression_parts.proofs.ArgumentLaws.{each_in_memory}
use Rattle.java_expression_parts.proofs.arguments.each_value_fits.Goals as goal

pub returns : goal.returns
returns c = c.fit_in_memory.ensures ∙ each_in_memory c.args.p.now c.args.arguments.now c.args.params.now
