-- The arguments in memory are the typings that they say.
use Rattle.std.proofs.Common.{◌∙◌}
use Rattle.java_expression_parts.proofs.ArgumentLaws.{typed_in_memory}
use Rattle.java_expression_parts.proofs.arguments.have_types.Goals as goal

pub returns : goal.returns
returns c = c.each_has_type.ensures ∙ typed_in_memory c.args.arguments.now
