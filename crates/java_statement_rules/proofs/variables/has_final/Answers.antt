use Rattle.std.proofs.Common.{◌∙◌, sym}
use Rattle.java_syntax.specs.AnnotationTrees.{modifier_of}
use Rattle.java_statement_rules.specs.DeclaredVariables.{is_final_word}
use Rattle.java_statement_rules.proofs.Lists.{any_mapped}
use Rattle.java_statement_rules.proofs.variables.has_final.Goals as goal

pub returns : goal.returns
returns c = c.any_final.ensures ∙ sym (any_mapped is_final_word modifier_of c.args.modifiers.now)
