use Rattle.std.proofs.Common.{arith}
use Rattle.std.proofs.lemmas.List.{map-append}
use Rattle.java_expression_actions.proofs.AnnotationActionLaws.{at_no_arguments, at_annotation, at_pair, at_single_value, at_expression_value, at_annotation_value}
use Rattle.java_expression_actions.proofs.annotation_actions.argument_action.Goals as goal

pub returns-in-NoArguments : goal.returns-in-NoArguments
returns-in-NoArguments c = grind (arith, at_no_arguments)

pub returns-in_ok-made-in-Annotation : goal.returns-in_ok-made-in-Annotation
returns-in_ok-made-in-Annotation c = grind (arith, at_annotation)

pub returns-in_ok-made-in-Pair : goal.returns-in_ok-made-in-Pair
returns-in_ok-made-in-Pair c = grind (arith, at_pair, map-append)

pub returns-in_ok-made-in-SingleValue : goal.returns-in_ok-made-in-SingleValue
returns-in_ok-made-in-SingleValue c = grind (arith, at_single_value, map-append)

pub returns-in-ExpressionValue : goal.returns-in-ExpressionValue
returns-in-ExpressionValue c = grind (arith, at_expression_value)

pub returns-in-AnnotationValue : goal.returns-in-AnnotationValue
returns-in-AnnotationValue c = grind (arith, at_annotation_value)
