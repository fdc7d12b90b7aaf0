use Rattle.std.proofs.Common.{arith}
use Rattle.std.proofs.lemmas.List.{map-append}
use Rattle.java_expression_actions.proofs.AnnotationActionLaws.{at_no_values, at_and_value, at_list_value, at_and_annotation}
use Rattle.java_expression_actions.proofs.annotation_actions.value_action.Goals as goal

pub returns-in-NoValues : goal.returns-in-NoValues
returns-in-NoValues c = grind (arith, at_no_values)

pub returns-in_ok-made-in-AndValue : goal.returns-in_ok-made-in-AndValue
returns-in_ok-made-in-AndValue c = grind (arith, at_and_value, map-append)

pub returns-in-ListValue : goal.returns-in-ListValue
returns-in-ListValue c = grind (arith, at_list_value)

pub returns-in_ok-made-in-AndAnnotation : goal.returns-in_ok-made-in-AndAnnotation
returns-in_ok-made-in-AndAnnotation c = grind (arith, at_and_annotation, map-append)
