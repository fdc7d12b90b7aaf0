use Rattle.std.proofs.Common.{arith}
use Rattle.java_expression_actions.proofs.ExpressionActionLaws.{at_index, at_named_index, at_new_array, at_cast, at_instance_of}
use Rattle.java_expression_actions.proofs.expression_actions.array_action.Goals as goal

pub returns-in-Index : goal.returns-in-Index
returns-in-Index c = grind (arith, at_index)

pub returns-in_ok-array-in-NamedIndex : goal.returns-in_ok-array-in-NamedIndex
returns-in_ok-array-in-NamedIndex c = grind (arith, at_named_index)

pub returns-in-NewArray : goal.returns-in-NewArray
returns-in-NewArray c = grind (arith, at_new_array)

pub returns-in-Cast : goal.returns-in-Cast
returns-in-Cast c = grind (arith, at_cast)

pub returns-in-InstanceOf : goal.returns-in-InstanceOf
returns-in-InstanceOf c = grind (arith, at_instance_of)
