use Rattle.std.proofs.Common.{arith}
use Rattle.java_expression_actions.proofs.ExpressionActionLaws.{at_prefix, at_prefix_increment, at_conditional, at_assignment, at_compound_assignment}
use Rattle.java_expression_actions.proofs.expression_actions.operator_action.Goals as goal

pub returns-in-Prefix : goal.returns-in-Prefix
returns-in-Prefix c = grind (arith, at_prefix)

pub returns-in-PrefixIncrement : goal.returns-in-PrefixIncrement
returns-in-PrefixIncrement c = grind (arith, at_prefix_increment)

pub returns-in-Conditional : goal.returns-in-Conditional
returns-in-Conditional c = grind (arith, at_conditional)

pub returns-in-Assignment : goal.returns-in-Assignment
returns-in-Assignment c = grind (arith, at_assignment)

pub returns-in-CompoundAssignment : goal.returns-in-CompoundAssignment
returns-in-CompoundAssignment c = grind (arith, at_compound_assignment)
