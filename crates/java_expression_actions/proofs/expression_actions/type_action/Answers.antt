use Rattle.std.proofs.Common.{arith}
use Rattle.java_expression_actions.proofs.ExpressionActionLaws.{at_named_type, at_identifiers_type, at_array_type, at_array_of}
use Rattle.java_expression_actions.proofs.expression_actions.type_action.Goals as goal

pub returns-in-NamedType : goal.returns-in-NamedType
returns-in-NamedType c = λ limit. grind (arith, at_named_type)

pub returns-in_ok-typ-in-IdentifiersType : goal.returns-in_ok-typ-in-IdentifiersType
returns-in_ok-typ-in-IdentifiersType c = λ limit. grind (arith, at_identifiers_type)

pub returns-in_ok-typ-in-ArrayType : goal.returns-in_ok-typ-in-ArrayType
returns-in_ok-typ-in-ArrayType c = λ limit. grind (arith, at_array_type)

pub returns-in-ArrayOf : goal.returns-in-ArrayOf
returns-in-ArrayOf c = λ limit. grind (arith, at_array_of)
