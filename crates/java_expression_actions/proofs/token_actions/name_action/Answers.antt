use Rattle.std.proofs.Common.{arith}
use Rattle.java_expression_actions.proofs.TokenActionLaws.{at_place, at_keep, at_name, at_extend_name, at_first_identifier, at_next_identifier, at_primitive_type}
use Rattle.java_expression_actions.proofs.token_actions.name_action.Goals as goal

pub returns-in-Place : goal.returns-in-Place
returns-in-Place c = λ limit. grind (arith, at_place)

pub returns-in-Keep : goal.returns-in-Keep
returns-in-Keep c = λ limit. grind (arith, at_keep)

pub returns-in-Name : goal.returns-in-Name
returns-in-Name c = λ limit. grind (arith, at_name)

pub returns-in_ok-made-in-ExtendName : goal.returns-in_ok-made-in-ExtendName
returns-in_ok-made-in-ExtendName c = λ limit. grind (arith, at_extend_name)

pub returns-in-FirstIdentifier : goal.returns-in-FirstIdentifier
returns-in-FirstIdentifier c = λ limit. grind (arith, at_first_identifier)

pub returns-in_ok-made-in-NextIdentifier : goal.returns-in_ok-made-in-NextIdentifier
returns-in_ok-made-in-NextIdentifier c = λ limit. grind (arith, at_next_identifier)

pub returns-in-PrimitiveType : goal.returns-in-PrimitiveType
returns-in-PrimitiveType c = λ limit. grind (arith, at_primitive_type)
