-- The typing of each expression (JLS 15), by the rules over the typings of its parts.
pub use Rattle.java_operator_expressions.specs.OperatorExpressions.{literal_typing, this_typing, element_typing, new_array_typing, answer_under_minus, answer_under, operand_typing, unary_typing, cast_typing, binary_typing, instance_of_typing, conditional_typing}
use Rattle.std.specs.Prelude.{Option, None, List, [], ◌∷◌}
use Rattle.program_model.specs.declared.kinds.VType.{VType}
use Rattle.java_syntax.specs.ExpressionTrees as syntax
use Rattle.java_typed_trees.specs.declared.facts.Answer.{Answer}
use Rattle.java_typed_trees.specs.declared.facts.Facts.{Facts}
use Rattle.java_typed_trees.specs.Answers.{type_of}
use Rattle.java_typed_trees.specs.ExpressionTrees.{ExprTree}
use Rattle.java_variable_rules.specs.Assignments.{assignment_typing, compound_typing, postfix_step_typing, prefix_step_typing, is_written_this}
use Rattle.java_call_rules.specs.Calls.{new_typing, super_call_typing, unqualified_call_typing}
use Rattle.java_variable_rules.specs.Fields.{identifier_typing}
use Rattle.java_call_rules.specs.WrittenTypes.{cast_type, element_type, tested_type}
use Rattle.java_variable_rules.specs.Names.{class_meant}
use Rattle.java_call_rules.specs.Surroundings.{Surroundings}
use Rattle.java_call_rules.specs.TypedParts.{Typing, facts_of, operand}
use Rattle.java_typed_expressions.specs.Targets.{call_on, field_on, target_typing}
use Rattle.java_operator_expressions.specs.Operators.{operator_of, step_operator_of, unary_operator_of}

-- ---- all expressions

abbrev mutual
  -- the typing of an expression where an assignment context wants this type, if it stands in one (JLS 5.2)
  pub typing : Surroundings → Option VType → syntax.ExprTree → Typing
  typing s wanted (syntax.Literal text place) = literal_typing place text
  typing s wanted (syntax.Identifier name place) = identifier_typing s place name
  typing s wanted (syntax.This place) = this_typing s place
  typing s wanted (syntax.Call name arguments place) = unqualified_call_typing s place name (typings s arguments)
  typing s wanted (syntax.SuperCall name arguments place) = super_call_typing s place name (typings s arguments)
  typing s wanted (syntax.MethodCall target name arguments place) = call_on s (is_written_this target) place name (target_typing (class_meant s target) (typing s None target)) (typings s arguments)
  typing s wanted (syntax.FieldAccess target name place) = field_on s place name (target_typing (class_meant s target) (typing s None target))
  typing s wanted (syntax.Index array index place) = element_typing place (typing s None array) (typing s None index)
  typing s wanted (syntax.NewObject c arguments place) = new_typing s place c (typings s arguments)
  typing s wanted (syntax.NewArray element size place) = new_array_typing place (element_type s element) (typing s None size)
  typing s wanted (syntax.Prefix o a place) = unary_typing (unary_operator_of o) place (operand_typing (answer_under o a) (typing s None a))
  typing s wanted (syntax.PrefixStep o x place) = prefix_step_typing s (step_operator_of o) place x (typing s None x)
  typing s wanted (syntax.PostfixStep o x place) = postfix_step_typing s (step_operator_of o) place x (typing s None x)
  typing s wanted (syntax.Cast to a place) = cast_typing s place (cast_type s to) (typing s None a)
  typing s wanted (syntax.Infix o a b place) = binary_typing s (operator_of o) place (typing s None a) (typing s None b)
  typing s wanted (syntax.InstanceOf a tested place) = instance_of_typing s place (tested_type s tested) (typing s None a)
  typing s wanted (syntax.Conditional c a b place) = conditional_typing s wanted place (typing s None c) (typing s wanted a) (typing s wanted b)
  typing s wanted (syntax.Assignment x e place) = assignment_typing s place x (typing s None x) (typing s (type_of (operand (typing s None x))) e)
  typing s wanted (syntax.CompoundAssignment o x e place) = compound_typing s (operator_of o) place x (typing s None x) (typing s None e)

  -- those of the arguments of a call or instance creation
  pub typings : Surroundings → syntax.ExprTrees → List Typing
  typings s syntax.no_expression = []
  typings s (syntax.and_expression e es) = typing s None e ∷ typings s es

-- what the rule of the expression says of it
abbrev pub verdict : Surroundings → Option VType → syntax.ExprTree → Answer
verdict s wanted e = (typing s wanted e).answer

-- what the expression gives
abbrev pub facts : Surroundings → Option VType → syntax.ExprTree → Facts
facts s wanted e = facts_of (typing s wanted e)

-- what it gives where a value is needed
abbrev pub value_facts : Surroundings → Option VType → syntax.ExprTree → Facts
value_facts s wanted e = operand (typing s wanted e)

-- its typed tree
abbrev pub tree : Surroundings → Option VType → syntax.ExprTree → ExprTree
tree s wanted e = (typing s wanted e).tree
