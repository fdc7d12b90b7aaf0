-- All refusals in an expression: those in its parts, and its own. The order means nothing, and one may stand there twice. All
-- parts count, also beside a part that is refused; what stands over a refused part counts no refusal for that.
use Rattle.std.specs.Prelude.{Option, Some, None, List, [], ◌++◌}
use Rattle.std.specs.Option.{is_some}
use Rattle.rlc_base.specs.declared.faults.Refusal.{Refusal}
use Rattle.program_model.specs.declared.kinds.ClassId.{ClassId}
use Rattle.program_model.specs.declared.kinds.VType.{VType}
use Rattle.java_syntax.specs.declared.names.Name.{Name}
use Rattle.java_syntax.specs.ExpressionTrees as syntax
use Rattle.java_typed_trees.specs.declared.facts.Answer.{Answer}
use Rattle.java_typed_trees.specs.Answers.{type_of}
use Rattle.java_typed_trees.specs.Settling.{own_cases}
use Rattle.java_call_rules.specs.WrittenTypes.{cast_type, class_of_name, element_type, tested_type, type_cases, unknown_name_cases}
use Rattle.java_variable_rules.specs.Names.{class_meant}
use Rattle.java_call_rules.specs.Surroundings.{Surroundings}
use Rattle.java_call_rules.specs.TypedParts.{operand, own_refusals, value_refusals}
use Rattle.java_typed_expressions.specs.Typings.{answer_under, typing}

-- those of what stands before a dot: a class has none
abbrev pub target_cases : Option ClassId → List Refusal → List Refusal
target_cases None those = those
target_cases (Some c) those = []

-- those of the operand of a unary expression: a literal under a minus has a rule of its own
abbrev pub operand_cases : Surroundings → Option Answer → List Refusal → List Refusal
operand_cases s None those = those
operand_cases s (Some given) those = own_cases s.context.program s.context.covered given

-- that of the name of the class of which an object is made
abbrev pub class_cases : Surroundings → Name → List Refusal
class_cases s c = unknown_name_cases (is_some (class_of_name s c.text)) c.pos

abbrev mutual
  -- the refusals in an expression where an assignment context wants this type, if it stands in one
  pub cases : Surroundings → Option VType → syntax.ExprTree → List Refusal
  cases s wanted (syntax.Literal text place) = own_refusals s (typing s wanted (syntax.Literal text place))
  cases s wanted (syntax.Identifier name place) = own_refusals s (typing s wanted (syntax.Identifier name place))
  cases s wanted (syntax.This place) = own_refusals s (typing s wanted (syntax.This place))
  cases s wanted (syntax.Call name arguments place) = argument_cases s arguments ++ own_refusals s (typing s wanted (syntax.Call name arguments place))
  cases s wanted (syntax.SuperCall name arguments place) = argument_cases s arguments ++ own_refusals s (typing s wanted (syntax.SuperCall name arguments place))
  cases s wanted (syntax.MethodCall target name arguments place) = target_cases (class_meant s target) (value_refusals (cases s None target) (typing s None target)) ++ argument_cases s arguments ++ own_refusals s (typing s wanted (syntax.MethodCall target name arguments place))
  cases s wanted (syntax.FieldAccess target name place) = target_cases (class_meant s target) (value_refusals (cases s None target) (typing s None target)) ++ own_refusals s (typing s wanted (syntax.FieldAccess target name place))
  cases s wanted (syntax.Index array index place) = value_refusals (cases s None array) (typing s None array) ++ value_refusals (cases s None index) (typing s None index) ++ own_refusals s (typing s wanted (syntax.Index array index place))
  cases s wanted (syntax.NewObject c arguments place) = class_cases s c ++ argument_cases s arguments ++ own_refusals s (typing s wanted (syntax.NewObject c arguments place))
  cases s wanted (syntax.NewArray element size place) = type_cases (element_type s element) element ++ value_refusals (cases s None size) (typing s None size) ++ own_refusals s (typing s wanted (syntax.NewArray element size place))
  cases s wanted (syntax.Prefix o a place) = operand_cases s (answer_under o a) (value_refusals (cases s None a) (typing s None a)) ++ own_refusals s (typing s wanted (syntax.Prefix o a place))
  cases s wanted (syntax.PrefixStep o x place) = value_refusals (cases s None x) (typing s None x) ++ own_refusals s (typing s wanted (syntax.PrefixStep o x place))
  cases s wanted (syntax.PostfixStep o x place) = value_refusals (cases s None x) (typing s None x) ++ own_refusals s (typing s wanted (syntax.PostfixStep o x place))
  cases s wanted (syntax.Cast to a place) = type_cases (cast_type s to) to ++ value_refusals (cases s None a) (typing s None a) ++ own_refusals s (typing s wanted (syntax.Cast to a place))
  cases s wanted (syntax.Infix o a b place) = value_refusals (cases s None a) (typing s None a) ++ value_refusals (cases s None b) (typing s None b) ++ own_refusals s (typing s wanted (syntax.Infix o a b place))
  cases s wanted (syntax.InstanceOf a tested place) = value_refusals (cases s None a) (typing s None a) ++ type_cases (tested_type s tested) tested ++ own_refusals s (typing s wanted (syntax.InstanceOf a tested place))
  cases s wanted (syntax.Conditional c a b place) = value_refusals (cases s None c) (typing s None c) ++ value_refusals (cases s wanted a) (typing s wanted a) ++ value_refusals (cases s wanted b) (typing s wanted b) ++ own_refusals s (typing s wanted (syntax.Conditional c a b place))
  cases s wanted (syntax.Assignment x e place) = value_refusals (cases s None x) (typing s None x) ++ value_refusals (cases s (type_of (operand (typing s None x))) e) (typing s (type_of (operand (typing s None x))) e) ++ own_refusals s (typing s wanted (syntax.Assignment x e place))
  cases s wanted (syntax.CompoundAssignment o x e place) = value_refusals (cases s None x) (typing s None x) ++ value_refusals (cases s None e) (typing s None e) ++ own_refusals s (typing s wanted (syntax.CompoundAssignment o x e place))

  -- those in the arguments of a call or instance creation, which are values
  pub argument_cases : Surroundings → syntax.ExprTrees → List Refusal
  argument_cases s syntax.no_expression = []
  argument_cases s (syntax.and_expression e es) = value_refusals (cases s None e) (typing s None e) ++ argument_cases s es

-- the refusals in an expression where a value is needed
abbrev pub value_cases : Surroundings → Option VType → syntax.ExprTree → List Refusal
value_cases s wanted e = value_refusals (cases s wanted e) (typing s wanted e)
