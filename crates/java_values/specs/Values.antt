-- The values of the grammar's actions, without addresses; and what stands on the stack, the top first.
use Rattle.std.specs.Prelude.{List, Option, map, option_map, reverse}
use Rattle.rlc_base.specs.declared.place.Pos.{Pos}
use Rattle.java_syntax.specs.declared.names.Name.{Name}
use Rattle.java_syntax.specs.declared.names.Typ.{Typ}
use Rattle.java_syntax.specs.declared.declaration_trees.Import.{Import}
use Rattle.java_syntax.specs.Derives.{Lexeme}
use Rattle.java_syntax.specs.ExpressionTrees.{ExprTree, expr_of}
use Rattle.java_syntax.specs.AnnotationTrees.{AnnoTree, ArgumentTree, AnnoValueTree, ModifierTree, anno_of, anno_value_of}
use Rattle.java_syntax.specs.StatementTrees.{VariableTree, LocalTree, ResourceTree, ForStartTree, StmtTree, BlockTree, CatchTree, local_of, for_start_of, stmt_of, block_of}
use Rattle.java_syntax.specs.DeclarationTrees.{ParamTree, SuperCallTree, ConstructorBodyTree, MemberTree, ClassTree, UnitTree, param_of, super_call_of, constructor_body_of, member_of, class_of, unit_of}
use Rattle.java_values.specs.NestedTrees.{Nested, OpenOperationTree, IdentifiersTree, ParenthesizedTree, nested_of, exprs_in, optional_in, annos_in, arguments_in, anno_values_in, modifiers_in, variables_in, stmts_in, resources_in, catches_in, lexeme_in, open_operation_of, identifiers_of, parenthesized_of}
use Rattle.java_values.specs.declared.values.Parameters.{Parameters}
use Rattle.java_values.specs.declared.values.Value.{Value}
use Rattle.java_values.specs.declared.values.Value.TheVariants as value

pub record ParametersTree : Type 0 where
  pub receiver : Option ParamTree
  pub declared : List ParamTree

-- the kinds of values
pub data Kind : Type 0 where
  place : Kind
  token : Kind
  name : Kind
  optional_name : Kind
  identifiers : Kind
  names : Kind
  typ : Kind
  optional_type : Kind
  expression : Kind
  optional_expression : Kind
  expressions : Kind
  call : Kind
  operations : Kind
  parenthesized : Kind
  annotation : Kind
  annotations : Kind
  arguments : Kind
  annotation_value : Kind
  annotation_values : Kind
  modifiers : Kind
  variables : Kind
  local : Kind
  statement : Kind
  statements : Kind
  block : Kind
  for_start : Kind
  resources : Kind
  catches : Kind
  parameters : Kind
  super_call : Kind
  constructor_body : Kind
  members : Kind
  types : Kind
  imports : Kind
  unit : Kind
  units : Kind

-- what a value of each kind is
abbrev pub Value_of : Kind → Type 0
Value_of place = Pos
Value_of token = Lexeme
Value_of name = Name
Value_of optional_name = Option Name
Value_of identifiers = IdentifiersTree
Value_of names = List Name
Value_of typ = Typ
Value_of optional_type = Option Typ
Value_of expression = Nested ExprTree
Value_of optional_expression = Nested (Option ExprTree)
Value_of expressions = Nested (List ExprTree)
Value_of call = Option (Nested (List ExprTree))
Value_of operations = List OpenOperationTree
Value_of parenthesized = ParenthesizedTree
Value_of annotation = Nested AnnoTree
Value_of annotations = Nested (List AnnoTree)
Value_of arguments = Nested (List ArgumentTree)
Value_of annotation_value = Nested AnnoValueTree
Value_of annotation_values = Nested (List AnnoValueTree)
Value_of modifiers = Nested (List ModifierTree)
Value_of variables = Nested (List VariableTree)
Value_of local = Nested LocalTree
Value_of statement = Nested StmtTree
Value_of statements = Nested (List StmtTree)
Value_of block = Nested BlockTree
Value_of for_start = Nested ForStartTree
Value_of resources = Nested (List ResourceTree)
Value_of catches = Nested (List CatchTree)
Value_of parameters = ParametersTree
Value_of super_call = Option SuperCallTree
Value_of constructor_body = ConstructorBodyTree
Value_of members = List MemberTree
Value_of types = List ClassTree
Value_of imports = List Import
Value_of unit = UnitTree
Value_of units = List UnitTree

pub data ValueTree : Type 0 where
  APlace : (x : Pos) → ValueTree
  AToken : (x : Lexeme) → ValueTree
  AName : (x : Name) → ValueTree
  AOptionalName : (x : Option Name) → ValueTree
  AIdentifiers : (x : IdentifiersTree) → ValueTree
  ANames : (x : List Name) → ValueTree
  AType : (x : Typ) → ValueTree
  AOptionalType : (x : Option Typ) → ValueTree
  AExpression : (x : Nested ExprTree) → ValueTree
  AOptionalExpression : (x : Nested (Option ExprTree)) → ValueTree
  AExpressions : (x : Nested (List ExprTree)) → ValueTree
  ACall : (x : Option (Nested (List ExprTree))) → ValueTree
  AOperations : (x : List OpenOperationTree) → ValueTree
  AParenthesized : (x : ParenthesizedTree) → ValueTree
  AAnnotation : (x : Nested AnnoTree) → ValueTree
  AAnnotations : (x : Nested (List AnnoTree)) → ValueTree
  AArguments : (x : Nested (List ArgumentTree)) → ValueTree
  AAnnotationValue : (x : Nested AnnoValueTree) → ValueTree
  AAnnotationValues : (x : Nested (List AnnoValueTree)) → ValueTree
  AModifiers : (x : Nested (List ModifierTree)) → ValueTree
  AVariables : (x : Nested (List VariableTree)) → ValueTree
  ALocal : (x : Nested LocalTree) → ValueTree
  AStatement : (x : Nested StmtTree) → ValueTree
  AStatements : (x : Nested (List StmtTree)) → ValueTree
  ABlock : (x : Nested BlockTree) → ValueTree
  AForStart : (x : Nested ForStartTree) → ValueTree
  AResources : (x : Nested (List ResourceTree)) → ValueTree
  ACatches : (x : Nested (List CatchTree)) → ValueTree
  AParameters : (x : ParametersTree) → ValueTree
  ASuperCall : (x : Option SuperCallTree) → ValueTree
  AConstructorBody : (x : ConstructorBodyTree) → ValueTree
  AMembers : (x : List MemberTree) → ValueTree
  ATypes : (x : List ClassTree) → ValueTree
  AImports : (x : List Import) → ValueTree
  AUnit : (x : UnitTree) → ValueTree
  AUnits : (x : List UnitTree) → ValueTree

abbrev pub parameters_of : Parameters → ParametersTree
parameters_of p = record { receiver = option_map param_of p.receiver; declared = map param_of p.declared.items }

abbrev pub value_of : Value → ValueTree
value_of (value.Place x) = APlace x.pos
value_of (value.Token x) = AToken (lexeme_in x)
value_of (value.Name x) = AName x
value_of (value.OptionalName x) = AOptionalName x
value_of (value.Identifiers x) = AIdentifiers (identifiers_of x)
value_of (value.Names x) = ANames x.items
value_of (value.Type x) = AType x
value_of (value.OptionalType x) = AOptionalType x
value_of (value.Expression x) = AExpression (nested_of expr_of x)
value_of (value.OptionalExpression x) = AOptionalExpression (nested_of optional_in x)
value_of (value.Expressions x) = AExpressions (nested_of exprs_in x)
value_of (value.Call x) = ACall (option_map (nested_of exprs_in) x)
value_of (value.Operations x) = AOperations (map open_operation_of (reverse x.items))
value_of (value.Parenthesized x) = AParenthesized (parenthesized_of x)
value_of (value.Annotation x) = AAnnotation (nested_of anno_of x)
value_of (value.Annotations x) = AAnnotations (nested_of annos_in x)
value_of (value.Arguments x) = AArguments (nested_of arguments_in x)
value_of (value.AnnotationValue x) = AAnnotationValue (nested_of anno_value_of x.value)
value_of (value.AnnotationValues x) = AAnnotationValues (nested_of anno_values_in x)
value_of (value.Modifiers x) = AModifiers (nested_of modifiers_in x)
value_of (value.Variables x) = AVariables (nested_of variables_in x)
value_of (value.Local x) = ALocal (nested_of local_of x)
value_of (value.Statement x) = AStatement (nested_of stmt_of x.value)
value_of (value.Statements x) = AStatements (nested_of stmts_in x)
value_of (value.Block x) = ABlock (nested_of block_of x)
value_of (value.ForStart x) = AForStart (nested_of for_start_of x)
value_of (value.Resources x) = AResources (nested_of resources_in x)
value_of (value.Catches x) = ACatches (nested_of catches_in x)
value_of (value.Parameters x) = AParameters (parameters_of x)
value_of (value.SuperCall x) = ASuperCall (option_map super_call_of x)
value_of (value.ConstructorBody x) = AConstructorBody (constructor_body_of x)
value_of (value.Members x) = AMembers (map member_of x.items)
value_of (value.Types x) = ATypes (map class_of x.items)
value_of (value.Imports x) = AImports x.items
value_of (value.Unit x) = AUnit (unit_of x)
value_of (value.Units x) = AUnits (map unit_of x.items)

-- the values on the stack, the top first
abbrev pub values_of : List Value → List ValueTree
values_of vs = map value_of (reverse vs)
