-- The typed tree of an expression has the type of the value that the expression gives, and that of the literal `true` is that literal.
use Rattle.std.proofs.Common.{◌≡◌, List, Bool, true, false, Option, Some, None, ℕ, refl}
use Rattle.rlc_base.specs.declared.place.Pos.{Pos}
use Rattle.program_model.specs.declared.kinds.ClassId.{ClassId}
use Rattle.program_model.specs.declared.kinds.VType.{VType}
use Rattle.java_syntax.specs.ExpressionTrees as syntax
use Rattle.java_literals.specs.declared.values.LiteralValue.{LiteralValue}
use Rattle.java_literals.specs.declared.values.LiteralValue.TheVariants as values
use Rattle.java_literals.specs.Values.{literal_value}
use Rattle.java_typed_trees.specs.declared.facts.Answer.{Answer}
use Rattle.java_typed_trees.specs.declared.facts.Answer.TheVariants as answers
use Rattle.java_typed_trees.specs.declared.facts.StaticType.{StaticType}
use Rattle.java_typed_trees.specs.declared.facts.StaticType.TheVariants as static_types
use Rattle.java_typed_trees.specs.Answers.{as_value, facts_in, type_in, type_of, value_type}
use Rattle.java_typed_trees.specs.ExpressionTrees.{ExprTree, ExprTrees, and_expression, no_expression}
use Rattle.java_typed_trees.specs.Settling.{tree_in}
use Rattle.java_call_rules.specs.CallParts.{argument_trees}
use Rattle.java_variable_rules.specs.Assignments.{is_written_this}
use Rattle.java_operator_expressions.specs.Literals.{literal_by}
use Rattle.java_variable_rules.specs.Names.{class_meant}
use Rattle.java_call_rules.specs.Surroundings.{Surroundings}
use Rattle.java_call_rules.specs.TypedParts.{Typing, one, operand}
use Rattle.java_statement_rules.specs.Completions.{is_always_true}
use Rattle.java_statement_parts.specs.Heads.{is_always}
use Rattle.java_statement_parts.specs.Targets.{call_on, field_on, target_typing}
use Rattle.java_statement_parts.specs.Typings.{tree, typing, typings, value_facts}
use Rattle.acceptance_laws.proofs.TableExceptions.{is_true_tree, type_of_tree}

-- ---- types

value_has_type : (t : StaticType) → type_in t ≡ type_in (value_type t)
value_has_type (static_types.Value t) = refl
value_has_type static_types.Void = refl
value_has_type static_types.Erroneous = refl

answer_type : (given : Answer) (parts : ExprTrees) → type_of_tree (tree_in given parts) ≡ type_of (as_value (facts_in given))
answer_type (answers.Is shape facts) parts = value_has_type facts.static_type
answer_type (answers.Wrong code place) parts = refl
answer_type (answers.Silent place) parts = refl

call_type : (s : Surroundings) (o : Option ClassId) (is_this : Bool) (place : Pos) (name : List ℕ) (t : Typing) (all : List Typing) → type_of_tree (call_on s is_this place name (target_typing o t) all).tree ≡ type_of (operand (call_on s is_this place name (target_typing o t) all))
call_type s None is_this place name t all = let x : Typing = call_on s is_this place name (target_typing None t) all in answer_type x.answer (and_expression t.tree (argument_trees s.context.program x.answer all))
call_type s (Some c) is_this place name t all = let x : Typing = call_on s is_this place name (target_typing (Some c) t) all in answer_type x.answer (argument_trees s.context.program x.answer all)

access_type : (s : Surroundings) (o : Option ClassId) (place : Pos) (name : List ℕ) (t : Typing) → type_of_tree (field_on s place name (target_typing o t)).tree ≡ type_of (operand (field_on s place name (target_typing o t)))
access_type s None place name t = let x : Typing = field_on s place name (target_typing None t) in answer_type x.answer (one t.tree)
access_type s (Some c) place name t = let x : Typing = field_on s place name (target_typing (Some c) t) in answer_type x.answer no_expression

-- the tree's type is that of the value
pub tree_type : (s : Surroundings) (wanted : Option VType) (e : syntax.ExprTree) → type_of_tree (tree s wanted e) ≡ type_of (value_facts s wanted e)
tree_type s wanted (syntax.MethodCall target name arguments place) = call_type s (class_meant s target) (is_written_this target) place name (typing s None target) (typings s arguments)
tree_type s wanted (syntax.FieldAccess target name place) = access_type s (class_meant s target) place name (typing s None target)
tree_type s wanted e = answer_type (typing s wanted e).answer _

-- ---- the literal `true`

false_is_true : {X : Type 0} → false ≡ true → X
false_is_true h = absurd (let no : false ≡ true = h in cc)

literal_true : (place : Pos) (v : Option LiteralValue) → is_always_true (as_value (facts_in (literal_by place v))) ≡ true → is_true_tree (tree_in (literal_by place v) no_expression) ≡ true
literal_true place None h = false_is_true h
literal_true place (Some (values.Int n)) h = false_is_true h
literal_true place (Some (values.Long n)) h = false_is_true h
literal_true place (Some values.IntLimit) h = false_is_true h
literal_true place (Some values.LongLimit) h = false_is_true h
literal_true place (Some (values.Character c)) h = false_is_true h
literal_true place (Some (values.Boolean true)) h = refl
literal_true place (Some (values.Boolean false)) h = false_is_true h
literal_true place (Some values.Text) h = false_is_true h
literal_true place (Some values.Null) h = false_is_true h

-- a condition that is always true is the literal
pub always_true : (s : Surroundings) (e : syntax.ExprTree) → is_always s e ≡ true → is_true_tree (tree s None e) ≡ true
always_true s (syntax.Literal text place) h = literal_true place (literal_value text) h
always_true s e h = false_is_true h
