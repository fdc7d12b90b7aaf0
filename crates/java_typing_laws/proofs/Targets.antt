-- Which expressions are `this`, and which fields are those of `this`.
use Rattle.std.proofs.Common.{◌≡◌, ℕ, Bool, true, false, cond, Option, Some, None, ℤ, List, refl}
use Rattle.rlc_base.specs.declared.place.Pos.{Pos}
use Rattle.program_model.specs.declared.kinds.BinaryOperator.{BinaryOperator}
use Rattle.program_model.specs.declared.kinds.ClassId.{ClassId}
use Rattle.program_model.specs.declared.kinds.OperandType.{OperandType}
use Rattle.program_model.specs.declared.kinds.VType.{VType}
use Rattle.program_model.specs.declared.kinds.VType.TheVariants as types
use Rattle.program_model.specs.declared.program.Field.{Field}
use Rattle.program_model.specs.declared.program.Program.{Program}
use Rattle.program_model.specs.Lookups.{class_at, field_at, method_at}
use Rattle.program_model.specs.Typing.{class_of}
use Rattle.java_syntax.specs.ExpressionTrees as syntax
use Rattle.java_conversions.specs.declared.casts.Cast.{Cast}
use Rattle.java_conversions.specs.declared.casts.Cast.TheVariants as casts
use Rattle.java_conversions.specs.Casts.{cast_of, is_tested}
use Rattle.java_conversions.specs.Conversions.{is_assignable}
use Rattle.java_conversions.specs.Operators.{operands_of}
use Rattle.java_conversions.specs.Types.{is_boolean, is_index}
use Rattle.java_literals.specs.declared.values.LiteralValue.{LiteralValue}
use Rattle.java_literals.specs.Values.{literal_value}
use Rattle.class_members.specs.Members.{constructors_of}
use Rattle.java_typed_trees.specs.declared.facts.Answer.{Answer}
use Rattle.java_typed_trees.specs.declared.facts.Answer.TheVariants as answers
use Rattle.java_typed_trees.specs.declared.facts.Facts.{Facts}
use Rattle.java_typed_trees.specs.declared.scope.NameMeaning.{NameMeaning}
use Rattle.java_typed_trees.specs.declared.scope.NameMeaning.TheVariants as meanings
use Rattle.java_typed_trees.specs.declared.shapes.Shape.{Shape}
use Rattle.java_typed_trees.specs.declared.shapes.Shape.TheVariants as shapes
use Rattle.java_typed_trees.specs.declared.shapes.TargetShape.{TargetShape}
use Rattle.java_typed_trees.specs.Answers.{of_one, of_three, of_two, type_in, type_of, typed_as}
use Rattle.java_typed_trees.specs.ExpressionTrees.{ExprTree, ExprTrees, no_expression}
use Rattle.java_typed_trees.specs.Settling.{tree_in}
use Rattle.java_operator_expressions.specs.Arrays.{array_of, element_by, element_of, new_array_by, new_array_of}
use Rattle.java_operator_expressions.specs.Casts.{cast_as, cast_by, instance_of_by}
use Rattle.java_operator_expressions.specs.Conditionals.{conditional_by}
use Rattle.java_operator_expressions.specs.Literals.{is_past_limit, literal_by}
use Rattle.java_operator_expressions.specs.JavaOperatorRulesOperators.{assigned_by, binary_by, binary_of, constant_as, unary_by}
use Rattle.java_variable_rules.specs.JavaMemberRulesAssignments.{assignment_by, assignment_of}
use Rattle.java_call_rules.specs.JavaMemberRulesCalls.{class_call_by, is_abstract_class, is_static_method, new_object_by, object_call_by, super_call_by, unqualified_call_by}
use Rattle.java_variable_rules.specs.JavaMemberRulesFields.{class_field_by, instance_field, member_access, static_field}
use Rattle.java_variable_rules.specs.JavaMemberRulesNames.{field_of, name_by, result_in, this_by, variable_of}
use Rattle.java_variable_rules.specs.Assignments.{assigned_target, compound_by, is_through_this, may_update, postfix_by, prefix_by, is_written_this}
use Rattle.java_call_rules.specs.Calls.{call_by, class_call, is_bodied, members_named, new_by, new_of, object_call, super_by, super_class}
use Rattle.java_call_rules.specs.CallParts.{with_implied_this}
use Rattle.java_variable_rules.specs.Fields.{class_access, field_of_type, is_length, object_access, object_access_typing}
use Rattle.java_call_rules.specs.WrittenTypes.{cast_type, class_of_name, element_type, tested_type}
use Rattle.java_variable_rules.specs.Names.{class_meant, field_constant, field_meaning, identifier_by, name_meaning}
use Rattle.java_operator_expressions.specs.Operators.{operator_of, step_operator_of, unary_operator_of}
use Rattle.java_call_rules.specs.Surroundings.{Surroundings}
use Rattle.java_call_rules.specs.TypedParts.{Typing, one, operand, shape_in, shape_of, typing_by}
use Rattle.java_statement_parts.specs.Targets.{call_on, field_on, target_typing}
use Rattle.java_statement_parts.specs.Typings.{answer_under, operand_typing, typing, typings}
use Rattle.java_typing_laws.specs.TypedTrees.{first_is_this, is_this_shape, part_of, parts_in}
use Rattle.java_typing_laws.proofs.AssignmentRules.{OfThis}
use Rattle.java_typing_laws.proofs.Conversions.{no_test, none_is_some}
use Rattle.java_typing_laws.proofs.Methods.{method_rule}

-- ---- fields of `this`

abbrev IsOfThis : ExprTree → Type 0
IsOfThis t = OfThis (part_of t).shape (part_of t).of_this

over_this : (shape : Shape) (b : Bool) → b ≡ true → OfThis shape b
over_this (shapes.Literal l) b h = tt
over_this (shapes.Local n) b h = tt
over_this (shapes.This written) b h = tt
over_this (shapes.Field f) b h = h
over_this (shapes.StaticField f) b h = tt
over_this (shapes.LibraryConstant m) b h = tt
over_this (shapes.Unary o) b h = tt
over_this (shapes.Binary o v) b h = tt
over_this shapes.Conditional b h = tt
over_this (shapes.InstanceOf v) b h = tt
over_this shapes.PrimitiveCast b h = tt
over_this shapes.ReferenceCast b h = tt
over_this (shapes.Assignment x) b h = tt
over_this (shapes.OperatorAssignment o v) b h = tt
over_this (shapes.PostfixStep o v) b h = tt
over_this (shapes.Call form m) b h = tt
over_this (shapes.NewObject d m) b h = tt
over_this shapes.NewArray b h = tt
over_this shapes.Element b h = tt
over_this shapes.Length b h = tt
over_this shapes.Erroneous b h = tt

of_this_law : (a : Answer) (ts : ExprTrees) → first_is_this (parts_in ts) ≡ true → IsOfThis (tree_in a ts)
of_this_law (answers.Is shape facts) ts h = over_this shape (first_is_this (parts_in ts)) h
of_this_law (answers.Wrong code place) ts h = tt
of_this_law (answers.Silent place) ts h = tt

implied_law : (s : Surroundings) (place : Pos) (a : Answer) → IsOfThis (tree_in a (with_implied_this s place a no_expression))
implied_law s place (answers.Wrong code at) = tt
implied_law s place (answers.Silent at) = tt
implied_law s place (answers.Is (shapes.Literal l) facts) = tt
implied_law s place (answers.Is (shapes.Local n) facts) = tt
implied_law s place (answers.Is (shapes.This written) facts) = tt
implied_law s place (answers.Is (shapes.Field f) facts) = refl
implied_law s place (answers.Is (shapes.StaticField f) facts) = tt
implied_law s place (answers.Is (shapes.LibraryConstant m) facts) = tt
implied_law s place (answers.Is (shapes.Unary o) facts) = tt
implied_law s place (answers.Is (shapes.Binary o v) facts) = tt
implied_law s place (answers.Is shapes.Conditional facts) = tt
implied_law s place (answers.Is (shapes.InstanceOf v) facts) = tt
implied_law s place (answers.Is shapes.PrimitiveCast facts) = tt
implied_law s place (answers.Is shapes.ReferenceCast facts) = tt
implied_law s place (answers.Is (shapes.Assignment x) facts) = tt
implied_law s place (answers.Is (shapes.OperatorAssignment o v) facts) = tt
implied_law s place (answers.Is (shapes.PostfixStep o v) facts) = tt
implied_law s place (answers.Is (shapes.Call form m) facts) = tt
implied_law s place (answers.Is (shapes.NewObject d m) facts) = tt
implied_law s place (answers.Is shapes.NewArray facts) = tt
implied_law s place (answers.Is shapes.Element facts) = tt
implied_law s place (answers.Is shapes.Length facts) = tt
implied_law s place (answers.Is shapes.Erroneous facts) = tt

access_of_this : (s : Surroundings) (place at : Pos) (name : List ℕ) (b : Bool) → IsOfThis (object_access_typing s place name (typing_by (this_by b s.context.class' at) no_expression)).tree
access_of_this s place at name true = of_this_law (object_access s place name (operand (typing_by (this_by true s.context.class' at) no_expression))) (one (tree_in (this_by true s.context.class' at) no_expression)) refl
access_of_this s place at name false = tt

access_law : (s : Surroundings) (place : Pos) (name : List ℕ) (target : syntax.ExprTree) → is_written_this target ≡ true → IsOfThis (typing s None (syntax.FieldAccess target name place)).tree
access_law s place name (syntax.Literal text at) h = no_test h
access_law s place name (syntax.Identifier n at) h = no_test h
access_law s place name (syntax.This at) h = access_of_this s place at name s.context.has_this
access_law s place name (syntax.Call n arguments at) h = no_test h
access_law s place name (syntax.SuperCall n arguments at) h = no_test h
access_law s place name (syntax.MethodCall target n arguments at) h = no_test h
access_law s place name (syntax.FieldAccess target n at) h = no_test h
access_law s place name (syntax.Index array index at) h = no_test h
access_law s place name (syntax.NewObject d arguments at) h = no_test h
access_law s place name (syntax.NewArray element size at) h = no_test h
access_law s place name (syntax.Prefix o a at) h = no_test h
access_law s place name (syntax.PrefixStep o x at) h = no_test h
access_law s place name (syntax.PostfixStep o x at) h = no_test h
access_law s place name (syntax.Cast to a at) h = no_test h
access_law s place name (syntax.Infix o a b at) h = no_test h
access_law s place name (syntax.InstanceOf a tested at) h = no_test h
access_law s place name (syntax.Conditional q a b at) h = no_test h
access_law s place name (syntax.Assignment x v at) h = no_test h
access_law s place name (syntax.CompoundAssignment o x v at) h = no_test h

-- what the left-hand side names through `this` has `this` as its part
pub through_law : (s : Surroundings) (left : syntax.ExprTree) → is_through_this left ≡ true → IsOfThis (typing s None left).tree
through_law s (syntax.Literal text place) h = no_test h
through_law s (syntax.Identifier name place) h = implied_law s place (identifier_by s name place)
through_law s (syntax.This place) h = no_test h
through_law s (syntax.Call name arguments place) h = no_test h
through_law s (syntax.SuperCall name arguments place) h = no_test h
through_law s (syntax.MethodCall target name arguments place) h = no_test h
through_law s (syntax.FieldAccess target name place) h = access_law s place name target h
through_law s (syntax.Index array index place) h = no_test h
through_law s (syntax.NewObject d arguments place) h = no_test h
through_law s (syntax.NewArray element size place) h = no_test h
through_law s (syntax.Prefix o a place) h = no_test h
through_law s (syntax.PrefixStep o x place) h = no_test h
through_law s (syntax.PostfixStep o x place) h = no_test h
through_law s (syntax.Cast to a place) h = no_test h
through_law s (syntax.Infix o a b place) h = no_test h
through_law s (syntax.InstanceOf a tested place) h = no_test h
through_law s (syntax.Conditional q a b place) h = no_test h
through_law s (syntax.Assignment x v place) h = no_test h
through_law s (syntax.CompoundAssignment o x v place) h = no_test h

-- ---- expressions that are not `this`

record IsOther (a : Answer) : Type 0 where
  other : is_this_shape (shape_in a) ≡ false

of_both : (b : Bool) (x y : Answer) → IsOther x → IsOther y → IsOther (cond b x y)
of_both true x y h g = h
of_both false x y h g = g

of_one_other : (place : Pos) (o : Option VType) (rule : VType → Answer) → ((t : VType) → IsOther (rule t)) → IsOther (of_one place o rule)
of_one_other place None rule h = record { other = refl }
of_one_other place (Some t) rule h = h t

of_two_other : (place : Pos) (a b : Option VType) (rule : VType → VType → Answer) → ((s t : VType) → IsOther (rule s t)) → IsOther (of_two place a b rule)
of_two_other place None b rule h = record { other = refl }
of_two_other place (Some s) None rule h = record { other = refl }
of_two_other place (Some s) (Some t) rule h = h s t

of_three_other : (place : Pos) (a b c : Option VType) (rule : VType → VType → VType → Answer) → ((r s t : VType) → IsOther (rule r s t)) → IsOther (of_three place a b c rule)
of_three_other place None b c rule h = record { other = refl }
of_three_other place (Some r) None c rule h = record { other = refl }
of_three_other place (Some r) (Some s) None rule h = record { other = refl }
of_three_other place (Some r) (Some s) (Some t) rule h = h r s t

constant_other : (shape : Shape) (place : Pos) (t : Option VType) (n : Option ℤ) → is_this_shape shape ≡ false → IsOther (constant_as shape place t n)
constant_other shape place None n h = record { other = refl }
constant_other shape place (Some t) n h = record { other = h }

typed_other : (shape : Shape) (place : Pos) (t : Option VType) → is_this_shape shape ≡ false → IsOther (typed_as shape place t)
typed_other shape place None h = record { other = refl }
typed_other shape place (Some t) h = record { other = h }

assigned_other : (place : Pos) (v : VType) (u : Option OperandType) (shape : OperandType → Shape) → ((w : OperandType) → is_this_shape (shape w) ≡ false) → IsOther (assigned_by place v u shape)
assigned_other place v None shape h = record { other = refl }
assigned_other place v (Some w) shape h = record { other = h w }

literal_other : (place : Pos) (v : Option LiteralValue) → IsOther (literal_by place v)
literal_other place None = record { other = refl }
literal_other place (Some v) = of_both (is_past_limit v) _ _ (record { other = refl }) (record { other = refl })

variable_other : (place : Pos) (x : _) (t : Option VType) → IsOther (variable_of place x t)
variable_other place x None = record { other = refl }
variable_other place x (Some t) = record { other = refl }

field_other : (has_this : Bool) (place : Pos) (n : Option ℤ) (f : _) (x : Option Field) → IsOther (field_of has_this place n f x)
field_other has_this place n f None = record { other = refl }
field_other has_this place n f (Some x) = of_both x.is_static _ _ (record { other = refl }) (of_both has_this _ _ (record { other = refl }) (record { other = refl }))

name_other : (p : Program) (has_this : Bool) (place : Pos) (n : Option ℤ) (m : NameMeaning) → IsOther (name_by p has_this place n m)
name_other p has_this place n (meanings.Variable x) = variable_other place x (type_in x.static_type)
name_other p has_this place n (meanings.Field f) = field_other has_this place n f (field_at p f)
name_other p has_this place n (meanings.LibraryConstant m) = typed_other (shapes.LibraryConstant m) place (result_in (method_at p m)) refl
name_other p has_this place n meanings.NoVariable = record { other = refl }

instance_other : (place : Pos) (f : _) (x : Option Field) → IsOther (instance_field place f x)
instance_other place f None = record { other = refl }
instance_other place f (Some x) = of_both x.is_static _ _ (record { other = refl }) (record { other = refl })

member_other : (p : Program) (place : Pos) (m : NameMeaning) → IsOther (member_access p place m)
member_other p place (meanings.Variable x) = record { other = refl }
member_other p place (meanings.Field f) = instance_other place f (field_at p f)
member_other p place (meanings.LibraryConstant m) = record { other = refl }
member_other p place meanings.NoVariable = record { other = refl }

static_other : (place : Pos) (n : Option ℤ) (f : _) (x : Option Field) → IsOther (static_field place n f x)
static_other place n f None = record { other = refl }
static_other place n f (Some x) = of_both x.is_static _ _ (record { other = refl }) (record { other = refl })

class_field_other : (p : Program) (place : Pos) (n : Option ℤ) (m : NameMeaning) → IsOther (class_field_by p place n m)
class_field_other p place n (meanings.Variable x) = record { other = refl }
class_field_other p place n (meanings.Field f) = static_other place n f (field_at p f)
class_field_other p place n (meanings.LibraryConstant m) = typed_other (shapes.LibraryConstant m) place (result_in (method_at p m)) refl
class_field_other p place n meanings.NoVariable = record { other = refl }

access_other : (s : Surroundings) (place : Pos) (name : List ℕ) (e : Facts) → IsOther (object_access s place name e)
access_other s place name e = of_one_other place (type_of e) _ (λ t. of_both (is_length name t) _ _ (record { other = refl }) (of_one_other place (type_of e) _ (λ u. member_other s.context.program place (field_of_type s name t))))

call_other : (s : Surroundings) (place : Pos) (name : List ℕ) (arguments : List Typing) → IsOther (call_by s place name arguments)
call_other s place name arguments = method_rule IsOther s.context.program place (members_named s name (Some s.context.class')) arguments (unqualified_call_by s.context.program s.context.has_this place) (record { other = refl }) (λ k. record { other = refl }) (λ m meant. of_both (is_static_method (method_at s.context.program m)) _ _ (record { other = refl }) (of_both s.context.has_this _ _ (record { other = refl }) (record { other = refl })))

super_other : (s : Surroundings) (place : Pos) (name : List ℕ) (arguments : List Typing) → IsOther (super_by s place name arguments)
super_other s place name arguments =
    method_rule IsOther s.context.program place (members_named s name (super_class s)) arguments (λ m. super_call_by s.context.program s.context.has_this (is_bodied s.context.program (method_at s.context.program m)) place m) (record { other = refl }) (λ k. record { other = refl })
    (λ m meant. of_both (is_static_method (method_at s.context.program m)) _ _ (record { other = refl }) (of_both s.context.has_this _ _ (of_both (is_bodied s.context.program (method_at s.context.program m)) _ _ (record { other = refl }) (record { other = refl })) (record { other = refl })))

class_call_other : (s : Surroundings) (place : Pos) (name : List ℕ) (d : ClassId) (arguments : List Typing) → IsOther (class_call s place name d arguments)
class_call_other s place name d arguments = method_rule IsOther s.context.program place (members_named s name (Some d)) arguments (class_call_by s.context.program place) (record { other = refl }) (λ k. record { other = refl }) (λ m meant. of_both (is_static_method (method_at s.context.program m)) _ _ (record { other = refl }) (record { other = refl }))

object_call_other : (s : Surroundings) (is_this : Bool) (place : Pos) (name : List ℕ) (e : Facts) (arguments : List Typing) → IsOther (object_call s is_this place name e arguments)
object_call_other s is_this place name e arguments =
    of_one_other place (type_of e) _
    (λ t. method_rule IsOther s.context.program place (members_named s name (class_of s.context.program t)) arguments (λ m. object_call_by s.context.program is_this place m e) (record { other = refl }) (λ k. record { other = refl })
    (λ m meant. of_one_other place (type_of e) _ (λ u. of_both (is_static_method (method_at s.context.program m)) _ _ (record { other = refl }) (record { other = refl }))))

new_other : (s : Surroundings) (place : Pos) (d : Option ClassId) (arguments : List Typing) → IsOther (new_of s place d arguments)
new_other s place None arguments = record { other = refl }
new_other s place (Some d) arguments =
    of_both (is_abstract_class (class_at s.context.program d)) _ _ (record { other = refl })
    (method_rule IsOther s.context.program place (constructors_of s.context.program s.context.class' d) arguments (new_object_by s.context.program place d) (record { other = refl }) (λ k. record { other = refl })
    (λ m meant. of_both (is_abstract_class (class_at s.context.program d)) _ _ (record { other = refl }) (record { other = refl })))

element_other : (place : Pos) (a i : VType) → IsOther (element_of place a i)
element_other place (types.Arr k) i = of_both (is_index i) _ _ (record { other = refl }) (record { other = refl })
element_other place (types.Primitive k) i = record { other = refl }
element_other place types.Str i = record { other = refl }
element_other place (types.Obj d) i = record { other = refl }
element_other place types.NullType i = record { other = refl }

array_other : (place : Pos) (size : VType) (t : Option VType) → IsOther (new_array_of place size t)
array_other place size None = record { other = refl }
array_other place size (Some t) = of_both (is_index size) _ _ (record { other = refl }) (record { other = refl })

cast_other : (place : Pos) (t : VType) (n : Option ℤ) (k : Cast) → IsOther (cast_as place t n k)
cast_other place t n casts.Primitive = record { other = refl }
cast_other place t n casts.Reference = record { other = refl }
cast_other place t n casts.Illegal = record { other = refl }

binary_other : (o : BinaryOperator) (place : Pos) (m n : Option ℤ) (u : Option OperandType) → IsOther (binary_of o place m n u)
binary_other o place m n None = record { other = refl }
binary_other o place m n (Some u) = constant_other (shapes.Binary o u) place _ _ refl

assignment_other : (p : Program) (place : Pos) (x : Option TargetShape) (e : Facts) (to from : VType) → IsOther (assignment_of p place x e to from)
assignment_other p place None e to from = record { other = refl }
assignment_other p place (Some x) e to from = of_both (is_assignable p e.constant from to) _ _ (record { other = refl }) (record { other = refl })

shape_of_tree : (a : Answer) (ts : ExprTrees) → IsOther a → is_this_shape (part_of (tree_in a ts)).shape ≡ false
shape_of_tree (answers.Is shape facts) ts h = h.other
shape_of_tree (answers.Wrong code place) ts h = refl
shape_of_tree (answers.Silent place) ts h = refl

-- the tree of the expression is no `this`
abbrev IsOtherTree : ExprTree → Type 0
IsOtherTree t = is_this_shape (part_of t).shape ≡ false

method_call_other : (s : Surroundings) (is_this : Bool) (place : Pos) (name : List ℕ) (d : Option ClassId) (t : Typing) (arguments : List Typing) → IsOtherTree (call_on s is_this place name (target_typing d t) arguments).tree
method_call_other s is_this place name None t arguments = shape_of_tree (object_call s is_this place name (operand t) arguments) _ (object_call_other s is_this place name (operand t) arguments)
method_call_other s is_this place name (Some d) t arguments = shape_of_tree (class_call s place name d arguments) _ (class_call_other s place name d arguments)

field_access_other : (s : Surroundings) (place : Pos) (name : List ℕ) (d : Option ClassId) (t : Typing) → IsOtherTree (field_on s place name (target_typing d t)).tree
field_access_other s place name None t = shape_of_tree (object_access s place name (operand t)) _ (access_other s place name (operand t))
field_access_other s place name (Some d) t = shape_of_tree (class_access s place name d) _ (class_field_other s.context.program place (field_constant s (field_meaning s name d)) (field_meaning s name d))

-- `this` alone has the shape of `this`
abbrev IsThisExactly : Bool → Typing → Type 0
IsThisExactly b t = (v : VType) → type_of (operand t) ≡ Some v → is_this_shape (part_of t.tree).shape ≡ b

written_this : (s : Surroundings) (place : Pos) (b : Bool) → IsThisExactly true (typing_by (this_by b s.context.class' place) no_expression)
written_this s place true v h = refl
written_this s place false v h = absurd (none_is_some v h)

pub this_law : (s : Surroundings) (e : syntax.ExprTree) → IsThisExactly (is_written_this e) (typing s None e)
this_law s (syntax.Literal text place) = λ w h. shape_of_tree (literal_by place (literal_value text)) _ (literal_other place (literal_value text))
this_law s (syntax.Identifier name place) = λ w h. shape_of_tree (identifier_by s name place) _ (name_other s.context.program s.context.has_this place (field_constant s (name_meaning s name)) (name_meaning s name))
this_law s (syntax.This place) = written_this s place s.context.has_this
this_law s (syntax.Call name arguments place) = λ w h. shape_of_tree (call_by s place name (typings s arguments)) _ (call_other s place name (typings s arguments))
this_law s (syntax.SuperCall name arguments place) = λ w h. shape_of_tree (super_by s place name (typings s arguments)) _ (super_other s place name (typings s arguments))
this_law s (syntax.MethodCall target name arguments place) = λ w h. method_call_other s (is_written_this target) place name (class_meant s target) (typing s None target) (typings s arguments)
this_law s (syntax.FieldAccess target name place) = λ w h. field_access_other s place name (class_meant s target) (typing s None target)
this_law s (syntax.Index array index place) = λ w h. shape_of_tree (element_by place (operand (typing s None array)) (operand (typing s None index))) _ (of_two_other place (type_of (operand (typing s None array))) (type_of (operand (typing s None index))) _ (element_other place))
this_law s (syntax.NewObject d arguments place) = λ w h. shape_of_tree (new_by s place d (typings s arguments)) _ (new_other s place (class_of_name s d.text) (typings s arguments))
this_law s (syntax.NewArray element size place) = λ w h. shape_of_tree (new_array_by place (element_type s element) (operand (typing s None size))) _ (of_two_other place (element_type s element) (type_of (operand (typing s None size))) _ (λ t u. array_other place u (array_of t)))
this_law s (syntax.Prefix o a place) = λ w h. shape_of_tree (unary_by (unary_operator_of o) place (operand (operand_typing (answer_under o a) (typing s None a)))) _ (of_one_other place (type_of (operand (operand_typing (answer_under o a) (typing s None a)))) _ (λ t. constant_other (shapes.Unary (unary_operator_of o)) place _ _ refl))
this_law s (syntax.PrefixStep o x place) = λ w h. shape_of_tree (prefix_by (may_update s x (shape_of (typing s None x))) (step_operator_of o) place (operand (typing s None x))) _ (of_one_other place (type_of (operand (typing s None x))) _ (λ t. of_both (may_update s x (shape_of (typing s None x))) _ _ (of_one_other place (type_of (operand (typing s None x))) _ (λ u. assigned_other place u _ _ (λ r. refl))) (record { other = refl })))
this_law s (syntax.PostfixStep o x place) = λ w h. shape_of_tree (postfix_by (may_update s x (shape_of (typing s None x))) (step_operator_of o) place (operand (typing s None x))) _ (of_one_other place (type_of (operand (typing s None x))) _ (λ t. of_both (may_update s x (shape_of (typing s None x))) _ _ (of_one_other place (type_of (operand (typing s None x))) _ (λ u. assigned_other place u _ _ (λ r. refl))) (record { other = refl })))
this_law s (syntax.Cast to a place) = λ w h. shape_of_tree (cast_by s.context.program place (cast_type s to) (operand (typing s None a))) _ (of_two_other place (cast_type s to) (type_of (operand (typing s None a))) _ (λ t u. cast_other place t (operand (typing s None a)).constant (cast_of s.context.program u t)))
this_law s (syntax.Infix o a b place) = λ w h. shape_of_tree (binary_by s.context.program (operator_of o) place (operand (typing s None a)) (operand (typing s None b))) _ (of_two_other place (type_of (operand (typing s None a))) (type_of (operand (typing s None b))) _ (λ t u. binary_other (operator_of o) place (operand (typing s None a)).constant (operand (typing s None b)).constant (operands_of s.context.program (operator_of o) t u)))
this_law s (syntax.InstanceOf a tested place) = λ w h. shape_of_tree (instance_of_by s.context.program place (tested_type s tested) (operand (typing s None a))) _ (of_two_other place (tested_type s tested) (type_of (operand (typing s None a))) _ (λ t u. of_both (is_tested s.context.program u t) _ _ (record { other = refl }) (record { other = refl })))
this_law s (syntax.Conditional q a b place) = λ w h. shape_of_tree (conditional_by s.context.program None place (operand (typing s None q)) (operand (typing s None a)) (operand (typing s None b))) _ (of_three_other place (type_of (operand (typing s None q))) (type_of (operand (typing s None a))) (type_of (operand (typing s None b))) _ (λ r t u. of_both (is_boolean r) _ _ (constant_other shapes.Conditional place _ _ refl) (record { other = refl })))
this_law s (syntax.Assignment x v place) = λ w h. shape_of_tree (assignment_by s.context.program place (assigned_target s x (shape_of (typing s None x))) (operand (typing s None x)) (operand (typing s (type_of (operand (typing s None x))) v))) _ (of_two_other place (type_of (operand (typing s None x))) (type_of (operand (typing s (type_of (operand (typing s None x))) v))) _ (λ t u. assignment_other s.context.program place (assigned_target s x (shape_of (typing s None x))) (operand (typing s (type_of (operand (typing s None x))) v)) t u))
this_law s (syntax.CompoundAssignment o x v place) = λ w h. shape_of_tree (compound_by s.context.program (may_update s x (shape_of (typing s None x))) (operator_of o) place (operand (typing s None x)) (operand (typing s None v))) _ (of_two_other place (type_of (operand (typing s None x))) (type_of (operand (typing s None v))) _ (λ t u. of_both (may_update s x (shape_of (typing s None x))) _ _ (of_two_other place (type_of (operand (typing s None x))) (type_of (operand (typing s None v))) _ (λ r y. assigned_other place r _ _ (λ z. refl))) (record { other = refl })))
