-- What the definitions say of some expressions, wherever they stand.
use Rattle.std.proofs.Common.{◌≡◌, true, false, Some, None, [], ◌∷◌, refl}
use Rattle.std.specs.Prelude.{codes, pos}
use Rattle.rlc_base.specs.declared.place.Pos.{Pos}
use Rattle.rlc_base.specs.declared.code.Code.TheVariants as codes_of
use Rattle.program_model.specs.declared.kinds.Literal.TheVariants as literals
use Rattle.program_model.specs.declared.kinds.VType.TheVariants as types
use Rattle.program_model.specs.Typing.{boolean, int}
use Rattle.java_syntax.specs.declared.names.Typ.{Typ}
use Rattle.java_syntax.specs.declared.names.TypeName.TheVariants as names
use Rattle.java_syntax.specs.declared.names.PrimitiveName.TheVariants as words
use Rattle.java_syntax.specs.declared.operators.InfixOperator.TheVariants as infixes
use Rattle.java_syntax.specs.declared.operators.PrefixOperator.TheVariants as prefixes
use Rattle.java_syntax.specs.declared.operators.StepOperator.TheVariants as steps
use Rattle.java_syntax.specs.ExpressionTrees as syntax
use Rattle.java_typed_trees.specs.declared.shapes.Shape.TheVariants as shapes
use Rattle.java_typed_trees.specs.Answers.{constant_at, refused, value_at}
use Rattle.java_typed_trees.specs.ExpressionTrees.{Node, no_expression}
use Rattle.java_call_rules.specs.Arguments.{value_types}
use Rattle.java_typed_expressions.specs.Cases.{cases}
use Rattle.java_call_rules.specs.Surroundings.{Surroundings}
use Rattle.java_call_rules.specs.TypedParts.{three}
use Rattle.java_typed_expressions.specs.Typings.{facts}

abbrev int_typ : Pos → Typ
int_typ p = record { name = names.Primitive words.Int; is_array = false; pos = p }

abbrev qualified_typ : Pos → Typ
qualified_typ p = record { name = names.Named (codes "p.C"); is_array = false; pos = p }

abbrev one_literal : Pos → syntax.ExprTree
one_literal p = syntax.Literal (codes "1") p

abbrev true_literal : Pos → syntax.ExprTree
true_literal p = syntax.Literal (codes "true") p

abbrev null_literal : Pos → syntax.ExprTree
null_literal p = syntax.Literal (codes "null") p

abbrev new_array : Pos → syntax.ExprTree
new_array p = syntax.NewArray (int_typ p) (one_literal p) p

-- `1 + true`
pub sum_of_truth : (s : Surroundings) (p q r : Pos) → cases s None (syntax.Infix infixes.Add (one_literal p) (true_literal q) r) ≡ refused codes_of.Mismatch r
sum_of_truth s p q r = refl

-- `1 + 1` is the constant 2
pub sum_of_numbers : (s : Surroundings) (p q r : Pos) → facts s None (syntax.Infix infixes.Add (one_literal p) (one_literal q) r) ≡ constant_at r int (Some (pos 2))
sum_of_numbers s p q r = refl

-- `2147483648`, and it under a minus
pub limit : (s : Surroundings) (p : Pos) → cases s None (syntax.Literal (codes "2147483648") p) ≡ refused codes_of.Mismatch p
limit s p = refl

pub negative_limit : (s : Surroundings) (p q : Pos) → cases s None (syntax.Prefix prefixes.Minus (syntax.Literal (codes "2147483648") p) q) ≡ []
negative_limit s p q = refl

-- `true.f` and `null.m(1)`
pub field_of_truth : (s : Surroundings) (p q : Pos) → cases s None (syntax.FieldAccess (true_literal p) (codes "f") q) ≡ refused codes_of.NoSuchName q
field_of_truth s p q = refl

pub method_of_null : (s : Surroundings) (p q r : Pos) → cases s None (syntax.MethodCall (null_literal p) (codes "m") (syntax.and_expression (one_literal q) syntax.no_expression) r) ≡ refused codes_of.NoSuchMethod r
method_of_null s p q r = refl

-- `null.m(1 + true)`: the call itself counts nothing
pub refused_argument : (s : Surroundings) (p q r t : Pos) → cases s None (syntax.MethodCall (null_literal p) (codes "m") (syntax.and_expression (syntax.Infix infixes.Add (one_literal p) (true_literal q) r) syntax.no_expression) t) ≡ refused codes_of.Mismatch r
refused_argument s p q r t = refl

-- `new int[1].length` and `new int[1].size`
pub length_of_array : (s : Surroundings) (p q : Pos) → facts s None (syntax.FieldAccess (new_array p) (codes "length") q) ≡ value_at q int
length_of_array s p q = refl

pub size_of_array : (s : Surroundings) (p q : Pos) → cases s None (syntax.FieldAccess (new_array p) (codes "size") q) ≡ refused codes_of.NoSuchName q
size_of_array s p q = refl

-- `new int[1][1] = 1`, `new int[1][1]++` and `1 = 1`
pub element_assigned : (s : Surroundings) (p q r : Pos) → cases s None (syntax.Assignment (syntax.Index (new_array p) (one_literal p) q) (one_literal p) r) ≡ []
element_assigned s p q r = refl

pub element_stepped : (s : Surroundings) (p q r : Pos) → cases s None (syntax.PostfixStep steps.Increment (syntax.Index (new_array p) (one_literal p) q) r) ≡ refused codes_of.Mismatch r
element_stepped s p q r = refl

pub literal_assigned : (s : Surroundings) (p q r : Pos) → cases s None (syntax.Assignment (one_literal p) (one_literal q) r) ≡ refused codes_of.Mismatch r
literal_assigned s p q r = refl

-- `null instanceof p.C`
pub qualified_test : (s : Surroundings) (p q r : Pos) → cases s None (syntax.InstanceOf (null_literal p) (qualified_typ q) r) ≡ refused codes_of.NoSuchName q
qualified_test s p q r = refl

-- `true ? null : null` in the place of an argument
pub values_of_conditional : (s : Surroundings) (p : Pos) → value_types (Node shapes.Conditional (Some types.Str) p (three (Node (shapes.Literal (literals.Boolean true)) (Some boolean) p no_expression) (Node (shapes.Literal literals.Null) (Some types.NullType) p no_expression) (Node (shapes.Literal literals.Text) (Some types.Str) p no_expression))) ≡ types.NullType ∷ types.Str ∷ []
values_of_conditional s p = refl
