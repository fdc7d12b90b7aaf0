-- The shape that a rule answers takes as many parts as the rule has looked at, and no rule is silent where all its parts have
-- types.
use Rattle.std.proofs.Common.{◌≡◌, ℕ, Bool, true, false, cond, Option, Some, None, ℤ, refl, sym, subst}
use Rattle.rlc_base.specs.declared.place.Pos.{Pos}
use Rattle.program_model.specs.declared.kinds.VType.{VType}
use Rattle.program_model.specs.declared.kinds.VType.TheVariants as types
use Rattle.program_model.specs.declared.kinds.UnaryOperator.{UnaryOperator}
use Rattle.program_model.specs.declared.kinds.BinaryOperator.{BinaryOperator}
use Rattle.program_model.specs.declared.kinds.OperandType.{OperandType}
use Rattle.program_model.specs.declared.program.Program.{Program}
use Rattle.program_model.specs.Typing.{boolean, element_type}
use Rattle.java_conversions.specs.Types.{is_boolean, is_index}
use Rattle.java_conversions.specs.declared.casts.Cast.{Cast}
use Rattle.java_conversions.specs.declared.casts.Cast.TheVariants as casts
use Rattle.java_literals.specs.declared.values.LiteralValue.{LiteralValue}
use Rattle.java_typed_trees.specs.declared.facts.Answer.{Answer}
use Rattle.java_typed_trees.specs.declared.facts.Answer.TheVariants as answers
use Rattle.java_typed_trees.specs.declared.facts.Facts.{Facts}
use Rattle.java_typed_trees.specs.declared.shapes.Shape.{Shape}
use Rattle.java_typed_trees.specs.declared.shapes.Shape.TheVariants as shapes
use Rattle.java_typed_trees.specs.Answers.{mismatch, of_one, of_two, of_three, type_of, value_at}
use Rattle.java_typed_trees.specs.AnswerParts.{AnswerTakes, IsDecided}
use Rattle.java_typed_trees.specs.WellFormed.{Takes}
use Rattle.java_operator_rules.specs.Arrays.{element_by, element_of, new_array_by, new_array_of}
use Rattle.java_operator_rules.specs.Casts.{cast_as, cast_by, instance_of, instance_of_by}
use Rattle.java_operator_rules.specs.Conditionals.{conditional_by, conditional_of}
use Rattle.java_operator_rules.specs.Literals.{is_past_limit, literal_as, literal_by, literal_under_minus_by}
use Rattle.java_operator_rules.specs.Operators.{assigned_by, binary_by, binary_of, constant_as, operator_assignment_by, postfix_step_by, prefix_step_by, unary_by, unary_of}

-- the answer of a rule where all parts have types: a node whose shape takes so many parts, or a refusal
record IsWhole (n : ℕ) (a : Answer) : Type 0 where
  takes : AnswerTakes n a
  decided : IsDecided a

refusal : (n : ℕ) (place : Pos) → IsWhole n (mismatch place)
refusal n place = record { takes = tt; decided = tt }

node : (n : ℕ) (shape : Shape) (place : Pos) (t : VType) → Takes shape n → IsWhole n (answers.Is shape (value_at place t))
node n shape place t h = record { takes = h; decided = tt }

chosen : (n : ℕ) (b : Bool) (x y : Answer) → IsWhole n x → IsWhole n y → IsWhole n (cond b x y)
chosen n true x y h g = h
chosen n false x y h g = g

constant : (n : ℕ) (shape : Shape) (place : Pos) (t : Option VType) (k : Option ℤ) → Takes shape n → IsWhole n (constant_as shape place t k)
constant n shape place None k h = refusal n place
constant n shape place (Some t) k h = record { takes = h; decided = tt }

assigned : (n : ℕ) (place : Pos) (x : VType) (t : Option OperandType) (shape : OperandType → Shape) → ((u : OperandType) → Takes (shape u) n) → IsWhole n (assigned_by place x t shape)
assigned n place x None shape h = refusal n place
assigned n place x (Some t) shape h = record { takes = h t; decided = tt }

binary_rule : (o : BinaryOperator) (place : Pos) (m k : Option ℤ) (t : Option OperandType) → IsWhole 2 (binary_of o place m k t)
binary_rule o place m k None = refusal 2 place
binary_rule o place m k (Some t) = constant 2 (shapes.Binary o t) place _ _ refl

cast_rule : (place : Pos) (t : VType) (k : Option ℤ) (c : Cast) → IsWhole 1 (cast_as place t k c)
cast_rule place t k casts.Primitive = record { takes = refl; decided = tt }
cast_rule place t k casts.Reference = record { takes = refl; decided = tt }
cast_rule place t k casts.Illegal = refusal 1 place

array_rule : (place : Pos) (size : VType) (t : Option VType) → IsWhole 1 (new_array_of place size t)
array_rule place size None = refusal 1 place
array_rule place size (Some t) = chosen 1 (is_index size) _ _ (node 1 shapes.NewArray place t refl) (refusal 1 place)

element_rule : (place : Pos) (a i : VType) → IsWhole 2 (element_of place a i)
element_rule place (types.Arr k) i = chosen 2 (is_index i) _ _ (node 2 shapes.Element place (element_type k) refl) (refusal 2 place)
element_rule place (types.Primitive k) i = refusal 2 place
element_rule place types.Str i = refusal 2 place
element_rule place (types.Obj c) i = refusal 2 place
element_rule place types.NullType i = refusal 2 place

conditional_rule : (place : Pos) (c : VType) (t : Option VType) (k : Option ℤ) → IsWhole 3 (conditional_of place c t k)
conditional_rule place c t k = chosen 3 (is_boolean c) _ _ (constant 3 shapes.Conditional place t k refl) (refusal 3 place)

instance_rule : (place : Pos) (tested : VType) (is_legal : Bool) → IsWhole 1 (instance_of place tested is_legal)
instance_rule place tested is_legal = chosen 1 is_legal _ _ (node 1 (shapes.InstanceOf tested) place boolean refl) (refusal 1 place)

-- ---- a rule over one, two or three parts

one_takes : (n : ℕ) (place : Pos) (a : Option VType) (rule : VType → Answer) → ((t : VType) → IsWhole n (rule t)) → AnswerTakes n (of_one place a rule)
one_takes n place None rule h = tt
one_takes n place (Some t) rule h = (h t).takes

two_takes : (n : ℕ) (place : Pos) (a b : Option VType) (rule : VType → VType → Answer) → ((s t : VType) → IsWhole n (rule s t)) → AnswerTakes n (of_two place a b rule)
two_takes n place None b rule h = tt
two_takes n place (Some s) None rule h = tt
two_takes n place (Some s) (Some t) rule h = (h s t).takes

three_takes : (n : ℕ) (place : Pos) (a b c : Option VType) (rule : VType → VType → VType → Answer) → ((r s t : VType) → IsWhole n (rule r s t)) → AnswerTakes n (of_three place a b c rule)
three_takes n place None b c rule h = tt
three_takes n place (Some r) None c rule h = tt
three_takes n place (Some r) (Some s) None rule h = tt
three_takes n place (Some r) (Some s) (Some t) rule h = (h r s t).takes

one_decided : (n : ℕ) (place : Pos) (a : Option VType) (rule : VType → Answer) → ((t : VType) → IsWhole n (rule t)) → (t : VType) → a ≡ Some t → IsDecided (of_one place a rule)
one_decided n place a rule h t e = subst (λ x. IsDecided (of_one place x rule)) (sym e) (h t).decided

two_decided : (n : ℕ) (place : Pos) (a b : Option VType) (rule : VType → VType → Answer) → ((s t : VType) → IsWhole n (rule s t)) → (s t : VType) → a ≡ Some s → b ≡ Some t → IsDecided (of_two place a b rule)
two_decided n place a b rule h s t e d = subst (λ x. IsDecided (of_two place x b rule)) (sym e) (subst (λ x. IsDecided (of_two place (Some s) x rule)) (sym d) (h s t).decided)

three_decided : (n : ℕ) (place : Pos) (a b c : Option VType) (rule : VType → VType → VType → Answer) → ((r s t : VType) → IsWhole n (rule r s t)) → (r s t : VType) → a ≡ Some r → b ≡ Some s → c ≡ Some t → IsDecided (of_three place a b c rule)
three_decided n place a b c rule h r s t e d f = subst (λ x. IsDecided (of_three place x b c rule)) (sym e) (subst (λ x. IsDecided (of_three place (Some r) x c rule)) (sym d) (subst (λ x. IsDecided (of_three place (Some r) (Some s) x rule)) (sym f) (h r s t).decided))

-- ---- the rules

whole_unary : (o : UnaryOperator) (place : Pos) (a : Facts) (t : VType) → IsWhole 1 (unary_of o place a.constant t)
whole_unary o place a t = constant 1 (shapes.Unary o) place _ _ refl

pub unary_takes : (o : UnaryOperator) (place : Pos) (a : Facts) → AnswerTakes 1 (unary_by o place a)
unary_takes o place a = one_takes 1 place (type_of a) _ (whole_unary o place a)

pub unary_decided : (o : UnaryOperator) (place : Pos) (a : Facts) (t : VType) → type_of a ≡ Some t → IsDecided (unary_by o place a)
unary_decided o place a = one_decided 1 place (type_of a) _ (whole_unary o place a)

pub binary_takes : (p : Program) (o : BinaryOperator) (place : Pos) (a b : Facts) → AnswerTakes 2 (binary_by p o place a b)
binary_takes p o place a b = two_takes 2 place (type_of a) (type_of b) _ (λ s t. binary_rule o place a.constant b.constant _)

pub binary_decided : (p : Program) (o : BinaryOperator) (place : Pos) (a b : Facts) (s t : VType) → type_of a ≡ Some s → type_of b ≡ Some t → IsDecided (binary_by p o place a b)
binary_decided p o place a b = two_decided 2 place (type_of a) (type_of b) _ (λ s t. binary_rule o place a.constant b.constant _)

pub operator_assignment_takes : (p : Program) (o : BinaryOperator) (place : Pos) (x b : Facts) → AnswerTakes 2 (operator_assignment_by p o place x b)
operator_assignment_takes p o place x b = two_takes 2 place (type_of x) (type_of b) _ (λ s t. assigned 2 place s _ (shapes.OperatorAssignment o) (λ u. refl))

pub operator_assignment_decided : (p : Program) (o : BinaryOperator) (place : Pos) (x b : Facts) (s t : VType) → type_of x ≡ Some s → type_of b ≡ Some t → IsDecided (operator_assignment_by p o place x b)
operator_assignment_decided p o place x b = two_decided 2 place (type_of x) (type_of b) _ (λ s t. assigned 2 place s _ (shapes.OperatorAssignment o) (λ u. refl))

-- the parts of a step are the variable and the implied 1
pub prefix_step_takes : (o : BinaryOperator) (place : Pos) (x : Facts) → AnswerTakes 2 (prefix_step_by o place x)
prefix_step_takes o place x = one_takes 2 place (type_of x) _ (λ s. assigned 2 place s _ (shapes.OperatorAssignment o) (λ u. refl))

pub prefix_step_decided : (o : BinaryOperator) (place : Pos) (x : Facts) (t : VType) → type_of x ≡ Some t → IsDecided (prefix_step_by o place x)
prefix_step_decided o place x = one_decided 2 place (type_of x) _ (λ s. assigned 2 place s _ (shapes.OperatorAssignment o) (λ u. refl))

pub postfix_step_takes : (o : BinaryOperator) (place : Pos) (x : Facts) → AnswerTakes 2 (postfix_step_by o place x)
postfix_step_takes o place x = one_takes 2 place (type_of x) _ (λ s. assigned 2 place s _ (shapes.PostfixStep o) (λ u. refl))

pub postfix_step_decided : (o : BinaryOperator) (place : Pos) (x : Facts) (t : VType) → type_of x ≡ Some t → IsDecided (postfix_step_by o place x)
postfix_step_decided o place x = one_decided 2 place (type_of x) _ (λ s. assigned 2 place s _ (shapes.PostfixStep o) (λ u. refl))

pub conditional_takes : (p : Program) (wanted : Option VType) (place : Pos) (c a b : Facts) → AnswerTakes 3 (conditional_by p wanted place c a b)
conditional_takes p wanted place c a b = three_takes 3 place (type_of c) (type_of a) (type_of b) _ (λ r s t. conditional_rule place r _ _)

pub conditional_decided : (p : Program) (wanted : Option VType) (place : Pos) (c a b : Facts) (r s t : VType) → type_of c ≡ Some r → type_of a ≡ Some s → type_of b ≡ Some t → IsDecided (conditional_by p wanted place c a b)
conditional_decided p wanted place c a b = three_decided 3 place (type_of c) (type_of a) (type_of b) _ (λ r s t. conditional_rule place r _ _)

pub cast_takes : (p : Program) (place : Pos) (written : Option VType) (a : Facts) → AnswerTakes 1 (cast_by p place written a)
cast_takes p place written a = two_takes 1 place written (type_of a) _ (λ to from. cast_rule place to a.constant _)

pub cast_decided : (p : Program) (place : Pos) (written : Option VType) (a : Facts) (s t : VType) → written ≡ Some s → type_of a ≡ Some t → IsDecided (cast_by p place written a)
cast_decided p place written a = two_decided 1 place written (type_of a) _ (λ to from. cast_rule place to a.constant _)

pub instance_of_takes : (p : Program) (place : Pos) (written : Option VType) (a : Facts) → AnswerTakes 1 (instance_of_by p place written a)
instance_of_takes p place written a = two_takes 1 place written (type_of a) _ (λ s t. instance_rule place s _)

pub instance_of_decided : (p : Program) (place : Pos) (written : Option VType) (a : Facts) (s t : VType) → written ≡ Some s → type_of a ≡ Some t → IsDecided (instance_of_by p place written a)
instance_of_decided p place written a = two_decided 1 place written (type_of a) _ (λ s t. instance_rule place s _)

pub new_array_takes : (place : Pos) (element : Option VType) (a : Facts) → AnswerTakes 1 (new_array_by place element a)
new_array_takes place element a = two_takes 1 place element (type_of a) _ (λ t size. array_rule place size _)

pub new_array_decided : (place : Pos) (element : Option VType) (a : Facts) (s t : VType) → element ≡ Some s → type_of a ≡ Some t → IsDecided (new_array_by place element a)
new_array_decided place element a = two_decided 1 place element (type_of a) _ (λ t size. array_rule place size _)

pub element_takes : (place : Pos) (a i : Facts) → AnswerTakes 2 (element_by place a i)
element_takes place a i = two_takes 2 place (type_of a) (type_of i) _ (element_rule place)

pub element_decided : (place : Pos) (a i : Facts) (s t : VType) → type_of a ≡ Some s → type_of i ≡ Some t → IsDecided (element_by place a i)
element_decided place a i = two_decided 2 place (type_of a) (type_of i) _ (element_rule place)

-- a literal has no parts, and is never silent
whole_literal : (place : Pos) (v : LiteralValue) → IsWhole 0 (literal_as place v)
whole_literal place v = record { takes = refl; decided = tt }

literal_rule : (place : Pos) (v : Option LiteralValue) → IsWhole 0 (literal_by place v)
literal_rule place None = refusal 0 place
literal_rule place (Some v) = chosen 0 (is_past_limit v) _ _ (refusal 0 place) (whole_literal place v)

literal_under_minus_rule : (place : Pos) (v : Option LiteralValue) → IsWhole 0 (literal_under_minus_by place v)
literal_under_minus_rule place None = refusal 0 place
literal_under_minus_rule place (Some v) = whole_literal place v

pub literal_takes : (place : Pos) (v : Option LiteralValue) → AnswerTakes 0 (literal_by place v)
literal_takes place v = (literal_rule place v).takes

pub literal_decided : (place : Pos) (v : Option LiteralValue) → IsDecided (literal_by place v)
literal_decided place v = (literal_rule place v).decided

pub literal_under_minus_takes : (place : Pos) (v : Option LiteralValue) → AnswerTakes 0 (literal_under_minus_by place v)
literal_under_minus_takes place v = (literal_under_minus_rule place v).takes

pub literal_under_minus_decided : (place : Pos) (v : Option LiteralValue) → IsDecided (literal_under_minus_by place v)
literal_under_minus_decided place v = (literal_under_minus_rule place v).decided
