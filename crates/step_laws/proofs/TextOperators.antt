-- Of all operators, `+` on texts alone gives a text (JLS 15.18.1).
use Rattle.std.proofs.Common.{◌≡◌, Option, Some, None, IsSomeAnd, refl, sym, ◌∙◌, subst}
use Rattle.program_model.specs.declared.kinds.BinaryOperator.{BinaryOperator}
use Rattle.program_model.specs.declared.kinds.BinaryOperator.TheVariants as binary
use Rattle.program_model.specs.declared.kinds.OperandType.{OperandType}
use Rattle.program_model.specs.declared.kinds.OperandType.TheVariants as operand_types
use Rattle.program_model.specs.declared.kinds.Primitive.{Primitive}
use Rattle.program_model.specs.declared.kinds.Primitive.TheVariants as primitives
use Rattle.program_model.specs.declared.kinds.VType.{VType}
use Rattle.program_model.specs.declared.kinds.VType.TheVariants as types
use Rattle.program_model.specs.declared.program.Program.{Program}
use Rattle.program_model.specs.declared.tree.Body.{Body}
use Rattle.program_model.specs.declared.tree.OperatorAssignment.{OperatorAssignment}
use Rattle.program_model.specs.Typing.{IsCastable, IsNumeric, IsOperatorAssignment, IsStored, binary_result, bitwise_result, equality_result, logical_result, number_result, order_result, sum_result}

-- the type is a primitive one, so it is not that of texts
no_text : (t : VType) → (t ≡ types.Str → ⊥) → ◌≡◌ {A = Option VType} (Some t) (Some types.Str) → ⊥
no_text t other is = other (let same : t ≡ types.Str = cc in same)

no_result : ◌≡◌ {A = Option VType} None (Some types.Str) → ⊥
no_result is = cc

primitive : (k : Primitive) → types.Primitive k ≡ types.Str → ⊥
primitive k is = cc

of_number : (u : OperandType) → number_result u ≡ Some types.Str → ⊥
of_number operand_types.Boolean is = no_result is
of_number operand_types.Int is = no_text (types.Primitive primitives.Int) (primitive primitives.Int) is
of_number operand_types.Long is = no_text (types.Primitive primitives.Long) (primitive primitives.Long) is
of_number operand_types.Text is = no_result is
of_number operand_types.Reference is = no_result is

of_order : (u : OperandType) → order_result u ≡ Some types.Str → ⊥
of_order operand_types.Boolean is = no_result is
of_order operand_types.Int is = no_text (types.Primitive primitives.Boolean) (primitive primitives.Boolean) is
of_order operand_types.Long is = no_text (types.Primitive primitives.Boolean) (primitive primitives.Boolean) is
of_order operand_types.Text is = no_result is
of_order operand_types.Reference is = no_result is

of_equality : (u : OperandType) → equality_result u ≡ Some types.Str → ⊥
of_equality operand_types.Text is = no_result is
of_equality operand_types.Boolean is = no_text (types.Primitive primitives.Boolean) (primitive primitives.Boolean) is
of_equality operand_types.Int is = no_text (types.Primitive primitives.Boolean) (primitive primitives.Boolean) is
of_equality operand_types.Long is = no_text (types.Primitive primitives.Boolean) (primitive primitives.Boolean) is
of_equality operand_types.Reference is = no_text (types.Primitive primitives.Boolean) (primitive primitives.Boolean) is

of_bitwise : (u : OperandType) → bitwise_result u ≡ Some types.Str → ⊥
of_bitwise operand_types.Boolean is = no_text (types.Primitive primitives.Boolean) (primitive primitives.Boolean) is
of_bitwise operand_types.Int is = no_text (types.Primitive primitives.Int) (primitive primitives.Int) is
of_bitwise operand_types.Long is = no_text (types.Primitive primitives.Long) (primitive primitives.Long) is
of_bitwise operand_types.Text is = no_result is
of_bitwise operand_types.Reference is = no_result is

of_logical : (u : OperandType) → logical_result u ≡ Some types.Str → ⊥
of_logical operand_types.Boolean is = no_text (types.Primitive primitives.Boolean) (primitive primitives.Boolean) is
of_logical operand_types.Int is = no_result is
of_logical operand_types.Long is = no_result is
of_logical operand_types.Text is = no_result is
of_logical operand_types.Reference is = no_result is

of_sum : (u : OperandType) → sum_result u ≡ Some types.Str → u ≡ operand_types.Text
of_sum operand_types.Text is = refl
of_sum operand_types.Boolean is = absurd (of_number operand_types.Boolean is)
of_sum operand_types.Int is = absurd (of_number operand_types.Int is)
of_sum operand_types.Long is = absurd (of_number operand_types.Long is)
of_sum operand_types.Reference is = absurd (of_number operand_types.Reference is)

of_binary : (o : BinaryOperator) (u : OperandType) → binary_result o u ≡ Some types.Str → u ≡ operand_types.Text
of_binary binary.Multiply u is = absurd (of_number u is)
of_binary binary.Divide u is = absurd (of_number u is)
of_binary binary.Remainder u is = absurd (of_number u is)
of_binary binary.Add u is = of_sum u is
of_binary binary.Subtract u is = absurd (of_number u is)
of_binary binary.ShiftLeft u is = absurd (of_number u is)
of_binary binary.ShiftRight u is = absurd (of_number u is)
of_binary binary.ShiftRightUnsigned u is = absurd (of_number u is)
of_binary binary.Less u is = absurd (of_order u is)
of_binary binary.Greater u is = absurd (of_order u is)
of_binary binary.LessOrEqual u is = absurd (of_order u is)
of_binary binary.GreaterOrEqual u is = absurd (of_order u is)
of_binary binary.Equal u is = absurd (of_equality u is)
of_binary binary.NotEqual u is = absurd (of_equality u is)
of_binary binary.And u is = absurd (of_bitwise u is)
of_binary binary.Xor u is = absurd (of_bitwise u is)
of_binary binary.Or u is = absurd (of_bitwise u is)
of_binary binary.ConditionalAnd u is = absurd (of_logical u is)
of_binary binary.ConditionalOr u is = absurd (of_logical u is)

-- what may be cast to `String` is a `String`
castable : (from t : VType) → IsCastable from t → t ≡ types.Str → from ≡ types.Str
castable types.Str t is text = refl
castable (types.Primitive primitives.Boolean) t is text = absurd (primitive primitives.Boolean (sym is ∙ text))
castable (types.Primitive primitives.Byte) t is text = absurd (subst IsNumeric text is)
castable (types.Primitive primitives.Char) t is text = absurd (subst IsNumeric text is)
castable (types.Primitive primitives.Int) t is text = absurd (subst IsNumeric text is)
castable (types.Primitive primitives.Long) t is text = absurd (subst IsNumeric text is)
castable (types.Arr e) t is text = absurd is
castable (types.Obj c) t is text = absurd is
castable types.NullType t is text = absurd is

-- an operator that assigns a place of type `String` is that of texts
pub text_operands : (p : Program) (b : Body) (a : OperatorAssignment) (t : VType) → IsOperatorAssignment p b a t → t ≡ types.Str → a.operands ≡ operand_types.Text
text_operands p b a t is text = go (binary_result a.operator a.operands) refl is.1
  where
    go : (r : Option VType) → binary_result a.operator a.operands ≡ r → IsSomeAnd r (IsStored b a t) → a.operands ≡ operand_types.Text
    go None result stored = absurd stored
    go (Some r) result stored =
        of_binary a.operator a.operands (subst (λ (u : VType). binary_result a.operator a.operands ≡ Some u) (castable r t stored.1 text) result)
