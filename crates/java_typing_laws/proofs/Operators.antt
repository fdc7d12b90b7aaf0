-- The operands of each operator suit it (JLS 15.17 to 15.24, 15.26.2).
use Rattle.std.proofs.Common.{◌≡◌, ◌⊎◌, Bool, true, false, cond, ◌&&◌, ◌||◌, Option, Some, None, refl, sym, subst}
use Rattle.std.proofs.lemmas.Bool.{and_parts}
use Rattle.program_model.specs.declared.kinds.Primitive.TheVariants as primitives
use Rattle.program_model.specs.declared.kinds.VType.{VType}
use Rattle.program_model.specs.declared.kinds.VType.TheVariants as types
use Rattle.program_model.specs.declared.kinds.UnaryOperator.{UnaryOperator}
use Rattle.program_model.specs.declared.kinds.UnaryOperator.TheVariants as unary
use Rattle.program_model.specs.declared.kinds.BinaryOperator.{BinaryOperator}
use Rattle.program_model.specs.declared.kinds.BinaryOperator.TheVariants as binary
use Rattle.program_model.specs.declared.kinds.OperandType.{OperandType}
use Rattle.program_model.specs.declared.kinds.OperandType.TheVariants as operand_types
use Rattle.program_model.specs.declared.program.Program.{Program}
use Rattle.program_model.specs.Typing.{IsCastable, IsNumeric, IsOperand, binary_result, bitwise_result, boolean, equality_result, int, logical_result, long, number_result, order_result, sum_result}
use Rattle.java_conversions.specs.Casts.{cast_of, is_comparable}
use Rattle.java_conversions.specs.Operators.{binary_promoted, bitwise_operands, compound_operands, equality_operands, is_concatenated, is_legal, logical_operands, operands_of, promoted, promoted_result, returns_to, shift_operands, stored_operands, sum_operands, taken_if, unary_result}
use Rattle.java_conversions.specs.Types.{is_boolean, is_numeric, is_reference, is_text}
use Rattle.java_typing_laws.specs.TypedTrees.{IsUnary}
use Rattle.java_typing_laws.proofs.Conversions.{binary_promoted_law, concatenated_law, from_branch, is_boolean_law, is_numeric_law, is_reference_law, no_test, none_is_some, number_operand, number_result_law, promoted_law, same_in, taken_law}

-- ---- unary operators

promoted_unary : (t : VType) (u : Option OperandType) (r : VType) → promoted t ≡ u → promoted_result u ≡ Some r → IsNumeric t × ((r ≡ int) ⊎ (r ≡ long))
promoted_unary t None r e h = absurd (none_is_some r h)
promoted_unary t (Some u) r e h = ((promoted_law t u e).0, number_result_law u r h)

not_law : (t r : VType) (b : Bool) → is_boolean t ≡ b → cond b (Some boolean) None ≡ Some r → IsUnary unary.Not (Some t) r
not_law t r true e h = (subst (λ x. ◌≡◌ {A = Option VType} (Some t) (Some x)) (is_boolean_law t e) refl, sym (same_in boolean r h))
not_law t r false e h = absurd (none_is_some r h)

pub unary_law : (o : UnaryOperator) (t r : VType) → unary_result o t ≡ Some r → IsUnary o (Some t) r
unary_law unary.Plus t r h = promoted_unary t (promoted t) r refl h
unary_law unary.Minus t r h = promoted_unary t (promoted t) r refl h
unary_law unary.Complement t r h = promoted_unary t (promoted t) r refl h
unary_law unary.Not t r h = not_law t r (is_boolean t) refl h

-- ---- binary operators

abbrev pub AreOperands : OperandType → VType → VType → Type 0
AreOperands u a b = IsOperand u a × IsOperand u b

numbers_law : (a b : VType) (u : OperandType) → binary_promoted a b ≡ Some u → AreOperands u a b
numbers_law a b u h = let x = binary_promoted_law a b u h in (number_operand u a x.number x.first, number_operand u b x.number x.second)

texts_law : (a b : VType) (u : OperandType) → taken_if (is_concatenated a && is_concatenated b) operand_types.Text ≡ Some u → AreOperands u a b
texts_law a b u h =
    let x = taken_law (is_concatenated a && is_concatenated b) operand_types.Text u h in
    let both = and_parts (is_concatenated a) (is_concatenated b) x.0 in
    subst (λ v. AreOperands v a b) x.1 (concatenated_law a both.0, concatenated_law b both.1)

sum_law : (a b : VType) (u : OperandType) → sum_operands a b ≡ Some u → AreOperands u a b
sum_law a b u h = from_branch (is_text a || is_text b) (taken_if (is_concatenated a && is_concatenated b) operand_types.Text) (binary_promoted a b) u (λ yes g. texts_law a b u g) (λ no g. numbers_law a b u g) h

shift_law : (a b : VType) (u : OperandType) → shift_operands a b ≡ Some u → AreOperands u a b
shift_law a b u h =
    from_branch (is_numeric b) (promoted a) None u
    (λ yes g. let x = promoted_law a u g in (number_operand u a x.1 x.0, number_operand u b x.1 (is_numeric_law b yes)))
    (λ no g. absurd (none_is_some u g))
    h

booleans_law : (a b : VType) → (is_boolean a && is_boolean b) ≡ true → AreOperands operand_types.Boolean a b
booleans_law a b h = let both = and_parts (is_boolean a) (is_boolean b) h in (is_boolean_law a both.0, is_boolean_law b both.1)

logical_law : (a b : VType) (u : OperandType) → logical_operands a b ≡ Some u → AreOperands u a b
logical_law a b u h = let x = taken_law (is_boolean a && is_boolean b) operand_types.Boolean u h in subst (λ v. AreOperands v a b) x.1 (booleans_law a b x.0)

bitwise_law : (a b : VType) (u : OperandType) → bitwise_operands a b ≡ Some u → AreOperands u a b
bitwise_law a b u h =
    from_branch (is_boolean a && is_boolean b) (Some operand_types.Boolean) (binary_promoted a b) u
    (λ yes g. subst (λ v. AreOperands v a b) (same_in operand_types.Boolean u g) (booleans_law a b yes))
    (λ no g. numbers_law a b u g)
    h

equality_law : (p : Program) (a b : VType) (u : OperandType) → equality_operands p a b ≡ Some u → AreOperands u a b
equality_law p a b u h =
    from_branch (is_reference a && is_reference b) (taken_if (is_comparable p a b) operand_types.Reference) (bitwise_operands a b) u
    (λ yes g.
    let both = and_parts (is_reference a) (is_reference b) yes in
    let x = taken_law (is_comparable p a b) operand_types.Reference u g in
    subst (λ v. AreOperands v a b) x.1 (is_reference_law a both.0, is_reference_law b both.1))
    (λ no g. bitwise_law a b u g)
    h

pub operands_law : (p : Program) (o : BinaryOperator) (a b : VType) (u : OperandType) → operands_of p o a b ≡ Some u → AreOperands u a b
operands_law p binary.Multiply a b u h = numbers_law a b u h
operands_law p binary.Divide a b u h = numbers_law a b u h
operands_law p binary.Remainder a b u h = numbers_law a b u h
operands_law p binary.Add a b u h = sum_law a b u h
operands_law p binary.Subtract a b u h = numbers_law a b u h
operands_law p binary.ShiftLeft a b u h = shift_law a b u h
operands_law p binary.ShiftRight a b u h = shift_law a b u h
operands_law p binary.ShiftRightUnsigned a b u h = shift_law a b u h
operands_law p binary.Less a b u h = numbers_law a b u h
operands_law p binary.Greater a b u h = numbers_law a b u h
operands_law p binary.LessOrEqual a b u h = numbers_law a b u h
operands_law p binary.GreaterOrEqual a b u h = numbers_law a b u h
operands_law p binary.Equal a b u h = equality_law p a b u h
operands_law p binary.NotEqual a b u h = equality_law p a b u h
operands_law p binary.And a b u h = bitwise_law a b u h
operands_law p binary.Xor a b u h = bitwise_law a b u h
operands_law p binary.Or a b u h = bitwise_law a b u h
operands_law p binary.ConditionalAnd a b u h = logical_law a b u h
operands_law p binary.ConditionalOr a b u h = logical_law a b u h

-- ---- the results of operators

-- what an operator gives: `boolean`, `int`, `long` or String
pub data IsResult : OperandType → VType → Type 0 where
  of_boolean : (u : OperandType) → IsResult u boolean
  of_int : (u : OperandType) → IsResult u int
  of_long : (u : OperandType) → IsResult u long
  of_text : IsResult operand_types.Text types.Str

number_is_result : (u : OperandType) (t : VType) → number_result u ≡ Some t → IsResult u t
number_is_result operand_types.Boolean t h = absurd (none_is_some t h)
number_is_result operand_types.Int t h = subst (λ r. IsResult operand_types.Int r) (same_in _ t h) (of_int _)
number_is_result operand_types.Long t h = subst (λ r. IsResult operand_types.Long r) (same_in _ t h) (of_long _)
number_is_result operand_types.Text t h = absurd (none_is_some t h)
number_is_result operand_types.Reference t h = absurd (none_is_some t h)

sum_is_result : (u : OperandType) (t : VType) → sum_result u ≡ Some t → IsResult u t
sum_is_result operand_types.Boolean t h = absurd (none_is_some t h)
sum_is_result operand_types.Int t h = subst (λ r. IsResult operand_types.Int r) (same_in _ t h) (of_int _)
sum_is_result operand_types.Long t h = subst (λ r. IsResult operand_types.Long r) (same_in _ t h) (of_long _)
sum_is_result operand_types.Text t h = subst (λ r. IsResult operand_types.Text r) (same_in _ t h) of_text
sum_is_result operand_types.Reference t h = absurd (none_is_some t h)

order_is_result : (u : OperandType) (t : VType) → order_result u ≡ Some t → IsResult u t
order_is_result operand_types.Boolean t h = absurd (none_is_some t h)
order_is_result operand_types.Int t h = subst (λ r. IsResult operand_types.Int r) (same_in _ t h) (of_boolean _)
order_is_result operand_types.Long t h = subst (λ r. IsResult operand_types.Long r) (same_in _ t h) (of_boolean _)
order_is_result operand_types.Text t h = absurd (none_is_some t h)
order_is_result operand_types.Reference t h = absurd (none_is_some t h)

equality_is_result : (u : OperandType) (t : VType) → equality_result u ≡ Some t → IsResult u t
equality_is_result operand_types.Boolean t h = subst (λ r. IsResult operand_types.Boolean r) (same_in _ t h) (of_boolean _)
equality_is_result operand_types.Int t h = subst (λ r. IsResult operand_types.Int r) (same_in _ t h) (of_boolean _)
equality_is_result operand_types.Long t h = subst (λ r. IsResult operand_types.Long r) (same_in _ t h) (of_boolean _)
equality_is_result operand_types.Text t h = absurd (none_is_some t h)
equality_is_result operand_types.Reference t h = subst (λ r. IsResult operand_types.Reference r) (same_in _ t h) (of_boolean _)

bitwise_is_result : (u : OperandType) (t : VType) → bitwise_result u ≡ Some t → IsResult u t
bitwise_is_result operand_types.Boolean t h = subst (λ r. IsResult operand_types.Boolean r) (same_in _ t h) (of_boolean _)
bitwise_is_result operand_types.Int t h = subst (λ r. IsResult operand_types.Int r) (same_in _ t h) (of_int _)
bitwise_is_result operand_types.Long t h = subst (λ r. IsResult operand_types.Long r) (same_in _ t h) (of_long _)
bitwise_is_result operand_types.Text t h = absurd (none_is_some t h)
bitwise_is_result operand_types.Reference t h = absurd (none_is_some t h)

logical_is_result : (u : OperandType) (t : VType) → logical_result u ≡ Some t → IsResult u t
logical_is_result operand_types.Boolean t h = subst (λ r. IsResult operand_types.Boolean r) (same_in _ t h) (of_boolean _)
logical_is_result operand_types.Int t h = absurd (none_is_some t h)
logical_is_result operand_types.Long t h = absurd (none_is_some t h)
logical_is_result operand_types.Text t h = absurd (none_is_some t h)
logical_is_result operand_types.Reference t h = absurd (none_is_some t h)

pub result_law : (o : BinaryOperator) (u : OperandType) (t : VType) → binary_result o u ≡ Some t → IsResult u t
result_law binary.Multiply u t h = number_is_result u t h
result_law binary.Divide u t h = number_is_result u t h
result_law binary.Remainder u t h = number_is_result u t h
result_law binary.Add u t h = sum_is_result u t h
result_law binary.Subtract u t h = number_is_result u t h
result_law binary.ShiftLeft u t h = number_is_result u t h
result_law binary.ShiftRight u t h = number_is_result u t h
result_law binary.ShiftRightUnsigned u t h = number_is_result u t h
result_law binary.Less u t h = order_is_result u t h
result_law binary.Greater u t h = order_is_result u t h
result_law binary.LessOrEqual u t h = order_is_result u t h
result_law binary.GreaterOrEqual u t h = order_is_result u t h
result_law binary.Equal u t h = equality_is_result u t h
result_law binary.NotEqual u t h = equality_is_result u t h
result_law binary.And u t h = bitwise_is_result u t h
result_law binary.Xor u t h = bitwise_is_result u t h
result_law binary.Or u t h = bitwise_is_result u t h
result_law binary.ConditionalAnd u t h = logical_is_result u t h
result_law binary.ConditionalOr u t h = logical_is_result u t h

-- ---- assignments that use an operator

boolean_casts : (p : Program) (t : VType) → is_legal (cast_of p boolean t) ≡ true → IsCastable boolean t
boolean_casts p (types.Primitive primitives.Boolean) h = refl
boolean_casts p (types.Primitive primitives.Byte) h = no_test h
boolean_casts p (types.Primitive primitives.Char) h = no_test h
boolean_casts p (types.Primitive primitives.Int) h = no_test h
boolean_casts p (types.Primitive primitives.Long) h = no_test h
boolean_casts p types.Str h = no_test h
boolean_casts p (types.Arr k) h = no_test h
boolean_casts p (types.Obj c) h = no_test h
boolean_casts p types.NullType h = no_test h

int_casts : (p : Program) (t : VType) → is_legal (cast_of p int t) ≡ true → IsCastable int t
int_casts p (types.Primitive primitives.Boolean) h = no_test h
int_casts p (types.Primitive primitives.Byte) h = tt
int_casts p (types.Primitive primitives.Char) h = tt
int_casts p (types.Primitive primitives.Int) h = tt
int_casts p (types.Primitive primitives.Long) h = tt
int_casts p types.Str h = no_test h
int_casts p (types.Arr k) h = no_test h
int_casts p (types.Obj c) h = no_test h
int_casts p types.NullType h = no_test h

long_casts : (p : Program) (t : VType) → is_legal (cast_of p long t) ≡ true → IsCastable long t
long_casts p (types.Primitive primitives.Boolean) h = no_test h
long_casts p (types.Primitive primitives.Byte) h = tt
long_casts p (types.Primitive primitives.Char) h = tt
long_casts p (types.Primitive primitives.Int) h = tt
long_casts p (types.Primitive primitives.Long) h = tt
long_casts p types.Str h = no_test h
long_casts p (types.Arr k) h = no_test h
long_casts p (types.Obj c) h = no_test h
long_casts p types.NullType h = no_test h

text_casts_law : (p : Program) (t : VType) → IsOperand operand_types.Text t → is_legal (cast_of p types.Str t) ≡ true → IsCastable types.Str t
text_casts_law p (types.Primitive primitives.Boolean) g h = no_test h
text_casts_law p (types.Primitive primitives.Byte) g h = no_test h
text_casts_law p (types.Primitive primitives.Char) g h = no_test h
text_casts_law p (types.Primitive primitives.Int) g h = no_test h
text_casts_law p (types.Primitive primitives.Long) g h = no_test h
text_casts_law p types.Str g h = refl
text_casts_law p (types.Arr k) g h = absurd g
text_casts_law p (types.Obj c) g h = absurd g
text_casts_law p types.NullType g h = no_test h

castable : (p : Program) (u : OperandType) (r t : VType) → IsResult u r → IsOperand u t → is_legal (cast_of p r t) ≡ true → IsCastable r t
castable p u _ t (of_boolean _) g h = boolean_casts p t h
castable p u _ t (of_int _) g h = int_casts p t h
castable p u _ t (of_long _) g h = long_casts p t h
castable p _ _ t of_text g h = text_casts_law p t g h

pub record IsCompound (o : BinaryOperator) (u : OperandType) (t v : VType) : Type 0 where
  pub result : VType
  pub is : binary_result o u ≡ Some result
  pub operands : AreOperands u t v
  pub castable : IsCastable result t

compound_result : (p : Program) (o : BinaryOperator) (u : OperandType) (t v : VType) (r : Option VType) → binary_result o u ≡ r → AreOperands u t v → returns_to p t r ≡ true → IsCompound o u t v
compound_result p o u t v None e g h = no_test h
compound_result p o u t v (Some r) e g h = record { result = r; is = e; operands = g; castable = castable p u r t (result_law o u r e) g.0 h }

compound_stored : (p : Program) (o : BinaryOperator) (u : OperandType) (t v : VType) (w : Option OperandType) → operands_of p o t v ≡ w → stored_operands p o t w ≡ Some u → IsCompound o u t v
compound_stored p o u t v None e h = absurd (none_is_some u h)
compound_stored p o u t v (Some w) e h =
    let x = taken_law (returns_to p t (binary_result o w)) w u h in
    subst (λ k. IsCompound o k t v) x.1 (compound_result p o w t v (binary_result o w) refl (operands_law p o t v w e) x.0)

pub compound_law : (p : Program) (o : BinaryOperator) (u : OperandType) (t v : VType) → compound_operands p o t v ≡ Some u → IsCompound o u t v
compound_law p o u t v h = compound_stored p o u t v (operands_of p o t v) refl h
