-- What the rules of types say of types that are under a class.
use Rattle.std.proofs.Common.{◌≡◌, ◌∙◌, sym, subst, refl, true, false, true≢false, Option, Some, None, List, IsSomeAnd, inl, inr}
use Rattle.std.specs.Prelude.{◌⊎◌}
use Rattle.program_model.specs.declared.kinds.BinaryOperator.{BinaryOperator}
use Rattle.program_model.specs.declared.kinds.BinaryOperator.TheVariants as binary
use Rattle.program_model.specs.declared.kinds.ClassId.{ClassId}
use Rattle.program_model.specs.declared.kinds.ElementType.{ElementType}
use Rattle.program_model.specs.declared.kinds.ElementType.TheVariants as elements
use Rattle.program_model.specs.declared.kinds.ExprId.{ExprId}
use Rattle.program_model.specs.declared.kinds.FieldId.{FieldId}
use Rattle.program_model.specs.declared.kinds.Literal.{Literal}
use Rattle.program_model.specs.declared.kinds.Literal.TheVariants as literals
use Rattle.program_model.specs.declared.kinds.MethodId.{MethodId}
use Rattle.program_model.specs.declared.kinds.MethodKind.TheVariants as methods
use Rattle.program_model.specs.declared.kinds.OperandType.{OperandType}
use Rattle.program_model.specs.declared.kinds.OperandType.TheVariants as operand_types
use Rattle.program_model.specs.declared.kinds.Primitive.TheVariants as primitives
use Rattle.program_model.specs.declared.kinds.UnaryOperator.{UnaryOperator}
use Rattle.program_model.specs.declared.kinds.UnaryOperator.TheVariants as unary
use Rattle.program_model.specs.declared.kinds.VType.{VType}
use Rattle.program_model.specs.declared.kinds.VType.TheVariants as types
use Rattle.program_model.specs.declared.program.Field.{Field}
use Rattle.program_model.specs.declared.program.Method.{Method}
use Rattle.program_model.specs.declared.program.Program.{Program}
use Rattle.program_model.specs.declared.tree.Body.{Body}
use Rattle.program_model.specs.declared.tree.NewObject.{NewObject}
use Rattle.program_model.specs.declared.tree.OperatorAssignment.{OperatorAssignment}
use Rattle.program_model.specs.Hierarchy.{IsDirectSuper, IsUnder, itself, above}
use Rattle.program_model.specs.Lookups.{field_at, method_at, type_at}
use Rattle.program_model.specs.SuperTests.{is_under}
use Rattle.program_model.proofs.HierarchyLaws.{is_under_law}
use Rattle.program_model.specs.Typing.{IsArrayOf, IsAssignable, IsCastable, IsConstant, IsConstruction, IsDeclarable, IsElement, IsLiteral, IsNumeric, IsOperation, IsOperatorAssignment, IsPrimitive, IsStaticField, IsStored, IsThisType, IsThrowable, IsUnary, binary_result, bitwise_result, boolean, element_type, equality_result, int, is_array, logical_result, long, number_result, order_result, sum_result}
use Rattle.program_model.specs.Typing as typing
use Rattle.program_model.specs.Validity.{IsStaticOrNot, IsTypedProgram, is_class_type}
use Rattle.step_laws.specs.Operands.{result_of}
use Rattle.step_laws.specs.ClassOperands.{IsOfClass, IsNull, OfClass, IsNotAboveString, own_type}
use Rattle.step_laws.proofs.Root.{string_under_object}

under_trans : (p : Program) (c d e : ClassId) → IsUnder p c d → IsUnder p d e → IsUnder p c e
under_trans p c d e (itself same) rest = rest
under_trans p c d e (above x y z direct more) rest = above x y e direct (under_trans p y z e more rest)

-- ---- what is assignable

module _ (p : Program) (bound : ClassId) (typed : IsTypedProgram p) (own : IsNotAboveString p bound) where
  is_below : (c : ClassId) → IsUnder p c bound → is_under p c bound ≡ true
  is_below c under = (is_under_law p typed.hierarchy c bound).1 under

  no_text : IsUnder p p.core.string bound → ⊥
  no_text under = true≢false (sym (is_below p.core.string under) ∙ own)

  no_array : IsUnder p p.core.object bound → ⊥
  no_array under = no_text (under_trans p p.core.string p.core.object bound (string_under_object p typed) under)

  -- a type that is under a class below it is under it
  under_class : (c : ClassId) (t : VType) → typing.IsTypeUnder p c t → IsUnder p c bound → IsOfClass p bound t
  under_class c (types.Primitive k) is over = absurd is
  under_class c types.Str is over = absurd (no_text (under_trans p p.core.string c bound is over))
  under_class c (types.Arr e) is over = absurd (no_array (under_trans p p.core.object c bound is over))
  under_class c (types.Obj d) is over = is_below d (under_trans p d c bound is over)
  under_class c types.NullType is over = absurd is

  pub null_or_under : (c : ClassId) (from : VType) → (from ≡ types.NullType) ⊎ typing.IsTypeUnder p c from → IsUnder p c bound → IsOfClass p bound from
  null_or_under c from (inl null) over = subst (IsOfClass p bound) (sym null) tt
  null_or_under c from (inr under) over = under_class c from under over

  -- what is assignable to a type under the class is of one
  pub assignable_class : (from to : VType) → IsAssignable p from to → IsOfClass p bound to → IsOfClass p bound from
  assignable_class from (types.Primitive k) is to = absurd to
  assignable_class from types.Str is to = absurd to
  assignable_class from (types.Arr e) is to = absurd to
  assignable_class from (types.Obj c) is to = null_or_under c from is ((is_under_law p typed.hierarchy c bound).0 to)
  assignable_class from types.NullType is to = subst (IsOfClass p bound) (sym is) tt

  fitting_class : (from : Option VType) (t : VType) → IsSomeAnd from (λ s. IsAssignable p s t) → IsOfClass p bound t → OfClass p bound from
  fitting_class None t is to = is
  fitting_class (Some s) t is to = assignable_class s t is to

  pub fits_class : (b : Body) (e : ExprId) (t : VType) → typing.Fits p b e t → IsOfClass p bound t → OfClass p bound (type_at b e)
  fits_class b e t is to = fitting_class (type_at b e) t is to

  -- what a `throw` throws is an exception's (JLS 14.18)
  pub throwable_class : (t : Option VType) → IsSomeAnd t (IsThrowable p) → IsOfClass p bound (types.Obj p.core.throwable) → OfClass p bound t
  throwable_class None is to = absurd is
  throwable_class (Some t) is to = null_or_under p.core.throwable t is ((is_under_law p typed.hierarchy p.core.throwable bound).0 to)

  -- so is that of the target of `super.m()`, where the class of the method is
  pub below_class : (t : Option VType) (c : ClassId) → IsSomeAnd t (typing.IsTypeBelow p c) → IsOfClass p bound (types.Obj c) → OfClass p bound t
  below_class None c is to = absurd is
  below_class (Some t) c is to = under_class c t is.0 ((is_under_law p typed.hierarchy c bound).0 to)

  -- a class right under one below it is below it
  pub direct_class : (c d : ClassId) → IsDirectSuper p c d → IsOfClass p bound (types.Obj d) → IsOfClass p bound (types.Obj c)
  direct_class c d direct to = is_below c (above c d bound direct ((is_under_law p typed.hierarchy d bound).0 to))

-- ---- types that are under no class

module _ (p : Program) (bound : ClassId) where
  pub numeric_never : (t : VType) → IsNumeric t → IsOfClass p bound t → ⊥
  numeric_never (types.Primitive k) is to = to
  numeric_never types.Str is to = to
  numeric_never (types.Arr e) is to = to
  numeric_never (types.Obj c) is to = is
  numeric_never types.NullType is to = is

  pub primitive_never : (t : VType) → IsPrimitive t → IsOfClass p bound t → ⊥
  primitive_never (types.Primitive k) is to = to
  primitive_never types.Str is to = to
  primitive_never (types.Arr e) is to = to
  primitive_never (types.Obj c) is to = is
  primitive_never types.NullType is to = is

  pub array_never : (t : VType) → is_array t ≡ true → IsOfClass p bound t → ⊥
  array_never (types.Primitive k) is to = to
  array_never types.Str is to = to
  array_never (types.Arr e) is to = to
  array_never (types.Obj c) is to = true≢false (sym is)
  array_never types.NullType is to = true≢false (sym is)

  same_never : (t u : VType) → t ≡ u → (IsOfClass p bound u → ⊥) → IsOfClass p bound t → ⊥
  same_never t u same never to = never (subst (IsOfClass p bound) same to)

  pub boolean_never : (t : VType) → t ≡ boolean → IsOfClass p bound t → ⊥
  boolean_never t is to = same_never t boolean is (λ z. z) to

  pub int_never : (t : VType) → t ≡ int → IsOfClass p bound t → ⊥
  int_never t is to = same_never t int is (λ z. z) to

  either_never : (t : VType) → (t ≡ int) ⊎ (t ≡ long) → IsOfClass p bound t → ⊥
  either_never t (inl is) to = same_never t int is (λ z. z) to
  either_never t (inr is) to = same_never t long is (λ z. z) to

  pub unary_never : (b : Body) (o : UnaryOperator) (e : ExprId) (t : VType) → IsUnary b o e t → IsOfClass p bound t → ⊥
  unary_never b unary.Not e t is to = boolean_never t is.1 to
  unary_never b o e t is to = either_never t is.1 to

  no_result : (t : VType) → ◌≡◌ {A = Option VType} None (Some t) → ⊥
  no_result t is = cc

  one_result : (s t : VType) → ◌≡◌ {A = Option VType} (Some s) (Some t) → (IsOfClass p bound s → ⊥) → IsOfClass p bound t → ⊥
  one_result s t is never to = same_never t s (let same : s ≡ t = cc in sym same) never to

  of_number : (u : OperandType) (t : VType) → number_result u ≡ Some t → IsOfClass p bound t → ⊥
  of_number operand_types.Boolean t is to = no_result t is
  of_number operand_types.Int t is to = one_result int t is (λ z. z) to
  of_number operand_types.Long t is to = one_result long t is (λ z. z) to
  of_number operand_types.Text t is to = no_result t is
  of_number operand_types.Reference t is to = no_result t is

  of_sum : (u : OperandType) (t : VType) → sum_result u ≡ Some t → IsOfClass p bound t → ⊥
  of_sum operand_types.Text t is to = one_result types.Str t is (λ z. z) to
  of_sum operand_types.Boolean t is to = no_result t is
  of_sum operand_types.Int t is to = one_result int t is (λ z. z) to
  of_sum operand_types.Long t is to = one_result long t is (λ z. z) to
  of_sum operand_types.Reference t is to = no_result t is

  of_order : (u : OperandType) (t : VType) → order_result u ≡ Some t → IsOfClass p bound t → ⊥
  of_order operand_types.Boolean t is to = no_result t is
  of_order operand_types.Int t is to = one_result boolean t is (λ z. z) to
  of_order operand_types.Long t is to = one_result boolean t is (λ z. z) to
  of_order operand_types.Text t is to = no_result t is
  of_order operand_types.Reference t is to = no_result t is

  of_equality : (u : OperandType) (t : VType) → equality_result u ≡ Some t → IsOfClass p bound t → ⊥
  of_equality operand_types.Text t is to = no_result t is
  of_equality operand_types.Boolean t is to = one_result boolean t is (λ z. z) to
  of_equality operand_types.Int t is to = one_result boolean t is (λ z. z) to
  of_equality operand_types.Long t is to = one_result boolean t is (λ z. z) to
  of_equality operand_types.Reference t is to = one_result boolean t is (λ z. z) to

  of_bitwise : (u : OperandType) (t : VType) → bitwise_result u ≡ Some t → IsOfClass p bound t → ⊥
  of_bitwise operand_types.Boolean t is to = one_result boolean t is (λ z. z) to
  of_bitwise operand_types.Int t is to = one_result int t is (λ z. z) to
  of_bitwise operand_types.Long t is to = one_result long t is (λ z. z) to
  of_bitwise operand_types.Text t is to = no_result t is
  of_bitwise operand_types.Reference t is to = no_result t is

  of_logical : (u : OperandType) (t : VType) → logical_result u ≡ Some t → IsOfClass p bound t → ⊥
  of_logical operand_types.Boolean t is to = one_result boolean t is (λ z. z) to
  of_logical operand_types.Int t is to = no_result t is
  of_logical operand_types.Long t is to = no_result t is
  of_logical operand_types.Text t is to = no_result t is
  of_logical operand_types.Reference t is to = no_result t is

  of_binary : (o : BinaryOperator) (u : OperandType) (t : VType) → binary_result o u ≡ Some t → IsOfClass p bound t → ⊥
  of_binary binary.Multiply u t is to = of_number u t is to
  of_binary binary.Divide u t is to = of_number u t is to
  of_binary binary.Remainder u t is to = of_number u t is to
  of_binary binary.Add u t is to = of_sum u t is to
  of_binary binary.Subtract u t is to = of_number u t is to
  of_binary binary.ShiftLeft u t is to = of_number u t is to
  of_binary binary.ShiftRight u t is to = of_number u t is to
  of_binary binary.ShiftRightUnsigned u t is to = of_number u t is to
  of_binary binary.Less u t is to = of_order u t is to
  of_binary binary.Greater u t is to = of_order u t is to
  of_binary binary.LessOrEqual u t is to = of_order u t is to
  of_binary binary.GreaterOrEqual u t is to = of_order u t is to
  of_binary binary.Equal u t is to = of_equality u t is to
  of_binary binary.NotEqual u t is to = of_equality u t is to
  of_binary binary.And u t is to = of_bitwise u t is to
  of_binary binary.Xor u t is to = of_bitwise u t is to
  of_binary binary.Or u t is to = of_bitwise u t is to
  of_binary binary.ConditionalAnd u t is to = of_logical u t is to
  of_binary binary.ConditionalOr u t is to = of_logical u t is to

  pub operation_never : (b : Body) (o : BinaryOperator) (left right : ExprId) (u : OperandType) (t : VType) → IsOperation b o left right u t → IsOfClass p bound t → ⊥
  operation_never b o left right u t is to = of_binary o u t is.0 to

  castable_never : (from t : VType) → IsCastable from t → IsOfClass p bound t → ⊥
  castable_never types.Str t is to = same_never t types.Str is (λ z. z) to
  castable_never (types.Primitive primitives.Boolean) t is to = boolean_never t is to
  castable_never (types.Primitive primitives.Byte) t is to = numeric_never t is to
  castable_never (types.Primitive primitives.Char) t is to = numeric_never t is to
  castable_never (types.Primitive primitives.Int) t is to = numeric_never t is to
  castable_never (types.Primitive primitives.Long) t is to = numeric_never t is to
  castable_never (types.Arr e) t is to = is
  castable_never (types.Obj c) t is to = is
  castable_never types.NullType t is to = is

  pub update_never : (b : Body) (a : OperatorAssignment) (t : VType) → IsOperatorAssignment p b a t → IsOfClass p bound t → ⊥
  update_never b a t is to = go (binary_result a.operator a.operands) is.1
    where
      go : (r : Option VType) → IsSomeAnd r (IsStored b a t) → ⊥
      go None stored = stored
      go (Some r) stored = castable_never r t stored.1 to

  declared_never : (t : VType) → is_class_type t ≡ false → IsDeclarable p t → IsOfClass p bound t → ⊥
  declared_never (types.Primitive k) none is to = to
  declared_never types.Str none is to = to
  declared_never (types.Arr e) none is to = to
  declared_never (types.Obj c) none is to = true≢false none
  declared_never types.NullType none is to = is

  pub static_never : IsTypedProgram p → (f : FieldId) (t : VType) → IsStaticField p f t → IsOfClass p bound t → ⊥
  static_never typed f t is to = go (field_at p f) refl is
    where
      go : (x : Option Field) → field_at p f ≡ x → IsSomeAnd x (λ x. (x.is_static ≡ true) × (x.vtype ≡ t)) → ⊥
      go None at is = is
      go (Some x) at is =
          declared_never x.vtype (subst (λ s. IsStaticOrNot s x) is.0 (typed.fields f x at).kind).0 (typed.fields f x at).declarable (subst (IsOfClass p bound) (sym is.1) to)

  element_of : (k : ElementType) → IsOfClass p bound (element_type k) → ⊥
  element_of (elements.Primitive u) to = to
  element_of elements.Str to = to

  of_array : (t : VType) (x : Option VType) → IsSomeAnd x (IsArrayOf t) → IsOfClass p bound t → ⊥
  of_array t None is to = is
  of_array t (Some (types.Arr k)) is to = element_of k (subst (IsOfClass p bound) (sym is) to)
  of_array t (Some (types.Primitive k)) is to = is
  of_array t (Some types.Str) is to = is
  of_array t (Some (types.Obj c)) is to = is
  of_array t (Some types.NullType) is to = is

  pub element_never : (b : Body) (a i : ExprId) (t : VType) → IsElement b a i t → IsOfClass p bound t → ⊥
  element_never b a i t is to = of_array t (type_at b a) is.0 to

  -- ---- kinds of expressions

  -- `this` is of the type of the method's class (JLS 15.8.3)
  pub this_class : (b : Body) (t : VType) → IsThisType p b t → IsOfClass p bound t → OfClass p bound (own_type (method_at p b.method))
  this_class b (types.Obj c) is to = go (method_at p b.method) is
    where
      go : (x : Option Method) → IsSomeAnd x (λ m. (m.class ≡ c) × ((m.kind ≡ methods.Instance) ⊎ (m.kind ≡ methods.Ctor))) → OfClass p bound (own_type x)
      go None is = absurd is
      go (Some m) is = subst (λ (d : ClassId). IsOfClass p bound (types.Obj d)) (sym is.0) to
  this_class b (types.Primitive k) is to = absurd is
  this_class b types.Str is to = absurd is
  this_class b (types.Arr e) is to = absurd is
  this_class b types.NullType is to = absurd is

  pub construction_class : (b : Body) (c : ClassId) (m : MethodId) (es : List ExprId) → IsConstruction p b c m es → IsOfClass p bound (types.Obj c) → OfClass p bound (own_type (method_at p m))
  construction_class b c m es is to = go (method_at p m) is
    where
      go : (x : Option Method) → IsSomeAnd x (λ x. (x.kind ≡ methods.Ctor) × (x.class ≡ c) × typing.AreArguments p b es x.sig.params.items) → OfClass p bound (own_type x)
      go None is = absurd is
      go (Some x) is = subst (λ (d : ClassId). IsOfClass p bound (types.Obj d)) (sym is.1) to

  -- a `new` gives an object of the constructor's class
  pub new_class : (b : Body) (n : NewObject) (t : VType) → typing.IsNewObject p b n t → IsOfClass p bound t → OfClass p bound (own_type (method_at p n.constructor))
  new_class b n (types.Obj c) is to =
      let same : c ≡ n.class = (let both : Some c ≡ Some n.class = is.2 in cc) in
      construction_class b n.class n.constructor n.arguments.items is.0 (subst (λ (d : ClassId). IsOfClass p bound (types.Obj d)) same to)
  new_class b n (types.Primitive k) is to = absurd to
  new_class b n types.Str is to = absurd to
  new_class b n (types.Arr e) is to = absurd to
  new_class b n types.NullType is to = absurd (let never : None ≡ Some n.class = is.2 in cc)

  -- the one literal of such a type is null
  pub literal_null : (l : Literal) (t : VType) → IsLiteral l t → IsOfClass p bound t → IsNull l
  literal_null (literals.Number n) t is to = absurd (either_never t is to)
  literal_null (literals.Character c) t is to = absurd (same_never t (types.Primitive primitives.Char) is (λ z. z) to)
  literal_null (literals.Boolean v) t is to = absurd (boolean_never t is to)
  literal_null literals.Text t is to = absurd (same_never t types.Str is (λ z. z) to)
  literal_null literals.Null t is to = tt

  pub constant_class : (m : MethodId) (t : VType) → IsConstant p m t → IsOfClass p bound t → OfClass p bound (result_of (method_at p m))
  constant_class m t is to = go (method_at p m) is
    where
      go : (x : Option Method) → IsSomeAnd x (λ x. (x.kind ≡ methods.Constant) × (x.sig.result ≡ Some t)) → OfClass p bound (result_of x)
      go None is = absurd is
      go (Some x) is = subst (OfClass p bound) (sym is.1) to
