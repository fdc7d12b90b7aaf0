-- Typed trees in which each expression has the type that its parts give it (JLS 15), as the expressions of a typed body have.
use Rattle.std.specs.Prelude.{◌≡◌, ◌⊎◌, Bool, true, false, Option, Some, None, List, [], ◌∷◌}
use Rattle.std.specs.List.{AllZip}
use Rattle.std.specs.Option.{IsSomeAnd}
use Rattle.program_model.specs.declared.kinds.FieldId.{FieldId}
use Rattle.program_model.specs.declared.kinds.ClassId.{ClassId}
use Rattle.program_model.specs.declared.kinds.MethodId.{MethodId}
use Rattle.program_model.specs.declared.kinds.MethodKind.TheVariants as methods
use Rattle.program_model.specs.declared.kinds.VType.{VType}
use Rattle.program_model.specs.declared.kinds.VType.TheVariants as types
use Rattle.program_model.specs.declared.kinds.UnaryOperator.{UnaryOperator}
use Rattle.program_model.specs.declared.kinds.UnaryOperator.TheVariants as unary
use Rattle.program_model.specs.declared.kinds.BinaryOperator.{BinaryOperator}
use Rattle.program_model.specs.declared.kinds.OperandType.{OperandType}
use Rattle.program_model.specs.declared.program.Program.{Program}
use Rattle.program_model.specs.declared.program.Method.{Method}
use Rattle.program_model.specs.declared.program.ParamSig.{ParamSig}
use Rattle.program_model.specs.Lookups.{field_at, method_at}
use Rattle.program_model.specs.Typing.{IsArray, IsArrayOf, IsAssignable, IsCastable, IsConcrete, IsConstant, IsDeclarable, IsLiteral, IsNumeric, IsOperand, IsPrimitive, IsReference, IsStaticField, IsStepOperator, IsTypeBelow, IsTypeUnder, binary_result, boolean, class_of, int, is_array, long}
use Rattle.java_typed_trees.specs.declared.shapes.Shape.{Shape}
use Rattle.java_typed_trees.specs.declared.shapes.Shape.TheVariants as shapes
use Rattle.java_typed_trees.specs.declared.shapes.TargetShape.{TargetShape}
use Rattle.java_typed_trees.specs.declared.shapes.TargetShape.TheVariants as targets
use Rattle.java_typed_trees.specs.declared.shapes.CallShape.{CallShape}
use Rattle.java_typed_trees.specs.declared.shapes.CallShape.TheVariants as calls
use Rattle.java_typed_trees.specs.ExpressionTrees.{ExprTree, ExprTrees, Node, no_expression, and_expression}
use Rattle.java_typing_laws.specs.TypingContexts.{TypingContext, type_of_number}

-- ---- the parts of an expression

abbrev pub is_this_shape : Shape → Bool
is_this_shape (shapes.This written) = true
is_this_shape s = false

-- what the type of an expression rests on in a part of it
pub record Part : Type 0 where
  pub shape : Shape
  pub vtype : Option VType
  -- the first part of the part itself is `this`, and the type of that
  pub of_this : Bool
  pub of_type : Option VType

abbrev pub first_is_this : List Part → Bool
first_is_this [] = false
first_is_this (x ∷ xs) = is_this_shape x.shape

abbrev pub first_type : List Part → Option VType
first_type [] = None
first_type (x ∷ xs) = x.vtype

abbrev pub behind_first : List Part → List Part
behind_first [] = []
behind_first (x ∷ xs) = xs

abbrev pub second_type : List Part → Option VType
second_type xs = first_type (behind_first xs)

abbrev pub third_type : List Part → Option VType
third_type xs = second_type (behind_first xs)

-- the expression has no part, one part or two
abbrev pub OverNone : List Part → Type 0 → Type 0
OverNone [] X = X
OverNone (x ∷ xs) X = ⊥

abbrev pub OverOne : List Part → (Part → Type 0) → Type 0
OverOne [] P = ⊥
OverOne (x ∷ []) P = P x
OverOne (x ∷ y ∷ xs) P = ⊥

abbrev pub OverTwo : List Part → (Part → Part → Type 0) → Type 0
OverTwo [] P = ⊥
OverTwo (x ∷ []) P = ⊥
OverTwo (x ∷ y ∷ []) P = P x y
OverTwo (x ∷ y ∷ z ∷ xs) P = ⊥

abbrev mutual
  pub part_of : ExprTree → Part
  part_of (Node shape t place parts) = record { shape = shape; vtype = t; of_this = first_is_this (parts_in parts); of_type = first_type (parts_in parts) }

  pub parts_in : ExprTrees → List Part
  parts_in no_expression = []
  parts_in (and_expression t ts) = part_of t ∷ parts_in ts

-- ---- what each shape of expression asks of the types of its parts

-- a value of the type, where there is one, may be stored where the other is declared
abbrev pub FitsIn : Program → Option VType → VType → Type 0
FitsIn p from t = IsSomeAnd from (λ u. IsAssignable p u t)

-- the arguments fit the parameters, one by one
abbrev pub AreArguments : Program → List Part → List ParamSig → Type 0
AreArguments p arguments params = AllZip (λ a x. FitsIn p a.vtype x.vtype) arguments params

abbrev pub IsThis : TypingContext → VType → Type 0
IsThis c (types.Obj d) = c.this_class ≡ Some d
IsThis c t = ⊥

-- an instance field of type `t`, of a value that has it
abbrev pub IsFieldOfValue : Program → Option VType → FieldId → VType → Type 0
IsFieldOfValue p value f t = IsSomeAnd (field_at p f) (λ x. (x.is_static ≡ false) × (x.vtype ≡ t) × IsSomeAnd value (IsTypeUnder p x.class))

abbrev pub IsUnary : UnaryOperator → Option VType → VType → Type 0
IsUnary unary.Not operand t = (operand ≡ Some boolean) × (t ≡ boolean)
IsUnary o operand t = IsSomeAnd operand IsNumeric × ((t ≡ int) ⊎ (t ≡ long))

abbrev pub IsOperation : BinaryOperator → Option VType → Option VType → OperandType → VType → Type 0
IsOperation o left right u result = (binary_result o u ≡ Some result) × IsSomeAnd left (IsOperand u) × IsSomeAnd right (IsOperand u)

-- an element of type `t` of an array, at an index that is a number
abbrev pub IsElement : Option VType → Option VType → VType → Type 0
IsElement array index t = IsSomeAnd array (IsArrayOf t) × IsSomeAnd index IsNumeric

-- a condition, and two values that both fit
abbrev pub IsConditional : Program → List Part → VType → Type 0
IsConditional p (condition ∷ x ∷ y ∷ []) t = (condition.vtype ≡ Some boolean) × FitsIn p x.vtype t × FitsIn p y.vtype t
IsConditional p parts t = ⊥

-- a variable, field or element of type `t`
abbrev pub IsTarget : TypingContext → TargetShape → List Part → VType → Type 0
IsTarget c (targets.Local x) parts t = type_of_number c.variables x ≡ Some t
IsTarget c (targets.Field f) parts t = IsFieldOfValue c.program (first_type parts) f t
IsTarget c (targets.StaticField f) parts t = IsStaticField c.program f t
IsTarget c targets.Element parts t = IsElement (first_type parts) (second_type parts) t

-- the value that is assigned stands behind the parts of the target
abbrev pub assigned_type : TargetShape → List Part → Option VType
assigned_type (targets.Local x) parts = first_type parts
assigned_type (targets.Field f) parts = second_type parts
assigned_type (targets.StaticField f) parts = first_type parts
assigned_type targets.Element parts = third_type parts

-- a local, a static field or a field of `this`, of type `t`
abbrev pub IsPlaceOfShape : TypingContext → Shape → Part → VType → Type 0
IsPlaceOfShape c (shapes.Local x) place t = type_of_number c.variables x ≡ Some t
IsPlaceOfShape c (shapes.StaticField f) place t = IsStaticField c.program f t
IsPlaceOfShape c (shapes.Field f) place t = (place.of_this ≡ true) × IsFieldOfValue c.program place.of_type f t
IsPlaceOfShape c shape place t = ⊥

abbrev pub IsOwnPlace : TypingContext → List Part → VType → Type 0
IsOwnPlace c [] t = ⊥
IsOwnPlace c (place ∷ parts) t = IsPlaceOfShape c place.shape place t

abbrev pub IsStored : BinaryOperator → OperandType → List Part → VType → VType → Type 0
IsStored o u parts t result = IsOperation o (first_type parts) (second_type parts) u result × IsCastable result t

-- `x op= e` over a place of type `t` (JLS 15.26.2)
abbrev pub IsOperatorAssignment : TypingContext → BinaryOperator → OperandType → List Part → VType → Type 0
IsOperatorAssignment c o u parts t = IsOwnPlace c parts t × IsSomeAnd (binary_result o u) (IsStored o u parts t)

-- the target has the form that the method asks for (JLS 15.12.3), and a class that has the method
abbrev pub IsCallTarget : Program → CallShape → List Part → Method → Type 0
IsCallTarget p calls.Static parts m = m.kind ≡ methods.Static
IsCallTarget p calls.This parts m = (m.kind ≡ methods.Instance) × (first_is_this parts ≡ true) × IsSomeAnd (first_type parts) (IsTypeUnder p m.class)
IsCallTarget p calls.Super parts m = (m.kind ≡ methods.Instance) × (first_is_this parts ≡ true) × IsSomeAnd (first_type parts) (IsTypeBelow p m.class)
IsCallTarget p calls.Other parts m = (m.kind ≡ methods.Instance) × (first_is_this parts ≡ false) × IsSomeAnd (first_type parts) (IsTypeUnder p m.class)

abbrev pub arguments_in : CallShape → List Part → List Part
arguments_in calls.Static parts = parts
arguments_in calls.This parts = behind_first parts
arguments_in calls.Super parts = behind_first parts
arguments_in calls.Other parts = behind_first parts

abbrev pub IsCall : Program → CallShape → MethodId → List Part → Option VType → Type 0
IsCall p form n parts t = IsSomeAnd (method_at p n) (λ m. IsCallTarget p form parts m × AreArguments p (arguments_in form parts) m.sig.params.items × (m.sig.result ≡ t))

abbrev pub IsConstruction : Program → ClassId → MethodId → List Part → Type 0
IsConstruction p d n arguments = IsSomeAnd (method_at p n) (λ x. (x.kind ≡ methods.Ctor) × (x.class ≡ d) × AreArguments p arguments x.sig.params.items)

abbrev pub IsNewObject : Program → ClassId → MethodId → List Part → VType → Type 0
IsNewObject p d n arguments t = IsConstruction p d n arguments × IsConcrete p d × (class_of p t ≡ Some d) × (is_array t ≡ false)

-- ---- trees

-- an expression of the shape over these parts has the type
abbrev pub IsOfType : TypingContext → Shape → List Part → VType → Type 0
IsOfType c (shapes.Literal l) parts t = IsLiteral l t
IsOfType c (shapes.Local x) parts t = OverNone parts (type_of_number c.variables x ≡ Some t)
IsOfType c (shapes.This written) parts t = IsThis c t
IsOfType c (shapes.Field f) parts t = OverOne parts (λ e. IsFieldOfValue c.program e.vtype f t)
IsOfType c (shapes.StaticField f) parts t = OverNone parts (IsStaticField c.program f t)
IsOfType c (shapes.LibraryConstant m) parts t = IsConstant c.program m t
IsOfType c (shapes.Unary o) parts t = IsUnary o (first_type parts) t
IsOfType c (shapes.Binary o u) parts t = IsOperation o (first_type parts) (second_type parts) u t
IsOfType c shapes.Conditional parts t = IsConditional c.program parts t
IsOfType c (shapes.InstanceOf tested) parts t = (t ≡ boolean) × IsSomeAnd (first_type parts) IsReference × IsReference tested × IsDeclarable c.program tested
IsOfType c shapes.PrimitiveCast parts t = IsPrimitive t × FitsIn c.program (first_type parts) t
IsOfType c shapes.ReferenceCast parts t = IsReference t × IsDeclarable c.program t × IsSomeAnd (first_type parts) IsReference
IsOfType c (shapes.Assignment x) parts t = IsTarget c x parts t × FitsIn c.program (assigned_type x parts) t
IsOfType c (shapes.OperatorAssignment o u) parts t = IsOperatorAssignment c o u parts t
IsOfType c (shapes.PostfixStep o u) parts t = IsStepOperator o × IsNumeric t × IsOperatorAssignment c o u parts t
IsOfType c (shapes.Call form m) parts t = IsCall c.program form m parts (Some t)
IsOfType c (shapes.NewObject d m) parts t = IsNewObject c.program d m parts t
IsOfType c shapes.NewArray parts t = IsArray t × IsSomeAnd (first_type parts) IsNumeric
IsOfType c shapes.Element parts t = OverTwo parts (λ a i. IsElement a.vtype i.vtype t)
IsOfType c shapes.Length parts t = IsSomeAnd (first_type parts) IsArray × (t ≡ int)
IsOfType c shapes.Erroneous parts t = ⊥

-- only a call, and an expression that is refused, may have no type
abbrev pub HasNoType : TypingContext → Shape → List Part → Type 0
HasNoType c (shapes.Call form m) parts = IsCall c.program form m parts None
HasNoType c shapes.Erroneous parts = Unit {0}
HasNoType c shape parts = ⊥

abbrev pub IsTypedNode : TypingContext → Shape → Option VType → List Part → Type 0
IsTypedNode c shape None parts = HasNoType c shape parts
IsTypedNode c shape (Some t) parts = IsOfType c shape parts t

abbrev mutual
  -- each expression in the tree has its type, but for those that are refused
  pub IsTypedTree : TypingContext → ExprTree → Type 0
  IsTypedTree c (Node shape t place parts) = IsTypedNode c shape t (parts_in parts) × AreTypedTrees c parts

  pub AreTypedTrees : TypingContext → ExprTrees → Type 0
  AreTypedTrees c no_expression = Unit {0}
  AreTypedTrees c (and_expression t ts) = IsTypedTree c t × AreTypedTrees c ts
