-- The types of a body's expressions and statements (JLS 5, 14, 15), as far as the rules and the machine rest on them:
-- of numbers it is only said that they are numbers, and which of them are added as `int` and which as `long`.
use Rattle.std.specs.Prelude.{◌≡◌, ◌⊎◌, ◌<◌, Bool, true, false, Option, Some, None, List, [], All, codes, length}
use Rattle.std.specs.List.{AllZip}
use Rattle.std.specs.Option.{IsSomeAnd}
use Rattle.program_model.specs.declared.kinds.ClassId.{ClassId}
use Rattle.program_model.specs.declared.kinds.MethodId.{MethodId}
use Rattle.program_model.specs.declared.kinds.FieldId.{FieldId}
use Rattle.program_model.specs.declared.kinds.ExprId.{ExprId}
use Rattle.program_model.specs.declared.kinds.Primitive.TheVariants as primitives
use Rattle.program_model.specs.declared.kinds.ElementType.{ElementType}
use Rattle.program_model.specs.declared.kinds.ElementType.TheVariants as elements
use Rattle.program_model.specs.declared.kinds.VType.{VType}
use Rattle.program_model.specs.declared.kinds.VType.TheVariants as types
use Rattle.program_model.specs.declared.kinds.MethodKind.TheVariants as methods
use Rattle.program_model.specs.declared.kinds.Literal.{Literal}
use Rattle.program_model.specs.declared.kinds.Literal.TheVariants as literals
use Rattle.program_model.specs.declared.kinds.UnaryOperator.{UnaryOperator}
use Rattle.program_model.specs.declared.kinds.UnaryOperator.TheVariants as unary
use Rattle.program_model.specs.declared.kinds.BinaryOperator.{BinaryOperator}
use Rattle.program_model.specs.declared.kinds.BinaryOperator.TheVariants as binary
use Rattle.program_model.specs.declared.kinds.OperandType.{OperandType}
use Rattle.program_model.specs.declared.kinds.OperandType.TheVariants as operand_types
use Rattle.program_model.specs.declared.program.Program.{Program}
use Rattle.program_model.specs.declared.program.Method.{Method}
use Rattle.program_model.specs.declared.program.ParamSig.{ParamSig}
use Rattle.program_model.specs.declared.tree.Body.{Body}
use Rattle.program_model.specs.declared.tree.TExpr.{TExpr}
use Rattle.program_model.specs.declared.tree.Declarator.{Declarator}
use Rattle.program_model.specs.declared.tree.Resource.{Resource}
use Rattle.program_model.specs.declared.tree.CatchClause.{CatchClause}
use Rattle.program_model.specs.declared.tree.SuperCall.{SuperCall}
use Rattle.program_model.specs.declared.tree.OperatorAssignment.{OperatorAssignment}
use Rattle.program_model.specs.declared.tree.CallExpression.{CallExpression}
use Rattle.program_model.specs.declared.tree.NewObject.{NewObject}
use Rattle.program_model.specs.declared.tree.ForInitial.{ForInitial}
use Rattle.program_model.specs.declared.tree.ForInitial.TheVariants as initials
use Rattle.program_model.specs.declared.tree.CallTarget.{CallTarget}
use Rattle.program_model.specs.declared.tree.CallTarget.TheVariants as calls
use Rattle.program_model.specs.declared.tree.AssignmentTarget.{AssignmentTarget}
use Rattle.program_model.specs.declared.tree.AssignmentTarget.TheVariants as targets
use Rattle.program_model.specs.declared.tree.ExpressionKind.{ExpressionKind}
use Rattle.program_model.specs.declared.tree.ExpressionKind.TheVariants as expressions
use Rattle.program_model.specs.declared.tree.StatementKind.{StatementKind}
use Rattle.program_model.specs.declared.tree.StatementKind.TheVariants as statements
use Rattle.program_model.specs.Lookups.{class_at, method_at, field_at, expression_at, type_at, variable_type}
use Rattle.program_model.specs.Hierarchy.{HasClass, IsUnder}

-- ---- types

abbrev pub boolean : VType
boolean = types.Primitive primitives.Boolean

abbrev pub int : VType
int = types.Primitive primitives.Int

abbrev pub long : VType
long = types.Primitive primitives.Long

-- the type of an array's elements
abbrev pub element_type : ElementType → VType
element_type (elements.Primitive k) = types.Primitive k
element_type elements.Str = types.Str

abbrev pub IsNumeric : VType → Type 0
IsNumeric (types.Primitive primitives.Boolean) = ⊥
IsNumeric (types.Primitive k) = Unit {0}
IsNumeric t = ⊥

abbrev pub IsPrimitive : VType → Type 0
IsPrimitive (types.Primitive k) = Unit {0}
IsPrimitive t = ⊥

abbrev pub IsReference : VType → Type 0
IsReference (types.Primitive k) = ⊥
IsReference t = Unit {0}

-- the class whose members a value of the type has (JLS 4.3.2, 10.7)
abbrev pub class_of : Program → VType → Option ClassId
class_of p (types.Primitive k) = None
class_of p types.Str = Some p.core.string
class_of p (types.Arr t) = Some p.core.object
class_of p (types.Obj c) = Some c
class_of p types.NullType = None

-- the type has a class that is `c` or under it
abbrev pub IsTypeUnder : Program → ClassId → VType → Type 0
IsTypeUnder p c t = IsSomeAnd (class_of p t) (λ d. IsUnder p d c)

-- a declaration may have the type
abbrev pub IsDeclarable : Program → VType → Type 0
IsDeclarable p (types.Obj c) = HasClass p c × (c ≡ p.core.string → ⊥)
IsDeclarable p types.NullType = ⊥
IsDeclarable p t = Unit {0}

-- a value of the first type may be stored where the second is declared (JLS 5.2)
abbrev pub IsAssignable : Program → VType → VType → Type 0
IsAssignable p from (types.Primitive primitives.Boolean) = from ≡ boolean
IsAssignable p from (types.Primitive k) = IsNumeric from
IsAssignable p from types.Str = (from ≡ types.Str) ⊎ (from ≡ types.NullType)
IsAssignable p from (types.Arr t) = (from ≡ types.Arr t) ⊎ (from ≡ types.NullType)
IsAssignable p from (types.Obj c) = (from ≡ types.NullType) ⊎ IsTypeUnder p c from
IsAssignable p from types.NullType = from ≡ types.NullType

-- ---- facts about an expression by its number

abbrev pub HasType : Body → ExprId → VType → Type 0
HasType b e t = type_at b e ≡ Some t

-- the expression's value may be stored where the type is declared
abbrev pub Fits : Program → Body → ExprId → VType → Type 0
Fits p b e t = IsSomeAnd (type_at b e) (λ from. IsAssignable p from t)

-- the arguments fit the parameters, one by one
abbrev pub AreArguments : Program → Body → List ExprId → List ParamSig → Type 0
AreArguments p b arguments params = AllZip (λ e x. Fits p b e x.vtype) arguments params

abbrev pub when_true : {X : Type 0} → Bool → X → Option X
when_true true x = Some x
when_true false x = None

abbrev pub kind_in : Option TExpr → Option ExpressionKind
kind_in None = None
kind_in (Some x) = Some x.kind

abbrev pub kind_at : Body → ExprId → Option ExpressionKind
kind_at b e = kind_in (expression_at b e)

abbrev pub is_this_kind : Option ExpressionKind → Bool
is_this_kind (Some (expressions.This written)) = true
is_this_kind k = false

-- the expression is `this`, written or implied
abbrev pub is_this : Body → ExprId → Bool
is_this b e = is_this_kind (kind_at b e)

-- ---- operators (JLS 15.15 to 15.24)

-- an operand has the type to which the operator takes it
abbrev pub IsOperand : OperandType → VType → Type 0
IsOperand operand_types.Boolean t = t ≡ boolean
IsOperand operand_types.Int t = IsNumeric t
IsOperand operand_types.Long t = IsNumeric t
IsOperand operand_types.Text (types.Arr t) = ⊥
IsOperand operand_types.Text (types.Obj c) = ⊥
IsOperand operand_types.Text t = Unit {0}
IsOperand operand_types.Reference t = IsReference t

-- the operator adds or subtracts (JLS 15.14.2)
abbrev pub IsStepOperator : BinaryOperator → Type 0
IsStepOperator binary.Add = Unit {0}
IsStepOperator binary.Subtract = Unit {0}
IsStepOperator o = ⊥

-- the type of an arithmetic or bitwise result
abbrev pub number_result : OperandType → Option VType
number_result operand_types.Int = Some int
number_result operand_types.Long = Some long
number_result o = None

abbrev pub sum_result : OperandType → Option VType
sum_result operand_types.Text = Some types.Str
sum_result o = number_result o

abbrev pub order_result : OperandType → Option VType
order_result operand_types.Int = Some boolean
order_result operand_types.Long = Some boolean
order_result o = None

abbrev pub equality_result : OperandType → Option VType
equality_result operand_types.Text = None
equality_result o = Some boolean

abbrev pub bitwise_result : OperandType → Option VType
bitwise_result operand_types.Boolean = Some boolean
bitwise_result o = number_result o

abbrev pub logical_result : OperandType → Option VType
logical_result operand_types.Boolean = Some boolean
logical_result o = None

-- the type of a binary operator's result, where it takes such operands
abbrev pub binary_result : BinaryOperator → OperandType → Option VType
binary_result binary.Multiply o = number_result o
binary_result binary.Divide o = number_result o
binary_result binary.Remainder o = number_result o
binary_result binary.Add o = sum_result o
binary_result binary.Subtract o = number_result o
binary_result binary.ShiftLeft o = number_result o
binary_result binary.ShiftRight o = number_result o
binary_result binary.ShiftRightUnsigned o = number_result o
binary_result binary.Less o = order_result o
binary_result binary.Greater o = order_result o
binary_result binary.LessOrEqual o = order_result o
binary_result binary.GreaterOrEqual o = order_result o
binary_result binary.Equal o = equality_result o
binary_result binary.NotEqual o = equality_result o
binary_result binary.And o = bitwise_result o
binary_result binary.Xor o = bitwise_result o
binary_result binary.Or o = bitwise_result o
binary_result binary.ConditionalAnd o = logical_result o
binary_result binary.ConditionalOr o = logical_result o

-- both operands suit the operator, and `result` is the type of its result
abbrev pub IsOperation : Body → BinaryOperator → ExprId → ExprId → OperandType → VType → Type 0
IsOperation b o left right t result = (binary_result o t ≡ Some result) × IsSomeAnd (type_at b left) (IsOperand t) × IsSomeAnd (type_at b right) (IsOperand t)

abbrev pub IsUnary : Body → UnaryOperator → ExprId → VType → Type 0
IsUnary b unary.Not e t = HasType b e boolean × (t ≡ boolean)
IsUnary b o e t = IsSomeAnd (type_at b e) IsNumeric × ((t ≡ int) ⊎ (t ≡ long))

abbrev pub IsLiteral : Literal → VType → Type 0
IsLiteral (literals.Number n) t = (t ≡ int) ⊎ (t ≡ long)
IsLiteral (literals.Character c) t = t ≡ types.Primitive primitives.Char
IsLiteral (literals.Boolean v) t = t ≡ boolean
IsLiteral literals.Text t = t ≡ types.Str
IsLiteral literals.Null t = t ≡ types.NullType

-- ---- members

-- the body runs on an object of the class
abbrev pub HasThis : Program → Body → ClassId → Type 0
HasThis p b c = IsSomeAnd (method_at p b.method) (λ m. (m.class ≡ c) × ((m.kind ≡ methods.Instance) ⊎ (m.kind ≡ methods.Ctor)))

abbrev pub IsThisType : Program → Body → VType → Type 0
IsThisType p b (types.Obj c) = HasThis p b c
IsThisType p b t = ⊥

-- the field is an instance field of type `t`, and the expression has a class that has it
abbrev pub IsInstanceField : Program → Body → ExprId → FieldId → VType → Type 0
IsInstanceField p b e f t = IsSomeAnd (field_at p f) (λ x. (x.is_static ≡ false) × (x.vtype ≡ t) × IsSomeAnd (type_at b e) (IsTypeUnder p x.class))

abbrev pub IsStaticField : Program → FieldId → VType → Type 0
IsStaticField p f t = IsSomeAnd (field_at p f) (λ x. (x.is_static ≡ true) × (x.vtype ≡ t))

abbrev pub IsConstant : Program → MethodId → VType → Type 0
IsConstant p m t = IsSomeAnd (method_at p m) (λ x. (x.kind ≡ methods.Constant) × (x.sig.result ≡ Some t))

abbrev pub IsArrayOf : VType → VType → Type 0
IsArrayOf t (types.Arr k) = element_type k ≡ t
IsArrayOf t x = ⊥

-- the array has elements of type `t`, and the index is a number
abbrev pub IsElement : Body → ExprId → ExprId → VType → Type 0
IsElement b a i t = IsSomeAnd (type_at b a) (IsArrayOf t) × IsSomeAnd (type_at b i) IsNumeric

abbrev pub is_array : VType → Bool
is_array (types.Arr k) = true
is_array t = false

abbrev pub IsArray : VType → Type 0
IsArray t = is_array t ≡ true

-- a variable, field or element of type `t`
abbrev pub IsTarget : Program → Body → AssignmentTarget → VType → Type 0
IsTarget p b (targets.Local x) t = variable_type b x ≡ Some t
IsTarget p b (targets.Field e f) t = IsInstanceField p b e f t
IsTarget p b (targets.StaticField f) t = IsStaticField p f t
IsTarget p b (targets.Element a i) t = IsElement b a i t

-- a local, a static field or a field of `this`, of type `t`
abbrev pub IsOwnPlace : Program → Body → Option ExpressionKind → VType → Type 0
IsOwnPlace p b (Some (expressions.Local x)) t = variable_type b x ≡ Some t
IsOwnPlace p b (Some (expressions.StaticField f)) t = IsStaticField p f t
IsOwnPlace p b (Some (expressions.Field e f)) t = (is_this b e ≡ true) × IsInstanceField p b e f t
IsOwnPlace p b k t = ⊥

-- the result of an operator may be cast to the type of the place that it is stored in (JLS 15.26.2)
abbrev pub IsCastable : VType → VType → Type 0
IsCastable types.Str t = t ≡ types.Str
IsCastable (types.Primitive primitives.Boolean) t = t ≡ boolean
IsCastable (types.Primitive k) t = IsNumeric t
IsCastable from t = ⊥

abbrev pub IsStored : Body → OperatorAssignment → VType → VType → Type 0
IsStored b a t result = IsOperation b a.operator a.target a.value a.operands result × IsCastable result t

-- `x op= e` over a place of type `t`
abbrev pub IsOperatorAssignment : Program → Body → OperatorAssignment → VType → Type 0
IsOperatorAssignment p b a t = IsOwnPlace p b (kind_at b a.target) t × IsSomeAnd (binary_result a.operator a.operands) (IsStored b a t)

-- the type has a class that is under `c`, and not `c` itself
abbrev pub IsTypeBelow : Program → ClassId → VType → Type 0
IsTypeBelow p c t = IsTypeUnder p c t × (class_of p t ≡ Some c → ⊥)

-- the call's target has the form that the method asks for (JLS 15.12.3), and a class that has the method; `super` names one
-- that is declared above the class of `this` (JLS 15.12.1)
abbrev pub IsCallTarget : Program → Body → CallTarget → Method → Type 0
IsCallTarget p b calls.Static m = m.kind ≡ methods.Static
IsCallTarget p b (calls.This e) m = (m.kind ≡ methods.Instance) × (is_this b e ≡ true) × IsSomeAnd (type_at b e) (IsTypeUnder p m.class)
IsCallTarget p b (calls.Super e) m = (m.kind ≡ methods.Instance) × (is_this b e ≡ true) × IsSomeAnd (type_at b e) (IsTypeBelow p m.class)
IsCallTarget p b (calls.Other e) m = (m.kind ≡ methods.Instance) × (is_this b e ≡ false) × IsSomeAnd (type_at b e) (IsTypeUnder p m.class)

abbrev pub IsCall : Program → Body → CallExpression → Option VType → Type 0
IsCall p b c t = IsSomeAnd (method_at p c.method) (λ m. IsCallTarget p b c.target m × AreArguments p b c.arguments.items m.sig.params.items × (m.sig.result ≡ t))

-- the constructor is one of the class, and the arguments fit it
abbrev pub IsConstruction : Program → Body → ClassId → MethodId → List ExprId → Type 0
IsConstruction p b c m arguments = IsSomeAnd (method_at p m) (λ x. (x.kind ≡ methods.Ctor) × (x.class ≡ c) × AreArguments p b arguments x.sig.params.items)

-- a class of which objects are made
abbrev pub IsConcrete : Program → ClassId → Type 0
IsConcrete p c = IsSomeAnd (class_at p c) (λ k. k.is_abstract ≡ false)

abbrev pub IsNewObject : Program → Body → NewObject → VType → Type 0
IsNewObject p b n t = IsConstruction p b n.class n.constructor n.arguments.items × IsConcrete p n.class × (class_of p t ≡ Some n.class) × (is_array t ≡ false)

-- ---- expressions

-- an expression of the kind has the type
abbrev pub IsOfType : Program → Body → ExpressionKind → VType → Type 0
IsOfType p b (expressions.Literal l) t = IsLiteral l t
IsOfType p b (expressions.Local x) t = variable_type b x ≡ Some t
IsOfType p b (expressions.This written) t = IsThisType p b t
IsOfType p b (expressions.Field e f) t = IsInstanceField p b e f t
IsOfType p b (expressions.StaticField f) t = IsStaticField p f t
IsOfType p b (expressions.LibraryConstant m) t = IsConstant p m t
IsOfType p b (expressions.Unary o e) t = IsUnary b o e t
IsOfType p b (expressions.Binary x) t = IsOperation b x.operator x.left x.right x.operands t
IsOfType p b (expressions.Conditional c x y) t = HasType b c boolean × Fits p b x t × Fits p b y t
IsOfType p b (expressions.InstanceOf e tested) t = (t ≡ boolean) × IsSomeAnd (type_at b e) IsReference × IsReference tested × IsDeclarable p tested
IsOfType p b (expressions.PrimitiveCast e) t = IsPrimitive t × IsSomeAnd (type_at b e) (λ from. IsAssignable p from t)
IsOfType p b (expressions.ReferenceCast e) t = IsReference t × IsDeclarable p t × IsSomeAnd (type_at b e) IsReference
IsOfType p b (expressions.Assignment x e) t = IsTarget p b x t × Fits p b e t
IsOfType p b (expressions.OperatorAssignment a) t = IsOperatorAssignment p b a t
IsOfType p b (expressions.PostfixStep a) t = IsStepOperator a.operator × IsNumeric t × IsOperatorAssignment p b a t
IsOfType p b (expressions.Call c) t = IsCall p b c (Some t)
IsOfType p b (expressions.NewObject n) t = IsNewObject p b n t
IsOfType p b (expressions.NewArray e) t = IsArray t × IsSomeAnd (type_at b e) IsNumeric
IsOfType p b (expressions.Element a i) t = IsElement b a i t
IsOfType p b (expressions.Length a) t = IsSomeAnd (type_at b a) IsArray × (t ≡ int)

-- only a call may have no type
abbrev pub HasNoType : Program → Body → ExpressionKind → Type 0
HasNoType p b (expressions.Call c) = IsCall p b c None
HasNoType p b k = ⊥

abbrev pub IsOfOptionalType : Program → Body → ExpressionKind → Option VType → Type 0
IsOfOptionalType p b k None = HasNoType p b k
IsOfOptionalType p b k (Some t) = IsOfType p b k t

abbrev pub IsTypedExpression : Program → Body → TExpr → Type 0
IsTypedExpression p b x = IsOfOptionalType p b x.kind x.vtype

-- ---- statements

-- the expression, where there is one, may be stored in the variable
abbrev pub IsInitializer : Program → Body → Option ExprId → VType → Type 0
IsInitializer p b None t = Unit {0}
IsInitializer p b (Some e) t = Fits p b e t

abbrev pub IsDeclarator : Program → Body → Declarator → Type 0
IsDeclarator p b x = IsSomeAnd (variable_type b x.variable) (IsInitializer p b x.initializer)

abbrev pub IsForInitial : Program → Body → ForInitial → Type 0
IsForInitial p b (initials.Declaration names) = All (IsDeclarator p b) names.items
IsForInitial p b (initials.Expressions es) = Unit {0}

abbrev pub IsCondition : Body → Option ExprId → Type 0
IsCondition b None = Unit {0}
IsCondition b (Some e) = HasType b e boolean

-- `return`, with or without a value, in a method with this result
abbrev pub IsReturn : Program → Body → Option ExprId → Option VType → Type 0
IsReturn p b None None = Unit {0}
IsReturn p b None (Some t) = ⊥
IsReturn p b (Some e) None = ⊥
IsReturn p b (Some e) (Some t) = Fits p b e t

abbrev pub IsThrowable : Program → VType → Type 0
IsThrowable p t = (t ≡ types.NullType) ⊎ IsTypeUnder p p.core.throwable t

-- the method is an instance method `close()` that a value of the type has
abbrev pub IsClose : Program → VType → Method → Type 0
IsClose p t m = (m.kind ≡ methods.Instance) × (m.name ≡ codes "close") × (m.sig.params.items ≡ []) × IsTypeUnder p m.class t

abbrev pub IsResource : Program → Body → Resource → Type 0
IsResource p b r = IsSomeAnd (variable_type b r.variable) (λ t. Fits p b r.initializer t × IsSomeAnd (method_at p r.close) (IsClose p t))

-- the variable has a class that each of the clause's classes, one or more, is under
abbrev pub IsCatchClause : Program → Body → CatchClause → Type 0
IsCatchClause p b c = (0 < length c.classes.items) × IsSomeAnd (variable_type b c.variable) (λ t. All (λ d. HasClass p d × IsUnder p d p.core.throwable × IsAssignable p (types.Obj d) t) c.classes.items)

-- a call of a constructor of the super class, in a constructor
abbrev pub IsSuperCall : Program → Body → SuperCall → Type 0
IsSuperCall p b c = IsSomeAnd (method_at p b.method) (λ m. (m.kind ≡ methods.Ctor) × IsSomeAnd (class_at p m.class) (λ k. IsSomeAnd k.sup (λ d. IsConstruction p b d c.constructor c.arguments.items)))

-- the instance field of `this` that an assignment is to
abbrev pub assigned_field : Body → Option ExpressionKind → Option FieldId
assigned_field b (Some (expressions.Assignment (targets.Field e f) value)) = when_true (is_this b e) f
assigned_field b k = None

-- the initialiser of an instance field that the constructor's class declares
abbrev pub IsFieldInitializer : Program → Body → ExprId → Type 0
IsFieldInitializer p b e = IsSomeAnd (assigned_field b (kind_at b e)) (λ f. IsSomeAnd (field_at p f) (λ x. IsSomeAnd (method_at p b.method) (λ m. (m.kind ≡ methods.Ctor) × (m.class ≡ x.class))))

abbrev pub IsTypedStatement : Program → Body → StatementKind → Type 0
IsTypedStatement p b (statements.Block ss end) = Unit {0}
IsTypedStatement p b statements.Empty = Unit {0}
IsTypedStatement p b (statements.LocalDeclaration names) = All (IsDeclarator p b) names.items
IsTypedStatement p b (statements.Expression e) = Unit {0}
IsTypedStatement p b (statements.If c x y) = HasType b c boolean
IsTypedStatement p b (statements.While c s) = HasType b c boolean
IsTypedStatement p b (statements.Do s c) = HasType b c boolean
IsTypedStatement p b (statements.For l) = IsForInitial p b l.initial × IsCondition b l.condition
IsTypedStatement p b (statements.Return e) = IsSomeAnd (method_at p b.method) (λ m. IsReturn p b e m.sig.result)
IsTypedStatement p b (statements.Throw e) = IsSomeAnd (type_at b e) (IsThrowable p)
IsTypedStatement p b statements.Break = Unit {0}
IsTypedStatement p b statements.Continue = Unit {0}
IsTypedStatement p b (statements.Try t) = All (IsResource p b) t.resources.items × All (IsCatchClause p b) t.catches.items
IsTypedStatement p b (statements.SuperCall c) = IsSuperCall p b c
IsTypedStatement p b (statements.FieldInitializer e) = IsFieldInitializer p b e
