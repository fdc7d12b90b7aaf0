-- What each form of statement asks of the types of its expressions (JLS 14), as the statements of a typed body do.
use Rattle.std.specs.Prelude.{◌≡◌, ◌<◌, Bool, true, false, Option, Some, None, List, [], ◌∷◌, All, drop, length}
use Rattle.std.specs.List.{AllZip}
use Rattle.std.specs.Option.{IsSomeAnd}
use Rattle.program_model.specs.declared.kinds.FieldId.{FieldId}
use Rattle.program_model.specs.declared.kinds.MethodId.{MethodId}
use Rattle.program_model.specs.declared.kinds.MethodKind.TheVariants as methods
use Rattle.program_model.specs.declared.kinds.VType.{VType}
use Rattle.program_model.specs.declared.kinds.VType.TheVariants as types
use Rattle.program_model.specs.declared.program.Program.{Program}
use Rattle.program_model.specs.declared.program.Method.{Method}
use Rattle.program_model.specs.Hierarchy.{HasClass, IsUnder}
use Rattle.program_model.specs.Lookups.{class_at, field_at, method_at}
use Rattle.program_model.specs.Typing.{IsAssignable, IsClose, IsThrowable, boolean, when_true}
use Rattle.java_typed_trees.specs.declared.shapes.Shape.{Shape}
use Rattle.java_typed_trees.specs.declared.shapes.Shape.TheVariants as shapes
use Rattle.java_typed_trees.specs.declared.shapes.TargetShape.TheVariants as targets
use Rattle.java_typed_trees.specs.declared.statements.DeclaratorShape.{DeclaratorShape}
use Rattle.java_typed_trees.specs.declared.statements.ResourceShape.{ResourceShape}
use Rattle.java_typed_trees.specs.StatementTrees.{CatchForm, InitialForm, Declaration, Expressions, StatementForm}
use Rattle.java_typed_trees.specs.StatementTrees as forms
use Rattle.java_typed_trees.specs.WellFormedStatements.{initial_count}
use Rattle.java_typing_laws.specs.TypingContexts.{TypingContext, type_of_number}
use Rattle.java_typing_laws.specs.TypedTrees.{FitsIn, IsConstruction, Part, behind_first, first_type}

-- ---- variables

-- the first part, where one is taken, may be stored where the type is declared
abbrev pub IfFits : Program → Bool → List Part → VType → Type 0
IfFits p false parts t = Unit {0}
IfFits p true parts t = FitsIn p (first_type parts) t

-- the parts behind the first, where one is taken
abbrev pub behind_if : Bool → List Part → List Part
behind_if false parts = parts
behind_if true parts = behind_first parts

-- the parts begin with the initialisers of those variables that have one, and each fits its variable (JLS 14.4)
abbrev pub AreDeclarators : TypingContext → List DeclaratorShape → List Part → Type 0
AreDeclarators c [] parts = Unit {0}
AreDeclarators c (x ∷ xs) parts = IsSomeAnd (type_of_number c.variables x.variable) (IfFits c.program x.has_initializer parts) × AreDeclarators c xs (behind_if x.has_initializer parts)

-- the first part of a `for` (JLS 14.14.1)
abbrev pub IsInitial : TypingContext → InitialForm → List Part → Type 0
IsInitial c (Declaration names) parts = AreDeclarators c names parts
IsInitial c (Expressions count) parts = Unit {0}

-- ---- conditions and results

-- the first part is a truth value
abbrev pub IsCondition : List Part → Type 0
IsCondition parts = first_type parts ≡ Some boolean

abbrev pub IfCondition : Bool → List Part → Type 0
IfCondition false parts = Unit {0}
IfCondition true parts = IsCondition parts

-- `return`, with or without a value, in a method with this result (JLS 14.17)
abbrev pub IsReturn : Program → Bool → List Part → Option VType → Type 0
IsReturn p false parts None = Unit {0}
IsReturn p false parts (Some t) = ⊥
IsReturn p true parts None = ⊥
IsReturn p true parts (Some t) = FitsIn p (first_type parts) t

-- ---- try (JLS 14.20)

-- the part fits the resource's variable, whose type has the method that closes it
abbrev pub IsResource : TypingContext → ResourceShape → Part → Type 0
IsResource c r opened = IsSomeAnd (type_of_number c.variables r.variable) (λ t. FitsIn c.program opened.vtype t × IsSomeAnd (method_at c.program r.close) (IsClose c.program t))

-- the variable has a class that each of the clause's classes, one or more, is under
abbrev pub IsCatchClause : TypingContext → CatchForm → Type 0
IsCatchClause c x = (0 < length x.classes) × IsSomeAnd (type_of_number c.variables x.variable) (λ t. All (λ d. HasClass c.program d × IsUnder c.program d c.program.core.throwable × IsAssignable c.program (types.Obj d) t) x.classes)

-- ---- with what a constructor begins (JLS 8.8.7)

-- a call of a constructor of the super class, in a constructor
abbrev pub IsSuperCall : TypingContext → Method → MethodId → List Part → Type 0
IsSuperCall c m n parts = (m.kind ≡ methods.Ctor) × IsSomeAnd (class_at c.program m.class) (λ k. IsSomeAnd k.sup (λ d. IsConstruction c.program d n parts))

-- the instance field of `this` to which an expression of the shape assigns
abbrev pub assigned_in : Shape → Bool → Option FieldId
assigned_in (shapes.Assignment (targets.Field f)) of_this = when_true of_this f
assigned_in shape of_this = None

-- the initialiser of an instance field that the constructor's class declares
abbrev pub IsFieldInitializer : TypingContext → Method → List Part → Type 0
IsFieldInitializer c m [] = ⊥
IsFieldInitializer c m (x ∷ xs) = IsSomeAnd (assigned_in x.shape x.of_this) (λ f. IsSomeAnd (field_at c.program f) (λ y. (m.kind ≡ methods.Ctor) × (m.class ≡ y.class)))

-- ---- all forms

-- the statement is typed over these expressions, in the body of this method or constructor
abbrev pub IsTypedForm : TypingContext → Method → StatementForm → List Part → Type 0
IsTypedForm c m (forms.Block end) parts = Unit {0}
IsTypedForm c m forms.Empty parts = Unit {0}
IsTypedForm c m (forms.LocalDeclaration names) parts = AreDeclarators c names parts
IsTypedForm c m forms.Expression parts = Unit {0}
IsTypedForm c m (forms.If has_else) parts = IsCondition parts
IsTypedForm c m forms.While parts = IsCondition parts
IsTypedForm c m forms.Do parts = IsCondition parts
IsTypedForm c m (forms.For initial has_condition) parts = IsInitial c initial parts × IfCondition has_condition (drop (initial_count initial) parts)
IsTypedForm c m (forms.Return has_value) parts = IsReturn c.program has_value parts m.sig.result
IsTypedForm c m forms.Throw parts = IsSomeAnd (first_type parts) (IsThrowable c.program)
IsTypedForm c m forms.Break parts = Unit {0}
IsTypedForm c m forms.Continue parts = Unit {0}
IsTypedForm c m (forms.Try resources catches has_finally) parts = AllZip (IsResource c) resources parts × All (IsCatchClause c) catches
IsTypedForm c m (forms.SuperCall n written) parts = IsSuperCall c m n parts
IsTypedForm c m forms.FieldInitializer parts = IsFieldInitializer c m parts
IsTypedForm c m forms.Erroneous parts = ⊥
