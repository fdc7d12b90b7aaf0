-- What makes a program in hand valid. It is said of the program alone: each number that stands in it is one of its
-- tables', its parts belong together, and its bodies are typed trees.
use Rattle.std.specs.Prelude.{◌≡◌, ◌<◌, ◌≤◌, ◌^◌, ◌||◌, not, if◌then◌else◌, ℕ, Bool, true, false, Option, Some, None, is_some, List, [], ◌∷◌, map, length, All, Contains, codes}
use Rattle.std.specs.Option.{IsSomeAnd}
use Rattle.std.specs.List.Sorted.{IsStrictlyIncreasing}
use Rattle.program_model.specs.declared.kinds.ClassId.{ClassId}
use Rattle.program_model.specs.declared.kinds.MethodId.{MethodId}
use Rattle.program_model.specs.declared.kinds.FieldId.{FieldId}
use Rattle.program_model.specs.declared.kinds.BodyId.{BodyId}
use Rattle.program_model.specs.declared.kinds.StmtId.{StmtId}
use Rattle.program_model.specs.declared.kinds.ExprId.{ExprId}
use Rattle.program_model.specs.declared.kinds.VType.{VType}
use Rattle.program_model.specs.declared.kinds.VType.TheVariants as types
use Rattle.program_model.specs.declared.kinds.Target.{Target}
use Rattle.program_model.specs.declared.kinds.Target.TheVariants as promised
use Rattle.program_model.specs.declared.kinds.MethodKind.{MethodKind}
use Rattle.program_model.specs.declared.kinds.MethodKind.TheVariants as methods
use Rattle.program_model.specs.declared.program.Program.{Program}
use Rattle.program_model.specs.declared.program.Class.{Class}
use Rattle.program_model.specs.declared.program.Field.{Field}
use Rattle.program_model.specs.declared.program.Method.{Method}
use Rattle.program_model.specs.declared.program.Sig.{Sig}
use Rattle.program_model.specs.declared.program.ParamSig.{ParamSig}
use Rattle.program_model.specs.declared.tree.Body.{Body}
use Rattle.program_model.specs.declared.tree.Var.{Var}
use Rattle.program_model.specs.declared.tree.TStmt.{TStmt}
use Rattle.program_model.specs.declared.tree.TExpr.{TExpr}
use Rattle.program_model.specs.Lookups.{class_at, method_at, field_at, body_at, statement_at, expression_at}
use Rattle.program_model.specs.Heads.{HasDueSuperCall, HasInitializersInOrder, HeadsFirst, OneSuperCall, AgreeOnInitializers, is_head}
use Rattle.program_model.specs.Hierarchy.{HasClass, IsHierarchy, IsUnder}
use Rattle.program_model.specs.InitialValues.{IsInitialValue}
use Rattle.program_model.specs.Jumps.{HasJumpsInLoops}
use Rattle.program_model.specs.SuperTests.{is_class}
use Rattle.program_model.specs.TextOrder.{HasVariablesInOrder}
use Rattle.program_model.specs.Trees.{statements_in, HasOperands, HasParts, IsForest}
use Rattle.program_model.specs.Typing.{IsDeclarable, IsTypedExpression, IsTypedStatement}

-- the class with this number has this qualified name
abbrev pub IsNamed : Program → ClassId → List ℕ → Type 0
IsNamed p c name = IsSomeAnd (class_at p c) (λ k. k.name ≡ name)

-- the classes that the language names are those of their names
pub record HasCoreClasses (p : Program) : Type 0 where
  pub object : IsNamed p p.core.object (codes "java.lang.Object")
  pub string : IsNamed p p.core.string (codes "java.lang.String")
  pub throwable : IsNamed p p.core.throwable (codes "java.lang.Throwable")
  pub error : IsNamed p p.core.error (codes "java.lang.Error")
  pub runtime_exception : IsNamed p p.core.runtime_exception (codes "java.lang.RuntimeException")
  pub arithmetic_exception : IsNamed p p.core.arithmetic_exception (codes "java.lang.ArithmeticException")
  pub array_index_exception : IsNamed p p.core.array_index_exception (codes "java.lang.ArrayIndexOutOfBoundsException")
  pub class_cast_exception : IsNamed p p.core.class_cast_exception (codes "java.lang.ClassCastException")
  pub negative_array_size_exception : IsNamed p p.core.negative_array_size_exception (codes "java.lang.NegativeArraySizeException")
  pub null_pointer_exception : IsNamed p p.core.null_pointer_exception (codes "java.lang.NullPointerException")

-- errors and unchecked exceptions are Throwables, and the exceptions that operators throw are unchecked (JLS 11.1.1, 15.6)
pub record HasExceptionClasses (p : Program) : Type 0 where
  pub error : IsUnder p p.core.error p.core.throwable
  pub runtime_exception : IsUnder p p.core.runtime_exception p.core.throwable
  pub arithmetic_exception : IsUnder p p.core.arithmetic_exception p.core.runtime_exception
  pub array_index_exception : IsUnder p p.core.array_index_exception p.core.runtime_exception
  pub class_cast_exception : IsUnder p p.core.class_cast_exception p.core.runtime_exception
  pub negative_array_size_exception : IsUnder p p.core.negative_array_size_exception p.core.runtime_exception
  pub null_pointer_exception : IsUnder p p.core.null_pointer_exception p.core.runtime_exception

-- all classes but `Object` extend a class, and interfaces extend none (JLS 8.1.4, 9.1.3)
abbrev pub has_super_class : Program → ClassId → Class → Bool
has_super_class p c k = not (k.interface || is_class c p.core.object)

-- what the declaration of a class shows: a super class where it has one, and that interfaces are abstract (JLS 9.1.1.1)
pub record IsValidClass (p : Program) (c : ClassId) (k : Class) : Type 0 where
  pub super_class : is_some k.sup ≡ has_super_class p c k
  pub abstract : k.interface ≡ true → k.is_abstract ≡ true

-- the tables are no longer than numbers reach
pub record IsNumbered (p : Program) : Type 0 where
  pub classes : length p.classes.items < 2 ^ 32
  pub methods : length p.methods.items < 2 ^ 32
  pub fields : length p.fields.items < 2 ^ 32
  pub bodies : length p.bodies.items < 2 ^ 32

abbrev pub IsFieldOf : Program → ClassId → FieldId → Type 0
IsFieldOf p c f = IsSomeAnd (field_at p f) (λ x. x.class ≡ c)

abbrev pub IsMethodOf : Program → ClassId → MethodId → Type 0
IsMethodOf p c m = IsSomeAnd (method_at p m) (λ x. x.class ≡ c)

-- the class lists members of its own, each once, in textual order
pub record HasMembers (p : Program) (c : ClassId) (own_fields : List FieldId) (own_methods : List MethodId) : Type 0 where
  pub field_order : IsStrictlyIncreasing (map (λ f. f.0) own_fields)
  pub fields : All (IsFieldOf p c) own_fields
  pub method_order : IsStrictlyIncreasing (map (λ m. m.0) own_methods)
  pub methods : All (IsMethodOf p c) own_methods

-- the class of a member lists it
abbrev pub IsListedField : Program → FieldId → Field → Type 0
IsListedField p f x = IsSomeAnd (class_at p x.class) (λ k. Contains k.fields.items f)

abbrev pub IsListedMethod : Program → MethodId → Method → Type 0
IsListedMethod p m x = IsSomeAnd (class_at p x.class) (λ k. Contains k.methods.items m)

abbrev pub is_constant : MethodKind → Bool
is_constant methods.Constant = true
is_constant k = false

abbrev pub is_class_type : VType → Bool
is_class_type (types.Obj c) = true
is_class_type t = false

-- a static field is of no class type but String, and has a value of its type to begin with, or none; a value to begin with
-- is a static field's alone
abbrev pub IsStaticOrNot : Bool → Field → Type 0
IsStaticOrNot true x = (is_class_type x.vtype ≡ false) × IsInitialValue x.vtype x.initial
IsStaticOrNot false x = x.initial ≡ None

pub record IsValidField (p : Program) (f : FieldId) (x : Field) : Type 0 where
  pub listed : IsListedField p f x
  pub declarable : IsDeclarable p x.vtype
  pub kind : IsStaticOrNot x.is_static x

-- a position of the signature: the receiver, or a declared parameter
abbrev pub IsPosition : Sig → ℕ → Type 0
IsPosition s k = k ≤ length s.params.items

abbrev pub IsPromised : Program → Sig → Target → Type 0
IsPromised p s (promised.At k) = IsPosition s k
IsPromised p s (promised.OfField f) = f.0 < length p.fields.items

abbrev pub IfPosition : Sig → Option ℕ → Type 0
IfPosition s None = Unit {0}
IfPosition s (Some k) = IsPosition s k

abbrev pub IsResult : Program → Option VType → Type 0
IsResult p None = Unit {0}
IsResult p (Some t) = IsDeclarable p t

pub record IsValidSig (p : Program) (s : Sig) : Type 0 where
  pub params : All (λ x. IsDeclarable p x.vtype) s.params.items
  pub result : IsResult p s.result
  pub throws : All (λ c. HasClass p c × IsUnder p c p.core.throwable) s.throws.items
  pub alias : IfPosition s s.alias
  pub reset : IfPosition s s.reset
  pub promises : All (λ x. IsPromised p s x.target) s.promises.items
  pub on_throw : All (λ x. IsPromised p s x.target) s.on_throw.items

-- a constructor has no result, a constant one of a class and no parameters
abbrev pub IsOfKind : MethodKind → Sig → Type 0
IsOfKind methods.Ctor s = s.result ≡ None
IsOfKind methods.Constant s = (s.params.items ≡ []) × (s.throws.items ≡ []) × IsSomeAnd s.result (λ t. is_class_type t ≡ true)
IsOfKind k s = Unit {0}

-- the method has no body, or one that is its own
abbrev pub OwnsBody : Program → MethodId → Option BodyId → Type 0
OwnsBody p m None = Unit {0}
OwnsBody p m (Some b) = IsSomeAnd (body_at p b) (λ x. x.method ≡ m)

-- a method of a program class that is not abstract, and no constant
abbrev pub RunsBody : Program → Method → Type 0
RunsBody p m = (m.is_abstract ≡ false) × (is_constant m.kind ≡ false) × IsSomeAnd (class_at p m.class) (λ k. k.library ≡ false)

-- methods of the library, abstract methods and constants have no body
abbrev pub MayHaveBody : Program → Method → Option BodyId → Type 0
MayHaveBody p m None = Unit {0}
MayHaveBody p m (Some b) = RunsBody p m

-- the type of the objects of a class
abbrev pub type_of_class : Program → ClassId → VType
type_of_class p c = (if is_class c p.core.string then types.Str else types.Obj c)

pub record IsValidMethod (p : Program) (m : MethodId) (x : Method) : Type 0 where
  pub listed : IsListedMethod p m x
  pub signature : IsValidSig p x.sig
  pub receiver : x.sig.receiver.vtype ≡ type_of_class p x.class
  pub kind : IsOfKind x.kind x.sig
  pub body : OwnsBody p m x.body
  pub bodiless : MayHaveBody p x x.body

-- the first variables are the parameters
abbrev pub HasParameters : List Var → List ParamSig → Type 0
HasParameters vars [] = Unit {0}
HasParameters [] (x ∷ params) = ⊥
HasParameters (v ∷ vars) (x ∷ params) = (v.vtype ≡ x.vtype) × HasParameters vars params

abbrev pub IsBodyOf : BodyId → Body → Method → Type 0
IsBodyOf n b m = (m.body ≡ Some n) × HasParameters b.vars.items m.sig.params.items

pub record IsValidStatement (p : Program) (b : Body) (s : StmtId) (x : TStmt) : Type 0 where
  pub parts : HasParts b s x.kind
  pub headless : All (λ t. is_head b t ≡ false) (statements_in x.kind)
  pub typed : IsTypedStatement p b x.kind

pub record IsValidExpression (p : Program) (b : Body) (e : ExprId) (x : TExpr) : Type 0 where
  pub operands : HasOperands e x.kind
  pub typed : IsTypedExpression p b x

pub record IsValidBody (p : Program) (n : BodyId) (b : Body) : Type 0 where
  pub method : IsSomeAnd (method_at p b.method) (IsBodyOf n b)
  pub variables : All (λ x. IsDeclarable p x.vtype) b.vars.items
  pub forest : IsForest b
  pub heads : HeadsFirst b b.stmts.items
  pub super_call : OneSuperCall b b.stmts.items
  pub statements : (s : StmtId) (x : TStmt) → statement_at b s ≡ Some x → IsValidStatement p b s x
  pub expressions : (e : ExprId) (x : TExpr) → expression_at b e ≡ Some x → IsValidExpression p b e x

-- the tables belong together, and the bodies are typed trees
pub record IsTypedProgram (p : Program) : Type 0 where
  pub numbered : IsNumbered p
  pub core : HasCoreClasses p
  pub hierarchy : IsHierarchy p
  pub exceptions : HasExceptionClasses p
  pub classes : (c : ClassId) (k : Class) → class_at p c ≡ Some k → IsValidClass p c k
  pub members : (c : ClassId) (k : Class) → class_at p c ≡ Some k → HasMembers p c k.fields.items k.methods.items
  pub fields : (f : FieldId) (x : Field) → field_at p f ≡ Some x → IsValidField p f x
  pub methods : (m : MethodId) (x : Method) → method_at p m ≡ Some x → IsValidMethod p m x
  pub bodies : (b : BodyId) (x : Body) → body_at p b ≡ Some x → IsValidBody p b x
  pub ignored : All (HasClass p) p.ignored.items
  pub exact : All (HasClass p) p.exact.items

-- the parts of a body stand where they should
pub record IsOrderedBody (p : Program) (b : Body) : Type 0 where
  pub variables : HasVariablesInOrder p b
  pub jumps : HasJumpsInLoops b
  pub super_call : HasDueSuperCall p b
  pub initializers : HasInitializersInOrder b

-- a valid program, or table without bodies
pub record IsValid (p : Program) : Type 0 where
  pub typed : IsTypedProgram p
  pub ordered : (b : BodyId) (x : Body) → body_at p b ≡ Some x → IsOrderedBody p x
  pub same_initializers : (b : BodyId) (x : Body) → body_at p b ≡ Some x → (c : BodyId) (y : Body) → body_at p c ≡ Some y → AgreeOnInitializers p x y

-- each method of a program class that is not abstract has its body
abbrev pub HasBodies : Program → Type 0
HasBodies p = (m : MethodId) (x : Method) → method_at p m ≡ Some x → RunsBody p x → IsSomeAnd x.body (λ b. Unit {0})
