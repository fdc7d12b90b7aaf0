-- Where an expression of a body has a type: the program, the body's variables, and the class of `this`.
use Rattle.std.specs.Prelude.{◌≡◌, ℕ, true, Option, Some, None, List, All, slice_get}
use Rattle.program_model.specs.declared.kinds.ClassId.{ClassId}
use Rattle.program_model.specs.declared.kinds.FieldId.{FieldId}
use Rattle.program_model.specs.declared.kinds.MethodId.{MethodId}
use Rattle.program_model.specs.declared.kinds.VType.{VType}
use Rattle.program_model.specs.declared.program.Program.{Program}
use Rattle.program_model.specs.declared.program.Class.{Class}
use Rattle.program_model.specs.declared.program.Field.{Field}
use Rattle.program_model.specs.declared.program.Method.{Method}
use Rattle.program_model.specs.declared.tree.Body.{Body}
use Rattle.program_model.specs.declared.tree.Var.{Var}
use Rattle.program_model.specs.Hierarchy.{IsHierarchy, IsUnder}
use Rattle.program_model.specs.Lookups.{class_at, field_at, method_at, type_of_variable}
use Rattle.program_model.specs.Typing.{HasThis, IsDeclarable}
use Rattle.program_model.specs.Validity.{IsFieldOf, IsMethodOf, IsResult}
use Rattle.java_syntax.specs.declared.names.Typ.{Typ}
use Rattle.class_names.specs.WrittenTypes.{written_type}
use Rattle.java_typed_trees.specs.declared.scope.Local.{Local}
use Rattle.java_typed_trees.specs.Answers.{type_in}
use Rattle.java_call_rules.specs.Surroundings.{Surroundings}

pub record TypingContext : Type 0 where
  pub program : Program
  -- all variables of the body, by their numbers
  pub variables : List Var
  -- the class of the object that the body runs on, if it runs on one
  pub this_class : Option ClassId

-- the type of the variable with this number
abbrev pub type_of_number : List Var → ℕ → Option VType
type_of_number variables n = type_of_variable (slice_get variables n)

-- the body is one of the context
pub record IsBodyIn (c : TypingContext) (b : Body) : Type 0 where
  pub variables : b.vars.items ≡ c.variables
  pub this_class : (d : ClassId) → c.this_class ≡ Some d → HasThis c.program b d

-- ---- what the typing of expressions rests on

-- super types are in order, and each class lists members of its own, of types that may be declared; no class is under String
pub record HasTypedMembers (p : Program) : Type 0 where
  pub hierarchy : IsHierarchy p
  pub fields : (c : ClassId) (k : Class) → class_at p c ≡ Some k → All (IsFieldOf p c) k.fields.items
  pub methods : (c : ClassId) (k : Class) → class_at p c ≡ Some k → All (IsMethodOf p c) k.methods.items
  pub field_types : (f : FieldId) (x : Field) → field_at p f ≡ Some x → IsDeclarable p x.vtype
  pub results : (m : MethodId) (x : Method) → method_at p m ≡ Some x → IsResult p x.sig.result
  pub final_string : (c : ClassId) → IsUnder p c p.core.string → c ≡ p.core.string
  pub object_is_not_string : p.core.object ≡ p.core.string → ⊥

-- a variable in scope has the type that it is declared with
abbrev pub IsVariableOf : List Var → Local → Type 0
IsVariableOf variables x = (t : VType) → type_in x.variable.static_type ≡ Some t → type_of_number variables x.variable.number ≡ Some t

-- the types that are written in the compilation unit are those of the program
abbrev pub HasWrittenTypes : Surroundings → Type 0
HasWrittenTypes s = (written : Typ) (t : VType) → written_type s.classes s.unit written ≡ Some t → IsDeclarable s.context.program t

-- the context of the body of which the expressions here are a part
abbrev pub context_with : Surroundings → List Var → Option ClassId → TypingContext
context_with s variables owner = record { program = s.context.program; variables = variables; this_class = owner }

-- the expressions here stand in a body with these variables and this class of `this`
pub record IsInBody (s : Surroundings) (variables : List Var) (owner : Option ClassId) : Type 0 where
  pub members : HasTypedMembers s.context.program
  pub declarable : (n : ℕ) (t : VType) → type_of_number variables n ≡ Some t → IsDeclarable s.context.program t
  pub locals : All (IsVariableOf variables) s.context.locals
  pub has_owner : s.context.has_this ≡ true → owner ≡ Some s.context.class'
  pub not_string : s.context.class' ≡ s.context.program.core.string → ⊥
  pub written : HasWrittenTypes s

-- a type that an assignment context wants, if there is one, may be declared
abbrev pub IfDeclarable : Program → Option VType → Type 0
IfDeclarable p None = Unit {0}
IfDeclarable p (Some t) = IsDeclarable p t
