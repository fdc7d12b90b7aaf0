-- Where the statements of a body have types: the program, the method and the variables that are declared.
use Rattle.std.specs.Prelude.{◌≡◌, ◌+◌, ℕ, false, Option, Some, None, List, [], ◌∷◌}
use Rattle.program_model.specs.declared.kinds.ClassId.{ClassId}
use Rattle.program_model.specs.declared.kinds.VType.{VType}
use Rattle.program_model.specs.declared.program.Method.{Method}
use Rattle.program_model.specs.declared.program.Program.{Program}
use Rattle.program_model.specs.declared.tree.Var.{Var}
use Rattle.program_model.specs.Hierarchy.{HasClass, IsUnder}
use Rattle.program_model.specs.Typing.{IsDeclarable}
use Rattle.program_model.specs.Validity.{IsResult}
use Rattle.java_syntax.specs.declared.names.Typ.{Typ}
use Rattle.class_names.specs.declared.class_name.ClassName.{ClassName}
use Rattle.class_names.specs.Meanings.{CompilationUnit, meaning_of}
use Rattle.class_names.specs.WrittenTypes.{written_type}
use Rattle.java_call_rules.specs.WrittenTypes.{class_in}
use Rattle.java_call_rules.specs.Surroundings.{Surroundings}
use Rattle.java_statement_parts.specs.Accepted.{HaveTypes}
use Rattle.java_typing_laws.specs.CatchParameters.{HasCatchTypes}
use Rattle.java_bodies.specs.Declarations.{BodyVariable}
use Rattle.java_typing_laws.specs.TypingContexts.{HasTypedMembers, IsInBody, type_of_number}

-- ---- the types of variables

-- what the types of variables depend on: the program, the class and the compilation unit
abbrev pub declaring : Surroundings → Surroundings
declaring s = record { context = record { program = s.context.program; class' = s.context.class'; has_this = false; locals = []; covered = [] }; classes = s.classes; unit = s.unit; initialized = None; constants = s.constants }

-- types and classes that are written in the compilation unit are those of the program; its classes of exceptions have least upper
-- bounds (JLS 4.10.4), and String is none of them
pub record HasDeclarableTypes (p : Program) (classes : List ClassName) (u : CompilationUnit) : Type 0 where
  pub members : HasTypedMembers p
  pub written : (t : Typ) (v : VType) → written_type classes u t ≡ Some v → IsDeclarable p v
  pub named : (name : List ℕ) (c : ClassId) → class_in (meaning_of classes u name) ≡ Some c → HasClass p c
  pub exceptions : HasCatchTypes p
  pub string : IsUnder p p.core.string p.core.throwable → ⊥

-- from this number on, the variables of the body have the types of these
abbrev pub HaveTypesFrom : List Var → ℕ → List BodyVariable → Type 0
HaveTypesFrom variables n [] = Unit {0}
HaveTypesFrom variables n (x ∷ xs) = (type_of_number variables n ≡ Some x.vtype) × HaveTypesFrom variables (n + 1) xs

-- ---- scopes

-- the statements here stand in the body of this method or constructor, which has these variables and this class of `this`; all
-- variables in scope have types
pub record IsInMethod (s : Surroundings) (variables : List Var) (owner : Option ClassId) (m : Method) : Type 0 where
  pub scope : IsInBody s variables owner
  pub locals : HaveTypes s.context.locals
  pub result : IsResult s.context.program m.sig.result
  pub types : HasDeclarableTypes s.context.program s.classes s.unit
