-- The names in a graph's words. A number that names nothing has no letters.
use Rattle.std.specs.Prelude.{ℕ, ◌==◌, Option, Some, None, List, [], ◌∷◌, ◌++◌, codes, cond, bytes_eq}
use Rattle.program_model.specs.declared.kinds.BodyId.{BodyId}
use Rattle.program_model.specs.declared.kinds.ClassId.{ClassId}
use Rattle.program_model.specs.declared.kinds.ElementType.{ElementType}
use Rattle.program_model.specs.declared.kinds.ElementType.TheVariants as elements
use Rattle.program_model.specs.declared.kinds.MethodId.{MethodId}
use Rattle.program_model.specs.declared.kinds.MethodKind.{MethodKind}
use Rattle.program_model.specs.declared.kinds.MethodKind.TheVariants as kinds
use Rattle.program_model.specs.declared.kinds.Primitive.{Primitive}
use Rattle.program_model.specs.declared.kinds.Primitive.TheVariants as primitives
use Rattle.program_model.specs.declared.kinds.StmtId.{StmtId}
use Rattle.program_model.specs.declared.kinds.VType.{VType}
use Rattle.program_model.specs.declared.kinds.VType.TheVariants as types
use Rattle.program_model.specs.declared.program.Method.{Method}
use Rattle.program_model.specs.declared.program.Program.{Program}
use Rattle.program_model.specs.declared.tree.Body.{Body}
use Rattle.program_model.specs.declared.tree.TStmt.{TStmt}
use Rattle.program_model.specs.declared.tree.Var.{Var}
use Rattle.program_model.specs.Lookups.{method_at, statement_at, variable_at}
use Rattle.program_texts.specs.Texts.{class_text, line_text}

-- what stands behind the last dot of a text, or `found` where it has none
abbrev pub behind_last_dot : List ℕ → List ℕ → List ℕ
behind_last_dot found [] = found
behind_last_dot found (x ∷ xs) = cond (x == 46) (behind_last_dot xs xs) (behind_last_dot found xs)

-- the last name of a qualified name (JLS 6.2)
abbrev pub last_name : List ℕ → List ℕ
last_name name = behind_last_dot name name

abbrev pub class_word : Program → ClassId → List ℕ
class_word p c = last_name (class_text p c)

-- a constructor is named by its class
abbrev pub heading : Program → Method → MethodKind → List ℕ
heading p m kinds.Ctor = codes "new " ++ class_word p m.class
heading p m kinds.Instance = m.name
heading p m kinds.Static = m.name
heading p m kinds.Constant = m.name

abbrev pub method_heading : Program → Method → List ℕ
method_heading p m = heading p m m.kind

abbrev pub heading_in : Program → Option Method → List ℕ
heading_in p None = []
heading_in p (Some m) = method_heading p m

abbrev pub method_word : Program → MethodId → List ℕ
method_word p m = heading_in p (method_at p m)

abbrev pub name_of_variable : Option Var → List ℕ
name_of_variable None = []
name_of_variable (Some x) = x.name

abbrev pub variable_word : Body → ℕ → List ℕ
variable_word b x = name_of_variable (variable_at b x)

abbrev pub place_of_statement : Option TStmt → List ℕ
place_of_statement None = []
place_of_statement (Some s) = line_text s.pos

-- a statement is named by its place
abbrev pub statement_word : Body → StmtId → List ℕ
statement_word b s = place_of_statement (statement_at b s)

abbrev pub primitive_word : Primitive → List ℕ
primitive_word primitives.Boolean = codes "boolean"
primitive_word primitives.Byte = codes "byte"
primitive_word primitives.Char = codes "char"
primitive_word primitives.Int = codes "int"
primitive_word primitives.Long = codes "long"

abbrev pub element_word : ElementType → List ℕ
element_word (elements.Primitive k) = primitive_word k
element_word elements.Str = codes "String"

abbrev pub type_word : Program → VType → List ℕ
type_word p (types.Primitive k) = primitive_word k
type_word p types.Str = codes "String"
type_word p (types.Arr e) = element_word e ++ codes "[]"
type_word p (types.Obj c) = class_word p c
type_word p types.NullType = codes "null"

-- the method has a body and this heading
abbrev pub body_under : Program → List ℕ → Method → Option BodyId
body_under p name m = cond (bytes_eq (method_heading p m) name) m.body None

abbrev pub first_of : Option BodyId → Option BodyId → Option BodyId
first_of None later = later
first_of (Some b) later = Some b

-- the body of the first method that has one and this heading
abbrev pub body_named : Program → List ℕ → List Method → Option BodyId
body_named p name [] = None
body_named p name (m ∷ ms) = first_of (body_under p name m) (body_named p name ms)
