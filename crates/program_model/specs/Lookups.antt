-- What stands at a number. A number out of range names nothing.
use Rattle.std.specs.Prelude.{ℕ, Option, Some, None, List, [], ◌∷◌, slice_get}
use Rattle.program_model.specs.declared.kinds.ClassId.{ClassId}
use Rattle.program_model.specs.declared.kinds.MethodId.{MethodId}
use Rattle.program_model.specs.declared.kinds.FieldId.{FieldId}
use Rattle.program_model.specs.declared.kinds.BodyId.{BodyId}
use Rattle.program_model.specs.declared.kinds.StmtId.{StmtId}
use Rattle.program_model.specs.declared.kinds.ExprId.{ExprId}
use Rattle.program_model.specs.declared.kinds.VType.{VType}
use Rattle.program_model.specs.declared.program.Program.{Program}
use Rattle.program_model.specs.declared.program.Class.{Class}
use Rattle.program_model.specs.declared.program.Method.{Method}
use Rattle.program_model.specs.declared.program.Field.{Field}
use Rattle.program_model.specs.declared.tree.Body.{Body}
use Rattle.program_model.specs.declared.tree.Var.{Var}
use Rattle.program_model.specs.declared.tree.TStmt.{TStmt}
use Rattle.program_model.specs.declared.tree.TExpr.{TExpr}

-- a value that may be absent, as a list
abbrev pub optional : {X : Type 0} → Option X → List X
optional None = []
optional (Some x) = x ∷ []

abbrev pub class_at : Program → ClassId → Option Class
class_at p c = slice_get p.classes.items c.0

abbrev pub method_at : Program → MethodId → Option Method
method_at p m = slice_get p.methods.items m.0

abbrev pub field_at : Program → FieldId → Option Field
field_at p f = slice_get p.fields.items f.0

abbrev pub body_at : Program → BodyId → Option Body
body_at p b = slice_get p.bodies.items b.0

abbrev pub statement_at : Body → StmtId → Option TStmt
statement_at b s = slice_get b.statements.items s.0

abbrev pub expression_at : Body → ExprId → Option TExpr
expression_at b e = slice_get b.expressions.items e.0

abbrev pub variable_at : Body → ℕ → Option Var
variable_at b x = slice_get b.vars.items x

abbrev pub type_in : Option TExpr → Option VType
type_in None = None
type_in (Some x) = x.vtype

-- the type of an expression
abbrev pub type_at : Body → ExprId → Option VType
type_at b e = type_in (expression_at b e)

abbrev pub type_of_variable : Option Var → Option VType
type_of_variable None = None
type_of_variable (Some x) = Some x.vtype

-- the declared type of a variable
abbrev pub variable_type : Body → ℕ → Option VType
variable_type b x = type_of_variable (variable_at b x)
