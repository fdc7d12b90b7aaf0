-- A small program with an owning field that a method stores anew: the constructor makes a resource and stores it into the field, `reopen` closes what the field holds and stores
-- a new resource there, by which it creates the obligation of its object anew, `close` closes what the field holds, and `main` makes a holder, closes it, reopens it, and closes
-- it again.
--
--     @InheritableMustCall("close")
--     class Holder {
--         @Owning private Resource held;
--         Holder() { this.held = new Resource(); }
--         @CreatesMustCallFor
--         void reopen() { this.held.close(); this.held = new Resource(); }
--         @EnsuresCalledMethods(value = "this.held", methods = "close")
--         void close() { this.held.close(); }
--         static void main(String[] args) {
--             Holder h = new Holder();
--             h.close();
--             h.reopen();
--             h.close();
--         }
--     }
use Rattle.std.specs.Prelude.{ℕ, false, Some, None, List, [], ◌∷◌, codes}
use Rattle.std.proofs.Common.{lit<}
use Rattle.program_model.specs.declared.kinds.BodyId.{BodyId}
use Rattle.program_model.specs.declared.kinds.ElementType.TheVariants as elements
use Rattle.program_model.specs.declared.kinds.MethodId.{MethodId}
use Rattle.program_model.specs.declared.kinds.MethodKind.TheVariants as methods
use Rattle.program_model.specs.declared.kinds.VType.TheVariants as types
use Rattle.program_model.specs.declared.program.Class.{Class}
use Rattle.program_model.specs.declared.program.Field.{Field}
use Rattle.program_model.specs.declared.program.Method.{Method}
use Rattle.program_model.specs.declared.program.Program.{Program}
use Rattle.program_model.specs.declared.program.RawAnno.{RawAnno}
use Rattle.program_model.specs.declared.program.Sig.{Sig}
use Rattle.program_model.specs.declared.tree.AssignmentTarget.TheVariants as assigned
use Rattle.program_model.specs.declared.tree.Body.{Body}
use Rattle.program_model.specs.declared.tree.CallTarget.TheVariants as targets
use Rattle.program_model.specs.declared.tree.Declarator.{Declarator}
use Rattle.program_model.specs.declared.tree.ExpressionKind.TheVariants as expressions
use Rattle.program_model.specs.declared.tree.StatementKind.TheVariants as statements
use Rattle.program_model.specs.declared.tree.TExpr.{TExpr}
use Rattle.program_model.specs.declared.tree.TStmt.{TStmt}
use Rattle.program_model.specs.declared.tree.Var.{Var}
use Rattle.rlc_base.specs.declared.place.Pos.{Pos}
use Rattle.safety_examples.specs.CarefulPrograms.{class_number, core_classes, error, exception, expression_number, in_source, method_number, none, object, one, plain_class, plain_method, plain_signature, runtime_exception, statement_number, throwable, two, unchecked, vector}
use Rattle.safety_examples.specs.OwnerPrograms.{ensures_closed, evaluates, held, held_declared, holder, holder_class, holder_close_signature, main_signature, read, resource, resource_class, resource_close, resource_close_declared, resource_constructor, resource_constructor_declared, this_at}
use Rattle.safety_examples.specs.ResettingPrograms.{creates}

-- ---- numbers

abbrev pub holder_constructor : MethodId
holder_constructor = method_number 2

abbrev pub holder_reopen : MethodId
holder_reopen = method_number 3

abbrev pub holder_close : MethodId
holder_close = method_number 4

abbrev pub main_method : MethodId
main_method = method_number 5

abbrev pub constructor_body : BodyId
constructor_body = record { 0 = 0 }

abbrev pub reopen_body : BodyId
reopen_body = record { 0 = 1 }

abbrev pub close_body : BodyId
close_body = record { 0 = 2 }

abbrev pub main_body : BodyId
main_body = record { 0 = 3 }

-- ---- the table of classes

-- the library's: its constructor and `close` alone
abbrev pub resource_declared : Class
resource_declared = record resource_class { methods = two resource_constructor resource_close }

-- the class of the program
abbrev pub holder_declaration : Class
holder_declaration = record holder_class { methods = vector (holder_constructor ∷ holder_reopen ∷ holder_close ∷ main_method ∷ []) (lit< tt) }

abbrev pub classes : List Class
classes =
    plain_class (codes "java.lang.Object") 1 None (one object)
    ∷ plain_class (codes "java.lang.String") 1 (Some object) (two object (class_number 1))
    ∷ plain_class (codes "java.lang.Throwable") 2 (Some object) (two object throwable)
    ∷ plain_class (codes "java.lang.Error") 3 (Some throwable) (vector (object ∷ throwable ∷ error ∷ []) (lit< tt))
    ∷ plain_class (codes "java.lang.Exception") 4 (Some throwable) (vector (object ∷ throwable ∷ exception ∷ []) (lit< tt))
    ∷ plain_class (codes "java.lang.RuntimeException") 5 (Some exception) (vector (object ∷ throwable ∷ exception ∷ runtime_exception ∷ []) (lit< tt))
    ∷ unchecked (codes "java.lang.ArithmeticException") 6
    ∷ unchecked (codes "java.lang.ArrayIndexOutOfBoundsException") 7
    ∷ unchecked (codes "java.lang.ClassCastException") 8
    ∷ unchecked (codes "java.lang.NegativeArraySizeException") 9
    ∷ unchecked (codes "java.lang.NullPointerException") 10
    ∷ resource_declared
    ∷ holder_declaration
    ∷ []

-- ---- the field

-- `@Owning private Resource held;`
abbrev pub replaced_declared : Field
replaced_declared = record held_declared { is_final = false; pos = in_source 3 30 }

-- ---- the methods

-- `Holder()`
abbrev pub holder_constructor_signature : Sig
holder_constructor_signature = plain_signature holder none none None

abbrev pub holder_constructor_declared : Method
holder_constructor_declared = plain_method holder [] holder_constructor_signature methods.Ctor (Some constructor_body) (in_source 4 5)

-- `@CreatesMustCallFor`, of the holder's `reopen`
abbrev pub creates_this : RawAnno
creates_this = record creates { pos = in_source 5 5 }

-- the obligation of `this` is created anew
abbrev pub holder_reopen_signature : Sig
holder_reopen_signature = record (plain_signature holder none none None) { reset = Some 0 }

-- `@CreatesMustCallFor void reopen()`
abbrev pub holder_reopen_declared : Method
holder_reopen_declared = record (plain_method holder (codes "reopen") holder_reopen_signature methods.Instance (Some reopen_body) (in_source 6 10)) { annos = one creates_this }

-- `void close()`, of the holder
abbrev pub holder_close_declared : Method
holder_close_declared = record (plain_method holder (codes "close") holder_close_signature methods.Instance (Some close_body) (in_source 8 10)) {
  annos = one (ensures_closed (codes "this.held") (in_source 7 5));
}

-- `static void main(String[] args)`
abbrev pub main_declared : Method
main_declared = plain_method holder (codes "main") main_signature methods.Static (Some main_body) (in_source 9 17)

abbrev pub methods_declared : List Method
methods_declared = resource_constructor_declared ∷ resource_close_declared ∷ holder_constructor_declared ∷ holder_reopen_declared ∷ holder_close_declared ∷ main_declared ∷ []

-- ---- parts of the bodies

-- `new Resource()`
abbrev pub new_resource : Pos → TExpr
new_resource pos = record {
  kind = expressions.NewObject (record { class = resource; constructor = resource_constructor; arguments = none });
  vtype = Some (types.Obj resource);
  pos = pos;
}

-- `this.held`, of the `this` with this number
abbrev pub field_read : ℕ → Pos → TExpr
field_read e pos = record { kind = expressions.Field (expression_number e) held; vtype = Some (types.Obj resource); pos = pos }

-- `this.held = ..`, of the `this` and the value with these numbers
abbrev pub stores : ℕ → ℕ → Pos → TExpr
stores e v pos = record {
  kind = expressions.Assignment (assigned.Field (expression_number e) held) (expression_number v);
  vtype = Some (types.Obj resource);
  pos = pos;
}

-- `this.held.close()`
abbrev pub closes_held : Pos → TExpr
closes_held pos = record {
  kind = expressions.Call (record { target = targets.Other (expression_number 1); method = resource_close; arguments = none });
  vtype = None;
  pos = pos;
}

-- ---- the constructor

-- `{ this.held = new Resource(); }`
abbrev pub constructing : Body
constructing = record {
  method = holder_constructor;
  vars = none;
  stmts = one (statement_number 0);
  end = in_source 4 44;
  statements = one (evaluates 2 (in_source 4 16));
  expressions = vector (this_at (in_source 4 16) ∷ new_resource (in_source 4 28) ∷ stores 0 1 (in_source 4 26) ∷ []) (lit< tt);
}

-- ---- `reopen`

abbrev pub reopen_expressions : List TExpr
reopen_expressions =
    this_at (in_source 6 21) ∷ field_read 0 (in_source 6 26) ∷ closes_held (in_source 6 31) ∷ this_at (in_source 6 40) ∷ new_resource (in_source 6 52) ∷ stores 3 4 (in_source 6 50) ∷ []

-- `{ this.held.close(); this.held = new Resource(); }`
abbrev pub reopens : Body
reopens = record {
  method = holder_reopen;
  vars = none;
  stmts = two (statement_number 0) (statement_number 1);
  end = in_source 6 68;
  statements = two (evaluates 2 (in_source 6 21)) (evaluates 5 (in_source 6 40));
  expressions = vector reopen_expressions (lit< tt);
}

-- ---- `close`

-- `{ this.held.close(); }`
abbrev pub closing : Body
closing = record {
  method = holder_close;
  vars = none;
  stmts = one (statement_number 0);
  end = in_source 8 39;
  statements = one (evaluates 2 (in_source 8 20));
  expressions = vector (this_at (in_source 8 20) ∷ field_read 0 (in_source 8 25) ∷ closes_held (in_source 8 30) ∷ []) (lit< tt);
}

-- ---- `main`

-- `args` and `Holder h`
abbrev pub main_variables : List Var
main_variables =
    record { name = codes "args"; vtype = types.Arr elements.Str; annos = none; pos = in_source 9 31 }
    ∷ record { name = codes "h"; vtype = types.Obj holder; annos = none; pos = in_source 10 16 }
    ∷ []

-- `new Holder()`
abbrev pub new_holder : TExpr
new_holder = record {
  kind = expressions.NewObject (record { class = holder; constructor = holder_constructor; arguments = none });
  vtype = Some (types.Obj holder);
  pos = in_source 10 20;
}

-- `h`, and a call of this method on what the expression with this number gives, in the line
abbrev pub holder_read : ℕ → TExpr
holder_read line = read 1 (types.Obj holder) (in_source line 9)

abbrev pub calls_holder : ℕ → MethodId → ℕ → TExpr
calls_holder e m line = record {
  kind = expressions.Call (record { target = targets.Other (expression_number e); method = m; arguments = none });
  vtype = None;
  pos = in_source line 11;
}

-- `h = new Holder()`
abbrev pub holder_declarator : Declarator
holder_declarator = record { variable = 1; initializer = Some (expression_number 0); pos = in_source 10 16 }

-- `Holder h = new Holder();`
abbrev pub declares_holder : TStmt
declares_holder = record { kind = statements.LocalDeclaration (one holder_declarator); pos = in_source 10 9 }

abbrev pub main_expressions : List TExpr
main_expressions =
    new_holder ∷ holder_read 11 ∷ calls_holder 1 holder_close 11 ∷ holder_read 12 ∷ calls_holder 3 holder_reopen 12 ∷ holder_read 13 ∷ calls_holder 5 holder_close 13 ∷ []

-- `{ Holder h = new Holder(); h.close(); h.reopen(); h.close(); }`
abbrev pub running : Body
running = record {
  method = main_method;
  vars = vector main_variables (lit< tt);
  stmts = vector (statement_number 0 ∷ statement_number 1 ∷ statement_number 2 ∷ statement_number 3 ∷ []) (lit< tt);
  end = in_source 14 5;
  statements = vector (declares_holder ∷ evaluates 2 (in_source 11 9) ∷ evaluates 4 (in_source 12 9) ∷ evaluates 6 (in_source 13 9) ∷ []) (lit< tt);
  expressions = vector main_expressions (lit< tt);
}

-- ---- the program

abbrev pub replacing : Program
replacing = record {
  classes = vector classes (lit< tt);
  methods = vector methods_declared (lit< tt);
  fields = one replaced_declared;
  bodies = vector (constructing ∷ reopens ∷ closing ∷ running ∷ []) (lit< tt);
  ignored = two runtime_exception error;
  exact = none;
  names = codes "close" ∷ [];
  core = core_classes;
}
