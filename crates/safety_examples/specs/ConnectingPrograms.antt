-- A small program with an owning field whose content has its obligation created anew: the constructor makes a socket, of which nothing must be called at first, stores it
-- into the field, and connects it there; `close` closes what the field holds, and `main` makes a holder and closes it.
--
--     @InheritableMustCall("close")
--     class Holder {
--         @Owning private final Socket held;
--         Holder() { this.held = new Socket(); this.held.connect(); }
--         @EnsuresCalledMethods(value = "this.held", methods = "close")
--         void close() { this.held.close(); }
--         static void main(String[] args) {
--             Holder h = new Holder();
--             h.close();
--         }
--     }
use Rattle.std.specs.Prelude.{ℕ, Some, None, List, [], ◌∷◌, codes}
use Rattle.std.proofs.Common.{lit<}
use Rattle.program_model.specs.declared.kinds.ElementType.TheVariants as elements
use Rattle.program_model.specs.declared.kinds.MethodId.{MethodId}
use Rattle.program_model.specs.declared.kinds.MethodKind.TheVariants as methods
use Rattle.program_model.specs.declared.kinds.VType.TheVariants as types
use Rattle.program_model.specs.declared.program.Class.{Class}
use Rattle.program_model.specs.declared.program.Method.{Method}
use Rattle.program_model.specs.declared.program.Program.{Program}
use Rattle.program_model.specs.declared.program.Sig.{Sig}
use Rattle.program_model.specs.declared.tree.AssignmentTarget.TheVariants as assigned
use Rattle.program_model.specs.declared.tree.Body.{Body}
use Rattle.program_model.specs.declared.tree.CallTarget.TheVariants as targets
use Rattle.program_model.specs.declared.tree.Declarator.{Declarator}
use Rattle.program_model.specs.declared.tree.ExpressionKind.TheVariants as expressions
use Rattle.program_model.specs.declared.tree.StatementKind.TheVariants as statements
use Rattle.program_model.specs.declared.tree.TExpr.{TExpr}
use Rattle.program_model.specs.declared.tree.TStmt.{TStmt}
use Rattle.program_model.specs.declared.tree.Var.{Var}
use Rattle.rlc_base.specs.declared.place.Pos.{Pos}
use Rattle.safety_examples.specs.CarefulPrograms.{class_number, core_classes, error, exception, expression_number, in_source, method_number, none, object, one, plain_class, plain_method, plain_signature, runtime_exception, statement_number, throwable, two, unchecked, vector}
use Rattle.safety_examples.specs.ResettingPrograms.{close_body, connect, connect_declared, constructor_body, ensures_closed, evaluates, held, held_declared, holder, holder_class, holder_close_signature, main_body, main_signature, read, socket, socket_class, socket_close, socket_close_declared, socket_constructor, socket_constructor_declared, this_at}

-- ---- numbers

abbrev pub holder_constructor : MethodId
holder_constructor = method_number 3

abbrev pub holder_close : MethodId
holder_close = method_number 4

abbrev pub main_method : MethodId
main_method = method_number 5

-- ---- the table of classes

-- the library's: its constructor, `connect` and `close` alone
abbrev pub socket_declared : Class
socket_declared = record socket_class { methods = vector (socket_constructor ∷ connect ∷ socket_close ∷ []) (lit< tt) }

-- the class of the program
abbrev pub holder_declaration : Class
holder_declaration = record holder_class { methods = vector (holder_constructor ∷ holder_close ∷ main_method ∷ []) (lit< tt) }

abbrev pub classes : List Class
classes =
    plain_class (codes "java.lang.Object") 1 None (one object)
    ∷ plain_class (codes "java.lang.String") 1 (Some object) (two object (class_number 1))
    ∷ plain_class (codes "java.lang.Throwable") 2 (Some object) (two object throwable)
    ∷ plain_class (codes "java.lang.Error") 3 (Some throwable) (vector (object ∷ throwable ∷ error ∷ []) (lit< tt))
    ∷ plain_class (codes "java.lang.Exception") 4 (Some throwable) (vector (object ∷ throwable ∷ exception ∷ []) (lit< tt))
    ∷ plain_class (codes "java.lang.RuntimeException") 5 (Some exception) (vector (object ∷ throwable ∷ exception ∷ runtime_exception ∷ []) (lit< tt))
    ∷ unchecked (codes "java.lang.ArithmeticException") 6
    ∷ unchecked (codes "java.lang.ArrayIndexOutOfBoundsException") 7
    ∷ unchecked (codes "java.lang.ClassCastException") 8
    ∷ unchecked (codes "java.lang.NegativeArraySizeException") 9
    ∷ unchecked (codes "java.lang.NullPointerException") 10
    ∷ socket_declared
    ∷ holder_declaration
    ∷ []

-- ---- the methods

abbrev pub holder_constructor_signature : Sig
holder_constructor_signature = plain_signature holder none none None

-- `Holder()`
abbrev pub holder_constructor_declared : Method
holder_constructor_declared = plain_method holder [] holder_constructor_signature methods.Ctor (Some constructor_body) (in_source 4 5)

-- `void close()`, of the holder
abbrev pub holder_close_declared : Method
holder_close_declared = record (plain_method holder (codes "close") holder_close_signature methods.Instance (Some close_body) (in_source 6 10)) {
  annos = one (ensures_closed (codes "this.held") (in_source 5 5));
}

-- `static void main(String[] args)`
abbrev pub main_declared : Method
main_declared = plain_method holder (codes "main") main_signature methods.Static (Some main_body) (in_source 7 17)

abbrev pub methods_declared : List Method
methods_declared = socket_constructor_declared ∷ connect_declared ∷ socket_close_declared ∷ holder_constructor_declared ∷ holder_close_declared ∷ main_declared ∷ []

-- ---- the constructor

-- `new Socket()`
abbrev pub new_socket : TExpr
new_socket = record {
  kind = expressions.NewObject (record { class = socket; constructor = socket_constructor; arguments = none });
  vtype = Some (types.Obj socket);
  pos = in_source 4 28;
}

-- `this.held = new Socket()`
abbrev pub stores : TExpr
stores = record {
  kind = expressions.Assignment (assigned.Field (expression_number 0) held) (expression_number 1);
  vtype = Some (types.Obj socket);
  pos = in_source 4 26;
}

-- `this.held`, of the `this` with this number
abbrev pub field_read : ℕ → Pos → TExpr
field_read e pos = record { kind = expressions.Field (expression_number e) held; vtype = Some (types.Obj socket); pos = pos }

-- `this.held.connect()`
abbrev pub connects_held : TExpr
connects_held = record {
  kind = expressions.Call (record { target = targets.Other (expression_number 4); method = connect; arguments = none });
  vtype = None;
  pos = in_source 4 52;
}

abbrev pub constructor_expressions : List TExpr
constructor_expressions = this_at (in_source 4 16) ∷ new_socket ∷ stores ∷ this_at (in_source 4 42) ∷ field_read 3 (in_source 4 47) ∷ connects_held ∷ []

-- `{ this.held = new Socket(); this.held.connect(); }`
abbrev pub constructing : Body
constructing = record {
  method = holder_constructor;
  vars = none;
  stmts = two (statement_number 0) (statement_number 1);
  end = in_source 4 63;
  statements = two (evaluates 2 (in_source 4 16)) (evaluates 5 (in_source 4 42));
  expressions = vector constructor_expressions (lit< tt);
}

-- ---- `close`

-- `this.held.close()`
abbrev pub closes_held : TExpr
closes_held = record {
  kind = expressions.Call (record { target = targets.Other (expression_number 1); method = socket_close; arguments = none });
  vtype = None;
  pos = in_source 6 30;
}

-- `{ this.held.close(); }`
abbrev pub closing : Body
closing = record {
  method = holder_close;
  vars = none;
  stmts = one (statement_number 0);
  end = in_source 6 39;
  statements = one (evaluates 2 (in_source 6 20));
  expressions = vector (this_at (in_source 6 20) ∷ field_read 0 (in_source 6 25) ∷ closes_held ∷ []) (lit< tt);
}

-- ---- `main`

-- `args` and `Holder h`
abbrev pub main_variables : List Var
main_variables =
    record { name = codes "args"; vtype = types.Arr elements.Str; annos = none; pos = in_source 7 31 }
    ∷ record { name = codes "h"; vtype = types.Obj holder; annos = none; pos = in_source 8 16 }
    ∷ []

-- `new Holder()`
abbrev pub new_holder : TExpr
new_holder = record {
  kind = expressions.NewObject (record { class = holder; constructor = holder_constructor; arguments = none });
  vtype = Some (types.Obj holder);
  pos = in_source 8 20;
}

-- `h.close()`
abbrev pub closes_holder : TExpr
closes_holder = record {
  kind = expressions.Call (record { target = targets.Other (expression_number 1); method = holder_close; arguments = none });
  vtype = None;
  pos = in_source 9 11;
}

-- `h = new Holder()`
abbrev pub holder_declarator : Declarator
holder_declarator = record { variable = 1; initializer = Some (expression_number 0); pos = in_source 8 16 }

-- `Holder h = new Holder();`
abbrev pub declares_holder : TStmt
declares_holder = record { kind = statements.LocalDeclaration (one holder_declarator); pos = in_source 8 9 }

-- `{ Holder h = new Holder(); h.close(); }`
abbrev pub running : Body
running = record {
  method = main_method;
  vars = vector main_variables (lit< tt);
  stmts = two (statement_number 0) (statement_number 1);
  end = in_source 10 5;
  statements = two declares_holder (evaluates 2 (in_source 9 9));
  expressions = vector (new_holder ∷ read 1 (types.Obj holder) (in_source 9 9) ∷ closes_holder ∷ []) (lit< tt);
}

-- ---- the program

abbrev pub connecting : Program
connecting = record {
  classes = vector classes (lit< tt);
  methods = vector methods_declared (lit< tt);
  fields = one held_declared;
  bodies = vector (constructing ∷ closing ∷ running ∷ []) (lit< tt);
  ignored = two runtime_exception error;
  exact = none;
  names = codes "close" ∷ [];
  core = core_classes;
}
