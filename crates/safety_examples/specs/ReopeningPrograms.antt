-- A small program whose own method creates the obligation of its parameter anew: `reopen` connects the socket that it is lent, and `main` makes a socket, of which
-- nothing must be called at first, has it connected so, and closes it.
--
--     class Main {
--         @CreatesMustCallFor("#1")
--         static void reopen(Socket s) { s.connect(); }
--         static void main(String[] args) {
--             Socket s = new Socket();
--             reopen(s);
--             s.close();
--         }
--     }
use Rattle.std.specs.Prelude.{false, Some, None, List, [], ◌∷◌, codes}
use Rattle.std.proofs.Common.{lit<}
use Rattle.program_model.specs.declared.kinds.BodyId.{BodyId}
use Rattle.program_model.specs.declared.kinds.ClassId.{ClassId}
use Rattle.program_model.specs.declared.kinds.ElementType.TheVariants as elements
use Rattle.program_model.specs.declared.kinds.MethodId.{MethodId}
use Rattle.program_model.specs.declared.kinds.MethodKind.TheVariants as methods
use Rattle.program_model.specs.declared.kinds.VType.TheVariants as types
use Rattle.program_model.specs.declared.program.Class.{Class}
use Rattle.program_model.specs.declared.program.Method.{Method}
use Rattle.program_model.specs.declared.program.Program.{Program}
use Rattle.program_model.specs.declared.program.Sig.{Sig}
use Rattle.program_model.specs.declared.tree.Body.{Body}
use Rattle.program_model.specs.declared.tree.CallTarget.TheVariants as targets
use Rattle.program_model.specs.declared.tree.Declarator.{Declarator}
use Rattle.program_model.specs.declared.tree.ExpressionKind.TheVariants as expressions
use Rattle.program_model.specs.declared.tree.StatementKind.TheVariants as statements
use Rattle.program_model.specs.declared.tree.TExpr.{TExpr}
use Rattle.program_model.specs.declared.tree.TStmt.{TStmt}
use Rattle.program_model.specs.declared.tree.Var.{Var}
use Rattle.program_model.specs.declared.program.RawAnno.{RawAnno}
use Rattle.safety_examples.specs.OwnerPrograms.{class_number, core_classes, error, exception, expression_number, in_source, main_parameter, method_number, none, object, one, plain_class, plain_method, plain_signature, runtime_exception, statement_number, throwable, two, unchecked, vector}
use Rattle.safety_examples.specs.ResettingPrograms.{connect, connect_declared, creates, evaluates, read, socket, socket_class, socket_close, socket_close_declared, socket_constructor, socket_constructor_declared, socket_parameter}

-- ---- numbers

abbrev pub main_class : ClassId
main_class = class_number 12

abbrev pub reopen : MethodId
reopen = method_number 3

abbrev pub main_method : MethodId
main_method = method_number 4

abbrev pub reopen_body : BodyId
reopen_body = record { 0 = 0 }

abbrev pub main_body : BodyId
main_body = record { 0 = 1 }

-- ---- the table of classes

-- the library's: its constructor, `connect` and `close` alone
abbrev pub socket_declared : Class
socket_declared = record socket_class { methods = vector (socket_constructor ∷ connect ∷ socket_close ∷ []) (lit< tt) }

-- the class of the program
abbrev pub main_declaration : Class
main_declaration = record (plain_class (codes "Main") 12 (Some object) (two object main_class)) {
  pos = in_source 1 7;
  library = false;
  methods = two reopen main_method;
}

abbrev pub classes : List Class
classes =
    plain_class (codes "java.lang.Object") 1 None (one object)
    ∷ plain_class (codes "java.lang.String") 1 (Some object) (two object (class_number 1))
    ∷ plain_class (codes "java.lang.Throwable") 2 (Some object) (two object throwable)
    ∷ plain_class (codes "java.lang.Error") 3 (Some throwable) (vector (object ∷ throwable ∷ error ∷ []) (lit< tt))
    ∷ plain_class (codes "java.lang.Exception") 4 (Some throwable) (vector (object ∷ throwable ∷ exception ∷ []) (lit< tt))
    ∷ plain_class (codes "java.lang.RuntimeException") 5 (Some exception) (vector (object ∷ throwable ∷ exception ∷ runtime_exception ∷ []) (lit< tt))
    ∷ unchecked (codes "java.lang.ArithmeticException") 6
    ∷ unchecked (codes "java.lang.ArrayIndexOutOfBoundsException") 7
    ∷ unchecked (codes "java.lang.ClassCastException") 8
    ∷ unchecked (codes "java.lang.NegativeArraySizeException") 9
    ∷ unchecked (codes "java.lang.NullPointerException") 10
    ∷ socket_declared
    ∷ main_declaration
    ∷ []

-- ---- the methods

-- the obligation of the parameter is created anew
abbrev pub reopen_signature : Sig
reopen_signature = record (plain_signature main_class (one socket_parameter) none None) { reset = Some 1 }

abbrev pub main_signature : Sig
main_signature = plain_signature main_class (one main_parameter) none None

-- `@CreatesMustCallFor("#1")`
abbrev pub creates_parameter : RawAnno
creates_parameter = record creates { args = one (record { key = codes "value"; values = one (codes "#1") }); pos = in_source 2 5 }

-- `@CreatesMustCallFor("#1") static void reopen(Socket s)`
abbrev pub reopen_declared : Method
reopen_declared = record (plain_method main_class (codes "reopen") reopen_signature methods.Static (Some reopen_body) (in_source 3 17)) {
  annos = one creates_parameter;
}

-- `static void main(String[] args)`
abbrev pub main_declared : Method
main_declared = plain_method main_class (codes "main") main_signature methods.Static (Some main_body) (in_source 4 17)

abbrev pub methods_declared : List Method
methods_declared = socket_constructor_declared ∷ connect_declared ∷ socket_close_declared ∷ reopen_declared ∷ main_declared ∷ []

-- ---- `reopen`

abbrev pub reopen_variables : List Var
reopen_variables = record { name = codes "s"; vtype = types.Obj socket; annos = none; pos = in_source 3 31 } ∷ []

-- `s.connect()`
abbrev pub connects_parameter : TExpr
connects_parameter = record {
  kind = expressions.Call (record { target = targets.Other (expression_number 0); method = connect; arguments = none });
  vtype = None;
  pos = in_source 3 38;
}

-- `{ s.connect(); }`
abbrev pub connecting : Body
connecting = record {
  method = reopen;
  vars = vector reopen_variables (lit< tt);
  stmts = one (statement_number 0);
  end = in_source 3 49;
  statements = one (evaluates 1 (in_source 3 36));
  expressions = two (read 0 (types.Obj socket) (in_source 3 36)) connects_parameter;
}

-- ---- `main`

-- `args` and `Socket s`
abbrev pub main_variables : List Var
main_variables =
    record { name = codes "args"; vtype = types.Arr elements.Str; annos = none; pos = in_source 4 31 }
    ∷ record { name = codes "s"; vtype = types.Obj socket; annos = none; pos = in_source 5 16 }
    ∷ []

-- `new Socket()`
abbrev pub new_socket : TExpr
new_socket = record {
  kind = expressions.NewObject (record { class = socket; constructor = socket_constructor; arguments = none });
  vtype = Some (types.Obj socket);
  pos = in_source 5 20;
}

-- `reopen(s)`
abbrev pub reopens : TExpr
reopens = record {
  kind = expressions.Call (record { target = targets.Static; method = reopen; arguments = one (expression_number 1) });
  vtype = None;
  pos = in_source 6 9;
}

-- `s.close()`
abbrev pub closes : TExpr
closes = record {
  kind = expressions.Call (record { target = targets.Other (expression_number 3); method = socket_close; arguments = none });
  vtype = None;
  pos = in_source 7 11;
}

-- `s = new Socket()`
abbrev pub socket_declarator : Declarator
socket_declarator = record { variable = 1; initializer = Some (expression_number 0); pos = in_source 5 16 }

-- `Socket s = new Socket();`
abbrev pub declares_socket : TStmt
declares_socket = record { kind = statements.LocalDeclaration (one socket_declarator); pos = in_source 5 9 }

-- `{ Socket s = new Socket(); reopen(s); s.close(); }`
abbrev pub running : Body
running = record {
  method = main_method;
  vars = vector main_variables (lit< tt);
  stmts = vector (statement_number 0 ∷ statement_number 1 ∷ statement_number 2 ∷ []) (lit< tt);
  end = in_source 8 5;
  statements = vector (declares_socket ∷ evaluates 2 (in_source 6 9) ∷ evaluates 4 (in_source 7 9) ∷ []) (lit< tt);
  expressions = vector (new_socket ∷ read 1 (types.Obj socket) (in_source 6 16) ∷ reopens ∷ read 1 (types.Obj socket) (in_source 7 9) ∷ closes ∷ []) (lit< tt);
}

-- ---- the program

abbrev pub reopening : Program
reopening = record {
  classes = vector classes (lit< tt);
  methods = vector methods_declared (lit< tt);
  fields = none;
  bodies = two connecting running;
  ignored = two runtime_exception error;
  exact = none;
  names = codes "close" ∷ [];
  core = core_classes;
}
