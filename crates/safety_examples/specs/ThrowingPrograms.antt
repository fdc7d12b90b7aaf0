-- A small program whose own method promises something of a parameter that it is lent, also where it throws: `shut` closes its argument, by a call that may
-- throw, and `main` makes a socket and has it closed so.
--
--     class Main {
--         @EnsuresCalledMethods(value = "#1", methods = "close")
--         @EnsuresCalledMethodsOnException(value = "#1", methods = "close")
--         static void shut(Socket s) throws IOException { s.close(); }
--         static void main(String[] args) throws IOException {
--             Socket s = new Socket();
--             shut(s);
--         }
--     }
use Rattle.std.specs.Prelude.{false, Some, None, List, [], ◌∷◌, codes}
use Rattle.std.proofs.Common.{lit<}
use Rattle.program_model.specs.declared.kinds.BodyId.{BodyId}
use Rattle.program_model.specs.declared.kinds.ClassId.{ClassId}
use Rattle.program_model.specs.declared.kinds.ElementType.TheVariants as elements
use Rattle.program_model.specs.declared.kinds.MethodId.{MethodId}
use Rattle.program_model.specs.declared.kinds.MethodKind.TheVariants as methods
use Rattle.program_model.specs.declared.kinds.VType.TheVariants as types
use Rattle.program_model.specs.declared.program.Class.{Class}
use Rattle.program_model.specs.declared.program.Method.{Method}
use Rattle.program_model.specs.declared.program.Program.{Program}
use Rattle.program_model.specs.declared.program.Sig.{Sig}
use Rattle.program_model.specs.declared.tree.Body.{Body}
use Rattle.program_model.specs.declared.tree.CallTarget.TheVariants as targets
use Rattle.program_model.specs.declared.tree.Declarator.{Declarator}
use Rattle.program_model.specs.declared.tree.ExpressionKind.TheVariants as expressions
use Rattle.program_model.specs.declared.tree.StatementKind.TheVariants as statements
use Rattle.program_model.specs.declared.tree.TExpr.{TExpr}
use Rattle.program_model.specs.declared.tree.TStmt.{TStmt}
use Rattle.program_model.specs.declared.tree.Var.{Var}
use Rattle.program_model.specs.declared.program.ParamSig.{ParamSig}
use Rattle.program_model.specs.declared.program.RawAnno.{RawAnno}
use Rattle.safety_examples.specs.CarefulPrograms.{class_number, close_declared, constructor_declared, core_classes, error, exception, expression_number, in_source, io_exception, main_parameter, method_number, none, object, one, parameter, plain_class, plain_method, plain_signature, runtime_exception, socket, socket_class, socket_close, socket_constructor, statement_number, throwable, two, unchecked, vector}
use Rattle.safety_examples.specs.OwnerPrograms.{ensures_closed, evaluates, parameter_closed, read}

-- ---- numbers

abbrev pub main_class : ClassId
main_class = class_number 13

abbrev pub shut : MethodId
shut = method_number 2

abbrev pub main_method : MethodId
main_method = method_number 3

abbrev pub shut_body : BodyId
shut_body = record { 0 = 0 }

abbrev pub main_body : BodyId
main_body = record { 0 = 1 }

-- ---- the table of classes

-- the class of the program
abbrev pub main_declaration : Class
main_declaration = record (plain_class (codes "Main") 13 (Some object) (two object main_class)) {
  pos = in_source 1 7;
  library = false;
  methods = two shut main_method;
}

abbrev pub classes : List Class
classes =
    plain_class (codes "java.lang.Object") 1 None (one object)
    ∷ plain_class (codes "java.lang.String") 1 (Some object) (two object (class_number 1))
    ∷ plain_class (codes "java.lang.Throwable") 2 (Some object) (two object throwable)
    ∷ plain_class (codes "java.lang.Error") 3 (Some throwable) (vector (object ∷ throwable ∷ error ∷ []) (lit< tt))
    ∷ plain_class (codes "java.lang.Exception") 4 (Some throwable) (vector (object ∷ throwable ∷ exception ∷ []) (lit< tt))
    ∷ plain_class (codes "java.lang.RuntimeException") 5 (Some exception) (vector (object ∷ throwable ∷ exception ∷ runtime_exception ∷ []) (lit< tt))
    ∷ unchecked (codes "java.lang.ArithmeticException") 6
    ∷ unchecked (codes "java.lang.ArrayIndexOutOfBoundsException") 7
    ∷ unchecked (codes "java.lang.ClassCastException") 8
    ∷ unchecked (codes "java.lang.NegativeArraySizeException") 9
    ∷ unchecked (codes "java.lang.NullPointerException") 10
    ∷ plain_class (codes "java.io.IOException") 11 (Some exception) (vector (object ∷ throwable ∷ exception ∷ io_exception ∷ []) (lit< tt))
    ∷ socket_class
    ∷ main_declaration
    ∷ []

-- ---- the methods

-- `Socket s`
abbrev pub socket_parameter : ParamSig
socket_parameter = parameter (types.Obj socket)

-- `close` was called on the parameter, also where `shut` throws
abbrev pub shut_signature : Sig
shut_signature = record (plain_signature main_class (one socket_parameter) (one io_exception) None) { promises = one parameter_closed; on_throw = one parameter_closed }

abbrev pub main_signature : Sig
main_signature = plain_signature main_class (one main_parameter) (one io_exception) None

-- `@EnsuresCalledMethodsOnException(value = "#1", methods = "close")`
abbrev pub ensures_closed_throwing : RawAnno
ensures_closed_throwing = record (ensures_closed (codes "#1") (in_source 3 5)) { name = codes "EnsuresCalledMethodsOnException" }

-- `static void shut(Socket s) throws IOException`, with both annotations
abbrev pub shut_declared : Method
shut_declared = record (plain_method main_class (codes "shut") shut_signature methods.Static (Some shut_body) (in_source 4 17)) {
  annos = two (ensures_closed (codes "#1") (in_source 2 5)) ensures_closed_throwing;
}

-- `static void main(String[] args) throws IOException`
abbrev pub main_declared : Method
main_declared = plain_method main_class (codes "main") main_signature methods.Static (Some main_body) (in_source 5 17)

abbrev pub methods_declared : List Method
methods_declared = constructor_declared ∷ close_declared ∷ shut_declared ∷ main_declared ∷ []

-- ---- `shut`

abbrev pub shut_variables : List Var
shut_variables = record { name = codes "s"; vtype = types.Obj socket; annos = none; pos = in_source 4 29 } ∷ []

-- `s.close()`
abbrev pub closes_parameter : TExpr
closes_parameter = record {
  kind = expressions.Call (record { target = targets.Other (expression_number 0); method = socket_close; arguments = none });
  vtype = None;
  pos = in_source 4 55;
}

-- `{ s.close(); }`
abbrev pub shutting : Body
shutting = record {
  method = shut;
  vars = vector shut_variables (lit< tt);
  stmts = one (statement_number 0);
  end = in_source 4 64;
  statements = one (evaluates 1 (in_source 4 53));
  expressions = two (read 0 (types.Obj socket) (in_source 4 53)) closes_parameter;
}

-- ---- `main`

-- `args` and `Socket s`
abbrev pub main_variables : List Var
main_variables =
    record { name = codes "args"; vtype = types.Arr elements.Str; annos = none; pos = in_source 5 31 }
    ∷ record { name = codes "s"; vtype = types.Obj socket; annos = none; pos = in_source 6 16 }
    ∷ []

-- `new Socket()`
abbrev pub new_socket : TExpr
new_socket = record {
  kind = expressions.NewObject (record { class = socket; constructor = socket_constructor; arguments = none });
  vtype = Some (types.Obj socket);
  pos = in_source 6 20;
}

-- `shut(s)`
abbrev pub shuts : TExpr
shuts = record {
  kind = expressions.Call (record { target = targets.Static; method = shut; arguments = one (expression_number 1) });
  vtype = None;
  pos = in_source 7 9;
}

-- `s = new Socket()`
abbrev pub socket_declarator : Declarator
socket_declarator = record { variable = 1; initializer = Some (expression_number 0); pos = in_source 6 16 }

-- `Socket s = new Socket();`
abbrev pub declares_socket : TStmt
declares_socket = record { kind = statements.LocalDeclaration (one socket_declarator); pos = in_source 6 9 }

-- `{ Socket s = new Socket(); shut(s); }`
abbrev pub running : Body
running = record {
  method = main_method;
  vars = vector main_variables (lit< tt);
  stmts = two (statement_number 0) (statement_number 1);
  end = in_source 8 5;
  statements = two declares_socket (evaluates 2 (in_source 7 9));
  expressions = vector (new_socket ∷ read 1 (types.Obj socket) (in_source 7 14) ∷ shuts ∷ []) (lit< tt);
}

-- ---- the program

abbrev pub throwing : Program
throwing = record {
  classes = vector classes (lit< tt);
  methods = vector methods_declared (lit< tt);
  fields = none;
  bodies = two shutting running;
  ignored = two runtime_exception error;
  exact = none;
  names = codes "close" ∷ [];
  core = core_classes;
}
