-- A small program that is not safe, by a method of its own that creates an obligation anew: `main` makes a socket, closes it, and lends it to `renew`, as whose call
-- ends `close` must be called on the socket once more; `main` ends without that.
--
--     class Main {
--         static void main(String[] args) throws IOException {
--             Socket s = new Socket();
--             s.close();
--             renew(s);
--         }
--         @CreatesMustCallFor("#1")
--         static void renew(Socket s) { }
--     }
use Rattle.std.specs.Prelude.{true, Some, None, List, [], ◌∷◌, codes}
use Rattle.std.proofs.Common.{lit<}
use Rattle.program_model.specs.declared.kinds.ElementType.TheVariants as elements
use Rattle.program_model.specs.declared.kinds.MethodId.{MethodId}
use Rattle.program_model.specs.declared.kinds.MethodKind.TheVariants as methods
use Rattle.program_model.specs.declared.kinds.VType.TheVariants as types
use Rattle.program_model.specs.declared.program.Class.{Class}
use Rattle.program_model.specs.declared.program.Method.{Method}
use Rattle.program_model.specs.declared.program.Program.{Program}
use Rattle.program_model.specs.declared.program.RawAnno.{RawAnno}
use Rattle.program_model.specs.declared.program.Sig.{Sig}
use Rattle.program_model.specs.declared.tree.Body.{Body}
use Rattle.program_model.specs.declared.tree.CallTarget.TheVariants as targets
use Rattle.program_model.specs.declared.tree.Declarator.{Declarator}
use Rattle.program_model.specs.declared.tree.ExpressionKind.TheVariants as expressions
use Rattle.program_model.specs.declared.tree.StatementKind.TheVariants as statements
use Rattle.program_model.specs.declared.tree.TExpr.{TExpr}
use Rattle.program_model.specs.declared.tree.TStmt.{TStmt}
use Rattle.program_model.specs.declared.tree.Var.{Var}
use Rattle.safety_examples.specs.CarefulPrograms.{class_number, close_declared, constructor_declared, core_classes, error, exception, expression_number, in_source, io_exception, main_class, main_declaration, main_declared, main_method, method_number, none, object, one, parameter, plain_class, plain_method, plain_signature, runtime_exception, socket, socket_class, socket_close, socket_constructor, statement_number, throwable, two, unchecked, vector}
use Rattle.safety_examples.specs.OwnerPrograms.{evaluates, read}

-- ---- numbers

abbrev pub renew : MethodId
renew = method_number 3

-- ---- the table of classes

-- the class of the program
abbrev pub main_with_renew : Class
main_with_renew = record main_declaration { methods = two main_method renew }

abbrev pub classes : List Class
classes =
    plain_class (codes "java.lang.Object") 1 None (one object)
    ∷ plain_class (codes "java.lang.String") 1 (Some object) (two object (class_number 1))
    ∷ plain_class (codes "java.lang.Throwable") 2 (Some object) (two object throwable)
    ∷ plain_class (codes "java.lang.Error") 3 (Some throwable) (vector (object ∷ throwable ∷ error ∷ []) (lit< tt))
    ∷ plain_class (codes "java.lang.Exception") 4 (Some throwable) (vector (object ∷ throwable ∷ exception ∷ []) (lit< tt))
    ∷ plain_class (codes "java.lang.RuntimeException") 5 (Some exception) (vector (object ∷ throwable ∷ exception ∷ runtime_exception ∷ []) (lit< tt))
    ∷ unchecked (codes "java.lang.ArithmeticException") 6
    ∷ unchecked (codes "java.lang.ArrayIndexOutOfBoundsException") 7
    ∷ unchecked (codes "java.lang.ClassCastException") 8
    ∷ unchecked (codes "java.lang.NegativeArraySizeException") 9
    ∷ unchecked (codes "java.lang.NullPointerException") 10
    ∷ plain_class (codes "java.io.IOException") 11 (Some exception) (vector (object ∷ throwable ∷ exception ∷ io_exception ∷ []) (lit< tt))
    ∷ socket_class
    ∷ main_with_renew
    ∷ []

-- ---- the methods

-- `@CreatesMustCallFor("#1")`
abbrev pub creates_parameter : RawAnno
creates_parameter = record {
  name = codes "CreatesMustCallFor";
  args = one (record { key = codes "value"; values = one (codes "#1") });
  shaped = true;
  pos = in_source 7 5;
}

-- the obligation of the parameter is created anew
abbrev pub renew_signature : Sig
renew_signature = record (plain_signature main_class (one (parameter (types.Obj socket))) none None) { reset = Some 1 }

-- `@CreatesMustCallFor("#1") static void renew(Socket s)`
abbrev pub renew_declared : Method
renew_declared = record (plain_method main_class (codes "renew") renew_signature methods.Static (Some (record { 0 = 1 })) (in_source 8 17)) { annos = one creates_parameter }

abbrev pub methods_declared : List Method
methods_declared = constructor_declared ∷ close_declared ∷ main_declared ∷ renew_declared ∷ []

-- ---- `main`

-- `args` and `Socket s`
abbrev pub main_variables : List Var
main_variables =
    record { name = codes "args"; vtype = types.Arr elements.Str; annos = none; pos = in_source 2 31 }
    ∷ record { name = codes "s"; vtype = types.Obj socket; annos = none; pos = in_source 3 16 }
    ∷ []

-- `new Socket()`
abbrev pub new_socket : TExpr
new_socket = record {
  kind = expressions.NewObject (record { class = socket; constructor = socket_constructor; arguments = none });
  vtype = Some (types.Obj socket);
  pos = in_source 3 20;
}

-- `s.close()`
abbrev pub closes : TExpr
closes = record {
  kind = expressions.Call (record { target = targets.Other (expression_number 1); method = socket_close; arguments = none });
  vtype = None;
  pos = in_source 4 11;
}

-- `renew(s)`
abbrev pub renews : TExpr
renews = record {
  kind = expressions.Call (record { target = targets.Static; method = renew; arguments = one (expression_number 3) });
  vtype = None;
  pos = in_source 5 9;
}

-- `s = new Socket()`
abbrev pub socket_declarator : Declarator
socket_declarator = record { variable = 1; initializer = Some (expression_number 0); pos = in_source 3 16 }

-- `Socket s = new Socket();`
abbrev pub declares_socket : TStmt
declares_socket = record { kind = statements.LocalDeclaration (one socket_declarator); pos = in_source 3 9 }

-- `{ Socket s = new Socket(); s.close(); renew(s); }`
abbrev pub running : Body
running = record {
  method = main_method;
  vars = vector main_variables (lit< tt);
  stmts = vector (statement_number 0 ∷ statement_number 1 ∷ statement_number 2 ∷ []) (lit< tt);
  end = in_source 6 5;
  statements = vector (declares_socket ∷ evaluates 2 (in_source 4 9) ∷ evaluates 4 (in_source 5 9) ∷ []) (lit< tt);
  expressions = vector (new_socket ∷ read 1 (types.Obj socket) (in_source 4 9) ∷ closes ∷ read 1 (types.Obj socket) (in_source 5 15) ∷ renews ∷ []) (lit< tt);
}

-- ---- `renew`

abbrev pub renew_variables : List Var
renew_variables = record { name = codes "s"; vtype = types.Obj socket; annos = none; pos = in_source 8 30 } ∷ []

-- `{ }`
abbrev pub renewing : Body
renewing = record {
  method = renew;
  vars = vector renew_variables (lit< tt);
  stmts = none;
  end = in_source 8 35;
  statements = none;
  expressions = none;
}

-- ---- the program

abbrev pub forgetful : Program
forgetful = record {
  classes = vector classes (lit< tt);
  methods = vector methods_declared (lit< tt);
  fields = none;
  bodies = two running renewing;
  ignored = two runtime_exception error;
  exact = none;
  names = codes "close" ∷ [];
  core = core_classes;
}
