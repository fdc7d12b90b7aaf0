-- A small program: `main` makes a socket, takes the stream of what comes in, and closes the stream, which closes the socket.
use Rattle.std.specs.Prelude.{ℕ, true, false, Some, None, List, [], ◌∷◌, codes}
use Rattle.std.proofs.Common.{lit<}
use Rattle.program_model.specs.declared.kinds.ClassId.{ClassId}
use Rattle.program_model.specs.declared.kinds.ElementType.TheVariants as elements
use Rattle.program_model.specs.declared.kinds.MethodId.{MethodId}
use Rattle.program_model.specs.declared.kinds.MethodKind.TheVariants as methods
use Rattle.program_model.specs.declared.kinds.VType.TheVariants as types
use Rattle.program_model.specs.declared.program.Class.{Class}
use Rattle.program_model.specs.declared.program.Method.{Method}
use Rattle.program_model.specs.declared.program.Program.{Program}
use Rattle.program_model.specs.declared.program.RawAnno.{RawAnno}
use Rattle.program_model.specs.declared.program.Sig.{Sig}
use Rattle.program_model.specs.declared.tree.Body.{Body}
use Rattle.program_model.specs.declared.tree.CallTarget.TheVariants as targets
use Rattle.program_model.specs.declared.tree.Declarator.{Declarator}
use Rattle.program_model.specs.declared.tree.ExpressionKind.TheVariants as expressions
use Rattle.program_model.specs.declared.tree.StatementKind.TheVariants as statements
use Rattle.program_model.specs.declared.tree.TExpr.{TExpr}
use Rattle.program_model.specs.declared.tree.TStmt.{TStmt}
use Rattle.program_model.specs.declared.tree.Var.{Var}
use Rattle.safety_examples.specs.CarefulPrograms.{class_number, close_alone, close_name, core_classes, error, exception, expression_number, in_source, in_stub, io_exception, main_parameter, method_number, must_call_close, none, object, one, parameter, plain_class, plain_method, plain_signature, runtime_exception, statement_number, throwable, two, unchecked, vector}

-- ---- numbers

abbrev pub input_stream : ClassId
input_stream = class_number 12

abbrev pub socket : ClassId
socket = class_number 13

abbrev pub main_class : ClassId
main_class = class_number 14

abbrev pub stream_close : MethodId
stream_close = method_number 0

abbrev pub socket_constructor : MethodId
socket_constructor = method_number 1

abbrev pub socket_close : MethodId
socket_close = method_number 2

abbrev pub get_stream : MethodId
get_stream = method_number 3

abbrev pub main_method : MethodId
main_method = method_number 4

-- ---- the table of classes

-- `@InheritableMustCall("close")`, at a line of the stub
abbrev pub must_close : ℕ → RawAnno
must_close line = record must_call_close { pos = in_stub line }

-- `@MustCallAlias`
abbrev pub must_call_alias : ℕ → RawAnno
must_call_alias line = record { name = codes "MustCallAlias"; args = none; shaped = true; pos = in_stub line }

abbrev pub stream_class : Class
stream_class = record (plain_class (codes "java.io.InputStream") 12 (Some object) (two object input_stream)) {
  methods = one stream_close;
  annos = one (must_close 12);
  own_must = Some close_alone;
  must = close_alone;
}

abbrev pub socket_class : Class
socket_class = record (plain_class (codes "java.net.Socket") 14 (Some object) (two object socket)) {
  methods = vector (socket_constructor ∷ socket_close ∷ get_stream ∷ []) (lit< tt);
  annos = one (must_close 14);
  own_must = Some close_alone;
  must = close_alone;
}

-- the class of the program, which declares `main`
abbrev pub main_declaration : Class
main_declaration = record (plain_class (codes "Main") 18 (Some object) (two object main_class)) {
  pos = in_source 1 1;
  library = false;
  methods = one main_method;
}

abbrev pub classes : List Class
classes =
    plain_class (codes "java.lang.Object") 1 None (one object)
    ∷ plain_class (codes "java.lang.String") 1 (Some object) (two object (class_number 1))
    ∷ plain_class (codes "java.lang.Throwable") 2 (Some object) (two object throwable)
    ∷ plain_class (codes "java.lang.Error") 3 (Some throwable) (vector (object ∷ throwable ∷ error ∷ []) (lit< tt))
    ∷ plain_class (codes "java.lang.Exception") 4 (Some throwable) (vector (object ∷ throwable ∷ exception ∷ []) (lit< tt))
    ∷ plain_class (codes "java.lang.RuntimeException") 5 (Some exception) (vector (object ∷ throwable ∷ exception ∷ runtime_exception ∷ []) (lit< tt))
    ∷ unchecked (codes "java.lang.ArithmeticException") 6
    ∷ unchecked (codes "java.lang.ArrayIndexOutOfBoundsException") 7
    ∷ unchecked (codes "java.lang.ClassCastException") 8
    ∷ unchecked (codes "java.lang.NegativeArraySizeException") 9
    ∷ unchecked (codes "java.lang.NullPointerException") 10
    ∷ plain_class (codes "java.io.IOException") 11 (Some exception) (vector (object ∷ throwable ∷ exception ∷ io_exception ∷ []) (lit< tt))
    ∷ stream_class
    ∷ socket_class
    ∷ main_declaration
    ∷ []

-- ---- the methods

abbrev pub stream_close_signature : Sig
stream_close_signature = plain_signature input_stream none (one io_exception) (Some close_name)

abbrev pub constructor_signature : Sig
constructor_signature = plain_signature socket none none None

abbrev pub close_signature : Sig
close_signature = plain_signature socket none (one io_exception) (Some close_name)

-- the result is an alias of the receiver's resource
abbrev pub get_stream_signature : Sig
get_stream_signature = record (plain_signature socket none none None) {
  receiver = record (parameter (types.Obj socket)) { annos = one (must_call_alias 17) };
  result = Some (types.Obj input_stream);
  alias = Some 0;
}

abbrev pub main_signature : Sig
main_signature = plain_signature main_class (one main_parameter) (one io_exception) None

-- `void close() throws IOException`, of the stream
abbrev pub stream_close_declared : Method
stream_close_declared = plain_method input_stream (codes "close") stream_close_signature methods.Instance None (in_stub 13)

-- `Socket()`
abbrev pub constructor_declared : Method
constructor_declared = plain_method socket [] constructor_signature methods.Ctor None (in_stub 15)

-- `void close() throws IOException`, of the socket
abbrev pub close_declared : Method
close_declared = plain_method socket (codes "close") close_signature methods.Instance None (in_stub 16)

-- `@MustCallAlias InputStream getInputStream(@MustCallAlias Socket this)`
abbrev pub get_stream_declared : Method
get_stream_declared = record (plain_method socket (codes "getInputStream") get_stream_signature methods.Instance None (in_stub 17)) { annos = one (must_call_alias 17) }

-- `static void main(String[] args) throws IOException`
abbrev pub main_declared : Method
main_declared = plain_method main_class (codes "main") main_signature methods.Static (Some (record { 0 = 0 })) (in_source 2 5)

abbrev pub methods_declared : List Method
methods_declared = stream_close_declared ∷ constructor_declared ∷ close_declared ∷ get_stream_declared ∷ main_declared ∷ []

-- ---- the body

-- `args`, `Socket s` and `InputStream in`
abbrev pub variables : List Var
variables =
    record { name = codes "args"; vtype = types.Arr elements.Str; annos = none; pos = in_source 2 10 }
    ∷ record { name = codes "s"; vtype = types.Obj socket; annos = none; pos = in_source 3 7 }
    ∷ record { name = codes "in"; vtype = types.Obj input_stream; annos = none; pos = in_source 4 13 }
    ∷ []

-- `new Socket()`
abbrev pub new_socket : TExpr
new_socket = record {
  kind = expressions.NewObject (record { class = socket; constructor = socket_constructor; arguments = none });
  vtype = Some (types.Obj socket);
  pos = in_source 3 20;
}

-- `s`, and `s.getInputStream()`
abbrev pub socket_read : TExpr
socket_read = record { kind = expressions.Local 1; vtype = Some (types.Obj socket); pos = in_source 4 18 }

abbrev pub takes_stream : TExpr
takes_stream = record {
  kind = expressions.Call (record { target = targets.Other (expression_number 1); method = get_stream; arguments = none });
  vtype = Some (types.Obj input_stream);
  pos = in_source 4 20;
}

-- `in`, and `in.close()`
abbrev pub stream_read : TExpr
stream_read = record { kind = expressions.Local 2; vtype = Some (types.Obj input_stream); pos = in_source 5 1 }

abbrev pub closes_stream : TExpr
closes_stream = record {
  kind = expressions.Call (record { target = targets.Other (expression_number 3); method = stream_close; arguments = none });
  vtype = None;
  pos = in_source 5 4;
}

-- `s = new Socket()`
abbrev pub socket_declarator : Declarator
socket_declarator = record { variable = 1; initializer = Some (expression_number 0); pos = in_source 3 7 }

-- `in = s.getInputStream()`
abbrev pub stream_declarator : Declarator
stream_declarator = record { variable = 2; initializer = Some (expression_number 2); pos = in_source 4 13 }

abbrev pub body_statements : List TStmt
body_statements =
    record { kind = statements.LocalDeclaration (one socket_declarator); pos = in_source 3 1 }
    ∷ record { kind = statements.LocalDeclaration (one stream_declarator); pos = in_source 4 1 }
    ∷ record { kind = statements.Expression (expression_number 4); pos = in_source 5 1 }
    ∷ []

-- `{ Socket s = new Socket(); InputStream in = s.getInputStream(); in.close(); }`
abbrev pub streaming_body : Body
streaming_body = record {
  method = main_method;
  vars = vector variables (lit< tt);
  stmts = vector (statement_number 0 ∷ statement_number 1 ∷ statement_number 2 ∷ []) (lit< tt);
  end = in_source 6 1;
  statements = vector body_statements (lit< tt);
  expressions = vector (new_socket ∷ socket_read ∷ takes_stream ∷ stream_read ∷ closes_stream ∷ []) (lit< tt);
}

-- ---- the program

abbrev pub streaming : Program
streaming = record {
  classes = vector classes (lit< tt);
  methods = vector methods_declared (lit< tt);
  fields = none;
  bodies = one streaming_body;
  ignored = two runtime_exception error;
  exact = none;
  names = codes "close" ∷ [];
  core = core_classes;
}
