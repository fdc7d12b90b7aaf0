-- Two small programs over one table of classes: `main` makes a socket and drops it, or closes it.
use Rattle.std.specs.Prelude.{ℕ, ◌<◌, ◌^◌, refl, true, false, Option, Some, None, List, [], ◌∷◌, length, codes}
use Rattle.std.specs.Global.{Global, Vec}
use Rattle.std.specs.FinSet as set
use Rattle.std.proofs.Common.{lit<, le_refl}
use denote.RawPtr.{null_ptr}
use Rattle.rlc_base.specs.declared.name_id.NameId.{NameId}
use Rattle.rlc_base.specs.declared.place.Pos.{Pos}
use Rattle.program_model.specs.declared.kinds.BodyId.{BodyId}
use Rattle.program_model.specs.declared.kinds.ClassId.{ClassId}
use Rattle.program_model.specs.declared.kinds.ElementType.TheVariants as elements
use Rattle.program_model.specs.declared.kinds.ExprId.{ExprId}
use Rattle.program_model.specs.declared.kinds.MethodId.{MethodId}
use Rattle.program_model.specs.declared.kinds.MethodKind.{MethodKind}
use Rattle.program_model.specs.declared.kinds.MethodKind.TheVariants as methods
use Rattle.program_model.specs.declared.kinds.StmtId.{StmtId}
use Rattle.program_model.specs.declared.kinds.VType.{VType}
use Rattle.program_model.specs.declared.kinds.VType.TheVariants as types
use Rattle.program_model.specs.declared.program.Class.{Class}
use Rattle.program_model.specs.declared.program.CoreClasses.{CoreClasses}
use Rattle.program_model.specs.declared.program.Method.{Method}
use Rattle.program_model.specs.declared.program.ParamSig.{ParamSig}
use Rattle.program_model.specs.declared.program.Program.{Program}
use Rattle.program_model.specs.declared.program.RawAnno.{RawAnno}
use Rattle.program_model.specs.declared.program.Sig.{Sig}
use Rattle.program_model.specs.declared.tree.Body.{Body}
use Rattle.program_model.specs.declared.tree.CallTarget.TheVariants as targets
use Rattle.program_model.specs.declared.tree.Declarator.{Declarator}
use Rattle.program_model.specs.declared.tree.ExpressionKind.TheVariants as expressions
use Rattle.program_model.specs.declared.tree.StatementKind.TheVariants as statements
use Rattle.program_model.specs.declared.tree.TExpr.{TExpr}
use Rattle.program_model.specs.declared.tree.TStmt.{TStmt}
use Rattle.program_model.specs.declared.tree.Var.{Var}
use Rattle.program_model.specs.NameSets.{Names}

-- ---- numbers and places

abbrev pub class_number : ℕ → ClassId
class_number n = record { 0 = n }

abbrev pub method_number : ℕ → MethodId
method_number n = record { 0 = n }

abbrev pub expression_number : ℕ → ExprId
expression_number n = record { 0 = n }

abbrev pub statement_number : ℕ → StmtId
statement_number n = record { 0 = n }

-- a place in the stub, and one in the source
abbrev pub in_stub : ℕ → Pos
in_stub line = record { file = 0; line = line; col = 1 }

abbrev pub in_source : ℕ → ℕ → Pos
in_source line column = record { file = 1; line = line; col = column }

-- ---- the classes

abbrev pub object : ClassId
object = class_number 0

abbrev pub throwable : ClassId
throwable = class_number 2

abbrev pub error : ClassId
error = class_number 3

abbrev pub exception : ClassId
exception = class_number 4

abbrev pub runtime_exception : ClassId
runtime_exception = class_number 5

abbrev pub io_exception : ClassId
io_exception = class_number 11

abbrev pub socket : ClassId
socket = class_number 12

abbrev pub main_class : ClassId
main_class = class_number 13

abbrev pub core_classes : CoreClasses
core_classes = record {
  object = object;
  string = class_number 1;
  throwable = throwable;
  error = error;
  runtime_exception = runtime_exception;
  arithmetic_exception = class_number 6;
  array_index_exception = class_number 7;
  class_cast_exception = class_number 8;
  negative_array_size_exception = class_number 9;
  null_pointer_exception = class_number 10;
}

-- the methods
abbrev pub socket_constructor : MethodId
socket_constructor = method_number 0

abbrev pub socket_close : MethodId
socket_close = method_number 1

abbrev pub main_method : MethodId
main_method = method_number 2

-- the name `close`, which stands first in the table of names
abbrev pub close_name : NameId
close_name = record { 0 = 0 }

abbrev pub no_names : Names
no_names = set.empty

abbrev pub close_alone : Names
close_alone = set.insert set.empty 0

-- the one value of its type
abbrev pub alloc : Global
alloc = record { memory = record { seal = record {} } }

-- a vector of these elements
abbrev pub vector : {X : Type 0} → (xs : List X) → length xs < 2 ^ 63 → Vec X
vector xs small = record { ptr = null_ptr; len = length xs; cap = length xs; alloc = alloc; items = xs; ok = (refl, le_refl (length xs)); small = small }

abbrev pub none : {X : Type 0} → Vec X
none = vector [] (lit< tt)

abbrev pub one : {X : Type 0} → X → Vec X
one x = vector (x ∷ []) (lit< tt)

abbrev pub two : {X : Type 0} → X → X → Vec X
two x y = vector (x ∷ y ∷ []) (lit< tt)

-- ---- the table of classes

-- a class of the library without members, with its super class and the numbers of all classes above it
abbrev pub plain_class : List ℕ → ℕ → Option ClassId → Vec ClassId → Class
plain_class name line sup above = record {
  name = name;
  pos = in_stub line;
  library = true;
  interface = false;
  is_abstract = false;
  is_final = false;
  sup = sup;
  faces = none;
  fields = none;
  methods = none;
  above = above;
  annos = none;
  own_must = None;
  must = no_names;
}

abbrev pub unchecked : List ℕ → ℕ → Class
unchecked name k = plain_class name k (Some runtime_exception) (vector (object ∷ throwable ∷ exception ∷ runtime_exception ∷ class_number k ∷ []) (lit< tt))

-- `@InheritableMustCall("close")`
abbrev pub must_call_close : RawAnno
must_call_close = record {
  name = codes "InheritableMustCall";
  args = one (record { key = codes "value"; values = one (codes "close") });
  shaped = true;
  pos = in_stub 12;
}

abbrev pub socket_class : Class
socket_class = record (plain_class (codes "java.net.Socket") 12 (Some object) (two object socket)) {
  methods = two socket_constructor socket_close;
  annos = one must_call_close;
  own_must = Some close_alone;
  must = close_alone;
}

-- the class of the program, which declares `main`
abbrev pub main_declaration : Class
main_declaration = record (plain_class (codes "Main") 13 (Some object) (two object main_class)) {
  pos = in_source 1 1;
  library = false;
  methods = one main_method;
}

abbrev pub classes : List Class
classes =
    plain_class (codes "java.lang.Object") 1 None (one object)
    ∷ plain_class (codes "java.lang.String") 1 (Some object) (two object (class_number 1))
    ∷ plain_class (codes "java.lang.Throwable") 2 (Some object) (two object throwable)
    ∷ plain_class (codes "java.lang.Error") 3 (Some throwable) (vector (object ∷ throwable ∷ error ∷ []) (lit< tt))
    ∷ plain_class (codes "java.lang.Exception") 4 (Some throwable) (vector (object ∷ throwable ∷ exception ∷ []) (lit< tt))
    ∷ plain_class (codes "java.lang.RuntimeException") 5 (Some exception) (vector (object ∷ throwable ∷ exception ∷ runtime_exception ∷ []) (lit< tt))
    ∷ unchecked (codes "java.lang.ArithmeticException") 6
    ∷ unchecked (codes "java.lang.ArrayIndexOutOfBoundsException") 7
    ∷ unchecked (codes "java.lang.ClassCastException") 8
    ∷ unchecked (codes "java.lang.NegativeArraySizeException") 9
    ∷ unchecked (codes "java.lang.NullPointerException") 10
    ∷ plain_class (codes "java.io.IOException") 11 (Some exception) (vector (object ∷ throwable ∷ exception ∷ io_exception ∷ []) (lit< tt))
    ∷ socket_class
    ∷ main_declaration
    ∷ []

-- ---- the methods

abbrev pub parameter : VType → ParamSig
parameter t = record { vtype = t; owning = false; before = no_names; annos = none }

-- a signature without marks
abbrev pub plain_signature : ClassId → Vec ParamSig → Vec ClassId → Option NameId → Sig
plain_signature c params throws interest = record {
  params = params;
  receiver = parameter (types.Obj c);
  result = None;
  throws = throws;
  owning_result = true;
  alias = None;
  first = None;
  reset = None;
  promises = none;
  on_throw = none;
  interest = interest;
}

abbrev pub plain_method : ClassId → List ℕ → Sig → MethodKind → Option BodyId → Pos → Method
plain_method c name sig kind body pos = record {
  class = c;
  name = name;
  sig = sig;
  kind = kind;
  is_private = false;
  is_final = false;
  is_abstract = false;
  body = body;
  annos = none;
  pos = pos;
}

-- `String[] args`
abbrev pub main_parameter : ParamSig
main_parameter = parameter (types.Arr elements.Str)

abbrev pub constructor_signature : Sig
constructor_signature = plain_signature socket none none None

abbrev pub close_signature : Sig
close_signature = plain_signature socket none (one io_exception) (Some close_name)

abbrev pub main_signature : Sig
main_signature = plain_signature main_class (one main_parameter) (one io_exception) None

-- `Socket()`
abbrev pub constructor_declared : Method
constructor_declared = plain_method socket [] constructor_signature methods.Ctor None (in_stub 13)

-- `void close() throws IOException`
abbrev pub close_declared : Method
close_declared = plain_method socket (codes "close") close_signature methods.Instance None (in_stub 14)

-- `static void main(String[] args) throws IOException`
abbrev pub main_declared : Method
main_declared = plain_method main_class (codes "main") main_signature methods.Static (Some (record { 0 = 0 })) (in_source 2 5)

abbrev pub methods_declared : List Method
methods_declared = constructor_declared ∷ close_declared ∷ main_declared ∷ []

-- ---- the bodies

-- `args` and `Socket s`
abbrev pub variables : List Var
variables =
    record { name = codes "args"; vtype = types.Arr elements.Str; annos = none; pos = in_source 2 10 }
    ∷ record { name = codes "s"; vtype = types.Obj socket; annos = none; pos = in_source 3 7 }
    ∷ []

-- `new Socket()`
abbrev pub new_socket : TExpr
new_socket = record {
  kind = expressions.NewObject (record { class = socket; constructor = socket_constructor; arguments = none });
  vtype = Some (types.Obj socket);
  pos = in_source 3 20;
}

-- `s = new Socket()`
abbrev pub socket_declarator : Declarator
socket_declarator = record { variable = 1; initializer = Some (expression_number 0); pos = in_source 3 7 }

-- `Socket s = new Socket();`
abbrev pub declares_socket : TStmt
declares_socket = record {
  kind = statements.LocalDeclaration (one socket_declarator);
  pos = in_source 3 1;
}

-- `s`, and `s.close()`
abbrev pub socket_read : TExpr
socket_read = record { kind = expressions.Local 1; vtype = Some (types.Obj socket); pos = in_source 4 1 }

abbrev pub closes_socket : TExpr
closes_socket = record {
  kind = expressions.Call (record { target = targets.Other (expression_number 1); method = socket_close; arguments = none });
  vtype = None;
  pos = in_source 4 3;
}

-- `{ Socket s = new Socket(); }`
abbrev pub careless_body : Body
careless_body = record {
  method = main_method;
  vars = vector variables (lit< tt);
  stmts = one (statement_number 0);
  end = in_source 5 1;
  statements = one declares_socket;
  expressions = one new_socket;
}

-- `{ Socket s = new Socket(); s.close(); }`
abbrev pub careful_body : Body
careful_body = record {
  method = main_method;
  vars = vector variables (lit< tt);
  stmts = two (statement_number 0) (statement_number 1);
  end = in_source 5 1;
  statements = two declares_socket (record { kind = statements.Expression (expression_number 2); pos = in_source 4 1 });
  expressions = vector (new_socket ∷ socket_read ∷ closes_socket ∷ []) (lit< tt);
}

-- ---- the programs

abbrev pub program_with : Body → Program
program_with body = record {
  classes = vector classes (lit< tt);
  methods = vector methods_declared (lit< tt);
  fields = none;
  bodies = one body;
  ignored = two runtime_exception error;
  exact = none;
  names = codes "close" ∷ [];
  core = core_classes;
}

-- `main` makes a socket, and never closes it
abbrev pub careless : Program
careless = program_with careless_body

-- `main` makes a socket and closes it
abbrev pub careful : Program
careful = program_with careful_body
