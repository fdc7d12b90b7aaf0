-- A small program with an owning field and a call that creates an obligation anew: `main` makes a socket, of which nothing must be called at first,
-- connects it, which creates its obligation, and makes a holder, whose constructor connects it anew and keeps it, and whose `close` has it closed.
--
--     @InheritableMustCall("close")
--     class Holder {
--         @Owning private final Socket held;
--         Holder(@Owning Socket s) { s.connect(); this.held = s; }
--         @EnsuresCalledMethods(value = "this.held", methods = "close")
--         void close() { Socket.closeQuietly(this.held); }
--         static void main(String[] args) {
--             Socket s = new Socket();
--             s.connect();
--             Holder h = new Holder(s);
--             h.close();
--         }
--     }
pub use Rattle.safety_examples.specs.CarefulPrograms.{close_name}
pub use Rattle.safety_examples.specs.CarefulPrograms.{class_number, close_alone, core_classes, error, exception, expression_number, in_source, in_stub, main_parameter, method_number, no_names, none, object, one, plain_class, plain_method, plain_signature, runtime_exception, statement_number, throwable, two, unchecked, vector}
use Rattle.std.specs.Prelude.{ℕ, true, false, Some, None, List, [], ◌∷◌, codes}
use Rattle.std.proofs.Common.{lit<}
use Rattle.program_model.specs.declared.kinds.BodyId.{BodyId}
use Rattle.program_model.specs.declared.kinds.ClassId.{ClassId}
use Rattle.program_model.specs.declared.kinds.ElementType.TheVariants as elements
use Rattle.program_model.specs.declared.kinds.FieldId.{FieldId}
use Rattle.program_model.specs.declared.kinds.MethodId.{MethodId}
use Rattle.program_model.specs.declared.kinds.MethodKind.TheVariants as methods
use Rattle.program_model.specs.declared.kinds.Target.TheVariants as promised
use Rattle.program_model.specs.declared.kinds.VType.{VType}
use Rattle.program_model.specs.declared.kinds.VType.TheVariants as types
use Rattle.program_model.specs.declared.program.Class.{Class}
use Rattle.program_model.specs.declared.program.Field.{Field}
use Rattle.program_model.specs.declared.program.Method.{Method}
use Rattle.program_model.specs.declared.program.ParamSig.{ParamSig}
use Rattle.program_model.specs.declared.program.Program.{Program}
use Rattle.program_model.specs.declared.program.Promise.{Promise}
use Rattle.program_model.specs.declared.program.RawAnno.{RawAnno}
use Rattle.program_model.specs.declared.program.Sig.{Sig}
use Rattle.program_model.specs.declared.tree.AssignmentTarget.TheVariants as assigned
use Rattle.program_model.specs.declared.tree.Body.{Body}
use Rattle.program_model.specs.declared.tree.CallTarget.TheVariants as targets
use Rattle.program_model.specs.declared.tree.Declarator.{Declarator}
use Rattle.program_model.specs.declared.tree.ExpressionKind.TheVariants as expressions
use Rattle.program_model.specs.declared.tree.StatementKind.TheVariants as statements
use Rattle.program_model.specs.declared.tree.TExpr.{TExpr}
use Rattle.program_model.specs.declared.tree.TStmt.{TStmt}
use Rattle.program_model.specs.declared.tree.Var.{Var}
use Rattle.rlc_base.specs.declared.place.Pos.{Pos}
use Rattle.safety_examples.specs.CarefulPrograms.{must_call_close, parameter}

-- ---- numbers

abbrev pub socket : ClassId
socket = class_number 11

abbrev pub holder : ClassId
holder = class_number 12

abbrev pub held : FieldId
held = record { 0 = 0 }

abbrev pub socket_constructor : MethodId
socket_constructor = method_number 0

abbrev pub connect : MethodId
connect = method_number 1

abbrev pub socket_close : MethodId
socket_close = method_number 2

abbrev pub close_quietly : MethodId
close_quietly = method_number 3

abbrev pub holder_constructor : MethodId
holder_constructor = method_number 4

abbrev pub holder_close : MethodId
holder_close = method_number 5

abbrev pub main_method : MethodId
main_method = method_number 6

abbrev pub constructor_body : BodyId
constructor_body = record { 0 = 0 }

abbrev pub close_body : BodyId
close_body = record { 0 = 1 }

abbrev pub main_body : BodyId
main_body = record { 0 = 2 }

-- ---- the annotations

-- `@InheritableMustCall("close")`
abbrev pub must_close : Pos → RawAnno
must_close pos = record must_call_close { pos = pos }

-- `@MustCall({})`
abbrev pub must_nothing : RawAnno
must_nothing = record { name = codes "MustCall"; args = one (record { key = codes "value"; values = none }); shaped = true; pos = in_stub 12 }

-- `@CreatesMustCallFor`
abbrev pub creates : RawAnno
creates = record { name = codes "CreatesMustCallFor"; args = none; shaped = true; pos = in_stub 13 }

-- `@Owning`
abbrev pub owning : Pos → RawAnno
owning pos = record { name = codes "Owning"; args = none; shaped = true; pos = pos }

-- `@EnsuresCalledMethods(value = .., methods = "close")`
abbrev pub ensures_closed : List ℕ → Pos → RawAnno
ensures_closed text pos = record {
  name = codes "EnsuresCalledMethods";
  args = two (record { key = codes "value"; values = one text }) (record { key = codes "methods"; values = one (codes "close") });
  shaped = true;
  pos = pos;
}

-- ---- the table of classes

abbrev pub socket_class : Class
socket_class = record (plain_class (codes "java.net.Socket") 11 (Some object) (two object socket)) {
  methods = vector (socket_constructor ∷ connect ∷ socket_close ∷ close_quietly ∷ []) (lit< tt);
  annos = one (must_close (in_stub 11));
  own_must = Some close_alone;
  must = close_alone;
}

-- the class of the program
abbrev pub holder_class : Class
holder_class = record (plain_class (codes "Holder") 12 (Some object) (two object holder)) {
  pos = in_source 2 7;
  library = false;
  fields = one held;
  methods = vector (holder_constructor ∷ holder_close ∷ main_method ∷ []) (lit< tt);
  annos = one (must_close (in_source 1 1));
  own_must = Some close_alone;
  must = close_alone;
}

abbrev pub classes : List Class
classes =
    plain_class (codes "java.lang.Object") 1 None (one object)
    ∷ plain_class (codes "java.lang.String") 1 (Some object) (two object (class_number 1))
    ∷ plain_class (codes "java.lang.Throwable") 2 (Some object) (two object throwable)
    ∷ plain_class (codes "java.lang.Error") 3 (Some throwable) (vector (object ∷ throwable ∷ error ∷ []) (lit< tt))
    ∷ plain_class (codes "java.lang.Exception") 4 (Some throwable) (vector (object ∷ throwable ∷ exception ∷ []) (lit< tt))
    ∷ plain_class (codes "java.lang.RuntimeException") 5 (Some exception) (vector (object ∷ throwable ∷ exception ∷ runtime_exception ∷ []) (lit< tt))
    ∷ unchecked (codes "java.lang.ArithmeticException") 6
    ∷ unchecked (codes "java.lang.ArrayIndexOutOfBoundsException") 7
    ∷ unchecked (codes "java.lang.ClassCastException") 8
    ∷ unchecked (codes "java.lang.NegativeArraySizeException") 9
    ∷ unchecked (codes "java.lang.NullPointerException") 10
    ∷ socket_class
    ∷ holder_class
    ∷ []

-- ---- the field

-- `@Owning private final Socket held;`
abbrev pub held_declared : Field
held_declared = record {
  class = holder;
  name = codes "held";
  vtype = types.Obj socket;
  is_static = false;
  is_final = true;
  is_private = true;
  owning = true;
  annos = one (owning (in_source 3 5));
  pos = in_source 3 34;
  initial = None;
}

-- ---- the methods

-- `close` was called on the parameter of `closeQuietly`, and on the field
abbrev pub parameter_closed : Promise
parameter_closed = record { target = promised.At 1; names = close_alone }

abbrev pub field_closed : Promise
field_closed = record { target = promised.OfField held; names = close_alone }

-- `Socket s`, and `@Owning Socket s`
abbrev pub socket_parameter : ParamSig
socket_parameter = parameter (types.Obj socket)

abbrev pub owning_parameter : ParamSig
owning_parameter = record socket_parameter { owning = true; annos = one (owning (in_source 4 12)) }

-- nothing must be called on the new object
abbrev pub socket_constructor_signature : Sig
socket_constructor_signature = record (plain_signature socket none none None) { first = Some no_names }

-- the call creates the obligation of its receiver anew
abbrev pub connect_signature : Sig
connect_signature = record (plain_signature socket none none None) { reset = Some 0 }

abbrev pub socket_close_signature : Sig
socket_close_signature = plain_signature socket none none (Some close_name)

abbrev pub close_quietly_signature : Sig
close_quietly_signature = record (plain_signature socket (one socket_parameter) none None) { promises = one parameter_closed }

abbrev pub holder_constructor_signature : Sig
holder_constructor_signature = plain_signature holder (one owning_parameter) none None

abbrev pub holder_close_signature : Sig
holder_close_signature = record (plain_signature holder none none (Some close_name)) { promises = one field_closed }

abbrev pub main_signature : Sig
main_signature = plain_signature holder (one main_parameter) none None

-- `@MustCall({}) Socket()`
abbrev pub socket_constructor_declared : Method
socket_constructor_declared = record (plain_method socket [] socket_constructor_signature methods.Ctor None (in_stub 12)) { annos = one must_nothing }

-- `@CreatesMustCallFor void connect()`
abbrev pub connect_declared : Method
connect_declared = record (plain_method socket (codes "connect") connect_signature methods.Instance None (in_stub 13)) { annos = one creates }

-- `void close()`, of the socket
abbrev pub socket_close_declared : Method
socket_close_declared = plain_method socket (codes "close") socket_close_signature methods.Instance None (in_stub 14)

-- `@EnsuresCalledMethods(value = "#1", methods = "close") static void closeQuietly(Socket s)`
abbrev pub close_quietly_declared : Method
close_quietly_declared = record (plain_method socket (codes "closeQuietly") close_quietly_signature methods.Static None (in_stub 15)) {
  annos = one (ensures_closed (codes "#1") (in_stub 15));
}

-- `Holder(@Owning Socket s)`
abbrev pub holder_constructor_declared : Method
holder_constructor_declared = plain_method holder [] holder_constructor_signature methods.Ctor (Some constructor_body) (in_source 4 5)

-- `void close()`, of the holder
abbrev pub holder_close_declared : Method
holder_close_declared = record (plain_method holder (codes "close") holder_close_signature methods.Instance (Some close_body) (in_source 6 10)) {
  annos = one (ensures_closed (codes "this.held") (in_source 5 5));
}

-- `static void main(String[] args)`
abbrev pub main_declared : Method
main_declared = plain_method holder (codes "main") main_signature methods.Static (Some main_body) (in_source 7 17)

abbrev pub methods_declared : List Method
methods_declared =
    socket_constructor_declared ∷ connect_declared ∷ socket_close_declared ∷ close_quietly_declared ∷ holder_constructor_declared ∷ holder_close_declared ∷ main_declared ∷ []

-- ---- the parts of the bodies

abbrev pub read : ℕ → VType → Pos → TExpr
read x t pos = record { kind = expressions.Local x; vtype = Some t; pos = pos }

-- `this`
abbrev pub this_at : Pos → TExpr
this_at pos = record { kind = expressions.This true; vtype = Some (types.Obj holder); pos = pos }

abbrev pub evaluates : ℕ → Pos → TStmt
evaluates e pos = record { kind = statements.Expression (expression_number e); pos = pos }

-- ---- the constructor

-- `s.connect()`
abbrev pub connects_parameter : TExpr
connects_parameter = record {
  kind = expressions.Call (record { target = targets.Other (expression_number 0); method = connect; arguments = none });
  vtype = None;
  pos = in_source 4 34;
}

-- `this.held = s`
abbrev pub stores : TExpr
stores = record {
  kind = expressions.Assignment (assigned.Field (expression_number 2) held) (expression_number 3);
  vtype = Some (types.Obj socket);
  pos = in_source 4 55;
}

abbrev pub constructor_variables : List Var
constructor_variables = record { name = codes "s"; vtype = types.Obj socket; annos = none; pos = in_source 4 27 } ∷ []

abbrev pub constructor_expressions : List TExpr
constructor_expressions = read 0 (types.Obj socket) (in_source 4 32) ∷ connects_parameter ∷ this_at (in_source 4 45) ∷ read 0 (types.Obj socket) (in_source 4 57) ∷ stores ∷ []

-- `{ s.connect(); this.held = s; }`
abbrev pub constructing : Body
constructing = record {
  method = holder_constructor;
  vars = vector constructor_variables (lit< tt);
  stmts = two (statement_number 0) (statement_number 1);
  end = in_source 4 60;
  statements = two (evaluates 1 (in_source 4 32)) (evaluates 4 (in_source 4 45));
  expressions = vector constructor_expressions (lit< tt);
}

-- ---- `close`

-- `this.held`
abbrev pub field_read : TExpr
field_read = record { kind = expressions.Field (expression_number 0) held; vtype = Some (types.Obj socket); pos = in_source 6 45 }

-- `Socket.closeQuietly(this.held)`
abbrev pub closes_quietly : TExpr
closes_quietly = record {
  kind = expressions.Call (record { target = targets.Static; method = close_quietly; arguments = one (expression_number 1) });
  vtype = None;
  pos = in_source 6 27;
}

-- `{ Socket.closeQuietly(this.held); }`
abbrev pub closing : Body
closing = record {
  method = holder_close;
  vars = none;
  stmts = one (statement_number 0);
  end = in_source 6 52;
  statements = one (evaluates 2 (in_source 6 20));
  expressions = vector (this_at (in_source 6 40) ∷ field_read ∷ closes_quietly ∷ []) (lit< tt);
}

-- ---- `main`

-- `args`, `Socket s` and `Holder h`
abbrev pub main_variables : List Var
main_variables =
    record { name = codes "args"; vtype = types.Arr elements.Str; annos = none; pos = in_source 7 31 }
    ∷ record { name = codes "s"; vtype = types.Obj socket; annos = none; pos = in_source 8 16 }
    ∷ record { name = codes "h"; vtype = types.Obj holder; annos = none; pos = in_source 10 16 }
    ∷ []

-- `new Socket()`
abbrev pub new_socket : TExpr
new_socket = record {
  kind = expressions.NewObject (record { class = socket; constructor = socket_constructor; arguments = none });
  vtype = Some (types.Obj socket);
  pos = in_source 8 20;
}

-- `s.connect()`
abbrev pub connects_socket : TExpr
connects_socket = record {
  kind = expressions.Call (record { target = targets.Other (expression_number 1); method = connect; arguments = none });
  vtype = None;
  pos = in_source 9 11;
}

-- `new Holder(s)`
abbrev pub new_holder : TExpr
new_holder = record {
  kind = expressions.NewObject (record { class = holder; constructor = holder_constructor; arguments = one (expression_number 3) });
  vtype = Some (types.Obj holder);
  pos = in_source 10 20;
}

-- `h.close()`
abbrev pub closes_holder : TExpr
closes_holder = record {
  kind = expressions.Call (record { target = targets.Other (expression_number 5); method = holder_close; arguments = none });
  vtype = None;
  pos = in_source 11 11;
}

-- `s = new Socket()`
abbrev pub socket_declarator : Declarator
socket_declarator = record { variable = 1; initializer = Some (expression_number 0); pos = in_source 8 16 }

-- `Socket s = new Socket();`
abbrev pub declares_socket : TStmt
declares_socket = record { kind = statements.LocalDeclaration (one socket_declarator); pos = in_source 8 9 }

-- `h = new Holder(s)`
abbrev pub holder_declarator : Declarator
holder_declarator = record { variable = 2; initializer = Some (expression_number 4); pos = in_source 10 16 }

-- `Holder h = new Holder(s);`
abbrev pub declares_holder : TStmt
declares_holder = record { kind = statements.LocalDeclaration (one holder_declarator); pos = in_source 10 9 }

abbrev pub main_expressions : List TExpr
main_expressions =
    new_socket ∷ read 1 (types.Obj socket) (in_source 9 9) ∷ connects_socket ∷ read 1 (types.Obj socket) (in_source 10 31) ∷ new_holder ∷ read 2 (types.Obj holder) (in_source 11 9)
    ∷ closes_holder ∷ []

-- `{ Socket s = new Socket(); s.connect(); Holder h = new Holder(s); h.close(); }`
abbrev pub running : Body
running = record {
  method = main_method;
  vars = vector main_variables (lit< tt);
  stmts = vector (statement_number 0 ∷ statement_number 1 ∷ statement_number 2 ∷ statement_number 3 ∷ []) (lit< tt);
  end = in_source 12 5;
  statements = vector (declares_socket ∷ evaluates 2 (in_source 9 9) ∷ declares_holder ∷ evaluates 6 (in_source 11 9) ∷ []) (lit< tt);
  expressions = vector main_expressions (lit< tt);
}

-- ---- the program

abbrev pub resetting : Program
resetting = record {
  classes = vector classes (lit< tt);
  methods = vector methods_declared (lit< tt);
  fields = one held_declared;
  bodies = vector (constructing ∷ closing ∷ running ∷ []) (lit< tt);
  ignored = two runtime_exception error;
  exact = none;
  names = codes "close" ∷ [];
  core = core_classes;
}
