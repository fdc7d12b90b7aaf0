-- A small program with an owning field in a class that extends another class of the program: the constructor of holders calls that of the
-- class that is extended, and then stores the resource that it is given.
--
--     @InheritableMustCall("close")
--     class Holder extends Base {
--         @Owning private final Resource held;
--         Holder(@Owning Resource r) { super(); this.held = r; }
--         @EnsuresCalledMethods(value = "this.held", methods = "close")
--         void close() { Resource.closeQuietly(this.held); }
--         static void main(String[] args) {
--             Holder h = new Holder(new Resource());
--             h.close();
--         }
--     }
--     class Base {
--         Base() { }
--     }
pub use Rattle.safety_examples.specs.CarefulPrograms.{class_number, close_alone, core_classes, error, exception, expression_number, in_source, in_stub, main_parameter, method_number, no_names, none, object, one, plain_class, plain_method, plain_signature, runtime_exception, statement_number, throwable, two, unchecked, vector}
use Rattle.std.specs.Prelude.{ℕ, true, false, Some, None, List, [], ◌∷◌, codes}
use Rattle.std.proofs.Common.{lit<}
use Rattle.program_model.specs.declared.kinds.BodyId.{BodyId}
use Rattle.program_model.specs.declared.kinds.ClassId.{ClassId}
use Rattle.program_model.specs.declared.kinds.ElementType.TheVariants as elements
use Rattle.program_model.specs.declared.kinds.FieldId.{FieldId}
use Rattle.program_model.specs.declared.kinds.MethodId.{MethodId}
use Rattle.program_model.specs.declared.kinds.MethodKind.TheVariants as methods
use Rattle.program_model.specs.declared.kinds.Target.TheVariants as promised
use Rattle.program_model.specs.declared.kinds.VType.{VType}
use Rattle.program_model.specs.declared.kinds.VType.TheVariants as types
use Rattle.program_model.specs.declared.program.Class.{Class}
use Rattle.program_model.specs.declared.program.Field.{Field}
use Rattle.program_model.specs.declared.program.Method.{Method}
use Rattle.program_model.specs.declared.program.ParamSig.{ParamSig}
use Rattle.program_model.specs.declared.program.Program.{Program}
use Rattle.program_model.specs.declared.program.Promise.{Promise}
use Rattle.program_model.specs.declared.program.RawAnno.{RawAnno}
use Rattle.program_model.specs.declared.program.Sig.{Sig}
use Rattle.program_model.specs.declared.tree.AssignmentTarget.TheVariants as assigned
use Rattle.program_model.specs.declared.tree.Body.{Body}
use Rattle.program_model.specs.declared.tree.CallTarget.TheVariants as targets
use Rattle.program_model.specs.declared.tree.Declarator.{Declarator}
use Rattle.program_model.specs.declared.tree.ExpressionKind.TheVariants as expressions
use Rattle.program_model.specs.declared.tree.StatementKind.TheVariants as statements
use Rattle.program_model.specs.declared.tree.TExpr.{TExpr}
use Rattle.program_model.specs.declared.tree.TStmt.{TStmt}
use Rattle.program_model.specs.declared.tree.Var.{Var}
use Rattle.rlc_base.specs.declared.place.Pos.{Pos}
use Rattle.safety_examples.specs.CarefulPrograms.{close_name, must_call_close, parameter}

-- ---- numbers

abbrev pub resource : ClassId
resource = class_number 11

abbrev pub base : ClassId
base = class_number 12

abbrev pub holder : ClassId
holder = class_number 13

abbrev pub held : FieldId
held = record { 0 = 0 }

abbrev pub resource_constructor : MethodId
resource_constructor = method_number 0

abbrev pub resource_close : MethodId
resource_close = method_number 1

abbrev pub close_quietly : MethodId
close_quietly = method_number 2

abbrev pub holder_constructor : MethodId
holder_constructor = method_number 3

abbrev pub holder_close : MethodId
holder_close = method_number 4

abbrev pub main_method : MethodId
main_method = method_number 5

abbrev pub base_constructor : MethodId
base_constructor = method_number 6

abbrev pub constructor_body : BodyId
constructor_body = record { 0 = 0 }

abbrev pub close_body : BodyId
close_body = record { 0 = 1 }

abbrev pub main_body : BodyId
main_body = record { 0 = 2 }

abbrev pub base_body : BodyId
base_body = record { 0 = 3 }

-- ---- the annotations

-- `@InheritableMustCall("close")`
abbrev pub must_close : Pos → RawAnno
must_close pos = record must_call_close { pos = pos }

-- `@Owning`
abbrev pub owning : Pos → RawAnno
owning pos = record { name = codes "Owning"; args = none; shaped = true; pos = pos }

-- `@EnsuresCalledMethods(value = .., methods = "close")`
abbrev pub ensures_closed : List ℕ → Pos → RawAnno
ensures_closed text pos = record {
  name = codes "EnsuresCalledMethods";
  args = two (record { key = codes "value"; values = one text }) (record { key = codes "methods"; values = one (codes "close") });
  shaped = true;
  pos = pos;
}

-- ---- the table of classes

abbrev pub resource_class : Class
resource_class = record (plain_class (codes "Resource") 11 (Some object) (two object resource)) {
  methods = vector (resource_constructor ∷ resource_close ∷ close_quietly ∷ []) (lit< tt);
  annos = one (must_close (in_stub 11));
  own_must = Some close_alone;
  must = close_alone;
}

-- the class that the holder's extends
abbrev pub base_class : Class
base_class = record (plain_class (codes "Base") 12 (Some object) (two object base)) { pos = in_source 12 7; library = false; methods = one base_constructor }

-- the class with the owning field
abbrev pub holder_class : Class
holder_class = record (plain_class (codes "Holder") 13 (Some base) (vector (object ∷ base ∷ holder ∷ []) (lit< tt))) {
  pos = in_source 2 7;
  library = false;
  fields = one held;
  methods = vector (holder_constructor ∷ holder_close ∷ main_method ∷ []) (lit< tt);
  annos = one (must_close (in_source 1 1));
  own_must = Some close_alone;
  must = close_alone;
}

abbrev pub classes : List Class
classes =
    plain_class (codes "java.lang.Object") 1 None (one object)
    ∷ plain_class (codes "java.lang.String") 1 (Some object) (two object (class_number 1))
    ∷ plain_class (codes "java.lang.Throwable") 2 (Some object) (two object throwable)
    ∷ plain_class (codes "java.lang.Error") 3 (Some throwable) (vector (object ∷ throwable ∷ error ∷ []) (lit< tt))
    ∷ plain_class (codes "java.lang.Exception") 4 (Some throwable) (vector (object ∷ throwable ∷ exception ∷ []) (lit< tt))
    ∷ plain_class (codes "java.lang.RuntimeException") 5 (Some exception) (vector (object ∷ throwable ∷ exception ∷ runtime_exception ∷ []) (lit< tt))
    ∷ unchecked (codes "java.lang.ArithmeticException") 6
    ∷ unchecked (codes "java.lang.ArrayIndexOutOfBoundsException") 7
    ∷ unchecked (codes "java.lang.ClassCastException") 8
    ∷ unchecked (codes "java.lang.NegativeArraySizeException") 9
    ∷ unchecked (codes "java.lang.NullPointerException") 10
    ∷ resource_class
    ∷ base_class
    ∷ holder_class
    ∷ []

-- ---- the field

-- `@Owning private final Resource held;`
abbrev pub held_declared : Field
held_declared = record {
  class = holder;
  name = codes "held";
  vtype = types.Obj resource;
  is_static = false;
  is_final = true;
  is_private = true;
  owning = true;
  annos = one (owning (in_source 3 5));
  pos = in_source 3 36;
  initial = None;
}

-- ---- the methods

-- `close` was called on the parameter of `closeQuietly`, and on the field
abbrev pub parameter_closed : Promise
parameter_closed = record { target = promised.At 1; names = close_alone }

abbrev pub field_closed : Promise
field_closed = record { target = promised.OfField held; names = close_alone }

-- `Resource r`, and `@Owning Resource r`
abbrev pub resource_parameter : ParamSig
resource_parameter = parameter (types.Obj resource)

abbrev pub owning_parameter : ParamSig
owning_parameter = record resource_parameter { owning = true; annos = one (owning (in_source 4 12)) }

abbrev pub resource_constructor_signature : Sig
resource_constructor_signature = plain_signature resource none none None

abbrev pub resource_close_signature : Sig
resource_close_signature = plain_signature resource none none (Some close_name)

abbrev pub close_quietly_signature : Sig
close_quietly_signature = record (plain_signature resource (one resource_parameter) none None) { promises = one parameter_closed }

abbrev pub holder_constructor_signature : Sig
holder_constructor_signature = plain_signature holder (one owning_parameter) none None

abbrev pub holder_close_signature : Sig
holder_close_signature = record (plain_signature holder none none (Some close_name)) { promises = one field_closed }

abbrev pub main_signature : Sig
main_signature = plain_signature holder (one main_parameter) none None

-- `Resource()`
abbrev pub resource_constructor_declared : Method
resource_constructor_declared = plain_method resource [] resource_constructor_signature methods.Ctor None (in_stub 12)

-- `void close()`, of the resource
abbrev pub resource_close_declared : Method
resource_close_declared = plain_method resource (codes "close") resource_close_signature methods.Instance None (in_stub 13)

-- `@EnsuresCalledMethods(value = "#1", methods = "close") static void closeQuietly(Resource r)`
abbrev pub close_quietly_declared : Method
close_quietly_declared = record (plain_method resource (codes "closeQuietly") close_quietly_signature methods.Static None (in_stub 14)) {
  annos = one (ensures_closed (codes "#1") (in_stub 14));
}

-- `Holder(@Owning Resource r)`
abbrev pub holder_constructor_declared : Method
holder_constructor_declared = plain_method holder [] holder_constructor_signature methods.Ctor (Some constructor_body) (in_source 4 5)

-- `void close()`, of the holder
abbrev pub holder_close_declared : Method
holder_close_declared = record (plain_method holder (codes "close") holder_close_signature methods.Instance (Some close_body) (in_source 6 10)) {
  annos = one (ensures_closed (codes "this.held") (in_source 5 5));
}

-- `static void main(String[] args)`
abbrev pub main_declared : Method
main_declared = plain_method holder (codes "main") main_signature methods.Static (Some main_body) (in_source 7 17)

abbrev pub base_constructor_signature : Sig
base_constructor_signature = plain_signature base none none None

-- `Base()`
abbrev pub base_constructor_declared : Method
base_constructor_declared = plain_method base [] base_constructor_signature methods.Ctor (Some base_body) (in_source 13 5)

abbrev pub methods_declared : List Method
methods_declared =
    resource_constructor_declared ∷ resource_close_declared ∷ close_quietly_declared ∷ holder_constructor_declared ∷ holder_close_declared ∷ main_declared ∷ base_constructor_declared ∷ []

-- ---- the parts of the bodies

abbrev pub read : ℕ → VType → Pos → TExpr
read x t pos = record { kind = expressions.Local x; vtype = Some t; pos = pos }

-- `this`
abbrev pub this_at : Pos → TExpr
this_at pos = record { kind = expressions.This true; vtype = Some (types.Obj holder); pos = pos }

abbrev pub evaluates : ℕ → Pos → TStmt
evaluates e pos = record { kind = statements.Expression (expression_number e); pos = pos }

-- ---- the constructor

-- `this.held = r`
abbrev pub stores : TExpr
stores = record {
  kind = expressions.Assignment (assigned.Field (expression_number 0) held) (expression_number 1);
  vtype = Some (types.Obj resource);
  pos = in_source 4 53;
}

-- `super();`
abbrev pub calls_super : TStmt
calls_super = record { kind = statements.SuperCall (record { constructor = base_constructor; arguments = none; written = true }); pos = in_source 4 34 }

abbrev pub constructor_variables : List Var
constructor_variables = record { name = codes "r"; vtype = types.Obj resource; annos = none; pos = in_source 4 29 } ∷ []

-- `{ super(); this.held = r; }`
abbrev pub constructing : Body
constructing = record {
  method = holder_constructor;
  vars = vector constructor_variables (lit< tt);
  stmts = two (statement_number 0) (statement_number 1);
  end = in_source 4 58;
  statements = two calls_super (evaluates 2 (in_source 4 43));
  expressions = vector (this_at (in_source 4 43) ∷ read 0 (types.Obj resource) (in_source 4 55) ∷ stores ∷ []) (lit< tt);
}

-- ---- the constructor of the class that is extended

-- `{ }`
abbrev pub making_base : Body
making_base = record { method = base_constructor; vars = none; stmts = none; end = in_source 13 14; statements = none; expressions = none }

-- ---- `close`

-- `this.held`
abbrev pub field_read : TExpr
field_read = record { kind = expressions.Field (expression_number 0) held; vtype = Some (types.Obj resource); pos = in_source 6 47 }

-- `Resource.closeQuietly(this.held)`
abbrev pub closes_quietly : TExpr
closes_quietly = record {
  kind = expressions.Call (record { target = targets.Static; method = close_quietly; arguments = one (expression_number 1) });
  vtype = None;
  pos = in_source 6 29;
}

-- `{ Resource.closeQuietly(this.held); }`
abbrev pub closing : Body
closing = record {
  method = holder_close;
  vars = none;
  stmts = one (statement_number 0);
  end = in_source 6 54;
  statements = one (evaluates 2 (in_source 6 20));
  expressions = vector (this_at (in_source 6 42) ∷ field_read ∷ closes_quietly ∷ []) (lit< tt);
}

-- ---- `main`

-- `args` and `Holder h`
abbrev pub main_variables : List Var
main_variables =
    record { name = codes "args"; vtype = types.Arr elements.Str; annos = none; pos = in_source 7 31 }
    ∷ record { name = codes "h"; vtype = types.Obj holder; annos = none; pos = in_source 8 16 }
    ∷ []

-- `new Resource()`
abbrev pub new_resource : TExpr
new_resource = record {
  kind = expressions.NewObject (record { class = resource; constructor = resource_constructor; arguments = none });
  vtype = Some (types.Obj resource);
  pos = in_source 8 31;
}

-- `new Holder(new Resource())`
abbrev pub new_holder : TExpr
new_holder = record {
  kind = expressions.NewObject (record { class = holder; constructor = holder_constructor; arguments = one (expression_number 0) });
  vtype = Some (types.Obj holder);
  pos = in_source 8 20;
}

-- `h.close()`
abbrev pub closes_holder : TExpr
closes_holder = record {
  kind = expressions.Call (record { target = targets.Other (expression_number 2); method = holder_close; arguments = none });
  vtype = None;
  pos = in_source 9 11;
}

-- `h = new Holder(new Resource())`
abbrev pub holder_declarator : Declarator
holder_declarator = record { variable = 1; initializer = Some (expression_number 1); pos = in_source 8 16 }

-- `Holder h = new Holder(new Resource());`
abbrev pub declares_holder : TStmt
declares_holder = record { kind = statements.LocalDeclaration (one holder_declarator); pos = in_source 8 9 }

-- `{ Holder h = new Holder(new Resource()); h.close(); }`
abbrev pub running : Body
running = record {
  method = main_method;
  vars = vector main_variables (lit< tt);
  stmts = two (statement_number 0) (statement_number 1);
  end = in_source 10 5;
  statements = two declares_holder (evaluates 3 (in_source 9 9));
  expressions = vector (new_resource ∷ new_holder ∷ read 1 (types.Obj holder) (in_source 9 9) ∷ closes_holder ∷ []) (lit< tt);
}

-- ---- the program

abbrev pub extending : Program
extending = record {
  classes = vector classes (lit< tt);
  methods = vector methods_declared (lit< tt);
  fields = one held_declared;
  bodies = vector (constructing ∷ closing ∷ running ∷ making_base ∷ []) (lit< tt);
  ignored = two runtime_exception error;
  exact = none;
  names = codes "close" ∷ [];
  core = core_classes;
}
