-- A small program whose constructor makes a resource alias: a wrapper keeps the resource that it is made with, which is then one resource with it,
-- its `close` has this closed by a method of the library that promises it, and `main` makes a resource and a wrapper of it, and closes the wrapper.
--
--     @InheritableMustCall("close")
--     class Wrapper {
--         @Owning private final Resource held;
--         @MustCallAlias Wrapper(@MustCallAlias Resource r) { this.held = r; }
--         @EnsuresCalledMethods(value = "this.held", methods = "close")
--         void close() { Resource.closeQuietly(this.held); }
--         static void main(String[] args) {
--             Wrapper h = new Wrapper(new Resource());
--             h.close();
--         }
--     }
use Rattle.std.specs.Prelude.{true, false, Some, None, List, [], ◌∷◌, codes}
use Rattle.std.proofs.Common.{lit<}
use Rattle.program_model.specs.declared.kinds.BodyId.{BodyId}
use Rattle.program_model.specs.declared.kinds.ClassId.{ClassId}
use Rattle.program_model.specs.declared.kinds.ElementType.TheVariants as elements
use Rattle.program_model.specs.declared.kinds.FieldId.{FieldId}
use Rattle.program_model.specs.declared.kinds.MethodId.{MethodId}
use Rattle.program_model.specs.declared.kinds.MethodKind.TheVariants as methods
use Rattle.program_model.specs.declared.kinds.Target.TheVariants as promised
use Rattle.program_model.specs.declared.kinds.VType.TheVariants as types
use Rattle.program_model.specs.declared.program.Class.{Class}
use Rattle.program_model.specs.declared.program.Field.{Field}
use Rattle.program_model.specs.declared.program.Method.{Method}
use Rattle.program_model.specs.declared.program.ParamSig.{ParamSig}
use Rattle.program_model.specs.declared.program.Program.{Program}
use Rattle.program_model.specs.declared.program.Promise.{Promise}
use Rattle.program_model.specs.declared.program.RawAnno.{RawAnno}
use Rattle.program_model.specs.declared.program.Sig.{Sig}
use Rattle.program_model.specs.declared.tree.AssignmentTarget.TheVariants as assigned
use Rattle.program_model.specs.declared.tree.Body.{Body}
use Rattle.program_model.specs.declared.tree.CallTarget.TheVariants as targets
use Rattle.program_model.specs.declared.tree.Declarator.{Declarator}
use Rattle.program_model.specs.declared.tree.ExpressionKind.TheVariants as expressions
use Rattle.program_model.specs.declared.tree.StatementKind.TheVariants as statements
use Rattle.program_model.specs.declared.tree.TExpr.{TExpr}
use Rattle.program_model.specs.declared.tree.TStmt.{TStmt}
use Rattle.program_model.specs.declared.tree.Var.{Var}
use Rattle.rlc_base.specs.declared.place.Pos.{Pos}
use Rattle.safety_examples.specs.OwnerPrograms.{class_number, close_alone, close_quietly, close_quietly_declared, core_classes, ensures_closed, error, evaluates, exception, expression_number, in_source, main_parameter, method_number, must_close, none, object, one, owning, plain_class, plain_method, plain_signature, read, resource, resource_class, resource_close_declared, resource_constructor, resource_constructor_declared, resource_parameter, runtime_exception, statement_number, throwable, two, unchecked, vector}
use Rattle.safety_examples.specs.OwnerPrograms.{close_name}

-- ---- numbers

abbrev pub wrapper : ClassId
wrapper = class_number 12

abbrev pub held : FieldId
held = record { 0 = 0 }

abbrev pub wrapper_constructor : MethodId
wrapper_constructor = method_number 3

abbrev pub wrapper_close : MethodId
wrapper_close = method_number 4

abbrev pub main_method : MethodId
main_method = method_number 5

abbrev pub constructor_body : BodyId
constructor_body = record { 0 = 0 }

abbrev pub close_body : BodyId
close_body = record { 0 = 1 }

abbrev pub main_body : BodyId
main_body = record { 0 = 2 }

-- ---- the annotations

-- `@MustCallAlias`
abbrev pub must_call_alias : Pos → RawAnno
must_call_alias pos = record { name = codes "MustCallAlias"; args = none; shaped = true; pos = pos }

-- ---- the table of classes

-- the class of the program
abbrev pub wrapper_class : Class
wrapper_class = record (plain_class (codes "Wrapper") 12 (Some object) (two object wrapper)) {
  pos = in_source 2 7;
  library = false;
  fields = one held;
  methods = vector (wrapper_constructor ∷ wrapper_close ∷ main_method ∷ []) (lit< tt);
  annos = one (must_close (in_source 1 1));
  own_must = Some close_alone;
  must = close_alone;
}

abbrev pub classes : List Class
classes =
    plain_class (codes "java.lang.Object") 1 None (one object)
    ∷ plain_class (codes "java.lang.String") 1 (Some object) (two object (class_number 1))
    ∷ plain_class (codes "java.lang.Throwable") 2 (Some object) (two object throwable)
    ∷ plain_class (codes "java.lang.Error") 3 (Some throwable) (vector (object ∷ throwable ∷ error ∷ []) (lit< tt))
    ∷ plain_class (codes "java.lang.Exception") 4 (Some throwable) (vector (object ∷ throwable ∷ exception ∷ []) (lit< tt))
    ∷ plain_class (codes "java.lang.RuntimeException") 5 (Some exception) (vector (object ∷ throwable ∷ exception ∷ runtime_exception ∷ []) (lit< tt))
    ∷ unchecked (codes "java.lang.ArithmeticException") 6
    ∷ unchecked (codes "java.lang.ArrayIndexOutOfBoundsException") 7
    ∷ unchecked (codes "java.lang.ClassCastException") 8
    ∷ unchecked (codes "java.lang.NegativeArraySizeException") 9
    ∷ unchecked (codes "java.lang.NullPointerException") 10
    ∷ resource_class
    ∷ wrapper_class
    ∷ []

-- ---- the field

-- `@Owning private final Resource held;`
abbrev pub held_declared : Field
held_declared = record {
  class = wrapper;
  name = codes "held";
  vtype = types.Obj resource;
  is_static = false;
  is_final = true;
  is_private = true;
  owning = true;
  annos = one (owning (in_source 3 5));
  pos = in_source 3 36;
  initial = None;
}

-- ---- the methods

-- `close` was called on the field
abbrev pub field_closed : Promise
field_closed = record { target = promised.OfField held; names = close_alone }

-- `@MustCallAlias Resource r`
abbrev pub aliased_parameter : ParamSig
aliased_parameter = record resource_parameter { annos = one (must_call_alias (in_source 4 28)) }

abbrev pub wrapper_constructor_signature : Sig
wrapper_constructor_signature = record (plain_signature wrapper (one aliased_parameter) none None) { alias = Some 1 }

abbrev pub wrapper_close_signature : Sig
wrapper_close_signature = record (plain_signature wrapper none none (Some close_name)) { promises = one field_closed }

abbrev pub main_signature : Sig
main_signature = plain_signature wrapper (one main_parameter) none None

-- `@MustCallAlias Wrapper(@MustCallAlias Resource r)`
abbrev pub wrapper_constructor_declared : Method
wrapper_constructor_declared = record (plain_method wrapper [] wrapper_constructor_signature methods.Ctor (Some constructor_body) (in_source 4 20)) {
  annos = one (must_call_alias (in_source 4 5));
}

-- `void close()`, of the wrapper
abbrev pub wrapper_close_declared : Method
wrapper_close_declared = record (plain_method wrapper (codes "close") wrapper_close_signature methods.Instance (Some close_body) (in_source 6 10)) {
  annos = one (ensures_closed (codes "this.held") (in_source 5 5));
}

-- `static void main(String[] args)`
abbrev pub main_declared : Method
main_declared = plain_method wrapper (codes "main") main_signature methods.Static (Some main_body) (in_source 7 17)

abbrev pub methods_declared : List Method
methods_declared =
    resource_constructor_declared ∷ resource_close_declared ∷ close_quietly_declared ∷ wrapper_constructor_declared ∷ wrapper_close_declared ∷ main_declared ∷ []

-- ---- the parts of the bodies

-- `this`
abbrev pub this_at : Pos → TExpr
this_at pos = record { kind = expressions.This true; vtype = Some (types.Obj wrapper); pos = pos }

-- ---- the constructor

-- `this.held = r`
abbrev pub stores : TExpr
stores = record {
  kind = expressions.Assignment (assigned.Field (expression_number 0) held) (expression_number 1);
  vtype = Some (types.Obj resource);
  pos = in_source 4 67;
}

abbrev pub constructor_variables : List Var
constructor_variables = record { name = codes "r"; vtype = types.Obj resource; annos = none; pos = in_source 4 52 } ∷ []

-- `{ this.held = r; }`
abbrev pub constructing : Body
constructing = record {
  method = wrapper_constructor;
  vars = vector constructor_variables (lit< tt);
  stmts = one (statement_number 0);
  end = in_source 4 72;
  statements = one (evaluates 2 (in_source 4 57));
  expressions = vector (this_at (in_source 4 57) ∷ read 0 (types.Obj resource) (in_source 4 69) ∷ stores ∷ []) (lit< tt);
}

-- ---- `close`

-- `this.held`
abbrev pub field_read : TExpr
field_read = record { kind = expressions.Field (expression_number 0) held; vtype = Some (types.Obj resource); pos = in_source 6 47 }

-- `Resource.closeQuietly(this.held)`
abbrev pub closes_quietly : TExpr
closes_quietly = record {
  kind = expressions.Call (record { target = targets.Static; method = close_quietly; arguments = one (expression_number 1) });
  vtype = None;
  pos = in_source 6 29;
}

-- `{ Resource.closeQuietly(this.held); }`
abbrev pub closing : Body
closing = record {
  method = wrapper_close;
  vars = none;
  stmts = one (statement_number 0);
  end = in_source 6 54;
  statements = one (evaluates 2 (in_source 6 20));
  expressions = vector (this_at (in_source 6 42) ∷ field_read ∷ closes_quietly ∷ []) (lit< tt);
}

-- ---- `main`

-- `args` and `Wrapper h`
abbrev pub main_variables : List Var
main_variables =
    record { name = codes "args"; vtype = types.Arr elements.Str; annos = none; pos = in_source 7 31 }
    ∷ record { name = codes "h"; vtype = types.Obj wrapper; annos = none; pos = in_source 8 17 }
    ∷ []

-- `new Resource()`
abbrev pub new_resource : TExpr
new_resource = record {
  kind = expressions.NewObject (record { class = resource; constructor = resource_constructor; arguments = none });
  vtype = Some (types.Obj resource);
  pos = in_source 8 33;
}

-- `new Wrapper(new Resource())`
abbrev pub new_wrapper : TExpr
new_wrapper = record {
  kind = expressions.NewObject (record { class = wrapper; constructor = wrapper_constructor; arguments = one (expression_number 0) });
  vtype = Some (types.Obj wrapper);
  pos = in_source 8 21;
}

-- `h.close()`
abbrev pub closes_wrapper : TExpr
closes_wrapper = record {
  kind = expressions.Call (record { target = targets.Other (expression_number 2); method = wrapper_close; arguments = none });
  vtype = None;
  pos = in_source 9 11;
}

-- `h = new Wrapper(new Resource())`
abbrev pub wrapper_declarator : Declarator
wrapper_declarator = record { variable = 1; initializer = Some (expression_number 1); pos = in_source 8 17 }

-- `Wrapper h = new Wrapper(new Resource());`
abbrev pub declares_wrapper : TStmt
declares_wrapper = record { kind = statements.LocalDeclaration (one wrapper_declarator); pos = in_source 8 9 }

-- `{ Wrapper h = new Wrapper(new Resource()); h.close(); }`
abbrev pub running : Body
running = record {
  method = main_method;
  vars = vector main_variables (lit< tt);
  stmts = two (statement_number 0) (statement_number 1);
  end = in_source 10 5;
  statements = two declares_wrapper (evaluates 3 (in_source 9 9));
  expressions = vector (new_resource ∷ new_wrapper ∷ read 1 (types.Obj wrapper) (in_source 9 9) ∷ closes_wrapper ∷ []) (lit< tt);
}

-- ---- the program

abbrev pub wrapping : Program
wrapping = record {
  classes = vector classes (lit< tt);
  methods = vector methods_declared (lit< tt);
  fields = one held_declared;
  bodies = vector (constructing ∷ closing ∷ running ∷ []) (lit< tt);
  ignored = two runtime_exception error;
  exact = none;
  names = codes "close" ∷ [];
  core = core_classes;
}
