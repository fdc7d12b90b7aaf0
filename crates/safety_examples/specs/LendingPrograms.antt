-- A small program whose own method promises something of a parameter that it is lent: `shut` closes its argument, and `main` makes a
-- resource and has it closed so.
--
--     class Main {
--         @EnsuresCalledMethods(value = "#1", methods = "close")
--         static void shut(Resource r) { r.close(); }
--         static void main(String[] args) {
--             Resource r = new Resource();
--             shut(r);
--         }
--     }
use Rattle.std.specs.Prelude.{false, Some, None, List, [], ◌∷◌, codes}
use Rattle.std.proofs.Common.{lit<}
use Rattle.program_model.specs.declared.kinds.BodyId.{BodyId}
use Rattle.program_model.specs.declared.kinds.ClassId.{ClassId}
use Rattle.program_model.specs.declared.kinds.ElementType.TheVariants as elements
use Rattle.program_model.specs.declared.kinds.MethodId.{MethodId}
use Rattle.program_model.specs.declared.kinds.MethodKind.TheVariants as methods
use Rattle.program_model.specs.declared.kinds.VType.TheVariants as types
use Rattle.program_model.specs.declared.program.Class.{Class}
use Rattle.program_model.specs.declared.program.Method.{Method}
use Rattle.program_model.specs.declared.program.Program.{Program}
use Rattle.program_model.specs.declared.program.Sig.{Sig}
use Rattle.program_model.specs.declared.tree.Body.{Body}
use Rattle.program_model.specs.declared.tree.CallTarget.TheVariants as targets
use Rattle.program_model.specs.declared.tree.Declarator.{Declarator}
use Rattle.program_model.specs.declared.tree.ExpressionKind.TheVariants as expressions
use Rattle.program_model.specs.declared.tree.StatementKind.TheVariants as statements
use Rattle.program_model.specs.declared.tree.TExpr.{TExpr}
use Rattle.program_model.specs.declared.tree.TStmt.{TStmt}
use Rattle.program_model.specs.declared.tree.Var.{Var}
use Rattle.safety_examples.specs.OwnerPrograms.{class_number, core_classes, error, exception, expression_number, in_source, main_parameter, method_number, none, object, one, plain_class, plain_method, plain_signature, runtime_exception, statement_number, throwable, two, unchecked, vector}
use Rattle.safety_examples.specs.OwnerPrograms.{ensures_closed, evaluates, parameter_closed, read, resource, resource_class, resource_close, resource_close_declared, resource_constructor, resource_constructor_declared, resource_parameter}

-- ---- numbers

abbrev pub main_class : ClassId
main_class = class_number 12

abbrev pub shut : MethodId
shut = method_number 2

abbrev pub main_method : MethodId
main_method = method_number 3

abbrev pub shut_body : BodyId
shut_body = record { 0 = 0 }

abbrev pub main_body : BodyId
main_body = record { 0 = 1 }

-- ---- the table of classes

-- the library's: its constructor and its `close` alone
abbrev pub resource_declared : Class
resource_declared = record resource_class { methods = two resource_constructor resource_close }

-- the class of the program
abbrev pub main_declaration : Class
main_declaration = record (plain_class (codes "Main") 12 (Some object) (two object main_class)) {
  pos = in_source 1 7;
  library = false;
  methods = two shut main_method;
}

abbrev pub classes : List Class
classes =
    plain_class (codes "java.lang.Object") 1 None (one object)
    ∷ plain_class (codes "java.lang.String") 1 (Some object) (two object (class_number 1))
    ∷ plain_class (codes "java.lang.Throwable") 2 (Some object) (two object throwable)
    ∷ plain_class (codes "java.lang.Error") 3 (Some throwable) (vector (object ∷ throwable ∷ error ∷ []) (lit< tt))
    ∷ plain_class (codes "java.lang.Exception") 4 (Some throwable) (vector (object ∷ throwable ∷ exception ∷ []) (lit< tt))
    ∷ plain_class (codes "java.lang.RuntimeException") 5 (Some exception) (vector (object ∷ throwable ∷ exception ∷ runtime_exception ∷ []) (lit< tt))
    ∷ unchecked (codes "java.lang.ArithmeticException") 6
    ∷ unchecked (codes "java.lang.ArrayIndexOutOfBoundsException") 7
    ∷ unchecked (codes "java.lang.ClassCastException") 8
    ∷ unchecked (codes "java.lang.NegativeArraySizeException") 9
    ∷ unchecked (codes "java.lang.NullPointerException") 10
    ∷ resource_declared
    ∷ main_declaration
    ∷ []

-- ---- the methods

-- `close` was called on the parameter
abbrev pub shut_signature : Sig
shut_signature = record (plain_signature main_class (one resource_parameter) none None) { promises = one parameter_closed }

abbrev pub main_signature : Sig
main_signature = plain_signature main_class (one main_parameter) none None

-- `@EnsuresCalledMethods(value = "#1", methods = "close") static void shut(Resource r)`
abbrev pub shut_declared : Method
shut_declared = record (plain_method main_class (codes "shut") shut_signature methods.Static (Some shut_body) (in_source 3 17)) {
  annos = one (ensures_closed (codes "#1") (in_source 2 5));
}

-- `static void main(String[] args)`
abbrev pub main_declared : Method
main_declared = plain_method main_class (codes "main") main_signature methods.Static (Some main_body) (in_source 4 17)

abbrev pub methods_declared : List Method
methods_declared = resource_constructor_declared ∷ resource_close_declared ∷ shut_declared ∷ main_declared ∷ []

-- ---- `shut`

abbrev pub shut_variables : List Var
shut_variables = record { name = codes "r"; vtype = types.Obj resource; annos = none; pos = in_source 3 31 } ∷ []

-- `r.close()`
abbrev pub closes_parameter : TExpr
closes_parameter = record {
  kind = expressions.Call (record { target = targets.Other (expression_number 0); method = resource_close; arguments = none });
  vtype = None;
  pos = in_source 3 38;
}

-- `{ r.close(); }`
abbrev pub shutting : Body
shutting = record {
  method = shut;
  vars = vector shut_variables (lit< tt);
  stmts = one (statement_number 0);
  end = in_source 3 47;
  statements = one (evaluates 1 (in_source 3 36));
  expressions = two (read 0 (types.Obj resource) (in_source 3 36)) closes_parameter;
}

-- ---- `main`

-- `args` and `Resource r`
abbrev pub main_variables : List Var
main_variables =
    record { name = codes "args"; vtype = types.Arr elements.Str; annos = none; pos = in_source 4 31 }
    ∷ record { name = codes "r"; vtype = types.Obj resource; annos = none; pos = in_source 5 18 }
    ∷ []

-- `new Resource()`
abbrev pub new_resource : TExpr
new_resource = record {
  kind = expressions.NewObject (record { class = resource; constructor = resource_constructor; arguments = none });
  vtype = Some (types.Obj resource);
  pos = in_source 5 22;
}

-- `shut(r)`
abbrev pub shuts : TExpr
shuts = record {
  kind = expressions.Call (record { target = targets.Static; method = shut; arguments = one (expression_number 1) });
  vtype = None;
  pos = in_source 6 9;
}

-- `r = new Resource()`
abbrev pub resource_declarator : Declarator
resource_declarator = record { variable = 1; initializer = Some (expression_number 0); pos = in_source 5 18 }

-- `Resource r = new Resource();`
abbrev pub declares_resource : TStmt
declares_resource = record { kind = statements.LocalDeclaration (one resource_declarator); pos = in_source 5 9 }

-- `{ Resource r = new Resource(); shut(r); }`
abbrev pub running : Body
running = record {
  method = main_method;
  vars = vector main_variables (lit< tt);
  stmts = two (statement_number 0) (statement_number 1);
  end = in_source 7 5;
  statements = two declares_resource (evaluates 2 (in_source 6 9));
  expressions = vector (new_resource ∷ read 1 (types.Obj resource) (in_source 6 14) ∷ shuts ∷ []) (lit< tt);
}

-- ---- the program

abbrev pub lending : Program
lending = record {
  classes = vector classes (lit< tt);
  methods = vector methods_declared (lit< tt);
  fields = none;
  bodies = two shutting running;
  ignored = two runtime_exception error;
  exact = none;
  names = codes "close" ∷ [];
  core = core_classes;
}
