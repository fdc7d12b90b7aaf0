-- A small program whose own method returns its aliased argument: `main` makes a resource, passes it through `pass`, and closes what it gets
-- back.
--
--     class Main {
--         @MustCallAlias
--         static Resource pass(@MustCallAlias Resource r) { return r; }
--         static void main(String[] args) {
--             Resource r = new Resource();
--             Resource s = pass(r);
--             s.close();
--         }
--     }
use Rattle.std.specs.Prelude.{false, true, Some, None, List, [], ◌∷◌, codes}
use Rattle.std.proofs.Common.{lit<}
use Rattle.rlc_base.specs.declared.place.Pos.{Pos}
use Rattle.program_model.specs.declared.kinds.BodyId.{BodyId}
use Rattle.program_model.specs.declared.kinds.ClassId.{ClassId}
use Rattle.program_model.specs.declared.kinds.ElementType.TheVariants as elements
use Rattle.program_model.specs.declared.kinds.MethodId.{MethodId}
use Rattle.program_model.specs.declared.kinds.MethodKind.TheVariants as methods
use Rattle.program_model.specs.declared.kinds.VType.TheVariants as types
use Rattle.program_model.specs.declared.program.Class.{Class}
use Rattle.program_model.specs.declared.program.Method.{Method}
use Rattle.program_model.specs.declared.program.Program.{Program}
use Rattle.program_model.specs.declared.program.ParamSig.{ParamSig}
use Rattle.program_model.specs.declared.program.RawAnno.{RawAnno}
use Rattle.program_model.specs.declared.program.Sig.{Sig}
use Rattle.program_model.specs.declared.tree.Body.{Body}
use Rattle.program_model.specs.declared.tree.CallTarget.TheVariants as targets
use Rattle.program_model.specs.declared.tree.Declarator.{Declarator}
use Rattle.program_model.specs.declared.tree.ExpressionKind.TheVariants as expressions
use Rattle.program_model.specs.declared.tree.StatementKind.TheVariants as statements
use Rattle.program_model.specs.declared.tree.TExpr.{TExpr}
use Rattle.program_model.specs.declared.tree.TStmt.{TStmt}
use Rattle.program_model.specs.declared.tree.Var.{Var}
use Rattle.safety_examples.specs.OwnerPrograms.{class_number, core_classes, error, exception, expression_number, in_source, main_parameter, method_number, none, object, one, plain_class, plain_method, plain_signature, runtime_exception, statement_number, throwable, two, unchecked, vector}
use Rattle.safety_examples.specs.OwnerPrograms.{evaluates, read, resource, resource_class, resource_close, resource_close_declared, resource_constructor, resource_constructor_declared, resource_parameter}

-- ---- numbers

abbrev pub main_class : ClassId
main_class = class_number 12

abbrev pub pass : MethodId
pass = method_number 2

abbrev pub main_method : MethodId
main_method = method_number 3

abbrev pub pass_body : BodyId
pass_body = record { 0 = 0 }

abbrev pub main_body : BodyId
main_body = record { 0 = 1 }

-- ---- the table of classes

-- the library's: its constructor and its `close` alone
abbrev pub resource_declared : Class
resource_declared = record resource_class { methods = two resource_constructor resource_close }

-- the class of the program
abbrev pub main_declaration : Class
main_declaration = record (plain_class (codes "Main") 12 (Some object) (two object main_class)) {
  pos = in_source 1 7;
  library = false;
  methods = two pass main_method;
}

abbrev pub classes : List Class
classes =
    plain_class (codes "java.lang.Object") 1 None (one object)
    ∷ plain_class (codes "java.lang.String") 1 (Some object) (two object (class_number 1))
    ∷ plain_class (codes "java.lang.Throwable") 2 (Some object) (two object throwable)
    ∷ plain_class (codes "java.lang.Error") 3 (Some throwable) (vector (object ∷ throwable ∷ error ∷ []) (lit< tt))
    ∷ plain_class (codes "java.lang.Exception") 4 (Some throwable) (vector (object ∷ throwable ∷ exception ∷ []) (lit< tt))
    ∷ plain_class (codes "java.lang.RuntimeException") 5 (Some exception) (vector (object ∷ throwable ∷ exception ∷ runtime_exception ∷ []) (lit< tt))
    ∷ unchecked (codes "java.lang.ArithmeticException") 6
    ∷ unchecked (codes "java.lang.ArrayIndexOutOfBoundsException") 7
    ∷ unchecked (codes "java.lang.ClassCastException") 8
    ∷ unchecked (codes "java.lang.NegativeArraySizeException") 9
    ∷ unchecked (codes "java.lang.NullPointerException") 10
    ∷ resource_declared
    ∷ main_declaration
    ∷ []

-- ---- the methods

-- `@MustCallAlias`
abbrev pub must_call_alias : Pos → RawAnno
must_call_alias pos = record { name = codes "MustCallAlias"; args = none; shaped = true; pos = pos }

-- `@MustCallAlias Resource r`
abbrev pub aliased_parameter : ParamSig
aliased_parameter = record resource_parameter { annos = one (must_call_alias (in_source 3 26)) }

-- the result is an alias of the argument
abbrev pub pass_signature : Sig
pass_signature = record (plain_signature main_class (one aliased_parameter) none None) { result = Some (types.Obj resource); alias = Some 1 }

abbrev pub main_signature : Sig
main_signature = plain_signature main_class (one main_parameter) none None

-- `@MustCallAlias static Resource pass(@MustCallAlias Resource r)`
abbrev pub pass_declared : Method
pass_declared = record (plain_method main_class (codes "pass") pass_signature methods.Static (Some pass_body) (in_source 3 21)) {
  annos = one (must_call_alias (in_source 2 5));
}

-- `static void main(String[] args)`
abbrev pub main_declared : Method
main_declared = plain_method main_class (codes "main") main_signature methods.Static (Some main_body) (in_source 4 17)

abbrev pub methods_declared : List Method
methods_declared = resource_constructor_declared ∷ resource_close_declared ∷ pass_declared ∷ main_declared ∷ []

-- ---- `pass`

abbrev pub pass_variables : List Var
pass_variables = record { name = codes "r"; vtype = types.Obj resource; annos = none; pos = in_source 3 50 } ∷ []

-- `return r;`
abbrev pub returns_parameter : TStmt
returns_parameter = record { kind = statements.Return (Some (expression_number 0)); pos = in_source 3 55 }

-- `{ return r; }`
abbrev pub passing : Body
passing = record {
  method = pass;
  vars = vector pass_variables (lit< tt);
  stmts = one (statement_number 0);
  end = in_source 3 65;
  statements = one returns_parameter;
  expressions = one (read 0 (types.Obj resource) (in_source 3 62));
}

-- ---- `main`

-- `args`, `Resource r` and `Resource s`
abbrev pub main_variables : List Var
main_variables =
    record { name = codes "args"; vtype = types.Arr elements.Str; annos = none; pos = in_source 4 31 }
    ∷ record { name = codes "r"; vtype = types.Obj resource; annos = none; pos = in_source 5 18 }
    ∷ record { name = codes "s"; vtype = types.Obj resource; annos = none; pos = in_source 6 18 }
    ∷ []

-- `new Resource()`
abbrev pub new_resource : TExpr
new_resource = record {
  kind = expressions.NewObject (record { class = resource; constructor = resource_constructor; arguments = none });
  vtype = Some (types.Obj resource);
  pos = in_source 5 22;
}

-- `pass(r)`
abbrev pub passes : TExpr
passes = record {
  kind = expressions.Call (record { target = targets.Static; method = pass; arguments = one (expression_number 1) });
  vtype = Some (types.Obj resource);
  pos = in_source 6 22;
}

-- `s.close()`
abbrev pub closes_alias : TExpr
closes_alias = record {
  kind = expressions.Call (record { target = targets.Other (expression_number 3); method = resource_close; arguments = none });
  vtype = None;
  pos = in_source 7 11;
}

-- `r = new Resource()`
abbrev pub resource_declarator : Declarator
resource_declarator = record { variable = 1; initializer = Some (expression_number 0); pos = in_source 5 18 }

-- `s = pass(r)`
abbrev pub alias_declarator : Declarator
alias_declarator = record { variable = 2; initializer = Some (expression_number 2); pos = in_source 6 18 }

-- `Resource r = new Resource();` and `Resource s = pass(r);`
abbrev pub declares_resource : TStmt
declares_resource = record { kind = statements.LocalDeclaration (one resource_declarator); pos = in_source 5 9 }

abbrev pub declares_alias : TStmt
declares_alias = record { kind = statements.LocalDeclaration (one alias_declarator); pos = in_source 6 9 }

-- `{ Resource r = new Resource(); Resource s = pass(r); s.close(); }`
abbrev pub running : Body
running = record {
  method = main_method;
  vars = vector main_variables (lit< tt);
  stmts = vector (statement_number 0 ∷ statement_number 1 ∷ statement_number 2 ∷ []) (lit< tt);
  end = in_source 8 5;
  statements = vector (declares_resource ∷ declares_alias ∷ evaluates 4 (in_source 7 9) ∷ []) (lit< tt);
  expressions = vector (new_resource ∷ read 1 (types.Obj resource) (in_source 6 27) ∷ passes ∷ read 2 (types.Obj resource) (in_source 7 9) ∷ closes_alias ∷ []) (lit< tt);
}

-- ---- the program

abbrev pub aliasing : Program
aliasing = record {
  classes = vector classes (lit< tt);
  methods = vector methods_declared (lit< tt);
  fields = none;
  bodies = two passing running;
  ignored = two runtime_exception error;
  exact = none;
  names = codes "close" ∷ [];
  core = core_classes;
}
