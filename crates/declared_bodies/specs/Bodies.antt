-- The bodies of methods and constructors as they are declared (JLS 8.4.7, 8.8.7), and with what those of constructors begin.
use Rattle.std.specs.Prelude.{Bool, true, false, Option, Some, None, List, [], ◌∷◌, ◌++◌, map, option_map}
use Rattle.std.specs.List.{flat_map}
use Rattle.rlc_base.specs.declared.place.Pos.{Pos}
use Rattle.rlc_base.specs.declared.faults.Refusal.{Refusal}
use Rattle.program_model.specs.declared.kinds.ClassId.{ClassId}
use Rattle.program_model.specs.declared.kinds.MethodId.{MethodId}
use Rattle.program_model.specs.declared.kinds.MethodKind.{MethodKind}
use Rattle.program_model.specs.declared.kinds.MethodKind.TheVariants as methods
use Rattle.program_model.specs.declared.program.Method.{Method}
use Rattle.program_model.specs.Lookups.{method_at}
use Rattle.java_syntax.specs.declared.declaration_trees.ConstructorBody.{ConstructorBody}
use Rattle.java_syntax.specs.declared.declaration_trees.Param.{Param}
use Rattle.java_syntax.specs.declared.statement_trees.Block.{Block}
use Rattle.java_syntax.specs.DeclarationTrees.{super_call_of}
use Rattle.java_syntax.specs.StatementTrees.{BlockTree, Braces, StmtTrees, block_of, no_statement, statements, stmt_of}
use Rattle.class_declarations.specs.Members.{Written, MethodOf, ConstructorOf, ImpliedConstructor, ConstantOf}
use Rattle.java_typed_trees.specs.declared.scope.Local.{Local}
use Rattle.java_typed_trees.specs.StatementTrees.{StmtTree}
use Rattle.java_call_rules.specs.Surroundings.{Surroundings}
use Rattle.body_variables.specs.BodyVariables.{body_variables}
use Rattle.body_variables.specs.Declarations.{BodyVariable}
use Rattle.field_initializers.specs.SourceClassesMembers.{Environment, numbered_methods, surroundings_in}
use Rattle.field_initializers.specs.Parameters.{parameters}
use Rattle.field_initializers.specs.SourceClasses.{SourceClass, source_class_of}
use Rattle.field_initializers.specs.FieldInitializers.{initializer_statements, initializers_cases}
use Rattle.declared_bodies.specs.declared.body_trees.BodyTree.{BodyTree}
use Rattle.declared_bodies.specs.declared.declared_bodies.DeclaredBody.{DeclaredBody}
use Rattle.declared_bodies.specs.SuperCalls.{SuperCall, super_call_at, super_call_cases, super_call_in, super_call_statements}

-- ---- what is written

-- a body as it is written. `super_call` is that of a constructor
pub record WrittenBody : Type 0 where
  pub super_call : Option SuperCall
  pub parameters : List Param
  pub statements : StmtTrees
  -- the closing brace, and the constructor's place where none is written
  pub end : Pos

abbrev pub written_body_of : BodyTree → WrittenBody
written_body_of b = record { super_call = option_map super_call_in b.super_call; parameters = b.parameters.now; statements = statements (map stmt_of b.statements.now); end = b.end }

abbrev pub statements_in : BlockTree → StmtTrees
statements_in (Braces ts place end) = ts

abbrev pub end_in : BlockTree → Pos
end_in (Braces ts place end) = end

abbrev pub method_body : List Param → Option Block → Option WrittenBody
method_body ws None = None
method_body ws (Some b) = Some (record { super_call = None; parameters = ws; statements = statements_in (block_of b); end = end_in (block_of b) })

abbrev pub constructor_body : Pos → List Param → Option ConstructorBody → Option WrittenBody
constructor_body place ws None = None
constructor_body place ws (Some b) = Some (record { super_call = Some (super_call_at place (option_map super_call_of b.super_call)); parameters = ws; statements = statements_in (block_of b.block); end = end_in (block_of b.block) })

-- that of the constructor of a class that declares none (JLS 8.8.9)
abbrev pub implied_body : Pos → WrittenBody
implied_body place = record { super_call = Some (super_call_at place None); parameters = []; statements = no_statement; end = place }

-- the body of what is written, if it has one
abbrev pub body_of : Written → Option WrittenBody
body_of (MethodOf m) = method_body m.parameters.items m.body
body_of (ConstructorOf k) = constructor_body k.name.pos k.parameters.items k.body
body_of (ImpliedConstructor place) = Some (implied_body place)
body_of (ConstantOf f v) = None

-- a body of the program, with the method or constructor that it is of
pub record SourceBody : Type 0 where
  pub class' : SourceClass
  pub method : MethodId
  pub signature : Method
  pub body : WrittenBody

abbrev pub source_body_of : DeclaredBody → SourceBody
source_body_of b = record { class' = source_class_of b.class; method = b.method; signature = b.signature.now; body = written_body_of b.body }

abbrev pub source_body : SourceClass → MethodId → Option Method → Option WrittenBody → List SourceBody
source_body c m None b = []
source_body c m (Some x) None = []
source_body c m (Some x) (Some b) = record { class' = c; method = m; signature = x; body = b } ∷ []

abbrev pub bodies_among : Environment → SourceClass → List (MethodId × Written) → List SourceBody
bodies_among e c ws = flat_map (λ w. source_body c w.0 (method_at e.program w.0) (body_of w.1)) ws

abbrev pub bodies_in : Environment → SourceClass → List SourceBody
bodies_in e c = bodies_among e c (numbered_methods e c)

-- all bodies of the program: by class order, and in the order of the text
abbrev pub all_bodies : Environment → List SourceClass → List SourceBody
all_bodies e classes = flat_map (bodies_in e) classes

-- ---- where the statements of a body stand

abbrev pub has_this : MethodKind → Bool
has_this methods.Instance = true
has_this methods.Static = false
has_this methods.Ctor = true
has_this methods.Constant = false

-- final fields are assigned in the constructors of their class (JLS 8.3.1.2)
abbrev pub initialized_in : ClassId → MethodKind → Option ClassId
initialized_in c methods.Ctor = Some c
initialized_in c methods.Instance = None
initialized_in c methods.Static = None
initialized_in c methods.Constant = None

abbrev pub locals_in : SourceBody → List Local
locals_in b = parameters b.body.parameters b.signature.sig.params.items

-- the throws clause
abbrev pub declared_exceptions : SourceBody → List ClassId
declared_exceptions b = b.signature.sig.throws.items

-- where the arguments of the super call stand: there is no `this` (JLS 8.8.7.1)
abbrev pub argument_surroundings : Environment → SourceBody → Surroundings
argument_surroundings e b = surroundings_in e b.class' false (Some b.class'.class') (locals_in b) (declared_exceptions b)

-- ---- with what a constructor begins (JLS 8.8.7): the super call and the initialisers of the instance fields

abbrev pub head_statements : Environment → SourceBody → Option SuperCall → List StmtTree
head_statements e b None = []
head_statements e b (Some call) = super_call_statements (argument_surroundings e b) call ++ initializer_statements e b.class' (declared_exceptions b)

abbrev pub head_cases : Environment → SourceBody → Option SuperCall → List Refusal
head_cases e b None = []
head_cases e b (Some call) = super_call_cases (argument_surroundings e b) call ++ initializers_cases e b.class' (declared_exceptions b)

-- ---- the whole body

-- its variables, whose types depend on the program and the compilation unit alone
abbrev pub body_variables_in : Environment → SourceBody → List BodyVariable
body_variables_in e b = body_variables (surroundings_in e b.class' false None [] []) b.body.parameters b.signature.sig.params.items b.body.statements
