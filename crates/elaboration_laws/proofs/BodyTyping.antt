-- The body of a method or constructor in which nothing is refused is typed, and its variables are those that it has.
use Rattle.std.proofs.Common.{◌≡◌, ◌+◌, Bool, true, false, Option, Some, None, List, [], ◌++◌, All, length, map, refl, sym, subst, ap, arith}
use Rattle.std.proofs.lemmas.List.Elements.{All-append, All-nil}
use Rattle.program_model.specs.declared.kinds.ClassId.{ClassId}
use Rattle.program_model.specs.declared.program.Program.{Program}
use Rattle.program_model.specs.declared.tree.Var.{Var}
use Rattle.program_model.specs.Typing.{IsDeclarable, when_true}
use Rattle.program_model.specs.Validity.{HasParameters}
use Rattle.java_typed_trees.specs.declared.scope.Local.{Local}
use Rattle.java_typed_trees.specs.StatementTrees.{statements}
use Rattle.java_call_rules.specs.Surroundings.{Surroundings}
use Rattle.java_variable_rules.proofs.VariableLaws.{IsTyped}
use Rattle.java_typing_laws.proofs.Goodness.{nil_left, nil_right}
use Rattle.java_typing_laws.specs.StatementCases.{statements_cases}
use Rattle.java_typing_laws.specs.StatementTrees.{statement_trees}
use Rattle.java_typing_laws.specs.BodyVariables.{all_variables, parameter_variables}
use Rattle.java_elaboration.specs.Declarations.{BodyVariable, variable_in}
use Rattle.java_typing_laws.specs.TypingContexts.{IsVariableOf}
use Rattle.java_typing_laws.proofs.Conversions.{no_test}
use Rattle.java_typing_laws.specs.Scopes.{HaveTypesFrom, IsInMethod, declaring}
use Rattle.java_typing_laws.specs.TypedStatements.{AreTypedStatementTrees}
use Rattle.java_typing_laws.proofs.StatementTyping.{append_typed, statements_typed, types_before, types_behind}
use Rattle.java_typing_laws.proofs.VariableLaws.{statements_declare}
use Rattle.java_elaboration.specs.SourceClassesMembers.{Environment, surroundings_in}
use Rattle.java_typing_laws.specs.Parameters.{parameters_cases}
use Rattle.java_typing_laws.specs.FieldInitializers.{initializer_statements, initializer_surroundings, initializers_cases}
use Rattle.java_elaboration.specs.Bodies.{SourceBody, argument_surroundings, body_cases, body_context, body_trees, body_variables_in, declared_exceptions, has_this, head_cases, head_statements, initialized_in, locals_in}
use Rattle.java_typing_laws.specs.SuperCalls.{SuperCall, super_call_cases, super_call_statements}
use Rattle.elaboration_laws.specs.BodiesOfTables.{HasTypedTable, owner_of, typing_context}
use Rattle.elaboration_laws.proofs.InitializerTyping.{numbered_typed}
use Rattle.elaboration_laws.proofs.ParameterTyping.{AreParameters, all_declarable, has_parameters, have_their_types, numbered_declarable, parameters_counted, parameters_declarable, parameters_in_scope}
use Rattle.elaboration_laws.proofs.SuperCallTyping.{super_call_typed}

module _ (e : Environment) (b : SourceBody) (h : HasTypedTable e b) (variables : List Var) (are : map variable_in variables ≡ body_variables_in e b) where
  abbrev p : Program
  p = e.program

  -- ---- variables

  abbrev of_parameters : List BodyVariable
  of_parameters = parameter_variables b.body.parameters b.signature.sig.params.items

  abbrev of_statements : List BodyVariable
  of_statements = all_variables (declaring (body_context e b).surroundings) b.body.statements

  abbrev statements_none : Type 0
  statements_none = statements_cases (body_context e b) b.body.statements ≡ []

  pub variables_declarable : statements_none → All (λ x. IsDeclarable p x.vtype) variables
  variables_declarable none =
      let own = statements_declare (body_context e b) h.types b.body.statements none in
      let params = parameters_declarable p b.body.parameters b.signature.sig.params.items (h.table.methods b.method b.signature h.written.known).signature.params in
      let all = All-append (λ (x : BodyVariable). IsDeclarable p x.vtype) of_parameters of_statements params own.declarable in
      all_declarable p variables (subst (λ (xs : List BodyVariable). All (λ (x : BodyVariable). IsDeclarable p x.vtype) xs) (sym are) all)

  pub body_has_parameters : HasParameters variables b.signature.sig.params.items
  body_has_parameters = has_parameters variables b.body.parameters b.signature.sig.params.items of_statements h.written.parameters are

  types : HaveTypesFrom variables 0 (of_parameters ++ of_statements)
  types = subst (λ (xs : List BodyVariable). HaveTypesFrom variables 0 xs) are (have_their_types variables)

  in_scope : AreParameters variables (locals_in b)
  in_scope = parameters_in_scope variables 0 b.body.parameters b.signature.sig.params.items (types_before variables 0 of_parameters of_statements types)

  types_of_statements : HaveTypesFrom variables (length (locals_in b)) of_statements
  types_of_statements =
      let same : 0 + length (locals_in b) ≡ length (locals_in b) = omega arith in
      types_behind variables 0 (length (locals_in b)) (length (locals_in b)) of_parameters of_statements (parameters_counted 0 b.body.parameters b.signature.sig.params.items) same types

  -- ---- scopes

  abbrev IsHere : Surroundings → Type 0
  IsHere s = IsInMethod s variables (owner_of b) b.signature

  here : statements_none → (this : Bool) (initialized : Option ClassId) (locals : List Local) → AreParameters variables locals → (covered : List ClassId) → (this ≡ true → owner_of b ≡ Some b.class'.class') → IsHere (surroundings_in e b.class' this initialized locals covered)
  here none this initialized locals known covered owner = record {
    scope = record {
      members = h.types.members;
      declarable = numbered_declarable p variables (variables_declarable none);
      locals = known.variables_of;
      has_owner = owner;
      not_string = h.written.not_string;
      written = h.types.written;
    };
    locals = known.typed;
    result = (h.table.methods b.method b.signature h.written.known).signature.result;
    types = h.types;
  }

  owner_is : has_this b.signature.kind ≡ true → owner_of b ≡ Some b.class'.class'
  owner_is there = ap (λ t. when_true t b.class'.class') there

  no_locals : AreParameters variables []
  no_locals = record { variables_of = All-nil (IsVariableOf variables); typed = All-nil (λ y. IsTyped y.variable.static_type) }

  -- ---- the head of a constructor

  head_typed : statements_none → (call : Option SuperCall) → b.body.super_call ≡ call → head_cases e b call ≡ [] → AreTypedStatementTrees (typing_context e b variables) b.signature (statements (head_statements e b call))
  head_typed none_statements None is none = tt
  head_typed none_statements (Some call) is none =
      let constructor = h.written.constructor call is in
      let this : has_this b.signature.kind ≡ true = ap has_this constructor in
      let covered : List ClassId = declared_exceptions b in
      let arguments : Surroundings = argument_surroundings e b in
      let fields : Surroundings = initializer_surroundings e b.class' covered in
      let first = super_call_typed variables (owner_of b) b.signature arguments (here none_statements false (Some b.class'.class') (locals_in b) in_scope covered (λ no. no_test no)) constructor h.written.own call in
      let second = numbered_typed variables (owner_of b) b.signature fields (here none_statements true (Some b.class'.class') [] no_locals covered (λ same. owner_is this)) constructor h.written.own refl b.class' refl (nil_right (super_call_cases arguments call) (initializers_cases e b.class' covered) none) in
      append_typed (typing_context e b variables) b.signature (super_call_statements arguments call) (initializer_statements e b.class' covered) first second

  -- ---- the whole body

  pub body_typed : body_cases e b ≡ [] → AreTypedStatementTrees (typing_context e b variables) b.signature (statements (body_trees e b))
  body_typed none =
      let of_params = parameters_cases b.body.parameters b.signature.sig.params.items in
      let head = head_cases e b b.body.super_call in
      let inner = statements_cases (body_context e b) b.body.statements in
      let none_inner = nil_right (of_params ++ head) inner none in
      let none_head = nil_right of_params head (nil_left (of_params ++ head) inner none) in
      let at = here none_inner (has_this b.signature.kind) (initialized_in b.class'.class' b.signature.kind) (locals_in b) in_scope (declared_exceptions b) owner_is in
      let first = head_typed none_inner b.body.super_call refl none_head in
      let second = statements_typed variables (owner_of b) b.signature (body_context e b) at refl b.body.statements types_of_statements none_inner in
      append_typed (typing_context e b variables) b.signature (head_statements e b b.body.super_call) (statement_trees (body_context e b) b.body.statements) first second

  pub body_variables_declarable : body_cases e b ≡ [] → All (λ x. IsDeclarable p x.vtype) variables
  body_variables_declarable none = variables_declarable (nil_right (parameters_cases b.body.parameters b.signature.sig.params.items ++ head_cases e b b.body.super_call) (statements_cases (body_context e b) b.body.statements) none)
