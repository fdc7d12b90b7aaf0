-- The typed statements of a body that is written pass no `this`: the arguments of its super call stand where there is none.
use Rattle.std.proofs.Common.{◌≡◌, true, false, Option, Some, None, List, [], ◌++◌, map, refl, sym, subst, true≢false}
use Rattle.program_model.specs.declared.kinds.ClassId.{ClassId}
use Rattle.program_model.specs.declared.tree.Var.{Var}
use Rattle.java_typed_trees.specs.StatementTrees.{statements}
use Rattle.acceptance_laws.specs.Surroundings.{Surroundings}
use Rattle.acceptance_laws.proofs.Goodness.{nil_right}
use Rattle.acceptance_laws.specs.StatementCases.{statements_cases}
use Rattle.acceptance_laws.specs.StatementTrees.{statement_trees}
use Rattle.acceptance_laws.specs.BodyVariables.{all_variables, parameter_variables}
use Rattle.acceptance_laws.specs.Declarations.{BodyVariable, variable_in}
use Rattle.acceptance_laws.specs.Scopes.{HaveTypesFrom, IsInMethod, declaring}
use Rattle.acceptance_laws.proofs.StatementTyping.{types_before}
use Rattle.acceptance_laws.proofs.Values.{context_of}
use Rattle.acceptance_laws.specs.SourceClassesMembers.{Environment}
use Rattle.acceptance_laws.specs.Parameters.{parameters_cases}
use Rattle.acceptance_laws.specs.FieldInitializers.{initializer_statements}
use Rattle.acceptance_laws.specs.Bodies.{SourceBody, argument_surroundings, body_cases, body_context, body_trees, body_variables_in, declared_exceptions, head_cases, head_statements, locals_in}
use Rattle.acceptance_laws.specs.SuperCalls.{SuperCall, super_call_statements}
use Rattle.acceptance_laws.proofs.FieldOrders.{are_initializers}
use Rattle.acceptance_laws.proofs.PlainStatements.{statements_plain}
use Rattle.acceptance_laws.specs.BodiesOfTables.{HasTypedTable}
use Rattle.acceptance_laws.proofs.BodyTyping.{variables_declarable}
use Rattle.acceptance_laws.proofs.ParameterTyping.{AreParameters, have_their_types, numbered_declarable, parameters_in_scope}
use Rattle.acceptance_laws.proofs.SuperCallTyping.{super_call_typed}
use Rattle.file_condition_laws.specs.TreesWithoutThis.{TreesPassNoThis}
use Rattle.file_condition_laws.proofs.Trees.{both_pass, initializers_pass, plain_pass, typed_pass}

module _ (e : Environment) (b : SourceBody) (h : HasTypedTable e b) (variables : List Var) (are : map variable_in variables ≡ body_variables_in e b) where
  abbrev of_parameters : List BodyVariable
  of_parameters = parameter_variables b.body.parameters b.signature.sig.params.items

  abbrev of_statements : List BodyVariable
  of_statements = all_variables (declaring (body_context e b).surroundings) b.body.statements

  abbrev statements_none : Type 0
  statements_none = statements_cases (body_context e b) b.body.statements ≡ []

  in_scope : AreParameters variables (locals_in b)
  in_scope =
      parameters_in_scope variables 0 b.body.parameters b.signature.sig.params.items
      (types_before variables 0 of_parameters of_statements (subst (λ (xs : List BodyVariable). HaveTypesFrom variables 0 xs) are (have_their_types variables)))

  -- the arguments of a super call stand where no class is that of `this`
  before_this : statements_none → IsInMethod (argument_surroundings e b) variables None b.signature
  before_this none = record {
    scope = record {
      members = h.types.members;
      declarable = numbered_declarable e.program variables (variables_declarable e b h variables are none);
      locals = in_scope.variables_of;
      has_owner = λ is. absurd (true≢false (sym is));
      not_string = h.written.not_string;
      written = h.types.written;
    };
    locals = in_scope.typed;
    result = (h.table.methods b.method b.signature h.written.known).signature.result;
    types = h.types;
  }

  head_passes : statements_none → (call : Option SuperCall) → b.body.super_call ≡ call → TreesPassNoThis (statements (head_statements e b call))
  head_passes none None is = tt
  head_passes none (Some call) is =
      let s : Surroundings = argument_surroundings e b in
      let covered : List ClassId = declared_exceptions b in
      both_pass (super_call_statements s call) (initializer_statements e b.class' covered)
      (typed_pass (context_of variables None b.signature s) refl b.signature (statements (super_call_statements s call))
      (super_call_typed variables None b.signature s (before_this none) (h.written.constructor call is) h.written.own call))
      (initializers_pass (initializer_statements e b.class' covered) (are_initializers e b.class' covered))

  pub body_passes : body_cases e b ≡ [] → TreesPassNoThis (statements (body_trees e b))
  body_passes none =
      let c = body_context e b in
      let before = parameters_cases b.body.parameters b.signature.sig.params.items ++ head_cases e b b.body.super_call in
      let none_inner = nil_right before (statements_cases c b.body.statements) none in
      both_pass (head_statements e b b.body.super_call) (statement_trees c b.body.statements)
      (head_passes none_inner b.body.super_call refl) (plain_pass (statements (statement_trees c b.body.statements)) (statements_plain c b.body.statements))
