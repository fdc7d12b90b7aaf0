-- The bodies of methods and constructors (JLS 8.4.7, 8.8.7): their typed statements and the refusals in them.
pub use Rattle.declared_bodies.specs.Bodies.{WrittenBody, written_body_of, statements_in, end_in, method_body, constructor_body, implied_body, body_of, SourceBody, source_body_of, source_body, bodies_among, bodies_in, all_bodies, has_this, initialized_in, locals_in, declared_exceptions, argument_surroundings, head_statements, head_cases, body_variables_in}
use Rattle.std.specs.Prelude.{false, List, ◌++◌, length}
use Rattle.rlc_base.specs.declared.faults.Refusal.{Refusal}
use Rattle.java_typed_trees.specs.StatementTrees.{StmtTree}
use Rattle.java_typed_statements.specs.Contexts.{StatementContext}
use Rattle.java_typed_statements.specs.StatementCases.{statements_cases}
use Rattle.java_typed_statements.specs.StatementTrees.{statement_trees}
use Rattle.declared_bodies.specs.SourceClassesMembers.{Environment, surroundings_in}
use Rattle.declared_bodies.specs.Parameters.{parameters_cases}

abbrev pub body_context : Environment → SourceBody → StatementContext
body_context e b = record { surroundings = surroundings_in e b.class' (has_this b.signature.kind) (initialized_in b.class'.class' b.signature.kind) (locals_in b) (declared_exceptions b); result = b.signature.sig.result; in_loop = false; next_variable = length (locals_in b) }

-- its typed statements
abbrev pub body_trees : Environment → SourceBody → List StmtTree
body_trees e b = head_statements e b b.body.super_call ++ statement_trees (body_context e b) b.body.statements

abbrev pub body_cases : Environment → SourceBody → List Refusal
body_cases e b = parameters_cases b.body.parameters b.signature.sig.params.items ++ head_cases e b b.body.super_call ++ statements_cases (body_context e b) b.body.statements
