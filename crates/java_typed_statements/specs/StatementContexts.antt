-- Where the parts of a statement stand, and what is in scope behind a statement (JLS 6.3).
use Rattle.std.specs.Prelude.{◌+◌, None, List, [], ◌++◌, length}
use Rattle.rlc_base.specs.declared.place.Pos.{Pos}
use Rattle.java_syntax.specs.declared.names.Name.{Name}
use Rattle.java_syntax.specs.AnnotationTrees.{ModifierTree}
use Rattle.java_syntax.specs.StatementTrees.{BlockTree, CatchTrees, ForStartTree, ResourceTree, StmtTree}
use Rattle.java_syntax.specs.StatementTrees as syntax
use Rattle.java_typed_trees.specs.declared.scope.Local.{Local}
use Rattle.java_statement_rules.specs.declared.completion.Completion.{Completion}
use Rattle.java_statement_rules.specs.CatchClauses.{is_final_parameter, parameter_type}
use Rattle.java_statement_rules.specs.Contexts.{StatementContext, covering, in_a_loop, locals_of, numbered_from, program_of, with_local, with_locals}
use Rattle.java_statement_rules.specs.DeclaredVariables.{local_variable}
use Rattle.java_statement_scopes.specs.Clauses.{caught_by_all, swallowed}
use Rattle.java_statement_parts.specs.Declarations.{locals_declared}
use Rattle.java_statement_parts.specs.Heads.{started_locals}
use Rattle.java_statement_parts.specs.Resources.{resource_locals}
use Rattle.java_statement_scopes.specs.VariableCounts.{block_count, catches_count, start_count, variable_count}

-- ---- behind a statement

-- the variables that are in scope behind a statement, but not before it: those of a declaration
abbrev pub new_locals : StatementContext → StmtTree → List Local
new_locals c (syntax.BlockOf b) = []
new_locals c (syntax.Empty place) = []
new_locals c (syntax.LocalOf l place) = locals_declared c l place
new_locals c (syntax.ExpressionOf e place) = []
new_locals c (syntax.If e a b place) = []
new_locals c (syntax.While e body place) = []
new_locals c (syntax.DoWhile body e place) = []
new_locals c (syntax.For start e updates body place) = []
new_locals c (syntax.Try rs b cs last place) = []
new_locals c (syntax.Return e place) = []
new_locals c (syntax.Throw e place) = []
new_locals c (syntax.Break place) = []
new_locals c (syntax.Continue place) = []

abbrev pub after : StatementContext → StmtTree → StatementContext
after c t = with_locals c (locals_of c ++ new_locals c t) (c.next_variable + variable_count t)

-- ---- the parts of `if` and of loops

abbrev pub else_context : StatementContext → StmtTree → StatementContext
else_context c a = numbered_from (c.next_variable + variable_count a) c

-- behind the first part of a `for`
abbrev pub behind_start : StatementContext → ForStartTree → Pos → StatementContext
behind_start c start place = with_locals c (locals_of c ++ started_locals c start place) (c.next_variable + start_count start)

abbrev pub for_body_context : StatementContext → ForStartTree → Pos → StatementContext
for_body_context c start place = in_a_loop (behind_start c start place)

-- ---- the parts of `try`

-- before a `finally` that ends so: where that cannot complete normally, no exception gets out (JLS 11.2.2)
abbrev pub before_last : StatementContext → Completion → StatementContext
before_last c last = covering (swallowed (program_of c) last.completes) c

-- where resources are opened and closed
abbrev pub resources_context : StatementContext → Completion → CatchTrees → StatementContext
resources_context c last cs = covering (caught_by_all c.surroundings cs) (before_last c last)

abbrev pub behind_resources : StatementContext → List ResourceTree → StatementContext
behind_resources c rs = with_locals c (locals_of c ++ resource_locals c rs) (c.next_variable + length rs)

abbrev pub try_block_context : StatementContext → Completion → List ResourceTree → CatchTrees → StatementContext
try_block_context c last rs cs = behind_resources (resources_context c last cs) rs

-- where the first clause stands
abbrev pub catches_context : StatementContext → Completion → List ResourceTree → BlockTree → StatementContext
catches_context c last rs b = numbered_from (c.next_variable + length rs + block_count b) (before_last c last)

-- the block of a clause, whose parameter is in scope there
abbrev pub catch_context : StatementContext → List ModifierTree → List Name → Name → StatementContext
catch_context c modifiers names name = with_local c (local_variable c.next_variable name.text (parameter_type c.surroundings names) (is_final_parameter modifiers names) None)

abbrev pub next_catch_context : StatementContext → BlockTree → StatementContext
next_catch_context c b = numbered_from (c.next_variable + 1 + block_count b) c

abbrev pub finally_context : StatementContext → List ResourceTree → BlockTree → CatchTrees → StatementContext
finally_context c rs b cs = numbered_from (c.next_variable + length rs + block_count b + catches_count cs) c
