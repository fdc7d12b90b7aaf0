-- Where a statement stands, as the code has it.
use Rattle.std.specs.Prelude.{ℕ, List}
use Rattle.class_names.specs.Meanings.{unit_of}
use Rattle.java_typed_trees.specs.declared.scope.Local.{Local}
use Rattle.java_statement_rules.specs.Surroundings.{Surroundings}
use Rattle.java_statement_rules.specs.Contexts.{StatementContext}
use Rattle.java_statement_scopes.specs.declared.scope.StatementScope.{StatementScope}

-- where these variables are in scope
abbrev pub surroundings_at : StatementScope → List Local → Surroundings
surroundings_at s locals = record { context = record { program = s.program.now; class' = s.class; has_this = s.has_this; locals = locals; covered = s.covered.now }; classes = s.names.now; unit = unit_of s.unit; initialized = s.initialized; constants = s.constants.now }

-- and the next one has this number
abbrev pub context_at : StatementScope → List Local → ℕ → StatementContext
context_at s locals n = record { surroundings = surroundings_at s locals; result = s.given; in_loop = s.in_loop; next_variable = n }
