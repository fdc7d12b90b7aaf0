-- All that the typing of a statement may read beside the statement.
use Rattle.std.specs.Prelude.{ℕ, ◌+◌, Bool, true, Option, List, [], ◌∷◌, ◌++◌}
use Rattle.program_model.specs.declared.kinds.ClassId.{ClassId}
use Rattle.program_model.specs.declared.kinds.VType.{VType}
use Rattle.program_model.specs.declared.program.Program.{Program}
use Rattle.java_typed_trees.specs.declared.scope.Local.{Local}
use Rattle.java_call_rules.specs.Surroundings.{Surroundings}

-- where a statement stands
pub record StatementContext : Type 0 where
  -- what its expressions may read: the variables in scope and the exceptions that are caught or declared are among it
  pub surroundings : Surroundings
  -- what the method gives: none for `void` and for a constructor
  pub result : Option VType
  -- it stands in a loop
  pub in_loop : Bool
  -- the number of the variable that is declared next, in the order of the text
  pub next_variable : ℕ

abbrev pub program_of : StatementContext → Program
program_of c = c.surroundings.context.program

abbrev pub locals_of : StatementContext → List Local
locals_of c = c.surroundings.context.locals

abbrev pub covered_of : StatementContext → List ClassId
covered_of c = c.surroundings.context.covered

abbrev pub with_locals_in : Surroundings → List Local → Surroundings
with_locals_in s locals = record s { context = record s.context { locals = locals } }

-- where these variables are in scope, and the next one has this number
abbrev pub with_locals : StatementContext → List Local → ℕ → StatementContext
with_locals c locals n = record c { surroundings = with_locals_in c.surroundings locals; next_variable = n }

-- behind the declaration of one more variable
abbrev pub with_local : StatementContext → Local → StatementContext
with_local c x = with_locals c (locals_of c ++ x ∷ []) (c.next_variable + 1)

-- where the next variable has this number
abbrev pub numbered_from : ℕ → StatementContext → StatementContext
numbered_from n c = record c { next_variable = n }

-- where exceptions of these classes are caught too
abbrev pub covering : List ClassId → StatementContext → StatementContext
covering classes c = record c { surroundings = record c.surroundings { context = record c.surroundings.context { covered = classes ++ covered_of c } } }

-- in the body of a loop
abbrev pub in_a_loop : StatementContext → StatementContext
in_a_loop c = record c { in_loop = true }
