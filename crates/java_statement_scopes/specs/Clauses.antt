-- Catch clauses without their blocks, and which exceptions a `try` covers (JLS 11.2, 14.20).
use Rattle.std.specs.Prelude.{Bool, cond, List, [], ◌∷◌, ◌++◌}
use Rattle.rlc_base.specs.declared.place.Pos.{Pos}
use Rattle.rlc_base.specs.declared.faults.Refusal.{Refusal}
use Rattle.program_model.specs.declared.kinds.ClassId.{ClassId}
use Rattle.program_model.specs.declared.program.Program.{Program}
use Rattle.java_syntax.specs.declared.names.Name.{Name}
use Rattle.java_syntax.specs.StatementTrees.{CatchTrees, no_catch, and_catch}
use Rattle.java_statement_rules.specs.Surroundings.{Surroundings}
use Rattle.java_statement_rules.specs.CatchClauses.{alternatives_cases, caught_by}
use Rattle.java_statement_rules.specs.Contexts.{StatementContext, locals_of}
use Rattle.java_statement_rules.specs.DeclaredVariables.{double_cases}

-- the classes of all clauses
abbrev pub caught_by_all : Surroundings → CatchTrees → List ClassId
caught_by_all s no_catch = []
caught_by_all s (and_catch modifiers names name b more) = caught_by s names ++ caught_by_all s more

abbrev pub swallowed : Program → Bool → List ClassId
swallowed p completes = cond completes [] (p.core.throwable ∷ [])

-- the alternatives and the parameter of a clause; `place` is that of the `try`
abbrev pub clause_cases : StatementContext → List Name → Name → Pos → List Refusal
clause_cases c names name place = alternatives_cases c.surroundings place names ++ double_cases place (locals_of c) name.text
