-- The counts of a generated program.
use Rattle.std.specs.Prelude.{ℕ, zero, suc, List, [], ◌∷◌, ◌++◌, codes}
use Rattle.std.specs.Fmt.{decimal}
use Rattle.command_answers.specs.declared.answers.Outcome.{Outcome}
use Rattle.command_answers.specs.declared.answers.Outcome.TheVariants as outcomes

-- a line: a word and a number
abbrev pub count_line : List ℕ → ℕ → List ℕ
count_line word number = word ++ (decimal number ++ 10 ∷ [])

-- methods M, and faults F
abbrev pub counts_text : ℕ → ℕ → List ℕ
counts_text methods faults = count_line (codes "methods ") methods ++ count_line (codes "faults ") faults

-- the program has leaks where a fault is derived
abbrev pub outcome_of : ℕ → Outcome
outcome_of zero = outcomes.Accepted
outcome_of (suc more) = outcomes.Leaks
