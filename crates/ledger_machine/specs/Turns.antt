-- What the machine answers of a step.
use Rattle.ledger_machine.specs.declared.turn.Turn.{Turn}
use Rattle.ledger_machine.specs.declared.turn.Turn.TheVariants as turns
use Rattle.ledger_runs.specs.Outcomes.{Outcome, went, ended, stray}

-- whether the step was taken, and why not
abbrev pub turn_of : Outcome → Turn
turn_of (went c) = turns.Went
turn_of (ended e) = turns.Ended e
turn_of (stray e pos) = turns.Stray e pos
