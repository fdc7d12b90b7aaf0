use Rattle.side_commands.proofs.migration.settings_answer.Goals as goal

pub returns-clause-answer : goal.returns-clause-answer
returns-clause-answer g c = record {
  due = c.in_ok-due.due;
  cause = c.in_ok-due.ensures.due;
  outcome = c.outcome_of-outcome.ensures;
  text = c.in_ok-text.ensures;
}
