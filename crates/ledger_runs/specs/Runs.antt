-- The first steps of a run, and how it came to its end.
use Rattle.std.specs.Prelude.{ℕ, zero, suc, List, [], ◌∷◌}
use Rattle.program_model.specs.declared.kinds.MethodId.{MethodId}
use Rattle.program_model.specs.declared.program.Program.{Program}
use Rattle.stub_conduct.specs.declared.choice.Choices.{Choices}
use Rattle.ledger_runs.specs.Outcomes.{Outcome, went, ended, stray}
use Rattle.ledger_runs.specs.Starts.{start_config}
use Rattle.ledger_runs.specs.Steps.{step}
use Rattle.ledger_text.specs.declared.how.How.{How}
use Rattle.ledger_text.specs.declared.how.How.TheVariants as hows
use Rattle.ledger_moves.specs.Configuration.{Config, Frame}

pub record Run : Type 0 where
  pub config : Config
  pub how : How

abbrev pub come_to : Config → How → Run
come_to c how = record { config = c; how = how }

-- how it came to its end when the steps are spent
abbrev pub how_spent : Config → List Frame → How
how_spent c [] = hows.Ended c.ended
how_spent c (fr ∷ frs) = hows.Cut

abbrev pub go_on : (Config → Run) → Config → Outcome → Run
go_on rest c (went d) = rest d
go_on rest c (ended e) = come_to c (hows.Ended e)
go_on rest c (stray e pos) = come_to c (hows.Stray e pos)

-- the configuration after n steps, or after fewer where no frame is left or the next step is stray
abbrev pub run_from : ℕ → Program → Config → Run
run_from zero p c = come_to c (how_spent c c.frames)
run_from (suc n) p c = go_on (run_from n p) c (step p c)

-- the first n steps of the run that begins in `main`
unfoldable pub run : Program → MethodId → Choices → ℕ → Run
run p main choices n = run_from n p (start_config p main choices)
