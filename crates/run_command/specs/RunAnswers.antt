-- What the mode `run` answers.
use Rattle.std.specs.Prelude.{ℕ, Bool, true, false, Option, Some, None, List}
use Rattle.std.specs.List.{list_any}
use Rattle.command_answers.specs.Texts.{placeless_text}
use Rattle.command_answers.specs.declared.answers.Outcome.{Outcome}
use Rattle.command_answers.specs.declared.answers.Outcome.TheVariants as outcomes
use Rattle.ledger_interp.specs.Runs.{Run, run}
use Rattle.ledger_state.specs.Leaks.{is_leak}
use Rattle.ledger_text.specs.Ledger.{ledger_text}
use Rattle.ledger_text.specs.declared.how.How.{How}
use Rattle.ledger_text.specs.declared.how.How.TheVariants as hows
use Rattle.program_model.specs.declared.kinds.MethodId.{MethodId}
use Rattle.program_model.specs.declared.program.Program.{Program}
use Rattle.rlc_base.specs.declared.code.Code.TheVariants as refused
use Rattle.ledger_interp.specs.Mains.{main_of}
use Rattle.stub_conduct.specs.declared.choice.Choices.{Choices}

-- what a run came to, by whether its ledger has a leak and by how it ended
abbrev pub outcome_of : Bool → How → Outcome
outcome_of true how = outcomes.Leaks
outcome_of false (hows.Ended e) = outcomes.Accepted
outcome_of false (hows.Stray c pos) = outcomes.Stray
outcome_of false hows.Cut = outcomes.RunCut

abbrev pub run_outcome : Run → Outcome
run_outcome r = outcome_of (list_any is_leak r.config.entries) r.how

-- the outcome by the `main` that is run for `n` steps: where there is none the program is refused
abbrev pub outcome_with : Program → Choices → ℕ → Option MethodId → Outcome
outcome_with p choices n None = outcomes.Refused
outcome_with p choices n (Some main) = run_outcome (run p main choices n)

abbrev pub answer_outcome : Program → List ℕ → Choices → ℕ → Outcome
answer_outcome p name choices n = outcome_with p choices n (main_of p name)

-- the ledger, where `n` steps were asked for
abbrev pub run_text : Program → List (List ℕ) → ℕ → Run → List ℕ
run_text p files n r = ledger_text p files r.config.entries r.how n

-- the text by the `main` that is run: where there is none the refusal names the file `first`, and no place
abbrev pub text_with : Program → List (List ℕ) → List ℕ → Choices → ℕ → Option MethodId → List ℕ
text_with p files first choices n None = placeless_text first refused.NoMain
text_with p files first choices n (Some main) = run_text p files n (run p main choices n)

abbrev pub answer_text : Program → List (List ℕ) → List ℕ → List ℕ → Choices → ℕ → List ℕ
answer_text p files first name choices n = text_with p files first choices n (main_of p name)
