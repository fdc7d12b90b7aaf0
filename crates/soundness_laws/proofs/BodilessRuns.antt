-- A `main` without a body does nothing, and so leaks nothing.
use Rattle.std.proofs.Common.{◌≡◌, ◌≢◌, ℕ, zero, suc, false, None, [], ◌∷◌, ◌++◌, ◌-◌, replicate, slice_get, refl, sym, ap, ◌∙◌}
use Rattle.std.specs.List.{list_any}
use Rattle.program_model.specs.declared.kinds.MethodId.{MethodId}
use Rattle.program_model.specs.declared.program.Program.{Program}
use Rattle.program_model.specs.Lookups.{method_at}
use Rattle.command_answers.specs.declared.answers.Outcome.TheVariants as outcomes
use Rattle.ledger_state.specs.declared.value.Value.TheVariants as values
use Rattle.ledger_text.specs.declared.how.How.{How}
use Rattle.ledger_text.specs.declared.how.How.TheVariants as hows
use Rattle.ledger_steps.specs.LedgerCallsCalls.{body_of, control_in, variable_count}
use Rattle.content_laws.specs.Configuration.{Config, Frame}
use Rattle.content_laws.specs.Choosing.{steps_by}
use Rattle.content_laws.specs.Moves.{Rest, next_move, standing}
use Rattle.content_laws.specs.Operations.{next_choice}
use Rattle.run_command.specs.Runs.{go_on, run, run_from}
use Rattle.content_laws.specs.LedgerRunsOutcomes.{went}
use Rattle.content_laws.specs.Starts.{start_config}
use Rattle.content_laws.specs.LedgerRunsSteps.{moved, moved_by, step, top_move}
use Rattle.ledger_state.specs.Leaks.{is_leak}
use Rattle.run_command.specs.RunAnswers.{outcome_of, run_outcome}
use Rattle.stub_conduct.specs.declared.choice.Choices.{Choices}

-- a ledger without a leak is not answered by Leaks
pub without_leak : (how : How) → outcome_of false how ≢ outcomes.Leaks
without_leak (hows.Ended e) same = cc
without_leak (hows.Stray c pos) same = cc
without_leak hows.Cut same = cc

module _ (p : Program) (c : Config) (fr : Frame) (bodiless : body_of (method_at p fr.method) ≡ None) (nothing_left : fr.control ≡ []) (alone : c.frames ≡ fr ∷ []) where
  rests : top_move p c (fr ∷ []) ≡ Rest
  unfolding next_move
  rests = λ i. next_move p c.heap c.arrays (next_choice c.choices c.used) fr.method fr.locals (steps_by p (bodiless i) fr.control) (standing (slice_get (nothing_left i) 0))

  stays : step p c ≡ went c
  unfolding step
  stays = (λ i. moved_by p c (alone i) (top_move p c (alone i))) ∙ ap (moved p c fr []) rests

  run_stays : (n : ℕ) → (run_from n p c).config ≡ c
  run_stays zero = refl
  run_stays (suc n) = ap (λ o. (go_on (run_from n p) c o).config) stays ∙ run_stays n

-- the frame of a `main` that has no body
abbrev idle_frame : Program → MethodId → Frame
idle_frame p main = record {
  method = main;
  control = [];
  locals = record {
    variables = (values.Array 0 ∷ []) ++ replicate (variable_count p (body_of (method_at p main)) - 1) values.Nothing;
    this = values.Nothing;
    temps = [];
  };
}

pub bodiless_leaks_nothing : (p : Program) (main : MethodId) (choices : Choices) (n : ℕ) → body_of (method_at p main) ≡ None → run_outcome (run p main choices n) ≢ outcomes.Leaks
unfolding run start_config
bodiless_leaks_nothing p main choices n bodiless same =
    let alone : (start_config p main choices).frames ≡ idle_frame p main ∷ [] = λ i. control_in p (bodiless i) (idle_frame p main) ∷ [] in
    let idle : (run p main choices n).config ≡ start_config p main choices = run_stays p (start_config p main choices) (idle_frame p main) bodiless refl alone n in
    let none : list_any is_leak (run p main choices n).config.entries ≡ false = ap (λ (c : Config). list_any is_leak c.entries) idle in
    without_leak (run p main choices n).how (sym (ap (λ b. outcome_of b (run p main choices n).how) none) ∙ same)
