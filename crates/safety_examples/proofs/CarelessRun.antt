-- The program that never closes its socket leaks.
use Rattle.std.proofs.Common.{◌≡◌, true, None, [], ◌∷◌, refl, sym, ap, ◌∙◌, true≢false}
use Rattle.std.specs.List.{list_any}
use Rattle.java_control.specs.Control.{next_of, start_of}
use Rattle.control_actions.specs.Exceptions.{some_heeded}
use Rattle.ledger_state.specs.declared.entry.Owner.TheVariants as owners
use Rattle.ledger_state.specs.declared.value.Value.TheVariants as values
use Rattle.soundness_laws.specs.Configuration.{Config}
use Rattle.soundness_laws.specs.Moves.{call, call_of, library_as, library_call, next_move, null_target, operate, take, take_plain}
use Rattle.soundness_laws.specs.LedgerRunsOutcomes.{went}
use Rattle.soundness_laws.specs.Starts.{start_config}
use Rattle.soundness_laws.specs.LedgerRunsSteps.{step}
use Rattle.soundness_laws.specs.Runs.{go_on, run, run_from}
use Rattle.ledger_state.specs.Leaks.{is_leak}
use Rattle.soundness_laws.specs.Safety.{IsSafe}
use Rattle.safety_examples.specs.CarefulControls.{keeps, makes}
use Rattle.safety_examples.specs.CarefulPrograms.{careless, main_method, no_names}
use Rattle.safety_examples.specs.Runs.{birth, leak, plainly}
use Rattle.soundness_laws.specs.Effects.{Effect}
use Rattle.safety_examples.proofs.Effects.{new_effect}
use Rattle.safety_examples.proofs.Moments.{at, ended_by, the_socket}
use Rattle.safety_examples.proofs.CarefulSets.{close_not_none}

abbrev making : Config
making = at (makes ∷ keeps ∷ []) values.Nothing [] [] [] [] 0

abbrev made : Config
made = at (keeps ∷ []) values.Nothing (values.Object 1 ∷ []) (the_socket no_names (owners.Frame 1) ∷ []) (birth ∷ []) [] 0

abbrev kept : Config
kept = at [] (values.Object 1) (values.Nothing ∷ []) (the_socket no_names (owners.Frame 1) ∷ []) (birth ∷ []) [] 0

abbrev gone : Config
gone = ended_by None (the_socket no_names owners.Lost ∷ []) (birth ∷ leak ∷ []) [] 0

starts : (run careless main_method plainly 5).config ≡ (run_from 3 careless making).config
unfolding run start_config step next_of start_of some_heeded next_move take take_plain call call_of library_call library_as null_target operate
starts = refl

makes_it : step careless making ≡ went made
unfolding run start_config step next_of start_of some_heeded next_move take take_plain call call_of library_call library_as null_target operate
makes_it = ap (λ (x : Effect). went (record made { heap = x.heap; entries = x.lines })) (new_effect careless refl refl)

keeps_it : step careless made ≡ went kept
unfolding run start_config step next_of start_of some_heeded next_move take take_plain call call_of library_call library_as null_target operate
keeps_it = simp close_not_none refl

ends : step careless kept ≡ went gone
unfolding run start_config step next_of start_of some_heeded next_move take take_plain call call_of library_call library_as null_target operate
ends = rw close_not_none refl

leaks : list_any is_leak (run careless main_method plainly 5).config.entries ≡ true
leaks = ap (λ (c : Config). list_any is_leak c.entries) (
    starts ∙ ap (λ o. (go_on (run_from 2 careless) making o).config) makes_it
    ∙ ap (λ o. (go_on (run_from 1 careless) made o).config) keeps_it
    ∙ ap (λ o. (go_on (run_from 0 careless) kept o).config) ends)

pub not_safe : IsSafe careless → ⊥
not_safe safe = true≢false (sym leaks ∙ (safe main_method plainly 5 (refl, refl)).no_leak)
