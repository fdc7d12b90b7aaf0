-- The program that has the obligation of its closed socket created anew, and ends, leaks.
use Rattle.std.proofs.Common.{◌≡◌, true, None, List, [], ◌∷◌, refl, sym, ap, ◌∙◌, true≢false}
use Rattle.std.specs.List.{list_any}
use Rattle.java_control.specs.Control.{next_of, start_of}
use Rattle.control_actions.specs.Exceptions.{some_heeded}
use Rattle.java_control.specs.Remaining.{Todo, Ev}
use Rattle.ledger_state.specs.Leaks.{is_leak}
use Rattle.ledger_state.specs.declared.entry.Owner.TheVariants as owners
use Rattle.ledger_state.specs.declared.value.Value.{Value}
use Rattle.ledger_state.specs.declared.value.Value.TheVariants as values
use Rattle.soundness_laws.specs.Configuration.{Config}
use Rattle.soundness_laws.specs.Effects.{Effect}
use Rattle.soundness_laws.specs.Moves.{back_as, back_to, call, call_of, library_as, library_call, next_move, null_target, operate, return_move, take, take_plain}
use Rattle.soundness_laws.specs.LedgerRunsOutcomes.{went}
use Rattle.soundness_laws.specs.LedgerRunsSteps.{step}
use Rattle.soundness_laws.specs.Runs.{go_on, run, run_from}
use Rattle.soundness_laws.specs.Safety.{IsSafe}
use Rattle.soundness_laws.specs.Starts.{start_config}
use Rattle.safety_examples.specs.CarefulPrograms.{close_alone, expression_number, main_method, no_names}
use Rattle.safety_examples.specs.ForgetfulControls.{closed, closes_socket, drops_argument, drops_receiver, keeps_socket, leaked, makes_socket, reads_argument, reads_receiver, renewed, renews_socket, second, third}
use Rattle.safety_examples.specs.ForgetfulPrograms.{forgetful, renew}
use Rattle.safety_examples.specs.Runs.{birth, plainly}
use Rattle.safety_examples.proofs.CarefulSets.{close_not_none, within_itself}
use Rattle.safety_examples.proofs.Effects.{new_effect}
use Rattle.safety_examples.proofs.ForgetfulEffects.{close_returns, renew_returns}
use Rattle.safety_examples.proofs.Moments.{at, ended_by, the_socket}

-- ---- the moments of the run

abbrev making : Config
making = at (makes_socket ∷ keeps_socket ∷ second ∷ third ∷ []) values.Nothing [] [] [] [] 0

abbrev made : Config
made = at (keeps_socket ∷ second ∷ third ∷ []) values.Nothing (values.Object 1 ∷ []) (the_socket no_names (owners.Frame 1) ∷ []) (birth ∷ []) [] 0

-- `s` has the socket, on which nothing was called; on which `close` was called; and whose obligation was created anew after that
abbrev owing : List Todo → List Value → Config
owing control temps = at control (values.Object 1) temps (the_socket no_names (owners.Frame 1) ∷ []) (birth ∷ []) [] 0

abbrev paid : List Todo → List Value → Config
paid control temps = at control (values.Object 1) temps (the_socket close_alone (owners.Frame 1) ∷ []) (birth ∷ closed ∷ []) [] 0

abbrev anew : List Todo → List Value → Config
anew control temps = at control (values.Object 1) temps (the_socket no_names (owners.Frame 1) ∷ []) (birth ∷ closed ∷ renewed ∷ []) [] 0

-- `renew` begins
abbrev calling : Config
calling = paid (renews_socket ∷ drops_argument ∷ []) (values.Object 1 ∷ [])

abbrev begun : Config
begun = record calling { frames = record { method = renew; control = []; locals = record { variables = values.Object 1 ∷ []; this = values.Nothing; temps = [] } } ∷ calling.frames }

abbrev gone : Config
gone = ended_by None (the_socket no_names owners.Lost ∷ []) (birth ∷ closed ∷ renewed ∷ leaked ∷ []) [] 0

-- ---- its steps

starts : (run forgetful main_method plainly 18).config ≡ (run_from 16 forgetful making).config
unfolding run start_config step next_of start_of some_heeded next_move take take_plain call call_of library_call library_as null_target operate
starts = refl

makes_it : step forgetful making ≡ went made
unfolding run start_config step next_of start_of some_heeded next_move take take_plain call call_of library_call library_as null_target operate
makes_it = ap (λ (x : Effect). went (record made { heap = x.heap; entries = x.lines })) (new_effect forgetful refl refl)

keeps_it : step forgetful made ≡ went (owing (second ∷ third ∷ []) (values.Nothing ∷ []))
unfolding run start_config step next_of start_of some_heeded next_move take take_plain call call_of library_call library_as null_target operate
keeps_it = simp close_not_none refl

begins : step forgetful (owing (second ∷ third ∷ []) (values.Nothing ∷ [])) ≡ went (owing (Ev (expression_number 2) 0 ∷ drops_receiver ∷ third ∷ []) (values.Nothing ∷ []))
unfolding run start_config step next_of start_of some_heeded next_move take take_plain call call_of library_call library_as null_target operate
begins = simp close_not_none refl

calls : step forgetful (owing (Ev (expression_number 2) 0 ∷ drops_receiver ∷ third ∷ []) (values.Nothing ∷ [])) ≡ went (owing (Ev (expression_number 1) 0 ∷ closes_socket ∷ drops_receiver ∷ third ∷ []) (values.Nothing ∷ []))
unfolding run start_config step next_of start_of some_heeded next_move take take_plain call call_of library_call library_as null_target operate
calls = simp close_not_none refl

asks : step forgetful (owing (Ev (expression_number 1) 0 ∷ closes_socket ∷ drops_receiver ∷ third ∷ []) (values.Nothing ∷ [])) ≡ went (owing (reads_receiver ∷ closes_socket ∷ drops_receiver ∷ third ∷ []) (values.Nothing ∷ []))
unfolding run start_config step next_of start_of some_heeded next_move take take_plain call call_of library_call library_as null_target operate
asks = simp close_not_none refl

reads_it : step forgetful (owing (reads_receiver ∷ closes_socket ∷ drops_receiver ∷ third ∷ []) (values.Nothing ∷ [])) ≡ went (owing (closes_socket ∷ drops_receiver ∷ third ∷ []) (values.Object 1 ∷ []))
unfolding run start_config step next_of start_of some_heeded next_move take take_plain call call_of library_call library_as null_target operate
reads_it = simp close_not_none refl

closes_it : step forgetful (owing (closes_socket ∷ drops_receiver ∷ third ∷ []) (values.Object 1 ∷ [])) ≡ went (paid (drops_receiver ∷ third ∷ []) (values.Nothing ∷ []))
unfolding run start_config step next_of start_of some_heeded next_move take take_plain call call_of library_call library_as null_target operate
closes_it = ap (λ (x : Effect). went (record (paid (drops_receiver ∷ third ∷ []) (values.Nothing ∷ [])) { heap = x.heap; entries = birth ∷ x.lines })) close_returns

drops_it : step forgetful (paid (drops_receiver ∷ third ∷ []) (values.Nothing ∷ [])) ≡ went (paid (third ∷ []) (values.Nothing ∷ []))
unfolding run start_config step next_of start_of some_heeded next_move take take_plain call call_of library_call library_as null_target operate
drops_it = simp (close_not_none, within_itself close_alone) refl

goes_on_to_third : step forgetful (paid (third ∷ []) (values.Nothing ∷ [])) ≡ went (paid (Ev (expression_number 4) 0 ∷ drops_argument ∷ []) (values.Nothing ∷ []))
unfolding run start_config step next_of start_of some_heeded next_move take take_plain call call_of library_call library_as null_target operate
goes_on_to_third = simp (close_not_none, within_itself close_alone) refl

calls_renew : step forgetful (paid (Ev (expression_number 4) 0 ∷ drops_argument ∷ []) (values.Nothing ∷ [])) ≡ went (paid (Ev (expression_number 3) 0 ∷ renews_socket ∷ drops_argument ∷ []) (values.Nothing ∷ []))
unfolding run start_config step next_of start_of some_heeded next_move take take_plain call call_of library_call library_as null_target operate
calls_renew = simp (close_not_none, within_itself close_alone) refl

asks_again : step forgetful (paid (Ev (expression_number 3) 0 ∷ renews_socket ∷ drops_argument ∷ []) (values.Nothing ∷ [])) ≡ went (paid (reads_argument ∷ renews_socket ∷ drops_argument ∷ []) (values.Nothing ∷ []))
unfolding run start_config step next_of start_of some_heeded next_move take take_plain call call_of library_call library_as null_target operate
asks_again = simp (close_not_none, within_itself close_alone) refl

reads_again : step forgetful (paid (reads_argument ∷ renews_socket ∷ drops_argument ∷ []) (values.Nothing ∷ [])) ≡ went calling
unfolding run start_config step next_of start_of some_heeded next_move take take_plain call call_of library_call library_as null_target operate
reads_again = simp (close_not_none, within_itself close_alone) refl

starts_renew : step forgetful calling ≡ went begun
unfolding run start_config step next_of start_of some_heeded next_move take take_plain call call_of library_call library_as null_target operate
starts_renew = simp (close_not_none, within_itself close_alone) refl

renews_it : step forgetful begun ≡ went (anew (drops_argument ∷ []) (values.Nothing ∷ []))
unfolding run start_config step next_of start_of some_heeded next_move take take_plain call call_of library_call library_as null_target operate return_move back_to back_as
renews_it = ap (λ (x : Effect). went (record (anew (drops_argument ∷ []) (values.Nothing ∷ [])) { heap = x.heap; entries = birth ∷ closed ∷ x.lines })) renew_returns

drops_again : step forgetful (anew (drops_argument ∷ []) (values.Nothing ∷ [])) ≡ went (anew [] (values.Nothing ∷ []))
unfolding run start_config step next_of start_of some_heeded next_move take take_plain call call_of library_call library_as null_target operate
drops_again = simp close_not_none refl

ends : step forgetful (anew [] (values.Nothing ∷ [])) ≡ went gone
unfolding run start_config step next_of start_of some_heeded next_move take take_plain call call_of library_call library_as null_target operate
ends = simp close_not_none refl

-- the ledger of the run
pub leaks : (run forgetful main_method plainly 18).config.entries ≡ birth ∷ closed ∷ renewed ∷ leaked ∷ []
leaks = ap (λ (c : Config). c.entries) (
    starts
    ∙ ap (λ o. (go_on (run_from 15 forgetful) making o).config) makes_it
    ∙ ap (λ o. (go_on (run_from 14 forgetful) made o).config) keeps_it
    ∙ ap (λ o. (go_on (run_from 13 forgetful) (owing (second ∷ third ∷ []) (values.Nothing ∷ [])) o).config) begins
    ∙ ap (λ o. (go_on (run_from 12 forgetful) (owing (Ev (expression_number 2) 0 ∷ drops_receiver ∷ third ∷ []) (values.Nothing ∷ [])) o).config) calls
    ∙ ap (λ o. (go_on (run_from 11 forgetful) (owing (Ev (expression_number 1) 0 ∷ closes_socket ∷ drops_receiver ∷ third ∷ []) (values.Nothing ∷ [])) o).config) asks
    ∙ ap (λ o. (go_on (run_from 10 forgetful) (owing (reads_receiver ∷ closes_socket ∷ drops_receiver ∷ third ∷ []) (values.Nothing ∷ [])) o).config) reads_it
    ∙ ap (λ o. (go_on (run_from 9 forgetful) (owing (closes_socket ∷ drops_receiver ∷ third ∷ []) (values.Object 1 ∷ [])) o).config) closes_it
    ∙ ap (λ o. (go_on (run_from 8 forgetful) (paid (drops_receiver ∷ third ∷ []) (values.Nothing ∷ [])) o).config) drops_it
    ∙ ap (λ o. (go_on (run_from 7 forgetful) (paid (third ∷ []) (values.Nothing ∷ [])) o).config) goes_on_to_third
    ∙ ap (λ o. (go_on (run_from 6 forgetful) (paid (Ev (expression_number 4) 0 ∷ drops_argument ∷ []) (values.Nothing ∷ [])) o).config) calls_renew
    ∙ ap (λ o. (go_on (run_from 5 forgetful) (paid (Ev (expression_number 3) 0 ∷ renews_socket ∷ drops_argument ∷ []) (values.Nothing ∷ [])) o).config) asks_again
    ∙ ap (λ o. (go_on (run_from 4 forgetful) (paid (reads_argument ∷ renews_socket ∷ drops_argument ∷ []) (values.Nothing ∷ [])) o).config) reads_again
    ∙ ap (λ o. (go_on (run_from 3 forgetful) calling o).config) starts_renew
    ∙ ap (λ o. (go_on (run_from 2 forgetful) begun o).config) renews_it
    ∙ ap (λ o. (go_on (run_from 1 forgetful) (anew (drops_argument ∷ []) (values.Nothing ∷ [])) o).config) drops_again
    ∙ ap (λ o. (go_on (run_from 0 forgetful) (anew [] (values.Nothing ∷ [])) o).config) ends)

pub not_safe : IsSafe forgetful → ⊥
not_safe safe = true≢false (sym (ap (list_any is_leak) leaks) ∙ (safe main_method plainly 18 (refl, refl)).no_leak)
