-- The program that closes its socket: a run in which `close` throws.
use Rattle.std.proofs.Common.{◌≡◌, Some, List, [], ◌∷◌, refl, ap, ◌∙◌}
use Rattle.java_control.specs.Control.{next_of, start_of}
use Rattle.control_actions.specs.Exceptions.{some_heeded}
use Rattle.java_control.specs.Remaining.{Ev, Out}
use Rattle.stub_conduct.specs.declared.choice.Choice.{Choice}
use Rattle.ledger_state.specs.declared.entry.Owner.TheVariants as owners
use Rattle.ledger_state.specs.declared.value.Value.TheVariants as values
use Rattle.ledger_text.specs.declared.how.How.TheVariants as hows
use Rattle.soundness_laws.specs.Configuration.{Config}
use Rattle.soundness_laws.specs.Moves.{call, call_of, library_as, library_call, next_move, null_target, operate, take, take_plain}
use Rattle.soundness_laws.specs.LedgerRunsOutcomes.{went}
use Rattle.soundness_laws.specs.Starts.{start_config}
use Rattle.soundness_laws.specs.LedgerRunsSteps.{step}
use Rattle.soundness_laws.specs.Runs.{come_to, go_on, run, run_from}
use Rattle.safety_examples.specs.CarefulControls.{closes, drops, keeps, makes, reads, second, thrown}
use Rattle.safety_examples.specs.CarefulPrograms.{careful, close_alone, expression_number, io_exception, main_method, no_names}
use Rattle.safety_examples.specs.Runs.{birth, close, then_throws}
use Rattle.soundness_laws.specs.Effects.{Effect}
use Rattle.safety_examples.proofs.Effects.{close_effect, new_effect}
use Rattle.safety_examples.proofs.Moments.{at, ended_by, the_exception, the_socket}
use Rattle.safety_examples.proofs.CarefulSets.{close_not_none, within_itself}

abbrev choices : List Choice
choices = then_throws.list.items

abbrev making : Config
making = at (makes ∷ keeps ∷ second ∷ []) values.Nothing [] [] [] choices 0

abbrev made : Config
made = at (keeps ∷ second ∷ []) values.Nothing (values.Object 1 ∷ []) (the_socket no_names (owners.Frame 1) ∷ []) (birth ∷ []) choices 1

abbrev kept : Config
kept = at (second ∷ []) (values.Object 1) (values.Nothing ∷ []) (the_socket no_names (owners.Frame 1) ∷ []) (birth ∷ []) choices 1

abbrev begun : Config
begun = at (Ev (expression_number 2) 0 ∷ drops ∷ []) (values.Object 1) (values.Nothing ∷ []) (the_socket no_names (owners.Frame 1) ∷ []) (birth ∷ []) choices 1

abbrev called : Config
called = at (Ev (expression_number 1) 0 ∷ closes ∷ drops ∷ []) (values.Object 1) (values.Nothing ∷ []) (the_socket no_names (owners.Frame 1) ∷ []) (birth ∷ []) choices 1

abbrev reading : Config
reading = at (reads ∷ closes ∷ drops ∷ []) (values.Object 1) (values.Nothing ∷ []) (the_socket no_names (owners.Frame 1) ∷ []) (birth ∷ []) choices 1

abbrev closing : Config
closing = at (closes ∷ drops ∷ []) (values.Object 1) (values.Object 1 ∷ []) (the_socket no_names (owners.Frame 1) ∷ []) (birth ∷ []) choices 1

abbrev closed : Config
closed = at (Out thrown ∷ drops ∷ []) (values.Object 1) (values.Object 2 ∷ []) (the_socket close_alone (owners.Frame 1) ∷ the_exception ∷ []) (birth ∷ close ∷ []) choices 2

abbrev leaving : Config
leaving = at (Out thrown ∷ []) (values.Object 1) (values.Object 2 ∷ []) (the_socket close_alone (owners.Frame 1) ∷ the_exception ∷ []) (birth ∷ close ∷ []) choices 2

abbrev gone : Config
gone = ended_by (Some io_exception) (the_socket close_alone owners.Released ∷ the_exception ∷ []) (birth ∷ close ∷ []) choices 2

starts : run careful main_method then_throws 11 ≡ run_from 9 careful making
unfolding run start_config step next_of start_of some_heeded next_move take take_plain call call_of library_call library_as null_target operate
starts = refl

makes_it : step careful making ≡ went made
unfolding run start_config step next_of start_of some_heeded next_move take take_plain call call_of library_call library_as null_target operate
makes_it = ap (λ (x : Effect). went (record made { heap = x.heap; entries = x.lines })) (new_effect careful refl refl)

keeps_it : step careful made ≡ went kept
unfolding run start_config step next_of start_of some_heeded next_move take take_plain call call_of library_call library_as null_target operate
keeps_it = simp close_not_none refl

begins : step careful kept ≡ went begun
unfolding run start_config step next_of start_of some_heeded next_move take take_plain call call_of library_call library_as null_target operate
begins = simp close_not_none refl

calls : step careful begun ≡ went called
unfolding run start_config step next_of start_of some_heeded next_move take take_plain call call_of library_call library_as null_target operate
calls = simp close_not_none refl

asks : step careful called ≡ went reading
unfolding run start_config step next_of start_of some_heeded next_move take take_plain call call_of library_call library_as null_target operate
asks = simp close_not_none refl

reads_it : step careful reading ≡ went closing
unfolding run start_config step next_of start_of some_heeded next_move take take_plain call call_of library_call library_as null_target operate
reads_it = simp close_not_none refl

throws : step careful closing ≡ went closed
unfolding run start_config step next_of start_of some_heeded next_move take take_plain call call_of library_call library_as null_target operate
throws = ap (λ (x : Effect). went (record closed { heap = x.heap; entries = birth ∷ x.lines })) (close_effect careful refl refl refl)

leaves : step careful closed ≡ went leaving
unfolding run start_config step next_of start_of some_heeded next_move take take_plain call call_of library_call library_as null_target operate
leaves = simp (close_not_none, within_itself close_alone, within_itself no_names) refl

ends : step careful leaving ≡ went gone
unfolding run start_config step next_of start_of some_heeded next_move take take_plain call call_of library_call library_as null_target operate
ends = simp (close_not_none, within_itself close_alone, within_itself no_names) refl

pub careful_run : run careful main_method then_throws 11 ≡ come_to gone (hows.Ended (Some io_exception))
careful_run =
    starts ∙ ap (go_on (run_from 8 careful) making) makes_it ∙ ap (go_on (run_from 7 careful) made) keeps_it
    ∙ ap (go_on (run_from 6 careful) kept) begins ∙ ap (go_on (run_from 5 careful) begun) calls
    ∙ ap (go_on (run_from 4 careful) called) asks ∙ ap (go_on (run_from 3 careful) reading) reads_it
    ∙ ap (go_on (run_from 2 careful) closing) throws ∙ ap (go_on (run_from 1 careful) closed) leaves
    ∙ ap (go_on (run_from 0 careful) leaving) ends
