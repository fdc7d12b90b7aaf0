-- What the call of `close` and the end of `renew` leave of the heap, and the lines that they write.
use Rattle.std.proofs.Common.{◌≡◌, Bool, true, not, ◌&&◌, cond, if◌then◌else◌, Some, List, [], ◌∷◌, ◌++◌, map, ap, ◌∙◌}
use Rattle.std.specs.FinSet as set
use Rattle.must_call_sets.specs.MustCallSets.{is_heavy_class}
use Rattle.control_actions.specs.declared.action.Action.TheVariants as actions
use Rattle.control_actions.specs.declared.action.TargetForm.TheVariants as forms
use Rattle.stub_conduct.specs.declared.choice.Conduct.TheVariants as conducts
use Rattle.ledger_entries.specs.Entries.{by_number, called_line, leak_entries}
use Rattle.ledger_state.specs.Contents.{HeapContents}
use Rattle.ledger_state.specs.declared.entry.Entry.{Entry}
use Rattle.ledger_state.specs.declared.entry.LeakWord.TheVariants as words
use Rattle.ledger_state.specs.declared.entry.Owner.TheVariants as owners
use Rattle.ledger_state.specs.declared.value.Value.TheVariants as values
use Rattle.soundness_laws.specs.CallSteps.{library_done}
use Rattle.soundness_laws.specs.Effects.{left}
use Rattle.program_model.specs.NameSets.{Names}
use Rattle.safety_examples.specs.CarefulPrograms.{close_alone, close_declared, close_name, in_source, no_names, socket, socket_close}
use Rattle.safety_examples.specs.ForgetfulControls.{closed, renewed}
use Rattle.safety_examples.specs.ForgetfulPrograms.{forgetful}
use Rattle.safety_examples.proofs.CarefulSets.{close_is_new, close_is_old, close_not_none, within_itself}
use Rattle.safety_examples.proofs.Effects.{effect, held_with, holding}
use Rattle.safety_examples.proofs.Moments.{the_socket}

heavy : is_heavy_class forgetful socket ≡ true
heavy = ap not close_not_none

-- the socket, on which these names were called, and which `main` owns
abbrev pub owned : Names → HeapContents
owned called = record { objects = the_socket called (owners.Frame 1) ∷ []; fields = [] }

-- the socket after a step, where this is the test whether its obligation is met: it is lost where not, and where no place of `main` holds it
abbrev kept : Names → Bool → HeapContents
kept called met = record { objects = (if (true && not met) && not true then record (the_socket called (owners.Frame 1)) { owner = owners.Lost } else the_socket called (owners.Frame 1)) ∷ []; fields = [] }

-- the lines of an object of a class with an obligation
abbrev lines_if : Bool → List Entry → List Entry
lines_if h found = (if h then found else []) ++ []

-- ---- `close` is called, and returns

abbrev close_lines : Bool → Bool → List Entry
close_lines h new =
    lines_if h [] ++ lines_if h (map (called_line 1 (in_source 4 11)) (cond new (close_name ∷ []) [])) ++ lines_if h [] ++ lines_if h []

pub close_returns : library_done forgetful (owned no_names) (holding (values.Object 1) (values.Object 1 ∷ [])) (actions.Call socket_close 0 1 forms.Other) (Some close_declared) (Some close_declared) conducts.Nothing 1 (in_source 4 11) (held_with (values.Object 1) values.Nothing)
    ≡ record { heap = owned close_alone; lines = closed ∷ [] }
close_returns =
    (λ i. left forgetful (in_source 4 11) (held_with (values.Object 1) values.Nothing) (close_lines (heavy i) (set.contains (set.difference close_alone no_names) 0)) [] (owned close_alone))
    ∙ ap (λ b. left forgetful (in_source 4 11) (held_with (values.Object 1) values.Nothing) (close_lines true b) [] (owned close_alone)) close_is_new
    ∙ ap (λ b. effect (kept close_alone b) (closed ∷ by_number (kept close_alone b) ([] ++ leak_entries forgetful words.Lost (in_source 4 11) (owned close_alone) (kept close_alone b)))) (within_itself close_alone)
    ∙ ap (λ h. effect (owned close_alone) (closed ∷ by_number (owned close_alone) ([] ++ lines_if h []))) heavy

-- ---- `renew` ends: the obligation of its argument is created anew, so that nothing counts as called on it

abbrev end_lines : Bool → Bool → List Entry
end_lines h new = (lines_if h (map (called_line 1 (in_source 5 9)) (cond new (close_name ∷ []) [])) ++ lines_if h (renewed ∷ []) ++ lines_if h []) ++ lines_if h []

abbrev end_leaks : Bool → List Entry
end_leaks h = lines_if h [] ++ lines_if h []

pub renew_returns : left forgetful (in_source 5 9) (held_with (values.Object 1) values.Nothing) (end_lines (is_heavy_class forgetful socket) (set.contains (set.difference close_alone close_alone) 0)) (end_leaks (is_heavy_class forgetful socket)) (owned no_names)
    ≡ record { heap = owned no_names; lines = renewed ∷ [] }
renew_returns =
    (λ i. left forgetful (in_source 5 9) (held_with (values.Object 1) values.Nothing) (end_lines (heavy i) (set.contains (set.difference close_alone close_alone) 0)) (end_leaks (heavy i)) (owned no_names))
    ∙ ap (λ b. left forgetful (in_source 5 9) (held_with (values.Object 1) values.Nothing) (end_lines true b) [] (owned no_names)) close_is_old
    ∙ ap (λ b. effect (kept no_names b) (renewed ∷ by_number (kept no_names b) ([] ++ leak_entries forgetful words.Lost (in_source 5 9) (owned no_names) (kept no_names b)))) close_not_none
    ∙ ap (λ h. effect (owned no_names) (renewed ∷ by_number (owned no_names) ([] ++ lines_if h []))) heavy
