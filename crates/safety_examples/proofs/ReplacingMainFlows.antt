-- What the flow rules make of the fact of the holder in `main`.
use Rattle.std.proofs.Common.{◌≡◌, true, false, Bool, refl, ap, ◌∙◌}
use Rattle.std.specs.FinSet as set
use Rattle.rlc_base.specs.NameSet.{inserted}
use Rattle.program_model.proofs.NameLaws.{union_none}
use Rattle.control_actions.specs.declared.action.Action.TheVariants as actions
use Rattle.control_actions.specs.declared.action.Completion.TheVariants as completions
use Rattle.control_actions.specs.declared.action.Edge.TheVariants as edges
use Rattle.control_actions.specs.declared.action.Scope.TheVariants as scopes
use Rattle.control_actions.specs.declared.action.TargetForm.TheVariants as forms
use Rattle.control_actions.specs.declared.fact.Fact.{Fact}
use Rattle.control_actions.specs.declared.fact.Mode.TheVariants as modes
use Rattle.control_actions.specs.declared.fact.Origin.{Origin}
use Rattle.control_actions.specs.declared.fact.OriginKind.TheVariants as kinds
use Rattle.control_actions.specs.declared.fact.Outcome.TheVariants.{Next, Gone}
use Rattle.control_actions.specs.declared.place.Place.TheVariants as places
use Rattle.obligation_facts.specs.Facts.{Names, PlaceSet, without_temps}
use Rattle.soundness_laws.specs.Flow.{flow}
use Rattle.safety_examples.specs.CarefulPrograms.{close_alone, in_source, no_names}
use Rattle.safety_examples.specs.ReplacingPrograms.{holder_close, holder_reopen, main_body, replacing}
use Rattle.safety_examples.specs.OwnerPrograms.{holder}
use Rattle.safety_examples.proofs.CarefulSets.{close_not_none, within_itself}
use Rattle.safety_examples.proofs.OwnerSets.{alone, nothing_left, nothing_promised, removed, somewhere}

-- ---- the places of the holder

-- the temp; and `h`
abbrev pub in_temp : PlaceSet
in_temp = set.insert set.empty 177

abbrev pub kept : PlaceSet
kept = set.remove (set.insert in_temp 1) 177

kept_has : set.contains kept 1 ≡ true
kept_has = removed (set.insert in_temp 1) 177 1 ∙ inserted in_temp 1 1

-- the first call: the temp as well; `h` after the call; and once the temp is dropped
abbrev pub first_read : PlaceSet
first_read = set.insert kept 177

abbrev pub first_called : PlaceSet
first_called = set.remove (set.remove first_read 177) 177

abbrev pub first_left : PlaceSet
first_left = set.remove first_called 177

first_read_has : set.contains first_read 1 ≡ true
first_read_has = inserted kept 177 1 ∙ kept_has

first_called_has : set.contains first_called 1 ≡ true
first_called_has = removed (set.remove first_read 177) 177 1 ∙ removed first_read 177 1 ∙ first_read_has

first_left_has : set.contains first_left 1 ≡ true
first_left_has = removed first_called 177 1 ∙ first_called_has

-- the second call: the temp as well; `h` after the call; and once the temp is dropped
abbrev pub second_read : PlaceSet
second_read = set.insert first_left 177

abbrev pub second_called : PlaceSet
second_called = set.remove (set.remove second_read 177) 177

abbrev pub second_left : PlaceSet
second_left = set.remove second_called 177

second_read_has : set.contains second_read 1 ≡ true
second_read_has = inserted first_left 177 1 ∙ first_left_has

second_called_has : set.contains second_called 1 ≡ true
second_called_has = removed (set.remove second_read 177) 177 1 ∙ removed second_read 177 1 ∙ second_read_has

second_left_has : set.contains second_left 1 ≡ true
second_left_has = removed second_called 177 1 ∙ second_called_has

-- the third call: the temp as well; `h` after the call; and once the temp is dropped
abbrev pub third_read : PlaceSet
third_read = set.insert second_left 177

abbrev pub third_called : PlaceSet
third_called = set.remove (set.remove third_read 177) 177

abbrev pub third_left : PlaceSet
third_left = set.remove third_called 177

third_read_has : set.contains third_read 1 ≡ true
third_read_has = inserted second_left 177 1 ∙ second_left_has

third_called_has : set.contains third_called 1 ≡ true
third_called_has = removed (set.remove third_read 177) 177 1 ∙ removed third_read 177 1 ∙ third_read_has

third_left_has : set.contains third_left 1 ≡ true
third_left_has = removed third_called 177 1 ∙ third_called_has

-- ---- names

-- `close` was called, and what it promises is no matter of its holder's
abbrev pub closed_names : Names
closed_names = set.union close_alone (set.union no_names no_names)

closed_met : set.is_subset close_alone closed_names ≡ true
closed_met = ap (set.is_subset close_alone) (ap (set.union close_alone) (union_none no_names) ∙ union_none close_alone) ∙ within_itself close_alone

-- ---- facts

abbrev pub holder_origin : Origin
holder_origin = record { kind = kinds.New; pos = in_source 10 20; class = holder; first = close_alone; full = close_alone }

-- `full` says whether the obligation was created anew
abbrev pub fact : PlaceSet → Names → Bool → Fact
fact held called full = record { origin = 0; places = held; mode = modes.Own; called = called; full = full }

pub moves : flow replacing main_body holder_origin (actions.Move (places.Var 1) (places.Temp 0)) edges.Go (fact in_temp no_names false) ≡ Next (fact kept no_names false)
moves = simp (alone 177 177, somewhere kept 1 kept_has) refl

-- `h.close()`
pub first_reads : flow replacing main_body holder_origin (actions.Copy (places.Temp 0) (places.Var 1)) edges.Go (fact kept no_names false) ≡ Next (fact first_read no_names false)
first_reads = simp (kept_has, somewhere first_read 1 first_read_has) refl

pub first_calls : flow replacing main_body holder_origin (actions.Call holder_close 0 1 forms.Other) edges.Go (fact first_read no_names false) ≡ Next (fact first_called closed_names false)
unfolding without_temps
first_calls = simp (inserted kept 177 177, somewhere first_called 1 first_called_has, nothing_left no_names) refl

pub first_drops : flow replacing main_body holder_origin (actions.Drop (scopes.Temp 0)) edges.Go (fact first_called closed_names false) ≡ Next (fact first_left closed_names false)
first_drops = simp (somewhere first_left 1 first_left_has) refl

-- `h.reopen()`
pub second_reads : flow replacing main_body holder_origin (actions.Copy (places.Temp 0) (places.Var 1)) edges.Go (fact first_left closed_names false) ≡ Next (fact second_read closed_names false)
second_reads = simp (first_left_has, somewhere second_read 1 second_read_has) refl

pub second_calls : flow replacing main_body holder_origin (actions.Call holder_reopen 0 1 forms.Other) edges.Go (fact second_read closed_names false) ≡ Next (fact second_called no_names true)
unfolding without_temps
second_calls = simp (inserted first_left 177 177, somewhere second_called 1 second_called_has, nothing_left closed_names, close_not_none) refl

pub second_drops : flow replacing main_body holder_origin (actions.Drop (scopes.Temp 0)) edges.Go (fact second_called no_names true) ≡ Next (fact second_left no_names true)
second_drops = simp (somewhere second_left 1 second_left_has) refl

-- `h.close()`
pub third_reads : flow replacing main_body holder_origin (actions.Copy (places.Temp 0) (places.Var 1)) edges.Go (fact second_left no_names true) ≡ Next (fact third_read no_names true)
third_reads = simp (second_left_has, somewhere third_read 1 third_read_has) refl

pub third_calls : flow replacing main_body holder_origin (actions.Call holder_close 0 1 forms.Other) edges.Go (fact third_read no_names true) ≡ Next (fact third_called closed_names true)
unfolding without_temps
third_calls = simp (inserted second_left 177 177, somewhere third_called 1 third_called_has, nothing_left no_names) refl

pub third_drops : flow replacing main_body holder_origin (actions.Drop (scopes.Temp 0)) edges.Go (fact third_called closed_names true) ≡ Next (fact third_left closed_names true)
third_drops = simp (somewhere third_left 1 third_left_has) refl

pub returns : flow replacing main_body holder_origin (actions.End (completions.Return (in_source 14 5))) edges.Go (fact third_left closed_names true) ≡ Gone
returns = simp (closed_met, nothing_promised closed_names) refl
