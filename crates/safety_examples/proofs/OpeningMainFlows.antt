-- What the flow rules make of the fact of the holder in `main`.
use Rattle.std.proofs.Common.{◌≡◌, true, false, refl, ap, ◌∙◌}
use Rattle.std.specs.FinSet as set
use Rattle.rlc_base.specs.NameSet.{inserted}
use Rattle.program_model.proofs.NameLaws.{union_none}
use Rattle.control_actions.specs.declared.action.Action.TheVariants as actions
use Rattle.control_actions.specs.declared.action.Completion.TheVariants as completions
use Rattle.control_actions.specs.declared.action.Edge.TheVariants as edges
use Rattle.control_actions.specs.declared.action.Scope.TheVariants as scopes
use Rattle.control_actions.specs.declared.action.TargetForm.TheVariants as forms
use Rattle.control_actions.specs.declared.fact.Fact.{Fact}
use Rattle.control_actions.specs.declared.fact.Mode.TheVariants as modes
use Rattle.control_actions.specs.declared.fact.Origin.{Origin}
use Rattle.control_actions.specs.declared.fact.OriginKind.TheVariants as kinds
use Rattle.control_actions.specs.declared.fact.Outcome.TheVariants.{Next, Gone}
use Rattle.control_actions.specs.declared.place.Place.TheVariants as places
use Rattle.obligation_facts.specs.Facts.{Names, PlaceSet, without_temps}
use Rattle.soundness_laws.specs.Flow.{flow}
use Rattle.safety_examples.specs.CarefulPrograms.{close_alone, in_source, no_names}
use Rattle.safety_examples.specs.OpeningPrograms.{opening}
use Rattle.safety_examples.specs.ReplacingPrograms.{holder_close, main_body}
use Rattle.safety_examples.specs.OwnerPrograms.{holder}
use Rattle.safety_examples.proofs.CarefulSets.{within_itself}
use Rattle.safety_examples.proofs.OwnerSets.{alone, nothing_left, nothing_promised, removed, somewhere}

-- ---- the places of the holder

-- the temp; and `h`
abbrev pub in_temp : PlaceSet
in_temp = set.insert set.empty 177

abbrev pub kept : PlaceSet
kept = set.remove (set.insert in_temp 1) 177

kept_has : set.contains kept 1 ≡ true
kept_has = removed (set.insert in_temp 1) 177 1 ∙ inserted in_temp 1 1

-- the call: the temp as well; `h` after the call; and once the temp is dropped
abbrev pub first_read : PlaceSet
first_read = set.insert kept 177

abbrev pub first_called : PlaceSet
first_called = set.remove (set.remove first_read 177) 177

abbrev pub first_left : PlaceSet
first_left = set.remove first_called 177

first_read_has : set.contains first_read 1 ≡ true
first_read_has = inserted kept 177 1 ∙ kept_has

first_called_has : set.contains first_called 1 ≡ true
first_called_has = removed (set.remove first_read 177) 177 1 ∙ removed first_read 177 1 ∙ first_read_has

first_left_has : set.contains first_left 1 ≡ true
first_left_has = removed first_called 177 1 ∙ first_called_has

-- ---- names

-- `close` was called, and what it promises is no matter of its holder's
abbrev pub closed_names : Names
closed_names = set.union close_alone (set.union no_names no_names)

closed_met : set.is_subset close_alone closed_names ≡ true
closed_met = ap (set.is_subset close_alone) (ap (set.union close_alone) (union_none no_names) ∙ union_none close_alone) ∙ within_itself close_alone

-- ---- facts

abbrev pub holder_origin : Origin
holder_origin = record { kind = kinds.New; pos = in_source 10 20; class = holder; first = close_alone; full = close_alone }

abbrev pub fact : PlaceSet → Names → Fact
fact held called = record { origin = 0; places = held; mode = modes.Own; called = called; full = false }

pub moves : flow opening main_body holder_origin (actions.Move (places.Var 1) (places.Temp 0)) edges.Go (fact in_temp no_names) ≡ Next (fact kept no_names)
moves = simp (alone 177 177, somewhere kept 1 kept_has) refl

-- `h.close()`
pub first_reads : flow opening main_body holder_origin (actions.Copy (places.Temp 0) (places.Var 1)) edges.Go (fact kept no_names) ≡ Next (fact first_read no_names)
first_reads = simp (kept_has, somewhere first_read 1 first_read_has) refl

pub first_calls : flow opening main_body holder_origin (actions.Call holder_close 0 1 forms.Other) edges.Go (fact first_read no_names) ≡ Next (fact first_called closed_names)
unfolding without_temps
first_calls = simp (inserted kept 177 177, somewhere first_called 1 first_called_has, nothing_left no_names) refl

pub first_drops : flow opening main_body holder_origin (actions.Drop (scopes.Temp 0)) edges.Go (fact first_called closed_names) ≡ Next (fact first_left closed_names)
first_drops = simp (somewhere first_left 1 first_left_has) refl

pub returns : flow opening main_body holder_origin (actions.End (completions.Return (in_source 12 5))) edges.Go (fact first_left closed_names) ≡ Gone
returns = simp (closed_met, nothing_promised closed_names) refl
