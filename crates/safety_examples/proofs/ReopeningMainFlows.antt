-- What the flow rules make of the fact of the socket in `main`.
use Rattle.std.proofs.Common.{◌≡◌, true, false, refl, ap, ◌∙◌}
use Rattle.std.specs.FinSet as set
use Rattle.rlc_base.specs.NameSet.{inserted}
use Rattle.program_model.proofs.NameLaws.{union_none}
use Rattle.control_actions.specs.declared.action.Action.TheVariants as actions
use Rattle.control_actions.specs.declared.action.Completion.TheVariants as completions
use Rattle.control_actions.specs.declared.action.Edge.TheVariants as edges
use Rattle.control_actions.specs.declared.action.Scope.TheVariants as scopes
use Rattle.control_actions.specs.declared.action.TargetForm.TheVariants as forms
use Rattle.control_actions.specs.declared.fact.Fact.{Fact}
use Rattle.control_actions.specs.declared.fact.Mode.TheVariants as modes
use Rattle.control_actions.specs.declared.fact.Origin.{Origin}
use Rattle.control_actions.specs.declared.fact.OriginKind.TheVariants as kinds
use Rattle.control_actions.specs.declared.fact.Outcome.TheVariants.{Next, Gone}
use Rattle.control_actions.specs.declared.place.Place.TheVariants as places
use Rattle.obligation_facts.specs.Facts.{Names, PlaceSet, without_temps}
use Rattle.soundness_laws.specs.Flow.{flow}
use Rattle.safety_examples.specs.OwnerPrograms.{close_alone, in_source, no_names}
use Rattle.safety_examples.specs.ResettingPrograms.{socket, socket_close}
use Rattle.safety_examples.specs.ReopeningPrograms.{main_body, reopen, reopening}
use Rattle.safety_examples.proofs.CarefulSets.{close_not_none, within_itself}
use Rattle.safety_examples.proofs.OwnerSets.{nothing_left, nothing_promised, removed, somewhere}

-- ---- the places of the socket: the temp; `s`; both; `s` after each call, and once the temp is dropped

abbrev pub in_temp : PlaceSet
in_temp = set.insert set.empty 177

abbrev pub in_variable : PlaceSet
in_variable = set.remove (set.insert in_temp 1) 177

abbrev pub in_both : PlaceSet
in_both = set.insert in_variable 177

abbrev pub reopened : PlaceSet
reopened = set.remove (set.remove in_both 177) 177

abbrev pub left : PlaceSet
left = set.remove reopened 177

abbrev pub in_receiver : PlaceSet
in_receiver = set.insert left 177

abbrev pub after_call : PlaceSet
after_call = set.remove (set.remove in_receiver 177) 177

abbrev pub after_drop : PlaceSet
after_drop = set.remove after_call 177

temp_has : set.contains in_temp 177 ≡ true
temp_has = inserted set.empty 177 177

variable_has : set.contains in_variable 1 ≡ true
variable_has = removed (set.insert in_temp 1) 177 1 ∙ inserted in_temp 1 1

both_have : set.contains in_both 1 ≡ true
both_have = inserted in_variable 177 1 ∙ variable_has

both_have_temp : set.contains in_both 177 ≡ true
both_have_temp = inserted in_variable 177 177

reopened_has : set.contains reopened 1 ≡ true
reopened_has = removed (set.remove in_both 177) 177 1 ∙ removed in_both 177 1 ∙ both_have

left_has : set.contains left 1 ≡ true
left_has = removed reopened 177 1 ∙ reopened_has

receiver_has : set.contains in_receiver 1 ≡ true
receiver_has = inserted left 177 1 ∙ left_has

receiver_has_temp : set.contains in_receiver 177 ≡ true
receiver_has_temp = inserted left 177 177

call_has : set.contains after_call 1 ≡ true
call_has = removed (set.remove in_receiver 177) 177 1 ∙ removed in_receiver 177 1 ∙ receiver_has

drop_has : set.contains after_drop 1 ≡ true
drop_has = removed after_call 177 1 ∙ call_has

-- ---- names

-- `close` was called
abbrev pub closed_names : Names
closed_names = set.union close_alone no_names

closed_met : set.is_subset close_alone closed_names ≡ true
closed_met = ap (set.is_subset close_alone) (union_none close_alone) ∙ within_itself close_alone

-- ---- facts

-- nothing must be called at first
abbrev pub socket_origin : Origin
socket_origin = record { kind = kinds.New; pos = in_source 5 20; class = socket; first = no_names; full = close_alone }

abbrev pub fact : PlaceSet → Fact
fact held = record { origin = 0; places = held; mode = modes.Own; called = no_names; full = false }

-- once `reopen` has created the obligation
abbrev pub anew : PlaceSet → Names → Fact
anew held called = record { origin = 0; places = held; mode = modes.Own; called = called; full = true }

pub keeps : flow reopening main_body socket_origin (actions.Move (places.Var 1) (places.Temp 0)) edges.Go (fact in_temp) ≡ Next (fact in_variable)
keeps = simp (temp_has, somewhere in_variable 1 variable_has) refl

pub reads : flow reopening main_body socket_origin (actions.Copy (places.Temp 0) (places.Var 1)) edges.Go (fact in_variable) ≡ Next (fact in_both)
reads = simp (variable_has, somewhere in_both 1 both_have) refl

pub reopens : flow reopening main_body socket_origin (actions.Call reopen 0 1 forms.Static) edges.Go (fact in_both) ≡ Next (anew reopened no_names)
unfolding without_temps
reopens = simp (both_have_temp, somewhere reopened 1 reopened_has, nothing_promised no_names, close_not_none) refl

pub leaves : flow reopening main_body socket_origin (actions.Drop (scopes.Temp 0)) edges.Go (anew reopened no_names) ≡ Next (anew left no_names)
leaves = simp (somewhere left 1 left_has) refl

pub reads_receiver : flow reopening main_body socket_origin (actions.Copy (places.Temp 0) (places.Var 1)) edges.Go (anew left no_names) ≡ Next (anew in_receiver no_names)
reads_receiver = simp (left_has, somewhere in_receiver 1 receiver_has) refl

pub closes : flow reopening main_body socket_origin (actions.Call socket_close 0 1 forms.Other) edges.Go (anew in_receiver no_names) ≡ Next (anew after_call closed_names)
unfolding without_temps
closes = simp (receiver_has_temp, somewhere after_call 1 call_has, nothing_left no_names) refl

pub drops : flow reopening main_body socket_origin (actions.Drop (scopes.Temp 0)) edges.Go (anew after_call closed_names) ≡ Next (anew after_drop closed_names)
drops = simp (somewhere after_drop 1 drop_has) refl

pub returns : flow reopening main_body socket_origin (actions.End (completions.Return (in_source 8 5))) edges.Go (anew after_drop closed_names) ≡ Gone
returns = simp (closed_met, nothing_promised closed_names) refl
