-- What the flow rules make of the fact of the parameter in `reopen`.
use Rattle.std.proofs.Common.{◌≡◌, true, refl, ◌∙◌}
use Rattle.std.specs.FinSet as set
use Rattle.rlc_base.specs.NameSet.{inserted}
use Rattle.control_actions.specs.declared.action.Action.TheVariants as actions
use Rattle.control_actions.specs.declared.action.Completion.TheVariants as completions
use Rattle.control_actions.specs.declared.action.Edge.TheVariants as edges
use Rattle.control_actions.specs.declared.action.Scope.TheVariants as scopes
use Rattle.control_actions.specs.declared.action.TargetForm.TheVariants as forms
use Rattle.control_actions.specs.declared.fact.Fact.{Fact}
use Rattle.control_actions.specs.declared.fact.Mode.TheVariants as modes
use Rattle.control_actions.specs.declared.fact.Origin.{Origin}
use Rattle.control_actions.specs.declared.fact.OriginKind.TheVariants as kinds
use Rattle.control_actions.specs.declared.fact.Outcome.TheVariants.{Next, Gone}
use Rattle.control_actions.specs.declared.place.Place.TheVariants as places
use Rattle.obligation_facts.specs.Facts.{PlaceSet, without_temps}
use Rattle.soundness_laws.specs.Flow.{flow}
use Rattle.safety_examples.specs.OwnerPrograms.{close_alone, in_source, no_names}
use Rattle.safety_examples.specs.ResettingPrograms.{connect, socket}
use Rattle.safety_examples.specs.ReopeningPrograms.{reopening, reopen_body}
use Rattle.safety_examples.proofs.CarefulSets.{close_not_none}
use Rattle.safety_examples.proofs.OwnerSets.{alone, nothing_left, nothing_promised, removed, somewhere}

-- ---- the places of the parameter: the variable; the temp of the call as well; the variable after the call; and once the temp is dropped

abbrev pub in_variable : PlaceSet
in_variable = set.insert set.empty 0

abbrev pub in_both : PlaceSet
in_both = set.insert in_variable 177

abbrev pub after_call : PlaceSet
after_call = set.remove (set.remove in_both 177) 177

abbrev pub after_drop : PlaceSet
after_drop = set.remove after_call 177

both_have : set.contains in_both 0 ≡ true
both_have = inserted in_variable 177 0 ∙ alone 0 0

both_have_temp : set.contains in_both 177 ≡ true
both_have_temp = inserted in_variable 177 177

call_has : set.contains after_call 0 ≡ true
call_has = removed (set.remove in_both 177) 177 0 ∙ removed in_both 177 0 ∙ both_have

drop_has : set.contains after_drop 0 ≡ true
drop_has = removed after_call 177 0 ∙ call_has

-- ---- facts

abbrev pub parameter_origin : Origin
parameter_origin = record { kind = kinds.Param 0; pos = in_source 3 31; class = socket; first = close_alone; full = close_alone }

-- the parameter is lent to the method, which creates its obligation anew
abbrev pub fact : PlaceSet → Fact
fact held = record { origin = 0; places = held; mode = modes.Lent; called = no_names; full = true }

pub copies : flow reopening reopen_body parameter_origin (actions.Copy (places.Temp 0) (places.Var 0)) edges.Go (fact in_variable) ≡ Next (fact in_both)
copies = simp (alone 0 0, somewhere in_both 0 both_have) refl

pub connects : flow reopening reopen_body parameter_origin (actions.Call connect 0 1 forms.Other) edges.Go (fact in_both) ≡ Next (fact after_call)
unfolding without_temps
connects = simp (both_have_temp, somewhere after_call 0 call_has, nothing_left no_names, close_not_none) refl

pub drops : flow reopening reopen_body parameter_origin (actions.Drop (scopes.Temp 0)) edges.Go (fact after_call) ≡ Next (fact after_drop)
drops = simp (somewhere after_drop 0 drop_has) refl

pub returns : flow reopening reopen_body parameter_origin (actions.End (completions.Return (in_source 3 49))) edges.Go (fact after_drop) ≡ Gone
returns = simp (nothing_promised no_names) refl
