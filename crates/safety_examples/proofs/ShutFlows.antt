-- What the flow rules make of the fact of the parameter in `shut`.
use Rattle.std.proofs.Common.{◌≡◌, true, refl, ap, ◌∙◌}
use Rattle.std.specs.FinSet as set
use Rattle.rlc_base.specs.NameSet.{inserted}
use Rattle.program_model.proofs.NameLaws.{union_none}
use Rattle.control_actions.specs.declared.action.Action.TheVariants as actions
use Rattle.control_actions.specs.declared.action.Completion.TheVariants as completions
use Rattle.control_actions.specs.declared.action.Edge.TheVariants as edges
use Rattle.control_actions.specs.declared.action.Scope.TheVariants as scopes
use Rattle.control_actions.specs.declared.action.TargetForm.TheVariants as forms
use Rattle.control_actions.specs.declared.fact.Fact.{Fact}
use Rattle.control_actions.specs.declared.fact.Mode.TheVariants as modes
use Rattle.control_actions.specs.declared.fact.Origin.{Origin}
use Rattle.control_actions.specs.declared.fact.OriginKind.TheVariants as kinds
use Rattle.control_actions.specs.declared.fact.Outcome.TheVariants.{Next, Gone}
use Rattle.control_actions.specs.declared.place.Place.TheVariants as places
use Rattle.obligation_facts.specs.Facts.{Names, PlaceSet, without_temps}
use Rattle.soundness_laws.specs.Flow.{flow}
use Rattle.safety_examples.specs.OwnerPrograms.{close_alone, in_source, no_names}
use Rattle.safety_examples.specs.OwnerPrograms.{resource, resource_close}
use Rattle.safety_examples.specs.LendingPrograms.{lending, shut_body}
use Rattle.safety_examples.proofs.OwnerSets.{alone, none_left, nothing_left, removed, somewhere}

-- ---- the places of the parameter: the variable; the temp of the call as well; the variable after the call; and once the temp is dropped

abbrev pub in_variable : PlaceSet
in_variable = set.insert set.empty 0

abbrev pub in_both : PlaceSet
in_both = set.insert in_variable 177

abbrev pub after_call : PlaceSet
after_call = set.remove (set.remove in_both 177) 177

abbrev pub after_drop : PlaceSet
after_drop = set.remove after_call 177

both_have : set.contains in_both 0 ≡ true
both_have = inserted in_variable 177 0 ∙ alone 0 0

both_have_temp : set.contains in_both 177 ≡ true
both_have_temp = inserted in_variable 177 177

call_has : set.contains after_call 0 ≡ true
call_has = removed (set.remove in_both 177) 177 0 ∙ removed in_both 177 0 ∙ both_have

drop_has : set.contains after_drop 0 ≡ true
drop_has = removed after_call 177 0 ∙ call_has

-- ---- names

-- `close` was called
abbrev pub closed_names : Names
closed_names = set.union close_alone no_names

-- what `shut` promises of its parameter, and of fields nothing
abbrev promised_names : Names
promised_names = set.union (set.union close_alone no_names) (set.union no_names no_names)

promised_same : promised_names ≡ closed_names
promised_same = ap (set.union closed_names) (union_none no_names) ∙ union_none closed_names

kept : set.is_subset (set.difference promised_names closed_names) no_names ≡ true
kept = ap (λ (s : Names). set.is_subset (set.difference s closed_names) no_names) promised_same ∙ none_left closed_names

-- ---- facts

abbrev pub parameter_origin : Origin
parameter_origin = record { kind = kinds.Param 0; pos = in_source 3 31; class = resource; first = close_alone; full = close_alone }

-- the parameter is lent: the body owes nothing on it
abbrev pub fact : PlaceSet → Names → Fact
fact held called = record { origin = 0; places = held; mode = modes.None; called = called; full = true }

pub copies : flow lending shut_body parameter_origin (actions.Copy (places.Temp 0) (places.Var 0)) edges.Go (fact in_variable no_names) ≡ Next (fact in_both no_names)
copies = simp (alone 0 0, somewhere in_both 0 both_have) refl

pub closes : flow lending shut_body parameter_origin (actions.Call resource_close 0 1 forms.Other) edges.Go (fact in_both no_names) ≡ Next (fact after_call closed_names)
unfolding without_temps
closes = simp (both_have_temp, somewhere after_call 0 call_has, nothing_left no_names) refl

pub drops : flow lending shut_body parameter_origin (actions.Drop (scopes.Temp 0)) edges.Go (fact after_call closed_names) ≡ Next (fact after_drop closed_names)
drops = simp (somewhere after_drop 0 drop_has) refl

pub returns : flow lending shut_body parameter_origin (actions.End (completions.Return (in_source 3 47))) edges.Go (fact after_drop closed_names) ≡ Gone
returns = simp (kept) refl
