-- What the flow rules make of the fact of the resource in `main`.
use Rattle.std.proofs.Common.{◌≡◌, true, false, refl, ap, ◌∙◌}
use Rattle.std.specs.FinSet as set
use Rattle.rlc_base.specs.NameSet.{inserted}
use Rattle.program_model.proofs.NameLaws.{union_none}
use Rattle.control_actions.specs.declared.action.Action.TheVariants as actions
use Rattle.control_actions.specs.declared.action.Completion.TheVariants as completions
use Rattle.control_actions.specs.declared.action.Edge.TheVariants as edges
use Rattle.control_actions.specs.declared.action.Scope.TheVariants as scopes
use Rattle.control_actions.specs.declared.action.TargetForm.TheVariants as forms
use Rattle.control_actions.specs.declared.fact.Fact.{Fact}
use Rattle.control_actions.specs.declared.fact.Mode.TheVariants as modes
use Rattle.control_actions.specs.declared.fact.Origin.{Origin}
use Rattle.control_actions.specs.declared.fact.OriginKind.TheVariants as kinds
use Rattle.control_actions.specs.declared.fact.Outcome.TheVariants.{Next, Gone}
use Rattle.control_actions.specs.declared.place.Place.TheVariants as places
use Rattle.obligation_facts.specs.Facts.{Names, PlaceSet, without_temps}
use Rattle.soundness_laws.specs.Flow.{flow}
use Rattle.safety_examples.specs.OwnerPrograms.{close_alone, in_source, no_names}
use Rattle.safety_examples.specs.OwnerPrograms.{resource, resource_close}
use Rattle.safety_examples.specs.AliasPrograms.{aliasing, main_body, pass}
use Rattle.safety_examples.proofs.OwnerSets.{within_itself}
use Rattle.safety_examples.proofs.OwnerSets.{alone, nothing_left, nothing_promised, removed, somewhere}

-- ---- the places of the resource: the temp; `r`; both; `r` and the temp of the result; `r` and `s`; these and the temp; and `r` and `s` again

abbrev pub in_temp : PlaceSet
in_temp = set.insert set.empty 177

abbrev pub in_variable : PlaceSet
in_variable = set.remove (set.insert in_temp 1) 177

abbrev pub in_both : PlaceSet
in_both = set.insert in_variable 177

abbrev pub with_alias : PlaceSet
with_alias = set.insert (set.remove (set.remove in_both 177) 177) 177

abbrev pub in_alias : PlaceSet
in_alias = set.remove (set.insert with_alias 2) 177

abbrev pub in_all : PlaceSet
in_all = set.insert in_alias 177

abbrev pub after_call : PlaceSet
after_call = set.remove (set.remove in_all 177) 177

abbrev pub after_drop : PlaceSet
after_drop = set.remove after_call 177

variable_has : set.contains in_variable 1 ≡ true
variable_has = removed (set.insert in_temp 1) 177 1 ∙ inserted in_temp 1 1

both_have : set.contains in_both 1 ≡ true
both_have = inserted in_variable 177 1 ∙ variable_has

both_have_temp : set.contains in_both 177 ≡ true
both_have_temp = inserted in_variable 177 177

alias_has_temp : set.contains with_alias 177 ≡ true
alias_has_temp = inserted (set.remove (set.remove in_both 177) 177) 177 177

alias_has : set.contains in_alias 2 ≡ true
alias_has = removed (set.insert with_alias 2) 177 2 ∙ inserted with_alias 2 2

all_have : set.contains in_all 2 ≡ true
all_have = inserted in_alias 177 2 ∙ alias_has

all_have_temp : set.contains in_all 177 ≡ true
all_have_temp = inserted in_alias 177 177

call_has : set.contains after_call 2 ≡ true
call_has = removed (set.remove in_all 177) 177 2 ∙ removed in_all 177 2 ∙ all_have

drop_has : set.contains after_drop 2 ≡ true
drop_has = removed after_call 177 2 ∙ call_has

-- ---- names

-- the names after `pass`, which promises nothing, and after `close`
abbrev pub passed_names : Names
passed_names = set.union no_names no_names

abbrev pub closed_names : Names
closed_names = set.union (set.insert passed_names 0) no_names

closed_met : set.is_subset close_alone closed_names ≡ true
closed_met =
    ap (set.is_subset close_alone) (union_none (set.insert passed_names 0) ∙ ap (λ (s : Names). set.insert s 0) (union_none no_names)) ∙ within_itself close_alone

-- ---- facts

abbrev pub resource_origin : Origin
resource_origin = record { kind = kinds.New; pos = in_source 5 22; class = resource; first = close_alone; full = close_alone }

abbrev pub fact : PlaceSet → Names → Fact
fact held called = record { origin = 0; places = held; mode = modes.Own; called = called; full = false }

pub moves : flow aliasing main_body resource_origin (actions.Move (places.Var 1) (places.Temp 0)) edges.Go (fact in_temp no_names) ≡ Next (fact in_variable no_names)
moves = simp (alone 177 177, somewhere in_variable 1 variable_has) refl

pub copies : flow aliasing main_body resource_origin (actions.Copy (places.Temp 0) (places.Var 1)) edges.Go (fact in_variable no_names) ≡ Next (fact in_both no_names)
copies = simp (variable_has, somewhere in_both 1 both_have) refl

-- the temp of the result holds the resource, too
pub passes : flow aliasing main_body resource_origin (actions.Call pass 0 1 forms.Static) edges.Go (fact in_both no_names) ≡ Next (fact with_alias passed_names)
unfolding without_temps
passes = simp (both_have_temp, somewhere with_alias 177 alias_has_temp, nothing_promised no_names) refl

pub takes : flow aliasing main_body resource_origin (actions.Move (places.Var 2) (places.Temp 0)) edges.Go (fact with_alias passed_names) ≡ Next (fact in_alias passed_names)
takes = simp (alias_has_temp, somewhere in_alias 2 alias_has) refl

pub copies_alias : flow aliasing main_body resource_origin (actions.Copy (places.Temp 0) (places.Var 2)) edges.Go (fact in_alias passed_names) ≡ Next (fact in_all passed_names)
copies_alias = simp (alias_has, somewhere in_all 2 all_have) refl

pub closes : flow aliasing main_body resource_origin (actions.Call resource_close 0 1 forms.Other) edges.Go (fact in_all passed_names) ≡ Next (fact after_call closed_names)
unfolding without_temps
closes = simp (all_have_temp, somewhere after_call 2 call_has, nothing_left passed_names) refl

pub drops : flow aliasing main_body resource_origin (actions.Drop (scopes.Temp 0)) edges.Go (fact after_call closed_names) ≡ Next (fact after_drop closed_names)
drops = simp (somewhere after_drop 2 drop_has) refl

pub returns : flow aliasing main_body resource_origin (actions.End (completions.Return (in_source 8 5))) edges.Go (fact after_drop closed_names) ≡ Gone
returns = simp (closed_met, nothing_promised closed_names) refl
