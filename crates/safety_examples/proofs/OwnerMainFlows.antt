-- What the flow rules make of the facts of the resource and of its holder in `main`.
use Rattle.std.proofs.Common.{◌≡◌, Bool, true, false, not, refl, ap, ◌∙◌, ◌==◌, ◌&&◌}
use Rattle.std.specs.FinSet as set
use Rattle.rlc_base.specs.NameSet.{inserted}
use Rattle.program_model.proofs.NameLaws.{union_none}
use Rattle.control_actions.specs.declared.action.Action.TheVariants as actions
use Rattle.control_actions.specs.declared.action.Completion.TheVariants as completions
use Rattle.control_actions.specs.declared.action.Edge.TheVariants as edges
use Rattle.control_actions.specs.declared.action.Scope.TheVariants as scopes
use Rattle.control_actions.specs.declared.action.TargetForm.TheVariants as forms
use Rattle.control_actions.specs.declared.fact.Fact.{Fact}
use Rattle.control_actions.specs.declared.fact.Mode.TheVariants as modes
use Rattle.control_actions.specs.declared.fact.Origin.{Origin}
use Rattle.control_actions.specs.declared.fact.OriginKind.TheVariants as kinds
use Rattle.control_actions.specs.declared.fact.Outcome.TheVariants.{Next, Gone}
use Rattle.control_actions.specs.declared.place.Place.TheVariants as places
use Rattle.obligation_facts.specs.Facts.{Names, PlaceSet, without_temps}
use Rattle.soundness_laws.specs.Flow.{flow}
use Rattle.safety_examples.specs.CarefulPrograms.{close_alone, in_source, no_names}
use Rattle.safety_examples.specs.OwnerPrograms.{holder, holder_close, holder_constructor, holding, main_body, resource}
use Rattle.safety_examples.proofs.CarefulSets.{close_not_none, within_itself}
use Rattle.safety_examples.proofs.OwnerSets.{alone, nothing_left, nothing_promised, nowhere, removed, somewhere}

-- ---- the places of the resource: the temp of the argument, and none once the holder took it

abbrev pub in_argument : PlaceSet
in_argument = set.insert set.empty 178

abbrev taken : PlaceSet
taken = set.remove (set.remove in_argument 178) 177

and_never : (b c : Bool) → (b && (not c && c)) ≡ false
and_never true true = refl
and_never true false = refl
and_never false c = refl

taken_empty : set.is_subset taken set.empty ≡ true
taken_empty = nowhere taken (λ k.
    removed (set.remove in_argument 178) 177 k ∙ ap (λ b. not (k == 177) && b) (removed in_argument 178 k ∙ ap (λ b. not (k == 178) && b) (alone 178 k)) ∙ and_never (not (k == 177)) (k == 178))

-- ---- the places of the holder: the temp; `h`; both; and `h` after the call

abbrev pub in_temp : PlaceSet
in_temp = set.insert set.empty 177

abbrev pub in_variable : PlaceSet
in_variable = set.remove (set.insert in_temp 1) 177

abbrev pub in_both : PlaceSet
in_both = set.insert in_variable 177

abbrev pub after_call : PlaceSet
after_call = set.remove (set.remove in_both 177) 177

abbrev pub after_drop : PlaceSet
after_drop = set.remove after_call 177

variable_has : set.contains in_variable 1 ≡ true
variable_has = removed (set.insert in_temp 1) 177 1 ∙ inserted in_temp 1 1

both_have : set.contains in_both 1 ≡ true
both_have = inserted in_variable 177 1 ∙ variable_has

both_have_temp : set.contains in_both 177 ≡ true
both_have_temp = inserted in_variable 177 177

call_has : set.contains after_call 1 ≡ true
call_has = removed (set.remove in_both 177) 177 1 ∙ removed in_both 177 1 ∙ both_have

drop_has : set.contains after_drop 1 ≡ true
drop_has = removed after_call 177 1 ∙ call_has

-- ---- names

-- `close` was called, and what it promises is no matter of its holder's
abbrev pub closed_names : Names
closed_names = set.union close_alone (set.union no_names no_names)

closed_met : set.is_subset close_alone closed_names ≡ true
closed_met = ap (set.is_subset close_alone) (ap (set.union close_alone) (union_none no_names) ∙ union_none close_alone) ∙ within_itself close_alone

-- ---- facts

abbrev pub resource_origin : Origin
resource_origin = record { kind = kinds.New; pos = in_source 8 31; class = resource; first = close_alone; full = close_alone }

abbrev pub holder_origin : Origin
holder_origin = record { kind = kinds.New; pos = in_source 8 20; class = holder; first = close_alone; full = close_alone }

abbrev pub fact : PlaceSet → Names → Fact
fact held called = record { origin = 0; places = held; mode = modes.Own; called = called; full = false }

pub takes : flow holding main_body resource_origin (actions.New holder_constructor 0 1) edges.Go (fact in_argument no_names) ≡ Gone
unfolding without_temps
takes = simp (alone 178 178, nothing_promised no_names, close_not_none, within_itself close_alone, taken_empty) refl

pub moves : flow holding main_body holder_origin (actions.Move (places.Var 1) (places.Temp 0)) edges.Go (fact in_temp no_names) ≡ Next (fact in_variable no_names)
moves = simp (alone 177 177, somewhere in_variable 1 variable_has) refl

pub copies : flow holding main_body holder_origin (actions.Copy (places.Temp 0) (places.Var 1)) edges.Go (fact in_variable no_names) ≡ Next (fact in_both no_names)
copies = simp (variable_has, somewhere in_both 1 both_have) refl

pub calls : flow holding main_body holder_origin (actions.Call holder_close 0 1 forms.Other) edges.Go (fact in_both no_names) ≡ Next (fact after_call closed_names)
unfolding without_temps
calls = simp (both_have_temp, somewhere after_call 1 call_has, nothing_left no_names) refl

pub drops : flow holding main_body holder_origin (actions.Drop (scopes.Temp 0)) edges.Go (fact after_call closed_names) ≡ Next (fact after_drop closed_names)
drops = simp (somewhere after_drop 1 drop_has) refl

pub returns : flow holding main_body holder_origin (actions.End (completions.Return (in_source 10 5))) edges.Go (fact after_drop closed_names) ≡ Gone
returns = simp (closed_met, nothing_promised closed_names) refl
