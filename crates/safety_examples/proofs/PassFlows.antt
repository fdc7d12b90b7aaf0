-- What the flow rules make of the fact of the aliased parameter in `pass`.
use Rattle.std.proofs.Common.{◌≡◌, true, refl, ◌∙◌}
use Rattle.std.specs.FinSet as set
use Rattle.rlc_base.specs.NameSet.{inserted}
use Rattle.control_actions.specs.declared.action.Action.TheVariants as actions
use Rattle.control_actions.specs.declared.action.Completion.TheVariants as completions
use Rattle.control_actions.specs.declared.action.Edge.TheVariants as edges
use Rattle.control_actions.specs.declared.fact.Fact.{Fact}
use Rattle.control_actions.specs.declared.fact.Mode.TheVariants as modes
use Rattle.control_actions.specs.declared.fact.Origin.{Origin}
use Rattle.control_actions.specs.declared.fact.OriginKind.TheVariants as kinds
use Rattle.control_actions.specs.declared.fact.Outcome.TheVariants.{Next, Gone}
use Rattle.control_actions.specs.declared.place.Place.TheVariants as places
use Rattle.obligation_facts.specs.Facts.{PlaceSet}
use Rattle.soundness_laws.specs.Flow.{flow}
use Rattle.safety_examples.specs.OwnerPrograms.{close_alone, in_source, no_names}
use Rattle.safety_examples.specs.OwnerPrograms.{resource}
use Rattle.safety_examples.specs.AliasPrograms.{aliasing, pass_body}
use Rattle.safety_examples.proofs.OwnerSets.{alone, close_not_none, nothing_promised, somewhere}

-- ---- the places of the parameter: the variable; and the temp of the result as well

abbrev pub in_variable : PlaceSet
in_variable = set.insert set.empty 0

abbrev pub in_both : PlaceSet
in_both = set.insert in_variable 177

both_have : set.contains in_both 0 ≡ true
both_have = inserted in_variable 177 0 ∙ alone 0 0

both_have_temp : set.contains in_both 177 ≡ true
both_have_temp = inserted in_variable 177 177

-- ---- facts

abbrev pub parameter_origin : Origin
parameter_origin = record { kind = kinds.Param 0; pos = in_source 3 50; class = resource; first = close_alone; full = close_alone }

-- the parameter is that of which the result is an alias
abbrev pub fact : PlaceSet → Fact
fact held = record { origin = 0; places = held; mode = modes.Alias; called = no_names; full = true }

pub copies : flow aliasing pass_body parameter_origin (actions.Copy (places.Temp 0) (places.Var 0)) edges.Go (fact in_variable) ≡ Next (fact in_both)
copies = simp (alone 0 0, somewhere in_both 0 both_have) refl

-- the result moves to the caller as an alias
pub returns : flow aliasing pass_body parameter_origin (actions.End (completions.ReturnValue 0 (in_source 3 55))) edges.Go (fact in_both) ≡ Gone
returns = simp (both_have_temp, close_not_none, nothing_promised no_names) refl
