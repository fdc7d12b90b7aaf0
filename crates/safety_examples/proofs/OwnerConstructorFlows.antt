-- What the flow rules make of the facts of the parameter and of `this` in the constructor.
use Rattle.std.proofs.Common.{◌≡◌, ℕ, true, refl, ap, ◌∙◌, not, ◌==◌, ◌&&◌, ◌||◌}
use Rattle.std.specs.FinSet as set
use Rattle.rlc_base.specs.NameSet.{inserted}
use Rattle.control_actions.specs.declared.action.Action.TheVariants as actions
use Rattle.control_actions.specs.declared.action.Completion.TheVariants as completions
use Rattle.control_actions.specs.declared.action.Edge.TheVariants as edges
use Rattle.control_actions.specs.declared.action.Scope.TheVariants as scopes
use Rattle.control_actions.specs.declared.fact.Fact.{Fact}
use Rattle.control_actions.specs.declared.fact.Mode.{Mode}
use Rattle.control_actions.specs.declared.fact.Mode.TheVariants as modes
use Rattle.control_actions.specs.declared.fact.Origin.{Origin}
use Rattle.control_actions.specs.declared.fact.OriginKind.TheVariants as kinds
use Rattle.control_actions.specs.declared.fact.Outcome.TheVariants.{Next, Gone}
use Rattle.control_actions.specs.declared.place.Place.TheVariants as places
use Rattle.obligation_facts.specs.Facts.{PlaceSet}
use Rattle.soundness_laws.specs.Flow.{flow}
use Rattle.safety_examples.specs.CarefulPrograms.{close_alone, in_source, no_names}
use Rattle.safety_examples.specs.OwnerPrograms.{constructor_body, held, holder, holding, resource}
use Rattle.safety_examples.proofs.CarefulSets.{close_not_none, within_itself}
use Rattle.safety_examples.proofs.OwnerSets.{alone, holds_field, nothing_promised, removed, somewhere}

-- ---- the places of the parameter

-- in the variable; in the temp as well; in the field as well; and without the temp
abbrev pub in_variable : PlaceSet
in_variable = set.insert set.empty 0

abbrev pub in_both : PlaceSet
in_both = set.insert in_variable 177

abbrev pub in_field : PlaceSet
in_field = set.insert in_both 161

abbrev pub after_drop : PlaceSet
after_drop = set.remove in_field 177

-- the members of the places in the variable and the temp
both : (k : ℕ) → set.contains in_both k ≡ ((k == 177) || (k == 0))
both k = inserted in_variable 177 k ∙ ap (λ b. (k == 177) || b) (alone 0 k)

dropped : (k : ℕ) → set.contains after_drop k ≡ (not (k == 177) && ((k == 161) || ((k == 177) || (k == 0))))
dropped k = removed in_field 177 k ∙ ap (λ b. not (k == 177) && b) (inserted in_both 161 k ∙ ap (λ b. (k == 161) || b) (both k))

-- ---- the places of `this`

abbrev pub in_this : PlaceSet
in_this = set.insert set.empty 160

abbrev pub this_read : PlaceSet
this_read = set.remove in_this 177

abbrev pub this_dropped : PlaceSet
this_dropped = set.remove this_read 177

-- `this` stands nowhere else
read : (k : ℕ) → set.contains this_read k ≡ (not (k == 177) && (k == 160))
read k = removed in_this 177 k ∙ ap (λ b. not (k == 177) && b) (alone 160 k)

-- ---- facts

abbrev pub parameter_origin : Origin
parameter_origin = record { kind = kinds.Param 0; pos = in_source 4 29; class = resource; first = close_alone; full = close_alone }

abbrev pub this_origin : Origin
this_origin = record { kind = kinds.ThisRef; pos = in_source 4 5; class = holder; first = close_alone; full = close_alone }

abbrev pub fact : PlaceSet → Mode → Fact
fact held mode = record { origin = 0; places = held; mode = mode; called = no_names; full = true }

pub copies : flow holding constructor_body parameter_origin (actions.Copy (places.Temp 0) (places.Var 0)) edges.Go (fact in_variable modes.Own) ≡ Next (fact in_both modes.Own)
copies = simp (alone 0 0, somewhere in_both 0 (both 0)) refl

pub stores : flow holding constructor_body parameter_origin (actions.PutOwn held 0) edges.Go (fact in_both modes.Own) ≡ Next (fact in_field modes.Held)
stores = simp (both 160, both 177, both 161, close_not_none, within_itself close_alone) refl

pub drops : flow holding constructor_body parameter_origin (actions.Drop (scopes.Temp 0)) edges.Go (fact in_field modes.Held) ≡ Next (fact after_drop modes.Held)
drops = simp (somewhere after_drop 0 (dropped 0), dropped 160, holds_field after_drop (dropped 161)) refl

pub returns : flow holding constructor_body parameter_origin (actions.End (completions.Return (in_source 4 49))) edges.Go (fact after_drop modes.Held) ≡ Gone
returns = simp (nothing_promised no_names) refl

pub copies_over_this : flow holding constructor_body this_origin (actions.Copy (places.Temp 0) (places.Var 0)) edges.Go (fact in_this modes.Lent) ≡ Next (fact this_read modes.Lent)
copies_over_this = simp (alone 160 0, somewhere this_read 160 (read 160)) refl

pub stores_beside_this : flow holding constructor_body this_origin (actions.PutOwn held 0) edges.Go (fact this_read modes.Lent) ≡ Next (fact this_read modes.Lent)
stores_beside_this = simp (read 160, read 177, read 161) refl

pub drops_beside_this : flow holding constructor_body this_origin (actions.Drop (scopes.Temp 0)) edges.Go (fact this_read modes.Lent) ≡ Next (fact this_dropped modes.Lent)
drops_beside_this = simp (somewhere this_dropped 160 (removed this_read 177 160 ∙ read 160)) refl

pub returns_this : flow holding constructor_body this_origin (actions.End (completions.Return (in_source 4 49))) edges.Go (fact this_dropped modes.Lent) ≡ Gone
returns_this = simp (nothing_promised no_names) refl
