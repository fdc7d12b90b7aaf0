-- What the flow rules make of the facts of the parameter and of `this` in the constructor.
use Rattle.std.proofs.Common.{◌≡◌, ℕ, true, refl, ap, ◌∙◌, not, ◌==◌, ◌&&◌, ◌||◌}
use Rattle.std.specs.FinSet as set
use Rattle.rlc_base.specs.NameSet.{inserted}
use Rattle.control_actions.specs.declared.action.Action.TheVariants as actions
use Rattle.control_actions.specs.declared.action.Completion.TheVariants as completions
use Rattle.control_actions.specs.declared.action.Edge.TheVariants as edges
use Rattle.control_actions.specs.declared.action.Scope.TheVariants as scopes
use Rattle.control_actions.specs.declared.action.TargetForm.TheVariants as forms
use Rattle.control_actions.specs.declared.fact.Fact.{Fact}
use Rattle.control_actions.specs.declared.fact.Mode.{Mode}
use Rattle.control_actions.specs.declared.fact.Mode.TheVariants as modes
use Rattle.control_actions.specs.declared.fact.Origin.{Origin}
use Rattle.control_actions.specs.declared.fact.OriginKind.TheVariants as kinds
use Rattle.control_actions.specs.declared.fact.Outcome.TheVariants.{Next, Gone}
use Rattle.control_actions.specs.declared.place.Place.TheVariants as places
use Rattle.obligation_facts.specs.Facts.{Names, PlaceSet, without_temps}
use Rattle.soundness_laws.specs.Flow.{flow}
use Rattle.safety_examples.specs.CarefulPrograms.{close_alone, in_source, no_names}
use Rattle.safety_examples.specs.ResettingPrograms.{connect, constructor_body, held, holder, resetting, socket}
use Rattle.safety_examples.proofs.CarefulSets.{close_not_none, within_itself}
use Rattle.safety_examples.proofs.OwnerSets.{alone, holds_field, nothing_left, nothing_promised, removed, somewhere}

-- ---- the places of the parameter

-- in the variable; in the temp as well
abbrev pub in_variable : PlaceSet
in_variable = set.insert set.empty 0

abbrev pub in_both : PlaceSet
in_both = set.insert in_variable 177

-- after it is connected, and once the temp is gone; in the temp again; in the field as well; and without the temp
abbrev pub connected : PlaceSet
connected = set.remove (set.remove in_both 177) 177

abbrev pub left : PlaceSet
left = set.remove connected 177

abbrev pub read_again : PlaceSet
read_again = set.insert left 177

abbrev pub in_field : PlaceSet
in_field = set.insert read_again 161

abbrev pub after_drop : PlaceSet
after_drop = set.remove in_field 177

-- the members of these
both : (k : ℕ) → set.contains in_both k ≡ ((k == 177) || (k == 0))
both k = inserted in_variable 177 k ∙ ap (λ b. (k == 177) || b) (alone 0 k)

called : (k : ℕ) → set.contains connected k ≡ (not (k == 177) && (not (k == 177) && ((k == 177) || (k == 0))))
called k = removed (set.remove in_both 177) 177 k ∙ ap (λ b. not (k == 177) && b) (removed in_both 177 k ∙ ap (λ b. not (k == 177) && b) (both k))

kept : (k : ℕ) → set.contains left k ≡ (not (k == 177) && (not (k == 177) && (not (k == 177) && ((k == 177) || (k == 0)))))
kept k = removed connected 177 k ∙ ap (λ b. not (k == 177) && b) (called k)

again : (k : ℕ) → set.contains read_again k ≡ ((k == 177) || (not (k == 177) && (not (k == 177) && (not (k == 177) && ((k == 177) || (k == 0))))))
again k = inserted left 177 k ∙ ap (λ b. (k == 177) || b) (kept k)

dropped : (k : ℕ) → set.contains after_drop k ≡ (not (k == 177) && ((k == 161) || ((k == 177) || (not (k == 177) && (not (k == 177) && (not (k == 177) && ((k == 177) || (k == 0))))))))
dropped k = removed in_field 177 k ∙ ap (λ b. not (k == 177) && b) (inserted read_again 161 k ∙ ap (λ b. (k == 161) || b) (again k))

-- ---- the places of `this`

abbrev pub in_this : PlaceSet
in_this = set.insert set.empty 160

abbrev pub this_read : PlaceSet
this_read = set.remove in_this 177

abbrev pub this_called : PlaceSet
this_called = set.remove (set.remove this_read 177) 177

abbrev pub this_left : PlaceSet
this_left = set.remove this_called 177

abbrev pub this_again : PlaceSet
this_again = set.remove this_left 177

abbrev pub this_dropped : PlaceSet
this_dropped = set.remove this_again 177

-- `this` stands nowhere else
read : (k : ℕ) → set.contains this_read k ≡ (not (k == 177) && (k == 160))
read k = removed in_this 177 k ∙ ap (λ b. not (k == 177) && b) (alone 160 k)

beside : (k : ℕ) → set.contains this_called k ≡ (not (k == 177) && (not (k == 177) && (not (k == 177) && (k == 160))))
beside k = removed (set.remove this_read 177) 177 k ∙ ap (λ b. not (k == 177) && b) (removed this_read 177 k ∙ ap (λ b. not (k == 177) && b) (read k))

still : (k : ℕ) → set.contains this_left k ≡ (not (k == 177) && (not (k == 177) && (not (k == 177) && (not (k == 177) && (k == 160)))))
still k = removed this_called 177 k ∙ ap (λ b. not (k == 177) && b) (beside k)

last : (k : ℕ) → set.contains this_again k ≡ (not (k == 177) && (not (k == 177) && (not (k == 177) && (not (k == 177) && (not (k == 177) && (k == 160))))))
last k = removed this_left 177 k ∙ ap (λ b. not (k == 177) && b) (still k)

-- ---- facts

abbrev pub parameter_origin : Origin
parameter_origin = record { kind = kinds.Param 0; pos = in_source 4 27; class = socket; first = close_alone; full = close_alone }

abbrev pub this_origin : Origin
this_origin = record { kind = kinds.ThisRef; pos = in_source 4 5; class = holder; first = close_alone; full = close_alone }

abbrev pub fact : PlaceSet → Mode → Names → Fact
fact held mode called = record { origin = 0; places = held; mode = mode; called = called; full = true }

-- what `connect` says of others
abbrev pub other_names : Names
other_names = set.union no_names no_names

pub copies : flow resetting constructor_body parameter_origin (actions.Copy (places.Temp 0) (places.Var 0)) edges.Go (fact in_variable modes.Own no_names) ≡ Next (fact in_both modes.Own no_names)
copies = simp (alone 0 0, somewhere in_both 0 (both 0)) refl

pub connects : flow resetting constructor_body parameter_origin (actions.Call connect 0 1 forms.Other) edges.Go (fact in_both modes.Own no_names) ≡ Next (fact connected modes.Own no_names)
unfolding without_temps
connects = simp (both 177, somewhere connected 0 (called 0), nothing_left no_names, close_not_none) refl

pub leaves : flow resetting constructor_body parameter_origin (actions.Drop (scopes.Temp 0)) edges.Go (fact connected modes.Own no_names) ≡ Next (fact left modes.Own no_names)
leaves = simp (somewhere left 0 (kept 0)) refl

pub copies_again : flow resetting constructor_body parameter_origin (actions.Copy (places.Temp 0) (places.Var 0)) edges.Go (fact left modes.Own no_names) ≡ Next (fact read_again modes.Own no_names)
copies_again = simp (kept 0, somewhere read_again 0 (again 0)) refl

pub stores : flow resetting constructor_body parameter_origin (actions.PutOwn held 0) edges.Go (fact read_again modes.Own no_names) ≡ Next (fact in_field modes.Held no_names)
stores = simp (again 160, again 177, again 161, close_not_none, within_itself close_alone) refl

pub drops : flow resetting constructor_body parameter_origin (actions.Drop (scopes.Temp 0)) edges.Go (fact in_field modes.Held no_names) ≡ Next (fact after_drop modes.Held no_names)
drops = simp (somewhere after_drop 0 (dropped 0), dropped 160, holds_field after_drop (dropped 161)) refl

pub returns : flow resetting constructor_body parameter_origin (actions.End (completions.Return (in_source 4 60))) edges.Go (fact after_drop modes.Held no_names) ≡ Gone
returns = simp (nothing_promised no_names) refl

pub copies_over_this : flow resetting constructor_body this_origin (actions.Copy (places.Temp 0) (places.Var 0)) edges.Go (fact in_this modes.Lent no_names) ≡ Next (fact this_read modes.Lent no_names)
copies_over_this = simp (alone 160 0, somewhere this_read 160 (read 160)) refl

pub connects_beside_this : flow resetting constructor_body this_origin (actions.Call connect 0 1 forms.Other) edges.Go (fact this_read modes.Lent no_names) ≡ Next (fact this_called modes.Lent other_names)
unfolding without_temps
connects_beside_this = simp (read 177, nothing_left no_names, somewhere this_called 160 (beside 160)) refl

pub leaves_beside_this : flow resetting constructor_body this_origin (actions.Drop (scopes.Temp 0)) edges.Go (fact this_called modes.Lent other_names) ≡ Next (fact this_left modes.Lent other_names)
leaves_beside_this = simp (somewhere this_left 160 (still 160)) refl

pub copies_over_this_again : flow resetting constructor_body this_origin (actions.Copy (places.Temp 0) (places.Var 0)) edges.Go (fact this_left modes.Lent other_names) ≡ Next (fact this_again modes.Lent other_names)
copies_over_this_again = simp (still 0, somewhere this_again 160 (last 160)) refl

pub stores_beside_this : flow resetting constructor_body this_origin (actions.PutOwn held 0) edges.Go (fact this_again modes.Lent other_names) ≡ Next (fact this_again modes.Lent other_names)
stores_beside_this = simp (last 160, last 177, last 161) refl

pub drops_beside_this : flow resetting constructor_body this_origin (actions.Drop (scopes.Temp 0)) edges.Go (fact this_again modes.Lent other_names) ≡ Next (fact this_dropped modes.Lent other_names)
drops_beside_this = simp (somewhere this_dropped 160 (removed this_again 177 160 ∙ last 160)) refl

pub returns_this : flow resetting constructor_body this_origin (actions.End (completions.Return (in_source 4 60))) edges.Go (fact this_dropped modes.Lent other_names) ≡ Gone
returns_this = simp (nothing_promised other_names) refl
