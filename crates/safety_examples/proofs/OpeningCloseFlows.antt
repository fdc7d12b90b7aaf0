-- What the flow rules make of the facts of the field and of `this` in `close`.
use Rattle.std.proofs.Common.{◌≡◌, ℕ, true, not, refl, ap, ◌∙◌, ◌==◌, ◌&&◌, ◌||◌}
use Rattle.std.specs.FinSet as set
use Rattle.rlc_base.specs.NameSet.{inserted}
use Rattle.program_model.proofs.NameLaws.{none_union, union_none}
use Rattle.control_actions.specs.declared.action.Action.TheVariants as actions
use Rattle.control_actions.specs.declared.action.Completion.TheVariants as completions
use Rattle.control_actions.specs.declared.action.Edge.TheVariants as edges
use Rattle.control_actions.specs.declared.action.Scope.TheVariants as scopes
use Rattle.control_actions.specs.declared.action.TargetForm.TheVariants as forms
use Rattle.control_actions.specs.declared.fact.Fact.{Fact}
use Rattle.control_actions.specs.declared.fact.Mode.{Mode}
use Rattle.control_actions.specs.declared.fact.Mode.TheVariants as modes
use Rattle.control_actions.specs.declared.fact.Origin.{Origin}
use Rattle.control_actions.specs.declared.fact.OriginKind.TheVariants as kinds
use Rattle.control_actions.specs.declared.fact.Outcome.TheVariants.{Next, Gone}
use Rattle.control_actions.specs.declared.place.Place.TheVariants as places
use Rattle.obligation_facts.specs.Facts.{Names, PlaceSet, without_temps}
use Rattle.soundness_laws.specs.Flow.{flow}
use Rattle.safety_examples.specs.CarefulPrograms.{close_alone, in_source, no_names}
use Rattle.safety_examples.specs.OpeningPrograms.{opening}
use Rattle.safety_examples.specs.ReplacingPrograms.{close_body}
use Rattle.safety_examples.specs.OwnerPrograms.{held, holder, resource, resource_close}
use Rattle.safety_examples.proofs.OpeningConstructorFlows.{in_this}
use Rattle.safety_examples.proofs.OwnerSets.{alone, holds_field, none_left, nothing_left, nothing_promised, removed, somewhere}

-- ---- the places of what the field holds

-- in the field; in the temp as well; without the temp after the call; and once it is dropped
abbrev pub in_field : PlaceSet
in_field = set.insert set.empty 161

abbrev pub in_both : PlaceSet
in_both = set.insert in_field 177

abbrev pub after_call : PlaceSet
after_call = set.remove (set.remove in_both 177) 177

abbrev pub after_drop : PlaceSet
after_drop = set.remove after_call 177

both : (k : ℕ) → set.contains in_both k ≡ ((k == 177) || (k == 161))
both k = inserted in_field 177 k ∙ ap (λ b. (k == 177) || b) (alone 161 k)

called : (k : ℕ) → set.contains after_call k ≡ (not (k == 177) && (not (k == 177) && ((k == 177) || (k == 161))))
called k = removed (set.remove in_both 177) 177 k ∙ ap (λ b. not (k == 177) && b) (removed in_both 177 k ∙ ap (λ b. not (k == 177) && b) (both k))

dropped : (k : ℕ) → set.contains after_drop k ≡ (not (k == 177) && (not (k == 177) && (not (k == 177) && ((k == 177) || (k == 161)))))
dropped k = removed after_call 177 k ∙ ap (λ b. not (k == 177) && b) (called k)

-- ---- the places of `this`

abbrev pub this_read : PlaceSet
this_read = set.remove in_this 177

abbrev pub this_called : PlaceSet
this_called = set.remove (set.remove this_read 177) 177

abbrev pub this_dropped : PlaceSet
this_dropped = set.remove this_called 177

read : (k : ℕ) → set.contains this_read k ≡ (not (k == 177) && (k == 160))
read k = removed in_this 177 k ∙ ap (λ b. not (k == 177) && b) (alone 160 k)

beside : (k : ℕ) → set.contains this_called k ≡ (not (k == 177) && (not (k == 177) && (not (k == 177) && (k == 160))))
beside k = removed (set.remove this_read 177) 177 k ∙ ap (λ b. not (k == 177) && b) (removed this_read 177 k ∙ ap (λ b. not (k == 177) && b) (read k))

last : (k : ℕ) → set.contains this_dropped k ≡ (not (k == 177) && (not (k == 177) && (not (k == 177) && (not (k == 177) && (k == 160)))))
last k = removed this_called 177 k ∙ ap (λ b. not (k == 177) && b) (beside k)

-- ---- names

-- what is called on the field, and on others
abbrev pub closed_names : Names
closed_names = set.union close_alone no_names

abbrev pub other_names : Names
other_names = set.union no_names no_names

-- what `close` promises of the field
abbrev promised_names : Names
promised_names = set.union (set.union no_names no_names) (set.union close_alone no_names)

promised_same : promised_names ≡ closed_names
promised_same = ap (λ (s : Names). set.union s closed_names) (union_none no_names) ∙ none_union closed_names

kept : set.is_subset (set.difference promised_names closed_names) no_names ≡ true
kept = ap (λ (s : Names). set.is_subset (set.difference s closed_names) no_names) promised_same ∙ none_left closed_names

none_promised : (t : Names) → set.is_subset (set.difference (set.union (set.union no_names no_names) (set.union no_names no_names)) t) no_names ≡ true
none_promised t = ap (λ (s : Names). set.is_subset (set.difference (set.union s s) t) no_names) (union_none no_names) ∙ nothing_promised t

-- ---- facts

abbrev pub field_origin : Origin
field_origin = record { kind = kinds.FieldAt held; pos = in_source 3 30; class = resource; first = close_alone; full = close_alone }

abbrev pub this_origin : Origin
this_origin = record { kind = kinds.ThisRef; pos = in_source 8 10; class = holder; first = close_alone; full = close_alone }

abbrev pub fact : PlaceSet → Mode → Names → Fact
fact held mode called = record { origin = 0; places = held; mode = mode; called = called; full = true }

pub copies : flow opening close_body field_origin (actions.Copy (places.Temp 0) (places.Field 0)) edges.Go (fact in_field modes.Held no_names) ≡ Next (fact in_both modes.Held no_names)
copies = simp (alone 161 161, somewhere in_both 161 (both 161), both 160, holds_field in_both (both 161)) refl

pub calls : flow opening close_body field_origin (actions.Call resource_close 0 1 forms.Other) edges.Go (fact in_both modes.Held no_names) ≡ Next (fact after_call modes.Held closed_names)
unfolding without_temps
calls = simp (both 177, nothing_left no_names, somewhere after_call 161 (called 161), called 160, holds_field after_call (called 161)) refl

pub drops : flow opening close_body field_origin (actions.Drop (scopes.Temp 0)) edges.Go (fact after_call modes.Held closed_names) ≡ Next (fact after_drop modes.Held closed_names)
drops = simp (somewhere after_drop 161 (dropped 161), dropped 160, holds_field after_drop (dropped 161)) refl

pub returns : flow opening close_body field_origin (actions.End (completions.Return (in_source 8 39))) edges.Go (fact after_drop modes.Held closed_names) ≡ Gone
returns = simp (dropped 161, kept) refl

pub copies_over_this : flow opening close_body this_origin (actions.Copy (places.Temp 0) (places.Field 0)) edges.Go (fact in_this modes.None no_names) ≡ Next (fact this_read modes.None no_names)
copies_over_this = simp (alone 160 161, somewhere this_read 160 (read 160)) refl

pub calls_beside_this : flow opening close_body this_origin (actions.Call resource_close 0 1 forms.Other) edges.Go (fact this_read modes.None no_names) ≡ Next (fact this_called modes.None other_names)
unfolding without_temps
calls_beside_this = simp (read 177, nothing_left no_names, somewhere this_called 160 (beside 160)) refl

pub drops_beside_this : flow opening close_body this_origin (actions.Drop (scopes.Temp 0)) edges.Go (fact this_called modes.None other_names) ≡ Next (fact this_dropped modes.None other_names)
drops_beside_this = simp (somewhere this_dropped 160 (last 160)) refl

pub returns_this : flow opening close_body this_origin (actions.End (completions.Return (in_source 8 39))) edges.Go (fact this_dropped modes.None other_names) ≡ Gone
returns_this = simp (last 161, none_promised other_names) refl
