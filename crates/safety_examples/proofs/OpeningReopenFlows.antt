-- What the flow rules make of the facts of the field, of the new resource and of `this` in `reopen`.
use Rattle.std.proofs.Common.{◌≡◌, ℕ, true, false, Bool, not, refl, ap, ◌∙◌, ◌==◌, ◌&&◌, ◌||◌}
use Rattle.std.specs.FinSet as set
use Rattle.rlc_base.specs.NameSet.{inserted}
use Rattle.program_model.proofs.NameLaws.{union_none}
use Rattle.control_actions.specs.declared.action.Action.TheVariants as actions
use Rattle.control_actions.specs.declared.action.Completion.TheVariants as completions
use Rattle.control_actions.specs.declared.action.Edge.TheVariants as edges
use Rattle.control_actions.specs.declared.action.Scope.TheVariants as scopes
use Rattle.control_actions.specs.declared.action.TargetForm.TheVariants as forms
use Rattle.control_actions.specs.declared.fact.Fact.{Fact}
use Rattle.control_actions.specs.declared.fact.Mode.{Mode}
use Rattle.control_actions.specs.declared.fact.Mode.TheVariants as modes
use Rattle.control_actions.specs.declared.fact.Origin.{Origin}
use Rattle.control_actions.specs.declared.fact.OriginKind.TheVariants as kinds
use Rattle.control_actions.specs.declared.fact.Outcome.TheVariants.{Next, Gone}
use Rattle.control_actions.specs.declared.place.Place.TheVariants as places
use Rattle.obligation_facts.specs.Facts.{Names, PlaceSet, without_temps}
use Rattle.soundness_laws.specs.Flow.{flow}
use Rattle.safety_examples.specs.CarefulPrograms.{close_alone, in_source, no_names}
use Rattle.safety_examples.specs.OwnerPrograms.{held, holder, resource, resource_close, resource_constructor}
use Rattle.safety_examples.specs.OpeningPrograms.{opening}
use Rattle.safety_examples.specs.ReplacingPrograms.{reopen_body}
use Rattle.safety_examples.proofs.OpeningConstructorFlows.{in_this}
use Rattle.safety_examples.proofs.CarefulSets.{close_not_none, within_itself}
use Rattle.safety_examples.proofs.OwnerSets.{alone, holds_field, nothing_left, nothing_promised, nowhere, removed, somewhere}

-- ---- the places of what the field holds

-- in the field; in the temp as well; without the temp after the call; once it is dropped; and as the temp takes the new resource
abbrev pub in_field : PlaceSet
in_field = set.insert set.empty 161

abbrev pub in_both : PlaceSet
in_both = set.insert in_field 177

abbrev pub after_call : PlaceSet
after_call = set.remove (set.remove in_both 177) 177

abbrev pub after_drop : PlaceSet
after_drop = set.remove after_call 177

abbrev pub after_new : PlaceSet
after_new = set.remove after_drop 177

both : (k : ℕ) → set.contains in_both k ≡ ((k == 177) || (k == 161))
both k = inserted in_field 177 k ∙ ap (λ b. (k == 177) || b) (alone 161 k)

called : (k : ℕ) → set.contains after_call k ≡ (not (k == 177) && (not (k == 177) && ((k == 177) || (k == 161))))
called k = removed (set.remove in_both 177) 177 k ∙ ap (λ b. not (k == 177) && b) (removed in_both 177 k ∙ ap (λ b. not (k == 177) && b) (both k))

dropped : (k : ℕ) → set.contains after_drop k ≡ (not (k == 177) && (not (k == 177) && (not (k == 177) && ((k == 177) || (k == 161)))))
dropped k = removed after_call 177 k ∙ ap (λ b. not (k == 177) && b) (called k)

beside_new : (k : ℕ) → set.contains after_new k ≡ (not (k == 177) && (not (k == 177) && (not (k == 177) && (not (k == 177) && ((k == 177) || (k == 161))))))
beside_new k = removed after_drop 177 k ∙ ap (λ b. not (k == 177) && b) (dropped k)

-- nowhere, once the field is stored
left_out : (b c : Bool) → (not c && (not b && (not b && (not b && (not b && (b || c)))))) ≡ false
left_out true true = refl
left_out true false = refl
left_out false true = refl
left_out false false = refl

gone : set.is_subset (set.remove after_new 161) set.empty ≡ true
gone = nowhere (set.remove after_new 161) (λ k. removed after_new 161 k ∙ ap (λ b. not (k == 161) && b) (beside_new k) ∙ left_out (k == 177) (k == 161))

-- ---- the places of the new resource

-- in the temp; in the field as well; without the temp
abbrev pub in_temp : PlaceSet
in_temp = set.insert set.empty 177

abbrev pub new_field : PlaceSet
new_field = set.insert in_temp 161

abbrev pub stored : PlaceSet
stored = set.remove new_field 177

kept : (k : ℕ) → set.contains stored k ≡ (not (k == 177) && ((k == 161) || (k == 177)))
kept k = removed new_field 177 k ∙ ap (λ b. not (k == 177) && b) (inserted in_temp 161 k ∙ ap (λ b. (k == 161) || b) (alone 177 k))

-- ---- the places of `this`

abbrev pub this_read : PlaceSet
this_read = set.remove in_this 177

abbrev pub this_called : PlaceSet
this_called = set.remove (set.remove this_read 177) 177

abbrev pub this_dropped : PlaceSet
this_dropped = set.remove this_called 177

abbrev pub this_made : PlaceSet
this_made = set.remove this_dropped 177

abbrev pub this_stored : PlaceSet
this_stored = set.remove this_made 177

read : (k : ℕ) → set.contains this_read k ≡ (not (k == 177) && (k == 160))
read k = removed in_this 177 k ∙ ap (λ b. not (k == 177) && b) (alone 160 k)

beside : (k : ℕ) → set.contains this_called k ≡ (not (k == 177) && (not (k == 177) && (not (k == 177) && (k == 160))))
beside k = removed (set.remove this_read 177) 177 k ∙ ap (λ b. not (k == 177) && b) (removed this_read 177 k ∙ ap (λ b. not (k == 177) && b) (read k))

last : (k : ℕ) → set.contains this_dropped k ≡ (not (k == 177) && (not (k == 177) && (not (k == 177) && (not (k == 177) && (k == 160)))))
last k = removed this_called 177 k ∙ ap (λ b. not (k == 177) && b) (beside k)

made : (k : ℕ) → set.contains this_made k ≡ (not (k == 177) && (not (k == 177) && (not (k == 177) && (not (k == 177) && (not (k == 177) && (k == 160))))))
made k = removed this_dropped 177 k ∙ ap (λ b. not (k == 177) && b) (last k)

left : (k : ℕ) → set.contains this_stored k ≡ (not (k == 177) && (not (k == 177) && (not (k == 177) && (not (k == 177) && (not (k == 177) && (not (k == 177) && (k == 160)))))))
left k = removed this_made 177 k ∙ ap (λ b. not (k == 177) && b) (made k)

-- ---- names

-- what is called on the field, and what the constructor of the resource says of it besides: nothing
abbrev pub closed_names : Names
closed_names = set.union close_alone no_names

abbrev pub met_names : Names
met_names = set.union closed_names no_names

met : set.is_subset close_alone met_names ≡ true
met = ap (set.is_subset close_alone) (union_none closed_names ∙ union_none close_alone) ∙ within_itself close_alone

-- what both say of others: nothing
abbrev pub other_names : Names
other_names = set.union no_names no_names

abbrev pub no_more_names : Names
no_more_names = set.union other_names no_names

-- ---- facts

abbrev pub field_origin : Origin
field_origin = record { kind = kinds.FieldAt held; pos = in_source 3 30; class = resource; first = close_alone; full = close_alone }

abbrev pub resource_origin : Origin
resource_origin = record { kind = kinds.New; pos = in_source 6 52; class = resource; first = close_alone; full = close_alone }

abbrev pub this_origin : Origin
this_origin = record { kind = kinds.ThisRef; pos = in_source 6 10; class = holder; first = close_alone; full = close_alone }

abbrev pub fact : PlaceSet → Mode → Names → Fact
fact held mode called = record { origin = 0; places = held; mode = mode; called = called; full = true }

-- the obligation of the new resource was not created anew
abbrev pub new_fact : PlaceSet → Mode → Fact
new_fact held mode = record { origin = 0; places = held; mode = mode; called = no_names; full = false }

pub copies : flow opening reopen_body field_origin (actions.Copy (places.Temp 0) (places.Field 0)) edges.Go (fact in_field modes.Held no_names) ≡ Next (fact in_both modes.Held no_names)
copies = simp (alone 161 161, somewhere in_both 161 (both 161), both 160, holds_field in_both (both 161)) refl

pub calls : flow opening reopen_body field_origin (actions.Call resource_close 0 1 forms.Other) edges.Go (fact in_both modes.Held no_names) ≡ Next (fact after_call modes.Held closed_names)
unfolding without_temps
calls = simp (both 177, nothing_left no_names, somewhere after_call 161 (called 161), called 160, holds_field after_call (called 161)) refl

pub drops : flow opening reopen_body field_origin (actions.Drop (scopes.Temp 0)) edges.Go (fact after_call modes.Held closed_names) ≡ Next (fact after_drop modes.Held closed_names)
drops = simp (somewhere after_drop 161 (dropped 161), dropped 160, holds_field after_drop (dropped 161)) refl

pub makes_beside : flow opening reopen_body field_origin (actions.New resource_constructor 0 0) edges.Go (fact after_drop modes.Held closed_names) ≡ Next (fact after_new modes.Held met_names)
unfolding without_temps
makes_beside = simp (nothing_left closed_names, somewhere after_new 161 (beside_new 161), beside_new 160, holds_field after_new (beside_new 161)) refl

-- what was closed is replaced
pub replaces : flow opening reopen_body field_origin (actions.PutOwn held 0) edges.Go (fact after_new modes.Held met_names) ≡ Gone
replaces = simp (beside_new 160, beside_new 177, beside_new 161, gone, met) refl

pub stores : flow opening reopen_body resource_origin (actions.PutOwn held 0) edges.Go (new_fact in_temp modes.Own) ≡ Next (new_fact new_field modes.Held)
stores = simp (alone 177 160, alone 177 177, alone 177 161, close_not_none, within_itself close_alone) refl

pub drops_stored : flow opening reopen_body resource_origin (actions.Drop (scopes.Temp 0)) edges.Go (new_fact new_field modes.Held) ≡ Next (new_fact stored modes.Held)
drops_stored = simp (somewhere stored 161 (kept 161), kept 160, holds_field stored (kept 161)) refl

pub returns : flow opening reopen_body resource_origin (actions.End (completions.Return (in_source 6 68))) edges.Go (new_fact stored modes.Held) ≡ Gone
returns = simp (nothing_promised no_names) refl

-- the object is lent to the method, which creates its obligation anew
pub copies_over_this : flow opening reopen_body this_origin (actions.Copy (places.Temp 0) (places.Field 0)) edges.Go (fact in_this modes.Lent no_names) ≡ Next (fact this_read modes.Lent no_names)
copies_over_this = simp (alone 160 161, somewhere this_read 160 (read 160)) refl

pub calls_beside_this : flow opening reopen_body this_origin (actions.Call resource_close 0 1 forms.Other) edges.Go (fact this_read modes.Lent no_names) ≡ Next (fact this_called modes.Lent other_names)
unfolding without_temps
calls_beside_this = simp (read 177, nothing_left no_names, somewhere this_called 160 (beside 160)) refl

pub drops_beside_this : flow opening reopen_body this_origin (actions.Drop (scopes.Temp 0)) edges.Go (fact this_called modes.Lent other_names) ≡ Next (fact this_dropped modes.Lent other_names)
drops_beside_this = simp (somewhere this_dropped 160 (last 160)) refl

pub makes_beside_this : flow opening reopen_body this_origin (actions.New resource_constructor 0 0) edges.Go (fact this_dropped modes.Lent other_names) ≡ Next (fact this_made modes.Lent no_more_names)
unfolding without_temps
makes_beside_this = simp (nothing_left other_names, somewhere this_made 160 (made 160)) refl

pub stores_beside_this : flow opening reopen_body this_origin (actions.PutOwn held 0) edges.Go (fact this_made modes.Lent no_more_names) ≡ Next (fact this_made modes.Lent no_more_names)
stores_beside_this = simp (made 160, made 177, made 161, close_not_none) refl

pub drops_stored_beside_this : flow opening reopen_body this_origin (actions.Drop (scopes.Temp 0)) edges.Go (fact this_made modes.Lent no_more_names) ≡ Next (fact this_stored modes.Lent no_more_names)
drops_stored_beside_this = simp (somewhere this_stored 160 (left 160)) refl

pub returns_this : flow opening reopen_body this_origin (actions.End (completions.Return (in_source 6 68))) edges.Go (fact this_stored modes.Lent no_more_names) ≡ Gone
returns_this = simp (nothing_promised no_more_names) refl
