-- What the flow rules make of the facts of the parameter and of `this` in the constructor.
use Rattle.std.proofs.Common.{◌≡◌, ℕ, Bool, true, false, refl, ap, ◌∙◌, not, ◌==◌, ◌&&◌, ◌||◌}
use Rattle.std.specs.FinSet as set
use Rattle.rlc_base.specs.NameSet.{inserted}
use Rattle.control_actions.specs.declared.action.Action.TheVariants as actions
use Rattle.control_actions.specs.declared.action.Completion.TheVariants as completions
use Rattle.control_actions.specs.declared.action.Edge.TheVariants as edges
use Rattle.control_actions.specs.declared.action.Scope.TheVariants as scopes
use Rattle.control_actions.specs.declared.fact.Fact.{Fact}
use Rattle.control_actions.specs.declared.fact.Mode.{Mode}
use Rattle.control_actions.specs.declared.fact.Mode.TheVariants as modes
use Rattle.control_actions.specs.declared.fact.Origin.{Origin}
use Rattle.control_actions.specs.declared.fact.OriginKind.TheVariants as kinds
use Rattle.control_actions.specs.declared.fact.Outcome.TheVariants.{Next, Gone}
use Rattle.control_actions.specs.declared.place.Place.TheVariants as places
use Rattle.obligation_facts.specs.Facts.{Names, PlaceSet, without_temps}
use Rattle.soundness_laws.specs.Flow.{flow}
use Rattle.program_model.proofs.NameLaws.{none_union}
use Rattle.safety_examples.specs.CarefulPrograms.{close_alone, in_source, no_names}
use Rattle.safety_examples.specs.ExtendingPrograms.{base_constructor, constructor_body, extending, held, holder, resource}
use Rattle.safety_examples.proofs.CarefulSets.{close_not_none, within_itself}
use Rattle.safety_examples.proofs.ExtendingSets.{alone, holds_field, nothing_left, nothing_promised, removed, somewhere}

-- ---- the places of the parameter

-- in the variable, and so behind the call of the super constructor; in the temp as well; in the field as well; and without the temp
abbrev pub in_variable : PlaceSet
in_variable = set.insert set.empty 0

abbrev pub past_this : PlaceSet
past_this = set.remove in_variable 177

abbrev pub past_call : PlaceSet
past_call = set.remove (set.remove past_this 177) 177

abbrev pub past_drop : PlaceSet
past_drop = set.remove past_call 177

abbrev pub in_both : PlaceSet
in_both = set.insert past_drop 177

abbrev pub in_field : PlaceSet
in_field = set.insert in_both 161

abbrev pub after_drop : PlaceSet
after_drop = set.remove in_field 177

abbrev without : Bool → ℕ → Bool
without b k = not (k == 177) && b

-- the members of the places at each of them
this_past : (k : ℕ) → set.contains past_this k ≡ without (k == 0) k
this_past k = removed in_variable 177 k ∙ ap (λ b. without b k) (alone 0 k)

call_past : (k : ℕ) → set.contains past_call k ≡ without (without (without (k == 0) k) k) k
call_past k = removed (set.remove past_this 177) 177 k ∙ ap (λ b. without b k) (removed past_this 177 k ∙ ap (λ b. without b k) (this_past k))

drop_past : (k : ℕ) → set.contains past_drop k ≡ without (without (without (without (k == 0) k) k) k) k
drop_past k = removed past_call 177 k ∙ ap (λ b. without b k) (call_past k)

both : (k : ℕ) → set.contains in_both k ≡ ((k == 177) || without (without (without (without (k == 0) k) k) k) k)
both k = inserted past_drop 177 k ∙ ap (λ b. (k == 177) || b) (drop_past k)

dropped : (k : ℕ) → set.contains after_drop k ≡ without ((k == 161) || ((k == 177) || without (without (without (without (k == 0) k) k) k) k)) k
dropped k = removed in_field 177 k ∙ ap (λ b. without b k) (inserted in_both 161 k ∙ ap (λ b. (k == 161) || b) (both k))

-- ---- the places of `this`

abbrev pub in_this : PlaceSet
in_this = set.insert set.empty 160

abbrev pub this_taken : PlaceSet
this_taken = set.insert in_this 177

abbrev pub this_called : PlaceSet
this_called = set.remove (set.remove this_taken 177) 177

abbrev pub this_cleared : PlaceSet
this_cleared = set.remove this_called 177

abbrev pub this_read : PlaceSet
this_read = set.remove this_cleared 177

abbrev pub this_dropped : PlaceSet
this_dropped = set.remove this_read 177

-- `this` stands in the temp for the call alone
taken : (k : ℕ) → set.contains this_taken k ≡ ((k == 177) || (k == 160))
taken k = inserted in_this 177 k ∙ ap (λ b. (k == 177) || b) (alone 160 k)

called : (k : ℕ) → set.contains this_called k ≡ without (without ((k == 177) || (k == 160)) k) k
called k = removed (set.remove this_taken 177) 177 k ∙ ap (λ b. without b k) (removed this_taken 177 k ∙ ap (λ b. without b k) (taken k))

cleared : (k : ℕ) → set.contains this_cleared k ≡ without (without (without ((k == 177) || (k == 160)) k) k) k
cleared k = removed this_called 177 k ∙ ap (λ b. without b k) (called k)

read : (k : ℕ) → set.contains this_read k ≡ without (without (without (without ((k == 177) || (k == 160)) k) k) k) k
read k = removed this_cleared 177 k ∙ ap (λ b. without b k) (cleared k)

-- ---- names

-- the super constructor promises nothing
abbrev pub none_called : Names
none_called = set.union no_names no_names

none_called_same : none_called ≡ no_names
none_called_same = none_union no_names

close_not_called : set.is_subset close_alone none_called ≡ false
close_not_called = ap (set.is_subset close_alone) none_called_same ∙ close_not_none

-- ---- facts

abbrev pub parameter_origin : Origin
parameter_origin = record { kind = kinds.Param 0; pos = in_source 4 29; class = resource; first = close_alone; full = close_alone }

abbrev pub this_origin : Origin
this_origin = record { kind = kinds.ThisRef; pos = in_source 4 5; class = holder; first = close_alone; full = close_alone }

abbrev pub fact : PlaceSet → Mode → Fact
fact held mode = record { origin = 0; places = held; mode = mode; called = no_names; full = true }

-- behind the call of the super constructor
abbrev pub fact_after : PlaceSet → Mode → Fact
fact_after held mode = record { origin = 0; places = held; mode = mode; called = none_called; full = true }

-- ---- the parameter

pub stays_beside_this : flow extending constructor_body parameter_origin (actions.Copy (places.Temp 0) places.This) edges.Go (fact in_variable modes.Own) ≡ Next (fact past_this modes.Own)
stays_beside_this = simp (alone 0 160, somewhere past_this 0 (this_past 0)) refl

pub stays_at_call : flow extending constructor_body parameter_origin (actions.Super base_constructor 0 1) edges.Go (fact past_this modes.Own) ≡ Next (fact_after past_call modes.Own)
unfolding without_temps
stays_at_call = simp (nothing_left no_names, this_past 177, somewhere past_call 0 (call_past 0)) refl

pub stays_at_drop : flow extending constructor_body parameter_origin (actions.Drop (scopes.Temp 0)) edges.Go (fact_after past_call modes.Own) ≡ Next (fact_after past_drop modes.Own)
stays_at_drop = simp (somewhere past_drop 0 (drop_past 0)) refl

pub copies : flow extending constructor_body parameter_origin (actions.Copy (places.Temp 0) (places.Var 0)) edges.Go (fact_after past_drop modes.Own) ≡ Next (fact_after in_both modes.Own)
copies = simp (drop_past 0, somewhere in_both 0 (both 0)) refl

pub stores : flow extending constructor_body parameter_origin (actions.PutOwn held 0) edges.Go (fact_after in_both modes.Own) ≡ Next (fact_after in_field modes.Held)
stores = simp (both 160, both 177, both 161, close_not_called, close_not_none, within_itself close_alone) refl

pub drops : flow extending constructor_body parameter_origin (actions.Drop (scopes.Temp 0)) edges.Go (fact_after in_field modes.Held) ≡ Next (fact_after after_drop modes.Held)
drops = simp (somewhere after_drop 0 (dropped 0), dropped 160, holds_field after_drop (dropped 161)) refl

pub returns : flow extending constructor_body parameter_origin (actions.End (completions.Return (in_source 4 58))) edges.Go (fact_after after_drop modes.Held) ≡ Gone
returns = simp (nothing_promised none_called) refl

-- ---- `this`

pub takes_this : flow extending constructor_body this_origin (actions.Copy (places.Temp 0) places.This) edges.Go (fact in_this modes.Lent) ≡ Next (fact this_taken modes.Lent)
takes_this = simp (alone 160 160, somewhere this_taken 160 (taken 160)) refl

pub calls_on_this : flow extending constructor_body this_origin (actions.Super base_constructor 0 1) edges.Go (fact this_taken modes.Lent) ≡ Next (fact_after this_called modes.Lent)
unfolding without_temps
calls_on_this = simp (taken 177, nothing_left no_names, somewhere this_called 160 (called 160)) refl

pub clears_this : flow extending constructor_body this_origin (actions.Drop (scopes.Temp 0)) edges.Go (fact_after this_called modes.Lent) ≡ Next (fact_after this_cleared modes.Lent)
clears_this = simp (somewhere this_cleared 160 (cleared 160)) refl

pub copies_over_this : flow extending constructor_body this_origin (actions.Copy (places.Temp 0) (places.Var 0)) edges.Go (fact_after this_cleared modes.Lent) ≡ Next (fact_after this_read modes.Lent)
copies_over_this = simp (cleared 0, somewhere this_read 160 (read 160)) refl

pub stores_beside_this : flow extending constructor_body this_origin (actions.PutOwn held 0) edges.Go (fact_after this_read modes.Lent) ≡ Next (fact_after this_read modes.Lent)
stores_beside_this = simp (read 160, read 177, read 161) refl

pub drops_beside_this : flow extending constructor_body this_origin (actions.Drop (scopes.Temp 0)) edges.Go (fact_after this_read modes.Lent) ≡ Next (fact_after this_dropped modes.Lent)
drops_beside_this = simp (somewhere this_dropped 160 (removed this_read 177 160 ∙ ap (λ b. without b 160) (read 160))) refl

pub returns_this : flow extending constructor_body this_origin (actions.End (completions.Return (in_source 4 58))) edges.Go (fact_after this_dropped modes.Lent) ≡ Gone
returns_this = simp (nothing_promised none_called) refl
