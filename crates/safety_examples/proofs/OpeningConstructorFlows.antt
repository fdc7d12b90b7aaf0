-- What the flow rules make of the facts of the resource and of `this` in the constructor.
use Rattle.std.proofs.Common.{◌≡◌, ℕ, Bool, true, false, eqb-true, refl, ap, ◌∙◌, not, ◌==◌, ◌&&◌, ◌||◌}
use Rattle.std.specs.FinSet as set
use Rattle.rlc_base.specs.NameSet.{inserted}
use Rattle.control_actions.specs.declared.action.Action.TheVariants as actions
use Rattle.control_actions.specs.declared.action.Completion.TheVariants as completions
use Rattle.control_actions.specs.declared.action.Edge.TheVariants as edges
use Rattle.control_actions.specs.declared.action.Scope.TheVariants as scopes
use Rattle.control_actions.specs.declared.action.TargetForm.TheVariants as forms
use Rattle.control_actions.specs.declared.fact.Fact.{Fact}
use Rattle.control_actions.specs.declared.fact.Mode.TheVariants as modes
use Rattle.control_actions.specs.declared.fact.Origin.{Origin}
use Rattle.control_actions.specs.declared.fact.OriginKind.TheVariants as kinds
use Rattle.control_actions.specs.declared.fact.Outcome.TheVariants.{Next, Gone}
use Rattle.control_actions.specs.declared.place.Place.TheVariants as places
use Rattle.java_control.specs.PlaceNumbers.{number_of}
use Rattle.obligation_facts.specs.Facts.{Names, PlaceSet, without_parts, without_temps}
use Rattle.soundness_laws.specs.Flow.{flow}
use Rattle.safety_examples.specs.CarefulPrograms.{close_alone, in_source, no_names}
use Rattle.safety_examples.specs.OpeningPrograms.{opening}
use Rattle.safety_examples.specs.ReplacingPrograms.{constructor_body, holder_reopen}
use Rattle.safety_examples.specs.OwnerPrograms.{held, holder, resource, resource_constructor}
use Rattle.safety_examples.proofs.CarefulSets.{close_not_none, within_itself}
use Rattle.safety_examples.proofs.PartSets.{is_no_field, parts_left}
use Rattle.safety_examples.proofs.OwnerSets.{alone, holds_field, nothing_left, nothing_promised, nowhere, removed, somewhere}

-- ---- the places of the resource

-- in the temp; in the field as well; without the temp; and as the temp takes `this`
abbrev pub in_temp : PlaceSet
in_temp = set.insert set.empty 177

abbrev pub in_field : PlaceSet
in_field = set.insert in_temp 161

abbrev pub stored : PlaceSet
stored = set.remove in_field 177

abbrev pub beside : PlaceSet
beside = set.remove stored 177

kept : (k : ℕ) → set.contains stored k ≡ (not (k == 177) && ((k == 161) || (k == 177)))
kept k = removed in_field 177 k ∙ ap (λ b. not (k == 177) && b) (inserted in_temp 161 k ∙ ap (λ b. (k == 161) || b) (alone 177 k))

here : (k : ℕ) → set.contains beside k ≡ (not (k == 177) && (not (k == 177) && ((k == 161) || (k == 177))))
here k = removed stored 177 k ∙ ap (λ b. not (k == 177) && b) (kept k)

-- nowhere, once the parts of `this` are left out
abbrev left_out : PlaceSet
left_out = set.remove (set.remove (without_parts beside) 177) 177

only_there : (b : Bool) → (not b && (not b && (false || b))) ≡ false
only_there true = refl
only_there false = refl

gone : set.is_subset left_out set.empty ≡ true
gone = nowhere left_out (λ k.
    removed (set.remove (without_parts beside) 177) 177 k ∙ none (not (k == 177)) (set.contains (set.remove (without_parts beside) 177) k)
    (removed (without_parts beside) 177 k ∙ none (not (k == 177)) (set.contains (without_parts beside) k)
    (parts_left beside k ∙ none (not (k == number_of places.Super)) (is_no_field k 0 16 && set.contains beside k) (by k (k == 161) refl))))
  where
    none : (a b : Bool) → b ≡ false → (a && b) ≡ false
    none true b is = is
    none false b is = refl

    by : (k : ℕ) (b : Bool) → (k == 161) ≡ b → (is_no_field k 0 16 && set.contains beside k) ≡ false
    by k true is = ap (λ (n : ℕ). is_no_field n 0 16 && set.contains beside n) (eqb-true k 161 is)
    by k false is = none (is_no_field k 0 16) (set.contains beside k) (here k ∙ ap (λ (b : Bool). not (k == 177) && (not (k == 177) && (b || (k == 177)))) is ∙ only_there (k == 177))

-- ---- the places of `this`

abbrev pub in_this : PlaceSet
in_this = set.insert set.empty 160

abbrev pub this_made : PlaceSet
this_made = set.remove in_this 177

abbrev pub this_stored : PlaceSet
this_stored = set.remove this_made 177

-- in the temp as well; without the temp after the call; and once it is dropped
abbrev pub this_taken : PlaceSet
this_taken = set.insert this_stored 177

abbrev pub this_called : PlaceSet
this_called = set.remove (set.remove (without_parts this_taken) 177) 177

abbrev pub this_left : PlaceSet
this_left = set.remove this_called 177

made : (k : ℕ) → set.contains this_made k ≡ (not (k == 177) && (k == 160))
made k = removed in_this 177 k ∙ ap (λ b. not (k == 177) && b) (alone 160 k)

beside_stored : (k : ℕ) → set.contains this_stored k ≡ (not (k == 177) && (not (k == 177) && (k == 160)))
beside_stored k = removed this_made 177 k ∙ ap (λ b. not (k == 177) && b) (made k)

taken : (k : ℕ) → set.contains this_taken k ≡ ((k == 177) || (not (k == 177) && (not (k == 177) && (k == 160))))
taken k = inserted this_stored 177 k ∙ ap (λ b. (k == 177) || b) (beside_stored k)

called : set.contains this_called 160 ≡ true
called = removed (set.remove (without_parts this_taken) 177) 177 160 ∙ removed (without_parts this_taken) 177 160 ∙ parts_left this_taken 160 ∙ taken 160

left : set.contains this_left 160 ≡ true
left = removed this_called 177 160 ∙ called

-- ---- the places of what the field holds after the call

abbrev pub in_held : PlaceSet
in_held = set.insert set.empty 161

abbrev pub held_left : PlaceSet
held_left = set.remove in_held 177

still : (k : ℕ) → set.contains held_left k ≡ (not (k == 177) && (k == 161))
still k = removed in_held 177 k ∙ ap (λ b. not (k == 177) && b) (alone 161 k)

-- ---- facts

abbrev pub resource_origin : Origin
resource_origin = record { kind = kinds.New; pos = in_source 4 28; class = resource; first = close_alone; full = close_alone }

abbrev pub this_origin : Origin
this_origin = record { kind = kinds.ThisRef; pos = in_source 4 5; class = holder; first = close_alone; full = close_alone }

-- what the field holds after the call
abbrev pub field_origin : Origin
field_origin = record { kind = kinds.FieldAt held; pos = in_source 4 49; class = resource; first = close_alone; full = close_alone }

abbrev pub new_fact : PlaceSet → Fact
new_fact held = record { origin = 0; places = held; mode = modes.Own; called = no_names; full = false }

-- the field holds it
abbrev pub held_fact : PlaceSet → Bool → Fact
held_fact held full = record { origin = 0; places = held; mode = modes.Held; called = no_names; full = full }

abbrev pub this_fact : PlaceSet → Names → Fact
this_fact held called = record { origin = 0; places = held; mode = modes.Lent; called = called; full = true }

-- what the constructor of the resource says of others: nothing
abbrev pub other_names : Names
other_names = set.union no_names no_names

pub stores : flow opening constructor_body resource_origin (actions.PutOwn held 0) edges.Go (new_fact in_temp) ≡ Next (held_fact in_field false)
stores = simp (alone 177 160, alone 177 177, alone 177 161, close_not_none, within_itself close_alone) refl

pub drops : flow opening constructor_body resource_origin (actions.Drop (scopes.Temp 0)) edges.Go (held_fact in_field false) ≡ Next (held_fact stored false)
drops = simp (somewhere stored 161 (kept 161), kept 160, holds_field stored (kept 161)) refl

pub takes_beside : flow opening constructor_body resource_origin (actions.Copy (places.Temp 0) places.This) edges.Go (held_fact stored false) ≡ Next (held_fact beside false)
takes_beside = simp (kept 160, somewhere beside 161 (here 161), here 160, holds_field beside (here 161)) refl

-- the call may store into the field
pub leaves_out : flow opening constructor_body resource_origin (actions.Call holder_reopen 0 1 forms.This) edges.Go (held_fact beside false) ≡ Gone
unfolding without_temps
leaves_out = simp (nothing_left no_names, here 177, gone) refl

pub drops_held : flow opening constructor_body field_origin (actions.Drop (scopes.Temp 0)) edges.Go (held_fact in_held true) ≡ Next (held_fact held_left true)
drops_held = simp (somewhere held_left 161 (still 161), still 160, holds_field held_left (still 161)) refl

pub returns : flow opening constructor_body field_origin (actions.End (completions.Return (in_source 4 59))) edges.Go (held_fact held_left true) ≡ Gone
returns = simp (nothing_promised no_names) refl

pub makes_beside_this : flow opening constructor_body this_origin (actions.New resource_constructor 0 0) edges.Go (this_fact in_this no_names) ≡ Next (this_fact this_made other_names)
unfolding without_temps
makes_beside_this = simp (nothing_left no_names, somewhere this_made 160 (made 160)) refl

pub stores_beside_this : flow opening constructor_body this_origin (actions.PutOwn held 0) edges.Go (this_fact this_made other_names) ≡ Next (this_fact this_made other_names)
stores_beside_this = simp (made 160, made 177, made 161) refl

pub drops_beside_this : flow opening constructor_body this_origin (actions.Drop (scopes.Temp 0)) edges.Go (this_fact this_made other_names) ≡ Next (this_fact this_stored other_names)
drops_beside_this = simp (somewhere this_stored 160 (beside_stored 160)) refl

pub takes : flow opening constructor_body this_origin (actions.Copy (places.Temp 0) places.This) edges.Go (this_fact this_stored other_names) ≡ Next (this_fact this_taken other_names)
takes = simp (beside_stored 160, somewhere this_taken 160 (taken 160)) refl

-- the obligation of `this` is created anew
pub calls_reopen : flow opening constructor_body this_origin (actions.Call holder_reopen 0 1 forms.This) edges.Go (this_fact this_taken other_names) ≡ Next (this_fact this_called no_names)
unfolding without_temps
calls_reopen = simp (taken 177, nothing_left other_names, somewhere this_called 160 called) refl

pub drops_this : flow opening constructor_body this_origin (actions.Drop (scopes.Temp 0)) edges.Go (this_fact this_called no_names) ≡ Next (this_fact this_left no_names)
drops_this = simp (somewhere this_left 160 left) refl

pub returns_this : flow opening constructor_body this_origin (actions.End (completions.Return (in_source 4 59))) edges.Go (this_fact this_left no_names) ≡ Gone
returns_this = simp (nothing_promised no_names) refl
