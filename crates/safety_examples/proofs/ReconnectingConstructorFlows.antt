-- What the flow rules make of the facts of the socket and of `this` in the constructor.
use Rattle.std.proofs.Common.{◌≡◌, ℕ, true, false, refl, ap, ◌∙◌, not, ◌==◌, ◌&&◌, ◌||◌}
use Rattle.std.specs.FinSet as set
use Rattle.rlc_base.specs.NameSet.{inserted}
use Rattle.control_actions.specs.declared.action.Action.TheVariants as actions
use Rattle.control_actions.specs.declared.action.Completion.TheVariants as completions
use Rattle.control_actions.specs.declared.action.Edge.TheVariants as edges
use Rattle.control_actions.specs.declared.action.Scope.TheVariants as scopes
use Rattle.control_actions.specs.declared.fact.Fact.{Fact}
use Rattle.control_actions.specs.declared.fact.Mode.TheVariants as modes
use Rattle.control_actions.specs.declared.fact.Origin.{Origin}
use Rattle.control_actions.specs.declared.fact.OriginKind.TheVariants as kinds
use Rattle.control_actions.specs.declared.fact.Outcome.TheVariants.{Next, Gone}
use Rattle.obligation_facts.specs.Facts.{Names, PlaceSet, without_temps}
use Rattle.soundness_laws.specs.Flow.{flow}
use Rattle.safety_examples.specs.CarefulPrograms.{close_alone, in_source, no_names}
use Rattle.safety_examples.specs.ReconnectingPrograms.{reconnecting}
use Rattle.safety_examples.specs.ResettingPrograms.{constructor_body, held, holder, socket, socket_constructor}
use Rattle.safety_examples.proofs.CarefulSets.{close_not_none, within_itself}
use Rattle.safety_examples.proofs.OwnerSets.{alone, holds_field, nothing_left, nothing_promised, removed, somewhere}

-- ---- the places of the socket

-- in the temp; in the field as well; without the temp
abbrev pub in_temp : PlaceSet
in_temp = set.insert set.empty 177

abbrev pub in_field : PlaceSet
in_field = set.insert in_temp 161

abbrev pub stored : PlaceSet
stored = set.remove in_field 177

-- the members of this
kept : (k : ℕ) → set.contains stored k ≡ (not (k == 177) && ((k == 161) || (k == 177)))
kept k = removed in_field 177 k ∙ ap (λ b. not (k == 177) && b) (inserted in_temp 161 k ∙ ap (λ b. (k == 161) || b) (alone 177 k))

-- ---- the places of `this`: nowhere else, as the temp takes another value

abbrev pub in_this : PlaceSet
in_this = set.insert set.empty 160

abbrev pub this_made : PlaceSet
this_made = set.remove in_this 177

abbrev pub this_stored : PlaceSet
this_stored = set.remove this_made 177

made : (k : ℕ) → set.contains this_made k ≡ (not (k == 177) && (k == 160))
made k = removed in_this 177 k ∙ ap (λ b. not (k == 177) && b) (alone 160 k)

beside_stored : (k : ℕ) → set.contains this_stored k ≡ (not (k == 177) && (not (k == 177) && (k == 160)))
beside_stored k = removed this_made 177 k ∙ ap (λ b. not (k == 177) && b) (made k)

-- ---- facts

-- nothing must be called at first
abbrev pub socket_origin : Origin
socket_origin = record { kind = kinds.New; pos = in_source 4 28; class = socket; first = no_names; full = close_alone }

abbrev pub this_origin : Origin
this_origin = record { kind = kinds.ThisRef; pos = in_source 4 5; class = holder; first = close_alone; full = close_alone }

abbrev pub new_fact : PlaceSet → Fact
new_fact held = record { origin = 0; places = held; mode = modes.Own; called = no_names; full = false }

-- the field holds it
abbrev pub held_fact : PlaceSet → Fact
held_fact held = record { origin = 0; places = held; mode = modes.Held; called = no_names; full = false }

abbrev pub this_fact : PlaceSet → Names → Fact
this_fact held called = record { origin = 0; places = held; mode = modes.Lent; called = called; full = true }

-- what the constructor of the socket says of others: nothing
abbrev pub other_names : Names
other_names = set.union no_names no_names

pub stores : flow reconnecting constructor_body socket_origin (actions.PutOwn held 0) edges.Go (new_fact in_temp) ≡ Next (held_fact in_field)
stores = simp (alone 177 160, alone 177 177, alone 177 161, within_itself no_names, close_not_none, within_itself close_alone) refl

pub drops : flow reconnecting constructor_body socket_origin (actions.Drop (scopes.Temp 0)) edges.Go (held_fact in_field) ≡ Next (held_fact stored)
drops = simp (somewhere stored 161 (kept 161), kept 160, holds_field stored (kept 161)) refl

pub returns : flow reconnecting constructor_body socket_origin (actions.End (completions.Return (in_source 4 42))) edges.Go (held_fact stored) ≡ Gone
returns = simp (nothing_promised no_names) refl

pub makes_beside_this : flow reconnecting constructor_body this_origin (actions.New socket_constructor 0 0) edges.Go (this_fact in_this no_names) ≡ Next (this_fact this_made other_names)
unfolding without_temps
makes_beside_this = simp (nothing_left no_names, somewhere this_made 160 (made 160)) refl

pub stores_beside_this : flow reconnecting constructor_body this_origin (actions.PutOwn held 0) edges.Go (this_fact this_made other_names) ≡ Next (this_fact this_made other_names)
stores_beside_this = simp (made 160, made 177, made 161) refl

pub drops_beside_this : flow reconnecting constructor_body this_origin (actions.Drop (scopes.Temp 0)) edges.Go (this_fact this_made other_names) ≡ Next (this_fact this_stored other_names)
drops_beside_this = simp (somewhere this_stored 160 (beside_stored 160)) refl

pub returns_this : flow reconnecting constructor_body this_origin (actions.End (completions.Return (in_source 4 42))) edges.Go (this_fact this_stored other_names) ≡ Gone
returns_this = simp (nothing_promised other_names) refl
