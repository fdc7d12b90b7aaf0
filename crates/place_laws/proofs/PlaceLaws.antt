-- The laws, each under its name.
use Rattle.std.proofs.Common.{◌≡◌, ℕ, ◌<◌, ◌≤◌, true, false, ◌||◌, Some, None, length}
use Rattle.std.specs.FinSet as set
use Rattle.program_model.specs.declared.kinds.BodyId.{BodyId}
use Rattle.program_model.specs.declared.kinds.MethodId.{MethodId}
use Rattle.program_model.specs.declared.program.Program.{Program}
use Rattle.program_model.specs.declared.tree.Body.{Body}
use Rattle.program_model.specs.Lookups.{body_at}
use Rattle.control_actions.specs.declared.action.Action.{Action}
use Rattle.control_actions.specs.declared.action.Edge.{Edge}
use Rattle.control_actions.specs.declared.place.Place.{Place}
use Rattle.java_control.specs.PlaceNumbers.{IsSmall, number_of}
use Rattle.java_control.specs.Sources.{is_place, source}
use Rattle.step_laws.specs.Facts.{PlaceSet, has, is_nowhere}
use Rattle.step_laws.specs.SmallActions.{IsSmallAction}
use Rattle.step_laws.specs.PlaceRows.{places_after}
use Rattle.ledger_state.specs.Contents.{HeapContents}
use Rattle.ledger_state.specs.Heaps.{root_of}
use Rattle.ledger_state.specs.Locals.{held}
use Rattle.ledger_state.specs.declared.locals.Locals.{Locals}
use Rattle.ledger_state.specs.declared.value.Value.{Value}
use Rattle.ledger_frames.specs.Obligations.{holds}
use Rattle.ledger_frames.specs.Places.{place_value}
use Rattle.ledger_frames.specs.Choosing.{method_body}
use Rattle.ledger_frames.specs.Frames.{locals_after, made_place}
use Rattle.place_laws.specs.Places.{HasPlacesAlone, HasTarget, IsWay, SetsLocals, has_source, is_local, takes_alias}
use Rattle.place_laws.proofs.Numbers.{numbered, same_place, single_alone, single_has, single_some, some_held}
use Rattle.place_laws.proofs.Ranges.{no_other_joins, small_source, stays_alone}
use Rattle.place_laws.proofs.Rows.{row}
use Rattle.place_laws.proofs.AliasValues.{alias_value}
use Rattle.place_laws.proofs.FrameValues.{made_value, place_counts, same_variables, source_value}

pub place_is_numbered : (n : ℕ) → n < 242 → (q : Place) × IsSmall q × (number_of q ≡ n)
place_is_numbered = numbered

pub places_come_from_sources : (p : Program) (b : BodyId) (x : Body) (a : Action) (e : Edge) (held : PlaceSet) (q : Place) → body_at p b ≡ Some x → IsSmallAction p a
    → IsSmall q → is_local q ≡ true → IsWay a e
    → has (places_after p b a e held) q ≡ (takes_alias p a e held q || has_source held (source p x a e q))
places_come_from_sources p b x a e held q at fits small local way = row p b x e held q at small local a fits way

pub some_place_is_held : (held : PlaceSet) → HasPlacesAlone held → is_nowhere held ≡ false → (q : Place) × IsSmall q × (has held q ≡ true)
some_place_is_held = some_held

pub single_place-has : (x q : Place) → IsSmall x → IsSmall q → has (set.insert set.empty (number_of x)) q ≡ is_place x q
single_place-has = single_has

pub single_place-some : (x : Place) → is_nowhere (set.insert set.empty (number_of x)) ≡ false
single_place-some = single_some

pub single_place-alone : (x : Place) → IsSmall x → HasPlacesAlone (set.insert set.empty (number_of x))
single_place-alone = single_alone

pub single_place-same : (x q : Place) → is_place x q ≡ true → x ≡ q
single_place-same = same_place

pub places_stay_in_range : (p : Program) (b : BodyId) (a : Action) (e : Edge) (held : PlaceSet) → IsSmallAction p a → HasPlacesAlone held → HasPlacesAlone (places_after p b a e held)
places_stay_in_range = stays_alone

pub no_other_place_joins : (p : Program) (b : BodyId) (a : Action) (e : Edge) (held : PlaceSet) (q : Place) → IsSmallAction p a → SetsLocals a → IsSmall q → is_local q ≡ false
    → has (places_after p b a e held) q ≡ true → has held q ≡ true
no_other_place_joins p b a e held q fits = no_other_joins p b a e held fits q

pub source_is_small : (p : Program) (x : Body) (a : Action) (e : Edge) (q z : Place) → IsSmallAction p a → IsSmall q → source p x a e q ≡ Some z → IsSmall z
source_is_small = small_source

pub value_comes_from_source : (p : Program) (h k : HeapContents) (m : MethodId) (x : Body) (l : Locals) (a : Action) (e : Edge) (v : Value) (q z : Place) (o : ℕ)
    → method_body p m ≡ Some x → IsSmall q → is_local q ≡ true → HasTarget l a → source p x a e q ≡ Some z → root_of h (place_value p h m l z) ≡ Some o
    → place_value p k m (locals_after p h m l a e v) q ≡ place_value p h m l z
value_comes_from_source = source_value

pub made_value_stands : (p : Program) (h k : HeapContents) (m : MethodId) (x : Body) (l : Locals) (a : Action) (e : Edge) (v : Value) (q : Place)
    → method_body p m ≡ Some x → IsSmall q → is_local q ≡ true → HasTarget l a → made_place a ≡ Some q → source p x a e q ≡ None
    → place_value p k m (locals_after p h m l a e v) q ≡ v
made_value_stands = made_value

pub alias_stands : (p : Program) (h k : HeapContents) (m : MethodId) (x : Body) (l : Locals) (a : Action) (e : Edge) (v : Value) (held : PlaceSet) (q : Place)
    → method_body p m ≡ Some x → IsSmall q → HasTarget l a → takes_alias p a e held q ≡ true
    → place_value p k m (locals_after p h m l a e v) q ≡ v
alias_stands = alias_value

pub variables_stay : (p : Program) (h : HeapContents) (m : MethodId) (l : Locals) (a : Action) (e : Edge) (v : Value) → length l.variables ≤ 160
    → length (locals_after p h m l a e v).variables ≡ length l.variables
variables_stay = same_variables

pub held_place_counts : (p : Program) (h : HeapContents) (m : MethodId) (l : Locals) (q : Place) (o : ℕ) → is_local q ≡ true → root_of h (place_value p h m l q) ≡ Some o
    → holds h (held l) o ≡ true
held_place_counts = place_counts
