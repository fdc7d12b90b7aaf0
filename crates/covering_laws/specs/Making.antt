-- Objects that are being made: a `new` has begun, and its constructor has not ended.
use Rattle.std.specs.Prelude.{◌≡◌, ℕ, true, Some, List, [], ◌∷◌, slice_get}
use Rattle.program_model.specs.declared.program.Program.{Program}
use Rattle.ledger_obligations.specs.MustCallSets.{is_heavy_class}
use Rattle.java_control.specs.Control.{Step}
use Rattle.java_control.specs.PlaceNumbers.{IsSmall}
use Rattle.control_actions.specs.declared.place.Place.{Place}
use Rattle.ledger_state.specs.Contents.{HeapContents}
use Rattle.ledger_state.specs.Heaps.{object_at, root_of}
use Rattle.ledger_state.specs.declared.object.Object.{Object}
use Rattle.ledger_state.specs.declared.value.Value.TheVariants as values
use Rattle.value_laws.specs.Places.{place_value}
use Rattle.value_laws.specs.Configuration.{Frame}
use Rattle.value_laws.specs.Choosing.{frame_steps}
use Rattle.value_laws.specs.FieldContents.{IsBeingMade, is_new}

-- no place of these frames holds object `w`
abbrev pub HoldNone : Program → HeapContents → ℕ → List Frame → Type 0
HoldNone p h w [] = Unit {0}
HoldNone p h w (fr ∷ frs) = ((q : Place) → IsSmall q → root_of h (place_value p h fr.method fr.locals q) ≡ Some w → ⊥) × HoldNone p h w frs

-- the frame runs the constructor of a `new` at which the caller waits, and neither the caller nor a frame below holds the object, where its class has an obligation
abbrev pub IsUnheld : Program → HeapContents → Frame → Frame → List Frame → Type 0
IsUnheld p h fr caller frs =
    (i : ℕ) (s : Step) (w : ℕ) (y : Object) → slice_get (frame_steps p caller) i ≡ Some s → is_new s.action ≡ true → fr.locals.this ≡ values.Object w → object_at h w ≡ Some y → is_heavy_class p y.class ≡ true → HoldNone p h w (caller ∷ frs)

-- the objects of constructors that run are not finished, and no frame that waits for them holds those whose class has an obligation
abbrev pub AreBeingMade : Program → HeapContents → List Frame → Type 0
AreBeingMade p h [] = Unit {0}
AreBeingMade p h (fr ∷ []) = Unit {0}
AreBeingMade p h (fr ∷ caller ∷ frs) = IsBeingMade p h fr caller × IsUnheld p h fr caller frs × AreBeingMade p h (caller ∷ frs)
