-- Texts in owning fields. An operator other than `=` stores a text that it has made, in the place of another one (JLS 15.18.1, 15.26.2): nobody owes a call for either.
use Rattle.std.specs.Prelude.{◌≡◌, ◌⊎◌, ℕ, ◌+◌, Bool, true, false, Option, Some, None, List, [], ◌∷◌, slice_get}
use Rattle.program_model.specs.declared.kinds.FieldId.{FieldId}
use Rattle.program_model.specs.declared.program.Program.{Program}
use Rattle.ledger_obligations.specs.MustCallSets.{is_heavy_class}
use Rattle.java_control.specs.Control.{Step}
use Rattle.java_control.specs.Owned.{is_owning}
use Rattle.control_actions.specs.declared.action.Action.TheVariants as actions
use Rattle.ledger_state.specs.Contents.{HeapContents}
use Rattle.ledger_state.specs.Fields.{field_value}
use Rattle.ledger_state.specs.Heaps.{object_at}
use Rattle.ledger_state.specs.Locals.{temp_value}
use Rattle.ledger_state.specs.Values.{number_of}
use Rattle.ledger_state.specs.declared.entry.Owner.TheVariants as owners
use Rattle.ledger_state.specs.declared.object.Object.{Object}
use Rattle.ledger_state.specs.declared.value.Value.{Value}
use Rattle.ledger_state.specs.declared.value.Value.TheVariants as values
use Rattle.ledger_obligations.specs.Obligations.{given_up}
use Rattle.ledger_steps.specs.declared.store.Store.{Store}
use Rattle.value_laws.specs.Choosing.{frame_steps}
use Rattle.value_laws.specs.Configuration.{Frame}

-- the value is no object, or one whose class has no obligation and that is linked to none
abbrev pub IsLight : Program → HeapContents → Value → Type 0
IsLight p h v = (c : ℕ) (x : Object) → v ≡ values.Object c → object_at h c ≡ Some x → (is_heavy_class p x.class ≡ false) × (x.link ≡ None)

-- no object is stored into this field, which holds none that has an obligation
abbrev pub StoresText : Program → HeapContents → ℕ → FieldId → Value → Type 0
StoresText p h w f v = (number_of v ≡ None) × IsLight p h (field_value p h w f)

-- the store is into no owning field, or it stores a text
abbrev pub IsLightStore : Program → HeapContents → Option Store → Type 0
IsLightStore p h None = Unit {0}
IsLightStore p h (Some s) = (is_owning p s.field ≡ false) ⊎ StoresText p h s.holder s.field s.value

-- The next step of the frame stores into no owning field, but by `=` into one of `this`, or it stores a text.
abbrev pub UpdatesTexts : Program → HeapContents → Frame → Type 0
UpdatesTexts p h fr = (i : ℕ) (s : Step) (f : FieldId) (d w : ℕ) (through_this : Bool) → slice_get (frame_steps p fr) i ≡ Some s → s.action ≡ actions.Put f d through_this → is_owning p f ≡ true
    → number_of (temp_value fr.locals d) ≡ Some w → StoresText p h w f (temp_value fr.locals (d + 1))

-- so it is of each of these frames
abbrev pub AllUpdateTexts : Program → HeapContents → List Frame → Type 0
AllUpdateTexts p h [] = Unit {0}
AllUpdateTexts p h (fr ∷ frs) = UpdatesTexts p h fr × AllUpdateTexts p h frs

-- an object after such a store: it is as it was, or a field gave it up, and its class has no obligation
abbrev pub IsLeftByText : Program → Object → Object → Type 0
IsLeftByText p x y = (y ≡ x) ⊎ ((y ≡ given_up x) × (is_heavy_class p x.class ≡ false) × ((w : ℕ) × (f : FieldId) × (x.owner ≡ owners.Field w f)))

-- an owning field after such a store: it holds what it held, or a text in the place of one
abbrev pub HoldsOrTakesText : Program → HeapContents → HeapContents → ℕ → FieldId → Type 0
HoldsOrTakesText p h k w f = (field_value p k w f ≡ field_value p h w f) ⊎ (IsLight p h (field_value p h w f) × (number_of (field_value p k w f) ≡ None))
