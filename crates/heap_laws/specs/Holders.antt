-- The way up from an object: to the object whose field owns it, to the one whose field owns that, and so on.
use Rattle.std.specs.Prelude.{◌≡◌, ◌⊎◌, ℕ, Bool, true, false, None, Some}
use Rattle.program_model.specs.declared.kinds.ClassId.{ClassId}
use Rattle.program_model.specs.declared.kinds.FieldId.{FieldId}
use Rattle.ledger_state.specs.Contents.{HeapContents}
use Rattle.ledger_state.specs.Heaps.{object_at}
use Rattle.ledger_state.specs.declared.entry.Owner.TheVariants as owners
use Rattle.ledger_state.specs.declared.object.Object.{Object}
use Rattle.heap_laws.specs.Anew.{is_field_owner}

-- The object of the first number is within that of the second: it is that object, or a field of an object that is within it owns it.
pub data IsWithin (h : HeapContents) : ℕ → ℕ → Type 0 where
  itself : (o : ℕ) → IsWithin h o o
  by_field : (o v w : ℕ) (f : FieldId) (x : Object) → object_at h o ≡ Some x → x.owner ≡ owners.Field v f → IsWithin h v w → IsWithin h o w

-- one of the objects is within the other
abbrev pub IsComparable : HeapContents → ℕ → ℕ → Type 0
IsComparable h a b = IsWithin h a b ⊎ IsWithin h b a

-- the way up from object `o` ends at object `e`: no field owns that one
pub record HasTop (h : HeapContents) (o e : ℕ) : Type 0 where
  pub within : IsWithin h o e
  pub object : Object
  pub at : object_at h e ≡ Some object
  pub unheld : is_field_owner object.owner ≡ false

-- The object whose field owns one of a class that passes the test is there and linked to none, and its class passes the test.
abbrev pub HoldersAreUnlinked : (ClassId → Bool) → HeapContents → Type 0
HoldersAreUnlinked test h =
    (o : ℕ) (x : Object) (w : ℕ) (f : FieldId) → object_at h o ≡ Some x → test x.class ≡ true → x.owner ≡ owners.Field w f → (y : Object) × (object_at h w ≡ Some y) × (y.link ≡ None) × (test y.class ≡ true)

-- the class of the object with this number, where there is one, passes the test
abbrev pub IsTested : (ClassId → Bool) → HeapContents → ℕ → Type 0
IsTested test h o = (x : Object) → object_at h o ≡ Some x → test x.class ≡ true

-- nobody owns an object that is not finished
abbrev pub UnfinishedAreUnowned : HeapContents → Type 0
UnfinishedAreUnowned h = (o : ℕ) (x : Object) → object_at h o ≡ Some x → x.finished ≡ false → x.owner ≡ owners.Unowned

-- what a field owns in the heap `h` it owns in the heap `k`
abbrev pub FieldsGoOnOwning : HeapContents → HeapContents → Type 0
FieldsGoOnOwning h k = (o : ℕ) (x : Object) (w : ℕ) (f : FieldId) → object_at h o ≡ Some x → x.owner ≡ owners.Field w f → (y : Object) × (object_at k o ≡ Some y) × (y.owner ≡ owners.Field w f)

-- what a field owns in the heap `k` it owned in the heap `h`, or it is object `n`, and a field of object `w` owns it
abbrev pub FieldsOwnOneMore : ℕ → ℕ → HeapContents → HeapContents → Type 0
FieldsOwnOneMore n w h k = (o : ℕ) (y : Object) (v : ℕ) (f : FieldId) → object_at k o ≡ Some y → y.owner ≡ owners.Field v f
    → ((x : Object) × (object_at h o ≡ Some x) × (x.owner ≡ owners.Field v f)) ⊎ ((o ≡ n) × (v ≡ w))
