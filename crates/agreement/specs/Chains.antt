-- The owners of owners: no way upwards through owning fields is without end.
use Rattle.std.specs.Prelude.{◌≡◌, ℕ, false, Some}
use Rattle.program_model.specs.declared.kinds.FieldId.{FieldId}
use Rattle.ledger_state.specs.Contents.{HeapContents}
use Rattle.ledger_state.specs.Heaps.{object_at}
use Rattle.ledger_state.specs.declared.entry.Owner.{Owner}
use Rattle.ledger_state.specs.declared.entry.Owner.TheVariants as owners
use Rattle.ledger_state.specs.declared.object.Object.{Object}

-- the owner is no field
abbrev pub IsLast : Owner → Type 0
IsLast (owners.Field w f) = ⊥
IsLast o = Unit {0}

-- the way upwards from this owner ends
pub data Ends (h : HeapContents) : Owner → Type 0 where
  ends_here : (o : Owner) → IsLast o → Ends h o
  of_field : (w : ℕ) (f : FieldId) (x : Object) → object_at h w ≡ Some x → Ends h x.owner → Ends h (owners.Field w f)

-- it does from each object, and nobody owns an object that is not finished
pub record HaveEnds (h : HeapContents) : Type 0 where
  pub ends : (o : ℕ) (x : Object) → object_at h o ≡ Some x → Ends h x.owner
  pub unfinished : (o : ℕ) (x : Object) → object_at h o ≡ Some x → x.finished ≡ false → x.owner ≡ owners.Unowned
