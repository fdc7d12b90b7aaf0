-- What a store into an owning field leaves of each object.
use Rattle.std.specs.Prelude.{◌≡◌, ◌⊎◌, ℕ, true, Some}
use Rattle.program_model.specs.declared.kinds.FieldId.{FieldId}
use Rattle.program_model.specs.declared.program.Program.{Program}
use Rattle.program_model.specs.Lookups.{field_at}
use Rattle.ledger_state.specs.Contents.{HeapContents}
use Rattle.ledger_state.specs.Fields.{field_value}
use Rattle.ledger_state.specs.Heaps.{root_of}
use Rattle.ledger_state.specs.declared.entry.Owner.TheVariants as owners
use Rattle.ledger_state.specs.declared.object.Object.{Object}
use Rattle.ledger_state.specs.declared.value.Value.{Value}
use Rattle.ledger_obligations.specs.Obligations.{given_up, may_move, type_of_field, with_owner}

-- Value `v` is stored into the owning field `f` of object `w`. The field owned object `n`, here `x`, which it held, and it holds
-- another object from now on.
pub record IsDisplaced (p : Program) (h : HeapContents) (w : ℕ) (f : FieldId) (v : Value) (n : ℕ) (x : Object) : Type 0 where
  pub owner : x.owner ≡ owners.Field w f
  pub held : root_of h (field_value p h w f) ≡ Some n
  pub other : root_of h v ≡ Some n → ⊥

-- the value is object `n`, here `x`, which may move to the field
pub record IsMovedIn (p : Program) (h : HeapContents) (f : FieldId) (v : Value) (n : ℕ) (x : Object) : Type 0 where
  pub root : root_of h v ≡ Some n
  pub may : may_move p (type_of_field (field_at p f)) x ≡ true

-- Object `n`, which was `x`, is `y` after the store: it is as it was, or the field gave it up, or the field owns it.
abbrev pub IsStored : Program → HeapContents → ℕ → FieldId → Value → ℕ → Object → Object → Type 0
IsStored p h w f v n x y =
    (y ≡ x) ⊎ ((IsDisplaced p h w f v n x × (y ≡ given_up x)) ⊎ (IsMovedIn p h f v n x × (y ≡ with_owner (owners.Field w f) x)))
