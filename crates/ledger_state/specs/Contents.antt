-- The contents of a heap.
use Rattle.std.specs.Prelude.{List}
use Rattle.ledger_state.specs.declared.object.Object.{Object}
use Rattle.ledger_state.specs.declared.object.StoredField.{StoredField}

-- the class objects, of which that with number k stands at k - 1, and what their fields hold, where that was stored
pub record HeapContents : Type 0 where
  pub objects : List Object
  pub fields : List StoredField
