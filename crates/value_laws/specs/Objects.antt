-- The classes of the objects of a heap: an object keeps its class, whatever becomes of it (JLS 4.3.1).
use Rattle.std.specs.Prelude.{◌≡◌, ℕ, Option, Some}
use Rattle.program_model.specs.declared.kinds.ClassId.{ClassId}
use Rattle.ledger_state.specs.Classes.{class_in}
use Rattle.ledger_state.specs.Contents.{HeapContents}
use Rattle.ledger_state.specs.Heaps.{object_at}

-- the class of the object with this number
abbrev pub object_class : HeapContents → ℕ → Option ClassId
object_class h n = class_in (object_at h n)

-- each object of the heap `h` is in the heap `k`, with its class
abbrev pub KeepsClasses : HeapContents → HeapContents → Type 0
KeepsClasses h k = (n : ℕ) (c : ClassId) → object_class h n ≡ Some c → object_class k n ≡ Some c
