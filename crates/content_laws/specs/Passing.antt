-- Names that a call is noted by on an object, and that go on from there through links.
use Rattle.std.specs.Prelude.{◌≡◌, ℕ, true, false, Some}
use Rattle.rlc_base.specs.declared.name_id.NameId.{NameId}
use Rattle.program_model.specs.declared.program.Program.{Program}
use Rattle.ledger_obligations.specs.Obligations.{goes_on}
use Rattle.ledger_state.specs.Contents.{HeapContents}
use Rattle.ledger_state.specs.Heaps.{object_at}
use Rattle.ledger_state.specs.declared.object.Link.{Link}
use Rattle.ledger_state.specs.declared.object.Object.{Object}

-- A name that is noted on object `k` goes on from it, or through links that the library made from one behind it, through a link that a constructor of the
-- program made.
pub data PassesProgram (p : Program) (h : HeapContents) (n : NameId) : ℕ → Type 0 where
  by_program : (k : ℕ) (x : Object) (l : Link) → object_at h k ≡ Some x → x.link ≡ Some l → l.by_library ≡ false → goes_on p n x l ≡ true → PassesProgram p h n k
  by_library : (k : ℕ) (x : Object) (l : Link) → object_at h k ≡ Some x → x.link ≡ Some l → l.by_library ≡ true → PassesProgram p h n l.to → PassesProgram p h n k
