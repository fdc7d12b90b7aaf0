-- How the objects of one heap go on in another.
use Rattle.std.specs.Prelude.{◌≡◌, ◌⊎◌, ℕ, ◌+◌, ◌<◌, Bool, true, Option, Some, List, slice_get}
use Rattle.std.specs.FinSet as set
use Rattle.program_model.specs.declared.kinds.VType.{VType}
use Rattle.program_model.specs.declared.program.ParamSig.{ParamSig}
use Rattle.program_model.specs.declared.program.Program.{Program}
use Rattle.ledger_state.specs.Contents.{HeapContents}
use Rattle.ledger_state.specs.Heaps.{object_at, root_of}
use Rattle.ledger_state.specs.declared.entry.Owner.{Owner}
use Rattle.ledger_state.specs.declared.entry.Owner.TheVariants as owners
use Rattle.ledger_state.specs.declared.object.Link.{Link}
use Rattle.ledger_state.specs.declared.object.Object.{Object}
use Rattle.ledger_state.specs.declared.value.Value.{Value}
use Rattle.ledger_obligations.specs.declared.note.Note.{Note}
use Rattle.ledger_obligations.specs.Obligations.{given_up, may_move}

-- Object `k`, here `x`, is linked to one that was made before it: `x` is finished, and nobody owns it, since the end of its links, its root, has
-- the obligation.
pub record IsEarlierLink (k : ℕ) (x : Object) (l : Link) : Type 0 where
  pub there : 0 < l.to
  pub before : l.to < k
  pub owner : x.owner ≡ owners.Unowned
  pub finished : x.finished ≡ true

-- each object that is linked is linked so
abbrev pub HasEarlierLinks : HeapContents → Type 0
HasEarlierLinks h = (k : ℕ) (x : Object) (l : Link) → object_at h k ≡ Some x → x.link ≡ Some l → IsEarlierLink k x l

-- The object `x` goes on as `y`: all stays but its owner, and more names may have been called on it. (A reset is none of this.)
pub record GoesOn (x y : Object) : Type 0 where
  pub class : y.class ≡ x.class
  pub link : y.link ≡ x.link
  pub finished : y.finished ≡ x.finished
  pub must : y.must ≡ x.must
  pub called : set.is_subset x.called y.called ≡ true

-- object `n` of the heap `k`, here `y`, is an object of the heap `h` that went on, and its owner is the one it had, or `o`
pub record IsOlder (h : HeapContents) (n : ℕ) (y : Object) (o : Owner) : Type 0 where
  pub before : Object
  pub at : object_at h n ≡ Some before
  pub goes_on : GoesOn before y
  pub owner : (y.owner ≡ before.owner) ⊎ (y.owner ≡ o)

-- every object of the heap `h` goes on in the heap `k`
abbrev pub Evolves : HeapContents → HeapContents → Type 0
Evolves h k = (n : ℕ) (x : Object) → object_at h n ≡ Some x → (y : Object) × (object_at k n ≡ Some y) × GoesOn x y

-- every object of the heap `h` is in the heap `k`, linked as it was
abbrev pub KeepsLinks : HeapContents → HeapContents → Type 0
KeepsLinks h k = (n : ℕ) (x : Object) → object_at h n ≡ Some x → (y : Object) × (object_at k n ≡ Some y) × (y.link ≡ x.link)

-- one of the parameters, the first of which is at position `k`, is owning, and object `n`, here `x`, is the root of its argument and
-- may move to it
pub record IsGiven (p : Program) (arguments : ℕ → Value) (k : ℕ) (params : List ParamSig) (h : HeapContents) (n : ℕ) (x : Object) : Type 0 where
  pub index : ℕ
  pub param : ParamSig
  pub at : slice_get params index ≡ Some param
  pub owning : param.owning ≡ true
  pub root : root_of h (arguments (k + index)) ≡ Some n
  pub may : may_move p param.vtype x ≡ true

-- the object `x` with number `n` goes on as `y` over a move of the root `r` to a place of the type, whose owner is `o`: it has its owner,
-- or it is that root, and has the new one
abbrev pub IsMovedFrom : Program → VType → Owner → Option ℕ → ℕ → Object → Object → Type 0
IsMovedFrom p t o r n x y = GoesOn x y × ((y.owner ≡ x.owner) ⊎ ((y.owner ≡ o) × (r ≡ Some n) × (may_move p t x ≡ true)))

-- the object is as it was, or it was given up, as the test says
abbrev pub IsKeptOr : Bool → Object → Object → Type 0
IsKeptOr test x y = (y ≡ x) ⊎ ((test ≡ true) × (y ≡ given_up x))

-- the name of the note has a number below 128
abbrev pub HasSmallName : Note → Type 0
HasSmallName a = a.name.0 < 128
