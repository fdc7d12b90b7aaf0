-- Changes of a heap that can be taken back: the objects that change are saved as they were.
use Rattle.std.specs.Prelude.{ℕ, ◌≡◌, ◌<◌, ◌≤◌, Bool, ◌&&◌, true, false, Some, option_map, List, [], ◌∷◌, ◌++◌, take, length, nat_eq, nat_lt, if◌then◌else◌}
use Rattle.std.specs.List.{flat_map, list_any}
use Rattle.program_model.specs.Lookups.{optional}
use Rattle.ledger_state.specs.declared.object.Object.{Object}
use Rattle.ledger_state.specs.declared.value.Value.{Value}
use Rattle.ledger_state.specs.Contents.{HeapContents}
use Rattle.ledger_state.specs.Heaps.{change_one, has_number, link_of, object_at, root_of, with_objects}
use Rattle.heap_drafts.specs.declared.saved.SavedObject.{SavedObject}

-- Objects that are put in their places

abbrev pub put_one : SavedObject → HeapContents → HeapContents
put_one b h = change_one b.number (λ _. b.object) h

-- each of these in its place, the last one first
abbrev pub put_back : List SavedObject → HeapContents → HeapContents
put_back [] h = h
put_back (b ∷ bs) h = put_one b (put_back bs h)

abbrev pub is_saved_as : ℕ → SavedObject → Bool
is_saved_as k b = nat_eq b.number k

-- the object `k` is one of these
abbrev pub is_saved : List SavedObject → ℕ → Bool
is_saved bs k = list_any (is_saved_as k) bs

-- the first `n` objects alone
abbrev pub shortened : ℕ → HeapContents → HeapContents
shortened n h = with_objects h (take n h.objects)

-- What is saved

abbrev pub saved_as : ℕ → Object → SavedObject
saved_as k x = record { number = k; object = x }

abbrev pub renewed_by : (ℕ → Object → Object) → ℕ → Object → SavedObject
renewed_by f k x = saved_as k (f k x)

abbrev pub renewed_one : (ℕ → Object → Object) → HeapContents → ℕ → List SavedObject
renewed_one f h k = optional (option_map (renewed_by f k) (object_at h k))

-- what a change makes of those objects of the heap that have these numbers
abbrev pub renewed : (ℕ → Object → Object) → HeapContents → List ℕ → List SavedObject
renewed f h ks = flat_map (renewed_one f h) ks

abbrev pub as_it_is : ℕ → Object → Object
as_it_is k x = x

-- these objects of the heap as they are
abbrev pub snapshots : HeapContents → List ℕ → List SavedObject
snapshots h ks = renewed as_it_is h ks

-- a link that is there stays
abbrev pub LinksStay : HeapContents → HeapContents → Type 0
LinksStay h g = (e j : ℕ) → link_of (object_at h e) ≡ Some j → link_of (object_at g e) ≡ Some j

-- only objects with these numbers change from the heap `h` to the heap `g`
pub record ChangesAmong (ks : List ℕ) (h g : HeapContents) : Type 0 where
  pub others : (k : ℕ) → has_number ks k ≡ false → object_at g k ≡ object_at h k
  pub fields : g.fields ≡ h.fields
  pub count : length g.objects ≡ length h.objects
  pub links : LinksStay h g

-- a part of a step leads from the heap `h`, where `bs` were saved, to the heap `g`, where `cs` are saved: with these put back, and the
-- objects that were made taken away, the heap is what it was; what is not saved did not change; and no link was taken away
pub record Drafted (bs : List SavedObject) (h : HeapContents) (cs : List SavedObject) (g : HeapContents) : Type 0 where
  pub back : (n : ℕ) → n ≤ length h.objects → put_back cs (shortened n g) ≡ put_back bs (shortened n h)
  pub more : (k : ℕ) → is_saved bs k ≡ true → is_saved cs k ≡ true
  pub others : (k : ℕ) → is_saved cs k ≡ false → object_at g k ≡ object_at h k
  pub fields : g.fields ≡ h.fields
  pub longer : length h.objects ≤ length g.objects
  pub links : LinksStay h g

-- the numbers rise, and the first one is beyond `k`
abbrev pub numbers_rise : ℕ → List ℕ → Bool
numbers_rise k [] = true
numbers_rise k (n ∷ ns) = nat_lt k n && numbers_rise n ns

-- each number of an object that is among the first ones is among the second ones
abbrev pub HasNumbers : List ℕ → List ℕ → Type 0
HasNumbers ks js = (k : ℕ) → 0 < k → has_number ks k ≡ true → has_number js k ≡ true

abbrev pub root_in : HeapContents → Value → List ℕ
root_in h v = optional (root_of h v)

-- the roots of what places hold
abbrev pub roots_of : HeapContents → List Value → List ℕ
roots_of h vs = flat_map (root_in h) vs

-- the number stands behind the others, where it is beyond the last one
abbrev pub with_beyond : ℕ → ℕ → List ℕ → List ℕ
with_beyond last n ns = if nat_lt last n then ns ++ n ∷ [] else ns

abbrev pub later : ℕ → ℕ → ℕ
later last n = if nat_lt last n then n else last
