-- The objects that a change of the heap changes, by their numbers, and the lines of the ledger that it writes.
use Rattle.std.specs.Prelude.{ℕ, ◌≤◌, ◌≡◌, Bool, true, false, not, ◌&&◌, Option, Some, None, List, [], ◌∷◌, length, map, nat_eq, nat_lt, if◌then◌else◌}
use Rattle.std.specs.List.{All, flat_map, list_any}
use Rattle.program_model.specs.declared.program.Program.{Program}
use Rattle.program_model.specs.Lookups.{optional}
use Rattle.rlc_base.specs.declared.place.Pos.{Pos}
use Rattle.must_call_sets.specs.MustCallSets.{is_heavy_class}
use Rattle.ledger_state.specs.declared.entry.Entry.{Entry}
use Rattle.ledger_state.specs.declared.entry.Entry.TheVariants as entries
use Rattle.ledger_state.specs.declared.entry.LeakWord.{LeakWord}
use Rattle.ledger_state.specs.declared.object.Object.{Object}
use Rattle.ledger_state.specs.Contents.{HeapContents}
use Rattle.ledger_state.specs.Heaps.{is_reached, object_at}
use Rattle.ledger_entries.specs.Entries.{birth_line, called_lines, heavy_lines, is_lost, names_in_order, new_names, owner_before, owner_line}
use Rattle.draft_lines.specs.declared.change.ObjectChange.{ObjectChange}
use Rattle.draft_lines.specs.declared.leaks.Leak.{Leak}

-- Changes of objects

-- their numbers rise, and the first one is beyond `k`
abbrev pub rises_beyond : ℕ → List ObjectChange → Bool
rises_beyond k [] = true
rises_beyond k (c ∷ cs) = nat_lt k c.number && rises_beyond c.number cs

abbrev pub is_change_of : ℕ → ObjectChange → Bool
is_change_of k c = nat_eq c.number k

-- one of these is the change of the object `k`
abbrev pub has_change : List ObjectChange → ℕ → Bool
has_change cs k = list_any (is_change_of k) cs

-- the change of its object from the heap `h` to the heap `g`
abbrev pub IsBetween : HeapContents → HeapContents → ObjectChange → Type 0
IsBetween h g c = (object_at h c.number ≡ c.before) × (object_at g c.number ≡ Some c.after)

abbrev pub AllBetween : HeapContents → HeapContents → List ObjectChange → Type 0
AllBetween h g [] = Unit {0}
AllBetween h g (c ∷ cs) = IsBetween h g c × AllBetween h g cs

-- by these changes the objects of the heap `h` become those of the heap `g`
pub record Changes (h g : HeapContents) (cs : List ObjectChange) : Type 0 where
  pub rises : rises_beyond 0 cs ≡ true
  pub between : AllBetween h g cs
  pub others : (k : ℕ) (x : Object) → object_at g k ≡ Some x → has_change cs k ≡ false → object_at h k ≡ Some x

-- The lines of changes. Only objects whose class has a must-call set have lines

abbrev pub lines_of_change : Program → (ObjectChange → List Entry) → ObjectChange → List Entry
lines_of_change p line c = heavy_lines p c.after.class (line c)

abbrev pub lines_of_changes : Program → (ObjectChange → List Entry) → List ObjectChange → List Entry
lines_of_changes p line cs = flat_map (lines_of_change p line) cs

-- the names that were called

abbrev pub called_by : Program → Pos → ObjectChange → List Entry
called_by p pos c = called_lines pos (names_in_order p) (new_names c.before c.after) c.number

abbrev pub called_changes : Program → Pos → List ObjectChange → List Entry
called_changes p pos cs = lines_of_changes p (called_by p pos) cs

-- new owners

abbrev pub owner_by : Pos → ObjectChange → List Entry
owner_by pos c = optional (owner_line pos c.before c.number c.after)

abbrev pub owner_changes : Program → Pos → List ObjectChange → List Entry
owner_changes p pos cs = lines_of_changes p (owner_by pos) cs

-- objects that are finished

abbrev pub birth_by : Pos → ObjectChange → List Entry
birth_by pos c = optional (birth_line pos c.before c.number c.after)

abbrev pub birth_changes : Program → Pos → List ObjectChange → List Entry
birth_changes p pos cs = lines_of_changes p (birth_by pos) cs

-- Resets

abbrev pub reset_by : Pos → ObjectChange → List Entry
reset_by pos c = entries.Reset c.number pos ∷ []

abbrev pub reset_changes : Program → Pos → List ObjectChange → List Entry
reset_changes p pos cs = lines_of_changes p (reset_by pos) cs

-- the object that is there is reset with its root, which is one of these
abbrev pub IsReset : HeapContents → List ℕ → ObjectChange → Option Object → Type 0
IsReset h roots c None = ⊥
IsReset h roots c (Some x) = (x.class ≡ c.after.class) × (is_reached h roots c.number ≡ true)

abbrev pub AllReset : HeapContents → List ℕ → List ObjectChange → Type 0
AllReset h roots [] = Unit {0}
AllReset h roots (c ∷ cs) = IsReset h roots c (object_at h c.number) × AllReset h roots cs

-- these are the changes of all objects that have one of the roots
pub record ResetBy (h : HeapContents) (roots : List ℕ) (cs : List ObjectChange) : Type 0 where
  pub rises : rises_beyond 0 cs ≡ true
  pub reset : AllReset h roots cs
  pub others : (k : ℕ) (x : Object) → object_at h k ≡ Some x → has_change cs k ≡ false → is_reached h roots k ≡ false

-- Leaks

abbrev pub leak : LeakWord → Pos → ℕ → Leak
leak word pos k = record { number = k; word = word; pos = pos }

abbrev pub leak_by : LeakWord → Pos → ObjectChange → Option Leak
leak_by word pos c = if is_lost c.after.owner && not (is_lost (owner_before c.before)) then Some (leak word pos c.number) else None

abbrev pub leaks_of_change : Program → LeakWord → Pos → ObjectChange → List Leak
leaks_of_change p word pos c = if is_heavy_class p c.after.class then optional (leak_by word pos c) else []

-- the objects that are lost by the changes
abbrev pub leak_changes : Program → LeakWord → Pos → List ObjectChange → List Leak
leak_changes p word pos cs = flat_map (leaks_of_change p word pos) cs

abbrev pub leak_entry : Leak → Entry
leak_entry l = entries.Leak l.number l.word l.pos

abbrev pub leak_entries_of : List Leak → List Entry
leak_entries_of ls = map leak_entry ls

-- the leak is that of an object of the heap
abbrev pub IsOfHeap : HeapContents → Leak → Type 0
IsOfHeap h l = (1 ≤ l.number) × (l.number ≤ length h.objects)

abbrev pub AllOfHeap : HeapContents → List Leak → Type 0
AllOfHeap h ls = All (IsOfHeap h) ls
