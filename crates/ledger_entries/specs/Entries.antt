-- The lines of the ledger that a change of the heap writes. Only objects whose class has a must-call set have lines. Each list
-- goes by the objects' numbers.
use Rattle.std.specs.Prelude.{ℕ, ◌+◌, Bool, true, false, not, ◌&&◌, Option, Some, None, List, [], ◌∷◌, ◌++◌, length, filter, map, slice_get, nat_eq, if◌then◌else◌}
use Rattle.std.specs.List.{flat_map, insert, position_from, range_with_len}
use Rattle.std.specs.Option.{unwrap_or}
use Rattle.std.specs.Ordering.{nat_cmp, is_lt}
use Rattle.std.specs.Cmp.Lexicographic.{slice_cmp}
use Rattle.std.specs.FinSet as set
use Rattle.program_model.specs.declared.kinds.ClassId.{ClassId}
use Rattle.program_model.specs.declared.program.Program.{Program}
use Rattle.program_model.specs.Lookups.{optional}
use Rattle.rlc_base.specs.declared.name_id.NameId.{NameId}
use Rattle.rlc_base.specs.declared.place.Pos.{Pos}
use Rattle.must_call_sets.specs.MustCallSets.{Names, is_heavy_class, no_names}
use Rattle.ledger_state.specs.declared.entry.Entry.{Entry}
use Rattle.ledger_state.specs.declared.entry.Entry.TheVariants as entries
use Rattle.ledger_state.specs.declared.entry.LeakWord.{LeakWord}
use Rattle.ledger_state.specs.declared.entry.Owner.{Owner}
use Rattle.ledger_state.specs.declared.entry.Owner.TheVariants as owners
use Rattle.ledger_state.specs.declared.object.Link.{Link}
use Rattle.ledger_state.specs.declared.object.Object.{Object}
use Rattle.ledger_state.specs.Contents.{HeapContents}
use Rattle.ledger_state.specs.Heaps.{is_reached, object_at}

abbrev pub heavy_lines : Program → ClassId → List Entry → List Entry
heavy_lines p c found = if is_heavy_class p c then found else []

-- the lines of the objects, whose numbers begin at `k`
abbrev pub lines_from : Program → (ℕ → Object → List Entry) → ℕ → List Object → List Entry
lines_from p line k [] = []
lines_from p line k (x ∷ xs) = heavy_lines p x.class (line k x) ++ lines_from p line (k + 1) xs

-- the lines of each object of the heap
abbrev pub lines : Program → (ℕ → Object → List Entry) → HeapContents → List Entry
lines p line h = lines_from p line 1 h.objects

-- the names of the table in the order of their bytes

abbrev pub name_bytes : Program → ℕ → List ℕ
name_bytes p n = unwrap_or (slice_get p.names n) []

abbrev pub comes_before : Program → ℕ → NameId → Bool
comes_before p n m = is_lt (slice_cmp nat_cmp (name_bytes p n) (name_bytes p m.0))

abbrev pub name_of_number : ℕ → NameId
name_of_number n = record { 0 = n }

-- the name, before the first of the names that it comes before
abbrev pub with_name : Program → ℕ → List NameId → List NameId
with_name p n names = insert names (unwrap_or (position_from (comes_before p n) 0 names) (length names)) (name_of_number n)

abbrev pub in_order : Program → List ℕ → List NameId
in_order p [] = []
in_order p (n ∷ ns) = with_name p n (in_order p ns)

abbrev pub names_in_order : Program → List NameId
names_in_order p = in_order p (range_with_len 0 (length p.names))

-- `called`: the names that the object has now and had not before

abbrev pub names_before : Option Object → Names
names_before None = no_names
names_before (Some x) = x.called

abbrev pub new_names : Option Object → Object → Names
new_names before x = set.difference x.called (names_before before)

abbrev pub is_among : Names → NameId → Bool
is_among names n = set.contains names n.0

abbrev pub called_line : ℕ → Pos → NameId → Entry
called_line k pos n = entries.Called k n pos

-- the lines of these new names of object `k`, in the order of the list
abbrev pub called_lines : Pos → List NameId → Names → ℕ → List Entry
called_lines pos names fresh k = map (called_line k pos) (filter (is_among fresh) names)

abbrev pub called_in : Program → Pos → HeapContents → ℕ → Object → List Entry
called_in p pos before k x = called_lines pos (names_in_order p) (new_names (object_at before k) x) k

abbrev pub called_entries : Program → Pos → HeapContents → HeapContents → List Entry
called_entries p pos before after = lines p (called_in p pos before) after

-- `owner`: the owner is another frame, field or the library

abbrev pub same_owner : Owner → Owner → Bool
same_owner (owners.Frame j) (owners.Frame i) = nat_eq j i
same_owner (owners.Field w f) (owners.Field v g) = nat_eq w v && nat_eq f.0 g.0
same_owner owners.Library owners.Library = true
same_owner o q = false

abbrev pub owner_before : Option Object → Owner
owner_before None = owners.Unowned
owner_before (Some x) = x.owner

-- the object has an owner who is to see that its obligation is met
abbrev pub is_owned : Owner → Bool
is_owned (owners.Frame j) = true
is_owned (owners.Field w f) = true
is_owned owners.Library = true
is_owned owners.Released = false
is_owned owners.Lost = false
is_owned owners.Unowned = false

-- what is released or lost has no line of this kind
abbrev pub owner_line : Pos → Option Object → ℕ → Object → Option Entry
owner_line pos before k x =
    if is_owned x.owner && not (same_owner (owner_before before) x.owner) then Some (entries.Owner k x.owner pos) else None

abbrev pub owner_in : Pos → HeapContents → ℕ → Object → List Entry
owner_in pos before k x = optional (owner_line pos (object_at before k) k x)

abbrev pub owner_entries : Program → Pos → HeapContents → HeapContents → List Entry
owner_entries p pos before after = lines p (owner_in pos before) after

-- `reset`: each object with one of the roots

abbrev pub reset_line : Pos → HeapContents → List ℕ → ℕ → Option Entry
reset_line pos h roots k = if is_reached h roots k then Some (entries.Reset k pos) else None

abbrev pub reset_in : Pos → HeapContents → List ℕ → ℕ → Object → List Entry
reset_in pos h roots k x = optional (reset_line pos h roots k)

abbrev pub reset_entries : Program → Pos → List ℕ → HeapContents → List Entry
reset_entries p pos roots h = lines p (reset_in pos h roots) h

-- `born` and `linked`: the object is finished now and was not before

abbrev pub was_finished : Option Object → Bool
was_finished None = false
was_finished (Some x) = x.finished

abbrev pub birth : Pos → ℕ → Object → Option Link → Entry
birth pos k x None = entries.Born k x.class x.owner pos
birth pos k x (Some l) = entries.Linked k x.class l.to pos

abbrev pub birth_line : Pos → Option Object → ℕ → Object → Option Entry
birth_line pos before k x = if x.finished && not (was_finished before) then Some (birth pos k x x.link) else None

abbrev pub birth_in : Pos → HeapContents → ℕ → Object → List Entry
birth_in pos before k x = optional (birth_line pos (object_at before k) k x)

abbrev pub birth_entries : Program → Pos → HeapContents → HeapContents → List Entry
birth_entries p pos before after = lines p (birth_in pos before) after

-- `leak`: the object is lost now and was not before

abbrev pub is_lost : Owner → Bool
is_lost owners.Lost = true
is_lost owners.Released = false
is_lost owners.Unowned = false
is_lost owners.Library = false
is_lost (owners.Frame j) = false
is_lost (owners.Field w f) = false

abbrev pub leak_line : LeakWord → Pos → Option Object → ℕ → Object → Option Entry
leak_line word pos before k x = if is_lost x.owner && not (is_lost (owner_before before)) then Some (entries.Leak k word pos) else None

abbrev pub leak_in : LeakWord → Pos → HeapContents → ℕ → Object → List Entry
leak_in word pos before k x = optional (leak_line word pos (object_at before k) k x)

abbrev pub leak_entries : Program → LeakWord → Pos → HeapContents → HeapContents → List Entry
leak_entries p word pos before after = lines p (leak_in word pos before) after

-- the leaks of a step, by the objects' numbers

abbrev pub is_leak_of : ℕ → Entry → Bool
is_leak_of k (entries.Leak j word pos) = nat_eq j k
is_leak_of k (entries.Born j c o pos) = false
is_leak_of k (entries.Linked j c i pos) = false
is_leak_of k (entries.Called j n pos) = false
is_leak_of k (entries.Owner j o pos) = false
is_leak_of k (entries.Reset j pos) = false

abbrev pub leaks_of : List Entry → ℕ → List Entry
leaks_of leaks k = filter (is_leak_of k) leaks

abbrev pub by_number : HeapContents → List Entry → List Entry
by_number h leaks = flat_map (leaks_of leaks) (range_with_len 1 (length h.objects))
