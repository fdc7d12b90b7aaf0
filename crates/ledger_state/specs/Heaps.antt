-- The heap: an object by its number, the root of its links, what a field holds, and the few ways in which a heap changes.
use Rattle.std.specs.Prelude.{ℕ, zero, suc, ◌+◌, Bool, false, ◌&&◌, Option, Some, None, List, [], ◌∷◌, ◌++◌, length, slice_get, slice_set, nat_eq, if◌then◌else◌}
use Rattle.std.specs.List.{find, list_any, position_from}
use Rattle.std.specs.FinSet as set
use Rattle.program_model.specs.declared.kinds.ClassId.{ClassId}
use Rattle.program_model.specs.declared.kinds.FieldId.{FieldId}
use Rattle.ledger_state.specs.declared.entry.Owner.TheVariants as owners
use Rattle.ledger_state.specs.declared.object.Link.{Link}
use Rattle.ledger_state.specs.declared.object.Object.{Object}
use Rattle.ledger_state.specs.declared.object.StoredField.{StoredField}
use Rattle.ledger_state.specs.declared.value.Value.{Value}
use Rattle.ledger_state.specs.declared.value.Value.TheVariants as values
use Rattle.ledger_state.specs.Contents.{HeapContents}

-- Objects

abbrev pub object_in : List Object → ℕ → Option Object
object_in xs zero = None
object_in xs (suc k) = slice_get xs k

-- the object with this number; numbers begin at 1
abbrev pub object_at : HeapContents → ℕ → Option Object
object_at h k = object_in h.objects k

-- the number of the object that is made next
abbrev pub next_number : HeapContents → ℕ
next_number h = length h.objects + 1

-- the object to which the object is linked
abbrev pub linked_by : Option Link → Option ℕ
linked_by None = None
linked_by (Some l) = Some l.to

abbrev pub link_of : Option Object → Option ℕ
link_of None = None
link_of (Some x) = linked_by x.link

abbrev pub follow : (ℕ → ℕ) → ℕ → Option ℕ → ℕ
follow further k None = k
follow further k (Some j) = further j

-- the end of the links from object `k`. The way has fewer links than there are objects, since an object is linked to one that
-- was there before
abbrev pub root_within : ℕ → HeapContents → ℕ → ℕ
root_within zero h k = k
root_within (suc n) h k = follow (root_within n h) k (link_of (object_at h k))

abbrev pub root : HeapContents → ℕ → ℕ
root h k = root_within (length h.objects) h k

-- the root of what a place holds, where that is a class object
abbrev pub root_of : HeapContents → Value → Option ℕ
root_of h (values.Object k) = Some (root h k)
root_of h v = None

-- both are the same root
abbrev pub same_root : Option ℕ → Option ℕ → Bool
same_root (Some r) (Some s) = nat_eq r s
same_root (Some r) None = false
same_root None s = false

abbrev pub has_number : List ℕ → ℕ → Bool
has_number ks k = list_any (λ j. nat_eq j k) ks

-- the object's root is one of these
abbrev pub is_reached : HeapContents → List ℕ → ℕ → Bool
is_reached h roots k = has_number roots (root h k)

-- Changes of objects

-- the objects, whose numbers begin at `k`, each changed by its number
abbrev pub changed_from : ℕ → (ℕ → Object → Object) → List Object → List Object
changed_from k change [] = []
changed_from k change (x ∷ xs) = change k x ∷ changed_from (k + 1) change xs

abbrev pub with_objects : HeapContents → List Object → HeapContents
with_objects h xs = record h { objects = xs }

-- each object is changed by its number
abbrev pub change_each : (ℕ → Object → Object) → HeapContents → HeapContents
change_each change h = with_objects h (changed_from 1 change h.objects)

abbrev pub only_at : ℕ → (Object → Object) → ℕ → Object → Object
only_at k change j x = if nat_eq j k then change x else x

-- one object is changed
abbrev pub change_one : ℕ → (Object → Object) → HeapContents → HeapContents
change_one k change h = change_each (only_at k change) h

-- the object is changed where there is one
abbrev pub change_some : Option ℕ → (Object → Object) → HeapContents → HeapContents
change_some None change h = h
change_some (Some k) change h = change_one k change h

-- an object as it is made, before it is finished
abbrev pub unfinished : ClassId → Object
unfinished c = record { class = c; link = None; finished = false; must = set.empty; called = set.empty; owner = owners.Unowned }

-- one object more
abbrev pub append : HeapContents → ClassId → HeapContents
append h c = with_objects h (h.objects ++ unfinished c ∷ [])

-- Fields of objects

abbrev pub is_field_of : ℕ → FieldId → StoredField → Bool
is_field_of w f s = nat_eq s.holder w && nat_eq s.field.0 f.0

abbrev pub value_stored : Option StoredField → Option Value
value_stored None = None
value_stored (Some s) = Some s.value

-- the value of the field of object `w`, where it was stored
abbrev pub stored_field : HeapContents → ℕ → FieldId → Option Value
stored_field h w f = value_stored (find (is_field_of w f) h.fields)

abbrev pub stored : ℕ → FieldId → Value → StoredField
stored w f v = record { holder = w; field = f; value = v }

-- put at this place, or else at the end
abbrev pub put_at : {X : Type 0} → Option ℕ → X → List X → List X
put_at None x xs = xs ++ x ∷ []
put_at (Some i) x xs = slice_set xs i x

-- the field of object `w` takes the value
abbrev pub put_field : ℕ → FieldId → Value → HeapContents → HeapContents
put_field w f v h = record h { fields = put_at (position_from (is_field_of w f) 0 h.fields) (stored w f v) h.fields }
