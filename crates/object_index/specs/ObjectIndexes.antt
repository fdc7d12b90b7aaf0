-- Which objects the fields of an object may own, and which may be linked to it: for each object a list that has at least those.
use Rattle.std.specs.Prelude.{ℕ, ◌≡◌, Bool, true, false, ◌&&◌, nat_lt, Option, Some, None, List}
use Rattle.ledger_state.specs.declared.entry.Owner.{Owner}
use Rattle.ledger_state.specs.declared.entry.Owner.TheVariants as owners
use Rattle.ledger_state.specs.declared.object.Object.{Object}
use Rattle.ledger_state.specs.Contents.{HeapContents}
use Rattle.ledger_state.specs.Heaps.{has_number, linked_by, object_at}
use Rattle.frame_owners.specs.FrameOwners.{HasAll, list_at, lists_in}
use Rattle.object_index.specs.declared.index.ObjectIndex.{ObjectIndex}

abbrev pub contents_of : ObjectIndex → ℕ → List ℕ
contents_of index w = list_at (lists_in index.contents.items) w

abbrev pub aliases_of : ObjectIndex → ℕ → List ℕ
aliases_of index r = list_at (lists_in index.aliases.items) r

-- the list of the object whose field is the owner has the object `k`; of another owner this is not asked
abbrev pub is_content : List (List ℕ) → Owner → ℕ → Bool
is_content contents (owners.Field w f) k = has_number (list_at contents w) k
is_content contents (owners.Frame j) k = true
is_content contents owners.Library k = true
is_content contents owners.Released k = true
is_content contents owners.Lost k = true
is_content contents owners.Unowned k = true

-- no frame and no field is the owner
abbrev pub is_free : Owner → Bool
is_free (owners.Field w f) = false
is_free (owners.Frame j) = false
is_free owners.Library = true
is_free owners.Released = true
is_free owners.Lost = true
is_free owners.Unowned = true

-- where the object `k` is linked to another one, that was made before it, its list has `k`, and no frame and no field owns `k`
abbrev pub is_alias : List (List ℕ) → Owner → Option ℕ → ℕ → Bool
is_alias aliases o None k = true
is_alias aliases o (Some r) k = nat_lt r k && (is_free o && has_number (list_at aliases r) k)

abbrev pub is_indexed : ObjectIndex → ℕ → Object → Bool
is_indexed index k x = is_content (lists_in index.contents.items) x.owner k && is_alias (lists_in index.aliases.items) x.owner (linked_by x.link) k

-- each object that a field owns stands in the list of the field's object, and each that is linked in the list of that to which it is linked
abbrev pub Indexed : ObjectIndex → HeapContents → Type 0
Indexed index h = (k : ℕ) (x : Object) → object_at h k ≡ Some x → is_indexed index k x ≡ true

-- the second index has what the first has
abbrev pub HasMore : ObjectIndex → ObjectIndex → Type 0
HasMore index more = HasAll (lists_in index.contents.items) (lists_in more.contents.items) × HasAll (lists_in index.aliases.items) (lists_in more.aliases.items)
