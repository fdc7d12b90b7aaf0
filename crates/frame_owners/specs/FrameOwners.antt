-- Which objects the frames may own: a list for each frame, that of `main` first, that has at least those which it owns.
use Rattle.std.specs.Prelude.{ℕ, zero, suc, ◌≡◌, Bool, true, false, ◌&&◌, Option, Some, None, List, [], ◌∷◌, map, slice_index_or, Vec}
use Rattle.ledger_state.specs.declared.entry.Owner.{Owner}
use Rattle.ledger_state.specs.declared.entry.Owner.TheVariants as owners
use Rattle.ledger_state.specs.declared.object.Object.{Object}
use Rattle.ledger_state.specs.Contents.{HeapContents}
use Rattle.ledger_state.specs.Heaps.{change_one, has_number, object_at}
use Rattle.ledger_obligations.specs.Obligations.{given_up_by_frame, is_frame, is_unmet}

-- the lists in memory
abbrev pub lists_in : {A : Type 0} → List (Vec ℕ A) → List (List ℕ)
lists_in rows = map (λ r. r.items) rows

-- the list of the frame at a position, counted from 1 at the bottom
abbrev pub list_at : List (List ℕ) → ℕ → List ℕ
list_at lists zero = []
list_at lists (suc i) = slice_index_or lists i []

-- the list of the frame that is the owner has the object `k`; of another owner this is not asked
abbrev pub is_listed : List (List ℕ) → Owner → ℕ → Bool
is_listed lists (owners.Frame j) k = has_number (list_at lists j) k
is_listed lists (owners.Field w f) k = true
is_listed lists owners.Library k = true
is_listed lists owners.Released k = true
is_listed lists owners.Lost k = true
is_listed lists owners.Unowned k = true

-- each object that a frame owns stands in the frame's list
abbrev pub Listed : List (List ℕ) → HeapContents → Type 0
Listed lists h = (k : ℕ) (x : Object) → object_at h k ≡ Some x → is_listed lists x.owner k ≡ true

-- the second lists have what the first have
abbrev pub HasAll : List (List ℕ) → List (List ℕ) → Type 0
HasAll lists more = (j k : ℕ) → has_number (list_at lists j) k ≡ true → has_number (list_at more j) k ≡ true

-- the frame at position `j` gives up those of the objects `ks` that it owns
abbrev pub released : ℕ → List ℕ → HeapContents → HeapContents
released j [] h = h
released j (k ∷ ks) h = released j ks (change_one k (given_up_by_frame j k) h)

-- the object is unmet, and the frame at position `j` owns it
abbrev pub owns_unmet : ℕ → Option Object → Bool
owns_unmet j None = false
owns_unmet j (Some x) = is_unmet x && is_frame x.owner j
