-- Heaps in which no object is left to lose.
use Rattle.std.specs.Prelude.{ℕ, Bool, true, false, not, ◌&&◌, ◌||◌, ◌≡◌, Option, Some, None, List}
use Rattle.std.specs.List.{list_any}
use Rattle.ledger_state.specs.declared.entry.Owner.{Owner}
use Rattle.ledger_state.specs.declared.entry.Owner.TheVariants as owners
use Rattle.ledger_state.specs.declared.object.Link.{Link}
use Rattle.ledger_state.specs.declared.object.Object.{Object}
use Rattle.ledger_state.specs.declared.value.Value.{Value}
use Rattle.ledger_state.specs.Contents.{HeapContents}
use Rattle.ledger_state.specs.Heaps.{object_at, root_of}
use Rattle.ledger_obligations.specs.Obligations.{held_at, holds, is_frame, is_unmet}

-- the owner keeps the object: a frame keeps one that is no alias, and whose root it holds; every other owner keeps what it has
abbrev pub is_kept : HeapContents → List (List Value) → Owner → Option Link → ℕ → Bool
is_kept h held (owners.Frame j) None k = holds h (held_at held j) k
is_kept h held (owners.Frame j) (Some l) k = false
is_kept h held (owners.Field w f) l k = true
is_kept h held owners.Library l k = true
is_kept h held owners.Released l k = true
is_kept h held owners.Lost l k = true
is_kept h held owners.Unowned l k = true

-- the object is met, or its owner keeps it; `held` is what each frame holds, the top one first
abbrev pub is_settled : HeapContents → List (List Value) → ℕ → Object → Bool
is_settled h held k x = not (is_unmet x) || is_kept h held x.owner x.link k

-- no object is left to lose
abbrev pub Settled : HeapContents → List (List Value) → Type 0
Settled h held = (k : ℕ) (x : Object) → object_at h k ≡ Some x → is_settled h held k x ≡ true

-- the object `r` is unmet and belongs to the frame at position `t`, whose places hold `held`, and none of them holds it
abbrev pub drops_object : HeapContents → ℕ → List Value → ℕ → Option Object → Bool
drops_object h t held r None = false
drops_object h t held r (Some x) = is_unmet x && (is_frame x.owner t && not (holds h held r))

abbrev pub drops_root : HeapContents → ℕ → List Value → Option ℕ → Bool
drops_root h t held None = false
drops_root h t held (Some r) = drops_object h t held r (object_at h r)

-- so does the root of the value
abbrev pub drops : HeapContents → ℕ → List Value → Value → Bool
drops h t held v = drops_root h t held (root_of h v)

-- the frame at position `t` drops the root of a value that it held before
abbrev pub drops_any : HeapContents → ℕ → List Value → List Value → Bool
drops_any h t old new = list_any (drops h t new) old
