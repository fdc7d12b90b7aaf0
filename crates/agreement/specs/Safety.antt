-- What it is for a program to be safe: in every run, whatever an honest library chooses, up to the first stray exception, each
-- unmet object has a live owner, none is recorded as leaked, and at the end none is unmet but those given to the library.
use Rattle.std.specs.Prelude.{◌≡◌, ◌⊎◌, ℕ, Bool, true, false, ◌&&◌, Some, List, []}
use Rattle.std.specs.List.{list_any}
use Rattle.program_model.specs.declared.kinds.FieldId.{FieldId}
use Rattle.program_model.specs.declared.kinds.MethodId.{MethodId}
use Rattle.program_model.specs.declared.program.Program.{Program}
use Rattle.program_model.specs.Lookups.{method_at}
use Rattle.ownership_rules.specs.Bodies.{constructs}
use Rattle.stub_conduct.specs.declared.choice.Choices.{Choices}
use Rattle.ledger_state.specs.declared.entry.Owner.{Owner}
use Rattle.ledger_state.specs.declared.entry.Owner.TheVariants as owners
use Rattle.ledger_state.specs.Contents.{HeapContents}
use Rattle.ledger_state.specs.Fields.{field_value}
use Rattle.ledger_state.specs.Heaps.{root, root_of}
use Rattle.ledger_state.specs.Values.{number_of}
use Rattle.place_laws.specs.Obligations.{held_at, holds, is_unmet_root, owner_of_root}
use Rattle.heap_laws.specs.LedgerCallsCalls.{body_of}
use Rattle.ledger_runs.specs.Configuration.{Config, Frame, held_by}
use Rattle.ledger_runs.specs.Choosing.{is_number}
use Rattle.ledger_runs.specs.Moves.{has_body}
use Rattle.ledger_runs.specs.Runs.{run}
use Rattle.ledger_runs.specs.Mains.{is_main_in}
use Rattle.ledger_state.specs.Leaks.{is_leak}

-- An object that is linked to another one has no obligation and no owner but those of the end of its links, its root.

-- the root of object `k` is finished, and some name of its must-call set was not called on it
abbrev pub IsUnmet : HeapContents → ℕ → Type 0
IsUnmet h k = is_unmet_root h (Some (root h k)) ≡ true

-- who owns object `k`
abbrev pub owner_of : HeapContents → ℕ → Owner
owner_of h k = owner_of_root h (Some (root h k))

-- Live owners

-- the frame runs a constructor on object `w`
abbrev pub constructs_object : Program → ℕ → Frame → Bool
constructs_object p w fr = constructs (method_at p fr.method) && is_number w (number_of fr.locals.this)

-- a constructor of object `w` is on the stack
abbrev pub is_being_made : Program → List Frame → ℕ → Bool
is_being_made p frs w = list_any (constructs_object p w) frs

-- The owner still answers for the objects with the root `r`: the library always does; a frame does while it is on the stack and
-- one of its places holds such an object; a field does while it holds such an object and its own object is unmet or being made.
abbrev pub IsLive : Program → Config → ℕ → Owner → Type 0
IsLive p c r owners.Library = Unit {0}
IsLive p c r (owners.Frame j) = holds c.heap (held_at (held_by c.frames) j) r ≡ true
IsLive p c r (owners.Field w f) = (root_of c.heap (field_value p c.heap w f) ≡ Some r) × (IsUnmet c.heap w ⊎ (is_being_made p c.frames w ≡ true))
IsLive p c r owners.Released = ⊥
IsLive p c r owners.Lost = ⊥
IsLive p c r owners.Unowned = ⊥

-- object `k` was given to the library: the library owns it, or an owning field of an object that was given to the library does
pub data IsGiven (h : HeapContents) : ℕ → Type 0 where
  by_itself : {k : ℕ} → owner_of h k ≡ owners.Library → IsGiven h k
  within : {k w : ℕ} → (f : FieldId) → owner_of h k ≡ owners.Field w f → IsGiven h w → IsGiven h k

-- Safety

-- nothing is amiss at this moment of a run
pub record IsSafeAt (p : Program) (c : Config) : Type 0 where
  pub owned : (k : ℕ) → IsUnmet c.heap k → IsLive p c (root c.heap k) (owner_of c.heap k)
  pub no_leak : list_any is_leak c.entries ≡ false
  pub given : c.frames ≡ [] → (k : ℕ) → IsUnmet c.heap k → IsGiven c.heap k

-- a `main` that can run (JLS 12.1.4): it has a body, so no stub declares it
abbrev pub IsMain : Program → MethodId → Type 0
IsMain p m = (is_main_in (method_at p m) ≡ true) × (has_body (body_of (method_at p m)) ≡ true)

-- Each run, from each `main` and with each list of choices of the library, is safe after each number of steps. A run takes no
-- step that is stray, so what is said is said up to the first one.
abbrev pub IsSafe : Program → Type 0
IsSafe p = (main : MethodId) (choices : Choices) (n : ℕ) → IsMain p main → IsSafeAt p (run p main choices n).config
