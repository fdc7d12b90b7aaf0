-- What a write to a sink takes and counts.
use Rattle.std.specs.Prelude.{◌≡◌, ℕ, ◌≤◌, List, length, take, Option, Result, Ok, Err}
use Rattle.std.specs.Io.KnownBytes.{append_known}
use Rattle.outside.specs.Counts.{Rose}
use Rattle.outside.specs.declared.sink.Failed.{Failed}

-- a write counts a fault exactly where it answers Failed
abbrev pub CountsWrite : {T : Type 0} → ℕ → ℕ → Result T Failed → Type 0
CountsWrite before now (Ok x) = now ≡ before
CountsWrite before now (Err e) = Rose before now

-- a write appends as many bytes of the front of the piece as it answers, and none where it fails
abbrev pub TakesFront : Option (List ℕ) → Option (List ℕ) → Result ℕ Failed → List ℕ → Type 0
TakesFront old new (Ok count) piece = new ≡ append_known old (take count piece)
TakesFront old new (Err e) piece = new ≡ old

-- some front of the bytes was appended
abbrev pub AppendsFront : Option (List ℕ) → Option (List ℕ) → List ℕ → Type 0
AppendsFront old new bytes = (count : ℕ) × (count ≤ length bytes) × (new ≡ append_known old (take count bytes))

-- all of the bytes were appended, or, where it failed, some front of them
abbrev pub Sends : {T : Type 0} → Option (List ℕ) → Option (List ℕ) → Result T Failed → List ℕ → Type 0
Sends old new (Ok x) bytes = new ≡ append_known old bytes
Sends old new (Err e) bytes = AppendsFront old new bytes
