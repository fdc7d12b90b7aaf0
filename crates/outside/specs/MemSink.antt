-- What a sink in memory holds, and which of its writes fail.
use Rattle.std.specs.Prelude.{◌≡◌, ℕ, ◌-◌, Bool, true, false, List, [], ◌∷◌, length, ◌==◌, ◌&&◌, ◌||◌, nat_lt, nat_le, Result, Ok, Err}
use Rattle.std.specs.List.{list_any}
use Rattle.outside.specs.Counts.{raised}
use Rattle.outside.specs.declared.sink.Failed.{Failed}
use Rattle.outside.specs.declared.memory_sink.MemSink.{MemSink}

abbrev pub sink_bytes : MemSink → List ℕ
sink_bytes s = s.bytes.items

-- the most bytes that it takes in all
abbrev pub sink_room : MemSink → ℕ
sink_room s = s.room

-- the most bytes that one write takes
abbrev pub sink_most : MemSink → ℕ
sink_most s = s.most

-- the numbers of the writes that are to fail, from 1
abbrev pub failing_writes : MemSink → List ℕ
failing_writes s = s.failing.items

-- how many writes there were so far: after a write, the write's own number
abbrev pub write_number : MemSink → ℕ
write_number s = s.writes

abbrev pub write_faults : MemSink → ℕ
write_faults s = s.faults

-- the room that is left
abbrev pub room_left : MemSink → ℕ
room_left s = sink_room s - length (sink_bytes s)

-- n where no write is listed as failing, else 0
abbrev pub if_none_fails : List ℕ → ℕ → ℕ
if_none_fails [] n = n
if_none_fails (k ∷ ks) n = 0

-- a write of this number and length is to fail: its number is listed, or it is not empty and no room is left
abbrev pub is_write_failing : List ℕ → ℕ → ℕ → ℕ → Bool
is_write_failing failing number left size = list_any (λ k. k == number) failing || (nat_lt 0 size && nat_le left 0)

-- a write that is to fail answers Failed and counts one fault; any other takes all that it may take at once
abbrev pub TakesAsListed : Bool → ℕ → ℕ → ℕ → Result ℕ Failed → Type 0
TakesAsListed fails most before now (Ok count) = (fails ≡ false) × (count ≡ most) × (now ≡ before)
TakesAsListed fails most before now (Err e) = (fails ≡ true) × (now ≡ raised 1 before)

-- all stays but the list of failing writes
pub record KeepsWrites (old new : MemSink) : Type 0 where
  pub room : sink_room new ≡ sink_room old
  pub most : sink_most new ≡ sink_most old
  pub bytes : sink_bytes new ≡ sink_bytes old
  pub number : write_number new ≡ write_number old
  pub faults : write_faults new ≡ write_faults old
