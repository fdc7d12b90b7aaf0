-- Counts that stand in 64 bits: they never fall, and stay at the last value.
use Rattle.std.specs.Prelude.{ℕ, ◌+◌, ◌≤◌, min}

-- the last value of 64 bits, 2 ^ 64 - 1
abbrev pub last_count : ℕ
last_count = 18446744073709551615

-- a count that was raised by n
abbrev pub raised : ℕ → ℕ → ℕ
raised n before = min (before + n) last_count

-- the count rose by n or more, or stands at the last value
abbrev pub RoseBy : ℕ → ℕ → ℕ → Type 0
RoseBy n before now = (before ≤ now) × (raised n before ≤ now) × (now ≤ last_count)

-- the count rose, or stands at the last value
abbrev pub Rose : ℕ → ℕ → Type 0
Rose before now = RoseBy 1 before now
