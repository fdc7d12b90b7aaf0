-- How cases are counted.
use Rattle.std.specs.Prelude.{ℕ, ◌+◌, min, Bool, true, false}
use Rattle.case_files.specs.declared.count.Count.{Count}

-- the next value of a count, which stays at the last value of 64 bits
abbrev pub next_count : ℕ → ℕ
next_count n = min (n + 1) 18446744073709551615

-- the counts with one more case, that passed or failed
abbrev pub counted : Bool → Count → Count
counted true count = record count { passed = next_count count.passed }
counted false count = record count { failed = next_count count.failed }
