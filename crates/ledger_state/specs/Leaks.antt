-- Which lines of a ledger are leaks.
use Rattle.std.specs.Prelude.{Bool, true, false}
use Rattle.ledger_state.specs.declared.entry.Entry.{Entry}
use Rattle.ledger_state.specs.declared.entry.Entry.TheVariants as lines

-- an object was lost before its obligation was met
abbrev pub is_leak : Entry → Bool
is_leak (lines.Leak k word pos) = true
is_leak (lines.Born k c o pos) = false
is_leak (lines.Linked k c j pos) = false
is_leak (lines.Called k n pos) = false
is_leak (lines.Owner k o pos) = false
is_leak (lines.Reset k pos) = false
