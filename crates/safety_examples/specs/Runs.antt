-- The runs of the two programs: what the library chooses, and what the ledger says.
use Rattle.std.specs.Prelude.{pos}
use Rattle.stub_conduct.specs.declared.choice.Choices.{Choices}
use Rattle.ledger_state.specs.declared.entry.Entry.{Entry}
use Rattle.ledger_state.specs.declared.entry.Entry.TheVariants as lines
use Rattle.ledger_state.specs.declared.entry.LeakWord.TheVariants as words
use Rattle.ledger_state.specs.declared.entry.Owner.TheVariants as owners
use Rattle.safety_examples.specs.CarefulPrograms.{close_name, in_source, none, socket, two}

-- each call of the library returns plainly
abbrev pub plainly : Choices
plainly = record { args = 0; list = none }

-- the first call returns plainly, and the second one throws what its throws clause names first
abbrev pub then_throws : Choices
then_throws = record { args = 0; list = two (record { way = 0; value = pos 0 }) (record { way = 1; value = pos 0 }) }

-- the frame of `main` owns the new socket
abbrev pub birth : Entry
birth = lines.Born 1 socket (owners.Frame 1) (in_source 3 20)

-- the socket was closed
abbrev pub close : Entry
close = lines.Called 1 close_name (in_source 4 3)

-- `main` ended, and the socket was not closed
abbrev pub leak : Entry
leak = lines.Leak 1 words.Exit (in_source 5 1)
