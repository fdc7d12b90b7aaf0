-- What a step leaves of the heap.
use Rattle.std.specs.Prelude.{List, ◌++◌}
use Rattle.program_model.specs.declared.program.Program.{Program}
use Rattle.rlc_base.specs.declared.place.Pos.{Pos}
use Rattle.ledger_entries.specs.Entries.{by_number, leak_entries}
use Rattle.ledger_obligations.specs.Obligations.{lose}
use Rattle.ledger_state.specs.declared.entry.Entry.{Entry}
use Rattle.ledger_state.specs.declared.entry.LeakWord.TheVariants as words
use Rattle.ledger_state.specs.declared.value.Value.{Value}
use Rattle.ledger_state.specs.Contents.{HeapContents}

-- the heap after a step, and the lines of the ledger that the step writes
pub record Effect : Type 0 where
  pub heap : HeapContents
  pub lines : List Entry

-- the end of a step at `pos`: what no place holds any more is lost, and the step's leaks stand last, by the objects' numbers.
-- `held` is what each frame holds after the step, the top one first
abbrev pub left : Program → Pos → List (List Value) → List Entry → List Entry → HeapContents → Effect
left p pos held lines leaks h = record {
  heap = lose held h;
  lines = lines ++ by_number (lose held h) (leaks ++ leak_entries p words.Lost pos h (lose held h));
}
