-- A run as a configuration: its frames stand bottom first, and the control of each is a number in a table of lists.
use Rattle.std.specs.Prelude.{ℕ, ◌≡◌, true, List, map, reverse}
use Rattle.object_index.specs.FrameOwners.{Listed, lists_in}
use Rattle.ledger_runs.specs.Configuration.{Config}
use Rattle.machine_state.specs.declared.run_state.RunState.{RunState}
use Rattle.ledger_runs.specs.Frames.{frames_seen}
use Rattle.ledger_obligations.specs.Obligations.{held_in}
use Rattle.ledger_state.specs.declared.value.Value.{Value}
use Rattle.ledger_state.specs.Contents.{HeapContents}
use Rattle.object_index.specs.ObjectIndexes.{Indexed}
use Rattle.settled_heaps.specs.Settled.{Settled}

-- the configuration of a run
abbrev pub config_of : RunState → Config
config_of m = record {
  frames = frames_seen m.lists.cells.keys m.frames.items;
  heap = m.heap;
  arrays = m.arrays.items;
  statics = m.statics.items;
  entries = m.entries.items;
  choices = m.choices.items;
  used = m.used;
  ended = m.ended;
}

-- no object is left to lose, and the lists have the objects that frames own
abbrev pub NothingToLose : HeapContents → List (List Value) → List (List ℕ) → Type 0
NothingToLose h held lists = Settled h held × Listed lists h

-- where the run says so, no object is left to lose, and the index is that of the heap
abbrev pub HasNothingToLose : RunState → Type 0
HasNothingToLose m = m.settled ≡ true → NothingToLose m.heap (map held_in (reverse m.frames.items)) (lists_in m.owned.items) × Indexed m.index m.heap
