use Rattle.std.proofs.Common.{◌≡◌, ◌≤◌, length, take}
use Rattle.ledger_obligations.specs.Obligations.{spread}
use Rattle.spread_notes.specs.SpreadNotes.{HasFollows}
use Rattle.spread_notes.proofs.spreading.spread.Given as goal

-- the notes that follow within the turns so far, with what follows from the first of them
abbrev pub invariant-turns : goal.invariant-turns
invariant-turns l = record {
  reached : l.notes.items ≡ spread l._turn l.p l.heap l.fn.notes.items;
  within : l.done ≤ length l.notes.items;
  follows : HasFollows l.p l.heap (take l.done l.notes.items) l.notes.items;
}
