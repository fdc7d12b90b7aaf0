use Rattle.std.proofs.Common.{◌≡◌, true}
use Rattle.spread_notes.specs.SpreadNotes.{AllMadeOf, rises_beyond}
use Rattle.spread_notes.proofs.ObjectLists.{AllWithin}
use Rattle.spread_notes.proofs.changed.add_objects.Given as goal

-- the objects so far, up to the last one
abbrev pub invariant-each : goal.invariant-each
invariant-each l = record {
  made : AllMadeOf l.heap l.notes l.into.items;
  within : AllWithin l.last l.into.items;
  rises : rises_beyond 0 l.into.items ≡ true;
}
