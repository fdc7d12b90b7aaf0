use Rattle.std.proofs.Common.{◌≡◌, drop, filter}
use Rattle.ledger_obligations.specs.Obligations.{is_of, with_names}
use Rattle.spread_notes.proofs.changed.names_noted.Given as goal

abbrev pub invariant-each : goal.invariant-each
invariant-each l = with_names l.names (filter (is_of l.number) (drop l.a-index l.notes)) ≡ with_names l.fn.called (filter (is_of l.number) l.notes)
