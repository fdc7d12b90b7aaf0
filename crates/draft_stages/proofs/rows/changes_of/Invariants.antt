use Rattle.std.proofs.Common.{◌≡◌, take}
use Rattle.draft_stages.specs.Stages.{changes_since}
use Rattle.draft_stages.proofs.rows.changes_of.Given as goal

abbrev pub invariant-each : goal.invariant-each
invariant-each l = l.changes.items ≡ changes_since l.heap (take l.one-index l.saved)
