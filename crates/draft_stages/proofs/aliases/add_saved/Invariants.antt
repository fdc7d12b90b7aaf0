use Rattle.std.proofs.Common.{◌≡◌, ◌++◌, take}
use Rattle.draft_stages.specs.Stages.{saved_numbers}
use Rattle.draft_stages.proofs.aliases.add_saved.Given as goal

abbrev pub invariant-each : goal.invariant-each
invariant-each l = l.into.items ≡ l.fn.into.items ++ saved_numbers (take l.one-index l.saved)
