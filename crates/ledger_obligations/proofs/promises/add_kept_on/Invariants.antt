use Rattle.std.proofs.Common.{◌≡◌, ◌++◌, ◌-◌}
use Rattle.std.specs.List.{flat_map, range_with_len}
use Rattle.ledger_obligations.specs.Obligations.{kept_name}
use Rattle.ledger_obligations.proofs.promises.add_kept_on.Given as goal

-- the notes so far, with those of the names that are left, are all
abbrev pub invariant-each : goal.invariant-each
invariant-each l =
    l.into.items ++ flat_map (kept_name l.object l.names) (range_with_len l.number (128 - l.number))
    ≡ l.fn.into.items ++ flat_map (kept_name l.object l.names) (range_with_len 0 128)
