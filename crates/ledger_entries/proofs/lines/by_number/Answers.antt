use Rattle.std.proofs.Common.{◌≡◌, ◌+◌, ◌-◌, ◌++◌, List, ap, ◌∙◌}
use Rattle.std.specs.List.{flat_map, range_with_len}
use Rattle.ledger_state.specs.declared.entry.Entry.{Entry}
use Rattle.ledger_entries.specs.Entries.{leaks_of}
use Rattle.ledger_entries.proofs.LineLemmas.{part_done, range_drop}
use Rattle.ledger_entries.proofs.lines.by_number.Goals as goal

pub objects-preserved : goal.objects-preserved
objects-preserved c =
    let rest = flat_map (leaks_of c.args.leaks.now) (range_with_len (c.objects.before + 1 + 1) (c.len-count.result - (c.objects.before + 1))) in
    let pushed : c.push_leaks_of.new.into.items ≡ c.objects.into.items ++ leaks_of c.args.leaks.now (c.objects.before + 1) = c.in_ok-push_leaks_of.ensures in
    ap (λ (l : List Entry). l ++ rest) pushed
    ∙ part_done _ _ _ rest _ (range_drop (leaks_of c.args.leaks.now) c.len-count.result c.objects.before c.objects-test.true) c.objects.invariant
