use Rattle.std.proofs.Common.{◌∙◌, ap, sym, ◌++◌, ◌-◌, ◌+◌}
use Rattle.std.specs.List.{flat_map, range_with_len}
use Rattle.ledger_obligations.specs.Obligations.{kept_name}
use Rattle.ledger_obligations.proofs.RangeLaws.{flat_end, flat_further}
use Rattle.ledger_obligations.proofs.promises.add_kept_on.Goals as goal

pub each-preserved : goal.each-preserved
each-preserved c =
    ap (λ xs. xs ++ flat_map (kept_name c.args.object c.args.names) (range_with_len (c.each.number + 1) (128 - (c.each.number + 1)))) c.in_ok-add_name.ensures
    ∙ sym (flat_further (kept_name c.args.object c.args.names) 128 c.each.number c.each.into.items c.each-test.true)
    ∙ c.each.invariant

pub returns : goal.returns
returns c = sym (flat_end (kept_name c.args.object c.args.names) 128 c.each.number c.each.into.items c.each-test.false) ∙ c.each.invariant
