use Rattle.must_call_types.proofs.NameLaws.{past_names}
use Rattle.must_call_types.proofs.names.put_names.Goals as goal

pub returns-in-Err-clause-full : goal.returns-in-Err-clause-full
returns-in-Err-clause-full c full =
    let why = c.in-Err.ensures.full.0 (cc) in
    past_names c.args.table.now c.loop-name.table c.args.annotation.now c.names_listed-name-items.result.now c.names_listed-name-items.ensures c.loop-name.name-index
    c.name-item.result c.bytes.result.now c.loop-name-test.true c.loop-name.invariant.taken c.name-item.is c.bytes.ensures why.0 why.1
