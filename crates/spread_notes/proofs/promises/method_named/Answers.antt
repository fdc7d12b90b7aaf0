-- A class has such a method, or its super class comes next.
use Rattle.program_model.specs.Overrides.{methods_of}
use Rattle.ledger_obligations.proofs.Walks.{walk_ends, walk_goes_on}
use Rattle.ledger_obligations.specs.Obligations.{is_named}
use Rattle.spread_notes.proofs.promises.method_named.Goals as goal

pub returns-in-Some-named_in : goal.returns-in-Some-named_in
returns-in-Some-named_in c = walk_ends c.args.p.now (is_named c.args.p.now c.args.name) (methods_of c.args.p.now) c.len-step-end.result c.loop-step.step c.loop-step.next c.in-Some.class c.named_in.result c.in-Some-named_in.found _ c.loop-step-test.true c.in-Some.is c.named_in.ensures c.in-Some-named_in.is c.loop-step.invariant

pub loop-step-preserved : goal.loop-step-preserved
loop-step-preserved c = walk_goes_on c.args.p.now (is_named c.args.p.now c.args.name) (methods_of c.args.p.now) c.len-step-end.result c.loop-step.step c.loop-step.next c.in-Some.class c.named_in.result c.super_of-next.result _ c.loop-step-test.true c.in-Some.is c.named_in.ensures c.in-None-named_in.is c.super_of-next.ensures c.loop-step.invariant
