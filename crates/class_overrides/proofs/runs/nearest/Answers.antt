-- A class has such a method, or its super class comes next.
use Rattle.program_model.specs.Overrides.{is_alike, methods_of}
use Rattle.class_overrides.proofs.Walks.{walk_ends, walk_goes_on}
use Rattle.class_overrides.proofs.runs.nearest.Goals as goal

pub returns-in-Some-alike_in : goal.returns-in-Some-alike_in
returns-in-Some-alike_in c = walk_ends c.args.p.now (is_alike c.args.p.now c.args.n.now) (methods_of c.args.p.now) c.len-step-end.result c.loop-step.step c.loop-step.next c.in-Some.class c.alike_in.result c.in-Some-alike_in.found _ c.loop-step-test.true c.in-Some.is c.alike_in.ensures c.in-Some-alike_in.is c.loop-step.invariant

pub loop-step-preserved : goal.loop-step-preserved
loop-step-preserved c = walk_goes_on c.args.p.now (is_alike c.args.p.now c.args.n.now) (methods_of c.args.p.now) c.len-step-end.result c.loop-step.step c.loop-step.next c.in-Some.class c.alike_in.result c.super_of-next.result _ c.loop-step-test.true c.in-Some.is c.alike_in.ensures c.in-None-alike_in.is c.super_of-next.ensures c.loop-step.invariant
