use Rattle.std.proofs.Common.{◌∙◌, ◌<◌, ap, arith, length, rules}
use Rattle.std.proofs.lemmas.Grind.{common_steps}
use Rattle.std.proofs.lemmas.Iterator.Adapters.{YieldsList-from_vec}
use Rattle.std.proofs.lemmas.Iterator.Consumers.{YieldsList-turn}
use Rattle.program_bodies.proofs.MethodSteps.{count_of_methods, method_step}
use Rattle.program_bodies.proofs.bodies.methods_with.Goals as goal

pub index-requires : goal.index-requires
index-requires c =
    let next = YieldsList-turn (YieldsList-from_vec {s = c.into_iter-method-iterator.result} c.args.methods.items (search rules) (search rules)) c.loop-method.yielded c.loop-method.method-iterator c.loop-method.yielded_by c.next.result c.next.new.self c.in-Some.method c.in-Some.is c.next.ensures.steps in
    let many = count_of_methods c.args.bodies.now 0 c.loop-method.yielded in
    let same = ap length c.loop-method.invariant in
    let long = c.in_ok-numbers.ensures.numbers.long in
    omega (arith, next.0, many, same, long)

pub loop-method-preserved : goal.loop-method-preserved
loop-method-preserved c =
    let next = YieldsList-turn (YieldsList-from_vec {s = c.into_iter-method-iterator.result} c.args.methods.items (search rules) (search rules)) c.loop-method.yielded c.loop-method.method-iterator c.loop-method.yielded_by c.next.result c.next.new.self c.in-Some.method c.in-Some.is c.next.ensures.steps in
    let many = count_of_methods c.args.bodies.now 0 c.loop-method.yielded in
    let same = ap length c.loop-method.invariant in
    let below : c.len-in-loop-method.result < c.len.result = omega (arith, next.0, many, same) in
    method_step c.args.bodies.now c.loop-method.yielded c.in-Some.method c.loop-method.made.items c.push.new.self.items c.len-in-loop-method.result c.index.result.now c.with_body.result c.loop-method.invariant (grind (arith, common_steps))
    (c.index.ensures ∙ c.in_ok-numbers.ensures.numbers.each c.len-in-loop-method.result c.index.result.now below) c.with_body.ensures c.in_ok-push.ensures.items
