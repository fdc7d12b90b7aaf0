-- One fault more is listed.
use Rattle.obligation_paths.proofs.OriginLaws.{item_at}
use Rattle.obligation_flow.specs.declared.faults.TracedFault.{TracedFault}
use Rattle.obligation_flow.proofs.ListedLaws.{breaches_more, named_more}
use Rattle.obligation_flow.proofs.faults.all_faults.Goals as goal

pub each-preserved : goal.each-preserved
each-preserved c =
    let x = c.each-item.result in
    let v : TracedFault = record { origin = c.index.result.now; breach = x.0; breached = x.1 } in
    let at = item_at c.args.breaches.now c.each.breach-index x c.each-test.true c.each-item.is in
    record {
      breaches = breaches_more c.each.faults.items c.push.new.self.items v c.args.breaches.now c.each.breach-index c.in_ok-push.ensures.items c.each.invariant.breaches at;
      named = named_more c.args.origins.now.keys c.each.faults.items c.push.new.self.items v c.in_ok-push.ensures.items c.each.invariant.named c.index.ensures;
    }
