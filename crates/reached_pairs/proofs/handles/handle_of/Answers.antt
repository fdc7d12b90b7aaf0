use Rattle.std.proofs.Common.{sym}
use Rattle.fact_pool.specs.Regions.{list_of}
use Rattle.fact_pool.proofs.RegionLemmas.{with_list-own}
use Rattle.reached_pairs.proofs.Adding.{handled}
use Rattle.reached_pairs.proofs.handles.handle_of.Goals as goal

pub returns-in-None-clause-others : goal.returns-in-None-clause-others
returns-in-None-clause-others g c = sym (with_list-own c.args.pool.now c.args.region.now c.requires.live)

pub returns-in_ok-handle-in-Some-clause-handle : goal.returns-in_ok-handle-in-Some-clause-handle
returns-in_ok-handle-in-Some-clause-handle g c =
    rw c.in-Some.is
    (handled g.F.PartialEq.eq (list_of c.args.pool.now c.args.region.now) (list_of c.intern.new.self c.args.region.now) c.in-Some.value c.in_ok-handle-in-Some.handle c.in_ok-handle-in-Some.field-0-1 c.requires.exact c.in_ok-handle-in-Some.ensures.list)
