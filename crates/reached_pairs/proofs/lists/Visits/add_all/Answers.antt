-- The search comes to one point after another.
use Rattle.std.proofs.Common.{◌∙◌, ap, sym}
use Rattle.fact_pool.specs.Regions.{list_of, with_list}
use Rattle.fact_pool.proofs.RegionLemmas.{with_list-again, with_list-own}
use Rattle.reached_pairs.specs.Additions.{IsAddCause, points_in}
use Rattle.reached_pairs.specs.Visited.{found_in, sources_in}
use Rattle.reached_pairs.proofs.Adding.{cause_before, extends_next, extends_none, extends_whole}
use Rattle.reached_pairs.proofs.Outcomes.{passed_on}
use Rattle.reached_pairs.proofs.lists.Visits.add_all.Goals as goal

pub loop-point-init : goal.loop-point-init
loop-point-init g c = record {
  visits = c.requires.visits;
  extends = extends_none _ _;
  others = sym (with_list-own c.args.pool.now c.args.region.now c.requires.live);
  live = c.requires.live;
}

pub returns-in_err-add-clause-others : goal.returns-in_err-add-clause-others
returns-in_err-add-clause-others g c =
    c.add.ensures.others
    ∙ ap (λ p. with_list p c.args.region.now (list_of c.add.new.pool c.args.region.now)) c.loop-point.invariant.others
    ∙ with_list-again c.args.pool.now c.args.region.now (list_of c.loop-point.pool c.args.region.now) (list_of c.add.new.pool c.args.region.now)

pub returns-in_err-add-clause-cause : goal.returns-in_err-add-clause-cause
returns-in_err-add-clause-cause g c =
    passed_on c.from_residual.result c.in_err-add.field-0.0 (IsAddCause (found_in (list_of c.args.pool.now c.args.region.now) c.args.self.now.visits.keys) (points_in c.args.points.now) c.args.pos) c.from_residual.ensures.1
    (cause_before (found_in (list_of c.args.pool.now c.args.region.now) c.args.self.now.visits.keys) (sources_in c.args.self.now.sources.items) c.args.points.now c.loop-point.point-index c.point-item.result c.point-item.is
    (found_in (list_of c.loop-point.pool c.args.region.now) c.loop-point.self.visits.keys) (sources_in c.loop-point.self.sources.items) c.args.pos c.in_err-add.field-0.0
    c.loop-point-test.true c.loop-point.invariant.extends c.in_err-add.ensures.cause)

pub loop-point-preserved : goal.loop-point-preserved
loop-point-preserved g c = record {
  visits = c.in_ok-add.ensures.visits;
  extends =
      extends_next (found_in (list_of c.args.pool.now c.args.region.now) c.args.self.now.visits.keys) (sources_in c.args.self.now.sources.items) c.args.points.now c.loop-point.point-index c.point-item.result c.point-item.is
      (found_in (list_of c.loop-point.pool c.args.region.now) c.loop-point.self.visits.keys) (sources_in c.loop-point.self.sources.items)
      (found_in (list_of c.add.new.pool c.args.region.now) c.add.new.self.visits.keys) (sources_in c.add.new.self.sources.items)
      c.loop-point-test.true c.loop-point.invariant.extends c.in_ok-add.ensures.extends;
  others =
      c.add.ensures.others
      ∙ ap (λ p. with_list p c.args.region.now (list_of c.add.new.pool c.args.region.now)) c.loop-point.invariant.others
      ∙ with_list-again c.args.pool.now c.args.region.now (list_of c.loop-point.pool c.args.region.now) (list_of c.add.new.pool c.args.region.now);
  live = c.add.ensures.live;
}

pub returns-clause-extends : goal.returns-clause-extends
returns-clause-extends g c =
    extends_whole (found_in (list_of c.args.pool.now c.args.region.now) c.args.self.now.visits.keys) (sources_in c.args.self.now.sources.items) c.args.points.now c.loop-point.point-index
    (found_in (list_of c.loop-point.pool c.args.region.now) c.loop-point.self.visits.keys) (sources_in c.loop-point.self.sources.items) c.loop-point-test.false c.loop-point.invariant.extends
