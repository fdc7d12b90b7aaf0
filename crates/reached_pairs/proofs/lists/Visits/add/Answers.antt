-- A point is put in by its visit.
use Rattle.fact_pool.specs.Regions.{list_of}
use Rattle.reached_pairs.proofs.Adding.{add_cause, added}
use Rattle.reached_pairs.proofs.Outcomes.{if_err, on_ok_both}
use Rattle.reached_pairs.proofs.lists.Visits.add.Goals as goal

pub returns-clause-visits : goal.returns-clause-visits
returns-clause-visits g c =
    on_ok_both c.put.result _ _ _
    (λ put few. (added (list_of c.args.pool.now c.args.region.now) (list_of c.handle_of.new.pool c.args.region.now) c.args.self.now.visits.keys c.args.self.now.sources.items c.args.self.now.pairs.items
    (record { node = c.args.point.now.node; fact = c.in_ok-fact.fact }) c.args.point.now.fact c.args.point.now.source c.requires.visits
    c.put.new.self.visits.keys c.put.new.self.sources.items c.put.new.self.pairs.items c.in_ok-fact.ensures.handle put (few c.requires.visits.few)).0)
    c.put.ensures.put c.put.ensures.few

pub returns-clause-extends : goal.returns-clause-extends
returns-clause-extends g c =
    on_ok_both c.put.result _ _ _
    (λ put few. (added (list_of c.args.pool.now c.args.region.now) (list_of c.handle_of.new.pool c.args.region.now) c.args.self.now.visits.keys c.args.self.now.sources.items c.args.self.now.pairs.items
    (record { node = c.args.point.now.node; fact = c.in_ok-fact.fact }) c.args.point.now.fact c.args.point.now.source c.requires.visits
    c.put.new.self.visits.keys c.put.new.self.sources.items c.put.new.self.pairs.items c.in_ok-fact.ensures.handle put (few c.requires.visits.few)).1)
    c.put.ensures.put c.put.ensures.few

pub returns-clause-cause : goal.returns-clause-cause
returns-clause-cause g c =
    if_err c.put.result _ _
    (λ stop cause. add_cause (list_of c.args.pool.now c.args.region.now) (list_of c.handle_of.new.pool c.args.region.now) c.args.self.now.visits.keys c.args.self.now.sources.items c.args.self.now.pairs.items
    (record { node = c.args.point.now.node; fact = c.in_ok-fact.fact }) c.args.point.now.fact c.args.point.now.source c.requires.visits c.args.pos stop c.in_ok-fact.ensures.handle cause)
    c.put.ensures.cause
