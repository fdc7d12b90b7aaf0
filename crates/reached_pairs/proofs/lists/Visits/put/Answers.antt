-- A visit that is new is put last.
use Rattle.reached_pairs.specs.contracts.visit.VisitPartialEq.TheImpl as visit_eq
use Rattle.std.proofs.Common.{inr}
use Rattle.std.specs.List.{list_any}
use Rattle.reached_pairs.proofs.Outcomes.{if_err, on_ok, put_cause}
use Rattle.reached_pairs.proofs.VisitLaws.{new_flag, put_new, same_visit}
use Rattle.reached_pairs.proofs.lists.Visits.put.Goals as goal

pub returns-in_ok-push-clause-put : goal.returns-in_ok-push-clause-put
returns-in_ok-push-clause-put c =
    let none = new_flag (list_any ((visit_eq.ghosts).eq c.args.visit) c.args.self.now.visits.keys) c.in_ok-is_new.is_new c.in_ok-is_new.ensures.added c.if-is_new.true in
    let new = put_new (visit_eq.ghosts).eq c.args.self.now.visits.keys c.insert_full.new.self.keys c.args.visit same_visit none c.in_ok-is_new.ensures.keys in
    on_ok c.put_pair.result _ _ (λ is. record { is = inr (new.0, (new.1, (c.in_ok-push.ensures.items, is))) }) c.put_pair.ensures.pairs

pub returns-in_ok-push-clause-cause : goal.returns-in_ok-push-clause-cause
returns-in_ok-push-clause-cause c =
    let none = new_flag (list_any ((visit_eq.ghosts).eq c.args.visit) c.args.self.now.visits.keys) c.in_ok-is_new.is_new c.in_ok-is_new.ensures.added c.if-is_new.true in
    let new = put_new (visit_eq.ghosts).eq c.args.self.now.visits.keys c.insert_full.new.self.keys c.args.visit same_visit none c.in_ok-is_new.ensures.keys in
    if_err c.put_pair.result _ _ (put_cause c.args.self.now.visits.keys c.args.self.now.pairs.items c.args.visit c.args.pos new.0) c.put_pair.ensures.cause
