-- What paths reach is visited, and what is visited is reached.
use Rattle.std.proofs.Common.{◌≡◌, ◌∙◌, sym, ap, refl, subst, ℕ, zero, suc, Option, Some, None, List, [], ◌∷◌, ◌++◌, length}
use Rattle.std.specs.Prelude.{map, slice_get}
use Rattle.program_model.specs.declared.kinds.BodyId.{BodyId}
use Rattle.program_model.specs.declared.program.Program.{Program}
use Rattle.reached_pairs.specs.Searches.{AreOnce, IsAt, Stands}
use Rattle.fact_search.specs.Walks.{IsWalk}
use Rattle.reached_pairs.proofs.ListLaws.{at_behind, at_place, at_within, map_at}
use Rattle.fact_pool.specs.declared.handle.Handle.{Handle}
use Rattle.fact_search.specs.Searched.{IsSearched}
use Rattle.fact_search.proofs.SearchedLaws.{searched_all, visit_reached}
use Rattle.java_cfg.specs.declared.arc.Arc.{Arc}
use Rattle.control_actions.specs.declared.fact.Fact.{Fact}
use Rattle.control_actions.specs.declared.fact.Origin.{Origin}
use Rattle.control_actions.specs.declared.fact.Outcome.TheVariants.{Next}
use Rattle.body_origins.specs.Births.{births_of_step}
use Rattle.body_origins.specs.Flow.{flow}
use Rattle.body_origins.specs.Numbering.{numbered, numbered_outcome}
use Rattle.body_origins.specs.Paths.{Comes, Move, Reach, start, on, entered, born, flowed}
use Rattle.body_origins.proofs.NumberingLaws.{flow-numbered}
use Rattle.reached_pairs.specs.Visited.{fact_in, facts_in, known_in, pair_of, pair_with, pairs_in, with_fact}
use Rattle.reached_pairs.proofs.Reading.{facts_stand, pairs_once}
use Rattle.reached_pairs.specs.declared.visit.Source.{Source as Step}
use Rattle.reached_pairs.specs.declared.visit.Visit.{Visit}
use Rattle.body_origins.specs.Nodes.{arcs_at, move_of, relation_in}
use Rattle.reached_facts.specs.Reading.{AreReachedPairs, IsReachedFact}
use Rattle.reached_facts.specs.Steps.{Begins, Leads}
use Rattle.reached_facts.proofs.PathLaws.{walk_known}

-- ---- visits and their pairs

-- the node and the handle of a visit
abbrev handled : Visit → ℕ × Option Handle
handled v = (v.node, v.fact)

pair_same : (node : ℕ) (o : Option Handle) → with_fact node o ≡ pair_with node o
pair_same node None = refl
pair_same node (Some h) = refl

pairs_same : (visits : List Visit) → facts_in (map handled visits) ≡ pairs_in visits
pairs_same [] = refl
pairs_same (v ∷ visits) = ap (λ xs. xs ++ facts_in (map handled visits)) (pair_same v.node v.fact) ∙ ap (λ xs. pair_of v ++ xs) (pairs_same visits)

handled_once : (visits : List Visit) → AreOnce visits → AreOnce (map handled visits)
handled_once visits once i j x here there =
    let v = map_at handled visits i x here in
    let w = map_at handled visits j x there in
    let both : handled v.0 ≡ handled w.0 = v.1.1 ∙ sym w.1.1 in
    let same : v.0 ≡ w.0 = (λ k. record { node = (both k).0; fact = (both k).1 }) in
    once i j w.0 (v.1.0 ∙ ap Some same) w.1.0

visit_pairs_once : (visits : List Visit) → AreOnce visits → AreOnce (pairs_in visits)
visit_pairs_once visits once = subst (λ (xs : List (ℕ × Handle)). AreOnce xs) (pairs_same visits) (pairs_once (map handled visits) (handled_once visits once))

-- the visit of a pair
pair_visit : (visits : List Visit) (i : ℕ) (x : ℕ × Handle) → IsAt (pairs_in visits) i x → (k : ℕ) × ((v : Visit) × (IsAt visits k v × ((v.node ≡ x.0) × (v.fact ≡ Some x.1))))
pair_visit visits i x here =
    let one = facts_stand (map handled visits) i x (ap (λ (xs : List (ℕ × Handle)). slice_get xs i) (pairs_same visits) ∙ here) in
    let two = map_at handled visits one.0 (x.0, Some x.1) one.1 in
    (one.0, (two.0, (two.1.0, (ap (λ (z : ℕ × Option Handle). z.0) two.1.1, ap (λ (z : ℕ × Option Handle). z.1) two.1.1))))

-- the pair of a visit
visit_pair : (visits : List Visit) (k : ℕ) (v : Visit) (h : Handle) → IsAt visits k v → v.fact ≡ Some h → Stands (pairs_in visits) (v.node, h)
visit_pair [] k v h here is = absurd (let never : None ≡ Some v = here in cc)
visit_pair (w ∷ visits) zero v h here is =
    let same : w ≡ v = cc in
    let one : pair_of w ≡ (v.node, h) ∷ [] = ap pair_of same ∙ ap (pair_with v.node) is in
    (0, ap (λ xs. slice_get (xs ++ pairs_in visits) 0) one)
visit_pair (w ∷ visits) (suc k) v h here is = let rest = visit_pair visits k v h here is in at_behind (pair_of w) (pairs_in visits) rest.0 (v.node, h) rest.1

-- the handle of a visit whose fact is read
handle_of_fact : (facts : List Fact) (o : Option Handle) (g : Fact) → fact_in facts o ≡ Some g → (h : Handle) × ((o ≡ Some h) × IsAt facts h.0 g)
handle_of_fact facts None g is = absurd (let never : None ≡ Some g = is in cc)
handle_of_fact facts (Some h) g is = (h, (refl, is))

module _ (p : Program) (b : BodyId) (rows : List (List Arc)) (origins : List Origin) where
  -- a walk leads to a node that paths come to
  pub comes_walk : (k : ℕ) → Comes (relation_in rows) k → (n : ℕ) × IsWalk (Begins p b origins) (Leads p b rows origins) n (k, None)
  comes_walk _ start = (0, refl)
  comes_walk _ (on {k} i t h at) = further (comes_walk k h)
    where
      further : (n : ℕ) × IsWalk (Begins p b origins) (Leads p b rows origins) n (k, None) → (n : ℕ) × IsWalk (Begins p b origins) (Leads p b rows origins) n (t.to, None)
      further before =
          let one = map_at move_of (arcs_at rows k) i t at in
          (suc before.0, ((k, None), (before.1, (i, (one.0, (one.1.0, (sym (ap (λ (m : Move ℕ). m.to) one.1.1), tt)))))))

  -- a walk leads to what paths reach
  pub reach_walk : (o : Origin) (m : ℕ) → IsAt origins m o → (k : ℕ) (f : Fact) → Reach p b (relation_in rows) o k f → (n : ℕ) × IsWalk (Begins p b origins) (Leads p b rows origins) n (k, Some (numbered m f))
  reach_walk o m here _ f (entered n is) = (0, (refl, ((o, f), ((n, is), (here, refl)))))
  reach_walk o m here _ f (born {k} i n t h at is) = further (comes_walk k h)
    where
      further : (n : ℕ) × IsWalk (Begins p b origins) (Leads p b rows origins) n (k, None) → (n : ℕ) × IsWalk (Begins p b origins) (Leads p b rows origins) n (t.to, Some (numbered m f))
      further before =
          let one = map_at move_of (arcs_at rows k) i t at in
          let birth = subst (λ (x : Move ℕ). slice_get (births_of_step p b x.action x.edge x.pos) n ≡ Some (o, f)) (sym one.1.1) is in
          (suc before.0, ((k, None), (before.1, (i, (one.0, (one.1.0, (sym (ap (λ (x : Move ℕ). x.to) one.1.1), ((o, f), ((n, birth), (here, refl))))))))))
  reach_walk o m here _ g (flowed {k} {f} i t h at is) = further (reach_walk o m here k f h)
    where
      further : (n : ℕ) × IsWalk (Begins p b origins) (Leads p b rows origins) n (k, Some (numbered m f)) → (n : ℕ) × IsWalk (Begins p b origins) (Leads p b rows origins) n (t.to, Some (numbered m g))
      further before =
          let one = map_at move_of (arcs_at rows k) i t at in
          let flows : flow p b o one.0.action one.0.edge f ≡ Next g = subst (λ (x : Move ℕ). flow p b o x.action x.edge f ≡ Next g) (sym one.1.1) is in
          let numbered_flow : flow p b o one.0.action one.0.edge (numbered m f) ≡ Next (numbered m g) = flow-numbered m p b o one.0.action one.0.edge f ∙ ap (numbered_outcome m) flows in
          (suc before.0, ((k, Some (numbered m f)), (before.1, (i, (one.0, (one.1.0, (sym (ap (λ (x : Move ℕ). x.to) one.1.1), (o, (here, numbered_flow)))))))))

  -- the pairs of the visits are those that paths reach
  pub reached_pairs_of : (facts : List Fact) (visits : List Visit) (pairs : List (ℕ × Handle)) (steps : List (Option Step)) → IsSearched (Begins p b origins) (Leads p b rows origins) facts visits pairs steps (length visits)
      → AreReachedPairs p b (relation_in rows) origins facts pairs
  reached_pairs_of facts visits pairs steps h = record {
    once = subst (λ (xs : List (ℕ × Handle)). AreOnce xs) (sym h.held.listed) (visit_pairs_once visits h.held.once);
    only = only;
    all = all;
    facts_once = h.held.facts_once;
    facts_used = λ i g here. (
        let one = h.held.used i (at_within facts i g here) in
        ((one.1.0.node, one.1.1.0), (listed (one.1.0.node, one.1.1.0) (visit_pair visits one.0 one.1.0 one.1.1.0 one.1.1.1.0 one.1.1.1.1.0), one.1.1.1.1.1)));
  }
    where
      listed : (x : ℕ × Handle) → Stands (pairs_in visits) x → Stands pairs x
      listed x stands = subst (λ (xs : List (ℕ × Handle)). Stands xs x) (sym h.held.listed) stands

      only : (i : ℕ) (x : ℕ × Handle) → IsAt pairs i x → (g : Fact) × (IsAt facts x.1.0 g × IsReachedFact p b (relation_in rows) origins x.0 g)
      only i x here =
          let one = pair_visit visits i x (ap (λ (xs : List (ℕ × Handle)). slice_get xs i) (sym h.held.listed) ∙ here) in
          let at = at_place facts x.1.0 (h.held.handles one.0 one.1.0 x.1 one.1.1.0 one.1.1.1.1) in
          let read : Some at.0 ≡ fact_in facts one.1.0.fact = sym (ap (fact_in facts) one.1.1.1.1 ∙ at.1) in
          let walk = visit_reached (Begins p b origins) (Leads p b rows origins) facts visits pairs steps (length visits) h one.0 one.1.0 (Some at.0) one.1.1.0 read in
          let known = walk_known p b rows origins walk.0 one.1.0.node at.0 walk.1 in
          (at.0, (at.1, subst (λ (n : ℕ). IsReachedFact p b (relation_in rows) origins n at.0) one.1.1.1.0 (known.origin, (known.fact, (known.at, (known.reached, known.is))))))

      all : (node : ℕ) (g : Fact) → IsReachedFact p b (relation_in rows) origins node g → (x : ℕ × Handle) × (Stands pairs x × ((x.0 ≡ node) × IsAt facts x.1.0 g))
      all node g (o, (f, (at, (reached, is)))) =
          let walk = reach_walk o g.origin at node f reached in
          let found = (searched_all (Begins p b origins) (Leads p b rows origins) facts visits pairs steps h).least walk.0 (node, Some (numbered g.origin f)) walk.1 in
          let visit = map_at (known_in facts) visits found.0 (node, Some (numbered g.origin f)) found.1.0 in
          let read : fact_in facts visit.0.fact ≡ Some g = ap (λ (z : ℕ × Option Fact). z.1) visit.1.1 ∙ ap Some is in
          let handle = handle_of_fact facts visit.0.fact g read in
          ((visit.0.node, handle.0), (listed (visit.0.node, handle.0) (visit_pair visits found.0 visit.0 handle.0 visit.1.0 handle.1.0), (ap (λ (z : ℕ × Option Fact). z.0) visit.1.1, handle.1.1)))
