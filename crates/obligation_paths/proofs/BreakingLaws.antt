-- The steps to the first visit from which a step breaks a rule, with that step, tell a shortest path that breaks it.
use Rattle.std.proofs.Common.{◌≡◌, ◌∙◌, sym, ap, refl, subst, arith, ℕ, ◌≤◌, suc, Option, Some, None, List, [], ◌∷◌, ◌++◌, length}
use Rattle.std.specs.Prelude.{map}
use Rattle.program_model.specs.declared.kinds.BodyId.{BodyId}
use Rattle.program_model.specs.declared.program.Program.{Program}
use Rattle.breadth_first.specs.Searches.{IsAt, IsChain}
use Rattle.breadth_first.proofs.ListLaws.{at_map, at_same, length_mapped, map_append}
use Rattle.fact_pool.specs.declared.handle.Handle.{Handle}
use Rattle.reached_facts.specs.Searched.{IsSearched}
use Rattle.reached_facts.proofs.SearchedLaws.{searched_all}
use Rattle.java_cfg.specs.declared.arc.Arc.{Arc}
use Rattle.control_actions.specs.declared.fact.Fact.{Fact}
use Rattle.control_actions.specs.declared.fact.Origin.{Origin}
use Rattle.control_actions.specs.declared.fact.Outcome.{Outcome}
use Rattle.control_actions.specs.declared.fact.Outcome.TheVariants.{Next, Gone, Fault}
use Rattle.control_actions.specs.declared.fact.Rule.{Rule}
use Rattle.flow_rules.specs.Facts.{Names}
use Rattle.flow_rules.specs.Flow.{flow}
use Rattle.flow_rules.specs.Numbering.{numbered, numbered_outcome}
use Rattle.flow_rules.specs.Paths.{IsPath, Taken, taken}
use Rattle.flow_rules.specs.declared.path_step.PathStep.{PathStep}
use Rattle.flow_rules.proofs.NumberingLaws.{flow-numbered}
use Rattle.reached_pairs.specs.Visited.{fact_in, known_in, sources_in}
use Rattle.reached_pairs.specs.declared.visit.Source.{Source as Step}
use Rattle.reached_pairs.specs.declared.visit.Visit.{Visit}
use Rattle.graph_relation.specs.Nodes.{arcs_at, move_of, relation_in}
use Rattle.reached_facts.specs.Steps.{Begins, Leads}
use Rattle.shortest_paths.specs.Telling.{IsShortestPath, IsToldStep, step_from, told}
use Rattle.shortest_paths.proofs.TellingLaws.{length_push}
use Rattle.body_faults.proofs.FirstLaws.{first_least}
use Rattle.body_faults.specs.Breaches.{IsFirstBreach}
use Rattle.body_faults.specs.declared.breach.Breach.{Breach}
use Rattle.body_faults.specs.declared.breach.Breached.{Breached}
use Rattle.obligation_paths.specs.Paths.{IsPathTo, TellsShortest, fault_from, step_at}
use Rattle.obligation_paths.proofs.BirthLaws.{fact_same, path_unnumbered}
use Rattle.obligation_paths.proofs.WalkLaws.{walk_path}

fault_of : (m : ℕ) (x : Outcome) (rule : Rule) (names : Names) → numbered_outcome m x ≡ Fault rule names → x ≡ Fault rule names
fault_of m (Next f) rule names h = absurd (let never : Next (numbered m f) ≡ Fault rule names = h in cc)
fault_of m Gone rule names h = absurd (let never : Gone ≡ Fault rule names = h in cc)
fault_of m (Fault r n) rule names h = h

told_push : (m : ℕ) (front steps : List PathStep) (x : PathStep) (path : List (Taken ℕ)) (t : Taken ℕ) → front ≡ map (told m) path → x ≡ told m t → steps ≡ front ++ x ∷ [] → steps ≡ map (told m) (path ++ t ∷ [])
told_push m front steps x path t before last is =
    is ∙ ap (λ y. front ++ y ∷ []) last ∙ ap (λ ys. ys ++ told m t ∷ []) before ∙ sym (map_append (told m) path (t ∷ []))

-- the handle of a visit whose fact is read
handle_of_fact : (facts : List Fact) (o : Option Handle) (g : Fact) → fact_in facts o ≡ Some g → (q : Handle) × ((o ≡ Some q) × IsAt facts q.0 g)
handle_of_fact facts None g is = absurd (let never : None ≡ Some g = is in cc)
handle_of_fact facts (Some q) g is = (q, (refl, is))

module _ (p : Program) (b : BodyId) (rows : List (List Arc)) (origins : List Origin) (facts : List Fact) (visits : List Visit) (pairs : List (ℕ × Handle)) (sources : List (Option Step))
    (h : IsSearched (Begins p b origins) (Leads p b rows origins) facts visits pairs sources (length visits)) where
  -- a path to what is visited that has the fewest steps is no longer than the chain of the visit
  no_longer : (k n : ℕ) (v : Visit) (g : Fact) (front : List PathStep) → IsAt visits k v → fact_in facts v.fact ≡ Some g → IsShortestPath p b (relation_in rows) origins v.node g front
      → IsChain (sources_in sources) n k → length front ≤ n
  no_longer k n v g front here read shortest chain =
      let all = searched_all (Begins p b origins) (Leads p b rows origins) facts visits pairs sources h in
      let walk = all.reached k n (v.node, Some g) (at_map (known_in facts) visits k v here ∙ ap (λ (o : Option Fact). Some (v.node, o)) read) chain in
      let one = walk_path p b rows origins n v.node g walk in
      let origin : one.origin ≡ shortest.origin = at_same origins g.origin one.origin shortest.origin one.at shortest.at in
      let fact : one.fact ≡ shortest.fact =
      fact_same g.origin one.fact shortest.fact (path_unnumbered p b (relation_in rows) one.origin one.steps v.node (Some one.fact) one.path)
      (path_unnumbered p b (relation_in rows) shortest.origin shortest.tells.path v.node (Some shortest.fact) shortest.tells.is) (one.is ∙ sym shortest.is) in
      let low = shortest.least one.steps (subst (λ (z : Origin × Fact). IsPath p b (relation_in rows) z.0 one.steps v.node (Some z.1)) (λ i. (origin i, fact i)) one.path) in
      let long = one.long in
      omega (arith, low, long)

  module _ (x : Breach) (y : Breached) (o : Origin) (at : IsAt origins x.origin o) (first : IsFirstBreach p b rows origins facts visits (x, y))
      (front : List PathStep) (shortest : IsShortestPath p b (relation_in rows) origins first.visit.node first.breaks.fact front) where
    chain_of : (n : ℕ) × IsChain (sources_in sources) n y.visit
    chain_of =
        (searched_all (Begins p b origins) (Leads p b rows origins) facts visits pairs sources h).chained y.visit (first.visit.node, Some first.breaks.fact)
        (at_map (known_in facts) visits y.visit first.visit first.place ∙ ap (λ (q : Option Fact). Some (first.visit.node, q)) first.breaks.read)

    same_origin : shortest.origin ≡ o
    same_origin = at_same origins first.breaks.fact.origin shortest.origin o shortest.at (subst (λ (n : ℕ). IsAt origins n o) (sym first.breaks.number) at)

    broken : flow p b o first.breaks.arc.action first.breaks.arc.edge shortest.fact ≡ Fault x.rule first.names
    broken =
        let bk = first.breaks in
        let same : bk.origin ≡ o = at_same origins x.origin bk.origin o bk.numbered at in
        fault_of bk.fact.origin (flow p b o bk.arc.action bk.arc.edge shortest.fact) x.rule first.names
        (sym (flow-numbered bk.fact.origin p b o bk.arc.action bk.arc.edge shortest.fact) ∙ ap (flow p b o bk.arc.action bk.arc.edge) shortest.is
        ∙ ap (λ (q : Origin). flow p b q bk.arc.action bk.arc.edge bk.fact) (sym same) ∙ bk.breaks)

    abbrev last : Taken ℕ
    last = taken first.visit.node (move_of first.breaks.arc) (Some shortest.fact)

    -- the steps with the last one are a path that breaks the rule
    path_to : IsPathTo p b (relation_in rows) o x.rule x.at first.names (shortest.tells.path ++ last ∷ [])
    path_to = record {
      before = shortest.tells.path;
      control = first.visit.node;
      fact = shortest.fact;
      path = subst (λ (q : Origin). IsPath p b (relation_in rows) q shortest.tells.path first.visit.node (Some shortest.fact)) same_origin shortest.tells.is;
      index = y.arc;
      move = move_of first.breaks.arc;
      step = at_map move_of (arcs_at rows first.visit.node) y.arc first.breaks.arc first.breaks.taken;
      breaks = broken;
      place = first.breaks.place;
      is = refl;
    }

    least : (others : List (Taken ℕ)) (missing : Names) → IsPathTo p b (relation_in rows) o x.rule x.at missing others → length (shortest.tells.path ++ last ∷ []) ≤ length others
    least others missing q =
        let chain = chain_of in
        let low =
        first_least p b rows origins facts visits pairs sources h y.visit chain.0 x.origin x.rule x.at chain.1 first.earliest o at q.before q.control q.fact q.path q.index q.move missing q.step q.breaks q.place in
        let short = no_longer y.visit chain.0 first.visit first.breaks.fact front first.place first.breaks.read shortest chain.1 in
        let told_long : length front ≡ length shortest.tells.path = ap length shortest.tells.told ∙ length_mapped (told first.breaks.fact.origin) shortest.tells.path in
        let long : length (shortest.tells.path ++ last ∷ []) ≡ suc (length shortest.tells.path) = length_push shortest.tells.path last in
        let other : length others ≡ suc (length q.before) = ap length q.is ∙ length_push q.before (taken q.control q.move (Some q.fact)) in
        omega (arith, low, short, told_long, long, other)

    told_last : (s : PathStep) → IsToldStep rows facts visits (step_at y) s → s ≡ told first.breaks.fact.origin last
    told_last s step =
        let bk = first.breaks in
        let visit : step.visit ≡ first.visit = at_same visits y.visit step.visit first.visit step.place first.place in
        let arc : step.arc ≡ bk.arc = at_same (arcs_at rows first.visit.node) y.arc step.arc bk.arc (subst (λ (v : Visit). IsAt (arcs_at rows v.node) y.arc step.arc) visit step.taken) bk.taken in
        let from : step_from step.visit step.arc (fact_in facts step.visit.fact) ≡ step_from first.visit bk.arc (fact_in facts first.visit.fact) = (λ i. step_from (visit i) (arc i) (fact_in facts (visit i).fact)) in
        step.is ∙ from ∙ ap (step_from first.visit bk.arc) (bk.read ∙ ap Some (sym shortest.is))

    -- the steps of a shortest path to the visit, and the step that breaks the rule, tell a shortest path
    tells_breaking : (s : PathStep) (steps : List PathStep) → IsToldStep rows facts visits (step_at y) s → steps ≡ front ++ s ∷ [] → TellsShortest p b (relation_in rows) (fault_from o x y) steps
    tells_breaking s steps step is = record {
      number = first.breaks.fact.origin;
      path = shortest.tells.path ++ last ∷ [];
      told = told_push first.breaks.fact.origin front steps s shortest.tells.path last shortest.tells.told (told_last s step) is;
      is = record { names = first.names; path = path_to; within = first.within; least = least };
    }

  -- where the steps tell a shortest path to the visit, they tell one that breaks the rule with the step that does
  pub tells_first : (x : Breach) (y : Breached) (o : Origin) → IsAt origins x.origin o → IsFirstBreach p b rows origins facts visits (x, y) → (front : List PathStep)
      → ((v : Visit) (q : Handle) (g : Fact) → IsAt visits y.visit v → v.fact ≡ Some q → IsAt facts q.0 g → IsShortestPath p b (relation_in rows) origins v.node g front)
      → (s : PathStep) (steps : List PathStep) → IsToldStep rows facts visits (step_at y) s → steps ≡ front ++ s ∷ [] → TellsShortest p b (relation_in rows) (fault_from o x y) steps
  tells_first x y o at first front shortest s steps step is =
      let handle = handle_of_fact facts first.visit.fact first.breaks.fact first.breaks.read in
      tells_breaking x y o at first front (shortest first.visit handle.0 first.breaks.fact first.place handle.1.0 handle.1.1) s steps step is
