-- What walks reach is what paths reach.
use Rattle.std.proofs.Common.{◌≡◌, ◌∙◌, sym, ap, refl, subst, arith, ℕ, ◌<◌, zero, suc, Option, Some, None, List, [], ◌∷◌, length}
use Rattle.rlc_base.specs.declared.faults.Stop.{Stop}
use Rattle.rlc_base.specs.declared.faults.Stop.TheVariants as stops
use Rattle.rlc_base.specs.declared.place.Pos.{Pos}
use Rattle.program_model.specs.declared.kinds.BodyId.{BodyId}
use Rattle.program_model.specs.declared.program.Program.{Program}
use Rattle.reached_pairs.specs.Searches.{AreOnce, IsAt}
use Rattle.fact_search.specs.Walks.{IsWalk}
use Rattle.reached_pairs.proofs.ListLaws.{at_map, at_same}
use Rattle.fact_search.specs.Searched.{IsSearchCause, ReachMany}
use Rattle.java_cfg.specs.declared.arc.Arc.{Arc}
use Rattle.control_actions.specs.declared.fact.Fact.{Fact}
use Rattle.control_actions.specs.declared.fact.Origin.{Origin}
use Rattle.control_actions.specs.declared.fact.Outcome.{Outcome}
use Rattle.control_actions.specs.declared.fact.Outcome.TheVariants.{Next, Gone, Fault}
use Rattle.body_origins.specs.Flow.{flow}
use Rattle.body_origins.specs.Numbering.{numbered, numbered_outcome}
use Rattle.body_origins.specs.Paths.{Comes, Reach, start, on, entered, born, flowed}
use Rattle.body_origins.proofs.NumberingLaws.{flow-numbered}
use Rattle.body_origins.specs.Nodes.{AreNodes, arcs_at, move_of, relation_in}
use Rattle.body_origins.specs.Pairs.{IsPairsCause, IsReachedPair, Pair, ReachesMorePairs, most_pairs}
use Rattle.reached_facts.specs.Steps.{Begins, Leads}

next_of : (m : ℕ) (x : Outcome) (g : Fact) → numbered_outcome m x ≡ Next g → (f : Fact) × ((x ≡ Next f) × (numbered m f ≡ g))
next_of m (Next f) g h = (f, (refl, (let same : numbered m f ≡ g = cc in same)))
next_of m Gone g h = absurd (let never : Gone ≡ Next g = h in cc)
next_of m (Fault rule names) g h = absurd (let never : Fault rule names ≡ Next g = h in cc)

module _ (p : Program) (b : BodyId) (rows : List (List Arc)) (origins : List Origin) where
  -- a path reaches the node with the fact, but for the number of its origin
  pub record IsKnown (k : ℕ) (g : Fact) : Type 0 where
    pub origin : Origin
    pub fact : Fact
    pub at : IsAt origins g.origin origin
    pub reached : Reach p b (relation_in rows) origin k fact
    pub is : numbered g.origin fact ≡ g

  pub walk_comes : (n k : ℕ) → IsWalk (Begins p b origins) (Leads p b rows origins) n (k, None) → Comes (relation_in rows) k
  walk_comes zero k h = subst (Comes (relation_in rows)) (sym h) start
  walk_comes (suc n) k ((node, None), (walk, (i, (a, (arc, (to, is)))))) =
      subst (Comes (relation_in rows)) (sym to) (on i (move_of a) (walk_comes n node walk) (at_map move_of (arcs_at rows node) i a arc))
  walk_comes (suc n) k ((node, Some f), (walk, (i, (a, (arc, (to, is)))))) = absurd is

  goes_on : (k : ℕ) (f g : Fact) (i node : ℕ) (a : Arc) (o : Origin) → IsKnown node f → IsAt (arcs_at rows node) i a → k ≡ a.to → IsAt origins f.origin o → flow p b o a.action a.edge f ≡ Next g → IsKnown k g
  goes_on k f g i node a o before arc to at flows =
      let same : o ≡ before.origin = at_same origins f.origin o before.origin at before.at in
      let numbered_flow : numbered_outcome f.origin (flow p b before.origin a.action a.edge before.fact) ≡ Next g =
      sym (flow-numbered f.origin p b before.origin a.action a.edge before.fact) ∙ ap (flow p b before.origin a.action a.edge) before.is ∙ ap (λ x. flow p b x a.action a.edge f) (sym same) ∙ flows in
      let one = next_of f.origin (flow p b before.origin a.action a.edge before.fact) g numbered_flow in
      let number : f.origin ≡ g.origin = ap (λ (x : Fact). x.origin) one.1.1 in
      record {
        origin = before.origin;
        fact = one.0;
        at = subst (λ (m : ℕ). IsAt origins m before.origin) number before.at;
        reached = subst (λ (m : ℕ). Reach p b (relation_in rows) before.origin m one.0) (sym to) (flowed i (move_of a) before.reached (at_map move_of (arcs_at rows node) i a arc) one.1.0);
        is = subst (λ (m : ℕ). numbered m one.0 ≡ g) number one.1.1;
      }

  -- what a walk reaches is known by a path
  pub walk_known : (n k : ℕ) (g : Fact) → IsWalk (Begins p b origins) (Leads p b rows origins) n (k, Some g) → IsKnown k g
  walk_known zero k g (first, (x, (birth, (at, is)))) = record {
    origin = x.0;
    fact = x.1;
    at = at;
    reached = subst (λ (m : ℕ). Reach p b (relation_in rows) x.0 m x.1) (sym first) (entered birth.0 birth.1);
    is = is;
  }
  walk_known (suc n) k g ((node, None), (walk, (i, (a, (arc, (to, (x, (birth, (at, is))))))))) = record {
    origin = x.0;
    fact = x.1;
    at = at;
    reached = subst (λ (m : ℕ). Reach p b (relation_in rows) x.0 m x.1) (sym to) (born i birth.0 (move_of a) (walk_comes n node walk) (at_map move_of (arcs_at rows node) i a arc) birth.1);
    is = is;
  }
  walk_known (suc n) k g ((node, Some f), (walk, (i, (a, (arc, (to, (o, (at, flows)))))))) = goes_on k f g i node a o (walk_known n node f walk) arc to at flows

  -- a walk stays among the nodes
  pub walk_within : AreNodes rows → (n k : ℕ) (o : Option Fact) → IsWalk (Begins p b origins) (Leads p b rows origins) n (k, o) → k < length rows
  walk_within nodes zero k None begun = let first = nodes.starts in omega (arith, begun, first)
  walk_within nodes zero k (Some f) begun = let first = nodes.starts in let at = begun.0 in omega (arith, at, first)
  walk_within nodes (suc n) k o (before, (walk, (i, (a, (arc, (to, is)))))) = let inside = nodes.linked before.0 i a arc in omega (arith, to, inside)

  -- pairs of a node and a numbered fact, and the pairs of a control and a fact of an origin that they are
  record Told (xs : List (ℕ × Fact)) : Type 0 where
    pairs : List (Pair ℕ)
    each : (i : ℕ) (y : Pair ℕ) → IsAt pairs i y → IsReachedPair p b (relation_in rows) y × ((x : ℕ × Fact) × (IsAt xs i x × ((x.0 ≡ y.control) × (IsAt origins x.1.origin y.origin × (numbered x.1.origin y.fact ≡ x.1)))))
    long : length pairs ≡ length xs

  told : (xs : List (ℕ × Fact)) → ((i : ℕ) (x : ℕ × Fact) → IsAt xs i x → IsKnown x.0 x.1) → Told xs
  told [] known = record { pairs = []; each = λ i y here. absurd (let never : None ≡ Some y = here in cc); long = refl }
  told (x ∷ xs) known = next x xs (known 0 x refl) (told xs (λ i y here. known (suc i) y here))
    where
      pair_of : (x : ℕ × Fact) → IsKnown x.0 x.1 → Pair ℕ
      pair_of x one = record { control = x.0; origin = one.origin; fact = one.fact }

      each : (x : ℕ × Fact) (xs : List (ℕ × Fact)) (one : IsKnown x.0 x.1) (rest : Told xs) (i : ℕ) (y : Pair ℕ) → IsAt (record { control = x.0; origin = one.origin; fact = one.fact } ∷ rest.pairs) i y
          → IsReachedPair p b (relation_in rows) y × ((z : ℕ × Fact) × (IsAt (x ∷ xs) i z × ((z.0 ≡ y.control) × (IsAt origins z.1.origin y.origin × (numbered z.1.origin y.fact ≡ z.1)))))
      each x xs one rest zero y here =
          let w : Pair ℕ = record { control = x.0; origin = one.origin; fact = one.fact } in
          let same : w ≡ y = cc in
          subst (λ (u : Pair ℕ). IsReachedPair p b (relation_in rows) u × ((z : ℕ × Fact) × (IsAt (x ∷ xs) 0 z × ((z.0 ≡ u.control) × (IsAt origins z.1.origin u.origin × (numbered z.1.origin u.fact ≡ z.1))))))
          same (one.reached, (x, (refl, (refl, (one.at, one.is)))))
      each x xs one rest (suc i) y here = rest.each i y here

      next : (x : ℕ × Fact) (xs : List (ℕ × Fact)) (one : IsKnown x.0 x.1) (rest : Told xs) → Told (x ∷ xs)
      next x xs one rest = record { pairs = record { control = x.0; origin = one.origin; fact = one.fact } ∷ rest.pairs; each = each x xs one rest; long = ap suc rest.long }

  many_pairs : AreOnce origins → ReachMany (Begins p b origins) (Leads p b rows origins) → ReachesMorePairs p b (relation_in rows) most_pairs
  many_pairs once many =
      let all = told many.pairs (λ i x here. let walk = many.each i x here in walk_known walk.0 x.0 x.1 walk.1) in
      record {
        pairs = all.pairs;
        reached = λ i y here. (all.each i y here).0;
        once = λ i j y here there.
            let one = (all.each i y here).1 in
            let two = (all.each j y there).1 in
            let nodes : one.0.0 ≡ two.0.0 = one.1.1.0 ∙ sym two.1.1.0 in
            let numbers : one.0.1.origin ≡ two.0.1.origin = once one.0.1.origin two.0.1.origin y.origin one.1.1.1.0 two.1.1.1.0 in
            let facts : one.0.1 ≡ two.0.1 = sym one.1.1.1.1 ∙ ap (λ n. numbered n y.fact) numbers ∙ two.1.1.1.1 in
            let same : one.0 ≡ two.0 = (λ k. (nodes k, facts k)) in
            many.once i j two.0 (one.1.0 ∙ ap Some same) two.1.0;
        more = subst (λ (n : ℕ). most_pairs < n) (sym all.long) many.more;
      }

  -- where walks reach too many pairs, so do paths
  pub pairs_cause : AreOnce origins → (pos : Pos) (stop : Stop) → IsSearchCause (Begins p b origins) (Leads p b rows origins) pos stop → IsPairsCause p b (relation_in rows) pos stop
  pairs_cause once pos (stops.Refused x) cause = cause
  pairs_cause once pos (stops.TooMuch x) cause = (cause.0, many_pairs once cause.1)
  pairs_cause once pos stops.NoMemory cause = tt
