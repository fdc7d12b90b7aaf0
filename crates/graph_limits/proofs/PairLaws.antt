-- Paths through the graph of a body reach as many pairs as paths of controls.
use Rattle.std.proofs.Common.{◌≡◌, ◌∙◌, sym, ap, refl, subst, arith, ℕ, zero, suc, Some, None, List, [], ◌∷◌, length, ◌↔◌}
use Rattle.rlc_base.specs.declared.faults.Stop.{Stop}
use Rattle.rlc_base.specs.declared.faults.Stop.TheVariants as stops
use Rattle.rlc_base.specs.declared.place.Pos.{Pos}
use Rattle.program_model.specs.declared.kinds.BodyId.{BodyId}
use Rattle.program_model.specs.declared.program.Program.{Program}
use Rattle.breadth_first.specs.Searches.{IsAt}
use Rattle.breadth_first.proofs.ListLaws.{at_same}
use Rattle.control_actions.specs.declared.fact.Fact.{Fact}
use Rattle.control_actions.specs.declared.fact.Origin.{Origin}
use Rattle.java_control.specs.Remaining.{Todo}
use Rattle.java_cfg.specs.declared.arc.Arc.{Arc}
use Rattle.java_cfg.specs.Graphs.{IsGraphOf}
use Rattle.graph_relation.specs.Paths.{Reach, Relation, relation_of}
use Rattle.graph_relation.specs.Nodes.{relation_in}
use Rattle.graph_relation.specs.Pairs.{IsPairsCause, IsReachedPair, Pair, ReachesMorePairs, most_pairs}
use Rattle.graph_relation.proofs.FaultLaws.{control_reach, node_reach}

-- Each pair that the first relation reaches is one of the second, whose control stands for that of the first alone.
module _ {K L : Type 0} (p : Program) (b : BodyId) (r : Relation K) (q : Relation L) (stands : L → K → Type 0)
    (alone : (l : L) (k m : K) → stands l k → stands l m → k ≡ m)
    (reach : (o : Origin) (k : K) (f : Fact) → Reach p b r o k f → (l : L) × (stands l k × Reach p b q o l f)) where
  -- the second pair is the first one, of the other relation
  record IsSame (x : Pair K) (y : Pair L) : Type 0 where
    control : stands y.control x.control
    origin : y.origin ≡ x.origin
    fact : y.fact ≡ x.fact
    reached : IsReachedPair p b q y

  -- the pairs of the second relation, in their order
  record AreSame (xs : List (Pair K)) (ys : List (Pair L)) : Type 0 where
    long : length ys ≡ length xs
    each : (i : ℕ) (y : Pair L) → IsAt ys i y → (x : Pair K) × (IsAt xs i x × IsSame x y)

  same_pair : (x : Pair K) → IsReachedPair p b r x → (y : Pair L) × IsSame x y
  same_pair x h =
      let there = reach x.origin x.control x.fact h in
      (record { control = there.0; origin = x.origin; fact = x.fact }, record { control = there.1.0; origin = refl; fact = refl; reached = there.1.1 })

  one_more : (x : Pair K) (xs : List (Pair K)) (y : Pair L) (ys : List (Pair L)) → IsSame x y → AreSame xs ys
      → (i : ℕ) (z : Pair L) → IsAt (y ∷ ys) i z → (w : Pair K) × (IsAt (x ∷ xs) i w × IsSame w z)
  one_more x xs y ys same h zero z at = let here : y ≡ z = cc in (x, (refl, subst (IsSame x) here same))
  one_more x xs y ys same h (suc i) z at = h.each i z at

  same_pairs : (xs : List (Pair K)) → ((i : ℕ) (x : Pair K) → IsAt xs i x → IsReachedPair p b r x) → (ys : List (Pair L)) × AreSame xs ys
  same_pairs [] h = ([], record { long = refl; each = λ i y at. absurd (let never : None ≡ Some y = at in cc) })
  same_pairs (x ∷ xs) h =
      let first = same_pair x (h 0 x refl) in
      let rest = same_pairs xs (λ i z at. h (suc i) z at) in
      (first.0 ∷ rest.0, record { long = ap suc rest.1.long; each = one_more x xs first.0 rest.0 first.1 rest.1 })

  -- pairs with one and the same image are the same
  one_pair : (x w : Pair K) (y : Pair L) → IsSame x y → IsSame w y → x ≡ w
  one_pair x w y a c =
      let control : x.control ≡ w.control = alone y.control x.control w.control a.control c.control in
      let origin : x.origin ≡ w.origin = sym a.origin ∙ c.origin in
      let fact : x.fact ≡ w.fact = sym a.fact ∙ c.fact in
      (λ i. record { control = control i; origin = origin i; fact = fact i })

  more_pairs : (n : ℕ) → ReachesMorePairs p b r n → ReachesMorePairs p b q n
  more_pairs n h =
      let all = same_pairs h.pairs h.reached in
      let many = h.more in
      let long = all.1.long in
      record {
        pairs = all.0;
        reached = λ i y at. (all.1.each i y at).1.1.reached;
        once = λ i j y here there. (
            let first = all.1.each i y here in
            let other = all.1.each j y there in
            let same = one_pair first.0 other.0 y first.1.1 other.1.1 in
            h.once i j other.0 (subst (IsAt h.pairs i) same first.1.0) other.1.0);
        more = omega (arith, many, long);
      }

module _ (p : Program) (b : BodyId) (nodes : List (List Todo)) (rows : List (List Arc)) (g : IsGraphOf p b nodes rows) where
  pub control_pairs : (n : ℕ) → ReachesMorePairs p b (relation_in rows) n → ReachesMorePairs p b (relation_of p b) n
  control_pairs n h =
      more_pairs p b (relation_in rows) (relation_of p b) (λ (c : List Todo) (k : ℕ). IsAt nodes k c)
      (λ c k m here there. g.once k m c here there) (node_reach p b nodes rows g) n h

  pub node_pairs : (n : ℕ) → ReachesMorePairs p b (relation_of p b) n → ReachesMorePairs p b (relation_in rows) n
  node_pairs n h =
      more_pairs p b (relation_of p b) (relation_in rows) (λ (k : ℕ) (c : List Todo). IsAt nodes k c)
      (λ k c d here there. at_same nodes k c d here there) (control_reach p b nodes rows g) n h

  cause_of_controls : (pos : Pos) (stop : Stop) → IsPairsCause p b (relation_in rows) pos stop → IsPairsCause p b (relation_of p b) pos stop
  cause_of_controls pos (stops.Refused x) h = h
  cause_of_controls pos (stops.TooMuch x) h = (h.0, control_pairs most_pairs h.1)
  cause_of_controls pos stops.NoMemory h = tt

  cause_of_nodes : (pos : Pos) (stop : Stop) → IsPairsCause p b (relation_of p b) pos stop → IsPairsCause p b (relation_in rows) pos stop
  cause_of_nodes pos (stops.Refused x) h = h
  cause_of_nodes pos (stops.TooMuch x) h = (h.0, node_pairs most_pairs h.1)
  cause_of_nodes pos stops.NoMemory h = tt

  pub same_cause : (pos : Pos) (stop : Stop) → IsPairsCause p b (relation_in rows) pos stop ↔ IsPairsCause p b (relation_of p b) pos stop
  same_cause pos stop = (cause_of_controls pos stop, cause_of_nodes pos stop)
