-- Where the pairs that paths reach are listed, they are no more than the list has.
use Rattle.std.proofs.Common.{◌≡◌, ◌∙◌, sym, ap, refl, subst, arith, ℕ, ◌≤◌, zero, suc, Some, None, List, [], ◌∷◌, length}
use Rattle.std.specs.Prelude.{slice_get}
use Rattle.program_model.specs.declared.kinds.BodyId.{BodyId}
use Rattle.program_model.specs.declared.program.Program.{Program}
use Rattle.breadth_first.specs.Searches.{AreOnce, IsAt, Stands}
use Rattle.breadth_first.proofs.ListLaws.{at_same}
use Rattle.fact_pool.specs.declared.handle.Handle.{Handle}
use Rattle.java_cfg.specs.declared.arc.Arc.{Arc}
use Rattle.java_cfg.proofs.ListLemmas.{once_length}
use Rattle.control_actions.specs.declared.fact.Fact.{Fact}
use Rattle.control_actions.specs.declared.fact.Origin.{Origin}
use Rattle.flow_rules.specs.Numbering.{numbered}
use Rattle.obligation_paths.specs.Nodes.{relation_in}
use Rattle.obligation_paths.specs.Origins.{origins_of}
use Rattle.reached_facts.specs.Pairs.{IsReachedPair, Pair, ReachesMorePairs, most_pairs}
use Rattle.reached_facts.specs.Reading.{AreReachedPairs}
use Rattle.body_faults.proofs.ListedLaws.{reach_listed}
use Rattle.obligation_paths.proofs.BirthLaws.{fact_same, reach_unnumbered}

module _ (p : Program) (b : BodyId) (rows : List (List Arc)) (origins : List Origin) (facts : List Fact) (pairs : List (ℕ × Handle))
    (h : AreReachedPairs p b (relation_in rows) origins facts pairs) (listed : origins ≡ origins_of p b rows) where
  -- the pair of a node and a handle stands for the pair that paths reach
  record IsFor (x : Pair ℕ) (y : ℕ × Handle) : Type 0 where
    stands : Stands pairs y
    node : y.0 ≡ x.control
    number : ℕ
    origin : IsAt origins number x.origin
    fact : IsAt facts y.1.0 (numbered number x.fact)

  pair_for : (x : Pair ℕ) → IsReachedPair p b (relation_in rows) x → (y : ℕ × Handle) × IsFor x y
  pair_for x reached =
      let origin = reach_listed p b rows x.origin x.control x.fact reached in
      let at : IsAt origins origin.0 x.origin = ap (λ (os : List Origin). slice_get os origin.0) listed ∙ origin.1 in
      let one = h.all x.control (numbered origin.0 x.fact) (x.origin, (x.fact, (at, (reached, refl)))) in
      (one.0, record { stands = one.1.0; node = one.1.1.0; number = origin.0; origin = at; fact = one.1.1.1 })

  same_pair : (x z : Pair ℕ) (y : ℕ × Handle) → IsReachedPair p b (relation_in rows) x → IsReachedPair p b (relation_in rows) z → IsFor x y → IsFor z y → x ≡ z
  same_pair x z y first second one other =
      let facts_same : numbered one.number x.fact ≡ numbered other.number z.fact = at_same facts y.1.0 (numbered one.number x.fact) (numbered other.number z.fact) one.fact other.fact in
      let number : one.number ≡ other.number = ap (λ (f : Fact). f.origin) facts_same in
      let fact : x.fact ≡ z.fact =
      fact_same other.number x.fact z.fact (reach_unnumbered p b (relation_in rows) x.origin x.control x.fact first) (reach_unnumbered p b (relation_in rows) z.origin z.control z.fact second)
      (ap (λ (n : ℕ). numbered n x.fact) (sym number) ∙ facts_same) in
      let origin : x.origin ≡ z.origin = at_same origins other.number x.origin z.origin (ap (λ (n : ℕ). slice_get origins n) (sym number) ∙ one.origin) other.origin in
      let control : x.control ≡ z.control = sym one.node ∙ other.node in
      (λ k. record { control = control k; origin = origin k; fact = fact k })

  -- the pairs of nodes and handles that stand for pairs that paths reach
  record AreFor (xs : List (Pair ℕ)) : Type 0 where
    list : List (ℕ × Handle)
    long : length list ≡ length xs
    each : (i : ℕ) (y : ℕ × Handle) → IsAt list i y → (x : Pair ℕ) × (IsAt xs i x × (IsReachedPair p b (relation_in rows) x × IsFor x y))

  each_more : (x : Pair ℕ) (xs : List (Pair ℕ)) (y : ℕ × Handle) (list : List (ℕ × Handle)) → IsReachedPair p b (relation_in rows) x → IsFor x y
      → ((i : ℕ) (z : ℕ × Handle) → IsAt list i z → (w : Pair ℕ) × (IsAt xs i w × (IsReachedPair p b (relation_in rows) w × IsFor w z)))
      → (i : ℕ) (z : ℕ × Handle) → IsAt (y ∷ list) i z → (w : Pair ℕ) × (IsAt (x ∷ xs) i w × (IsReachedPair p b (relation_in rows) w × IsFor w z))
  each_more x xs y list reached one rest zero z here =
      let same : y ≡ z = cc in
      (x, (refl, (reached, subst (IsFor x) same one)))
  each_more x xs y list reached one rest (suc i) z here = rest i z here

  pairs_for : (xs : List (Pair ℕ)) → ((i : ℕ) (x : Pair ℕ) → IsAt xs i x → IsReachedPair p b (relation_in rows) x) → AreFor xs
  pairs_for [] reached = record { list = []; long = refl; each = λ i y here. absurd (let never : None ≡ Some y = here in cc) }
  pairs_for (x ∷ xs) reached =
      let one = pair_for x (reached 0 x refl) in
      let rest = pairs_for xs (λ i z here. reached (suc i) z here) in
      record { list = one.0 ∷ rest.list; long = ap suc rest.long; each = each_more x xs one.0 rest.list (reached 0 x refl) one.1 rest.each }

  -- paths reach no more pairs than are listed
  pub no_more : length pairs ≤ most_pairs → ReachesMorePairs p b (relation_in rows) most_pairs → ⊥
  no_more few many =
      let all = pairs_for many.pairs many.reached in
      let once : AreOnce all.list = λ i j y here there. (
      let one = all.each i y here in
      let other = all.each j y there in
      let same : one.0 ≡ other.0 = same_pair one.0 other.0 y one.1.1.0 other.1.1.0 one.1.1.1 other.1.1.1 in
      many.once i j other.0 (one.1.0 ∙ ap Some same) other.1.0) in
      let low = once_length all.list pairs once (λ k y here. (all.each k y here).1.1.1.stands) in
      let long = all.long in
      let more = many.more in
      omega (arith, low, long, more, few)
