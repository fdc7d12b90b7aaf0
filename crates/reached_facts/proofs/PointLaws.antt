-- The points of a search are what is known at the entry, and what the arcs of a node lead to.
use Rattle.std.proofs.Common.{◌≡◌, ◌∙◌, sym, ap, refl, subst, ℕ, zero, suc, Option, Some, None, List}
use Rattle.std.specs.Prelude.{position}
use Rattle.program_model.specs.declared.kinds.BodyId.{BodyId}
use Rattle.program_model.specs.declared.program.Program.{Program}
use Rattle.reached_pairs.specs.Searches.{AreOnce, IsAt, Source, Stands}
use Rattle.fact_search.specs.Turns.{AreStarts, AreSteps}
use Rattle.reached_pairs.proofs.ListLaws.{at_same, map_at, stands_map}
use Rattle.java_cfg.specs.declared.arc.Arc.{Arc}
use Rattle.control_actions.specs.declared.fact.Fact.{Fact}
use Rattle.control_actions.specs.declared.fact.Origin.{Origin}
use Rattle.control_actions.specs.declared.fact.Outcome.{Outcome}
use Rattle.control_actions.specs.declared.fact.Outcome.TheVariants.{Next, Gone, Fault}
use Rattle.control_actions.specs.contracts.fact.OriginEq.TheImpl.Laws as origin_laws
use Rattle.body_origins.specs.Births.{Birth, births_at_entry}
use Rattle.body_origins.specs.Flow.{flow}
use Rattle.body_origins.specs.Numbering.{numbered}
use Rattle.reached_pairs.specs.Additions.{point_of, points_in}
use Rattle.reached_pairs.specs.Visited.{source_of}
use Rattle.reached_pairs.specs.declared.visit.Point.{Point}
use Rattle.reached_pairs.specs.declared.visit.Source.{Source as Step}
use Rattle.body_origins.specs.Nodes.{arcs_at}
use Rattle.body_origins.specs.Origins.{arc_births, same_origin}
use Rattle.body_origins.proofs.BornOrigins.{flat_stands}
use Rattle.reached_facts.specs.Points.{bare_points, birth_point, birth_points, entry_points, fact_points, flat_from, next_point, point, step_at}
use Rattle.reached_facts.specs.Steps.{Begins, IsNumberedBirth, Leads}
use Rattle.reached_facts.proofs.FactLaws.{exact_origin}
use Rattle.reached_facts.proofs.ListPoints.{from_whole, position_at, position_found, stands_flat, stands_from}

module _ (origins : List Origin) (node : ℕ) (s : Option Step) where
  point_by : (x : Birth) (r : Option ℕ) (y : Point Fact) → position (same_origin x.0) origins ≡ r → Stands (birth_point node s x r) y → (n : ℕ) × (IsAt origins n x.0 × (point node (Some (numbered n x.1)) s ≡ y))
  point_by x None y is (k, here) = absurd (let never : None ≡ Some y = here in cc)
  point_by x (Some n) y is (zero, here) =
      let found = position_at (same_origin x.0) origins n is in
      (n, (found.1.0 ∙ ap Some (sym (exact_origin x.0 found.0 found.1.1)), (let same : point node (Some (numbered n x.1)) s ≡ y = cc in same)))
  point_by x (Some n) y is (suc k, here) = absurd (let never : None ≡ Some y = here in cc)

  -- a point of a birth has its first fact with the number of its origin
  point_birth : (births : List Birth) (y : Point Fact) → Stands (birth_points origins node s births) y → (x : Birth) × (Stands births x × ((n : ℕ) × (IsAt origins n x.0 × (point node (Some (numbered n x.1)) s ≡ y))))
  point_birth births y h =
      let one = flat_stands (λ (x : Birth). birth_point node s x (position (same_origin x.0) origins)) births y h in
      (one.0, (one.1.0, point_by one.0 (position (same_origin one.0.0) origins) y refl one.1.1))

  -- each birth whose origin has a number has its point
  birth_stands : AreOnce origins → (births : List Birth) (x : Birth) (n : ℕ) → Stands births x → IsAt origins n x.0 → Stands (birth_points origins node s births) (point node (Some (numbered n x.1)) s)
  birth_stands once births x n stands here =
      stands_flat (λ (z : Birth). birth_point node s z (position (same_origin z.0) origins)) births stands.0 x (point node (Some (numbered n x.1)) s) stands.1
      (subst (λ r. Stands (birth_point node s x r) (point node (Some (numbered n x.1)) s))
      (sym (position_found (same_origin x.0) origins n x.0 here ((origin_laws.laws-law).refl x.0) (λ k y there test. once k n x.0 (there ∙ ap Some (sym (exact_origin x.0 y test))) here)))
      (0, refl))

module _ (p : Program) (b : BodyId) (rows : List (List Arc)) (origins : List Origin) where
  -- a point of a birth is a numbered birth
  birth_point_is : (node : ℕ) (s : Option Step) (births : List Birth) (y : Point Fact) (P : (ℕ × Option Fact) × Source → Type 0) → ((g : Fact) → IsNumberedBirth origins births g → P ((node, Some g), source_of s))
      → Stands (birth_points origins node s births) y → P (point_of y)
  birth_point_is node s births y P all h =
      let one = point_birth origins node s births y h in
      subst (λ (z : Point Fact). P (point_of z)) one.1.1.1.1 (all (numbered one.1.1.0 one.0.1) (one.0, (one.1.0, (one.1.1.1.0, refl))))

  numbered_stands : AreOnce origins → (node : ℕ) (s : Option Step) (births : List Birth) (g : Fact) → IsNumberedBirth origins births g → Stands (birth_points origins node s births) (point node (Some g) s)
  numbered_stands once node s births g (x, (stands, (here, is))) =
      subst (λ (f : Fact). Stands (birth_points origins node s births) (point node (Some f) s)) is (birth_stands origins node s once births x g.origin stands here)

  begins_each : (y : Point Fact) → Stands (entry_points p b origins) y → Begins p b origins (point_of y).0 × ((point_of y).1 ≡ None)
  begins_each y (zero, here) =
      let same : point 0 None None ≡ y = cc in
      subst (λ (z : Point Fact). Begins p b origins (point_of z).0 × ((point_of z).1 ≡ None)) same (refl, refl)
  begins_each y (suc k, here) =
      birth_point_is 0 None (births_at_entry p b) y (λ z. Begins p b origins z.0 × (z.1 ≡ None)) (λ g born. ((refl, born), refl)) (k, here)

  begins_all : AreOnce origins → (x : ℕ × Option Fact) → Begins p b origins x → (s : Source) × Stands (points_in (entry_points p b origins)) (x, s)
  begins_all once (k, None) h = (None, subst (λ (m : ℕ). Stands (points_in (entry_points p b origins)) ((m, None), None)) (sym h) (0, refl))
  begins_all once (k, Some g) (h, born) =
      let one = numbered_stands once 0 None (births_at_entry p b) g born in
      (None, subst (λ (m : ℕ). Stands (points_in (entry_points p b origins)) ((m, Some g), None)) (sym h) (stands_map point_of (entry_points p b origins) (point 0 (Some g) None) (suc one.0, one.1)))

  -- the points of the entry are what is known there
  pub entry_starts : AreOnce origins → AreStarts (Begins p b origins) (Leads p b rows origins) (points_in (entry_points p b origins))
  entry_starts once = record {
    each = λ x s h. (let one = map_at point_of (entry_points p b origins) h.0 (x, s) h.1 in
        subst (λ (z : (ℕ × Option Fact) × Source). Begins p b origins z.0 × (z.1 ≡ None)) one.1.1 (begins_each one.0 (h.0, one.1.0)));
    all = begins_all once;
  }

  -- what a step leads to, with its source
  abbrev IsLed : ℕ → ℕ → Option Fact → (ℕ × Option Fact) × Source → Type 0
  IsLed at node o z = (label : ℕ) × (Leads p b rows origins label (node, o) z.0 × (z.1 ≡ Some (at, label)))

  led_by : (at node : ℕ) (o : Option Fact) (points : List (Point Fact)) → ((y : Point Fact) → Stands points y → IsLed at node o (point_of y)) → (x : ℕ × Option Fact) (s : Source) → Stands (points_in points) (x, s) → IsLed at node o (x, s)
  led_by at node o points each x s h =
      let one = map_at point_of points h.0 (x, s) h.1 in
      subst (IsLed at node o) one.1.1 (each one.0 (h.0, one.1.0))

  bare_led : (at node i : ℕ) (a : Arc) → IsAt (arcs_at rows node) i a → (y : Point Fact) → Stands (bare_points p b origins at i a) y → IsLed at node None (point_of y)
  bare_led at node i a arc y (zero, here) =
      let same : point a.to None (step_at at i) ≡ y = cc in
      subst (λ (z : Point Fact). IsLed at node None (point_of z)) same (i, ((a, (arc, (refl, tt))), refl))
  bare_led at node i a arc y (suc k, here) =
      birth_point_is a.to (step_at at i) (arc_births p b a) y (IsLed at node None) (λ g born. (i, ((a, (arc, (refl, born))), refl))) (k, here)

  bare_all : AreOnce origins → (at node label : ℕ) (x : ℕ × Option Fact) → Leads p b rows origins label (node, None) x → (s : Source) × Stands (points_in (flat_from (bare_points p b origins at) 0 (arcs_at rows node))) (x, s)
  bare_all once at node label (k, None) (a, (arc, (to, is))) = (
    Some (at, label),
    subst (λ (m : ℕ). Stands (points_in (flat_from (bare_points p b origins at) 0 (arcs_at rows node))) ((m, None), Some (at, label))) (sym to)
        (stands_map point_of (flat_from (bare_points p b origins at) 0 (arcs_at rows node)) (point a.to None (step_at at label))
        (stands_from (bare_points p b origins at) label (arcs_at rows node) a (point a.to None (step_at at label)) arc (0, refl))),
  )
  bare_all once at node label (k, Some g) (a, (arc, (to, birth))) =
      let one = numbered_stands once a.to (step_at at label) (arc_births p b a) g birth in (
        Some (at, label),
        subst (λ (m : ℕ). Stands (points_in (flat_from (bare_points p b origins at) 0 (arcs_at rows node))) ((m, Some g), Some (at, label))) (sym to)
            (stands_map point_of (flat_from (bare_points p b origins at) 0 (arcs_at rows node)) (point a.to (Some g) (step_at at label))
            (stands_from (bare_points p b origins at) label (arcs_at rows node) a (point a.to (Some g) (step_at at label)) arc (suc one.0, one.1))),
      )

  -- the points of a visit with no fact are what its arcs lead to
  pub bare_steps : AreOnce origins → (at node : ℕ) → AreSteps (Begins p b origins) (Leads p b rows origins) at (node, None) (points_in (flat_from (bare_points p b origins at) 0 (arcs_at rows node)))
  bare_steps once at node = record {
    each = led_by at node None (flat_from (bare_points p b origins at) 0 (arcs_at rows node))
        (λ y h. let one = from_whole (bare_points p b origins at) (arcs_at rows node) y h in bare_led at node one.0 one.1.0 one.1.1.0 y one.1.1.1);
    all = bare_all once at node;
  }

  fact_by : (at node i : ℕ) (a : Arc) (f : Fact) (o : Origin) (r : Outcome) → IsAt (arcs_at rows node) i a → IsAt origins f.origin o → flow p b o a.action a.edge f ≡ r
      → (y : Point Fact) → Stands (next_point a.to (step_at at i) r) y → IsLed at node (Some f) (point_of y)
  fact_by at node i a f o (Next g) arc here is y (zero, there) =
      let same : point a.to (Some g) (step_at at i) ≡ y = cc in
      subst (λ (z : Point Fact). IsLed at node (Some f) (point_of z)) same (i, ((a, (arc, (refl, (o, (here, is))))), refl))
  fact_by at node i a f o (Next g) arc here is y (suc k, there) = absurd (let never : None ≡ Some y = there in cc)
  fact_by at node i a f o Gone arc here is y h = absurd (let never : None ≡ Some y = h.1 in cc)
  fact_by at node i a f o (Fault rule names) arc here is y h = absurd (let never : None ≡ Some y = h.1 in cc)

  fact_all : (at node label : ℕ) (f : Fact) (o : Origin) → IsAt origins f.origin o → (x : ℕ × Option Fact) → Leads p b rows origins label (node, Some f) x
      → (s : Source) × Stands (points_in (flat_from (fact_points p b o f at) 0 (arcs_at rows node))) (x, s)
  fact_all at node label f o here (k, None) (a, (arc, (to, is))) = absurd is
  fact_all at node label f o here (k, Some g) (a, (arc, (to, (q, (there, is))))) =
      let same : q ≡ o = at_same origins f.origin q o there here in
      let flows : flow p b o a.action a.edge f ≡ Next g = ap (λ x. flow p b x a.action a.edge f) (sym same) ∙ is in (
        Some (at, label),
        subst (λ (m : ℕ). Stands (points_in (flat_from (fact_points p b o f at) 0 (arcs_at rows node))) ((m, Some g), Some (at, label))) (sym to)
            (stands_map point_of (flat_from (fact_points p b o f at) 0 (arcs_at rows node)) (point a.to (Some g) (step_at at label))
            (stands_from (fact_points p b o f at) label (arcs_at rows node) a (point a.to (Some g) (step_at at label)) arc
            (subst (λ r. Stands (next_point a.to (step_at at label) r) (point a.to (Some g) (step_at at label))) (sym flows) (0, refl)))),
      )

  -- the points of a visit with a fact are what its arcs lead to
  pub fact_steps : (at node : ℕ) (f : Fact) (o : Origin) → IsAt origins f.origin o → AreSteps (Begins p b origins) (Leads p b rows origins) at (node, Some f) (points_in (flat_from (fact_points p b o f at) 0 (arcs_at rows node)))
  fact_steps at node f o here = record {
    each = led_by at node (Some f) (flat_from (fact_points p b o f at) 0 (arcs_at rows node))
        (λ y h.
        let one = from_whole (fact_points p b o f at) (arcs_at rows node) y h in
        fact_by at node one.0 one.1.0 f o (flow p b o one.1.0.action one.1.0.edge f) one.1.1.0 here refl y one.1.1.1);
    all = λ label x led. fact_all at node label f o here x led;
  }
