-- The steps that break rules, and the visits from which they do.
use Rattle.std.proofs.Common.{◌≡◌, ◌∙◌, sym, ap, refl, subst, arith, ℕ, ◌≤◌, inl, inr, zero, suc, Option, Some, None, List, [], ◌∷◌}
use Rattle.std.specs.Prelude.{slice_get}
use Rattle.rlc_base.specs.declared.place.Pos.{Pos}
use Rattle.program_model.specs.declared.kinds.BodyId.{BodyId}
use Rattle.program_model.specs.declared.program.Program.{Program}
use Rattle.breadth_first.specs.Searches.{IsAt, Stands}
use Rattle.breadth_first.proofs.ListLaws.{at_split, at_within}
use Rattle.java_cfg.specs.declared.arc.Arc.{Arc}
use Rattle.control_actions.specs.declared.fact.Fact.{Fact}
use Rattle.control_actions.specs.declared.fact.Origin.{Origin}
use Rattle.control_actions.specs.declared.fact.Outcome.{Outcome}
use Rattle.control_actions.specs.declared.fact.Outcome.TheVariants.{Next, Gone, Fault}
use Rattle.control_actions.specs.declared.fact.Rule.{Rule}
use Rattle.flow_rules.specs.Facts.{Names}
use Rattle.flow_rules.specs.Flow.{flow}
use Rattle.reached_pairs.specs.Visited.{fact_in}
use Rattle.reached_pairs.specs.declared.visit.Visit.{Visit}
use Rattle.reached_facts.specs.Nodes.{arcs_at}
use Rattle.reached_facts.specs.Points.{flat_from}
use Rattle.reached_facts.proofs.ListPoints.{from_whole, stands_from}
use Rattle.path_faults.specs.Broken.{IsBroken}
use Rattle.body_faults.specs.Broken.{BrokenStep, all_broken, broken_by, broken_from, broken_in, broken_of, broken_step, broken_with}

-- what a list gives comes in the order of the places of the values that give it
module _ {X Y : Type 0} (f : ℕ → X → List Y) (place : Y → ℕ) (is : (n : ℕ) (x : X) (y : Y) → Stands (f n x) y → place y ≡ n) where
  from_low : (start : ℕ) (xs : List X) (i : ℕ) (y : Y) → IsAt (flat_from f start xs) i y → start ≤ place y
  from_low start [] i y at = absurd (let never : None ≡ Some y = at in cc)
  from_low start (x ∷ xs) i y at =
      elim (at_split (f start x) (flat_from f (suc start) xs) i y at) [
        | inl here ↦ (let same = is start x y (i, here) in omega (arith, same))
        | inr later ↦ (let low = from_low (suc start) xs later.0 y later.1.1 in omega (arith, low))
      ]

  pub from_rising : (start : ℕ) (xs : List X) (i j : ℕ) (y z : Y) → i ≤ j → IsAt (flat_from f start xs) i y → IsAt (flat_from f start xs) j z → place y ≤ place z
  from_rising start [] i j y z le at there = absurd (let never : None ≡ Some y = at in cc)
  from_rising start (x ∷ xs) i j y z le at there =
      elim (at_split (f start x) (flat_from f (suc start) xs) i y at) [
        | inl first ↦ elim (at_split (f start x) (flat_from f (suc start) xs) j z there) [
          | inl second ↦ (let same = is start x y (i, first) in let other = is start x z (j, second) in omega (arith, same, other))
          | inr second ↦ (let same = is start x y (i, first) in let low = from_low (suc start) xs second.0 z second.1.1 in omega (arith, same, low))
        ]
        | inr first ↦ elim (at_split (f start x) (flat_from f (suc start) xs) j z there) [
          | inl second ↦ (let inside = at_within (f start x) j z second in let behind = first.1.0 in absurd (omega (arith, le, inside, behind)))
          | inr second ↦ (let one = first.1.0 in let two = second.1.0 in from_rising (suc start) xs first.0 second.0 y z (omega (arith, le, one, two)) first.1.1 second.1.1)
        ]
      ]

module _ (p : Program) (b : BodyId) (rows : List (List Arc)) (origins : List Origin) (facts : List Fact) where
  -- the step breaks a rule at the visit
  abbrev IsBrokenBy : Visit → BrokenStep → Type 0
  IsBrokenBy v x = IsBroken p b rows origins facts v x.arc x.breach.origin x.breach.rule x.breach.at x.names

  by_outcome : (k i : ℕ) (v : Visit) (f : Fact) (o : Origin) (a : Arc) (r : Outcome) → fact_in facts v.fact ≡ Some f → IsAt origins f.origin o → IsAt (arcs_at rows v.node) i a
      → flow p b o a.action a.edge f ≡ r → (x : BrokenStep) → Stands (broken_in f.origin a.pos k i r) x → (x.visit ≡ k) × IsBrokenBy v x
  by_outcome k i v f o a (Next g) read origin taken is x h = absurd (let never : None ≡ Some x = h.1 in cc)
  by_outcome k i v f o a Gone read origin taken is x h = absurd (let never : None ≡ Some x = h.1 in cc)
  by_outcome k i v f o a (Fault rule names) read origin taken is x (suc n, h) = absurd (let never : None ≡ Some x = h in cc)
  by_outcome k i v f o a (Fault rule names) read origin taken is x (zero, h) =
      let same : broken_step (record { origin = f.origin; rule = rule; at = a.pos }) names k i ≡ x = cc in
      subst (λ (y : BrokenStep). (y.visit ≡ k) × IsBrokenBy v y) same (
        refl,
        record {
          fact = f;
          read = read;
          number = refl;
          origin = o;
          numbered = origin;
          arc = a;
          taken = taken;
          breaks = is;
          place = refl;
        },
      )

  by_origin : (k : ℕ) (v : Visit) (f : Fact) (r : Option Origin) → fact_in facts v.fact ≡ Some f → slice_get origins f.origin ≡ r → (x : BrokenStep)
      → Stands (broken_of p b (arcs_at rows v.node) k f r) x → (x.visit ≡ k) × IsBrokenBy v x
  by_origin k v f None read origin x h = absurd (let never : None ≡ Some x = h.1 in cc)
  by_origin k v f (Some o) read origin x h =
      let one = from_whole (broken_by p b o f k) (arcs_at rows v.node) x h in
      by_outcome k one.0 v f o one.1.0 (flow p b o one.1.0.action one.1.0.edge f) read origin one.1.1.0 refl x one.1.1.1

  by_fact : (k : ℕ) (v : Visit) (r : Option Fact) → fact_in facts v.fact ≡ r → (x : BrokenStep) → Stands (broken_with p b (arcs_at rows v.node) origins k r) x → (x.visit ≡ k) × IsBrokenBy v x
  by_fact k v None read x h = absurd (let never : None ≡ Some x = h.1 in cc)
  by_fact k v (Some f) read x h = by_origin k v f (slice_get origins f.origin) read refl x h

  step_broken : (k : ℕ) (v : Visit) (x : BrokenStep) → Stands (broken_from p b rows origins facts k v) x → (x.visit ≡ k) × IsBrokenBy v x
  step_broken k v x h = by_fact k v (fact_in facts v.fact) refl x h

  -- a step of the list breaks its rule at its visit
  pub stands_broken : (visits : List Visit) (x : BrokenStep) → Stands (all_broken p b rows origins facts visits) x → (v : Visit) × (IsAt visits x.visit v × IsBrokenBy v x)
  stands_broken visits x h =
      let one = from_whole (broken_from p b rows origins facts) visits x h in
      let step = step_broken one.0 one.1.0 x one.1.1.1 in
      (one.1.0, (subst (λ (n : ℕ). IsAt visits n one.1.0) (sym step.0) one.1.1.0, step.1))

  -- the steps come in the order of their visits
  pub broken_rising : (visits : List Visit) (i j : ℕ) (x y : BrokenStep) → i ≤ j → IsAt (all_broken p b rows origins facts visits) i x → IsAt (all_broken p b rows origins facts visits) j y → x.visit ≤ y.visit
  broken_rising visits i j x y le at there =
      from_rising (broken_from p b rows origins facts) (λ (z : BrokenStep). z.visit) (λ k v z h. (step_broken k v z h).0) 0 visits i j x y le at there

  -- a step that breaks a rule at a visit is in the list
  pub broken_stands : (visits : List Visit) (k i m : ℕ) (v : Visit) (rule : Rule) (at : Pos) (names : Names) → IsAt visits k v → IsBroken p b rows origins facts v i m rule at names
      → Stands (all_broken p b rows origins facts visits) (broken_step (record { origin = m; rule = rule; at = at }) names k i)
  broken_stands visits k i m v rule at names here h =
      stands_from (broken_from p b rows origins facts) k visits v (broken_step (record { origin = m; rule = rule; at = at }) names k i) here
      (subst (λ (r : Option Fact). Stands (broken_with p b (arcs_at rows v.node) origins k r) (broken_step (record { origin = m; rule = rule; at = at }) names k i)) (sym h.read)
      (subst (λ (r : Option Origin). Stands (broken_of p b (arcs_at rows v.node) k h.fact r) (broken_step (record { origin = m; rule = rule; at = at }) names k i))
      (sym (ap (slice_get origins) h.number ∙ h.numbered))
      (stands_from (broken_by p b h.origin h.fact k) i (arcs_at rows v.node) h.arc (broken_step (record { origin = m; rule = rule; at = at }) names k i) h.taken
      (subst (λ (r : Outcome). Stands (broken_in h.fact.origin h.arc.pos k i r) (broken_step (record { origin = m; rule = rule; at = at }) names k i)) (sym h.breaks)
      (0, ap Some same)))))
    where
      same : broken_step (record { origin = h.fact.origin; rule = rule; at = h.arc.pos }) names k i ≡ broken_step (record { origin = m; rule = rule; at = at }) names k i
      same = ap (λ (n : ℕ). broken_step (record { origin = n; rule = rule; at = h.arc.pos }) names k i) h.number ∙ ap (λ (q : Pos). broken_step (record { origin = m; rule = rule; at = q }) names k i) h.place
