-- The tests of steps are true exactly where the steps go to the fault.
use Rattle.std.proofs.Common.{◌≡◌, ◌∙◌, sym, ap, refl, subst, eqb-true, eq-eqb, true≢false, rules, ℕ, true, Option, Some, None, List, [], ◌∷◌}
use Rattle.std.specs.Prelude.{◌&&◌, ◌==◌}
use Rattle.std.specs.Cmp.{nat_cmp_total}
use Rattle.std.specs.FinSet as set
use Rattle.std.specs.List.{list_any}
use Rattle.std.proofs.lemmas.Bool.{and_from, and_parts}
use denote.Enum.Bare.{same_true}
use Rattle.rlc_base.specs.declared.place.Pos.{Pos}
use Rattle.rlc_base.specs.contracts.place.PosPartialEq.TheImpl as pos_eq
use Rattle.rlc_base.specs.contracts.place.PosEq.TheImpl.Laws as pos_laws
use Rattle.program_model.specs.declared.kinds.BodyId.{BodyId}
use Rattle.program_model.specs.declared.program.Program.{Program}
use Rattle.java_cfg.specs.declared.arc.Arc.{Arc}
use Rattle.control_actions.specs.contracts.action.ActionPartialEq.TheImpl as action_eq
use Rattle.control_actions.specs.contracts.action.ActionEq.TheImpl.Laws as action_laws
use Rattle.control_actions.specs.contracts.action.EdgePartialEq.TheImpl as edge_eq
use Rattle.control_actions.specs.contracts.action.EdgeEq.TheImpl.Laws as edge_laws
use Rattle.control_actions.specs.contracts.fact.FactPartialEq.TheImpl as fact_eq
use Rattle.control_actions.specs.contracts.fact.OriginEq.TheImpl.Laws as origin_laws
use Rattle.control_actions.specs.contracts.fact.Rule as rule_type
use Rattle.control_actions.specs.contracts.fact.RulePartialEq.TheImpl as rule_eq
use Rattle.control_actions.specs.contracts.fact.RuleEq.TheImpl.Laws as rule_laws
use Rattle.control_actions.specs.declared.action.Edge.{Edge}
use Rattle.control_actions.specs.declared.action.Edge.TheVariants as edges
use Rattle.control_actions.specs.declared.fact.Fact.{Fact}
use Rattle.control_actions.specs.declared.fact.Origin.{Origin}
use Rattle.control_actions.specs.declared.fact.Outcome.{Outcome}
use Rattle.control_actions.specs.declared.fact.Outcome.TheVariants.{Next, Gone, Fault}
use Rattle.control_actions.specs.declared.fact.Rule.{Rule}
use Rattle.control_actions.proofs.EqLemmas.{exact_action, exact_pos}
use Rattle.obligation_facts.specs.Facts.{Names}
use Rattle.flow_rules.specs.Births.{Birth, births_at_entry}
use Rattle.flow_rules.specs.Flow.{flow}
use Rattle.flow_rules.specs.Numbering.{numbered}
use Rattle.flow_rules.specs.declared.path_step.PathStep.{PathStep}
use Rattle.obligation_paths.specs.Nodes.{arcs_at}
use Rattle.obligation_paths.specs.Origins.{arc_births, same_origin}
use Rattle.obligation_paths.proofs.FactLaws.{exact_fact, exact_origin}
use Rattle.fault_order.specs.declared.fault.FaultAt.{FaultAt}
use Rattle.fault_paths.specs.Steps.{CanBecome, CanBreak, CanEnter, CanLead, GoesOn, GoesTo, IsFirstFact, IsStepOf}
use Rattle.fault_paths.specs.Tests.{breaks, breaks_with, can_become, can_break_by, can_enter, can_lead_by, goes_on, goes_to, is_breach, is_first, is_next, is_step_of, leads}
use Rattle.fault_paths.proofs.AnyLaws.{any_stands, stands_any}

-- ---- equality

exact_edge : (a b : Edge) → (edge_eq.ghosts).eq a b ≡ true → a ≡ b
exact_edge edges.Go edges.Go h = refl
exact_edge edges.Null edges.Null h = refl
exact_edge edges.NonNull edges.NonNull h = refl
exact_edge edges.True edges.True h = refl
exact_edge edges.False edges.False h = refl
exact_edge (edges.Throws a) (edges.Throws b) h = search rules
exact_edge a b h = cc

exact_rule : (a b : Rule) → (rule_eq.ghosts).eq a b ≡ true → a ≡ b
exact_rule a b h = same_true rule_type.the_type (search rules) a b h

same_origins : (a b : Origin) → a ≡ b → same_origin a b ≡ true
same_origins a b same = subst (λ (z : Origin). same_origin a z ≡ true) same ((origin_laws.laws-law).refl a)

same_pos : (a b : Pos) → a ≡ b → (pos_eq.ghosts).eq a b ≡ true
same_pos a b same = subst (λ (z : Pos). (pos_eq.ghosts).eq a z ≡ true) same ((pos_laws.laws-law).refl a)

-- ---- single steps

step_true : (s : PathStep) (a : Arc) → is_step_of s a ≡ true → IsStepOf s a
step_true s a h =
    let one = and_parts ((action_eq.ghosts).eq s.action a.action) ((edge_eq.ghosts).eq s.edge a.edge && (pos_eq.ghosts).eq s.pos a.pos) h in
    let two = and_parts ((edge_eq.ghosts).eq s.edge a.edge) ((pos_eq.ghosts).eq s.pos a.pos) one.1 in
    (exact_action s.action a.action one.0, (exact_edge s.edge a.edge two.0, exact_pos s.pos a.pos two.1))

step_is : (s : PathStep) (a : Arc) → IsStepOf s a → is_step_of s a ≡ true
step_is s a (action, (edge, pos)) =
    and_from ((action_eq.ghosts).eq s.action a.action) ((edge_eq.ghosts).eq s.edge a.edge && (pos_eq.ghosts).eq s.pos a.pos)
    (subst (λ z. (action_eq.ghosts).eq s.action z ≡ true) action ((action_laws.laws-law).refl s.action))
    (and_from ((edge_eq.ghosts).eq s.edge a.edge) ((pos_eq.ghosts).eq s.pos a.pos)
    (subst (λ (z : Edge). (edge_eq.ghosts).eq s.edge z ≡ true) edge ((edge_laws.laws-law).refl s.edge)) (same_pos s.pos a.pos pos))

first_true : (births : List Birth) (o : Origin) (g : Fact) → list_any (is_first o g) births ≡ true → IsFirstFact births o g
first_true births o g h =
    let one = any_stands (is_first o g) births h in
    let parts = and_parts (same_origin one.0.0 o) ((fact_eq.ghosts).eq (numbered g.origin one.0.1) g) one.1.1 in
    (one.0.1, ((one.1.0.0, one.1.0.1 ∙ ap (λ (z : Origin). Some (z, one.0.1)) (exact_origin one.0.0 o parts.0)), (exact_fact (numbered g.origin one.0.1) g).0 parts.1))

first_is : (births : List Birth) (o : Origin) (g : Fact) → IsFirstFact births o g → list_any (is_first o g) births ≡ true
first_is births o g (f, (birth, is)) =
    stands_any (is_first o g) births (o, f) birth
    (and_from (same_origin o o) ((fact_eq.ghosts).eq (numbered g.origin f) g) (same_origins o o refl) ((exact_fact (numbered g.origin f) g).1 is))

next_true : (g : Fact) (y : Outcome) → is_next g y ≡ true → y ≡ Next g
next_true g (Next f) h = ap Next ((exact_fact f g).0 h)
next_true g Gone h = absurd (true≢false (sym h))
next_true g (Fault rule names) h = absurd (true≢false (sym h))

next_is : (g : Fact) (y : Outcome) → y ≡ Next g → is_next g y ≡ true
next_is g y same = subst (λ (z : Outcome). is_next g z ≡ true) (sym same) ((exact_fact g g).1 refl)

-- the outcome is the fault, with these missing names
abbrev IsBreach : FaultAt → Outcome → Type 0
IsBreach x y = (names : Names) × ((y ≡ Fault x.rule names) × ((n : ℕ) → set.contains names n ≡ true → set.contains x.missing n ≡ true))

breach_true : (x : FaultAt) (y : Outcome) → is_breach x y ≡ true → IsBreach x y
breach_true x (Next f) h = absurd (true≢false (sym h))
breach_true x Gone h = absurd (true≢false (sym h))
breach_true x (Fault rule names) h =
    let parts = and_parts ((rule_eq.ghosts).eq rule x.rule) (set.is_subset names x.missing) h in
    (names, (ap (λ (r : Rule). Fault r names) (exact_rule rule x.rule parts.0), set.is_subset-contains nat_cmp_total names x.missing parts.1))

breach_is : (x : FaultAt) (y : Outcome) → IsBreach x y → is_breach x y ≡ true
breach_is x y (names, (same, within)) =
    subst (λ (z : Outcome). is_breach x z ≡ true) (sym same)
    (and_from ((rule_eq.ghosts).eq x.rule x.rule) (set.is_subset names x.missing) ((rule_laws.laws-law).refl x.rule) (set.contains-is_subset nat_cmp_total names x.missing within))

module _ (p : Program) (b : BodyId) where
  enter_true : (o : Origin) (known : Option Fact) → can_enter p b o known ≡ true → CanEnter p b o known
  enter_true o None h = tt
  enter_true o (Some g) h = first_true (births_at_entry p b) o g h

  enter_is : (o : Origin) (known : Option Fact) → CanEnter p b o known → can_enter p b o known ≡ true
  enter_is o None h = refl
  enter_is o (Some g) h = first_is (births_at_entry p b) o g h

  become_true : (o : Origin) (a : Arc) (before after : Option Fact) → can_become p b o a before after ≡ true → CanBecome p b o a before after
  become_true o a None None h = tt
  become_true o a None (Some g) h = first_true (arc_births p b a) o g h
  become_true o a (Some f) None h = absurd (true≢false (sym h))
  become_true o a (Some f) (Some g) h = next_true g (flow p b o a.action a.edge f) h

  become_is : (o : Origin) (a : Arc) (before after : Option Fact) → CanBecome p b o a before after → can_become p b o a before after ≡ true
  become_is o a None None h = refl
  become_is o a None (Some g) h = first_is (arc_births p b a) o g h
  become_is o a (Some f) None h = absurd h
  become_is o a (Some f) (Some g) h = next_is g (flow p b o a.action a.edge f) h

  -- what is known breaks the rule of the fault by the arc
  abbrev IsBroken : FaultAt → Arc → Option Fact → Type 0
  IsBroken x a known = (f : Fact) × ((known ≡ Some f) × IsBreach x (flow p b x.origin a.action a.edge f))

  broken_true : (x : FaultAt) (a : Arc) (known : Option Fact) → breaks_with p b x a known ≡ true → IsBroken x a known
  broken_true x a None h = absurd (true≢false (sym h))
  broken_true x a (Some f) h = (f, (refl, breach_true x (flow p b x.origin a.action a.edge f) h))

  broken_is : (x : FaultAt) (a : Arc) (known : Option Fact) → IsBroken x a known → breaks_with p b x a known ≡ true
  broken_is x a known (f, (same, breach)) =
      subst (λ (o : Option Fact). breaks_with p b x a o ≡ true) (sym same) (breach_is x (flow p b x.origin a.action a.edge f) breach)

  -- ---- by the arcs of a node

  module _ (rows : List (List Arc)) where
    lead_true : (o : Origin) (s t : PathStep) → leads p b rows o s t ≡ true → CanLead p b rows o s t.node t.fact
    lead_true o s t h =
        let one = any_stands (can_lead_by p b o s t) (arcs_at rows s.node) h in
        let a = one.0 in
        let two = and_parts (is_step_of s a) ((t.node == a.to) && can_become p b o a s.fact t.fact) one.1.1 in
        let three = and_parts (t.node == a.to) (can_become p b o a s.fact t.fact) two.1 in
        (a, (one.1.0, (step_true s a two.0, (eqb-true t.node a.to three.0, become_true o a s.fact t.fact three.1))))

    lead_is : (o : Origin) (s t : PathStep) → CanLead p b rows o s t.node t.fact → leads p b rows o s t ≡ true
    lead_is o s t (a, (at, (step, (to, becomes)))) =
        stands_any (can_lead_by p b o s t) (arcs_at rows s.node) a at
        (and_from (is_step_of s a) ((t.node == a.to) && can_become p b o a s.fact t.fact) (step_is s a step)
        (and_from (t.node == a.to) (can_become p b o a s.fact t.fact) (eq-eqb t.node a.to to) (become_is o a s.fact t.fact becomes)))

    break_true : (x : FaultAt) (s : PathStep) → breaks p b rows x s ≡ true → CanBreak p b rows x s
    break_true x s h =
        let one = any_stands (can_break_by p b x s) (arcs_at rows s.node) h in
        let a = one.0 in
        let two = and_parts (is_step_of s a) ((pos_eq.ghosts).eq s.pos x.at && breaks_with p b x a s.fact) one.1.1 in
        let three = and_parts ((pos_eq.ghosts).eq s.pos x.at) (breaks_with p b x a s.fact) two.1 in
        let broken = broken_true x a s.fact three.1 in
        record {
          arc = a;
          at = one.1.0;
          step = step_true s a two.0;
          place = exact_pos s.pos x.at three.0;
          fact = broken.0;
          known = broken.1.0;
          names = broken.1.1.0;
          breaks = broken.1.1.1.0;
          within = broken.1.1.1.1;
        }

    break_is : (x : FaultAt) (s : PathStep) → CanBreak p b rows x s → breaks p b rows x s ≡ true
    break_is x s h =
        stands_any (can_break_by p b x s) (arcs_at rows s.node) h.arc h.at
        (and_from (is_step_of s h.arc) ((pos_eq.ghosts).eq s.pos x.at && breaks_with p b x h.arc s.fact) (step_is s h.arc h.step)
        (and_from ((pos_eq.ghosts).eq s.pos x.at) (breaks_with p b x h.arc s.fact) (same_pos s.pos x.at h.place)
        (broken_is x h.arc s.fact (h.fact, (h.known, (h.names, (h.breaks, h.within)))))))

    -- ---- all steps

    on_true : (x : FaultAt) (s : PathStep) (steps : List PathStep) → goes_on p b rows x s steps ≡ true → GoesOn p b rows x s steps
    on_true x s [] h = break_true x s h
    on_true x s (t ∷ steps) h =
        let parts = and_parts (leads p b rows x.origin s t) (goes_on p b rows x t steps) h in
        (lead_true x.origin s t parts.0, on_true x t steps parts.1)

    on_is : (x : FaultAt) (s : PathStep) (steps : List PathStep) → GoesOn p b rows x s steps → goes_on p b rows x s steps ≡ true
    on_is x s [] h = break_is x s h
    on_is x s (t ∷ steps) (led, h) = and_from (leads p b rows x.origin s t) (goes_on p b rows x t steps) (lead_is x.origin s t led) (on_is x t steps h)

    pub goes_true : (x : FaultAt) (steps : List PathStep) → goes_to p b rows x steps ≡ true → GoesTo p b rows x steps
    goes_true x [] h = absurd (true≢false (sym h))
    goes_true x (s ∷ steps) h =
        let one = and_parts (s.node == 0) (can_enter p b x.origin s.fact && goes_on p b rows x s steps) h in
        let two = and_parts (can_enter p b x.origin s.fact) (goes_on p b rows x s steps) one.1 in
        (eqb-true s.node 0 one.0, (enter_true x.origin s.fact two.0, on_true x s steps two.1))

    pub goes_is : (x : FaultAt) (steps : List PathStep) → GoesTo p b rows x steps → goes_to p b rows x steps ≡ true
    goes_is x [] h = absurd h
    goes_is x (s ∷ steps) (first, (enters, h)) =
        and_from (s.node == 0) (can_enter p b x.origin s.fact && goes_on p b rows x s steps) (eq-eqb s.node 0 first)
        (and_from (can_enter p b x.origin s.fact) (goes_on p b rows x s steps) (enter_is x.origin s.fact enters) (on_is x s steps h))
