-- Steps that go to a fault tell a path to it, and steps that tell a path to it go to it.
use Rattle.std.proofs.Common.{◌≡◌, ◌∙◌, sym, ap, refl, subst, ℕ, Option, Some, None, List, [], ◌∷◌, ◌++◌}
use Rattle.std.specs.Prelude.{map, slice_get}
use Rattle.program_model.specs.declared.kinds.BodyId.{BodyId}
use Rattle.program_model.specs.declared.program.Program.{Program}
use Rattle.breadth_first.specs.Searches.{IsAt}
use Rattle.breadth_first.proofs.ListLaws.{at_map, map_append, map_at}
use Rattle.java_cfg.specs.declared.arc.Arc.{Arc}
use Rattle.control_actions.specs.declared.fact.Fact.{Fact}
use Rattle.control_actions.specs.declared.fact.Outcome.{Outcome}
use Rattle.control_actions.specs.declared.fact.Outcome.TheVariants.{Next, Gone, Fault}
use Rattle.control_actions.specs.declared.fact.Rule.{Rule}
use Rattle.obligation_facts.specs.Facts.{Names}
use Rattle.flow_rules.specs.Births.{births_of_step}
use Rattle.flow_rules.specs.Flow.{flow}
use Rattle.flow_rules.specs.Numbering.{numbered, numbered_outcome}
use Rattle.flow_rules.specs.Paths.{IsPath, Move, Taken, taken, start, on, entered, born, flowed}
use Rattle.flow_rules.specs.declared.path_step.PathStep.{PathStep}
use Rattle.flow_rules.proofs.NumberingLaws.{flow-numbered}
use Rattle.obligation_paths.specs.Nodes.{arcs_at, move_of, relation_in}
use Rattle.fault_order.specs.declared.fault.FaultAt.{FaultAt}
use Rattle.obligation_paths.specs.Telling.{told, told_fact}
use Rattle.fault_paths.specs.Steps.{CanBecome, CanBreak, CanEnter, CanLead, GoesOn, GoesTo, IsStepOf, TellsPathTo}

next_of : (m : ℕ) (x : Outcome) (g : Fact) → numbered_outcome m x ≡ Next g → (f : Fact) × ((x ≡ Next f) × (numbered m f ≡ g))
next_of m (Next f) g h = (f, (refl, (let same : numbered m f ≡ g = cc in same)))
next_of m Gone g h = absurd (let never : Gone ≡ Next g = h in cc)
next_of m (Fault rule names) g h = absurd (let never : Fault rule names ≡ Next g = h in cc)

fault_of : (m : ℕ) (x : Outcome) (rule : Rule) (names : Names) → numbered_outcome m x ≡ Fault rule names → x ≡ Fault rule names
fault_of m (Next f) rule names h = absurd (let never : Next (numbered m f) ≡ Fault rule names = h in cc)
fault_of m Gone rule names h = absurd (let never : Gone ≡ Fault rule names = h in cc)
fault_of m (Fault r n) rule names h = h

shifted : {X : Type 0} (xs : List X) (x : X) (ys : List X) → (xs ++ x ∷ []) ++ ys ≡ xs ++ x ∷ ys
shifted [] x ys = refl
shifted (z ∷ xs) x ys = ap (λ zs. z ∷ zs) (shifted xs x ys)

-- steps to a step, and that step
map_shifted : (m : ℕ) (path : List (Taken ℕ)) (t : Taken ℕ) (rest : List PathStep) → map (told m) (path ++ t ∷ []) ++ rest ≡ map (told m) path ++ told m t ∷ rest
map_shifted m path t rest = ap (λ zs. zs ++ rest) (map_append (told m) path (t ∷ [])) ∙ shifted (map (told m) path) (told m t) rest

-- one step more is told
pub told_push : (m : ℕ) (front : List PathStep) (s : PathStep) (path : List (Taken ℕ)) (t : Taken ℕ) → front ≡ map (told m) path → s ≡ told m t → front ++ s ∷ [] ≡ map (told m) (path ++ t ∷ [])
told_push m front s path t before last = ap (λ y. front ++ y ∷ []) last ∙ ap (λ ys. ys ++ told m t ∷ []) before ∙ sym (map_append (told m) path (t ∷ []))

module _ (p : Program) (b : BodyId) (rows : List (List Arc)) (x : FaultAt) where
  -- ---- what tells a path goes to the fault

  lead : (k i m : ℕ) (t : Move ℕ) (f : Option Fact) (s : PathStep) → IsAt (map move_of (arcs_at rows k)) i t → s.node ≡ t.to
      → ((a : Arc) → move_of a ≡ t → CanBecome p b x.origin a (told_fact m f) s.fact) → CanLead p b rows x.origin (told m (taken k t f)) s.node s.fact
  lead k i m t f s at node becomes =
      let one = map_at move_of (arcs_at rows k) i t at in
      let same = one.1.1 in (
        one.0,
        (
          (i, one.1.0),
          (
            (ap (λ (w : Move ℕ). w.action) (sym same), (ap (λ (w : Move ℕ). w.edge) (sym same), ap (λ (w : Move ℕ). w.pos) (sym same))),
            (node ∙ ap (λ (w : Move ℕ). w.to) (sym same), becomes one.0 same),
          ),
        ),
      )

  goes_to : (before : List (Taken ℕ)) (k : ℕ) (f : Option Fact) → IsPath p b (relation_in rows) x.origin before k f → (m : ℕ) (s : PathStep) (rest : List PathStep) → s.node ≡ k → s.fact ≡ told_fact m f
      → GoesOn p b rows x s rest → GoesTo p b rows x (map (told m) before ++ s ∷ rest)
  goes_to _ _ _ start m s rest node fact further = (node, (subst (CanEnter p b x.origin) (sym fact) tt, further))
  goes_to _ _ (Some f) (entered n is) m s rest node fact further = (node, (subst (CanEnter p b x.origin) (sym fact) (f, ((n, is), refl)), further))
  goes_to _ _ _ (on {steps} {k} i t path at) m s rest node fact further =
      subst (GoesTo p b rows x) (sym (map_shifted m steps (taken k t None) (s ∷ rest)))
      (goes_to steps k None path m (told m (taken k t None)) (s ∷ rest) refl refl
      (lead k i m t None s at node (λ a same. subst (CanBecome p b x.origin a None) (sym fact) tt), further))
  goes_to _ _ (Some f) (born {steps} {k} i n t path at is) m s rest node fact further =
      subst (GoesTo p b rows x) (sym (map_shifted m steps (taken k t None) (s ∷ rest)))
      (goes_to steps k None path m (told m (taken k t None)) (s ∷ rest) refl refl (
        lead k i m t None s at node
            (λ a same.
            subst (CanBecome p b x.origin a None) (sym fact) (f, ((n, subst (λ (w : Move ℕ). slice_get (births_of_step p b w.action w.edge w.pos) n ≡ Some (x.origin, f)) (sym same) is), refl))),
        further,
      ))
  goes_to _ _ (Some g) (flowed {steps} {k} {f} i t path at is) m s rest node fact further =
      subst (GoesTo p b rows x) (sym (map_shifted m steps (taken k t (Some f)) (s ∷ rest)))
      (goes_to steps k (Some f) path m (told m (taken k t (Some f))) (s ∷ rest) refl refl (
        lead k i m t (Some f) s at node
            (λ a same.
            subst (CanBecome p b x.origin a (Some (numbered m f))) (sym fact)
            (flow-numbered m p b x.origin a.action a.edge f ∙ ap (numbered_outcome m) (subst (λ (w : Move ℕ). flow p b x.origin w.action w.edge f ≡ Next g) (sym same) is))),
        further,
      ))

  -- steps that tell a path to the fault go to it
  pub told_goes : (steps : List PathStep) → TellsPathTo p b rows x steps → GoesTo p b rows x steps
  told_goes steps h =
      let q = h.is in
      let one = map_at move_of (arcs_at rows q.control) q.index q.move q.step in
      let same = one.1.1 in
      let last : Taken ℕ = taken q.control q.move (Some q.fact) in
      let breaks : CanBreak p b rows x (told h.number last) =
      record {
        arc = one.0;
        at = (q.index, one.1.0);
        step = (ap (λ (w : Move ℕ). w.action) (sym same), (ap (λ (w : Move ℕ). w.edge) (sym same), ap (λ (w : Move ℕ). w.pos) (sym same)));
        place = q.place;
        fact = numbered h.number q.fact;
        known = refl;
        names = h.names;
        breaks = flow-numbered h.number p b x.origin one.0.action one.0.edge q.fact
            ∙ ap (numbered_outcome h.number) (subst (λ (w : Move ℕ). flow p b x.origin w.action w.edge q.fact ≡ Fault x.rule h.names) (sym same) q.breaks);
        within = h.within;
      } in
      subst (GoesTo p b rows x) (sym (h.told ∙ ap (map (told h.number)) q.is ∙ map_append (told h.number) q.before (last ∷ [])))
      (goes_to q.before q.control (Some q.fact) q.path h.number (told h.number last) [] refl refl breaks)

  -- ---- what goes to the fault tells a path

  -- the steps tell a path to the node with what is known there
  abbrev IsFront : ℕ → Option Fact → List PathStep → Type 0
  IsFront node None front = (path : List (Taken ℕ)) × (IsPath p b (relation_in rows) x.origin path node None × ((m : ℕ) → front ≡ map (told m) path))
  IsFront node (Some g) front =
      (f : Fact) × ((numbered g.origin f ≡ g) × ((path : List (Taken ℕ)) × (IsPath p b (relation_in rows) x.origin path node (Some f) × (front ≡ map (told g.origin) path))))

  begin : (node : ℕ) (known : Option Fact) → node ≡ 0 → CanEnter p b x.origin known → IsFront node known []
  begin node None first enters = ([], (subst (λ (k : ℕ). IsPath p b (relation_in rows) x.origin [] k None) (sym first) start, λ m. refl))
  begin node (Some g) first (f, (birth, is)) = (f, (is, ([], (subst (λ (k : ℕ). IsPath p b (relation_in rows) x.origin [] k (Some f)) (sym first) (entered birth.0 birth.1), refl))))

  -- the step that is told of an arc
  step_of : (s : PathStep) (a : Arc) (known : Option Fact) → IsStepOf s a → s.fact ≡ known → s ≡ record { node = s.node; pos = a.pos; action = a.action; edge = a.edge; fact = known }
  step_of s a known step fact = λ i. record { node = s.node; pos = step.1.1 i; action = step.0 i; edge = step.1.0 i; fact = fact i }

  further : (s : PathStep) (before known : Option Fact) (k i : ℕ) (a : Arc) (front : List PathStep) → s.fact ≡ before → IsFront s.node before front → IsAt (arcs_at rows s.node) i a → IsStepOf s a → k ≡ a.to
      → CanBecome p b x.origin a before known → IsFront k known (front ++ s ∷ [])
  further s None None k i a front fact (path, (is, tells)) arc step to becomes = (
    path ++ taken s.node (move_of a) None ∷ [],
    (
      subst (λ (n : ℕ). IsPath p b (relation_in rows) x.origin (path ++ taken s.node (move_of a) None ∷ []) n None) (sym to) (on i (move_of a) is (at_map move_of (arcs_at rows s.node) i a arc)),
      λ m. told_push m front s path (taken s.node (move_of a) None) (tells m) (step_of s a None step fact),
    ),
  )
  further s None (Some g) k i a front fact (path, (is, tells)) arc step to (f, (birth, same)) = (
    f,
    (
      same,
      (
        path ++ taken s.node (move_of a) None ∷ [],
        (
          subst (λ (n : ℕ). IsPath p b (relation_in rows) x.origin (path ++ taken s.node (move_of a) None ∷ []) n (Some f)) (sym to)
              (born i birth.0 (move_of a) is (at_map move_of (arcs_at rows s.node) i a arc) birth.1),
          told_push g.origin front s path (taken s.node (move_of a) None) (tells g.origin) (step_of s a None step fact),
        ),
      ),
    ),
  )
  further s (Some f0) None k i a front fact before arc step to becomes = absurd becomes
  further s (Some f0) (Some g) k i a front fact (f, (same, (path, (is, tells)))) arc step to flows =
      let numbered_flow : numbered_outcome f0.origin (flow p b x.origin a.action a.edge f) ≡ Next g =
      sym (flow-numbered f0.origin p b x.origin a.action a.edge f) ∙ ap (flow p b x.origin a.action a.edge) same ∙ flows in
      let one = next_of f0.origin (flow p b x.origin a.action a.edge f) g numbered_flow in
      let number : f0.origin ≡ g.origin = ap (λ (y : Fact). y.origin) one.1.1 in
      let t : Taken ℕ = taken s.node (move_of a) (Some f) in
      let last : s ≡ told f0.origin t = step_of s a (Some f0) step fact ∙ ap (λ (y : Fact). record { node = s.node; pos = a.pos; action = a.action; edge = a.edge; fact = Some y }) (sym same) in
      let path_on = subst (λ (n : ℕ). IsPath p b (relation_in rows) x.origin (path ++ t ∷ []) n (Some one.0)) (sym to) (flowed i (move_of a) is (at_map move_of (arcs_at rows s.node) i a arc) one.1.0) in
      let tells_on : front ++ s ∷ [] ≡ map (told f0.origin) (path ++ t ∷ []) = told_push f0.origin front s path t tells last in (
        one.0,
        subst (λ (n : ℕ). (numbered n one.0 ≡ g) × ((way : List (Taken ℕ)) × (IsPath p b (relation_in rows) x.origin way k (Some one.0) × (front ++ s ∷ [] ≡ map (told n) way)))) number
            (one.1.1, (path ++ t ∷ [], (path_on, tells_on))),
      )

  ends : (s : PathStep) (g : Fact) (front : List PathStep) → CanBreak p b rows x s → s.fact ≡ Some g → IsFront s.node (Some g) front → TellsPathTo p b rows x (front ++ s ∷ [])
  ends s g front h fact (f, (same, (path, (is, tells)))) =
      let known : h.fact ≡ g = (let both : Some h.fact ≡ Some g = sym h.known ∙ fact in cc) in
      let t : Taken ℕ = taken s.node (move_of h.arc) (Some f) in
      let breaks : numbered_outcome g.origin (flow p b x.origin h.arc.action h.arc.edge f) ≡ Fault x.rule h.names =
      sym (flow-numbered g.origin p b x.origin h.arc.action h.arc.edge f) ∙ ap (flow p b x.origin h.arc.action h.arc.edge) (same ∙ sym known) ∙ h.breaks in
      let last : s ≡ told g.origin t =
      step_of s h.arc (Some g) h.step fact ∙ ap (λ (y : Fact). record { node = s.node; pos = h.arc.pos; action = h.arc.action; edge = h.arc.edge; fact = Some y }) (sym same) in
      record {
        number = g.origin;
        path = path ++ t ∷ [];
        told = told_push g.origin front s path t tells last;
        names = h.names;
        is = record {
          before = path;
          control = s.node;
          fact = f;
          path = is;
          index = h.at.0;
          move = move_of h.arc;
          step = at_map move_of (arcs_at rows s.node) h.at.0 h.arc h.at.1;
          breaks = fault_of g.origin (flow p b x.origin h.arc.action h.arc.edge f) x.rule h.names breaks;
          place = sym h.step.1.1 ∙ h.place;
          is = refl;
        };
        within = h.within;
      }

  goes_told : (s : PathStep) (rest front : List PathStep) → IsFront s.node s.fact front → GoesOn p b rows x s rest → TellsPathTo p b rows x (front ++ s ∷ rest)
  goes_told s [] front before h = ends s h.fact front h h.known (subst (λ (o : Option Fact). IsFront s.node o front) h.known before)
  goes_told s (t ∷ rest) front before (led, h) =
      subst (TellsPathTo p b rows x) (shifted front s (t ∷ rest))
      (goes_told t rest (front ++ s ∷ []) (further s s.fact t.fact t.node led.1.0.0 led.0 front refl before led.1.0.1 led.1.1.0 led.1.1.1.0 led.1.1.1.1) h)

  -- steps that go to the fault tell a path to it
  pub goes_tells : (steps : List PathStep) → GoesTo p b rows x steps → TellsPathTo p b rows x steps
  goes_tells [] h = absurd h
  goes_tells (s ∷ rest) (first, (enters, h)) = goes_told s rest [] (begin s.node s.fact first enters) h
