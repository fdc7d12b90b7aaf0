-- Steps that tell a path over the rows of a graph tell a path of controls, by the numbers of its nodes, and the other way round.
use Rattle.std.proofs.Common.{◌≡◌, ◌∙◌, sym, ap, refl, subst, ℕ, Option, Some, None, List, [], ◌∷◌, ◌++◌}
use Rattle.std.specs.Prelude.{map, slice_get}
use Rattle.std.specs.List.{AllZip}
use Rattle.program_model.specs.declared.kinds.BodyId.{BodyId}
use Rattle.program_model.specs.declared.program.Program.{Program}
use Rattle.breadth_first.specs.Searches.{IsAt}
use Rattle.breadth_first.proofs.ListLaws.{at_map, map_at}
use Rattle.java_control.specs.Control.{Step, next_of, start_of}
use Rattle.java_control.specs.Remaining.{Todo}
use Rattle.control_actions.specs.declared.fact.Fact.{Fact}
use Rattle.control_actions.specs.declared.fact.Origin.{Origin}
use Rattle.java_cfg.specs.Graphs.{IsGraphOf}
use Rattle.java_cfg.specs.declared.arc.Arc.{Arc}
use Rattle.flow_rules.specs.Births.{births_of_step}
use Rattle.flow_rules.specs.Flow.{flow}
use Rattle.flow_rules.specs.Paths.{IsPath, Move, Taken, relation_of, taken, start, on, entered, born, flowed}
use Rattle.flow_rules.specs.Paths.{move_of as control_move}
use Rattle.flow_rules.specs.declared.path_step.PathStep.{PathStep}
use Rattle.obligation_paths.specs.Nodes.{arcs_at, move_of, relation_in}
use Rattle.obligation_paths.proofs.NodeLaws.{arc_of_step, step_of_arc}
use Rattle.obligation_paths.specs.Telling.{told}
use Rattle.fault_order.specs.declared.fault.FaultAt.{FaultAt}
use Rattle.obligation_paths.specs.Paths.{IsTold, IsToldPathTo}
use Rattle.fault_paths.specs.Paths.{IsFaultPath}
use Rattle.fault_paths.specs.Steps.{TellsPathTo}
use Rattle.fault_paths.proofs.StepLaws.{told_push}

module _ (p : Program) (b : BodyId) (nodes : List (List Todo)) (rows : List (List Arc)) (g : IsGraphOf p b nodes rows) where
  -- the steps tell the path of controls with the number
  abbrev AreTold : ℕ → List PathStep → List (Taken (List Todo)) → Type 0
  AreTold m steps path = AllZip (IsTold nodes m) steps path

  -- ---- from nodes to controls

  -- the step of a move between nodes, from the control of the node
  record IsStepped (i : ℕ) (t : Move ℕ) (c : List Todo) : Type 0 where
    step : Step
    at : slice_get (map control_move (next_of p b c)) i ≡ Some (control_move step)
    action : t.action ≡ step.action
    edge : t.edge ≡ step.edge
    pos : t.pos ≡ step.pos
    target : IsAt nodes t.to step.to

  stepped : (k i : ℕ) (t : Move ℕ) (c : List Todo) → IsAt nodes k c → slice_get (map move_of (arcs_at rows k)) i ≡ Some t → IsStepped i t c
  stepped k i t c here at =
      let arc = map_at move_of (arcs_at rows k) i t at in
      let one = step_of_arc p b nodes rows g k i c arc.0 here arc.1.0 in
      record {
        step = one.0;
        at = at_map control_move (next_of p b c) i one.0 one.1.0;
        action = ap (λ (m : Move ℕ). m.action) (sym arc.1.1) ∙ one.1.1.action;
        edge = ap (λ (m : Move ℕ). m.edge) (sym arc.1.1) ∙ one.1.1.edge;
        pos = ap (λ (m : Move ℕ). m.pos) (sym arc.1.1) ∙ one.1.1.pos;
        target = ap (λ (m : Move ℕ). slice_get nodes m.to) (sym arc.1.1) ∙ one.1.1.target;
      }

  -- one step more is told
  pushed : (m : ℕ) (steps : List (Taken ℕ)) (over : List (Taken (List Todo))) (t : Taken ℕ) (u : Taken (List Todo)) → AreTold m (map (told m) steps) over → IsTold nodes m (told m t) u
      → AreTold m (map (told m) (steps ++ t ∷ [])) (over ++ u ∷ [])
  pushed m [] [] t u h one = (one, tt)
  pushed m [] (z ∷ over) t u h one = absurd h
  pushed m (w ∷ steps) [] t u h one = absurd h
  pushed m (w ∷ steps) (z ∷ over) t u h one = (h.0, pushed m steps over t u h.1 one)

  -- a path of controls is told by the steps to the node
  record IsOver (o : Origin) (m : ℕ) (steps : List (Taken ℕ)) (k : ℕ) (f : Option Fact) : Type 0 where
    control : List Todo
    at : IsAt nodes k control
    over : List (Taken (List Todo))
    path : IsPath p b (relation_of p b) o over control f
    told : AreTold m (map (told m) steps) over

  told_last : (m k i : ℕ) (t : Move ℕ) (c : List Todo) (f : Option Fact) → IsAt nodes k c → (s : IsStepped i t c) → IsTold nodes m (told m (taken k t f)) (taken c (control_move s.step) f)
  told_last m k i t c f here s = record { control = here; action = s.action; edge = s.edge; pos = s.pos; fact = refl }

  -- the path of controls with the step by the move
  over_step : (o : Origin) (m : ℕ) (steps : List (Taken ℕ)) (k i : ℕ) (t : Move ℕ) (f after : Option Fact) → slice_get (map move_of (arcs_at rows k)) i ≡ Some t
      → ((over : List (Taken (List Todo))) (c : List Todo) (s : IsStepped i t c) → IsPath p b (relation_of p b) o over c f → IsPath p b (relation_of p b) o (over ++ taken c (control_move s.step) f ∷ []) s.step.to after)
      → IsOver o m steps k f → IsOver o m (steps ++ taken k t f ∷ []) t.to after
  over_step o m steps k i t f after at goes before =
      let s = stepped k i t before.control before.at at in
      record {
        control = s.step.to;
        at = s.target;
        over = before.over ++ taken before.control (control_move s.step) f ∷ [];
        path = goes before.over before.control s before.path;
        told = pushed m steps before.over (taken k t f) (taken before.control (control_move s.step) f) before.told (told_last m k i t before.control f before.at s);
      }

  over_path : (o : Origin) (m : ℕ) (steps : List (Taken ℕ)) (k : ℕ) (f : Option Fact) → IsPath p b (relation_in rows) o steps k f → IsOver o m steps k f
  over_path o m _ _ _ start = record { control = start_of p b; at = g.starts; over = []; path = start; told = tt }
  over_path o m _ _ (Some f) (entered n is) = record { control = start_of p b; at = g.starts; over = []; path = entered n is; told = tt }
  over_path o m _ _ _ (on {steps} {k} i t path at) = over_step o m steps k i t None None at (λ over c s before. on i (control_move s.step) before s.at) (over_path o m steps k None path)
  over_path o m _ _ (Some f) (born {steps} {k} i n t path at is) =
      over_step o m steps k i t None (Some f) at
      (λ over c s before.
      born i n (control_move s.step) before s.at
      (let same : births_of_step p b s.step.action s.step.edge s.step.pos ≡ births_of_step p b t.action t.edge t.pos = sym (λ j. births_of_step p b (s.action j) (s.edge j) (s.pos j)) in ap (λ xs. slice_get xs n) same ∙ is))
      (over_path o m steps k None path)
  over_path o m _ _ (Some h) (flowed {steps} {k} {f} i t path at is) =
      over_step o m steps k i t (Some f) (Some h) at
      (λ over c s before.
      flowed i (control_move s.step) before s.at
      (let same : flow p b o s.step.action s.step.edge f ≡ flow p b o t.action t.edge f = sym (λ j. flow p b o (s.action j) (s.edge j) f) in same ∙ is))
      (over_path o m steps k (Some f) path)

  -- steps that tell a path over rows tell one of controls
  pub told_over : (x : FaultAt) (steps : List PathStep) → TellsPathTo p b rows x steps → IsFaultPath p b nodes x steps
  told_over x steps h =
      let q = h.is in
      let before = over_path x.origin h.number q.before q.control (Some q.fact) q.path in
      let s = stepped q.control q.index q.move before.control before.at q.step in
      let last : Taken ℕ = taken q.control q.move (Some q.fact) in
      let end : Taken (List Todo) = taken before.control (control_move s.step) (Some q.fact) in
      record {
        number = h.number;
        path = before.over ++ end ∷ [];
        told = subst (λ (zs : List PathStep). AreTold h.number zs (before.over ++ end ∷ [])) (sym (h.told ∙ ap (map (told h.number)) q.is))
            (pushed h.number q.before before.over last end before.told (told_last h.number q.control q.index q.move before.control (Some q.fact) before.at s));
        names = h.names;
        is = record {
          before = before.over;
          control = before.control;
          fact = q.fact;
          path = before.path;
          index = q.index;
          move = control_move s.step;
          step = s.at;
          breaks = sym (λ j. flow p b x.origin (s.action j) (s.edge j) q.fact) ∙ q.breaks;
          place = sym s.pos ∙ q.place;
          is = refl;
        };
        within = h.within;
      }

  -- ---- from controls to nodes

  -- the arc of a step from the control of the node
  record IsArced (k i : ℕ) (t : Move (List Todo)) : Type 0 where
    arc : Arc
    at : slice_get (map move_of (arcs_at rows k)) i ≡ Some (move_of arc)
    action : arc.action ≡ t.action
    edge : arc.edge ≡ t.edge
    pos : arc.pos ≡ t.pos
    target : IsAt nodes arc.to t.to

  arced : (k i : ℕ) (t : Move (List Todo)) (c : List Todo) → IsAt nodes k c → slice_get (map control_move (next_of p b c)) i ≡ Some t → IsArced k i t
  arced k i t c here at =
      let step = map_at control_move (next_of p b c) i t at in
      let one = arc_of_step p b nodes rows g k i c step.0 here step.1.0 in
      record {
        arc = one.0;
        at = at_map move_of (arcs_at rows k) i one.0 one.1.0;
        action = one.1.1.action ∙ ap (λ (m : Move (List Todo)). m.action) step.1.1;
        edge = one.1.1.edge ∙ ap (λ (m : Move (List Todo)). m.edge) step.1.1;
        pos = one.1.1.pos ∙ ap (λ (m : Move (List Todo)). m.pos) step.1.1;
        target = one.1.1.target ∙ ap (λ (m : Move (List Todo)). Some m.to) step.1.1;
      }

  -- all steps but the last one, and that
  record IsCut (m : ℕ) (steps : List PathStep) (over : List (Taken (List Todo))) (u : Taken (List Todo)) : Type 0 where
    front : List PathStep
    last : PathStep
    is : steps ≡ front ++ last ∷ []
    fronts : AreTold m front over
    lasts : IsTold nodes m last u

  cut : (m : ℕ) (steps : List PathStep) (over : List (Taken (List Todo))) (u : Taken (List Todo)) → AreTold m steps (over ++ u ∷ []) → IsCut m steps over u
  cut m [] [] u h = absurd h
  cut m (s ∷ []) [] u h = record { front = []; last = s; is = refl; fronts = tt; lasts = h.0 }
  cut m (s ∷ t ∷ steps) [] u h = absurd h.1
  cut m [] (z ∷ over) u h = absurd h
  cut m (s ∷ steps) (z ∷ over) u h =
      let one = cut m steps over u h.1 in
      record { front = s ∷ one.front; last = one.last; is = ap (λ zs. s ∷ zs) one.is; fronts = (h.0, one.fronts); lasts = one.lasts }

  -- the steps tell a path over the rows to the node
  record IsUnder (o : Origin) (m : ℕ) (steps : List PathStep) (k : ℕ) (f : Option Fact) : Type 0 where
    path : List (Taken ℕ)
    is : IsPath p b (relation_in rows) o path k f
    told : steps ≡ map (told m) path

  -- the last step is told of the arc
  arc_told : (m i : ℕ) (s : PathStep) (c : List Todo) (t : Move (List Todo)) (f : Option Fact) → IsTold nodes m s (taken c t f) → (a : IsArced s.node i t) → s ≡ told m (taken s.node (move_of a.arc) f)
  arc_told m i s c t f h a =
      let action = h.action ∙ sym a.action in
      let edge = h.edge ∙ sym a.edge in
      let pos = h.pos ∙ sym a.pos in
      let fact = h.fact in
      λ j. record { node = s.node; pos = pos j; action = action j; edge = edge j; fact = fact j }

  -- the path over the rows with the step by the arc
  under_step : (o : Origin) (m : ℕ) (over : List (Taken (List Todo))) (c : List Todo) (i : ℕ) (t : Move (List Todo)) (f after : Option Fact) (steps : List PathStep) (k : ℕ)
      → AreTold m steps (over ++ taken c t f ∷ []) → IsAt nodes k t.to → slice_get (map control_move (next_of p b c)) i ≡ Some t
      → ((path : List (Taken ℕ)) (n : ℕ) (a : IsArced n i t) → IsPath p b (relation_in rows) o path n f → IsPath p b (relation_in rows) o (path ++ taken n (move_of a.arc) f ∷ []) a.arc.to after)
      → ((front : List PathStep) (n : ℕ) → AreTold m front over → IsAt nodes n c → IsUnder o m front n f) → IsUnder o m steps k after
  under_step o m over c i t f after steps k zip here at goes before =
      let one = cut m steps over (taken c t f) zip in
      let s = one.last in
      let way = before one.front s.node one.fronts one.lasts.control in
      let a = arced s.node i t c one.lasts.control at in
      record {
        path = way.path ++ taken s.node (move_of a.arc) f ∷ [];
        is = subst (λ (n : ℕ). IsPath p b (relation_in rows) o (way.path ++ taken s.node (move_of a.arc) f ∷ []) n after) (g.once a.arc.to k t.to a.target here) (goes way.path s.node a way.is);
        told = one.is ∙ told_push m one.front s way.path (taken s.node (move_of a.arc) f) way.told (arc_told m i s c t f one.lasts a);
      }

  under_path : (o : Origin) (m : ℕ) (over : List (Taken (List Todo))) (c : List Todo) (f : Option Fact) → IsPath p b (relation_of p b) o over c f → (steps : List PathStep) (k : ℕ) → AreTold m steps over → IsAt nodes k c
      → IsUnder o m steps k f
  under_path o m _ _ _ start [] k zip here =
      record { path = []; is = subst (λ (n : ℕ). IsPath p b (relation_in rows) o [] n None) (g.once 0 k (start_of p b) g.starts here) start; told = refl }
  under_path o m _ _ _ start (s ∷ steps) k zip here = absurd zip
  under_path o m _ _ (Some f) (entered n is) [] k zip here =
      record { path = []; is = subst (λ (j : ℕ). IsPath p b (relation_in rows) o [] j (Some f)) (g.once 0 k (start_of p b) g.starts here) (entered n is); told = refl }
  under_path o m _ _ (Some f) (entered n is) (s ∷ steps) k zip here = absurd zip
  under_path o m _ _ _ (on {steps = over} {k = c} i t path at) steps k zip here =
      under_step o m over c i t None None steps k zip here at (λ way n a before. on i (move_of a.arc) before a.at) (λ front n told_front there. under_path o m over c None path front n told_front there)
  under_path o m _ _ (Some f) (born {steps = over} {k = c} i n t path at is) steps k zip here =
      under_step o m over c i t None (Some f) steps k zip here at
      (λ way j a before.
      born i n (move_of a.arc) before a.at
      (let same : births_of_step p b a.arc.action a.arc.edge a.arc.pos ≡ births_of_step p b t.action t.edge t.pos = (λ l. births_of_step p b (a.action l) (a.edge l) (a.pos l)) in ap (λ xs. slice_get xs n) same ∙ is))
      (λ front n told_front there. under_path o m over c None path front n told_front there)
  under_path o m _ _ (Some h) (flowed {steps = over} {k = c} {f = f} i t path at is) steps k zip here =
      under_step o m over c i t (Some f) (Some h) steps k zip here at
      (λ way j a before.
      flowed i (move_of a.arc) before a.at
      (let same : flow p b o a.arc.action a.arc.edge f ≡ flow p b o t.action t.edge f = (λ l. flow p b o (a.action l) (a.edge l) f) in same ∙ is))
      (λ front n told_front there. under_path o m over c (Some f) path front n told_front there)

  -- steps that tell a path of controls tell one over rows
  pub told_under : (x : FaultAt) (steps : List PathStep) → IsFaultPath p b nodes x steps → TellsPathTo p b rows x steps
  told_under x steps h =
      let q = h.is in
      let end : Taken (List Todo) = taken q.control q.move (Some q.fact) in
      let one = cut h.number steps q.before end (subst (AreTold h.number steps) q.is h.told) in
      let s = one.last in
      let way = under_path x.origin h.number q.before q.control (Some q.fact) q.path one.front s.node one.fronts one.lasts.control in
      let a = arced s.node q.index q.move q.control one.lasts.control q.step in
      let last : Taken ℕ = taken s.node (move_of a.arc) (Some q.fact) in
      record {
        number = h.number;
        path = way.path ++ last ∷ [];
        told = one.is ∙ told_push h.number one.front s way.path last way.told (arc_told h.number q.index s q.control q.move (Some q.fact) one.lasts a);
        names = h.names;
        is = record {
          before = way.path;
          control = s.node;
          fact = q.fact;
          path = way.is;
          index = q.index;
          move = move_of a.arc;
          step = a.at;
          breaks = (λ j. flow p b x.origin (a.action j) (a.edge j) q.fact) ∙ q.breaks;
          place = a.pos ∙ q.place;
          is = refl;
        };
        within = h.within;
      }

-- a shortest path to the fault is a path to it
pub shortest_is : (p : Program) (b : BodyId) (nodes : List (List Todo)) (x : FaultAt) (steps : List PathStep) → IsToldPathTo p b nodes x steps → IsFaultPath p b nodes x steps
shortest_is p b nodes x steps h = record { number = h.number; path = h.path; told = h.told; names = h.is.names; is = h.is.path; within = h.is.within }
