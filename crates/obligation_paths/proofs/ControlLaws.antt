-- Paths over the nodes of the graph of a body are paths of controls, and paths of controls are paths over nodes, with as many
-- steps.
use Rattle.std.proofs.Common.{◌≡◌, ◌∙◌, sym, ap, refl, subst, arith, ℕ, suc, Option, Some, None, List, [], ◌∷◌, ◌++◌, length}
use Rattle.std.specs.Prelude.{map, slice_get}
use Rattle.std.specs.List.{AllZip}
use Rattle.rlc_base.specs.declared.place.Pos.{Pos}
use Rattle.program_model.specs.declared.kinds.BodyId.{BodyId}
use Rattle.program_model.specs.declared.program.Program.{Program}
use Rattle.breadth_first.specs.Searches.{IsAt}
use Rattle.breadth_first.proofs.ListLaws.{at_map, map_at}
use Rattle.java_control.specs.Control.{Step, next_of, start_of}
use Rattle.java_control.specs.Remaining.{Todo}
use Rattle.java_cfg.specs.Graphs.{IsGraphOf}
use Rattle.java_cfg.specs.declared.arc.Arc.{Arc}
use Rattle.control_actions.specs.declared.fact.Fact.{Fact}
use Rattle.control_actions.specs.declared.fact.Origin.{Origin}
use Rattle.control_actions.specs.declared.fact.Rule.{Rule}
use Rattle.flow_rules.specs.Facts.{Names}
use Rattle.flow_rules.specs.Births.{births_of_step}
use Rattle.flow_rules.specs.Flow.{flow}
use Rattle.flow_rules.specs.Paths.{IsPath, Move, Taken, relation_of, taken, start, on, entered, born, flowed}
use Rattle.flow_rules.specs.Paths.{move_of as control_move}
use Rattle.flow_rules.specs.declared.path_step.PathStep.{PathStep}
use Rattle.graph_relation.specs.Nodes.{arcs_at, move_of, relation_in}
use Rattle.graph_relation.proofs.NodeLaws.{arc_of_step, step_of_arc}
use Rattle.shortest_paths.specs.Telling.{told, told_fact}
use Rattle.shortest_paths.proofs.TellingLaws.{length_push}
use Rattle.fault_order.specs.declared.fault.FaultAt.{FaultAt}
use Rattle.obligation_paths.specs.Paths.{IsPathTo, IsTold, IsToldPathTo, TellsShortest}

zip_push : {A B : Type 0} (R : A → B → Type 0) (xs : List A) (ys : List B) (x : A) (y : B) → AllZip R xs ys → R x y → AllZip R (xs ++ x ∷ []) (ys ++ y ∷ [])
zip_push R [] [] x y h one = (one, tt)
zip_push R [] (z ∷ ys) x y h one = absurd h
zip_push R (w ∷ xs) [] x y h one = absurd h
zip_push R (w ∷ xs) (z ∷ ys) x y h one = (h.0, zip_push R xs ys x y h.1 one)

zip_long : {A B : Type 0} (R : A → B → Type 0) (xs : List A) (ys : List B) → AllZip R xs ys → length xs ≡ length ys
zip_long R [] [] h = refl
zip_long R [] (y ∷ ys) h = absurd h
zip_long R (x ∷ xs) [] h = absurd h
zip_long R (x ∷ xs) (y ∷ ys) h = ap suc (zip_long R xs ys h.1)

zip_map : {A B C : Type 0} (R : A → B → Type 0) (Q : C → B → Type 0) (f : A → C) → ((x : A) (y : B) → R x y → Q (f x) y) → (xs : List A) (ys : List B) → AllZip R xs ys → AllZip Q (map f xs) ys
zip_map R Q f each [] [] h = tt
zip_map R Q f each [] (y ∷ ys) h = absurd h
zip_map R Q f each (x ∷ xs) [] h = absurd h
zip_map R Q f each (x ∷ xs) (y ∷ ys) h = (each x y h.0, zip_map R Q f each xs ys h.1)

-- the step from a control is that from its node
record IsSameStep (nodes : List (List Todo)) (t : Taken ℕ) (u : Taken (List Todo)) : Type 0 where
  control : IsAt nodes t.control u.control
  action : t.move.action ≡ u.move.action
  edge : t.move.edge ≡ u.move.edge
  pos : t.move.pos ≡ u.move.pos
  fact : t.fact ≡ u.fact

told_same : (nodes : List (List Todo)) (m : ℕ) (t : Taken ℕ) (u : Taken (List Todo)) → IsSameStep nodes t u → IsTold nodes m (told m t) u
told_same nodes m t u h = record { control = h.control; action = h.action; edge = h.edge; pos = h.pos; fact = ap (told_fact m) h.fact }

module _ (p : Program) (b : BodyId) (nodes : List (List Todo)) (rows : List (List Arc)) (g : IsGraphOf p b nodes rows) where
  -- ---- from nodes to controls

  -- the step of a move between nodes, from the control of the node
  record IsStepped (i : ℕ) (t : Move ℕ) (c : List Todo) : Type 0 where
    step : Step
    at : slice_get (map control_move (next_of p b c)) i ≡ Some (control_move step)
    action : t.action ≡ step.action
    edge : t.edge ≡ step.edge
    pos : t.pos ≡ step.pos
    target : IsAt nodes t.to step.to

  stepped : (k i : ℕ) (t : Move ℕ) (c : List Todo) → IsAt nodes k c → slice_get (map move_of (arcs_at rows k)) i ≡ Some t → IsStepped i t c
  stepped k i t c here at =
      let arc = map_at move_of (arcs_at rows k) i t at in
      let one = step_of_arc p b nodes rows g k i c arc.0 here arc.1.0 in
      record {
        step = one.0;
        at = at_map control_move (next_of p b c) i one.0 one.1.0;
        action = ap (λ (m : Move ℕ). m.action) (sym arc.1.1) ∙ one.1.1.action;
        edge = ap (λ (m : Move ℕ). m.edge) (sym arc.1.1) ∙ one.1.1.edge;
        pos = ap (λ (m : Move ℕ). m.pos) (sym arc.1.1) ∙ one.1.1.pos;
        target = ap (λ (m : Move ℕ). slice_get nodes m.to) (sym arc.1.1) ∙ one.1.1.target;
      }

  same_step : (k i : ℕ) (t : Move ℕ) (c : List Todo) (f : Option Fact) → IsAt nodes k c → (s : IsStepped i t c) → IsSameStep nodes (taken k t f) (taken c (control_move s.step) f)
  same_step k i t c f here s = record { control = here; action = s.action; edge = s.edge; pos = s.pos; fact = refl }

  -- a path of controls goes with the steps to the node
  record IsOver (o : Origin) (steps : List (Taken ℕ)) (k : ℕ) (f : Option Fact) : Type 0 where
    control : List Todo
    at : IsAt nodes k control
    over : List (Taken (List Todo))
    path : IsPath p b (relation_of p b) o over control f
    same : AllZip (IsSameStep nodes) steps over

  over_path : (o : Origin) (steps : List (Taken ℕ)) (k : ℕ) (f : Option Fact) → IsPath p b (relation_in rows) o steps k f → IsOver o steps k f
  over_path o _ _ _ start = record { control = start_of p b; at = g.starts; over = []; path = start; same = tt }
  over_path o _ _ (Some f) (entered n is) = record { control = start_of p b; at = g.starts; over = []; path = entered n is; same = tt }
  over_path o _ _ _ (on {steps} {k} i t path at) = further (over_path o steps k None path)
    where
      further : IsOver o steps k None → IsOver o (steps ++ taken k t None ∷ []) t.to None
      further before =
          let s = stepped k i t before.control before.at at in
          record {
            control = s.step.to;
            at = s.target;
            over = before.over ++ taken before.control (control_move s.step) None ∷ [];
            path = on i (control_move s.step) before.path s.at;
            same = zip_push (IsSameStep nodes) steps before.over (taken k t None) (taken before.control (control_move s.step) None) before.same (same_step k i t before.control None before.at s);
          }
  over_path o _ _ (Some f) (born {steps} {k} i n t path at is) = further (over_path o steps k None path)
    where
      further : IsOver o steps k None → IsOver o (steps ++ taken k t None ∷ []) t.to (Some f)
      further before =
          let s = stepped k i t before.control before.at at in
          let same : births_of_step p b s.step.action s.step.edge s.step.pos ≡ births_of_step p b t.action t.edge t.pos = sym (λ j. births_of_step p b (s.action j) (s.edge j) (s.pos j)) in
          record {
            control = s.step.to;
            at = s.target;
            over = before.over ++ taken before.control (control_move s.step) None ∷ [];
            path = born i n (control_move s.step) before.path s.at (ap (λ xs. slice_get xs n) same ∙ is);
            same = zip_push (IsSameStep nodes) steps before.over (taken k t None) (taken before.control (control_move s.step) None) before.same (same_step k i t before.control None before.at s);
          }
  over_path o _ _ (Some f2) (flowed {steps} {k} {f} i t path at is) = further (over_path o steps k (Some f) path)
    where
      further : IsOver o steps k (Some f) → IsOver o (steps ++ taken k t (Some f) ∷ []) t.to (Some f2)
      further before =
          let s = stepped k i t before.control before.at at in
          let same : flow p b o s.step.action s.step.edge f ≡ flow p b o t.action t.edge f = sym (λ j. flow p b o (s.action j) (s.edge j) f) in
          record {
            control = s.step.to;
            at = s.target;
            over = before.over ++ taken before.control (control_move s.step) (Some f) ∷ [];
            path = flowed i (control_move s.step) before.path s.at (same ∙ is);
            same = zip_push (IsSameStep nodes) steps before.over (taken k t (Some f)) (taken before.control (control_move s.step) (Some f)) before.same (same_step k i t before.control (Some f) before.at s);
          }

  over_path_to : (o : Origin) (rule : Rule) (at : Pos) (names : Names) (steps : List (Taken ℕ)) → IsPathTo p b (relation_in rows) o rule at names steps
      → (over : List (Taken (List Todo))) × (IsPathTo p b (relation_of p b) o rule at names over × AllZip (IsSameStep nodes) steps over)
  over_path_to o rule at names steps q =
      let before = over_path o q.before q.control (Some q.fact) q.path in
      let s = stepped q.control q.index q.move before.control before.at q.step in
      let last : Taken (List Todo) = taken before.control (control_move s.step) (Some q.fact) in (
        before.over ++ last ∷ [],
        (
          record {
            before = before.over;
            control = before.control;
            fact = q.fact;
            path = before.path;
            index = q.index;
            move = control_move s.step;
            step = s.at;
            breaks = sym (λ j. flow p b o (s.action j) (s.edge j) q.fact) ∙ q.breaks;
            place = sym s.pos ∙ q.place;
            is = refl;
          },
          subst (λ (xs : List (Taken ℕ)). AllZip (IsSameStep nodes) xs (before.over ++ last ∷ [])) (sym q.is)
              (zip_push (IsSameStep nodes) q.before before.over (taken q.control q.move (Some q.fact)) last before.same (same_step q.control q.index q.move before.control (Some q.fact) before.at s)),
        ),
      )

  -- ---- from controls to nodes

  -- the move between nodes of a step from the control of the node
  record IsMoved (k i : ℕ) (t : Move (List Todo)) : Type 0 where
    arc : Arc
    at : slice_get (map move_of (arcs_at rows k)) i ≡ Some (move_of arc)
    action : arc.action ≡ t.action
    edge : arc.edge ≡ t.edge
    pos : arc.pos ≡ t.pos
    target : IsAt nodes arc.to t.to

  moved : (k i : ℕ) (t : Move (List Todo)) (c : List Todo) → IsAt nodes k c → slice_get (map control_move (next_of p b c)) i ≡ Some t → IsMoved k i t
  moved k i t c here at =
      let step = map_at control_move (next_of p b c) i t at in
      let one = arc_of_step p b nodes rows g k i c step.0 here step.1.0 in
      record {
        arc = one.0;
        at = at_map move_of (arcs_at rows k) i one.0 one.1.0;
        action = one.1.1.action ∙ ap (λ (m : Move (List Todo)). m.action) step.1.1;
        edge = one.1.1.edge ∙ ap (λ (m : Move (List Todo)). m.edge) step.1.1;
        pos = one.1.1.pos ∙ ap (λ (m : Move (List Todo)). m.pos) step.1.1;
        target = one.1.1.target ∙ ap (λ (m : Move (List Todo)). Some m.to) step.1.1;
      }

  -- a path over nodes with as many steps goes with the path of controls
  record IsUnder (o : Origin) (over : List (Taken (List Todo))) (c : List Todo) (f : Option Fact) : Type 0 where
    node : ℕ
    at : IsAt nodes node c
    steps : List (Taken ℕ)
    path : IsPath p b (relation_in rows) o steps node f
    long : length steps ≡ length over

  grown : {A B : Type 0} (xs : List A) (ys : List B) (x : A) (y : B) → length xs ≡ length ys → length (xs ++ x ∷ []) ≡ length (ys ++ y ∷ [])
  grown xs ys x y h = length_push xs x ∙ ap suc h ∙ sym (length_push ys y)

  under_path : (o : Origin) (over : List (Taken (List Todo))) (c : List Todo) (f : Option Fact) → IsPath p b (relation_of p b) o over c f → IsUnder o over c f
  under_path o _ _ _ start = record { node = 0; at = g.starts; steps = []; path = start; long = refl }
  under_path o _ _ (Some f) (entered n is) = record { node = 0; at = g.starts; steps = []; path = entered n is; long = refl }
  under_path o _ _ _ (on {steps} {k} i t path at) = further (under_path o steps k None path)
    where
      further : IsUnder o steps k None → IsUnder o (steps ++ taken k t None ∷ []) t.to None
      further before =
          let m = moved before.node i t k before.at at in
          record {
            node = m.arc.to;
            at = m.target;
            steps = before.steps ++ taken before.node (move_of m.arc) None ∷ [];
            path = on i (move_of m.arc) before.path m.at;
            long = grown before.steps steps (taken before.node (move_of m.arc) None) (taken k t None) before.long;
          }
  under_path o _ _ (Some f) (born {steps} {k} i n t path at is) = further (under_path o steps k None path)
    where
      further : IsUnder o steps k None → IsUnder o (steps ++ taken k t None ∷ []) t.to (Some f)
      further before =
          let m = moved before.node i t k before.at at in
          let same : births_of_step p b m.arc.action m.arc.edge m.arc.pos ≡ births_of_step p b t.action t.edge t.pos = (λ j. births_of_step p b (m.action j) (m.edge j) (m.pos j)) in
          record {
            node = m.arc.to;
            at = m.target;
            steps = before.steps ++ taken before.node (move_of m.arc) None ∷ [];
            path = born i n (move_of m.arc) before.path m.at (ap (λ xs. slice_get xs n) same ∙ is);
            long = grown before.steps steps (taken before.node (move_of m.arc) None) (taken k t None) before.long;
          }
  under_path o _ _ (Some f2) (flowed {steps} {k} {f} i t path at is) = further (under_path o steps k (Some f) path)
    where
      further : IsUnder o steps k (Some f) → IsUnder o (steps ++ taken k t (Some f) ∷ []) t.to (Some f2)
      further before =
          let m = moved before.node i t k before.at at in
          let same : flow p b o m.arc.action m.arc.edge f ≡ flow p b o t.action t.edge f = (λ j. flow p b o (m.action j) (m.edge j) f) in
          record {
            node = m.arc.to;
            at = m.target;
            steps = before.steps ++ taken before.node (move_of m.arc) (Some f) ∷ [];
            path = flowed i (move_of m.arc) before.path m.at (same ∙ is);
            long = grown before.steps steps (taken before.node (move_of m.arc) (Some f)) (taken k t (Some f)) before.long;
          }

  under_path_to : (o : Origin) (rule : Rule) (at : Pos) (names : Names) (over : List (Taken (List Todo))) → IsPathTo p b (relation_of p b) o rule at names over
      → (steps : List (Taken ℕ)) × (IsPathTo p b (relation_in rows) o rule at names steps × (length steps ≡ length over))
  under_path_to o rule at names over q =
      let before = under_path o q.before q.control (Some q.fact) q.path in
      let m = moved before.node q.index q.move q.control before.at q.step in
      let last : Taken ℕ = taken before.node (move_of m.arc) (Some q.fact) in (
        before.steps ++ last ∷ [],
        (
          record {
            before = before.steps;
            control = before.node;
            fact = q.fact;
            path = before.path;
            index = q.index;
            move = move_of m.arc;
            step = m.at;
            breaks = (λ j. flow p b o (m.action j) (m.edge j) q.fact) ∙ q.breaks;
            place = m.pos ∙ q.place;
            is = refl;
          },
          grown before.steps q.before last (taken q.control q.move (Some q.fact)) before.long ∙ ap length (sym q.is),
        ),
      )

  -- a shortest path over nodes is one of controls
  pub told_over : (x : FaultAt) (steps : List PathStep) → TellsShortest p b (relation_in rows) x steps → IsToldPathTo p b nodes x steps
  told_over x steps t =
      let one = over_path_to x.origin x.rule x.at t.is.names t.path t.is.path in
      let long : length t.path ≡ length one.0 = zip_long (IsSameStep nodes) t.path one.0 one.1.1 in
      record {
        number = t.number;
        path = one.0;
        told = subst (λ (xs : List PathStep). AllZip (IsTold nodes t.number) xs one.0) (sym t.told) (zip_map (IsSameStep nodes) (IsTold nodes t.number) (told t.number) (told_same nodes t.number) t.path one.0 one.1.1);
        is = record {
          names = t.is.names;
          path = one.1.0;
          within = t.is.within;
          least = λ others missing q. (
              let under = under_path_to x.origin x.rule x.at missing others q in
              let low = t.is.least under.0 missing under.1.0 in
              let same = under.1.1 in
              omega (arith, low, same, long));
        };
      }
