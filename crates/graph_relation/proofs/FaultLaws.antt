-- Paths through the graph of a body break the rules that paths of controls break.
use Rattle.std.proofs.Common.{◌≡◌, ◌∙◌, sym, ap, ℕ, Some, List}
use Rattle.std.specs.Prelude.{map, slice_get}
use Rattle.rlc_base.specs.declared.place.Pos.{Pos}
use Rattle.program_model.specs.declared.kinds.BodyId.{BodyId}
use Rattle.program_model.specs.declared.program.Program.{Program}
use Rattle.breadth_first.specs.Searches.{IsAt}
use Rattle.breadth_first.proofs.ListLaws.{at_map, map_at}
use Rattle.java_control.specs.Control.{Step, next_of, start_of}
use Rattle.java_control.specs.Remaining.{Todo}
use Rattle.java_cfg.specs.Graphs.{IsGraphOf}
use Rattle.java_cfg.specs.declared.arc.Arc.{Arc}
use Rattle.control_actions.specs.declared.fact.Fact.{Fact}
use Rattle.control_actions.specs.declared.fact.Origin.{Origin}
use Rattle.control_actions.specs.declared.fact.Rule.{Rule}
use Rattle.java_cfg.specs.Facts.{Names}
use Rattle.body_origins.specs.Births.{births_of_step}
use Rattle.body_origins.specs.Flow.{flow}
use Rattle.body_origins.specs.Paths.{Comes, Faulty, Move, Reach, relation_of, start, on, entered, born, flowed}
use Rattle.body_origins.specs.Paths.{move_of as control_move}
use Rattle.body_origins.specs.Nodes.{arcs_at, move_of, relation_in}
use Rattle.graph_relation.proofs.NodeLaws.{arc_of_step, step_of_arc}

module _ (p : Program) (b : BodyId) (nodes : List (List Todo)) (rows : List (List Arc)) (g : IsGraphOf p b nodes rows) where
  -- the step of a move between nodes, from the control of the node
  record Stepped (k i : ℕ) (t : Move ℕ) (c : List Todo) : Type 0 where
    step : Step
    at : IsAt (map control_move (next_of p b c)) i (control_move step)
    action : step.action ≡ t.action
    edge : step.edge ≡ t.edge
    pos : step.pos ≡ t.pos
    target : IsAt nodes t.to step.to

  stepped : (k i : ℕ) (t : Move ℕ) (c : List Todo) → IsAt nodes k c → slice_get (map move_of (arcs_at rows k)) i ≡ Some t → Stepped k i t c
  stepped k i t c here at =
      let arc = map_at move_of (arcs_at rows k) i t at in
      let one = step_of_arc p b nodes rows g k i c arc.0 here arc.1.0 in
      record {
        step = one.0;
        at = at_map control_move (next_of p b c) i one.0 one.1.0;
        action = sym one.1.1.action ∙ ap (λ (m : Move ℕ). m.action) arc.1.1;
        edge = sym one.1.1.edge ∙ ap (λ (m : Move ℕ). m.edge) arc.1.1;
        pos = sym one.1.1.pos ∙ ap (λ (m : Move ℕ). m.pos) arc.1.1;
        target = ap (λ (m : Move ℕ). slice_get nodes m.to) (sym arc.1.1) ∙ one.1.1.target;
      }

  node_comes : (k : ℕ) → Comes (relation_in rows) k → (c : List Todo) × (IsAt nodes k c × Comes (relation_of p b) c)
  node_comes _ start = (start_of p b, (g.starts, start))
  node_comes _ (on {k} i t h at) = further (node_comes k h)
    where
      further : (c : List Todo) × (IsAt nodes k c × Comes (relation_of p b) c) → (c : List Todo) × (IsAt nodes t.to c × Comes (relation_of p b) c)
      further before =
          let s = stepped k i t before.0 before.1.0 at in
          (s.step.to, (s.target, on i (control_move s.step) before.1.1 s.at))

  -- what a path through the graph reaches, a path of controls reaches
  pub node_reach : (o : Origin) (k : ℕ) (f : Fact) → Reach p b (relation_in rows) o k f → (c : List Todo) × (IsAt nodes k c × Reach p b (relation_of p b) o c f)
  node_reach o _ f (entered n is) = (start_of p b, (g.starts, entered n is))
  node_reach o _ f (born {k} i n t h at is) = further (node_comes k h)
    where
      further : (c : List Todo) × (IsAt nodes k c × Comes (relation_of p b) c) → (c : List Todo) × (IsAt nodes t.to c × Reach p b (relation_of p b) o c f)
      further before =
          let s = stepped k i t before.0 before.1.0 at in
          let same : births_of_step p b s.step.action s.step.edge s.step.pos ≡ births_of_step p b t.action t.edge t.pos = (λ j. births_of_step p b (s.action j) (s.edge j) (s.pos j)) in
          (s.step.to, (s.target, born i n (control_move s.step) before.1.1 s.at (ap (λ xs. slice_get xs n) same ∙ is)))
  node_reach o _ f2 (flowed {k} {f} i t h at is) = further (node_reach o k f h)
    where
      further : (c : List Todo) × (IsAt nodes k c × Reach p b (relation_of p b) o c f) → (c : List Todo) × (IsAt nodes t.to c × Reach p b (relation_of p b) o c f2)
      further before =
          let s = stepped k i t before.0 before.1.0 at in
          let same : flow p b o s.step.action s.step.edge f ≡ flow p b o t.action t.edge f = (λ j. flow p b o (s.action j) (s.edge j) f) in
          (s.step.to, (s.target, flowed i (control_move s.step) before.1.1 s.at (same ∙ is)))

  -- a rule that a path through the graph breaks is broken by a path of controls
  pub node_faulty : (o : Origin) (rule : Rule) (at : Pos) (names : Names) → Faulty p b (relation_in rows) o rule at names → Faulty p b (relation_of p b) o rule at names
  node_faulty o rule at names x =
      let before = node_reach o x.control x.fact x.reached in
      let s = stepped x.control x.index x.move before.0 before.1.0 x.step in
      record {
        control = before.0;
        fact = x.fact;
        reached = before.1.1;
        index = x.index;
        move = control_move s.step;
        step = s.at;
        breaks = (λ j. flow p b o (s.action j) (s.edge j) x.fact) ∙ x.breaks;
        place = s.pos ∙ x.place;
      }

  -- the move between nodes of a step
  record Moved (k i : ℕ) (t : Move (List Todo)) : Type 0 where
    arc : Arc
    at : IsAt (map move_of (arcs_at rows k)) i (move_of arc)
    action : arc.action ≡ t.action
    edge : arc.edge ≡ t.edge
    pos : arc.pos ≡ t.pos
    target : IsAt nodes arc.to t.to

  moved : (k i : ℕ) (t : Move (List Todo)) (c : List Todo) → IsAt nodes k c → slice_get (map control_move (next_of p b c)) i ≡ Some t → Moved k i t
  moved k i t c here at =
      let step = map_at control_move (next_of p b c) i t at in
      let one = arc_of_step p b nodes rows g k i c step.0 here step.1.0 in
      record {
        arc = one.0;
        at = at_map move_of (arcs_at rows k) i one.0 one.1.0;
        action = one.1.1.action ∙ ap (λ (m : Move (List Todo)). m.action) step.1.1;
        edge = one.1.1.edge ∙ ap (λ (m : Move (List Todo)). m.edge) step.1.1;
        pos = one.1.1.pos ∙ ap (λ (m : Move (List Todo)). m.pos) step.1.1;
        target = one.1.1.target ∙ ap (λ (m : Move (List Todo)). Some m.to) step.1.1;
      }

  control_comes : (c : List Todo) → Comes (relation_of p b) c → (k : ℕ) × (IsAt nodes k c × Comes (relation_in rows) k)
  control_comes _ start = (0, (g.starts, start))
  control_comes _ (on {k} i t h at) = further (control_comes k h)
    where
      further : (n : ℕ) × (IsAt nodes n k × Comes (relation_in rows) n) → (n : ℕ) × (IsAt nodes n t.to × Comes (relation_in rows) n)
      further before =
          let m = moved before.0 i t k before.1.0 at in
          (m.arc.to, (m.target, on i (move_of m.arc) before.1.1 m.at))

  -- what a path of controls reaches, a path through the graph reaches
  pub control_reach : (o : Origin) (c : List Todo) (f : Fact) → Reach p b (relation_of p b) o c f → (k : ℕ) × (IsAt nodes k c × Reach p b (relation_in rows) o k f)
  control_reach o _ f (entered n is) = (0, (g.starts, entered n is))
  control_reach o _ f (born {k} i n t h at is) = further (control_comes k h)
    where
      further : (m : ℕ) × (IsAt nodes m k × Comes (relation_in rows) m) → (m : ℕ) × (IsAt nodes m t.to × Reach p b (relation_in rows) o m f)
      further before =
          let m = moved before.0 i t k before.1.0 at in
          let same : births_of_step p b m.arc.action m.arc.edge m.arc.pos ≡ births_of_step p b t.action t.edge t.pos = (λ j. births_of_step p b (m.action j) (m.edge j) (m.pos j)) in
          (m.arc.to, (m.target, born i n (move_of m.arc) before.1.1 m.at (ap (λ xs. slice_get xs n) same ∙ is)))
  control_reach o _ f2 (flowed {k} {f} i t h at is) = further (control_reach o k f h)
    where
      further : (m : ℕ) × (IsAt nodes m k × Reach p b (relation_in rows) o m f) → (m : ℕ) × (IsAt nodes m t.to × Reach p b (relation_in rows) o m f2)
      further before =
          let m = moved before.0 i t k before.1.0 at in
          let same : flow p b o m.arc.action m.arc.edge f ≡ flow p b o t.action t.edge f = (λ j. flow p b o (m.action j) (m.edge j) f) in
          (m.arc.to, (m.target, flowed i (move_of m.arc) before.1.1 m.at (same ∙ is)))

  -- a rule that a path of controls breaks is broken by a path through the graph
  pub control_faulty : (o : Origin) (rule : Rule) (at : Pos) (names : Names) → Faulty p b (relation_of p b) o rule at names → Faulty p b (relation_in rows) o rule at names
  control_faulty o rule at names x =
      let before = control_reach o x.control x.fact x.reached in
      let m = moved before.0 x.index x.move x.control before.1.0 x.step in
      record {
        control = before.0;
        fact = x.fact;
        reached = before.1.1;
        index = x.index;
        move = move_of m.arc;
        step = m.at;
        breaks = (λ j. flow p b o (m.action j) (m.edge j) x.fact) ∙ x.breaks;
        place = m.pos ∙ x.place;
      }
