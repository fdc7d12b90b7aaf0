-- Sets of places have room for what the steps of a body name that has not too many places.
use Rattle.std.proofs.Common.{◌≡◌, sym, ap, refl, subst, arith, ℕ, suc, Some, None, List, Option}
use Rattle.std.specs.Prelude.{slice_get}
use Rattle.std.proofs.lemmas.List.Elements.{All-contains}
use Rattle.std.specs.List.{Contains}
use Rattle.program_model.specs.declared.kinds.BodyId.{BodyId}
use Rattle.program_model.specs.declared.program.Program.{Program}
use Rattle.breadth_first.specs.Searches.{IsAt}
use Rattle.breadth_first.proofs.ListLaws.{at_map, at_place, at_within, map_at}
use Rattle.java_control.specs.Control.{Step, next_of}
use Rattle.java_control.specs.Remaining.{Todo}
use Rattle.java_cfg.specs.SmallActions.{IsSmallAction}
use Rattle.java_cfg.specs.declared.arc.Arc.{Arc}
use Rattle.java_cfg.specs.Graphs.{IsArcOf, IsGraphOf, IsReachable, targets_of}
use Rattle.java_cfg.specs.Limits.{HasTooManyPlaces, steps}
use Rattle.java_cfg.specs.SmallTests.{is_small_action}
use Rattle.java_cfg.proofs.ListLemmas.{contains, zip_places_left}
use Rattle.java_cfg.proofs.SmallLemmas.{Decides-action}
use Rattle.must_call_types.specs.WellFormed.{HasSmallInterests}
use Rattle.graph_relation.specs.Paths.{Comes, FitsPlaces, Move, on, relation_of, start}
use Rattle.graph_relation.specs.Paths.{move_of as control_move}
use Rattle.graph_relation.specs.Nodes.{FitsRows, row_in}
use Rattle.graph_limits.specs.ListedFields.{HasListedFields}
use Rattle.graph_limits.proofs.BirthCounts.{few_at_entry, few_by_step}
use Rattle.graph_limits.proofs.Counting.{stable}
use Rattle.graph_limits.proofs.FieldRooms.{has_room}

-- a control that paths come to is reachable
comes_reachable : (p : Program) (b : BodyId) (c : List Todo) → Comes (relation_of p b) c → IsReachable p b c
comes_reachable p b _ start = (0, refl)
comes_reachable p b _ (on {k} i t h at) =
    let before = comes_reachable p b k h in
    let step = map_at control_move (next_of p b k) i t at in
    let target = contains (targets_of p b k) i step.0.to (at_map (λ (s : Step). s.to) (next_of p b k) i step.0 step.1.0) in
    (suc before.0, (k, (before.1, subst (Contains (targets_of p b k)) (ap (λ (m : Move (List Todo)). m.to) step.1.1) target)))

-- each action of a reachable control is small
step_small : (p : Program) (b : BodyId) (c : List Todo) (i : ℕ) (s : Step) → (HasTooManyPlaces p b → ⊥) → IsReachable p b c → IsAt (next_of p b c) i s → IsSmallAction p s.action
step_small p b c i s fit reached at =
    stable (is_small_action p s.action) (Decides-action p s.action) (λ large. fit (steps c s reached (contains (next_of p b c) i s at) large))

pub fits_places : (p : Program) (b : BodyId) → HasListedFields p → (HasTooManyPlaces p b → ⊥) → FitsPlaces p b (relation_of p b)
fits_places p b listed fit = record {
  room = has_room p b listed fit;
  steps = λ {k} i t h at. (
      let step = map_at control_move (next_of p b k) i t at in
      subst (IsSmallAction p) (ap (λ (m : Move (List Todo)). m.action) step.1.1) (step_small p b k i step.0 fit (comes_reachable p b k h) step.1.0));
}

module _ (p : Program) (b : BodyId) (nodes : List (List Todo)) (rows : List (List Arc)) (g : IsGraphOf p b nodes rows) (fit : HasTooManyPlaces p b → ⊥) where
  arc_in : (k : ℕ) (row : Option (List Arc)) (i : ℕ) (a : Arc) → slice_get rows k ≡ row → IsAt (row_in row) i a → IsSmallAction p a.action
  arc_in k None i a is at = absurd (let never : None ≡ Some a = at in cc)
  arc_in k (Some row) i a is at =
      let long = g.rows_long in
      let inside = at_within rows k row is in
      let control = at_place nodes k (omega (arith, long, inside)) in
      let step = zip_places_left (IsArcOf nodes) row (next_of p b control.0) i a (g.arcs k control.0 row control.1 is) at in
      let reached = All-contains (IsReachable p b) nodes control.0 g.reached.only (contains nodes k control.0 control.1) in
      subst (IsSmallAction p) (sym step.1.1.action) (step_small p b control.0 i step.0 fit reached step.1.0)

  pub fits_rows : HasListedFields p → HasSmallInterests p → FitsRows p b rows
  fits_rows listed interests = record {
    room = has_room p b listed fit;
    interests = interests;
    small = λ k i a at. arc_in k (slice_get rows k) i a refl at;
    few_at_entry = few_at_entry p b fit;
    few = λ k i a at. few_by_step p b a.action a.edge a.pos fit;
  }
