-- The nodes of the graph of a body, and the controls that they stand for.
use Rattle.std.proofs.Common.{◌≡◌, ◌∙◌, sym, ap, refl, subst, arith, ℕ, ◌<◌, zero, suc, Option, Some, None, List, [], ◌∷◌, length}
use Rattle.std.specs.Prelude.{slice_get}
use Rattle.std.specs.List.{All, AllZip, Contains}
use Rattle.std.proofs.lemmas.Option.{get_or_from_slice_get, slice_get-get_or}
use Rattle.program_model.specs.declared.kinds.BodyId.{BodyId}
use Rattle.program_model.specs.declared.program.Program.{Program}
use Rattle.breadth_first.specs.Searches.{IsAt}
use Rattle.breadth_first.proofs.ListLaws.{at_map, at_place, at_within, map_at}
use Rattle.java_control.specs.Control.{Step, next_of, start_of}
use Rattle.java_control.specs.Remaining.{Todo}
use Rattle.java_cfg.specs.Graphs.{IsArcOf, IsGraphOf, targets_of}
use Rattle.java_cfg.specs.Reach.{IsReached, IsWalk}
use Rattle.java_cfg.specs.declared.arc.Arc.{Arc}
use Rattle.body_origins.specs.Paths.{Comes, start, on}
use Rattle.body_origins.specs.Nodes.{AreNodes, arcs_at, move_of, relation_in, row_in}

contains_at : {X : Type 0} (xs : List X) (x : X) → Contains xs x → (k : ℕ) × IsAt xs k x
contains_at xs x h = (h.0, slice_get-get_or xs h.0 x h.1 ∙ ap Some h.2)

all_at : {X : Type 0} (P : X → Type 0) (xs : List X) (k : ℕ) (x : X) → All P xs → IsAt xs k x → P x
all_at P xs k x h here = subst P (get_or_from_slice_get xs k x x here) (h k x (at_within xs k x here))

zip_first : {A B : Type 0} (R : A → B → Type 0) (xs : List A) (ys : List B) (i : ℕ) (x : A) → AllZip R xs ys → IsAt xs i x → (y : B) × (IsAt ys i y × R x y)
zip_first R [] ys i x h here = absurd (let never : None ≡ Some x = here in cc)
zip_first R (z ∷ xs) [] i x h here = absurd h
zip_first R (z ∷ xs) (y ∷ ys) zero x h here = let same : z ≡ x = cc in (y, (refl, subst (λ w. R w y) same h.0))
zip_first R (z ∷ xs) (y ∷ ys) (suc i) x h here = zip_first R xs ys i x h.1 here

zip_second : {A B : Type 0} (R : A → B → Type 0) (xs : List A) (ys : List B) (i : ℕ) (y : B) → AllZip R xs ys → IsAt ys i y → (x : A) × (IsAt xs i x × R x y)
zip_second R xs [] i y h here = absurd (let never : None ≡ Some y = here in cc)
zip_second R [] (z ∷ ys) i y h here = absurd h
zip_second R (x ∷ xs) (z ∷ ys) zero y h here = let same : z ≡ y = cc in (x, (refl, subst (λ w. R x w) same h.0))
zip_second R (x ∷ xs) (z ∷ ys) (suc i) y h here = zip_second R xs ys i y h.1 here

module _ (p : Program) (b : BodyId) (nodes : List (List Todo)) (rows : List (List Arc)) (g : IsGraphOf p b nodes rows) where
  row_of : (k : ℕ) (c : List Todo) → IsAt nodes k c → (row : List Arc) × IsAt rows k row
  row_of k c here = at_place rows k (let inside = at_within nodes k c here in let long = g.rows_long in omega (arith, inside, long))

  -- the step of an arc
  pub step_of_arc : (k i : ℕ) (c : List Todo) (a : Arc) → IsAt nodes k c → IsAt (arcs_at rows k) i a → (s : Step) × (IsAt (next_of p b c) i s × IsArcOf nodes a s)
  step_of_arc k i c a here arc =
      let row = row_of k c here in
      zip_first (IsArcOf nodes) row.0 (next_of p b c) i a (g.arcs k c row.0 here row.1) (ap (λ (r : Option (List Arc)). slice_get (row_in r) i) (sym row.1) ∙ arc)

  -- the arc of a step
  pub arc_of_step : (k i : ℕ) (c : List Todo) (s : Step) → IsAt nodes k c → IsAt (next_of p b c) i s → (a : Arc) × (IsAt (arcs_at rows k) i a × IsArcOf nodes a s)
  arc_of_step k i c s here step =
      let row = row_of k c here in
      let one = zip_second (IsArcOf nodes) row.0 (next_of p b c) i s (g.arcs k c row.0 here row.1) step in
      (one.0, (ap (λ (r : Option (List Arc)). slice_get (row_in r) i) row.1 ∙ one.1.0, one.1.1))

  walk_node : (n k : ℕ) (c : List Todo) → IsAt nodes k c → IsWalk (targets_of p b) (start_of p b) c n → Comes (relation_in rows) k
  walk_node zero k c here walk = (
      let first : 0 ≡ k = g.once 0 k c (g.starts ∙ ap Some walk) here in
      subst (Comes (relation_in rows)) first start)
  walk_node (suc n) k c here (before, (walk, leads)) =
      let held = contains_at nodes before (g.reached.all before (n, walk)) in
      let target = contains_at (targets_of p b before) c leads in
      let step = map_at (λ (s : Step). s.to) (next_of p b before) target.0 c target.1 in
      let arc = arc_of_step held.0 target.0 before step.0 held.1 step.1.0 in
      let place : arc.0.to ≡ k = g.once arc.0.to k c (arc.1.1.target ∙ ap Some step.1.1) here in
      subst (Comes (relation_in rows)) place (on target.0 (move_of arc.0) (walk_node n held.0 before held.1 walk) (at_map move_of (arcs_at rows held.0) target.0 arc.0 arc.1.0))

  linked : (k : ℕ) (r : Option (List Arc)) (i : ℕ) (a : Arc) → slice_get rows k ≡ r → IsAt (row_in r) i a → a.to < length rows
  linked k None i a is here = absurd (let never : None ≡ Some a = here in cc)
  linked k (Some row) i a is here =
      let long = g.rows_long in
      let inside = at_within rows k row is in
      let control = at_place nodes k (omega (arith, long, inside)) in
      let step = zip_first (IsArcOf nodes) row (next_of p b control.0) i a (g.arcs k control.0 row control.1 is) here in
      let target = at_within nodes a.to step.0.to step.1.1.target in
      omega (arith, target, long)

  -- the rows of a graph are nodes that its start reaches, linked by arcs
  pub graph_nodes : AreNodes rows
  graph_nodes = record {
    starts = (let inside = at_within nodes 0 (start_of p b) g.starts in let long = g.rows_long in omega (arith, inside, long));
    reached = λ k inside. (
        let long = g.rows_long in
        let control = at_place nodes k (omega (arith, long, inside)) in
        let walk = all_at (IsReached (targets_of p b) (start_of p b)) nodes k control.0 g.reached.only control.1 in
        walk_node walk.0 k control.0 control.1 walk.1);
    linked = λ k i a here. linked k (slice_get rows k) i a refl here;
  }
