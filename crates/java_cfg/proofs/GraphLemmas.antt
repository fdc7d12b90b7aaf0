-- Lemmas on the graph as it grows by one row of arcs after another.
use Rattle.std.proofs.Common.{◌≡◌, ◌∙◌, sym, ap, refl, subst, arith, ℕ, ◌+◌, ◌≤◌, zero, suc, Some, None, List, [], ◌∷◌, ◌++◌, map, length, append_assoc, append-nil, inl, inr}
use Rattle.std.specs.Prelude.{slice_get, flat_map}
use Rattle.std.specs.List.{AllZip, Contains}
use Rattle.std.proofs.lemmas.Bool.{cases_lt}
use Rattle.std.proofs.lemmas.List.Elements.{All-map, All-weaker, All-contains}
use Rattle.std.proofs.lemmas.Option.{slice_get_within}
use Rattle.program_model.specs.declared.kinds.BodyId.{BodyId}
use Rattle.program_model.specs.declared.program.Program.{Program}
use Rattle.control_actions.specs.declared.cell.Cell.{Cell}
use Rattle.control_actions.specs.declared.triple.Triple.{Triple}
use Rattle.java_control.specs.Changes.{step_in}
use Rattle.java_control.specs.Control.{Step, next_of, start_of}
use Rattle.java_control.specs.Remaining.{Todo}
use Rattle.java_cfg.specs.declared.arc.Arc.{Arc}
use Rattle.java_cfg.specs.Graphs.{IsArcOf, IsGraphOf, IsReachable, numbers_in, targets_of}
use Rattle.java_cfg.specs.Limits.{ReachesMore}
use Rattle.java_cfg.specs.Order.{InOrder, counted}
use Rattle.java_cfg.specs.Reach.{AreOnce}
use Rattle.java_cfg.specs.Tables.{Grows, IsLinked, control_at, controls, ends_of}
use Rattle.java_cfg.proofs.ListLemmas.{contains, contains_map, get_append, get_back, get_map, map_append, map_get, map_map, once_length, stands, zip_places, zip_weaker}
use Rattle.java_cfg.proofs.OrderLemmas.{counted_append, in_order_append}
use Rattle.java_cfg.proofs.ReachLemmas.{IsExplored, explored_all, explored_start, explored_step}

-- the nodes and the rows are the graph of a body as far as there are rows
pub record IsGraphUpTo (p : Program) (b : BodyId) (nodes : List (List Todo)) (rows : List (List Arc)) : Type 0 where
  pub explored : IsExplored (targets_of p b) (start_of p b) nodes (length rows)
  pub arcs : (k : ℕ) (control : List Todo) (row : List Arc) → slice_get nodes k ≡ Some control → slice_get rows k ≡ Some row → AllZip (IsArcOf nodes) row (next_of p b control)
  pub order : InOrder 1 (flat_map numbers_in rows)
  pub count : length nodes ≡ counted 1 (flat_map numbers_in rows)

-- at first the start alone is known
pub graph_start : (p : Program) (b : BodyId) → IsGraphUpTo p b (start_of p b ∷ []) []
graph_start p b = record {
  explored = explored_start (targets_of p b) (start_of p b);
  arcs = λ k control row at none. absurd (let never : None ≡ Some row = none in cc);
  order = tt;
  count = refl;
}

arc_kept : (nodes more new : List (List Todo)) → more ≡ nodes ++ new → (a : Arc) (s : Step) → IsArcOf nodes a s → IsArcOf more a s
arc_kept nodes more new is a s h = record {
  action = h.action;
  edge = h.edge;
  target = ap (λ xs. slice_get xs a.to) is ∙ get_append nodes new a.to s.to h.target;
  pos = h.pos;
}

-- what is left after a step is a node where each step has an arc
covered : (nodes : List (List Todo)) (row : List Arc) (steps : List Step) → AllZip (IsArcOf nodes) row steps → (c : List Todo) → Contains (map (λ (s : Step). s.to) steps) c → Contains nodes c
covered nodes row steps arcs c h =
    let at = stands (map (λ (s : Step). s.to) steps) c h in
    let step = map_get (λ (s : Step). s.to) steps at.0 c at.1 in
    let arc = zip_places (IsArcOf nodes) row steps at.0 step.0 arcs step.1.0 in
    contains nodes arc.0.to c (arc.1.1.target ∙ ap Some step.1.1)

numbers_append : (rows : List (List Arc)) (row : List Arc) → flat_map numbers_in (rows ++ row ∷ []) ≡ flat_map numbers_in rows ++ numbers_in row
numbers_append [] row = append-nil (numbers_in row)
numbers_append (x ∷ rows) row = ap (λ ns. numbers_in x ++ ns) (numbers_append rows row) ∙ sym (append_assoc (numbers_in x) (flat_map numbers_in rows) (numbers_in row))

last_row : (rows : List (List Arc)) (row other : List Arc) (k : ℕ) → length rows ≤ k → slice_get (rows ++ row ∷ []) k ≡ Some other → (k ≡ length rows) × (row ≡ other)
last_row [] row other zero h at = (refl, cc)
last_row [] row other (suc k) h at = absurd (let never : None ≡ Some other = at in cc)
last_row (x ∷ rows) row other zero h at = absurd (omega arith)
last_row (x ∷ rows) row other (suc k) h at = let rest = last_row rows row other k (omega arith) at in (ap suc rest.0, rest.1)

arcs_step : (p : Program) (b : BodyId) (nodes more new : List (List Todo)) (rows : List (List Arc)) (row : List Arc) (control : List Todo)
    → ((k : ℕ) (c : List Todo) (r : List Arc) → slice_get nodes k ≡ Some c → slice_get rows k ≡ Some r → AllZip (IsArcOf nodes) r (next_of p b c))
    → more ≡ nodes ++ new → slice_get nodes (length rows) ≡ Some control → AllZip (IsArcOf more) row (next_of p b control)
    → (k : ℕ) (c : List Todo) (r : List Arc) → slice_get more k ≡ Some c → slice_get (rows ++ row ∷ []) k ≡ Some r → AllZip (IsArcOf more) r (next_of p b c)
arcs_step p b nodes more new rows row control before is at arcs k c r here there =
    let inside = slice_get_within nodes (length rows) control at in
    let old : k ≤ length rows → slice_get nodes k ≡ Some c = (λ small. get_back nodes new k c (omega (arith, inside, small)) (sym (ap (λ xs. slice_get xs k) is) ∙ here)) in
    elim (cases_lt k (length rows)) [
      | inl below ↦ zip_weaker (IsArcOf nodes) (IsArcOf more) (arc_kept nodes more new is) r (next_of p b c) (before k c r (old (omega arith)) (get_back rows (row ∷ []) k r below there))
      | inr above ↦
          let last = last_row rows row r k above there in
          let equal : Some control ≡ Some c = sym at ∙ ap (slice_get nodes) (sym last.0) ∙ old (omega (arith, last.0)) in
          let same : control ≡ c = cc in
          subst (λ (x : List Todo). AllZip (IsArcOf more) r (next_of p b x)) same (subst (λ (x : List Arc). AllZip (IsArcOf more) x (next_of p b control)) last.1 arcs)
    ]

length_push : {X : Type 0} (xs : List X) (x : X) → length (xs ++ x ∷ []) ≡ length xs + 1
length_push [] x = refl
length_push (y ∷ xs) x = ap suc (length_push xs x) ∙ (omega arith)

-- one row more
pub graph_step : (p : Program) (b : BodyId) (nodes more : List (List Todo)) (rows : List (List Arc)) (row : List Arc) (control : List Todo)
    → IsGraphUpTo p b nodes rows → slice_get nodes (length rows) ≡ Some control → Grows nodes more (targets_of p b control) → AllZip (IsArcOf more) row (next_of p b control)
    → InOrder (length nodes) (numbers_in row) → length more ≡ counted (length nodes) (numbers_in row) → IsGraphUpTo p b more (rows ++ row ∷ [])
graph_step p b nodes more rows row control h at grows arcs order count =
    let together = numbers_append rows row in
    record {
      explored = subst (IsExplored (targets_of p b) (start_of p b) more) (sym (length_push rows row))
          (explored_step (targets_of p b) (start_of p b) control nodes more (length rows) h.explored at grows (covered more row (next_of p b control) arcs));
      arcs = arcs_step p b nodes more grows.new rows row control h.arcs grows.is at arcs;
      order = subst (InOrder 1) (sym together) (in_order_append 1 (flat_map numbers_in rows) (numbers_in row) h.order (subst (λ (n : ℕ). InOrder n (numbers_in row)) h.count order));
      count = count ∙ ap (λ n. counted n (numbers_in row)) h.count ∙ sym (counted_append 1 (flat_map numbers_in rows) (numbers_in row)) ∙ sym (ap (counted 1) together);
    }

-- with a row for each node it is the graph
pub graph_done : (p : Program) (b : BodyId) (nodes : List (List Todo)) (rows : List (List Arc)) → IsGraphUpTo p b nodes rows → AreOnce nodes → length rows ≡ length nodes → IsGraphOf p b nodes rows
graph_done p b nodes rows h once long = record {
  starts = h.explored.starts;
  reached = explored_all (targets_of p b) (start_of p b) nodes (subst (IsExplored (targets_of p b) (start_of p b) nodes) long h.explored);
  once = once;
  rows_long = long;
  arcs = h.arcs;
  breadth_first = h.order;
}

-- a graph of so many nodes has no more reachable controls
pub graph_small : (p : Program) (b : BodyId) (nodes : List (List Todo)) (rows : List (List Arc)) (n : ℕ) → IsGraphOf p b nodes rows → length nodes ≤ n → ReachesMore p b n → ⊥
graph_small p b nodes rows n h few more =
    let least = once_length more.controls nodes more.once
    (λ k c at. stands nodes c (h.reached.all c (All-contains (IsReachable p b) more.controls c more.reached (contains more.controls k c at)))) in
    let big = more.more in
    omega (arith, least, big)

-- the same growth, of what the values mean
pub grows_map : {X Y : Type 0} (f : X → Y) (old more xs : List X) → Grows old more xs → Grows (map f old) (map f more) (map f xs)
grows_map f old more xs h = record {
  new = map f h.new;
  is = ap (map f) h.is ∙ map_append f old h.new;
  only = All-map (Contains (map f xs)) f h.new (All-weaker (Contains xs) (λ x. Contains (map f xs) (f x)) (contains_map f xs) h.new h.only);
}

-- what is left after steps over a table
pub ends_targets : (p : Program) (b : BodyId) (cells : List Cell) (triples : List Triple) (control : List Todo) → map (step_in cells) triples ≡ next_of p b control → controls cells (ends_of triples) ≡ targets_of p b control
ends_targets p b cells triples control is =
    map_map (control_at cells) (λ (t : Triple). t.to) triples
    ∙ sym (map_map (λ (s : Step). s.to) (step_in cells) triples)
    ∙ ap (map (λ (s : Step). s.to)) is

-- arcs of steps over a table
pub linked_arcs : (cells : List Cell) (numbers : List ℕ) (row : List Arc) (triples : List Triple) → AllZip (IsLinked numbers) row triples → AllZip (IsArcOf (controls cells numbers)) row (map (step_in cells) triples)
linked_arcs cells numbers [] [] h = tt
linked_arcs cells numbers [] (t ∷ triples) h = absurd h
linked_arcs cells numbers (a ∷ row) [] h = absurd h
linked_arcs cells numbers (a ∷ row) (t ∷ triples) h =
    let one = h.0 in
    (record { action = one.action; edge = one.edge; target = get_map (control_at cells) numbers a.to t.to one.target; pos = one.pos }, linked_arcs cells numbers row triples h.1)
