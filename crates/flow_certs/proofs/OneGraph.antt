-- A body has one graph: its nodes are numbered in the order in which they are first reached.
use Rattle.std.proofs.Common.{◌≡◌, ◌∙◌, sym, ap, refl, subst, arith, ℕ, ◌+◌, ◌<◌, ◌≤◌, max, zero, suc, inl, inr, Some, None, List, [], ◌∷◌, ◌++◌, length, drop}
use Rattle.std.specs.Prelude.{flat_map, slice_get}
use Rattle.std.specs.List.{AllZip}
use Rattle.std.proofs.lemmas.Bool.{cases_lt}
use Rattle.program_model.specs.declared.kinds.BodyId.{BodyId}
use Rattle.program_model.specs.declared.program.Program.{Program}
use Rattle.breadth_first.specs.Searches.{IsAt}
use Rattle.breadth_first.proofs.ListLaws.{at_place, at_within, map_at}
use Rattle.control_actions.specs.Remaining.{Todo}
use Rattle.java_control.specs.Control.{Step, next_of}
use Rattle.java_cfg.specs.Graphs.{IsArcOf, IsGraphOf, numbers_in}
use Rattle.java_cfg.specs.Order.{InOrder, counted}
use Rattle.java_cfg.specs.Reach.{AreOnce}
use Rattle.java_cfg.specs.declared.arc.Arc.{Arc}
use Rattle.body_origins.specs.Nodes.{AreNodes, arcs_at, move_of, relation_in, row_in}
use Rattle.body_origins.specs.Paths.{Comes, Move, start, on}
use Rattle.graph_relation.proofs.NodeLaws.{graph_nodes}
use Rattle.flow_certs.proofs.ListPlaces.{drop_at, drop_next, drop_none}

-- ---- numbers in order

counted_more : (c : ℕ) (xs : List ℕ) → c ≤ counted c xs
counted_more c [] = omega arith
counted_more c (x ∷ xs) = let rest = counted_more (max c (x + 1)) xs in omega (arith, rest)

counted_each : (c : ℕ) (xs : List ℕ) (i x : ℕ) → IsAt xs i x → x < counted c xs
counted_each c [] i x here = absurd (let never : None ≡ Some x = here in cc)
counted_each c (y ∷ xs) zero x here =
    let same : y ≡ x = cc in
    let rest = counted_more (max c (y + 1)) xs in
    omega (arith, same, rest)
counted_each c (y ∷ xs) (suc i) x here = counted_each (max c (y + 1)) xs i x here

in_order_first : (c : ℕ) (xs ys : List ℕ) → InOrder c (xs ++ ys) → InOrder c xs
in_order_first c [] ys h = tt
in_order_first c (x ∷ xs) ys h = (h.0, in_order_first (max c (x + 1)) xs ys h.1)

in_order_rest : (c : ℕ) (xs ys : List ℕ) → InOrder c (xs ++ ys) → InOrder (counted c xs) ys
in_order_rest c [] ys h = h
in_order_rest c (x ∷ xs) ys h = in_order_rest (max c (x + 1)) xs ys h.1

-- ---- what is reached stays among the first nodes where their arcs lead there

stays : (rows : List (List Arc)) (n : ℕ) → 0 < n → ((k i : ℕ) (a : Arc) → k < n → IsAt (arcs_at rows k) i a → a.to < n) → (k : ℕ) → Comes (relation_in rows) k → k < n
stays rows n some closed _ start = some
stays rows n some closed _ (on {k} i t before at) =
    let arc = map_at move_of (arcs_at rows k) i t at in
    let inside = closed k i arc.0 (stays rows n some closed k before) arc.1.0 in
    subst (λ (m : ℕ). m < n) (ap (λ (m : Move ℕ). m.to) arc.1.1) inside

-- ---- two graphs

same_arc : (x y : Arc) → x.action ≡ y.action → x.edge ≡ y.edge → x.to ≡ y.to → x.pos ≡ y.pos → x ≡ y
same_arc x y action edge to pos = λ i. record { action = action i; edge = edge i; to = to i; pos = pos i }

module _ (ns ms : List (List Todo)) (once_first : AreOnce ns) (once_second : AreOnce ms) where
  -- the first nodes are the same
  abbrev Agree : ℕ → Type 0
  Agree c = (k : ℕ) → k < c → slice_get ns k ≡ slice_get ms k

  same_target : (c : ℕ) (s : Step) (x y : Arc) → IsArcOf ns x s → IsArcOf ms y s → x.to ≤ c → y.to ≤ c → Agree c → x.to ≡ y.to
  same_target c s x y one two first second agree = elim (cases_lt x.to c) [
    | inl below ↦ once_second x.to y.to s.to (sym (agree x.to below) ∙ one.target) two.target
    | inr past ↦ elim (cases_lt y.to c) [
      | inl low ↦ once_first x.to y.to s.to one.target (agree y.to low ∙ two.target)
      | inr high ↦ omega (arith, past, high, first, second)
    ]
  ]

  agree_more : (c : ℕ) (s : Step) (x y : Arc) → IsArcOf ns x s → IsArcOf ms y s → x.to ≤ c → x.to ≡ y.to → Agree c → Agree (max c (x.to + 1))
  agree_more c s x y one two first same agree k inside = elim (cases_lt k c) [
    | inl below ↦ agree k below
    | inr past ↦ (
        let here : x.to ≡ k = omega (arith, past, first, inside) in
        subst (λ (n : ℕ). slice_get ns n ≡ slice_get ms n) here (one.target ∙ sym (subst (λ (n : ℕ). slice_get ms n ≡ Some s.to) (sym same) two.target)))
  ]

  record SameRow (c : ℕ) (xs ys : List Arc) : Type 0 where
    row : xs ≡ ys
    agree : Agree (counted c (numbers_in xs))

  row_same : (c : ℕ) (steps : List Step) (xs ys : List Arc) → AllZip (IsArcOf ns) xs steps → AllZip (IsArcOf ms) ys steps → InOrder c (numbers_in xs) → InOrder c (numbers_in ys) → Agree c → SameRow c xs ys
  row_same c [] [] [] one two first second agree = record { row = refl; agree = agree }
  row_same c [] (x ∷ xs) ys one two first second agree = absurd one
  row_same c [] [] (y ∷ ys) one two first second agree = absurd two
  row_same c (s ∷ steps) [] ys one two first second agree = absurd one
  row_same c (s ∷ steps) (x ∷ xs) [] one two first second agree = absurd two
  row_same c (s ∷ steps) (x ∷ xs) (y ∷ ys) one two first second agree =
      let to = same_target c s x y one.0 two.0 first.0 second.0 agree in
      let arc = same_arc x y (one.0.action ∙ sym two.0.action) (one.0.edge ∙ sym two.0.edge) to (one.0.pos ∙ sym two.0.pos) in
      let rest =
      row_same (max c (x.to + 1)) steps xs ys one.1 two.1 first.1 (subst (λ (n : ℕ). InOrder (max c (n + 1)) (numbers_in ys)) (sym to) second.1)
      (agree_more c s x y one.0 two.0 first.0 to agree) in
      record { row = (λ i. arc i ∷ rest.row i); agree = rest.agree }

module _ (p : Program) (b : BodyId) (ns ms : List (List Todo)) (rs ss : List (List Arc)) (g : IsGraphOf p b ns rs) (h : IsGraphOf p b ms ss) where
  nodes_first : AreNodes rs
  nodes_first = graph_nodes p b ns rs g

  nodes_second : AreNodes ss
  nodes_second = graph_nodes p b ms ss h

  -- the first rows are the same, and lead to the first nodes, which are the same
  record IsSoFar (r c : ℕ) : Type 0 where
    some : 0 < c
    agree : Agree ns ms g.once h.once c
    rows : (k : ℕ) → k < r → slice_get rs k ≡ slice_get ss k
    leads : (k i : ℕ) (a : Arc) → k < r → IsAt (arcs_at rs k) i a → a.to < c

  -- where all rows of the first graph are seen, the second has no more
  no_more : (r c : ℕ) → IsSoFar r c → length rs ≤ r → r < length ss → ⊥
  no_more r c so_far all more =
      let most = length rs in
      let starts = nodes_first.starts in
      let first : most < length ss = omega (arith, all, more) in
      let inside =
      stays ss most starts
      (λ k i a low at. nodes_first.linked k i a (subst (λ row. IsAt (row_in row) i a) (sym (so_far.rows k (omega (arith, low, all)))) at))
      most (nodes_second.reached most first) in
      omega (arith, inside)

  no_fewer : (r c : ℕ) → IsSoFar r c → length ss ≤ r → r < length rs → ⊥
  no_fewer r c so_far all more =
      let most = length ss in
      let starts = nodes_second.starts in
      let first : most < length rs = omega (arith, all, more) in
      let inside =
      stays rs most starts
      (λ k i a low at. nodes_second.linked k i a (subst (λ row. IsAt (row_in row) i a) (so_far.rows k (omega (arith, low, all))) at))
      most (nodes_first.reached most first) in
      omega (arith, inside)

  -- a node of which the row comes next is one of the first
  seen : (r c : ℕ) → IsSoFar r c → r < length rs → r < c
  seen r c so_far more = elim (cases_lt r c) [
    | inl below ↦ below
    | inr past ↦ stays rs c so_far.some (λ k i a low at. so_far.leads k i a (omega (arith, low, past)) at) r (nodes_first.reached r more)
  ]

  next_row : (r c : ℕ) (row : List Arc) (rest : List (List Arc)) (other : List Arc) (others : List (List Arc)) → IsSoFar r c → IsAt rs r row → IsAt ss r other
      → InOrder c (numbers_in row) → InOrder c (numbers_in other) → (row ≡ other) × IsSoFar (suc r) (counted c (numbers_in row))
  next_row r c row rest other others so_far here there first second =
      let more = at_within rs r row here in
      let long = g.rows_long in
      let control = at_place ns r (omega (arith, more, long)) in
      let same = sym (so_far.agree r (seen r c so_far more)) ∙ control.1 in
      let one =
      row_same ns ms g.once h.once c (next_of p b control.0) row other (g.arcs r control.0 row control.1 here) (h.arcs r control.0 other same there) first second so_far.agree in
      let grows = counted_more c (numbers_in row) in (
        one.row,
        record {
          some = (let some = so_far.some in omega (arith, some, grows));
          agree = one.agree;
          rows = λ k low. elim (cases_lt k r) [
            | inl below ↦ so_far.rows k below
            | inr past ↦ (
                let last : r ≡ k = omega (arith, low, past) in
                subst (λ (n : ℕ). slice_get rs n ≡ slice_get ss n) last (here ∙ ap Some one.row ∙ sym there))
          ];
          leads = λ k i a low at. elim (cases_lt k r) [
            | inl below ↦ (let inside = so_far.leads k i a below at in omega (arith, inside, grows))
            | inr past ↦ (
                let last : k ≡ r = omega (arith, low, past) in
                let in_row : IsAt row i a = subst (λ r2. IsAt (row_in r2) i a) (ap (slice_get rs) last ∙ here) at in
                counted_each c (numbers_in row) i a.to (number_at row i a in_row))
          ];
        },
      )
    where
      number_at : (row : List Arc) (i : ℕ) (a : Arc) → IsAt row i a → IsAt (numbers_in row) i a.to
      number_at [] i a at = absurd (let never : None ≡ Some a = at in cc)
      number_at (x ∷ row) zero a at = let same : x ≡ a = cc in ap (λ (z : Arc). Some z.to) same
      number_at (x ∷ row) (suc i) a at = number_at row i a at

  rows_from : (r c : ℕ) (xs ys : List (List Arc)) → xs ≡ drop r rs → ys ≡ drop r ss → InOrder c (flat_map numbers_in xs) → InOrder c (flat_map numbers_in ys) → IsSoFar r c → xs ≡ ys
  rows_from r c [] [] left right first second so_far = refl
  rows_from r c [] (other ∷ others) left right first second so_far =
      absurd (no_more r c so_far (drop_none r rs left) (at_within ss r other (drop_at r ss other others right)))
  rows_from r c (row ∷ rest) [] left right first second so_far =
      absurd (no_fewer r c so_far (drop_none r ss right) (at_within rs r row (drop_at r rs row rest left)))
  rows_from r c (row ∷ rest) (other ∷ others) left right first second so_far =
      let here = drop_at r rs row rest left in
      let there = drop_at r ss other others right in
      let one =
      next_row r c row rest other others so_far here there (in_order_first c (numbers_in row) (flat_map numbers_in rest) first)
      (in_order_first c (numbers_in other) (flat_map numbers_in others) second) in
      let more =
      rows_from (suc r) (counted c (numbers_in row)) rest others (drop_next r rs row rest left) (drop_next r ss other others right) (in_order_rest c (numbers_in row) (flat_map numbers_in rest) first)
      (subst (λ (zs : List Arc). InOrder (counted c (numbers_in zs)) (flat_map numbers_in others)) (sym one.0) (in_order_rest c (numbers_in other) (flat_map numbers_in others) second)) one.1 in
      λ i. one.0 i ∷ more i

  -- the rows of arcs are the same
  pub one_graph : rs ≡ ss
  one_graph = rows_from 0 1 rs ss refl refl g.breadth_first h.breadth_first (record {
    some = omega arith;
    agree = λ k low. (
        let first : 0 ≡ k = omega (arith, low) in
        subst (λ (n : ℕ). slice_get ns n ≡ slice_get ms n) first (g.starts ∙ sym h.starts));
    rows = λ k low. absurd (omega (arith, low));
    leads = λ k i a low at. absurd (omega (arith, low));
  })
