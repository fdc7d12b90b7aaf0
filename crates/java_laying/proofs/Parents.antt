-- Each expression of a laid tree but the root is a part of one expression, which stands behind it.
use Rattle.std.proofs.Common.{◌≡◌, ◌<◌, ◌+◌, ◌++◌, ◌∷◌, [], ℕ, zero, suc, List, All, map, length, flat_map, ap, sym, ◌∙◌, subst, arith, refl}
use Rattle.std.specs.List.{range_with_len}
use Rattle.std.proofs.lemmas.List.{append-nil, map-append}
use Rattle.std.proofs.lemmas.List.Elements.{All-cons, All-nil}
use Rattle.std.proofs.lemmas.Grind.{common_steps, flat_map-append}
use Rattle.program_model.specs.declared.kinds.ExprId.{ExprId}
use Rattle.java_typed_trees.specs.ExpressionTrees.{ExprTree, ExprTrees, Node, no_expression, and_expression}
use Rattle.java_laying.specs.Cells.{Cell}
use Rattle.java_laying.specs.Flat.{flat, flats, root, roots, size, sizes}
use Rattle.java_laying.specs.Forest.{FollowParts, HaveOneParent, part_numbers, times}
use Rattle.java_laying.proofs.Forests.{length_flat, length_flats}

pub times_append : (k : ℕ) (xs ys : List ℕ) → times k (xs ++ ys) ≡ times k xs + times k ys
times_append k [] ys = omega arith
times_append k (x ∷ xs) ys = grind (arith, common_steps, times_append k xs ys)

pub part_numbers_append : (xs ys : List Cell) → part_numbers (xs ++ ys) ≡ part_numbers xs ++ part_numbers ys
part_numbers_append xs ys = ap (λ (es : List ExprId). map (λ e. e.0) es) (flat_map-append (λ (c : Cell). c.parts) xs ys) ∙ map-append (λ (e : ExprId). e.0) (flat_map (λ (c : Cell). c.parts) xs) (flat_map (λ (c : Cell). c.parts) ys)

pub range_joined : (a m n : ℕ) → range_with_len a (m + n) ≡ range_with_len a m ++ range_with_len (a + m) n
range_joined a zero n =
    let first : 0 + n ≡ n = omega arith in
    let second : a ≡ a + 0 = omega arith in
    ap (range_with_len a) first ∙ ap (λ b. range_with_len b n) second
range_joined a (suc m) n =
    let first : suc m + n ≡ suc (m + n) = omega arith in
    let second : a + 1 + m ≡ a + suc m = omega arith in
    ap (range_with_len a) first ∙ ap (λ xs. a ∷ xs) (range_joined (a + 1) m n) ∙ ap (λ b. a ∷ range_with_len (a + 1) m ++ range_with_len b n) second

abbrev pub numbers_of : List ExprId → List ℕ
numbers_of es = map (λ e. e.0) es

parts_of_node : (c : Cell) → part_numbers (c ∷ []) ≡ numbers_of c.parts
parts_of_node c = ap numbers_of (append-nil c.parts)

pub sum_of_two : (x y a b r s p q z : ℕ) → x ≡ a + b → y ≡ r + s → a + r ≡ p → b + s ≡ q → z ≡ p + q → x + y ≡ z
sum_of_two x y a b r s p q z e1 e2 e3 e4 e5 = omega arith

pub sum_with_root : (x f g h r p z : ℕ) → x ≡ f + r → f ≡ g + h → g + h ≡ p → z ≡ p + r → x ≡ z
sum_with_root x f g h r p z e1 e2 e3 e4 = omega arith

mutual
  pub one_parent : (n : ℕ) (t : ExprTree) → HaveOneParent n t
  one_parent n (Node s v p ts) k =
      let c : Cell = record { shape = s; vtype = v; pos = p; parts = roots n ts } in
      let above : List ℕ = (n + sizes ts) ∷ [] in
      let shown : part_numbers (flats n ts ++ c ∷ []) ≡ part_numbers (flats n ts) ++ numbers_of (roots n ts) = part_numbers_append (flats n ts) (c ∷ []) ∙ ap (λ (xs : List ℕ). part_numbers (flats n ts) ++ xs) (parts_of_node c) in
      sum_with_root _ _ _ _ _ _ _
      (times_append k (part_numbers (flats n ts ++ c ∷ [])) above)
      (ap (times k) shown ∙ times_append k (part_numbers (flats n ts)) (numbers_of (roots n ts)))
      (one_parents n ts k)
      (ap (times k) (range_joined n (sizes ts) 1) ∙ times_append k (range_with_len n (sizes ts)) above)

  pub one_parents : (n : ℕ) (ts : ExprTrees) (k : ℕ) → times k (part_numbers (flats n ts)) + times k (numbers_of (roots n ts)) ≡ times k (range_with_len n (sizes ts))
  one_parents n no_expression k = refl
  one_parents n (and_expression t ts) k =
      let behind : List Cell = flats (n + size t) ts in
      sum_of_two _ _ _ _ _ _ _ _ _
      (ap (times k) (part_numbers_append (flat n t) behind) ∙ times_append k (part_numbers (flat n t)) (part_numbers behind))
      (times_append k ((root n t).0 ∷ []) (numbers_of (roots (n + size t) ts)))
      (sym (times_append k (part_numbers (flat n t)) ((root n t).0 ∷ [])) ∙ one_parent n t k)
      (one_parents (n + size t) ts k)
      (ap (times k) (range_joined n (size t) (sizes ts)) ∙ times_append k (range_with_len n (size t)) (range_with_len (n + size t) (sizes ts)))

pub follow_append : (n : ℕ) (xs ys : List Cell) → FollowParts n xs → FollowParts (n + length xs) ys → FollowParts n (xs ++ ys)
follow_append n [] ys h g = let e : n + 0 ≡ n = omega arith in subst (λ m. FollowParts m ys) e g
follow_append n (c ∷ xs) ys h g = let e : n + suc (length xs) ≡ n + 1 + length xs = omega arith in (h.0, follow_append (n + 1) xs ys h.1 (subst (λ m. FollowParts m ys) e g))

root_below : (n : ℕ) (t : ExprTree) (m : ℕ) → (root n t).0 < n + (size t + m)
root_below n (Node s v p ts) m = omega arith

pub roots_below : (n : ℕ) (ts : ExprTrees) → All (λ e. e.0 < n + sizes ts) (roots n ts)
roots_below n no_expression = All-nil (λ (x : ExprId). x.0 < n + 0)
roots_below n (and_expression t ts) =
    let e : n + size t + sizes ts ≡ n + (size t + sizes ts) = omega arith in
    All-cons (λ (x : ExprId). x.0 < n + (size t + sizes ts)) (root n t) (roots (n + size t) ts) (root_below n t (sizes ts)) (subst (λ m. All (λ (x : ExprId). x.0 < m) (roots (n + size t) ts)) e (roots_below (n + size t) ts))

mutual
  pub follow_flat : (n : ℕ) (t : ExprTree) → FollowParts n (flat n t)
  follow_flat n (Node s v p ts) = follow_append n (flats n ts) _ (follow_flats n ts) (subst (λ m. All (λ (x : ExprId). x.0 < m) (roots n ts)) (ap (λ m. n + m) (sym (length_flats n ts))) (roots_below n ts), tt)

  pub follow_flats : (n : ℕ) (ts : ExprTrees) → FollowParts n (flats n ts)
  follow_flats n no_expression = tt
  follow_flats n (and_expression t ts) = follow_append n (flat n t) (flats (n + size t) ts) (follow_flat n t) (subst (λ m. FollowParts m (flats (n + size t) ts)) (ap (λ m. n + m) (sym (length_flat n t))) (follow_flats (n + size t) ts))
