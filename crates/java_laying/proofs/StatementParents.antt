-- Each node of laid statements but the roots is a part of one, which stands behind it.
use Rattle.std.proofs.Common.{◌≡◌, ◌<◌, ◌≤◌, ◌+◌, ◌++◌, ◌∷◌, [], ℕ, suc, List, All, map, length, flat_map, ap, sym, ◌∙◌, subst, arith, refl}
use Rattle.std.specs.List.{range_with_len}
use Rattle.std.proofs.lemmas.List.{append-nil, map-append}
use Rattle.std.proofs.lemmas.List.Elements.{All-append, All-cons, All-nil, All-weaker}
use Rattle.std.proofs.lemmas.Grind.{flat_map-append}
use Rattle.program_model.specs.declared.kinds.ExprId.{ExprId}
use Rattle.program_model.specs.declared.kinds.StmtId.{StmtId}
use Rattle.java_typed_trees.specs.StatementTrees.{StmtTree, StmtTrees, Statement, no_statement, and_statement}
use Rattle.java_laying.specs.Cells.{Cell}
use Rattle.java_laying.specs.Flat.{flats, roots, sizes}
use Rattle.java_laying.specs.Forest.{FollowParts, part_numbers, times}
use Rattle.java_laying.specs.StatementCells.{StatementCell}
use Rattle.java_laying.specs.StatementFlat.{expression_count, expression_counts, flat_expressions, flat_statement, flat_statements, flats_expressions, statement_root, statement_roots, statement_size, statement_sizes}
use Rattle.java_laying.specs.StatementForest.{ExpressionsBelow, ExpressionsHaveOneParent, FollowInner, StatementsHaveOneParent, expression_numbers, inner_numbers}
use Rattle.java_laying.proofs.Forests.{length_flats}
use Rattle.java_laying.proofs.StatementForests.{length_flat_statement, length_flat_statements, length_flat_expressions}
use Rattle.java_laying.proofs.Parents.{follow_append, follow_flats, numbers_of, one_parents, part_numbers_append, range_joined, roots_below, sum_of_two, sum_with_root, times_append}

abbrev pub statement_ids : List StmtId → List ℕ
statement_ids ids = map (λ s. s.0) ids

expression_numbers_append : (xs ys : List StatementCell) → expression_numbers (xs ++ ys) ≡ expression_numbers xs ++ expression_numbers ys
expression_numbers_append xs ys = ap (λ (es : List ExprId). map (λ e. e.0) es) (flat_map-append (λ (c : StatementCell). c.expressions) xs ys) ∙ map-append (λ (e : ExprId). e.0) (flat_map (λ (c : StatementCell). c.expressions) xs) (flat_map (λ (c : StatementCell). c.expressions) ys)

inner_numbers_append : (xs ys : List StatementCell) → inner_numbers (xs ++ ys) ≡ inner_numbers xs ++ inner_numbers ys
inner_numbers_append xs ys = ap statement_ids (flat_map-append (λ (c : StatementCell). c.statements) xs ys) ∙ map-append (λ (s : StmtId). s.0) (flat_map (λ (c : StatementCell). c.statements) xs) (flat_map (λ (c : StatementCell). c.statements) ys)

expressions_of_node : (c : StatementCell) → expression_numbers (c ∷ []) ≡ numbers_of c.expressions
expressions_of_node c = ap numbers_of (append-nil c.expressions)

inner_of_node : (c : StatementCell) → inner_numbers (c ∷ []) ≡ statement_ids c.statements
inner_of_node c = ap statement_ids (append-nil c.statements)

-- the expressions of a statement stand before those of the statements in it
sum_behind : (x y a b r s p q z : ℕ) → x ≡ b + r → y ≡ a + s → a + r ≡ p → b + s ≡ q → z ≡ p + q → x + y ≡ z
sum_behind x y a b r s p q z e1 e2 e3 e4 e5 = omega arith

mutual
  expressions_have_one_parent : (m n : ℕ) (t : StmtTree) (k : ℕ) → times k (expression_numbers (flat_statement m n t)) + times k (part_numbers (flat_expressions n t)) ≡ times k (range_with_len n (expression_count t))
  expressions_have_one_parent m n (Statement f p es ss) k =
      let c : StatementCell = record { form = f; pos = p; expressions = roots n es; statements = statement_roots m ss } in
      let j : ℕ = n + sizes es in
      let inner : List StatementCell = flat_statements m j ss in
      sum_behind _ _ _ _ _ _ _ _ _
      (ap (times k) (expression_numbers_append inner (c ∷ []) ∙ ap (λ (xs : List ℕ). expression_numbers inner ++ xs) (expressions_of_node c)) ∙ times_append k (expression_numbers inner) (numbers_of (roots n es)))
      (ap (times k) (part_numbers_append (flats n es) (flats_expressions j ss)) ∙ times_append k (part_numbers (flats n es)) (part_numbers (flats_expressions j ss)))
      (one_parents n es k)
      (expressions_have_one_parents m j ss k)
      (ap (times k) (range_joined n (sizes es) (expression_counts ss)) ∙ times_append k (range_with_len n (sizes es)) (range_with_len j (expression_counts ss)))

  pub expressions_have_one_parents : (m n : ℕ) (ts : StmtTrees) (k : ℕ) → times k (expression_numbers (flat_statements m n ts)) + times k (part_numbers (flats_expressions n ts)) ≡ times k (range_with_len n (expression_counts ts))
  expressions_have_one_parents m n no_statement k = refl
  expressions_have_one_parents m n (and_statement t ts) k =
      let j : ℕ = n + expression_count t in
      let behind : List StatementCell = flat_statements (m + statement_size t) j ts in
      let beyond : List Cell = flats_expressions j ts in
      sum_of_two _ _ _ _ _ _ _ _ _
      (ap (times k) (expression_numbers_append (flat_statement m n t) behind) ∙ times_append k (expression_numbers (flat_statement m n t)) (expression_numbers behind))
      (ap (times k) (part_numbers_append (flat_expressions n t) beyond) ∙ times_append k (part_numbers (flat_expressions n t)) (part_numbers beyond))
      (expressions_have_one_parent m n t k)
      (expressions_have_one_parents (m + statement_size t) j ts k)
      (ap (times k) (range_joined n (expression_count t) (expression_counts ts)) ∙ times_append k (range_with_len n (expression_count t)) (range_with_len j (expression_counts ts)))

pub each_expression_has_one_parent : (m n : ℕ) (t : StmtTree) → ExpressionsHaveOneParent m n t
each_expression_has_one_parent m n t k = times_append k (expression_numbers (flat_statement m n t)) (part_numbers (flat_expressions n t)) ∙ expressions_have_one_parent m n t k

mutual
  pub statements_have_one_parent : (m n : ℕ) (t : StmtTree) → StatementsHaveOneParent m n t
  statements_have_one_parent m n (Statement f p es ss) k =
      let c : StatementCell = record { form = f; pos = p; expressions = roots n es; statements = statement_roots m ss } in
      let inner : List StatementCell = flat_statements m (n + sizes es) ss in
      let above : List ℕ = (m + statement_sizes ss) ∷ [] in
      sum_with_root _ _ _ _ _ _ _
      (times_append k (inner_numbers (inner ++ c ∷ [])) above)
      (ap (times k) (inner_numbers_append inner (c ∷ []) ∙ ap (λ (xs : List ℕ). inner_numbers inner ++ xs) (inner_of_node c)) ∙ times_append k (inner_numbers inner) (statement_ids (statement_roots m ss)))
      (statements_have_one_parents m (n + sizes es) ss k)
      (ap (times k) (range_joined m (statement_sizes ss) 1) ∙ times_append k (range_with_len m (statement_sizes ss)) above)

  pub statements_have_one_parents : (m n : ℕ) (ts : StmtTrees) (k : ℕ) → times k (inner_numbers (flat_statements m n ts)) + times k (statement_ids (statement_roots m ts)) ≡ times k (range_with_len m (statement_sizes ts))
  statements_have_one_parents m n no_statement k = refl
  statements_have_one_parents m n (and_statement t ts) k =
      let i : ℕ = m + statement_size t in
      let behind : List StatementCell = flat_statements i (n + expression_count t) ts in
      sum_of_two _ _ _ _ _ _ _ _ _
      (ap (times k) (inner_numbers_append (flat_statement m n t) behind) ∙ times_append k (inner_numbers (flat_statement m n t)) (inner_numbers behind))
      (times_append k ((statement_root m t).0 ∷ []) (statement_ids (statement_roots i ts)))
      (sym (times_append k (inner_numbers (flat_statement m n t)) ((statement_root m t).0 ∷ [])) ∙ statements_have_one_parent m n t k)
      (statements_have_one_parents i (n + expression_count t) ts k)
      (ap (times k) (range_joined m (statement_size t) (statement_sizes ts)) ∙ times_append k (range_with_len m (statement_size t)) (range_with_len i (statement_sizes ts)))

follow_inner_append : (m : ℕ) (xs ys : List StatementCell) → FollowInner m xs → FollowInner (m + length xs) ys → FollowInner m (xs ++ ys)
follow_inner_append m [] ys h g = let e : m + 0 ≡ m = omega arith in subst (λ k. FollowInner k ys) e g
follow_inner_append m (c ∷ xs) ys h g = let e : m + suc (length xs) ≡ m + 1 + length xs = omega arith in (h.0, follow_inner_append (m + 1) xs ys h.1 (subst (λ k. FollowInner k ys) e g))

statement_root_below : (m : ℕ) (t : StmtTree) (k : ℕ) → (statement_root m t).0 < m + (statement_size t + k)
statement_root_below m (Statement f p es ss) k = omega arith

pub statement_roots_below : (m : ℕ) (ts : StmtTrees) → All (λ s. s.0 < m + statement_sizes ts) (statement_roots m ts)
statement_roots_below m no_statement = All-nil (λ (x : StmtId). x.0 < m + 0)
statement_roots_below m (and_statement t ts) =
    let e : m + statement_size t + statement_sizes ts ≡ m + (statement_size t + statement_sizes ts) = omega arith in
    All-cons (λ (x : StmtId). x.0 < m + (statement_size t + statement_sizes ts)) (statement_root m t) (statement_roots (m + statement_size t) ts) (statement_root_below m t (statement_sizes ts)) (subst (λ k. All (λ (x : StmtId). x.0 < k) (statement_roots (m + statement_size t) ts)) e (statement_roots_below (m + statement_size t) ts))

mutual
  follow_inner : (m n : ℕ) (t : StmtTree) → FollowInner m (flat_statement m n t)
  follow_inner m n (Statement f p es ss) = follow_inner_append m (flat_statements m (n + sizes es) ss) _ (follow_inners m (n + sizes es) ss) (subst (λ k. All (λ (x : StmtId). x.0 < k) (statement_roots m ss)) (ap (λ k. m + k) (sym (length_flat_statements m (n + sizes es) ss))) (statement_roots_below m ss), tt)

  pub follow_inners : (m n : ℕ) (ts : StmtTrees) → FollowInner m (flat_statements m n ts)
  follow_inners m n no_statement = tt
  follow_inners m n (and_statement t ts) =
      let i : ℕ = m + statement_size t in
      let j : ℕ = n + expression_count t in
      follow_inner_append m (flat_statement m n t) (flat_statements i j ts) (follow_inner m n t) (subst (λ k. FollowInner k (flat_statements i j ts)) (ap (λ k. m + k) (sym (length_flat_statement m n t))) (follow_inners i j ts))

mutual
  follow_parts : (n : ℕ) (t : StmtTree) → FollowParts n (flat_expressions n t)
  follow_parts n (Statement f p es ss) = follow_append n (flats n es) (flats_expressions (n + sizes es) ss) (follow_flats n es) (subst (λ k. FollowParts k (flats_expressions (n + sizes es) ss)) (ap (λ k. n + k) (sym (length_flats n es))) (follow_all_parts (n + sizes es) ss))

  pub follow_all_parts : (n : ℕ) (ts : StmtTrees) → FollowParts n (flats_expressions n ts)
  follow_all_parts n no_statement = tt
  follow_all_parts n (and_statement t ts) =
      let j : ℕ = n + expression_count t in
      follow_append n (flat_expressions n t) (flats_expressions j ts) (follow_parts n t) (subst (λ k. FollowParts k (flats_expressions j ts)) (ap (λ k. n + k) (sym (length_flat_expressions n t))) (follow_all_parts j ts))

below_more : (a b : ℕ) (es : List ExprId) → a ≤ b → All (λ e. e.0 < a) es → All (λ e. e.0 < b) es
below_more a b es h all = All-weaker (λ (e : ExprId). e.0 < a) (λ (e : ExprId). e.0 < b) (λ e less. omega arith) es all

mutual
  below_of : (m n bound : ℕ) (t : StmtTree) → n + expression_count t ≤ bound → ExpressionsBelow bound (flat_statement m n t)
  below_of m n bound (Statement f p es ss) h =
      let c : StatementCell = record { form = f; pos = p; expressions = roots n es; statements = statement_roots m ss } in
      let inner : n + sizes es + expression_counts ss ≤ bound = omega arith in
      let own : n + sizes es ≤ bound = omega arith in
      All-append (λ (x : StatementCell). All (λ e. e.0 < bound) x.expressions) (flat_statements m (n + sizes es) ss) (c ∷ []) (below_of_all m (n + sizes es) bound ss inner)
      (All-cons (λ (x : StatementCell). All (λ e. e.0 < bound) x.expressions) c [] (below_more (n + sizes es) bound (roots n es) own (roots_below n es)) (All-nil (λ (x : StatementCell). All (λ e. e.0 < bound) x.expressions)))

  pub below_of_all : (m n bound : ℕ) (ts : StmtTrees) → n + expression_counts ts ≤ bound → ExpressionsBelow bound (flat_statements m n ts)
  below_of_all m n bound no_statement h = All-nil (λ (x : StatementCell). All (λ e. e.0 < bound) x.expressions)
  below_of_all m n bound (and_statement t ts) h =
      let first : n + expression_count t ≤ bound = omega arith in
      let more : n + expression_count t + expression_counts ts ≤ bound = omega arith in
      All-append (λ (x : StatementCell). All (λ e. e.0 < bound) x.expressions) (flat_statement m n t) (flat_statements (m + statement_size t) (n + expression_count t) ts) (below_of m n bound t first) (below_of_all (m + statement_size t) (n + expression_count t) bound ts more)
