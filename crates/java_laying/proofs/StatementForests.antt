-- What is laid stands in the tables as the statement that it was.
use Rattle.std.proofs.Common.{◌≡◌, ◌+◌, ◌++◌, ◌∷◌, ℕ, List, length, refl, ap, ◌∙◌, subst}
use Rattle.std.proofs.lemmas.List.{length-append}
use Rattle.java_typed_trees.specs.StatementTrees.{StmtTree, StmtTrees, Statement, no_statement, and_statement}
use Rattle.java_laying.specs.Cells.{Cell}
use Rattle.java_laying.specs.Flat.{flats, roots, sizes}
use Rattle.java_laying.specs.Forest.{StandAt}
use Rattle.java_laying.specs.StatementCells.{StatementCell}
use Rattle.java_laying.specs.StatementFlat.{expression_count, expression_counts, flat_expressions, flat_statement, flat_statements, flats_expressions, statement_root, statement_roots, statement_size, statement_sizes}
use Rattle.java_laying.specs.StatementForest.{StatementStandsAt, StatementsStandAt}
use Rattle.java_laying.proofs.Forests.{length_flats, laid_stand}
use Rattle.java_laying.proofs.Joins.{get_node, inside, first_inside, more_inside}

mutual
  pub length_flat_statement : (m n : ℕ) (t : StmtTree) → length (flat_statement m n t) ≡ statement_size t
  length_flat_statement m n (Statement f p es ss) = length-append (flat_statements m (n + sizes es) ss) _ ∙ ap (λ k. k + 1) (length_flat_statements m (n + sizes es) ss)

  pub length_flat_statements : (m n : ℕ) (ts : StmtTrees) → length (flat_statements m n ts) ≡ statement_sizes ts
  length_flat_statements m n no_statement = refl
  length_flat_statements m n (and_statement t ts) =
      let behind : List StatementCell = flat_statements (m + statement_size t) (n + expression_count t) ts in
      length-append (flat_statement m n t) behind ∙ ap (λ k. k + length behind) (length_flat_statement m n t) ∙ ap (λ k. statement_size t + k) (length_flat_statements (m + statement_size t) (n + expression_count t) ts)

mutual
  pub length_flat_expressions : (n : ℕ) (t : StmtTree) → length (flat_expressions n t) ≡ expression_count t
  length_flat_expressions n (Statement f p es ss) =
      let behind : List Cell = flats_expressions (n + sizes es) ss in
      length-append (flats n es) behind ∙ ap (λ k. k + length behind) (length_flats n es) ∙ ap (λ k. sizes es + k) (length_flats_expressions (n + sizes es) ss)

  pub length_flats_expressions : (n : ℕ) (ts : StmtTrees) → length (flats_expressions n ts) ≡ expression_counts ts
  length_flats_expressions n no_statement = refl
  length_flats_expressions n (and_statement t ts) =
      let behind : List Cell = flats_expressions (n + expression_count t) ts in
      length-append (flat_expressions n t) behind ∙ ap (λ k. k + length behind) (length_flat_expressions n t) ∙ ap (λ k. expression_count t + k) (length_flats_expressions (n + expression_count t) ts)

longer : {X : Type 0} (before xs : List X) (n m : ℕ) → length before ≡ n → length xs ≡ m → length (before ++ xs) ≡ n + m
longer before xs n m e d = length-append before xs ∙ ap (λ k. k + length xs) e ∙ ap (λ k. n + k) d

mutual
  -- a laid statement stands at its root, whatever is laid behind it
  pub laid_statement_stands : (m n : ℕ) (own own' : List StatementCell) (values values' : List Cell) (t : StmtTree) → length own ≡ m → length values ≡ n → StatementStandsAt (own ++ flat_statement m n t ++ own') (values ++ flat_expressions n t ++ values') (statement_root m t) t
  laid_statement_stands m n own own' values values' (Statement f p es ss) e d =
      let c : StatementCell = record { form = f; pos = p; expressions = roots n es; statements = statement_roots m ss } in
      let k : ℕ = n + sizes es in (
        roots n es,
        statement_roots m ss,
        get_node own (flat_statements m k ss) own' c m (statement_sizes ss) e (length_flat_statements m k ss),
        subst (λ (cells : List Cell). StandAt cells (roots n es) es) (first_inside values (flats n es) (flats_expressions k ss) values') (laid_stand n values (flats_expressions k ss ++ values') es d),
        subst (λ (cells : List StatementCell). StatementsStandAt cells (values ++ (flats n es ++ flats_expressions k ss) ++ values') (statement_roots m ss) ss) (inside own (flat_statements m k ss) own' c)
            (subst (λ (cells : List Cell). StatementsStandAt (own ++ flat_statements m k ss ++ c ∷ own') cells (statement_roots m ss) ss) (more_inside values (flats n es) (flats_expressions k ss) values')
            (laid_statements_stand m k own (c ∷ own') (values ++ flats n es) values' ss e (longer values (flats n es) n (sizes es) d (length_flats n es)))),
      )

  pub laid_statements_stand : (m n : ℕ) (own own' : List StatementCell) (values values' : List Cell) (ts : StmtTrees) → length own ≡ m → length values ≡ n → StatementsStandAt (own ++ flat_statements m n ts ++ own') (values ++ flats_expressions n ts ++ values') (statement_roots m ts) ts
  laid_statements_stand m n own own' values values' no_statement e d = refl
  laid_statements_stand m n own own' values values' (and_statement t ts) e d =
      let k : ℕ = m + statement_size t in
      let j : ℕ = n + expression_count t in
      let behind : List StatementCell = flat_statements k j ts in
      let beyond : List Cell = flats_expressions j ts in (
        statement_root m t,
        statement_roots k ts,
        refl,
        subst (λ (cells : List StatementCell). StatementStandsAt cells (values ++ (flat_expressions n t ++ beyond) ++ values') (statement_root m t) t) (first_inside own (flat_statement m n t) behind own')
            (subst (λ (cells : List Cell). StatementStandsAt (own ++ flat_statement m n t ++ (behind ++ own')) cells (statement_root m t) t) (first_inside values (flat_expressions n t) beyond values')
            (laid_statement_stands m n own (behind ++ own') values (beyond ++ values') t e d)),
        subst (λ (cells : List StatementCell). StatementsStandAt cells (values ++ (flat_expressions n t ++ beyond) ++ values') (statement_roots k ts) ts) (more_inside own (flat_statement m n t) behind own')
            (subst (λ (cells : List Cell). StatementsStandAt ((own ++ flat_statement m n t) ++ behind ++ own') cells (statement_roots k ts) ts) (more_inside values (flat_expressions n t) beyond values')
            (laid_statements_stand k j (own ++ flat_statement m n t) own' (values ++ flat_expressions n t) values' ts (longer own (flat_statement m n t) m (statement_size t) e (length_flat_statement m n t)) (longer values (flat_expressions n t) n (expression_count t) d (length_flat_expressions n t)))),
      )
