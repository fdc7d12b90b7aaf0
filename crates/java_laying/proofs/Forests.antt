-- What is laid stands in the table as the tree that it was.
use Rattle.std.proofs.Common.{◌≡◌, ◌+◌, ◌++◌, ◌∷◌, ℕ, List, length, refl, ap, ◌∙◌, subst}
use Rattle.std.proofs.lemmas.List.{length-append}
use Rattle.java_typed_trees.specs.ExpressionTrees.{ExprTree, ExprTrees, Node, no_expression, and_expression}
use Rattle.java_laying.specs.Cells.{Cell}
use Rattle.java_laying.specs.Flat.{flat, flats, root, roots, size, sizes}
use Rattle.java_laying.specs.Forest.{StandsAt, StandAt}
use Rattle.java_laying.proofs.Joins.{get_node, inside, first_inside, more_inside}

mutual
  pub length_flat : (n : ℕ) (t : ExprTree) → length (flat n t) ≡ size t
  length_flat n (Node s v p ts) = length-append (flats n ts) _ ∙ ap (λ m. m + 1) (length_flats n ts)

  pub length_flats : (n : ℕ) (ts : ExprTrees) → length (flats n ts) ≡ sizes ts
  length_flats n no_expression = refl
  length_flats n (and_expression t ts) = length-append (flat n t) (flats (n + size t) ts) ∙ ap (λ m. m + length (flats (n + size t) ts)) (length_flat n t) ∙ ap (λ m. size t + m) (length_flats (n + size t) ts)

mutual
  -- a laid tree stands at its root, whatever is laid behind it
  pub laid_stands : (n : ℕ) (before after : List Cell) (t : ExprTree) → length before ≡ n → StandsAt (before ++ flat n t ++ after) (root n t) t
  laid_stands n before after (Node s v p ts) e =
      let c : Cell = record { shape = s; vtype = v; pos = p; parts = roots n ts } in
      (roots n ts, get_node before (flats n ts) after c n (sizes ts) e (length_flats n ts), subst (λ (cells : List Cell). StandAt cells (roots n ts) ts) (inside before (flats n ts) after c) (laid_stand n before (c ∷ after) ts e))

  pub laid_stand : (n : ℕ) (before after : List Cell) (ts : ExprTrees) → length before ≡ n → StandAt (before ++ flats n ts ++ after) (roots n ts) ts
  laid_stand n before after no_expression e = refl
  laid_stand n before after (and_expression t ts) e =
      let long : length (before ++ flat n t) ≡ n + size t = length-append before (flat n t) ∙ ap (λ m. m + length (flat n t)) e ∙ ap (λ m. n + m) (length_flat n t) in (
        root n t,
        roots (n + size t) ts,
        refl,
        subst (λ (cells : List Cell). StandsAt cells (root n t) t) (first_inside before (flat n t) (flats (n + size t) ts) after) (laid_stands n before (flats (n + size t) ts ++ after) t e),
        subst (λ (cells : List Cell). StandAt cells (roots (n + size t) ts) ts) (more_inside before (flat n t) (flats (n + size t) ts) after) (laid_stand (n + size t) (before ++ flat n t) after ts long),
      )
