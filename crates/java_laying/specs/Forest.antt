-- Which tree stands at a number of a table, and that each expression of a laid tree has one parent and stands before it.
use Rattle.std.specs.Prelude.{◌≡◌, ◌<◌, ◌+◌, ℕ, Some, List, [], ◌∷◌, ◌++◌, All, count_by, flat_map, map, nat_eq, slice_get}
use Rattle.std.specs.List.{range_with_len}
use Rattle.program_model.specs.declared.kinds.ExprId.{ExprId}
use Rattle.java_typed_trees.specs.ExpressionTrees.{ExprTree, ExprTrees, Node, no_expression, and_expression}
use Rattle.java_laying.specs.Cells.{Cell}
use Rattle.java_laying.specs.Flat.{flat, root, size}

abbrev mutual
  -- the tree stands at the number: a cell with its shape, type and place, at whose parts its parts stand
  pub StandsAt : List Cell → ExprId → ExprTree → Type 0
  StandsAt cells e (Node s t place parts) = (ids : List ExprId) × (slice_get cells e.0 ≡ Some record { shape = s; vtype = t; pos = place; parts = ids }) × StandAt cells ids parts

  pub StandAt : List Cell → List ExprId → ExprTrees → Type 0
  StandAt cells ids no_expression = ids ≡ []
  StandAt cells ids (and_expression t ts) = (first : ExprId) × (more : List ExprId) × (ids ≡ first ∷ more) × StandsAt cells first t × StandAt cells more ts

-- the numbers that stand as parts
abbrev pub part_numbers : List Cell → List ℕ
part_numbers cells = map (λ e. e.0) (flat_map (λ c. c.parts) cells)

-- how often the number stands in the list
abbrev pub times : ℕ → List ℕ → ℕ
times k numbers = count_by (λ j. nat_eq j k) numbers

-- the same numbers, each as often
abbrev pub HaveSameNumbers : List ℕ → List ℕ → Type 0
HaveSameNumbers xs ys = (k : ℕ) → times k xs ≡ times k ys

-- of the expressions of the tree, each but the root is a part of one, and the root of none
abbrev pub HaveOneParent : ℕ → ExprTree → Type 0
HaveOneParent n t = HaveSameNumbers (part_numbers (flat n t) ++ (root n t).0 ∷ []) (range_with_len n (size t))

-- the parts of each cell stand before it, where the first cell has the number `n`
abbrev pub FollowParts : ℕ → List Cell → Type 0
FollowParts n [] = Unit {0}
FollowParts n (c ∷ cells) = All (λ e. e.0 < n) c.parts × FollowParts (n + 1) cells
