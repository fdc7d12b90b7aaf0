-- A tree in memory as a node over the trees of its list of parts.
use Rattle.std.proofs.Common.{◌≡◌, rules, refl, ℕ, ◌+◌, ◌++◌, ◌∷◌, [], List, map, length, ap, sym, ◌∙◌, subst, arith}
use Rattle.std.proofs.lemmas.List.{append_assoc, map-append}
use Rattle.program_model.specs.declared.kinds.ExprId.{ExprId}
use Rattle.program_model.specs.declared.tree.TExpr.{TExpr}
use Rattle.program_model.specs.declared.tree.ExpressionKind.{ExpressionKind}
use Rattle.program_model.specs.Trees.{operands}
use Rattle.java_typed_trees.specs.declared.trees.ExpressionTree as expr
use Rattle.java_typed_trees.specs.declared.trees.ExpressionTree.{ExpressionTree, out-ExpressionTree, the_lemmas}
use Rattle.java_typed_trees.specs.ExpressionTrees.{ExprTrees, Node, no_expression, and_expression, expressions, tree_of}
use Rattle.java_typed_trees.specs.WellFormed.{AreWellFormed, IsWellFormed, Takes, count}
use Rattle.java_typed_trees.proofs.Parts.{parts_are_items}
use Rattle.java_laying.specs.Cells.{Cell, cell_of, cells_of, shape_of}
use Rattle.java_laying.specs.Flat.{flat, flats, root, roots, size, sizes}

abbrev pub parts_of : ExpressionTree → ExprTrees
parts_of t = expressions (map tree_of (out-ExpressionTree t).parts.items)

pub tree_is_node : (t : ExpressionTree) → tree_of t ≡ Node (out-ExpressionTree t).shape (out-ExpressionTree t).vtype (out-ExpressionTree t).pos (parts_of t)
tree_is_node (expr.ExpressionTree' s v p shape all) = search (rules, the_lemmas, parts_are_items)

pub parts_well_formed : (t : ExpressionTree) → IsWellFormed (tree_of t) → AreWellFormed (parts_of t)
parts_well_formed t h = (subst IsWellFormed (tree_is_node t) h).1

pub takes_parts : (t : ExpressionTree) → IsWellFormed (tree_of t) → Takes (out-ExpressionTree t).shape (count (parts_of t))
takes_parts t h = (subst IsWellFormed (tree_is_node t) h).0

pub size_of_node : (t : ExpressionTree) → size (tree_of t) ≡ sizes (parts_of t) + 1
size_of_node t = ap size (tree_is_node t)

pub flat_of_node : (n : ℕ) (t : ExpressionTree) → flat n (tree_of t) ≡ flats n (parts_of t) ++ record { shape = (out-ExpressionTree t).shape; vtype = (out-ExpressionTree t).vtype; pos = (out-ExpressionTree t).pos; parts = roots n (parts_of t) } ∷ []
flat_of_node n t = ap (flat n) (tree_is_node t)

pub root_of_node : (n : ℕ) (t : ExpressionTree) → root n (tree_of t) ≡ record { 0 = n + sizes (parts_of t) }
root_of_node n t = ap (root n) (tree_is_node t)

pub count_of_roots : (n : ℕ) (ts : ExprTrees) → length (roots n ts) ≡ count ts
count_of_roots n no_expression = refl
count_of_roots n (and_expression t ts) = rw (count_of_roots (n + size t) ts) (omega arith)

abbrev pub with_number : ℕ → ExprId
with_number k = record { 0 = k }

pub number_of_node : (k n : ℕ) (t : ExpressionTree) → k ≡ n + sizes (parts_of t) → with_number k ≡ root n (tree_of t)
number_of_node k n t e = ap with_number e ∙ sym (root_of_node n t)

-- the node as its table holds it
abbrev pub entry_of : ExpressionTree → ExpressionKind → TExpr
entry_of t kind = record { kind = kind; vtype = (out-ExpressionTree t).vtype; pos = (out-ExpressionTree t).pos }

cell_of_entry : (t : ExpressionTree) (kind : ExpressionKind) (ids : List ExprId) → shape_of kind ≡ (out-ExpressionTree t).shape → operands kind ≡ ids → cell_of (entry_of t kind) ≡ record { shape = (out-ExpressionTree t).shape; vtype = (out-ExpressionTree t).vtype; pos = (out-ExpressionTree t).pos; parts = ids }
cell_of_entry t kind ids shape parts = rw (shape, parts) refl

pub cells_with_node : (old laid : List TExpr) (t : ExpressionTree) (kind : ExpressionKind) → cells_of laid ≡ cells_of old ++ flats (length old) (parts_of t) → shape_of kind ≡ (out-ExpressionTree t).shape → operands kind ≡ roots (length old) (parts_of t) → cells_of (laid ++ entry_of t kind ∷ []) ≡ cells_of old ++ flat (length old) (tree_of t)
cells_with_node old laid t kind cells shape parts =
    map-append cell_of laid (entry_of t kind ∷ [])
    ∙ ap (λ (xs : List Cell). xs ++ cell_of (entry_of t kind) ∷ []) cells
    ∙ append_assoc (cells_of old) (flats (length old) (parts_of t)) (cell_of (entry_of t kind) ∷ [])
    ∙ ap (λ (x : Cell). cells_of old ++ (flats (length old) (parts_of t) ++ x ∷ [])) (cell_of_entry t kind _ shape parts)
    ∙ ap (λ (xs : List Cell). cells_of old ++ xs) (sym (flat_of_node (length old) t))
