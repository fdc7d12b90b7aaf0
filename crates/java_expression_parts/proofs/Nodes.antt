-- A typed tree in memory as a node over the trees of its list of parts, and the types of the values that it may give.
use Rattle.std.proofs.Common.{◌≡◌, rules, refl, ap, sym, ◌∙◌, ℕ, zero, suc, ◌<◌, ◌≤◌, Bool, true, false, ◌&&◌, Some, None, List, [], ◌∷◌, ◌++◌, map, length, get_or, arith}
use Rattle.std.specs.List.{list_all}
use Rattle.std.proofs.lemmas.List.Folds.{list_all-append}
use Rattle.program_model.specs.declared.kinds.VType.{VType}
use Rattle.java_typed_trees.specs.declared.trees.ExpressionTree as expr
use Rattle.java_typed_trees.specs.declared.trees.ExpressionTree.{ExpressionTree, out-ExpressionTree, the_lemmas}
use Rattle.java_typed_trees.specs.ExpressionTrees.{ExprTrees, Node, expressions, tree_of}
use Rattle.java_typed_trees.proofs.Parts.{parts_are_items}
use Rattle.java_expression_parts.specs.Arguments.{is_poly_conditional, value_types, value_types_at}

abbrev pub parts_in : ExpressionTree → ExprTrees
parts_in t = expressions (map tree_of (out-ExpressionTree t).parts.items)

pub tree_is_node : (t : ExpressionTree) → tree_of t ≡ Node (out-ExpressionTree t).shape (out-ExpressionTree t).vtype (out-ExpressionTree t).pos (parts_in t)
tree_is_node (expr.ExpressionTree' s v p shape all) = search (rules, the_lemmas, parts_are_items)

pub values_of_typeless : (t : ExpressionTree) → (out-ExpressionTree t).vtype ≡ None → value_types (tree_of t) ≡ []
values_of_typeless t e = ap value_types (tree_is_node t) ∙ rw e refl

pub values_of_operands : (f : VType → Bool) (t : ExpressionTree) (v : VType) → (out-ExpressionTree t).vtype ≡ Some v → is_poly_conditional (out-ExpressionTree t).shape v ≡ true → list_all f (value_types (tree_of t)) ≡ (list_all f (value_types_at 1 (parts_in t)) && list_all f (value_types_at 2 (parts_in t)))
values_of_operands f t v e h =
    let types : value_types (tree_of t) ≡ value_types_at 1 (parts_in t) ++ value_types_at 2 (parts_in t) = ap value_types (tree_is_node t) ∙ rw e (rw h refl) in
    ap (list_all f) types ∙ list_all-append f (value_types_at 1 (parts_in t)) (value_types_at 2 (parts_in t))

pub values_at_part : (n : ℕ) (ts : List ExpressionTree) (d : ExpressionTree) → n < length ts → d ≡ get_or ts n d → value_types_at n (expressions (map tree_of ts)) ≡ value_types (tree_of d)
values_at_part n [] d h e = absurd (omega arith)
values_at_part zero (t ∷ ts) d h e = ap (λ x. value_types (tree_of x)) (sym e)
values_at_part (suc n) (t ∷ ts) d h e = let fewer : n < length ts = omega arith in values_at_part n ts d fewer e

pub values_past_parts : (n : ℕ) (ts : List ExpressionTree) → length ts ≤ n → value_types_at n (expressions (map tree_of ts)) ≡ []
values_past_parts n [] h = refl
values_past_parts zero (t ∷ ts) h = absurd (omega arith)
values_past_parts (suc n) (t ∷ ts) h = let fewer : length ts ≤ n = omega arith in values_past_parts n ts fewer

pub value_of_itself : (t : ExpressionTree) (v : VType) → (out-ExpressionTree t).vtype ≡ Some v → is_poly_conditional (out-ExpressionTree t).shape v ≡ false → value_types (tree_of t) ≡ v ∷ []
value_of_itself t v e h = ap value_types (tree_is_node t) ∙ rw e (rw h refl)
