-- A typed tree in memory where the context wants a type: the parts behind the first are in that context one after another.
use Rattle.std.proofs.Common.{◌≡◌, refl, ap, sym, ◌∙◌, subst, ℕ, zero, suc, ◌+◌, ◌-◌, ◌<◌, ◌≤◌, ◌≢◌, Bool, true, false, Option, Some, None, List, [], ◌∷◌, ◌++◌, map, length, get_or, set, arith}
use Rattle.std.proofs.lemmas.List.{get_or-map, get_or-set_other, length-map, length-set, map-set}
use Rattle.std.proofs.lemmas.Grind.{common_steps}
use Rattle.program_model.specs.declared.kinds.VType.{VType}
use Rattle.java_typed_trees.specs.declared.trees.ExpressionTree.{ExpressionTree, out-ExpressionTree}
use Rattle.java_typed_trees.specs.ExpressionTrees.{ExprTree, ExprTrees, Node, expressions, no_expression, and_expression, tree_of}
use Rattle.java_expression_parts.specs.Arguments.{all_in_context, in_context, operands_in_context, takes_context}
use Rattle.java_expression_parts.proofs.Nodes.{parts_in, tree_is_node}

-- the first of the trees, so many, are in the context
abbrev pub in_context_below : VType → ℕ → List ExprTree → List ExprTree
in_context_below w zero ts = ts
in_context_below w (suc n) [] = []
in_context_below w (suc n) (t ∷ ts) = in_context w t ∷ in_context_below w n ts

-- those from 1 and below this number are in the context
abbrev pub changed : VType → ℕ → List ExprTree → List ExprTree
changed w zero ts = ts
changed w (suc n) [] = []
changed w (suc n) (t ∷ ts) = t ∷ in_context_below w n ts

pub changed_from_first : (w : VType) (ts : List ExprTree) → changed w 1 ts ≡ ts
changed_from_first w [] = refl
changed_from_first w (t ∷ ts) = refl

all_below : (w : VType) (n : ℕ) (ts : List ExprTree) → length ts ≤ n → expressions (in_context_below w n ts) ≡ all_in_context w (expressions ts)
all_below w zero [] h = refl
all_below w zero (t ∷ ts) h = absurd (omega arith)
all_below w (suc n) [] h = refl
all_below w (suc n) (t ∷ ts) h = let fewer : length ts ≤ n = omega arith in ap (and_expression (in_context w t)) (all_below w n ts fewer)

all_changed : (w : VType) (n : ℕ) (ts : List ExprTree) → length ts ≤ n → expressions (changed w n ts) ≡ operands_in_context w (expressions ts)
all_changed w zero [] h = refl
all_changed w zero (t ∷ ts) h = absurd (omega arith)
all_changed w (suc n) [] h = refl
all_changed w (suc n) (t ∷ ts) h = let fewer : length ts ≤ n = omega arith in ap (and_expression t) (all_below w n ts fewer)

one_below : (w : VType) (n : ℕ) (ts : List ExprTree) (d : ExprTree) → n < length ts → set (in_context_below w n ts) n (in_context w (get_or ts n d)) ≡ in_context_below w (suc n) ts
one_below w n [] d h = absurd (omega arith)
one_below w zero (t ∷ ts) d h = refl
one_below w (suc n) (t ∷ ts) d h = let fewer : n < length ts = omega arith in ap (λ us. in_context w t ∷ us) (one_below w n ts d fewer)

-- the next one
one_changed : (w : VType) (n : ℕ) (ts : List ExprTree) (d : ExprTree) → 1 ≤ n → n < length ts → set (changed w n ts) n (in_context w (get_or ts n d)) ≡ changed w (suc n) ts
one_changed w zero ts d h g = absurd (omega arith)
one_changed w (suc n) [] d h g = absurd (omega arith)
one_changed w (suc n) (t ∷ ts) d h g = let fewer : n < length ts = omega arith in ap (λ us. t ∷ us) (one_below w n ts d fewer)

-- the node, when all its parts are done
pub changed_node : (w : VType) (n : ℕ) (old new : ExpressionTree) → takes_context (out-ExpressionTree old).shape (out-ExpressionTree old).vtype ≡ true → (out-ExpressionTree new).shape ≡ (out-ExpressionTree old).shape → (out-ExpressionTree new).pos ≡ (out-ExpressionTree old).pos → (out-ExpressionTree new).vtype ≡ Some w → map tree_of (out-ExpressionTree new).parts.items ≡ changed w n (map tree_of (out-ExpressionTree old).parts.items) → length (out-ExpressionTree old).parts.items ≤ n → tree_of new ≡ in_context w (tree_of old)
changed_node w n old new takes shape place type parts all =
    let ts : List ExprTree = map tree_of (out-ExpressionTree old).parts.items in
    let enough : length ts ≤ n = rw (length-map (out-ExpressionTree old).parts.items tree_of) all in
    tree_is_node new ∙ rw (shape, place, type, parts, all_changed w n ts enough) (sym (ap (in_context w) (tree_is_node old) ∙ rw takes refl))

-- the node that does not take the context
pub unchanged_node : (w : VType) (t : ExpressionTree) → takes_context (out-ExpressionTree t).shape (out-ExpressionTree t).vtype ≡ false → in_context w (tree_of t) ≡ tree_of t
unchanged_node w t takes = ap (in_context w) (tree_is_node t) ∙ rw takes (sym (tree_is_node t))

-- one part more, which was as it had been
pub one_part_more : (w : VType) (n : ℕ) (xs xs' ys : List ExpressionTree) (v d : ExpressionTree) → xs' ≡ set xs n v → map tree_of xs ≡ changed w n (map tree_of ys) → 1 ≤ n → n < length ys → tree_of v ≡ in_context w (tree_of d) → get_or ys n d ≡ d → map tree_of xs' ≡ changed w (n + 1) (map tree_of ys)
one_part_more w n xs xs' ys v d is e first within new old =
    let ts : List ExprTree = map tree_of ys in
    let inside : n < length ts = rw (length-map ys tree_of) within in
    let same : get_or ts n (tree_of d) ≡ tree_of d = get_or-map tree_of ys n d (tree_of d) within ∙ ap tree_of old in
    let next : suc n ≡ n + 1 = omega arith in
    ap (map tree_of) is
    ∙ map-set tree_of xs n v
    ∙ ap (λ us. set us n (tree_of v)) e
    ∙ ap (λ u. set (changed w n ts) n u) (new ∙ ap (in_context w) (sym same))
    ∙ one_changed w n ts (tree_of d) first inside
    ∙ ap (λ m. changed w m ts) next

-- those from the number on are as they were
abbrev pub Unvisited : ℕ → List ExpressionTree → List ExpressionTree → Type 0
Unvisited n xs ys = (length xs ≡ length ys) × ((k : ℕ) (d : ExpressionTree) → n ≤ k → get_or xs k d ≡ get_or ys k d)

pub unvisited_more : (n : ℕ) (xs xs' ys : List ExpressionTree) (v : ExpressionTree) → xs' ≡ set xs n v → Unvisited n xs ys → Unvisited (n + 1) xs' ys
unvisited_more n xs xs' ys v is h = subst (λ us. Unvisited (n + 1) us ys) (sym is) (length-set xs n v ∙ h.0, λ k d g. let other : k ≢ n = omega arith in let before : n ≤ k = omega arith in get_or-set_other xs n k v d other ∙ h.1 k d before)
