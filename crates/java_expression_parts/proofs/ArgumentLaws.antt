-- Arguments in memory beside the parameters of a method.
use Rattle.std.proofs.Common.{◌≡◌, refl, ap, sym, ◌∙◌, ℕ, suc, Option, List, [], ◌∷◌, ◌++◌, ◌&&◌, map, length, slice_get, zip}
use Rattle.std.specs.List.{list_all}
use Rattle.std.proofs.lemmas.List.{length-map, map-append}
use Rattle.program_model.specs.declared.kinds.VType.{VType}
use Rattle.program_model.specs.declared.program.ParamSig.{ParamSig}
use Rattle.program_model.specs.declared.program.Program.{Program}
use Rattle.java_conversions.specs.Conversions.{fits}
use Rattle.java_typed_trees.specs.ExpressionTrees.{ExprTree, and_expression, expressions, tree_of}
use Rattle.java_typed_trees.specs.declared.trees.ExpressionTree.{ExpressionTree}
use Rattle.java_expression_parts.specs.declared.typing.ExpressionTyping.{ExpressionTyping}
use Rattle.java_expression_parts.specs.Arguments.{argument_types, each_value_fits, in_context_if, in_contexts, value_types}
use Rattle.java_expression_parts.specs.TypedParts.{Typing, has_type, have_types, trees_in, typing_of, with_last}

pub each_in_memory : (p : Program) (arguments : List ExpressionTyping) (params : List ParamSig) → list_all (λ x. list_all (λ t. fits p t x.1.vtype) (value_types (tree_of x.0.tree))) (zip arguments params) ≡ each_value_fits p (argument_types (map typing_of arguments)) params
each_in_memory p [] params = refl
each_in_memory p (a ∷ rest) [] = refl
each_in_memory p (a ∷ rest) (x ∷ more) = ap (λ b. list_all (λ t. fits p t x.vtype) (value_types (tree_of a.tree)) && b) (each_in_memory p rest more)

pub count_of_types : (arguments : List ExpressionTyping) → length (argument_types (map typing_of arguments)) ≡ length arguments
count_of_types [] = refl
count_of_types (a ∷ rest) = ap (λ n. suc n) (count_of_types rest)

pub typed_in_memory : (arguments : List ExpressionTyping) → list_all (λ a. has_type (typing_of a)) arguments ≡ have_types (map typing_of arguments)
typed_in_memory [] = refl
typed_in_memory (a ∷ rest) = ap (λ b. has_type (typing_of a) && b) (typed_in_memory rest)

pub no_argument : (wanted : List VType) → in_contexts wanted [] ≡ []
no_argument [] = refl
no_argument (w ∷ more) = refl

-- one argument more is in the context of the parameter with its number
pub one_more_in_context : (wanted : List VType) (ts : List ExprTree) (t : ExprTree) → in_contexts wanted (ts ++ t ∷ []) ≡ in_contexts wanted ts ++ in_context_if (slice_get wanted (length ts)) t ∷ []
one_more_in_context [] ts t = refl
one_more_in_context (w ∷ more) [] t = ap (λ us. in_contexts (w ∷ []) (t ∷ []) ++ us) (no_argument more)
one_more_in_context (w ∷ more) (u ∷ ts) t = ap (λ us. in_contexts (w ∷ []) (u ∷ []) ++ us) (one_more_in_context more ts t)

length_in_contexts : (wanted : List VType) (ts : List ExprTree) → length (in_contexts wanted ts) ≡ length ts
length_in_contexts [] ts = refl
length_in_contexts (w ∷ more) [] = refl
length_in_contexts (w ∷ more) (t ∷ ts) = ap (λ n. suc n) (length_in_contexts more ts)

-- the trees of the arguments with one more
trees_of_more : (seen : List ExpressionTyping) (a : ExpressionTyping) → trees_in (map typing_of (seen ++ a ∷ [])) ≡ trees_in (map typing_of seen) ++ tree_of a.tree ∷ []
trees_of_more seen a = ap trees_in (map-append typing_of seen (a ∷ [])) ∙ map-append (λ (t : Typing). t.tree) (map typing_of seen) (typing_of a ∷ [])

pub one_argument_more : (wanted : List VType) (done : List ExpressionTree) (seen : List ExpressionTyping) (t : ExpressionTree) (a : ExpressionTyping) (number : ℕ) → map tree_of done ≡ in_contexts wanted (trees_in (map typing_of seen)) → number ≡ length done → tree_of t ≡ in_context_if (slice_get wanted number) (tree_of a.tree) → map tree_of (done ++ t ∷ []) ≡ in_contexts wanted (trees_in (map typing_of (seen ++ a ∷ [])))
one_argument_more wanted done seen t a number e last g =
    let old : List ExprTree = trees_in (map typing_of seen) in
    let count : number ≡ length old = last ∙ sym (length-map done tree_of) ∙ ap length e ∙ length_in_contexts wanted old in
    map-append tree_of done (t ∷ [])
    ∙ ap (λ us. us ++ tree_of t ∷ []) e
    ∙ ap (λ u. in_contexts wanted old ++ u ∷ []) (g ∙ ap (λ n. in_context_if (slice_get wanted n) (tree_of a.tree)) count)
    ∙ sym (one_more_in_context wanted old (tree_of a.tree))
    ∙ ap (in_contexts wanted) (sym (trees_of_more seen a))

pub last_of : (ts : List ExprTree) (t : ExprTree) → expressions (ts ++ t ∷ []) ≡ with_last (expressions ts) t
last_of [] t = refl
last_of (u ∷ ts) t = ap (and_expression u) (last_of ts t)
