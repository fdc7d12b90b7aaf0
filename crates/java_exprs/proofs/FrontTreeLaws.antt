-- A list of tokens has one tree of its closed front, and the front's derivation leaves it.
use Rattle.std.specs.Prelude.{◌≡◌, ℕ, true, false, List, [], ◌∷◌, map, None}
use Rattle.rlc_base.specs.declared.place.Pos.{Pos}
use Rattle.rlc_base.specs.declared.faults.Stop.{Stop}
use Rattle.std.proofs.Common.{refl, sym, ◌∙◌, ap, subst}
use Rattle.java_syntax.specs.declared.names.Typ.{Typ}
use Rattle.java_syntax.specs.declared.symbols.Symbol.{Symbol}
use Rattle.java_syntax.specs.declared.symbols.Symbol.TheVariants as symbols
use Rattle.java_syntax.specs.Derives.{Lexeme, Step}
use Rattle.java_syntax.specs.ExpressionTrees.{ExprTree}
use Rattle.java_syntax.specs.AnnotationTrees.{AnnoTree}
use Rattle.java_grammar.specs.Fronts.{IsClosedFront}
use Rattle.java_values.specs.NestedTrees.{Nested}
use Rattle.java_values.specs.Values.{ValueTree, AExpression, AType, AAnnotations}
use Rattle.java_values.specs.Values as kinds
use Rattle.java_values.specs.Kinds.{kind_of}
use Rattle.java_values.specs.Outcomes.{Made, IsNoMisfit}
use Rattle.java_exprs.specs.Evaluation.{evaluate}
use Rattle.java_exprs.specs.SymbolKinds.{symbol_takes, symbol_leaves}
use Rattle.java_exprs.proofs.TableTest.{not_inside}
use Rattle.java_exprs.proofs.Sense.{whole, fine_meant, fine_kinds, alone}
use Rattle.java_exprs.specs.FrontTrees.{IsFrontTree, IsFrontValues, IsFrontStop, shows_expression, shows_type, shows_annotations}

same_values : (s t : List ValueTree) → Made s ≡ Made t → s ≡ t
same_values s t h = cc

pub only_values : (symbol : Symbol) (limit : ℕ) (start : List ValueTree) (tokens : List Lexeme) (count : ℕ) (steps : List Step) (values : List ValueTree)
    → ((n : ℕ) (es : List Step) → IsClosedFront false symbol tokens n es → (n ≡ count) × (es ≡ steps)) → evaluate limit steps None start ≡ Made values
    → (n : ℕ) (s : List ValueTree) → IsFrontValues symbol limit start tokens n s → (n ≡ count) × (s ≡ values)
only_values symbol limit start tokens count steps values one e n s f =
    let r = one n f.steps f.front in
    (r.0, same_values s values (sym f.evaluated ∙ ap (λ es. evaluate limit es None start) r.1 ∙ e))

-- a tree that a list of values shows is the only one
pub only_tree : {A : Type 0} (shows : A → List ValueTree → Type 0) (symbol : Symbol) (limit : ℕ) (start : List ValueTree) (tokens : List Lexeme) (count : ℕ) (values : List ValueTree) (tree : A)
    → ((t u : A) (s : List ValueTree) → shows t s → shows u s → t ≡ u) → shows tree values
    → ((n : ℕ) (s : List ValueTree) → IsFrontValues symbol limit start tokens n s → (n ≡ count) × (s ≡ values))
    → (n : ℕ) (t : A) → IsFrontTree shows symbol limit start tokens n t → (n ≡ count) × (t ≡ tree)
only_tree shows symbol limit start tokens count values tree same seen one n t f =
    let r = one n f.values f.front in
    (r.0, same t tree values (subst (λ s. shows t s) r.1 f.seen) seen)

expression_head : (a b : Nested ExprTree) → AExpression a ∷ [] ≡ AExpression b ∷ [] → a ≡ b
expression_head a b h = cc

annotations_head : (a b : Nested (List AnnoTree)) → AAnnotations a ∷ [] ≡ AAnnotations b ∷ [] → a ≡ b
annotations_head a b h = cc

type_head : (a b : Typ) → AType a ∷ [] ≡ AType b ∷ [] → a ≡ b
type_head a b h = cc

pub same_expression : (t u : ExprTree) (s : List ValueTree) → shows_expression t s → shows_expression u s → t ≡ u
same_expression t u s p q = ap (λ (n : Nested ExprTree). n.tree) (expression_head _ _ (sym p.1 ∙ q.1))

pub same_type : (t u : Typ) (s : List ValueTree) → shows_type t s → shows_type u s → t ≡ u
same_type t u s p q = type_head t u (sym p ∙ q)

pub same_annotations : (t u : List AnnoTree) (s : List ValueTree) → shows_annotations t s → shows_annotations u s → t ≡ u
same_annotations t u s p q = ap (λ (n : Nested (List AnnoTree)). n.tree) (annotations_head _ _ (sym p.1 ∙ q.1))

-- the same front in the same levels, on the same stack
pub moved_front : (symbol : Symbol) (l k : ℕ) (s t : List ValueTree) (tokens : List Lexeme) (count : ℕ) (values : List ValueTree) → l ≡ k → s ≡ t
    → IsFrontValues symbol l s tokens count values → IsFrontValues symbol k t tokens count values
moved_front symbol l k s t tokens count values p q f =
    subst (λ y. IsFrontValues symbol k y tokens count values) q (subst (λ x. IsFrontValues symbol x s tokens count values) p f)

pub moved_only : (symbol : Symbol) (l k : ℕ) (s t : List ValueTree) (tokens : List Lexeme) (count : ℕ) (values : List ValueTree) → l ≡ k → s ≡ t
    → ((n : ℕ) (vs : List ValueTree) → IsFrontValues symbol l s tokens n vs → (n ≡ count) × (vs ≡ values))
    → (n : ℕ) (vs : List ValueTree) → IsFrontValues symbol k t tokens n vs → (n ≡ count) × (vs ≡ values)
moved_only symbol l k s t tokens count values p q one n vs f = one n vs (moved_front symbol k l t s tokens n vs (sym p) (sym q) f)

pub moved_stop : (symbol : Symbol) (l k : ℕ) (s t : List ValueTree) (tokens : List Lexeme) (end : Pos) (stop : Stop) → l ≡ k → s ≡ t
    → IsFrontStop symbol l s tokens end stop → IsFrontStop symbol k t tokens end stop
moved_stop symbol l k s t tokens end stop p q f = subst (λ y. IsFrontStop symbol k y tokens end stop) q (subst (λ x. IsFrontStop symbol x s tokens end stop) p f)

-- the derivation of a closed front finds values of the right kinds
pub front_meant : (symbol : Symbol) (limit : ℕ) (start : List ValueTree) (tokens : List Lexeme) → map kind_of start ≡ symbol_takes symbol → not_inside (symbol_takes symbol) ≡ true
    → (count : ℕ) (steps : List Step) → IsClosedFront false symbol tokens count steps → IsNoMisfit (evaluate limit steps None start)
front_meant symbol limit start tokens h n count steps f = fine_meant _ _ (whole limit false symbol f.used steps start f.derived h n)

-- and leaves those of its symbol
pub front_kinds : (symbol : Symbol) (limit : ℕ) (start : List ValueTree) (tokens : List Lexeme) (count : ℕ) (values : List ValueTree) → map kind_of start ≡ symbol_takes symbol → not_inside (symbol_takes symbol) ≡ true
    → IsFrontValues symbol limit start tokens count values → map kind_of values ≡ symbol_leaves symbol
front_kinds symbol limit start tokens count values h n f = fine_kinds _ _ values (whole limit false symbol f.front.used f.steps start f.front.derived h n) f.evaluated

-- the value that was taken off is the only one
shown : (k : kinds.Kind) (v : ValueTree) (s r : List ValueTree) → map kind_of s ≡ k ∷ [] → s ≡ v ∷ r → s ≡ v ∷ []
shown k v s r h e = e ∙ ap (λ y. v ∷ y) (alone k v s r h e)

pub shown_expression : (limit : ℕ) (start : List ValueTree) (tokens : List Lexeme) (count : ℕ) (values rest : List ValueTree) (tree : ExprTree) (depth : ℕ) → map kind_of start ≡ []
    → IsFrontValues symbols.Expression limit start tokens count values → values ≡ AExpression (record { tree = tree; depth = depth }) ∷ rest → shows_expression tree values
shown_expression limit start tokens count values rest tree depth h f e =
    (depth, shown kinds.expression _ values rest (front_kinds symbols.Expression limit start tokens count values h refl f) e)

pub shown_type : (limit : ℕ) (start : List ValueTree) (tokens : List Lexeme) (count : ℕ) (values rest : List ValueTree) (tree : Typ) → map kind_of start ≡ []
    → IsFrontValues symbols.Type limit start tokens count values → values ≡ AType tree ∷ rest → shows_type tree values
shown_type limit start tokens count values rest tree h f e = shown kinds.typ _ values rest (front_kinds symbols.Type limit start tokens count values h refl f) e

pub shown_annotations : (limit : ℕ) (start : List ValueTree) (tokens : List Lexeme) (count : ℕ) (values rest : List ValueTree) (tree : List AnnoTree) (depth : ℕ) → map kind_of start ≡ kinds.annotations ∷ []
    → IsFrontValues symbols.Annotations limit start tokens count values → values ≡ AAnnotations (record { tree = tree; depth = depth }) ∷ rest → shows_annotations tree values
shown_annotations limit start tokens count values rest tree depth h f e =
    (depth, shown kinds.annotations _ values rest (front_kinds symbols.Annotations limit start tokens count values h refl f) e)

-- the front with its tree
pub shown_front : {A : Type 0} (shows : A → List ValueTree → Type 0) (symbol : Symbol) (l k : ℕ) (s t : List ValueTree) (tokens : List Lexeme) (count : ℕ) (values : List ValueTree) (tree : A) → l ≡ k → s ≡ t
    → IsFrontValues symbol l s tokens count values → shows tree values → IsFrontTree shows symbol k t tokens count tree
shown_front shows symbol l k s t tokens count values tree p q f seen = record { values = values; front = moved_front symbol l k s t tokens count values p q f; seen = seen }
