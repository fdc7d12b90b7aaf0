-- Where there is no class of `this`, typed trees have none in them; and statements without super calls pass nothing.
use Rattle.std.proofs.Common.{◌≡◌, ◌∙◌, true, false, Option, Some, None, List, [], ◌∷◌, ◌++◌, refl, sym, subst, true≢false}
use Rattle.program_model.specs.declared.kinds.VType.{VType}
use Rattle.program_model.specs.declared.kinds.VType.TheVariants as types
use Rattle.program_model.specs.declared.program.Method.{Method}
use Rattle.java_typed_trees.specs.declared.shapes.Shape.{Shape}
use Rattle.java_typed_trees.specs.declared.shapes.Shape.TheVariants as shapes
use Rattle.java_typed_trees.specs.ExpressionTrees.{ExprTree, ExprTrees, Node, no_expression, and_expression}
use Rattle.java_typed_trees.specs.StatementTrees.{StatementForm, StmtTree, StmtTrees, Statement, no_statement, and_statement, statements}
use Rattle.java_typed_trees.specs.StatementTrees as forms
use Rattle.acceptance_laws.specs.TypedTrees.{AreTypedTrees, IsThis, IsTypedNode, IsTypedTree, Part, parts_in}
use Rattle.acceptance_laws.specs.TypingContexts.{TypingContext}
use Rattle.acceptance_laws.specs.TypedStatements.{AreTypedStatementTrees, IsTypedStatementTree}
use Rattle.acceptance_laws.specs.OrderedTrees.{HasNoHeadInside, HaveNoHeads, form_at, is_head_form, is_this_shape}
use Rattle.acceptance_laws.proofs.FieldOrders.{AreInitializers, IsInitializer}
use Rattle.file_condition_laws.specs.TreesWithoutThis.{FormPassesNoThis, HoldNoThis, HoldsNoThis, TreePassesNoThis, TreesPassNoThis}

none_is_some : {X : Type 0} (x : X) → ◌≡◌ {A = Option X} None (Some x) → ⊥
none_is_some x h = cc

-- ---- expressions

module _ (c : TypingContext) (without : c.this_class ≡ None) where
  no_owner : (t : VType) → IsThis c t → ⊥
  no_owner (types.Obj d) is = none_is_some d (sym without ∙ is)
  no_owner types.Str is = is
  no_owner t is = is

  other_shape : (s : Shape) (t : Option VType) (parts : List Part) → IsTypedNode c s t parts → is_this_shape s ≡ false
  other_shape (shapes.This written) None parts is = absurd is
  other_shape (shapes.This written) (Some t) parts is = absurd (no_owner t is)
  other_shape (shapes.Literal l) t parts is = refl
  other_shape s t parts is = refl

  mutual
    tree_without : (t : ExprTree) → IsTypedTree c t → HoldsNoThis t
    tree_without (Node s t place parts) typed = (other_shape s t (parts_in parts) typed.0, trees_without parts typed.1)

    trees_without : (ts : ExprTrees) → AreTypedTrees c ts → HoldNoThis ts
    trees_without no_expression typed = tt
    trees_without (and_expression t ts) typed = (tree_without t typed.0, trees_without ts typed.1)

  -- ---- statements

  form_passes : (f : StatementForm) (es : ExprTrees) → HoldNoThis es → FormPassesNoThis f es
  form_passes forms.Empty es free = tt
  form_passes (forms.SuperCall m written) es free = free
  form_passes f es free = tt

  mutual
    typed_passes : (m : Method) (t : StmtTree) → IsTypedStatementTree c m t → TreePassesNoThis t
    typed_passes m (Statement f place es ss) typed = (form_passes f es (trees_without es typed.1), typed_pass m ss typed.2)

    pub typed_pass : (m : Method) (ts : StmtTrees) → AreTypedStatementTrees c m ts → TreesPassNoThis ts
    typed_pass m no_statement typed = tt
    typed_pass m (and_statement t ts) typed = (typed_passes m t typed.0, typed_pass m ts typed.1)

no_super_form : (f : StatementForm) (es : ExprTrees) → is_head_form f ≡ false → FormPassesNoThis f es
no_super_form forms.Empty es other = tt
no_super_form (forms.SuperCall m written) es other = absurd (true≢false other)
no_super_form f es other = tt

mutual
  plain_passes : (t : StmtTree) → is_head_form (form_at t) ≡ false → HasNoHeadInside t → TreePassesNoThis t
  plain_passes (Statement f place es ss) other inside = (no_super_form f es other, plain_pass ss inside)

  pub plain_pass : (ts : StmtTrees) → HaveNoHeads ts → TreesPassNoThis ts
  plain_pass no_statement plain = tt
  plain_pass (and_statement t ts) plain = (plain_passes t plain.0 plain.1, plain_pass ts plain.2)

initializer_passes : (t : StmtTree) → IsInitializer t → TreePassesNoThis t
initializer_passes (Statement f place es ss) is =
    (subst (λ (g : StatementForm). FormPassesNoThis g es) (sym is.0) tt, subst TreesPassNoThis (sym is.1) tt)

pub initializers_pass : (ts : List StmtTree) → AreInitializers ts → TreesPassNoThis (statements ts)
initializers_pass [] are = tt
initializers_pass (t ∷ ts) are = (initializer_passes t are.0, initializers_pass ts are.1)

pub both_pass : (xs ys : List StmtTree) → TreesPassNoThis (statements xs) → TreesPassNoThis (statements ys) → TreesPassNoThis (statements (xs ++ ys))
both_pass [] ys first second = second
both_pass (x ∷ xs) ys first second = (first.0, both_pass xs ys first.1 second)
