-- Expressions of a body throw what the typed trees throw from which they are laid.
use Rattle.std.proofs.Common.{◌≡◌, ◌∙◌, ◌++◌, List, Bool, true, false, Option, Some, None, option_map, slice_get, refl, sym, ap}
use Rattle.std.proofs.lemmas.Option.{slice_get-map}
use Rattle.std.specs.Prelude.{flat_map}
use Rattle.program_model.specs.declared.kinds.ClassId.{ClassId}
use Rattle.program_model.specs.declared.kinds.ExprId.{ExprId}
use Rattle.program_model.specs.declared.kinds.MethodId.{MethodId}
use Rattle.program_model.specs.declared.kinds.Literal.TheVariants as literals
use Rattle.program_model.specs.declared.kinds.VType.{VType}
use Rattle.program_model.specs.declared.program.Program.{Program}
use Rattle.program_model.specs.declared.tree.Body.{Body}
use Rattle.program_model.specs.declared.tree.ExpressionKind.{ExpressionKind}
use Rattle.program_model.specs.declared.tree.ExpressionKind.TheVariants as expressions
use Rattle.program_model.specs.declared.tree.TExpr.{TExpr}
use Rattle.program_model.specs.Lookups.{expression_at, type_at, type_in}
use Rattle.program_model.specs.SuperTests.{is_under}
use Rattle.program_model.specs.Trees.{operands}
use Rattle.program_model.specs.Typing.{class_of, kind_in}
use Rattle.java_typed_trees.specs.declared.shapes.Shape.{Shape}
use Rattle.java_typed_trees.specs.declared.shapes.Shape.TheVariants as shapes
use Rattle.java_typed_trees.specs.Exceptions.{classes_thrown, thrown_by}
use Rattle.java_typed_trees.specs.ExpressionTrees.{ExprTree, ExprTrees, Node, and_expression, no_expression}
use Rattle.java_laying.specs.Cells.{Cell, cell_of, cells_of, shape_of}
use Rattle.java_laying.specs.Forest.{StandAt, StandsAt}
use Rattle.accepted_programs.specs.Completions.{is_true_kind, is_true_literal}
use Rattle.accepted_programs.specs.Exceptions.{expression_exceptions, throws_clause, thrown_by_call}
use Rattle.accepted_programs.specs.TreeOrder.{PartsComeFirst}
use Rattle.accepted_programs.proofs.Depths.{value_law}
use Rattle.acceptance_laws.proofs.ThrownTrees.{value_thrown, values_thrown}

-- the two programs have the same throws clauses, super types and classes of types
pub record SameThrows (q p : Program) : Type 0 where
  pub clause : (m : MethodId) → throws_clause q m ≡ thrown_by p m
  pub under : (c d : ClassId) → is_under q c d ≡ is_under p c d
  pub types : (t : VType) → class_of q t ≡ class_of p t
  pub core : q.core ≡ p.core

-- ---- what stands at a number

-- the node at the number is one of this cell
known : (x : Body) (e : ExprId) (k : Cell) → slice_get (cells_of x.expressions.items) e.0 ≡ Some k → (n : TExpr) × (expression_at x e ≡ Some n) × (cell_of n ≡ k)
known x e k here = step (expression_at x e) refl (sym (slice_get-map cell_of x.expressions.items e.0) ∙ here)
  where
    step : (o : Option TExpr) → expression_at x e ≡ o → option_map cell_of o ≡ Some k → (n : TExpr) × (expression_at x e ≡ Some n) × (cell_of n ≡ k)
    step None is h = absurd (let no : None ≡ Some k = h in cc)
    step (Some n) is h = (n, is, (let same : cell_of n ≡ k = cc in same))

kind_same : (q p : Program) → SameThrows q p → (kind : ExpressionKind) → thrown_by_call q kind ≡ classes_thrown p (shape_of kind)
kind_same q p same (expressions.Call c) = same.clause c.method
kind_same q p same (expressions.NewObject n) = same.clause n.constructor
kind_same q p same kind = refl

mutual
  pub tree_same : (q p : Program) → SameThrows q p → (x : Body) → PartsComeFirst x → (e : ExprId) (t : ExprTree) → StandsAt (cells_of x.expressions.items) e t → expression_exceptions q x e ≡ value_thrown p t
  tree_same q p same x first e (Node shape v pos ts) (ids, here, stand) =
      let n = known x e (record { shape = shape; vtype = v; pos = pos; parts = ids }) here in
      value_law q x first e n.0 n.1
      ∙ ap (λ xs. xs ++ flat_map (expression_exceptions q x) (operands n.0.kind)) (kind_same q p same n.0.kind)
      ∙ ap (λ (k : Cell). classes_thrown p k.shape ++ flat_map (expression_exceptions q x) k.parts) n.2
      ∙ ap (λ xs. classes_thrown p shape ++ xs) (trees_same q p same x first ids ts stand)

  pub trees_same : (q p : Program) → SameThrows q p → (x : Body) → PartsComeFirst x → (ids : List ExprId) (ts : ExprTrees) → StandAt (cells_of x.expressions.items) ids ts → flat_map (expression_exceptions q x) ids ≡ values_thrown p ts
  trees_same q p same x first ids no_expression stand = ap (λ (es : List ExprId). flat_map (expression_exceptions q x) es) stand
  trees_same q p same x first ids (and_expression t ts) (one, more, is, here, stand) =
      ap (λ (es : List ExprId). flat_map (expression_exceptions q x) es) is
      ∙ ap (λ xs. xs ++ flat_map (expression_exceptions q x) more) (tree_same q p same x first one t here)
      ∙ ap (λ xs. value_thrown p t ++ xs) (trees_same q p same x first more ts stand)

-- ---- types and literals

abbrev pub type_of_tree : ExprTree → Option VType
type_of_tree (Node shape v pos ts) = v

pub type_same : (x : Body) (e : ExprId) (t : ExprTree) → StandsAt (cells_of x.expressions.items) e t → type_at x e ≡ type_of_tree t
type_same x e (Node shape v pos ts) (ids, here, stand) =
    let n = known x e (record { shape = shape; vtype = v; pos = pos; parts = ids }) here in
    ap type_in n.1 ∙ ap (λ (k : Cell). k.vtype) n.2

abbrev pub is_true_shape : Shape → Bool
is_true_shape (shapes.Literal (literals.Boolean true)) = true
is_true_shape shape = false

-- the tree is the literal `true`
abbrev pub is_true_tree : ExprTree → Bool
is_true_tree (Node shape v pos ts) = is_true_shape shape

literal_kind : (kind : ExpressionKind) → is_true_kind (Some kind) ≡ is_true_shape (shape_of kind)
literal_kind (expressions.Literal (literals.Boolean true)) = refl
literal_kind (expressions.Literal (literals.Boolean false)) = refl
literal_kind (expressions.Literal (literals.Number n)) = refl
literal_kind (expressions.Literal (literals.Character n)) = refl
literal_kind (expressions.Literal literals.Text) = refl
literal_kind (expressions.Literal literals.Null) = refl
literal_kind kind = refl

pub literal_same : (x : Body) (e : ExprId) (t : ExprTree) → StandsAt (cells_of x.expressions.items) e t → is_true_literal x e ≡ is_true_tree t
literal_same x e (Node shape v pos ts) (ids, here, stand) =
    let n = known x e (record { shape = shape; vtype = v; pos = pos; parts = ids }) here in
    ap (λ (o : Option TExpr). is_true_kind (kind_in o)) n.1 ∙ literal_kind n.0.kind ∙ ap (λ (k : Cell). is_true_shape k.shape) n.2
