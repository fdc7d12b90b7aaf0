-- A body that is laid from such statements passes no `this`.
use Rattle.std.proofs.Common.{◌≡◌, ◌∙◌, ◌+◌, ◌++◌, ◌∷◌, [], ℕ, zero, suc, List, Option, Some, All, Contains, length, slice_get, option_map, refl, sym, subst, ap, false}
use Rattle.std.proofs.lemmas.List.{append-nil, length-append}
use Rattle.std.proofs.lemmas.List.Elements.{All-append, All-cons, All-contains, All-head, All-nil, All-tail}
use Rattle.std.proofs.lemmas.Option.{slice_get-map}
use Rattle.program_model.specs.declared.kinds.ExprId.{ExprId}
use Rattle.program_model.specs.declared.kinds.StmtId.{StmtId}
use Rattle.program_model.specs.declared.tree.Body.{Body}
use Rattle.program_model.specs.declared.tree.ExpressionKind.{ExpressionKind}
use Rattle.program_model.specs.declared.tree.ExpressionKind.TheVariants as expressions
use Rattle.program_model.specs.declared.tree.StatementKind.{StatementKind}
use Rattle.program_model.specs.declared.tree.StatementKind.TheVariants as kinds
use Rattle.program_model.specs.declared.tree.TExpr.{TExpr}
use Rattle.program_model.specs.declared.tree.TStmt.{TStmt}
use Rattle.program_model.specs.Lookups.{expression_at, statement_at}
use Rattle.program_model.specs.Trees.{expressions_in, operands}
use Rattle.program_model.specs.Typing.{is_this, is_this_kind, kind_in}
use Rattle.java_typed_trees.specs.ExpressionTrees.{ExprTree, ExprTrees, Node, no_expression, and_expression}
use Rattle.java_typed_trees.specs.StatementTrees.{StmtTree, StmtTrees, Statement, no_statement, and_statement}
use Rattle.java_laying.specs.Bodies.{IsLaid}
use Rattle.java_laying.specs.Cells.{Cell, cells_of, shape_of}
use Rattle.java_laying.specs.Flat.{flats, roots, sizes}
use Rattle.java_laying.specs.Forest.{StandAt, StandsAt}
use Rattle.java_laying.specs.StatementCells.{StatementCell, form_in, statement_cell, statement_cells}
use Rattle.java_laying.specs.StatementFlat.{expression_count, flat_expressions, flat_statement, flat_statements, flats_expressions, statement_roots, statement_size}
use Rattle.java_laying.proofs.Forests.{laid_stand, length_flats}
use Rattle.java_laying.proofs.Joins.{first_inside, more_inside}
use Rattle.java_laying.proofs.StatementForests.{length_flat_expressions}
use Rattle.acceptance_laws.specs.OrderedTrees.{is_this_shape}
use Rattle.acceptance_laws.proofs.Stands.{expression_stands, none_is_some, same_in}
use Rattle.agreement.specs.SuperArguments.{LacksThis, PassesNoThis, StandsIn, itself, within}
use Rattle.file_condition_laws.specs.TreesWithoutThis.{FormPassesNoThis, HoldNoThis, HoldsNoThis, TreePassesNoThis, TreesPassNoThis}

-- ---- expressions that stand in a table

this_of_kind : (k : ExpressionKind) → is_this_kind (Some k) ≡ is_this_shape (shape_of k)
this_of_kind (expressions.This written) = refl
this_of_kind k = refl

module _ (b : Body) where
  abbrev values : List Cell
  values = cells_of b.expressions.items

  -- a tree without `this` stands at the number
  record StandsFree (e : ExprId) : Type 0 where
    tree : ExprTree
    stands : StandsAt values e tree
    free : HoldsNoThis tree

  stand_free : (ids : List ExprId) (ts : ExprTrees) → StandAt values ids ts → HoldNoThis ts → All StandsFree ids
  stand_free ids no_expression is free = subst (All StandsFree) (sym is) (All-nil StandsFree)
  stand_free ids (and_expression t ts) (first, more, is, one, rest) free =
      subst (All StandsFree) (sym is) (All-cons StandsFree first more (record { tree = t; stands = one; free = free.0 }) (stand_free more ts rest free.1))

  not_this : (e : ExprId) (t : ExprTree) → StandsAt values e t → HoldsNoThis t → is_this b e ≡ false
  not_this e (Node s v p ts) (ids, here, parts) free =
      let x = expression_stands b e s v p ids here in
      ap (λ (o : Option TExpr). is_this_kind (kind_in o)) x.at ∙ this_of_kind x.expression.kind ∙ ap is_this_shape x.shape ∙ free.0

  -- what stands in it is free too
  operand_free : (e o : ExprId) (x : TExpr) (t : ExprTree) → StandsAt values e t → HoldsNoThis t → expression_at b e ≡ Some x → Contains (operands x.kind) o → StandsFree o
  operand_free e o x (Node s v p ts) (ids, here, parts) free at member =
      let y = expression_stands b e s v p ids here in
      let same : y.expression ≡ x = same_in y.expression x (sym y.at ∙ at) in
      let numbers : operands x.kind ≡ ids = ap (λ (z : TExpr). operands z.kind) (sym same) ∙ y.parts in
      All-contains StandsFree ids o (stand_free ids ts parts free.1) (subst (λ (os : List ExprId). Contains os o) numbers member)

  lacks : (u e : ExprId) → StandsIn b u e → StandsFree e → is_this b u ≡ false
  lacks u e itself free = not_this u free.tree free.stands free.free
  lacks u e (within f o x at member rest) free = lacks u o rest (operand_free f o x free.tree free.stands free.free at member)

  all_lack : (ids : List ExprId) (ts : ExprTrees) → StandAt values ids ts → HoldNoThis ts → All (LacksThis b) ids
  all_lack ids no_expression is free = subst (All (LacksThis b)) (sym is) (All-nil (LacksThis b))
  all_lack ids (and_expression t ts) (first, more, is, one, rest) free =
      subst (All (LacksThis b)) (sym is) (All-cons (LacksThis b) first more (λ u stands. lacks u first stands (record { tree = t; stands = one; free = free.0 })) (all_lack more ts rest free.1))

-- ---- laid cells

-- expressions stand at the numbers of the cell, and where it is a super call there is no `this` in them
record IsPassingCell (values : List Cell) (x : StatementCell) : Type 0 where
  parts : ExprTrees
  stand : StandAt values x.expressions parts
  passes : FormPassesNoThis x.form parts

longer : {X : Type 0} (before xs : List X) (n k : ℕ) → length before ≡ n → length xs ≡ k → length (before ++ xs) ≡ n + k
longer before xs n k e d = length-append before xs ∙ ap (λ j. j + length xs) e ∙ ap (λ j. n + j) d

along : (xs ys : List Cell) (those : List StatementCell) → xs ≡ ys → All (IsPassingCell xs) those → All (IsPassingCell ys) those
along xs ys those e h = subst (λ (cells : List Cell). All (IsPassingCell cells) those) e h

mutual
  cell_passes : (m n : ℕ) (before after : List Cell) (t : StmtTree) → length before ≡ n → TreePassesNoThis t → All (IsPassingCell (before ++ flat_expressions n t ++ after)) (flat_statement m n t)
  cell_passes m n before after (Statement f p es ss) e passes =
      let k : ℕ = n + sizes es in
      let x : StatementCell = record { form = f; pos = p; expressions = roots n es; statements = statement_roots m ss } in
      let rest : List Cell = flats_expressions k ss in
      let whole : List Cell = before ++ (flats n es ++ rest) ++ after in
      let stand : StandAt whole (roots n es) es = subst (λ (cells : List Cell). StandAt cells (roots n es) es) (first_inside before (flats n es) rest after) (laid_stand n before (rest ++ after) es e) in
      All-append (IsPassingCell whole) (flat_statements m k ss) (x ∷ [])
      (along _ whole (flat_statements m k ss) (more_inside before (flats n es) rest after) (cells_pass m k (before ++ flats n es) after ss (longer before (flats n es) n (sizes es) e (length_flats n es)) passes.1))
      (All-cons (IsPassingCell whole) x [] (record { parts = es; stand = stand; passes = passes.0 }) (All-nil (IsPassingCell whole)))

  cells_pass : (m n : ℕ) (before after : List Cell) (ts : StmtTrees) → length before ≡ n → TreesPassNoThis ts → All (IsPassingCell (before ++ flats_expressions n ts ++ after)) (flat_statements m n ts)
  cells_pass m n before after no_statement e passes = All-nil (IsPassingCell (before ++ [] ++ after))
  cells_pass m n before after (and_statement t ts) e passes =
      let j : ℕ = m + statement_size t in
      let k : ℕ = n + expression_count t in
      let rest : List Cell = flats_expressions k ts in
      let whole : List Cell = before ++ (flat_expressions n t ++ rest) ++ after in
      All-append (IsPassingCell whole) (flat_statement m n t) (flat_statements j k ts)
      (along _ whole (flat_statement m n t) (first_inside before (flat_expressions n t) rest after) (cell_passes m n before (rest ++ after) t e passes.0))
      (along _ whole (flat_statements j k ts) (more_inside before (flat_expressions n t) rest after) (cells_pass j k (before ++ flat_expressions n t) after ts (longer before (flat_expressions n t) n (expression_count t) e (length_flat_expressions n t)) passes.1))

-- ---- the statements of the body

all_at : {X : Type 0} (P : X → Type 0) (xs : List X) (k : ℕ) (x : X) → All P xs → slice_get xs k ≡ Some x → P x
all_at P [] k x all e = absurd (none_is_some x e)
all_at P (y ∷ ys) zero x all e = subst P (same_in y x e) (All-head P y ys all)
all_at P (y ∷ ys) (suc k) x all e = all_at P ys k x (All-tail P y ys all) e

kind_passes : (b : Body) (k : StatementKind) (ts : ExprTrees) → StandAt (cells_of b.expressions.items) (expressions_in k) ts → FormPassesNoThis (form_in k) ts → PassesNoThis b k
kind_passes b (kinds.Block ss end) ts stand passes = tt
kind_passes b (kinds.SuperCall c) ts stand passes = all_lack b c.arguments.items ts stand passes
kind_passes b k ts stand passes = tt

pub laid_passes : (b : Body) (ts : StmtTrees) → IsLaid b ts → TreesPassNoThis ts → (s : StmtId) (x : TStmt) → statement_at b s ≡ Some x → PassesNoThis b x.kind
laid_passes b ts laid passes s x found =
    let table : List StatementCell = statement_cells b.statements.items in
    let values : List Cell = cells_of b.expressions.items in
    let flat : All (IsPassingCell (flats_expressions 0 ts)) (flat_statements 0 0 ts) = along ([] ++ flats_expressions 0 ts ++ []) (flats_expressions 0 ts) (flat_statements 0 0 ts) (append-nil (flats_expressions 0 ts)) (cells_pass 0 0 [] [] ts refl passes) in
    let cells : All (IsPassingCell values) table = subst (λ (xs : List StatementCell). All (IsPassingCell values) xs) (sym laid.statements) (along (flats_expressions 0 ts) values (flat_statements 0 0 ts) (sym laid.expressions) flat) in
    let there : slice_get table s.0 ≡ Some (statement_cell x) = slice_get-map statement_cell b.statements.items s.0 ∙ ap (λ (o : Option TStmt). option_map statement_cell o) found in
    let cell = all_at (IsPassingCell values) table s.0 (statement_cell x) cells there in
    kind_passes b x.kind cell.parts cell.stand cell.passes
