-- Each cell of laid typed statements has expressions over which its form is typed.
use Rattle.std.proofs.Common.{◌≡◌, ◌∙◌, ◌+◌, ◌++◌, ◌∷◌, [], ℕ, zero, suc, List, Option, Some, All, length, slice_get, option_map, refl, sym, subst, ap}
use Rattle.std.proofs.lemmas.List.{append-nil, length-append}
use Rattle.std.proofs.lemmas.List.Elements.{All-append, All-cons, All-head, All-nil, All-tail}
use Rattle.std.proofs.lemmas.Option.{slice_get-map}
use Rattle.program_model.specs.declared.kinds.StmtId.{StmtId}
use Rattle.program_model.specs.declared.program.Method.{Method}
use Rattle.program_model.specs.declared.tree.Body.{Body}
use Rattle.program_model.specs.declared.tree.TStmt.{TStmt}
use Rattle.program_model.specs.Lookups.{statement_at}
use Rattle.program_model.specs.Trees.{expressions_in}
use Rattle.program_model.specs.Typing.{IsTypedStatement}
use Rattle.java_typed_trees.specs.ExpressionTrees.{ExprTrees}
use Rattle.java_typed_trees.specs.StatementTrees.{StmtTree, StmtTrees, Statement, no_statement, and_statement}
use Rattle.java_laying.specs.Bodies.{IsLaid}
use Rattle.java_laying.specs.Cells.{Cell, cells_of}
use Rattle.java_laying.specs.Flat.{flats, roots, sizes}
use Rattle.java_laying.specs.Forest.{StandAt}
use Rattle.java_laying.specs.StatementCells.{StatementCell, form_in, statement_cell, statement_cells}
use Rattle.java_laying.specs.StatementFlat.{expression_count, flat_expressions, flat_statement, flat_statements, flats_expressions, statement_roots, statement_size}
use Rattle.java_laying.proofs.BodyLaws.{has_operands, has_parts}
use Rattle.java_laying.proofs.Forests.{laid_stand, length_flats}
use Rattle.java_laying.proofs.Joins.{first_inside, more_inside}
use Rattle.java_laying.proofs.StatementForests.{length_flat_expressions}
use Rattle.java_typing_laws.specs.StatementExpressions.{HasTypedTrees, HaveTypedTrees}
use Rattle.java_typing_laws.specs.TypedTrees.{Part, parts_in}
use Rattle.java_typing_laws.specs.TypingContexts.{TypingContext}
use Rattle.java_typing_laws.proofs.Conversions.{none_is_some, same_in}
use Rattle.java_typing_laws.proofs.LaidCells.{laid_is_typed}
use Rattle.java_typing_laws.specs.TypedBodies.{HasTypedTables, IsBodyOfMethod}
use Rattle.java_typing_laws.specs.TypedForms.{IsTypedForm}
use Rattle.java_typing_laws.specs.TypedStatements.{AreTypedStatementTrees, IsTypedStatementTree}
use Rattle.java_typing_laws.proofs.LaidParts.{parts_stand}
use Rattle.java_typing_laws.proofs.StatementKinds.{statement_law}

-- ---- laid cells

-- expressions stand at the numbers of the cell, and its form is typed over them
record IsTypedCell (c : TypingContext) (m : Method) (values : List Cell) (x : StatementCell) : Type 0 where
  parts : ExprTrees
  stand : StandAt values x.expressions parts
  typed : IsTypedForm c m x.form (parts_in parts)

longer : {X : Type 0} (before xs : List X) (n k : ℕ) → length before ≡ n → length xs ≡ k → length (before ++ xs) ≡ n + k
longer before xs n k e d = length-append before xs ∙ ap (λ j. j + length xs) e ∙ ap (λ j. n + j) d

along : (c : TypingContext) (m : Method) (xs ys : List Cell) (those : List StatementCell) → xs ≡ ys → All (IsTypedCell c m xs) those → All (IsTypedCell c m ys) those
along c m xs ys those e h = subst (λ (cells : List Cell). All (IsTypedCell c m cells) those) e h

mutual
  cell_typed : (c : TypingContext) (h : Method) (m n : ℕ) (before after : List Cell) (t : StmtTree) → length before ≡ n → IsTypedStatementTree c h t → All (IsTypedCell c h (before ++ flat_expressions n t ++ after)) (flat_statement m n t)
  cell_typed c h m n before after (Statement f p es ss) e typed =
      let k : ℕ = n + sizes es in
      let x : StatementCell = record { form = f; pos = p; expressions = roots n es; statements = statement_roots m ss } in
      let rest : List Cell = flats_expressions k ss in
      let whole : List Cell = before ++ (flats n es ++ rest) ++ after in
      let stand : StandAt whole (roots n es) es = subst (λ (cells : List Cell). StandAt cells (roots n es) es) (first_inside before (flats n es) rest after) (laid_stand n before (rest ++ after) es e) in
      All-append (IsTypedCell c h whole) (flat_statements m k ss) (x ∷ [])
      (along c h _ whole (flat_statements m k ss) (more_inside before (flats n es) rest after) (cells_typed c h m k (before ++ flats n es) after ss (longer before (flats n es) n (sizes es) e (length_flats n es)) typed.2))
      (All-cons (IsTypedCell c h whole) x [] (record { parts = es; stand = stand; typed = typed.0 }) (All-nil (IsTypedCell c h whole)))

  cells_typed : (c : TypingContext) (h : Method) (m n : ℕ) (before after : List Cell) (ts : StmtTrees) → length before ≡ n → AreTypedStatementTrees c h ts → All (IsTypedCell c h (before ++ flats_expressions n ts ++ after)) (flat_statements m n ts)
  cells_typed c h m n before after no_statement e typed = All-nil (IsTypedCell c h (before ++ [] ++ after))
  cells_typed c h m n before after (and_statement t ts) e typed =
      let j : ℕ = m + statement_size t in
      let k : ℕ = n + expression_count t in
      let rest : List Cell = flats_expressions k ts in
      let whole : List Cell = before ++ (flat_expressions n t ++ rest) ++ after in
      All-append (IsTypedCell c h whole) (flat_statement m n t) (flat_statements j k ts)
      (along c h _ whole (flat_statement m n t) (first_inside before (flat_expressions n t) rest after) (cell_typed c h m n before (rest ++ after) t e typed.0))
      (along c h _ whole (flat_statements j k ts) (more_inside before (flat_expressions n t) rest after) (cells_typed c h j k (before ++ flat_expressions n t) after ts (longer before (flat_expressions n t) n (expression_count t) e (length_flat_expressions n t)) typed.1))

-- ---- the statements of the body

all_at : {X : Type 0} (P : X → Type 0) (xs : List X) (k : ℕ) (x : X) → All P xs → slice_get xs k ≡ Some x → P x
all_at P [] k x all e = absurd (none_is_some x e)
all_at P (y ∷ ys) zero x all e = subst P (same_in y x e) (All-head P y ys all)
all_at P (y ∷ ys) (suc k) x all e = all_at P ys k x (All-tail P y ys all) e

statement_typed : (c : TypingContext) (m : Method) (b : Body) (x : TStmt) → IsBodyOfMethod c m b → IsTypedCell c m (cells_of b.expressions.items) (statement_cell x) → IsTypedStatement c.program b x.kind
statement_typed c m b x is h = statement_law c m b is x.kind (subst (λ (parts : List Part). IsTypedForm c m (form_in x.kind) parts) (parts_stand b (expressions_in x.kind) h.parts h.stand) h.typed)

laid_statement_typed : (c : TypingContext) (m : Method) (b : Body) (ts : StmtTrees) → IsBodyOfMethod c m b → IsLaid b ts → AreTypedStatementTrees c m ts → (s : StmtId) (x : TStmt) → statement_at b s ≡ Some x → IsTypedStatement c.program b x.kind
laid_statement_typed c m b ts is laid typed s x found =
    let table : List StatementCell = statement_cells b.statements.items in
    let values : List Cell = cells_of b.expressions.items in
    let flat : All (IsTypedCell c m (flats_expressions 0 ts)) (flat_statements 0 0 ts) = along c m ([] ++ flats_expressions 0 ts ++ []) (flats_expressions 0 ts) (flat_statements 0 0 ts) (append-nil (flats_expressions 0 ts)) (cells_typed c m 0 0 [] [] ts refl typed) in
    let cells : All (IsTypedCell c m values) table = subst (λ (xs : List StatementCell). All (IsTypedCell c m values) xs) (sym laid.statements) (along c m (flats_expressions 0 ts) values (flat_statements 0 0 ts) (sym laid.expressions) flat) in
    let there : slice_get table s.0 ≡ Some (statement_cell x) = slice_get-map statement_cell b.statements.items s.0 ∙ ap (λ (o : Option TStmt). option_map statement_cell o) found in
    statement_typed c m b x is (all_at (IsTypedCell c m values) table s.0 (statement_cell x) cells there)

-- ---- the expressions of the body

mutual
  has_typed_trees : (c : TypingContext) (m : Method) (t : StmtTree) → IsTypedStatementTree c m t → HasTypedTrees c t
  has_typed_trees c m (Statement f p es ss) h = (h.1, have_typed_trees c m ss h.2)

  have_typed_trees : (c : TypingContext) (m : Method) (ts : StmtTrees) → AreTypedStatementTrees c m ts → HaveTypedTrees c ts
  have_typed_trees c m no_statement h = tt
  have_typed_trees c m (and_statement t ts) h = (has_typed_trees c m t h.0, have_typed_trees c m ts h.1)

pub body_is_typed : (c : TypingContext) (m : Method) (b : Body) (ts : StmtTrees) → IsBodyOfMethod c m b → IsLaid b ts → AreTypedStatementTrees c m ts → HasTypedTables c.program b
body_is_typed c m b ts is laid typed = record {
  statements = laid_statement_typed c m b ts is laid typed;
  expressions = laid_is_typed c b ts is.body laid (have_typed_trees c m ts typed);
  parts = has_parts b ts laid;
  operands = has_operands b ts laid;
}
