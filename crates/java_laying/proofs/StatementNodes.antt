-- A statement's tree in memory as a node over the trees of its lists.
use Rattle.std.proofs.Common.{◌≡◌, rules, refl, ℕ, ◌+◌, ◌++◌, ◌∷◌, [], List, map, length, ap, sym, ◌∙◌, subst, arith}
use Rattle.std.proofs.lemmas.List.{append_assoc, map-append}
use Rattle.program_model.specs.declared.kinds.ExprId.{ExprId}
use Rattle.program_model.specs.declared.kinds.StmtId.{StmtId}
use Rattle.program_model.specs.declared.tree.TStmt.{TStmt}
use Rattle.program_model.specs.declared.tree.StatementKind.{StatementKind}
use Rattle.program_model.specs.Trees.{expressions_in, statements_in}
use Rattle.java_typed_trees.specs.declared.statements.StatementTree as stmt
use Rattle.java_typed_trees.specs.declared.statements.StatementTree.{StatementTree, out-StatementTree, the_lemmas}
use Rattle.java_typed_trees.specs.ExpressionTrees.{ExprTrees, expressions, tree_of}
use Rattle.java_typed_trees.specs.WellFormed.{AreWellFormed, count}
use Rattle.java_typed_trees.specs.StatementTrees.{StmtTrees, Statement, form_of, no_statement, and_statement, statement_of, statements}
use Rattle.java_typed_trees.specs.WellFormedStatements.{AreWellFormedStatements, IsWellFormedStatement, TakesParts, count_statements}
use Rattle.java_typed_trees.proofs.Parts.{statements_are_items}
use Rattle.java_laying.specs.Cells.{Cell}
use Rattle.java_laying.specs.Flat.{flats, roots, sizes}
use Rattle.java_laying.specs.StatementCells.{StatementCell, form_in, statement_cell, statement_cells}
use Rattle.java_laying.specs.StatementFlat.{expression_count, expression_counts, flat_expressions, flat_statement, flat_statements, flats_expressions, statement_root, statement_roots, statement_size, statement_sizes}

abbrev pub values_of : StatementTree → ExprTrees
values_of t = expressions (map tree_of (out-StatementTree t).expressions.items)

abbrev pub inner_of : StatementTree → StmtTrees
inner_of t = statements (map statement_of (out-StatementTree t).statements.items)

pub statement_is_node : (t : StatementTree) → statement_of t ≡ Statement (form_of (out-StatementTree t).shape) (out-StatementTree t).pos (values_of t) (inner_of t)
statement_is_node (stmt.StatementTree' s p es shape all) = search (rules, the_lemmas, statements_are_items)

pub takes_parts_of_statement : (t : StatementTree) → IsWellFormedStatement (statement_of t) → TakesParts (form_of (out-StatementTree t).shape) (count (values_of t)) (count_statements (inner_of t))
takes_parts_of_statement t h = (subst IsWellFormedStatement (statement_is_node t) h).0

pub values_well_formed : (t : StatementTree) → IsWellFormedStatement (statement_of t) → AreWellFormed (values_of t)
values_well_formed t h = (subst IsWellFormedStatement (statement_is_node t) h).1

pub inner_well_formed : (t : StatementTree) → IsWellFormedStatement (statement_of t) → AreWellFormedStatements (inner_of t)
inner_well_formed t h = (subst IsWellFormedStatement (statement_is_node t) h).2

pub size_of_statement : (t : StatementTree) → statement_size (statement_of t) ≡ statement_sizes (inner_of t) + 1
size_of_statement t = ap statement_size (statement_is_node t)

pub count_of_statement : (t : StatementTree) → expression_count (statement_of t) ≡ sizes (values_of t) + expression_counts (inner_of t)
count_of_statement t = ap expression_count (statement_is_node t)

pub count_of_statement_roots : (m : ℕ) (ts : StmtTrees) → length (statement_roots m ts) ≡ count_statements ts
count_of_statement_roots m no_statement = refl
count_of_statement_roots m (and_statement t ts) = rw (count_of_statement_roots (m + statement_size t) ts) (omega arith)

abbrev pub with_statement_number : ℕ → StmtId
with_statement_number k = record { 0 = k }

pub number_of_statement : (k m : ℕ) (t : StatementTree) → k ≡ m + statement_sizes (inner_of t) → with_statement_number k ≡ statement_root m (statement_of t)
number_of_statement k m t e = ap with_statement_number e ∙ sym (ap (statement_root m) (statement_is_node t))

-- the statement as its table holds it
abbrev pub statement_entry : StatementTree → StatementKind → TStmt
statement_entry t kind = record { kind = kind; pos = (out-StatementTree t).pos }

-- the cell of the statement, where its parts have these numbers
abbrev pub cell_with : StatementTree → List ExprId → List StmtId → StatementCell
cell_with t es ss = record { form = form_of (out-StatementTree t).shape; pos = (out-StatementTree t).pos; expressions = es; statements = ss }

cell_of_statement : (t : StatementTree) (kind : StatementKind) (es : List ExprId) (ss : List StmtId) → form_in kind ≡ form_of (out-StatementTree t).shape → expressions_in kind ≡ es → statements_in kind ≡ ss → statement_cell (statement_entry t kind) ≡ cell_with t es ss
cell_of_statement t kind es ss form e s = rw (form, e, s) refl

pub cells_with_statement : (old laid : List TStmt) (n : ℕ) (t : StatementTree) (kind : StatementKind) → statement_cells laid ≡ statement_cells old ++ flat_statements (length old) (n + sizes (values_of t)) (inner_of t) → form_in kind ≡ form_of (out-StatementTree t).shape → expressions_in kind ≡ roots n (values_of t) → statements_in kind ≡ statement_roots (length old) (inner_of t) → statement_cells (laid ++ statement_entry t kind ∷ []) ≡ statement_cells old ++ flat_statement (length old) n (statement_of t)
cells_with_statement old laid n t kind cells form e s =
    let inner : List StatementCell = flat_statements (length old) (n + sizes (values_of t)) (inner_of t) in
    map-append statement_cell laid (statement_entry t kind ∷ [])
    ∙ ap (λ (xs : List StatementCell). xs ++ statement_cell (statement_entry t kind) ∷ []) cells
    ∙ append_assoc (statement_cells old) inner (statement_cell (statement_entry t kind) ∷ [])
    ∙ ap (λ (x : StatementCell). statement_cells old ++ (inner ++ x ∷ [])) (cell_of_statement t kind _ _ form e s)
    ∙ ap (λ (xs : List StatementCell). statement_cells old ++ xs) (sym (ap (flat_statement (length old) n) (statement_is_node t)))

pub cells_of_inner : (old middle new : List Cell) (n k : ℕ) (t : StatementTree) → middle ≡ old ++ flats n (values_of t) → k ≡ n + sizes (values_of t) → new ≡ middle ++ flats_expressions k (inner_of t) → new ≡ old ++ flat_expressions n (statement_of t)
cells_of_inner old middle new n k t first number second =
    second
    ∙ ap (λ (xs : List Cell). xs ++ flats_expressions k (inner_of t)) first
    ∙ ap (λ j. old ++ flats n (values_of t) ++ flats_expressions j (inner_of t)) number
    ∙ append_assoc old (flats n (values_of t)) (flats_expressions (n + sizes (values_of t)) (inner_of t))
    ∙ ap (λ (xs : List Cell). old ++ xs) (sym (ap (flat_expressions n) (statement_is_node t)))
