-- A body whose tables are laid typed statements is a forest: each node has one parent, and stands before it.
use Rattle.std.proofs.Common.{◌≡◌, ◌<◌, ◌≤◌, ◌+◌, ◌++◌, ◌∷◌, [], ℕ, zero, suc, Some, List, All, map, length, flat_map, slice_get, ap, sym, ◌∙◌, subst, arith, refl, Bool, true, false, nat_eq, Option, None, option_map}
use Rattle.std.specs.List.{range_with_len}
use Rattle.std.proofs.lemmas.List.{append-nil, length-map, map-append}
use Rattle.std.proofs.lemmas.Option.{slice_get-map}
use Rattle.std.proofs.lemmas.List.Elements.{All-head, All-tail}
use Rattle.std.proofs.lemmas.Grind.{common_steps}
use Rattle.program_model.specs.declared.kinds.ExprId.{ExprId}
use Rattle.program_model.specs.declared.kinds.StmtId.{StmtId}
use Rattle.program_model.specs.declared.tree.Body.{Body}
use Rattle.program_model.specs.declared.tree.TExpr.{TExpr}
use Rattle.program_model.specs.declared.tree.TStmt.{TStmt}
use Rattle.program_model.specs.Lookups.{expression_at, statement_at}
use Rattle.program_model.specs.Trees.{HasOperands, HasParts, IsEachOnce, IsForest, expression_children, expressions_in, operands, statement_children, statements_in}
use Rattle.java_typed_trees.specs.StatementTrees.{StmtTrees}
use Rattle.java_laying.specs.Cells.{Cell, cell_of, cells_of}
use Rattle.java_laying.specs.Forest.{FollowParts, part_numbers, times}
use Rattle.java_laying.specs.StatementCells.{StatementCell, statement_cell}
use Rattle.java_laying.specs.StatementFlat.{expression_counts, flat_statements, flats_expressions, statement_roots, statement_sizes}
use Rattle.java_laying.specs.StatementForest.{FollowInner, StatementsStandAt, expression_numbers, inner_numbers}
use Rattle.java_laying.specs.Bodies.{HasStatements, IsLaid}
use Rattle.java_laying.proofs.Parents.{numbers_of, times_append}
use Rattle.java_laying.proofs.StatementForests.{laid_statements_stand, length_flat_statements, length_flats_expressions}
use Rattle.java_laying.proofs.StatementParents.{below_of_all, expressions_have_one_parents, follow_all_parts, follow_inners, statement_ids, statement_roots_below, statements_have_one_parents}

flat_map_of_map : {X Y A : Type 0} (g : Y → List A) (f : X → Y) (xs : List X) → flat_map g (map f xs) ≡ flat_map (λ x. g (f x)) xs
flat_map_of_map g f [] = refl
flat_map_of_map g f (x ∷ xs) = ap (λ ys. g (f x) ++ ys) (flat_map_of_map g f xs)

get_of_map : {X Y : Type 0} (f : X → Y) (xs : List X) (k : ℕ) (x : X) → slice_get xs k ≡ Some x → slice_get (map f xs) k ≡ Some (f x)
get_of_map f xs k x e = slice_get-map f xs k ∙ ap (λ o. option_map f o) e

time_before : (k a n : ℕ) → k < a → times k (range_with_len a n) ≡ 0
time_before k a zero h = refl
time_before k a (suc n) h =
    let later : k < a + 1 = omega arith in
    times_append k (a ∷ []) (range_with_len (a + 1) n) ∙ grind (arith, common_steps, time_before k (a + 1) n later)

-- each number of a range stands once in it
once : (k a n : ℕ) → a ≤ k → k < a + n → times k (range_with_len a n) ≡ 1
once k a zero h g = absurd (omega arith)
once k a (suc n) h g = times_append k (a ∷ []) (range_with_len (a + 1) n) ∙ go (nat_eq a k) refl (λ first last. once k (a + 1) n first last)
  where
    go : (t : Bool) → nat_eq a k ≡ t → (a + 1 ≤ k → k < a + 1 + n → times k (range_with_len (a + 1) n) ≡ 1) → times k (a ∷ []) + times k (range_with_len (a + 1) n) ≡ 1
    go true is later =
        let before : k < a + 1 = grind (arith, common_steps) in
        grind (arith, common_steps, time_before k (a + 1) n before)
    go false is later =
        let first : a + 1 ≤ k = grind (arith, common_steps) in
        let last : k < a + 1 + n = omega arith in
        grind (arith, common_steps, later first last)

expression_children_counted : (b : Body) (ts : StmtTrees) → IsLaid b ts → (k : ℕ) → times k (expression_children b) ≡ times k (range_with_len 0 (expression_counts ts))
expression_children_counted b ts laid k =
    let of_statements : List ExprId = flat_map (λ s. expressions_in s.kind) b.statements.items in
    let of_expressions : List ExprId = flat_map (λ e. operands e.kind) b.expressions.items in
    let first : numbers_of of_statements ≡ expression_numbers (flat_statements 0 0 ts) = ap numbers_of (sym (flat_map_of_map (λ (c : StatementCell). c.expressions) statement_cell b.statements.items)) ∙ ap expression_numbers laid.statements in
    let second : numbers_of of_expressions ≡ part_numbers (flats_expressions 0 ts) = ap numbers_of (sym (flat_map_of_map (λ (c : Cell). c.parts) cell_of b.expressions.items)) ∙ ap part_numbers laid.expressions in
    ap (times k) (map-append (λ (e : ExprId). e.0) of_statements of_expressions)
    ∙ times_append k (numbers_of of_statements) (numbers_of of_expressions)
    ∙ ap (λ xs. times k xs + times k (numbers_of of_expressions)) first
    ∙ ap (λ xs. times k (expression_numbers (flat_statements 0 0 ts)) + times k xs) second
    ∙ expressions_have_one_parents 0 0 ts k

sum_turned : (x y z : ℕ) → y + x ≡ z → x + y ≡ z
sum_turned x y z e = omega arith

statement_children_counted : (b : Body) (ts : StmtTrees) → IsLaid b ts → (k : ℕ) → times k (statement_children b) ≡ times k (range_with_len 0 (statement_sizes ts))
statement_children_counted b ts laid k =
    let of_statements : List StmtId = flat_map (λ s. statements_in s.kind) b.statements.items in
    let second : statement_ids of_statements ≡ inner_numbers (flat_statements 0 0 ts) = ap statement_ids (sym (flat_map_of_map (λ (c : StatementCell). c.statements) statement_cell b.statements.items)) ∙ ap inner_numbers laid.statements in
    ap (times k) (map-append (λ (s : StmtId). s.0) b.stmts.items of_statements)
    ∙ times_append k (statement_ids b.stmts.items) (statement_ids of_statements)
    ∙ ap (λ xs. times k (statement_ids xs) + times k (statement_ids of_statements)) laid.own
    ∙ ap (λ xs. times k (statement_ids (statement_roots 0 ts)) + times k xs) second
    ∙ sum_turned _ _ _ (statements_have_one_parents 0 0 ts k)

pub count_of_statements : (b : Body) (ts : StmtTrees) → IsLaid b ts → length b.statements.items ≡ statement_sizes ts
count_of_statements b ts laid = sym (length-map b.statements.items statement_cell) ∙ ap length laid.statements ∙ length_flat_statements 0 0 ts

pub count_of_expressions : (b : Body) (ts : StmtTrees) → IsLaid b ts → length b.expressions.items ≡ expression_counts ts
count_of_expressions b ts laid = sym (length-map b.expressions.items cell_of) ∙ ap length laid.expressions ∙ length_flats_expressions 0 ts

each_once : (n : ℕ) (numbers : List ℕ) → ((k : ℕ) → times k numbers ≡ times k (range_with_len 0 n)) → IsEachOnce n numbers
each_once n numbers same k less =
    let low : 0 ≤ k = omega arith in
    let high : k < 0 + n = omega arith in
    same k ∙ once k 0 n low high

-- each node has one parent, or is a statement of the body itself
pub laid_is_forest : (b : Body) (ts : StmtTrees) → IsLaid b ts → statement_sizes ts < 1000000000 → expression_counts ts < 1000000000 → IsForest b
laid_is_forest b ts laid small short =
    let statements_counted : length b.statements.items ≡ statement_sizes ts = count_of_statements b ts laid in
    let expressions_counted : length b.expressions.items ≡ expression_counts ts = count_of_expressions b ts laid in
    let reach : 0 + statement_sizes ts ≡ length b.statements.items = omega arith in
    record {
      small = rw statements_counted small;
      short = rw expressions_counted short;
      own = subst (λ (ss : List StmtId). All (λ s. s.0 < length b.statements.items) ss) (sym laid.own) (subst (λ n. All (λ (s : StmtId). s.0 < n) (statement_roots 0 ts)) reach (statement_roots_below 0 ts));
      one_parent = subst (λ n. IsEachOnce n (expression_children b)) (sym expressions_counted) (each_once (expression_counts ts) (expression_children b) (expression_children_counted b ts laid));
      one_block = subst (λ n. IsEachOnce n (statement_children b)) (sym statements_counted) (each_once (statement_sizes ts) (statement_children b) (statement_children_counted b ts laid));
    }

none_is_some : {X : Type 0} (x : X) → ◌≡◌ {A = Option X} None (Some x) → ⊥
none_is_some x h = cc

some_same : {X : Type 0} (x y : X) → ◌≡◌ {A = Option X} (Some x) (Some y) → x ≡ y
some_same x y h = cc

parts_at : (n : ℕ) (cells : List Cell) (k : ℕ) (c : Cell) → FollowParts n cells → slice_get cells k ≡ Some c → All (λ e. e.0 < n + k) c.parts
parts_at n [] k c h e = absurd (none_is_some c e)
parts_at n (x ∷ xs) zero c h e =
    let same : x ≡ c = some_same x c e in
    let start : n ≡ n + 0 = omega arith in
    subst (λ (y : Cell). All (λ o. o.0 < n + 0) y.parts) same (subst (λ m. All (λ (o : ExprId). o.0 < m) x.parts) start h.0)
parts_at n (x ∷ xs) (suc k) c h e =
    let next : n + 1 + k ≡ n + suc k = omega arith in
    subst (λ m. All (λ (o : ExprId). o.0 < m) c.parts) next (parts_at (n + 1) xs k c h.1 e)

inner_at : (m : ℕ) (cells : List StatementCell) (k : ℕ) (c : StatementCell) → FollowInner m cells → slice_get cells k ≡ Some c → All (λ s. s.0 < m + k) c.statements
inner_at m [] k c h e = absurd (none_is_some c e)
inner_at m (x ∷ xs) zero c h e =
    let same : x ≡ c = some_same x c e in
    let start : m ≡ m + 0 = omega arith in
    subst (λ (y : StatementCell). All (λ s. s.0 < m + 0) y.statements) same (subst (λ k. All (λ (s : StmtId). s.0 < k) x.statements) start h.0)
inner_at m (x ∷ xs) (suc k) c h e =
    let next : m + 1 + k ≡ m + suc k = omega arith in
    subst (λ j. All (λ (s : StmtId). s.0 < j) c.statements) next (inner_at (m + 1) xs k c h.1 e)

all_at : {X : Type 0} (P : X → Type 0) (xs : List X) (k : ℕ) (x : X) → All P xs → slice_get xs k ≡ Some x → P x
all_at P [] k x all e = absurd (none_is_some x e)
all_at P (y ∷ ys) zero x all e = subst P (some_same y x e) (All-head P y ys all)
all_at P (y ∷ ys) (suc k) x all e = all_at P ys k x (All-tail P y ys all) e

-- the parts of each expression stand before it
pub has_operands : (b : Body) (ts : StmtTrees) → IsLaid b ts → (e : ExprId) (x : TExpr) → expression_at b e ≡ Some x → HasOperands e x.kind
has_operands b ts laid e x found =
    let there : slice_get (flats_expressions 0 ts) e.0 ≡ Some (cell_of x) = ap (λ cells. slice_get cells e.0) (sym laid.expressions) ∙ get_of_map cell_of b.expressions.items e.0 x found in
    let start : 0 + e.0 ≡ e.0 = omega arith in
    subst (λ m. All (λ (o : ExprId). o.0 < m) (operands x.kind)) start (parts_at 0 (flats_expressions 0 ts) e.0 (cell_of x) (follow_all_parts 0 ts) there)

-- the parts of each statement are in the tables, and the statements in it stand before it
pub has_parts : (b : Body) (ts : StmtTrees) → IsLaid b ts → (s : StmtId) (x : TStmt) → statement_at b s ≡ Some x → HasParts b s x.kind
has_parts b ts laid s x found =
    let there : slice_get (flat_statements 0 0 ts) s.0 ≡ Some (statement_cell x) = ap (λ cells. slice_get cells s.0) (sym laid.statements) ∙ get_of_map statement_cell b.statements.items s.0 x found in
    let start : 0 + s.0 ≡ s.0 = omega arith in
    let counted : length b.expressions.items ≡ expression_counts ts = count_of_expressions b ts laid in
    let within : 0 + expression_counts ts ≤ length b.expressions.items = omega arith in (
      subst (λ m. All (λ (t : StmtId). t.0 < m) (statements_in x.kind)) start (inner_at 0 (flat_statements 0 0 ts) s.0 (statement_cell x) (follow_inners 0 0 ts) there),
      all_at (λ (c : StatementCell). All (λ (e : ExprId). e.0 < length b.expressions.items) c.expressions) (flat_statements 0 0 ts) s.0 (statement_cell x) (below_of_all 0 0 (length b.expressions.items) ts within) there,
    )

-- what stands in the tables at the numbers of the body's own statements is the statements again
pub has_statements : (b : Body) (ts : StmtTrees) → IsLaid b ts → HasStatements b ts
has_statements b ts laid =
    let stand : StatementsStandAt (flat_statements 0 0 ts) (flats_expressions 0 ts) (statement_roots 0 ts) ts =
    subst (λ (own : List StatementCell). StatementsStandAt own (flats_expressions 0 ts) (statement_roots 0 ts) ts) (append-nil (flat_statements 0 0 ts))
    (subst (λ (values : List Cell). StatementsStandAt (flat_statements 0 0 ts ++ []) values (statement_roots 0 ts) ts) (append-nil (flats_expressions 0 ts)) (laid_statements_stand 0 0 [] [] [] [] ts refl refl)) in
    subst (λ (own : List StatementCell). StatementsStandAt own (cells_of b.expressions.items) b.stmts.items ts) (sym laid.statements)
    (subst (λ (values : List Cell). StatementsStandAt (flat_statements 0 0 ts) values b.stmts.items ts) (sym laid.expressions)
    (subst (λ (ids : List StmtId). StatementsStandAt (flat_statements 0 0 ts) (flats_expressions 0 ts) ids ts) (sym laid.own) stand))
