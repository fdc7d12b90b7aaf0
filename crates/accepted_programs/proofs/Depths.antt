-- How a statement completes, and what it throws, follows from its parts: the depth to which a table is looked at means nothing.
use Rattle.std.proofs.Common.{◌≡◌, ◌∙◌, ◌<◌, ◌++◌, ◌∷◌, [], ℕ, zero, suc, List, Option, Some, None, All, map, flat_map, length, slice_get, refl, ap, arith}
use Rattle.std.proofs.lemmas.List.Elements.{All-head, All-tail, All-cons}
use Rattle.program_model.specs.declared.kinds.ClassId.{ClassId}
use Rattle.program_model.specs.declared.kinds.ExprId.{ExprId}
use Rattle.program_model.specs.declared.kinds.StmtId.{StmtId}
use Rattle.program_model.specs.declared.program.Program.{Program}
use Rattle.program_model.specs.declared.tree.Body.{Body}
use Rattle.program_model.specs.declared.tree.CatchClause.{CatchClause}
use Rattle.program_model.specs.declared.tree.StatementKind.{StatementKind}
use Rattle.program_model.specs.declared.tree.StatementKind.TheVariants as statements
use Rattle.program_model.specs.declared.tree.TryStatement.{TryStatement}
use Rattle.program_model.specs.declared.tree.TExpr.{TExpr}
use Rattle.program_model.specs.declared.tree.TStmt.{TStmt}
use Rattle.program_model.specs.Lookups.{expression_at, optional, statement_at}
use Rattle.program_model.specs.Trees.{expressions_in, operands, statements_in}
use Rattle.accepted_programs.specs.Completions.{Completion, and_then, completion, completion_at, completion_in, completion_to, do_completion, finally_completion, else_completion, goes_on, in_sequence, is_true_literal, loop_completion, one_among, one_of}
use Rattle.accepted_programs.specs.Exceptions.{exceptions_at, exceptions_before_finally, exceptions_in, exceptions_to, expression_exceptions, expression_exceptions_at, expression_exceptions_to, let_through, protected_exceptions, statement_exceptions, thrown_by_call, thrown_by_closing, uncaught}
use Rattle.accepted_programs.specs.TreeOrder.{PartsComeFirst}

none_is_some : {X : Type 0} {A : Type 0} (x : X) → None ≡ Some x → A
none_is_some x e = absurd (let no : None ≡ Some x = e in cc)

-- ---- lists

-- the two tell the same of the statements with numbers below the bound
abbrev AgreeBelow : {X : Type 0} → ℕ → (StmtId → X) → (StmtId → X) → Type 0
AgreeBelow n f g = (s : StmtId) → s.0 < n → f s ≡ g s

abbrev Below : ℕ → List StmtId → Type 0
Below n ss = All (λ s. s.0 < n) ss

first_below : (n : ℕ) (s : StmtId) (ss : List StmtId) → Below n (s ∷ ss) → s.0 < n
first_below n s ss h = All-head (λ (t : StmtId). t.0 < n) s ss h

more_below : (n : ℕ) (s : StmtId) (ss : List StmtId) → Below n (s ∷ ss) → Below n ss
more_below n s ss h = All-tail (λ (t : StmtId). t.0 < n) s ss h

left_below : (n : ℕ) (ss ts : List StmtId) → Below n (ss ++ ts) → Below n ss
left_below n [] ts h = λ k d in'. absurd (omega arith)
left_below n (s ∷ ss) ts h = All-cons (λ (t : StmtId). t.0 < n) s ss (first_below n s (ss ++ ts) h) (left_below n ss ts (more_below n s (ss ++ ts) h))

right_below : (n : ℕ) (ss ts : List StmtId) → Below n (ss ++ ts) → Below n ts
right_below n [] ts h = h
right_below n (s ∷ ss) ts h = right_below n ss ts (more_below n s (ss ++ ts) h)

same_map : {X : Type 0} (n : ℕ) (f g : StmtId → X) → AgreeBelow n f g → (ss : List StmtId) → Below n ss → map f ss ≡ map g ss
same_map n f g same [] h = refl
same_map n f g same (s ∷ ss) h = ap (λ x. x ∷ map f ss) (same s (first_below n s ss h)) ∙ ap (λ xs. g s ∷ xs) (same_map n f g same ss (more_below n s ss h))

same_flat : {X : Type 0} (n : ℕ) (f g : StmtId → List X) → AgreeBelow n f g → (ss : List StmtId) → Below n ss → flat_map f ss ≡ flat_map g ss
same_flat n f g same [] h = refl
same_flat n f g same (s ∷ ss) h = ap (λ x. x ++ flat_map f ss) (same s (first_below n s ss h)) ∙ ap (λ xs. g s ++ xs) (same_flat n f g same ss (more_below n s ss h))

same_clauses : {X : Type 0} (n : ℕ) (f g : StmtId → X) → AgreeBelow n f g → (cs : List CatchClause) → Below n (map (λ c. c.block) cs) → map (λ c. f c.block) cs ≡ map (λ c. g c.block) cs
same_clauses n f g same [] h = refl
same_clauses n f g same (c ∷ cs) h =
    let rest : List StmtId = map (λ c. c.block) cs in
    ap (λ x. x ∷ map (λ c. f c.block) cs) (same c.block (first_below n c.block rest h))
    ∙ ap (λ xs. g c.block ∷ xs) (same_clauses n f g same cs (more_below n c.block rest h))

same_clause_lists : {X : Type 0} (n : ℕ) (f g : StmtId → List X) → AgreeBelow n f g → (cs : List CatchClause) → Below n (map (λ c. c.block) cs) → flat_map (λ c. f c.block) cs ≡ flat_map (λ c. g c.block) cs
same_clause_lists n f g same [] h = refl
same_clause_lists n f g same (c ∷ cs) h =
    let rest : List StmtId = map (λ c. c.block) cs in
    ap (λ x. x ++ flat_map (λ c. f c.block) cs) (same c.block (first_below n c.block rest h))
    ∙ ap (λ xs. g c.block ++ xs) (same_clause_lists n f g same cs (more_below n c.block rest h))

-- ---- how statements complete

same_else : (n : ℕ) (f g : StmtId → Completion) → AgreeBelow n f g → (s : Option StmtId) → Below n (optional s) → else_completion f s ≡ else_completion g s
same_else n f g same None h = refl
same_else n f g same (Some s) h = same s (first_below n s [] h)

same_finally : (n : ℕ) (f g : StmtId → Completion) → AgreeBelow n f g → (s : Option StmtId) → Below n (optional s) → finally_completion f s ≡ finally_completion g s
same_finally n f g same None h = refl
same_finally n f g same (Some s) h = same s (first_below n s [] h)

same_completion : (n : ℕ) (f g : StmtId → Completion) → AgreeBelow n f g → (b : Body) (kind : StatementKind) → Below n (statements_in kind) → completion_in f b kind ≡ completion_in g b kind
same_completion n f g same b (statements.Block ss end) h = ap in_sequence (same_map n f g same ss.items h)
same_completion n f g same b statements.Empty h = refl
same_completion n f g same b (statements.LocalDeclaration names) h = refl
same_completion n f g same b (statements.Expression e) h = refl
same_completion n f g same b (statements.If c x y) h =
    ap (λ z. one_of z (else_completion f y)) (same x (first_below n x (optional y) h))
    ∙ ap (λ z. one_of (g x) z) (same_else n f g same y (more_below n x (optional y) h))
same_completion n f g same b (statements.While c x) h = ap (loop_completion (is_true_literal b c)) (same x (first_below n x [] h))
same_completion n f g same b (statements.Do x c) h = ap (do_completion (is_true_literal b c)) (same x (first_below n x [] h))
same_completion n f g same b (statements.For l) h = ap (loop_completion (goes_on b l.condition)) (same l.body (first_below n l.body [] h))
same_completion n f g same b (statements.Return e) h = refl
same_completion n f g same b (statements.Throw e) h = refl
same_completion n f g same b statements.Break h = refl
same_completion n f g same b statements.Continue h = refl
same_completion n f g same b (statements.Try t) h =
    let blocks : List StmtId = map (λ c. c.block) t.catches.items in
    let parts : Below n ((t.block ∷ blocks) ++ optional t.finally) = h in
    let those : Below n (t.block ∷ blocks) = left_below n (t.block ∷ blocks) (optional t.finally) parts in
    ap (λ z. and_then z (one_of (f t.block) (one_among (map (λ c. f c.block) t.catches.items)))) (same_finally n f g same t.finally (right_below n (t.block ∷ blocks) (optional t.finally) parts))
    ∙ ap (λ z. and_then (finally_completion g t.finally) (one_of z (one_among (map (λ c. f c.block) t.catches.items)))) (same t.block (first_below n t.block blocks those))
    ∙ ap (λ z. and_then (finally_completion g t.finally) (one_of (g t.block) (one_among z))) (same_clauses n f g same t.catches.items (more_below n t.block blocks those))
same_completion n f g same b (statements.SuperCall c) h = refl
same_completion n f g same b (statements.FieldInitializer e) h = refl

same_at : (b : Body) → PartsComeFirst b → (f g : StmtId → Completion) (s : StmtId) (x : Option TStmt) → statement_at b s ≡ x → AgreeBelow s.0 f g → completion_at f b x ≡ completion_at g b x
same_at b first f g s None here same = refl
same_at b first f g s (Some x) here same = same_completion s.0 f g same b x.kind (first.statements s x here)

same_depth : (b : Body) → PartsComeFirst b → (n m : ℕ) (s : StmtId) → s.0 < n → s.0 < m → completion_to n b s ≡ completion_to m b s
same_depth b first zero m s in' in'' = absurd (omega arith)
same_depth b first (suc n) zero s in' in'' = absurd (omega arith)
same_depth b first (suc n) (suc m) s in' in'' = same_at b first (completion_to n b) (completion_to m b) s (statement_at b s) refl (λ t below. same_depth b first n m t (omega arith) (omega arith))

inside : {X : Type 0} (xs : List X) (k : ℕ) (x : X) → slice_get xs k ≡ Some x → k < length xs
inside [] k x e = absurd (none_is_some x e)
inside (y ∷ ys) zero x e = omega arith
inside (y ∷ ys) (suc k) x e = let below : k < length ys = inside ys k x e in omega arith

completion_by : (b : Body) → PartsComeFirst b → (n : ℕ) → length b.statements.items ≡ n → (s : StmtId) (x : TStmt) → statement_at b s ≡ Some x → completion_to n b s ≡ completion_in (completion b) b x.kind
completion_by b first zero is s x here = let below : s.0 < length b.statements.items = inside b.statements.items s.0 x here in absurd (omega arith)
completion_by b first (suc n) is s x here =
    let below : s.0 < length b.statements.items = inside b.statements.items s.0 x here in
    ap (completion_at (completion_to n b) b) here
    ∙ same_completion s.0 (completion_to n b) (completion b) (λ t lower. same_depth b first n (length b.statements.items) t (omega arith) (omega arith)) b x.kind (first.statements s x here)

-- how a statement completes, by those in it
pub completion_law : (b : Body) → PartsComeFirst b → (s : StmtId) (x : TStmt) → statement_at b s ≡ Some x → completion b s ≡ completion_in (completion b) b x.kind
completion_law b first s x here = completion_by b first (length b.statements.items) refl s x here

-- ---- what expressions throw

abbrev ValuesBelow : ℕ → List ExprId → Type 0
ValuesBelow n es = All (λ e. e.0 < n) es

same_values : (n : ℕ) (f g : ExprId → List ClassId) → ((e : ExprId) → e.0 < n → f e ≡ g e) → (es : List ExprId) → ValuesBelow n es → flat_map f es ≡ flat_map g es
same_values n f g same [] h = refl
same_values n f g same (e ∷ es) h =
    let P : ExprId → Type 0 = λ e. e.0 < n in
    ap (λ x. x ++ flat_map f es) (same e (All-head P e es h)) ∙ ap (λ xs. g e ++ xs) (same_values n f g same es (All-tail P e es h))

same_expression_at : (p : Program) (b : Body) → PartsComeFirst b → (f g : ExprId → List ClassId) (e : ExprId) (x : Option TExpr) → expression_at b e ≡ x → ((o : ExprId) → o.0 < e.0 → f o ≡ g o) → expression_exceptions_at f p x ≡ expression_exceptions_at g p x
same_expression_at p b first f g e None here same = refl
same_expression_at p b first f g e (Some x) here same = ap (λ xs. thrown_by_call p x.kind ++ xs) (same_values e.0 f g same (operands x.kind) (first.expressions e x here))

same_value_depth : (p : Program) (b : Body) → PartsComeFirst b → (n m : ℕ) (e : ExprId) → e.0 < n → e.0 < m → expression_exceptions_to n p b e ≡ expression_exceptions_to m p b e
same_value_depth p b first zero m e in' in'' = absurd (omega arith)
same_value_depth p b first (suc n) zero e in' in'' = absurd (omega arith)
same_value_depth p b first (suc n) (suc m) e in' in'' = same_expression_at p b first (expression_exceptions_to n p b) (expression_exceptions_to m p b) e (expression_at b e) refl (λ t below. same_value_depth p b first n m t (omega arith) (omega arith))

value_by : (p : Program) (b : Body) → PartsComeFirst b → (n : ℕ) → length b.expressions.items ≡ n → (e : ExprId) (x : TExpr) → expression_at b e ≡ Some x → expression_exceptions_to n p b e ≡ thrown_by_call p x.kind ++ flat_map (expression_exceptions p b) (operands x.kind)
value_by p b first zero is e x here = let below : e.0 < length b.expressions.items = inside b.expressions.items e.0 x here in absurd (omega arith)
value_by p b first (suc n) is e x here =
    let below : e.0 < length b.expressions.items = inside b.expressions.items e.0 x here in
    ap (expression_exceptions_at (expression_exceptions_to n p b) p) here
    ∙ ap (λ xs. thrown_by_call p x.kind ++ xs) (same_values e.0 (expression_exceptions_to n p b) (expression_exceptions p b) (λ t lower. same_value_depth p b first n (length b.expressions.items) t (omega arith) (omega arith)) (operands x.kind) (first.expressions e x here))

-- what an expression throws, by its operands
pub value_law : (p : Program) (b : Body) → PartsComeFirst b → (e : ExprId) (x : TExpr) → expression_at b e ≡ Some x → expression_exceptions p b e ≡ thrown_by_call p x.kind ++ flat_map (expression_exceptions p b) (operands x.kind)
value_law p b first e x here = value_by p b first (length b.expressions.items) refl e x here

-- ---- what statements throw

abbrev Thrown : Type 0
Thrown = List ClassId

plain : (n : ℕ) (f g : StmtId → Thrown) → AgreeBelow n f g → (own values : Thrown) (ss : List StmtId) → Below n ss → own ++ values ++ flat_map f ss ≡ own ++ values ++ flat_map g ss
plain n f g same own values ss h = ap (λ xs. own ++ values ++ xs) (same_flat n f g same ss h)

same_try : (n : ℕ) (f g : StmtId → Thrown) → AgreeBelow n f g → (values : ExprId → Thrown) (p : Program) (t : TryStatement) → Below n (t.block ∷ map (λ c. c.block) t.catches.items) → exceptions_before_finally values f p t ≡ exceptions_before_finally values g p t
same_try n f g same values p t h =
    let blocks : List StmtId = map (λ c. c.block) t.catches.items in
    let opening : Thrown = flat_map values (map (λ r. r.initializer) t.resources.items) in
    ap (λ xs. uncaught p t.catches.items (opening ++ thrown_by_closing p t.resources.items ++ xs) ++ flat_map (λ c. f c.block) t.catches.items) (same t.block (first_below n t.block blocks h))
    ∙ ap (λ xs. uncaught p t.catches.items (protected_exceptions values g p t) ++ xs) (same_clause_lists n f g same t.catches.items (more_below n t.block blocks h))

same_exceptions : (n : ℕ) (f g : StmtId → Thrown) → AgreeBelow n f g → (values : ExprId → Thrown) (ends : StmtId → Completion) (p : Program) (b : Body) (kind : StatementKind) → Below n (statements_in kind) → exceptions_in values f ends p b kind ≡ exceptions_in values g ends p b kind
same_exceptions n f g same values ends p b (statements.Block ss end) h = plain n f g same [] [] ss.items h
same_exceptions n f g same values ends p b statements.Empty h = refl
same_exceptions n f g same values ends p b (statements.LocalDeclaration names) h = refl
same_exceptions n f g same values ends p b (statements.Expression e) h = refl
same_exceptions n f g same values ends p b (statements.If c x y) h = plain n f g same [] (flat_map values (c ∷ [])) (x ∷ optional y) h
same_exceptions n f g same values ends p b (statements.While c x) h = plain n f g same [] (flat_map values (c ∷ [])) (x ∷ []) h
same_exceptions n f g same values ends p b (statements.Do x c) h = plain n f g same [] (flat_map values (c ∷ [])) (x ∷ []) h
same_exceptions n f g same values ends p b (statements.For l) h = plain n f g same [] (flat_map values (expressions_in (statements.For l))) (l.body ∷ []) h
same_exceptions n f g same values ends p b (statements.Return e) h = refl
same_exceptions n f g same values ends p b (statements.Throw e) h = refl
same_exceptions n f g same values ends p b statements.Break h = refl
same_exceptions n f g same values ends p b statements.Continue h = refl
same_exceptions n f g same values ends p b (statements.Try t) h =
    let blocks : List StmtId = map (λ c. c.block) t.catches.items in
    let parts : Below n ((t.block ∷ blocks) ++ optional t.finally) = h in
    let last : Completion = finally_completion ends t.finally in
    ap (λ xs. let_through last xs ++ flat_map f (optional t.finally)) (same_try n f g same values p t (left_below n (t.block ∷ blocks) (optional t.finally) parts))
    ∙ ap (λ xs. let_through last (exceptions_before_finally values g p t) ++ xs) (same_flat n f g same (optional t.finally) (right_below n (t.block ∷ blocks) (optional t.finally) parts))
same_exceptions n f g same values ends p b (statements.SuperCall c) h = refl
same_exceptions n f g same values ends p b (statements.FieldInitializer e) h = refl

same_thrown_at : (p : Program) (b : Body) → PartsComeFirst b → (f g : StmtId → Thrown) (s : StmtId) (x : Option TStmt) → statement_at b s ≡ x → AgreeBelow s.0 f g → exceptions_at f p b x ≡ exceptions_at g p b x
same_thrown_at p b first f g s None here same = refl
same_thrown_at p b first f g s (Some x) here same = same_exceptions s.0 f g same (expression_exceptions p b) (completion b) p b x.kind (first.statements s x here)

same_thrown_depth : (p : Program) (b : Body) → PartsComeFirst b → (n m : ℕ) (s : StmtId) → s.0 < n → s.0 < m → exceptions_to n p b s ≡ exceptions_to m p b s
same_thrown_depth p b first zero m s in' in'' = absurd (omega arith)
same_thrown_depth p b first (suc n) zero s in' in'' = absurd (omega arith)
same_thrown_depth p b first (suc n) (suc m) s in' in'' = same_thrown_at p b first (exceptions_to n p b) (exceptions_to m p b) s (statement_at b s) refl (λ t below. same_thrown_depth p b first n m t (omega arith) (omega arith))

thrown_by_depth : (p : Program) (b : Body) → PartsComeFirst b → (n : ℕ) → length b.statements.items ≡ n → (s : StmtId) (x : TStmt) → statement_at b s ≡ Some x → exceptions_to n p b s ≡ exceptions_in (expression_exceptions p b) (statement_exceptions p b) (completion b) p b x.kind
thrown_by_depth p b first zero is s x here = let below : s.0 < length b.statements.items = inside b.statements.items s.0 x here in absurd (omega arith)
thrown_by_depth p b first (suc n) is s x here =
    let below : s.0 < length b.statements.items = inside b.statements.items s.0 x here in
    ap (exceptions_at (exceptions_to n p b) p b) here
    ∙ same_exceptions s.0 (exceptions_to n p b) (statement_exceptions p b) (λ t lower. same_thrown_depth p b first n (length b.statements.items) t (omega arith) (omega arith)) (expression_exceptions p b) (completion b) p b x.kind (first.statements s x here)

-- what a statement throws, by its parts
pub thrown_law : (p : Program) (b : Body) → PartsComeFirst b → (s : StmtId) (x : TStmt) → statement_at b s ≡ Some x → statement_exceptions p b s ≡ exceptions_in (expression_exceptions p b) (statement_exceptions p b) (completion b) p b x.kind
thrown_law p b first s x here = thrown_by_depth p b first (length b.statements.items) refl s x here
