-- All that a body throws is a class of exceptions.
use Rattle.std.proofs.Common.{◌≡◌, ◌++◌, ◌∷◌, [], ℕ, zero, suc, List, Bool, true, false, Option, Some, None, All, length, map, inl, inr, refl, sym, ap, subst}
use Rattle.std.proofs.lemmas.List.Elements.{All-head, All-tail}
use Rattle.std.specs.Prelude.{cond, filter, flat_map, not}
use Rattle.std.specs.List.{list_any}
use Rattle.std.specs.Option.{IsSomeAnd}
use Rattle.program_model.specs.declared.kinds.ClassId.{ClassId}
use Rattle.program_model.specs.declared.kinds.ExprId.{ExprId}
use Rattle.program_model.specs.declared.kinds.MethodId.{MethodId}
use Rattle.program_model.specs.declared.kinds.StmtId.{StmtId}
use Rattle.program_model.specs.declared.kinds.VType.{VType}
use Rattle.program_model.specs.declared.program.Method.{Method}
use Rattle.program_model.specs.declared.program.Program.{Program}
use Rattle.program_model.specs.declared.tree.Body.{Body}
use Rattle.program_model.specs.declared.tree.ExpressionKind.{ExpressionKind}
use Rattle.program_model.specs.declared.tree.ExpressionKind.TheVariants as expressions
use Rattle.program_model.specs.declared.tree.StatementKind.{StatementKind}
use Rattle.program_model.specs.declared.tree.StatementKind.TheVariants as statements
use Rattle.program_model.specs.declared.tree.TExpr.{TExpr}
use Rattle.program_model.specs.declared.tree.TryStatement.{TryStatement}
use Rattle.program_model.specs.declared.tree.TStmt.{TStmt}
use Rattle.program_model.specs.Hierarchy.{HasClass, IsHierarchy, IsUnder}
use Rattle.program_model.specs.Lookups.{expression_at, method_at, optional, statement_at, type_at}
use Rattle.program_model.specs.SuperTests.{is_under}
use Rattle.program_model.specs.Trees.{expressions_in, operands, statements_in}
use Rattle.program_model.specs.Typing.{IsThrowable, IsTypedStatement, class_of}
use Rattle.program_model.specs.Validity.{IsTypedProgram}
use Rattle.program_model.proofs.HierarchyLaws.{is_under_law}
use Rattle.accepted_programs.specs.Completions.{Completion, completion, finally_completion}
use Rattle.accepted_programs.specs.Exceptions.{body_exceptions, class_of_type, exceptions_at, exceptions_before_finally, exceptions_in, exceptions_to, expression_exceptions, expression_exceptions_at, expression_exceptions_to, is_caught, let_through, protected_exceptions, statement_exceptions, throws_clause, throws_in, thrown_by_call, thrown_by_closing, thrown_by_statement, try_exceptions, uncaught}
use Rattle.accepted_programs.proofs.Lists.{None', join, or_first, or_neither, or_second}

-- the class is no class of exceptions
abbrev pub is_other : Program → ClassId → Bool
is_other p c = not (is_under p c p.core.throwable)

flat_none : {X : Type 0} (v : ClassId → Bool) (f : X → List ClassId) → ((x : X) → None' v (f x)) → (xs : List X) → None' v (flat_map f xs)
flat_none v f each [] = refl
flat_none v f each (x ∷ xs) = join v (f x) (flat_map f xs) (each x) (flat_none v f each xs)

filter_none : (v q : ClassId → Bool) (xs : List ClassId) → None' v xs → None' v (filter q xs)
filter_none v q [] h = refl
filter_none v q (x ∷ xs) h = step (q x) (filter_none v q xs (or_second (v x) (list_any v xs) h))
  where
    step : (a : Bool) → None' v (filter q xs) → None' v (cond a (x ∷ filter q xs) (filter q xs))
    step true later = or_neither (v x) (list_any v (filter q xs)) (or_first (v x) (list_any v xs) h) later
    step false later = later

under_none : (p : Program) → IsHierarchy p → (c : ClassId) → IsUnder p c p.core.throwable → is_other p c ≡ false
under_none p hierarchy c h = ap not ((is_under_law p hierarchy c p.core.throwable).1 h)

listed_none : (p : Program) → IsHierarchy p → (cs : List ClassId) → All (λ c. HasClass p c × IsUnder p c p.core.throwable) cs → None' (is_other p) cs
listed_none p hierarchy [] h = refl
listed_none p hierarchy (c ∷ cs) h =
    let P : ClassId → Type 0 = λ c. HasClass p c × IsUnder p c p.core.throwable in
    or_neither (is_other p c) (list_any (is_other p) cs) (under_none p hierarchy c (All-head P c cs h).1) (listed_none p hierarchy cs (All-tail P c cs h))

clause_none : (p : Program) → IsTypedProgram p → (m : MethodId) → None' (is_other p) (throws_clause p m)
clause_none p typed m = step (method_at p m) refl
  where
    step : (o : Option Method) → method_at p m ≡ o → None' (is_other p) (throws_in o)
    step None here = refl
    step (Some x) here = listed_none p typed.hierarchy x.sig.throws.items (typed.methods m x here).signature.throws

call_none : (p : Program) → IsTypedProgram p → (kind : ExpressionKind) → None' (is_other p) (thrown_by_call p kind)
call_none p typed (expressions.Call c) = clause_none p typed c.method
call_none p typed (expressions.NewObject n) = clause_none p typed n.constructor
call_none p typed kind = refl

value_at_none : (p : Program) → IsTypedProgram p → (f : ExprId → List ClassId) → ((e : ExprId) → None' (is_other p) (f e)) → (o : Option TExpr) → None' (is_other p) (expression_exceptions_at f p o)
value_at_none p typed f each None = refl
value_at_none p typed f each (Some x) = join (is_other p) (thrown_by_call p x.kind) (flat_map f (operands x.kind)) (call_none p typed x.kind) (flat_none (is_other p) f each (operands x.kind))

value_none : (p : Program) → IsTypedProgram p → (b : Body) (n : ℕ) (e : ExprId) → None' (is_other p) (expression_exceptions_to n p b e)
value_none p typed b zero e = refl
value_none p typed b (suc n) e = value_at_none p typed (expression_exceptions_to n p b) (value_none p typed b n) (expression_at b e)

-- a `throw` is of a class of exceptions
raise_none : (p : Program) → IsHierarchy p → (o : Option VType) → IsSomeAnd o (IsThrowable p) → None' (is_other p) (optional (class_of_type p o))
raise_none p hierarchy None h = refl
raise_none p hierarchy (Some t) (inl null) = subst (λ (u : VType). None' (is_other p) (optional (class_of p u))) (sym null) refl
raise_none p hierarchy (Some t) (inr under) = step (class_of p t) under
  where
    step : (o : Option ClassId) → IsSomeAnd o (λ d. IsUnder p d p.core.throwable) → None' (is_other p) (optional o)
    step None h = refl
    step (Some d) h = or_neither (is_other p d) false (under_none p hierarchy d h) refl

own_none : (p : Program) → IsTypedProgram p → (b : Body) (kind : StatementKind) → IsTypedStatement p b kind → None' (is_other p) (thrown_by_statement p b kind)
own_none p typed b (statements.Throw e) h = raise_none p typed.hierarchy (type_at b e) h
own_none p typed b (statements.SuperCall c) h = clause_none p typed c.constructor
own_none p typed b kind h = refl

abbrev Values : Type 0
Values = ExprId → List ClassId

plain_none : (p : Program) → IsTypedProgram p → (b : Body) (kind : StatementKind) → IsTypedStatement p b kind → (values : Values) → ((e : ExprId) → None' (is_other p) (values e)) → (f : StmtId → List ClassId) → ((s : StmtId) → None' (is_other p) (f s)) → None' (is_other p) (thrown_by_statement p b kind ++ flat_map values (expressions_in kind) ++ flat_map f (statements_in kind))
plain_none p typed b kind h values each f inner =
    let own : List ClassId = thrown_by_statement p b kind in
    let es : List ClassId = flat_map values (expressions_in kind) in
    join (is_other p) (own ++ es) (flat_map f (statements_in kind)) (join (is_other p) own es (own_none p typed b kind h) (flat_none (is_other p) values each (expressions_in kind))) (flat_none (is_other p) f inner (statements_in kind))

through_none : (v : ClassId → Bool) (last : Completion) (xs : List ClassId) → None' v xs → None' v (let_through last xs)
through_none v last xs h = step last.completes
  where
    step : (a : Bool) → None' v (cond a xs [])
    step true = h
    step false = refl

try_none : (p : Program) → IsTypedProgram p → (t : TryStatement) (values : Values) → ((e : ExprId) → None' (is_other p) (values e)) → (f : StmtId → List ClassId) → ((s : StmtId) → None' (is_other p) (f s)) → (ends : StmtId → Completion) → None' (is_other p) (try_exceptions values f ends p t)
try_none p typed t values each f inner ends =
    let v : ClassId → Bool = is_other p in
    let opening : List ClassId = flat_map values (map (λ r. r.initializer) t.resources.items) in
    let closing : List ClassId = thrown_by_closing p t.resources.items in
    let protected : None' v (opening ++ closing ++ f t.block) = join v (opening ++ closing) (f t.block) (join v opening closing (flat_none v values each (map (λ r. r.initializer) t.resources.items)) (flat_none v (λ r. throws_clause p r.close) (λ r. clause_none p typed r.close) t.resources.items)) (inner t.block) in
    let blocks : List ClassId = flat_map (λ c. f c.block) t.catches.items in
    let passing : List ClassId = uncaught p t.catches.items (protected_exceptions values f p t) in
    let before : None' v (passing ++ blocks) = join v passing blocks (filter_none v (λ c. not (is_caught p t.catches.items c)) (protected_exceptions values f p t) protected) (flat_none v (λ c. f c.block) (λ c. inner c.block) t.catches.items) in
    join v (let_through (finally_completion ends t.finally) (exceptions_before_finally values f p t)) (flat_map f (optional t.finally)) (through_none v (finally_completion ends t.finally) (passing ++ blocks) before) (flat_none v f inner (optional t.finally))

kind_none : (p : Program) → IsTypedProgram p → (b : Body) (kind : StatementKind) → IsTypedStatement p b kind → (values : Values) → ((e : ExprId) → None' (is_other p) (values e)) → (f : StmtId → List ClassId) → ((s : StmtId) → None' (is_other p) (f s)) → (ends : StmtId → Completion) → None' (is_other p) (exceptions_in values f ends p b kind)
kind_none p typed b (statements.Try t) h values each f inner ends = try_none p typed t values each f inner ends
kind_none p typed b kind h values each f inner ends = plain_none p typed b kind h values each f inner

statement_at_none : (p : Program) → IsTypedProgram p → (b : Body) → ((s : StmtId) (x : TStmt) → statement_at b s ≡ Some x → IsTypedStatement p b x.kind) → (f : StmtId → List ClassId) → ((s : StmtId) → None' (is_other p) (f s)) → (s : StmtId) (o : Option TStmt) → statement_at b s ≡ o → None' (is_other p) (exceptions_at f p b o)
statement_at_none p typed b all f inner s None here = refl
statement_at_none p typed b all f inner s (Some x) here = kind_none p typed b x.kind (all s x here) (expression_exceptions p b) (value_none p typed b (length b.expressions.items)) f inner (completion b)

statement_none : (p : Program) → IsTypedProgram p → (b : Body) → ((s : StmtId) (x : TStmt) → statement_at b s ≡ Some x → IsTypedStatement p b x.kind) → (n : ℕ) (s : StmtId) → None' (is_other p) (exceptions_to n p b s)
statement_none p typed b all zero s = refl
statement_none p typed b all (suc n) s = statement_at_none p typed b all (exceptions_to n p b) (statement_none p typed b all n) s (statement_at b s) refl

pub body_none : (p : Program) → IsTypedProgram p → (b : Body) → ((s : StmtId) (x : TStmt) → statement_at b s ≡ Some x → IsTypedStatement p b x.kind) → None' (is_other p) (body_exceptions p b)
body_none p typed b all = flat_none (is_other p) (statement_exceptions p b) (statement_none p typed b all (length b.statements.items)) b.stmts.items
