-- The classes of exceptions that expressions and statements can throw (JLS 11.2.1, 11.2.2), by the throws clauses of what they call
-- and the static types of what they throw. Statements that are not reachable count too.
use Rattle.std.specs.Prelude.{◌++◌, not, ℕ, zero, suc, Bool, Option, Some, None, List, [], cond, filter, flat_map, length, map}
use Rattle.std.specs.List.{list_any}
use Rattle.program_model.specs.declared.kinds.ClassId.{ClassId}
use Rattle.program_model.specs.declared.kinds.ExprId.{ExprId}
use Rattle.program_model.specs.declared.kinds.MethodId.{MethodId}
use Rattle.program_model.specs.declared.kinds.StmtId.{StmtId}
use Rattle.program_model.specs.declared.kinds.VType.{VType}
use Rattle.program_model.specs.declared.program.Method.{Method}
use Rattle.program_model.specs.declared.program.Program.{Program}
use Rattle.program_model.specs.declared.tree.Body.{Body}
use Rattle.program_model.specs.declared.tree.CatchClause.{CatchClause}
use Rattle.program_model.specs.declared.tree.ExpressionKind.{ExpressionKind}
use Rattle.program_model.specs.declared.tree.ExpressionKind.TheVariants as expressions
use Rattle.program_model.specs.declared.tree.Resource.{Resource}
use Rattle.program_model.specs.declared.tree.StatementKind.{StatementKind}
use Rattle.program_model.specs.declared.tree.StatementKind.TheVariants as statements
use Rattle.program_model.specs.declared.tree.TExpr.{TExpr}
use Rattle.program_model.specs.declared.tree.TryStatement.{TryStatement}
use Rattle.program_model.specs.declared.tree.TStmt.{TStmt}
use Rattle.program_model.specs.Lookups.{expression_at, method_at, optional, statement_at, type_at}
use Rattle.program_model.specs.SuperTests.{is_under}
use Rattle.program_model.specs.Trees.{expressions_in, operands, statements_in}
use Rattle.program_model.specs.Typing.{class_of}
use Rattle.accepted_programs.specs.Completions.{Completion, completion, finally_completion}

abbrev pub throws_in : Option Method → List ClassId
throws_in None = []
throws_in (Some m) = m.sig.throws.items

-- the throws clause of a method or constructor
abbrev pub throws_clause : Program → MethodId → List ClassId
throws_clause p m = throws_in (method_at p m)

-- ---- expressions (JLS 11.2.1)

-- what an expression throws beside its operands
abbrev pub thrown_by_call : Program → ExpressionKind → List ClassId
thrown_by_call p (expressions.Call c) = throws_clause p c.method
thrown_by_call p (expressions.NewObject n) = throws_clause p n.constructor
thrown_by_call p kind = []

abbrev pub expression_exceptions_at : (ExprId → List ClassId) → Program → Option TExpr → List ClassId
expression_exceptions_at inner p None = []
expression_exceptions_at inner p (Some x) = thrown_by_call p x.kind ++ flat_map inner (operands x.kind)

-- down to this depth
abbrev pub expression_exceptions_to : ℕ → Program → Body → ExprId → List ClassId
expression_exceptions_to zero p b e = []
expression_exceptions_to (suc depth) p b e = expression_exceptions_at (expression_exceptions_to depth p b) p (expression_at b e)

-- what the expression can throw: in a tree nothing is deeper than there are expressions
abbrev pub expression_exceptions : Program → Body → ExprId → List ClassId
expression_exceptions p b e = expression_exceptions_to (length b.expressions.items) p b e

-- ---- statements (JLS 11.2.2)

abbrev pub class_of_type : Program → Option VType → Option ClassId
class_of_type p None = None
class_of_type p (Some t) = class_of p t

-- what a statement throws beside its parts: a `throw` the class of its expression's type, a super call what the constructor declares
abbrev pub thrown_by_statement : Program → Body → StatementKind → List ClassId
thrown_by_statement p b (statements.Throw e) = optional (class_of_type p (type_at b e))
thrown_by_statement p b (statements.SuperCall c) = throws_clause p c.constructor
thrown_by_statement p b kind = []

-- each exception of the class is caught by one of the clauses (JLS 11.2.3, 14.20)
abbrev pub is_caught : Program → List CatchClause → ClassId → Bool
is_caught p catches c = list_any (λ k. list_any (is_under p c) k.classes.items) catches

abbrev pub uncaught : Program → List CatchClause → List ClassId → List ClassId
uncaught p catches thrown = filter (λ c. not (is_caught p catches c)) thrown

abbrev pub thrown_by_closing : Program → List Resource → List ClassId
thrown_by_closing p resources = flat_map (λ r. throws_clause p r.close) resources

-- what the clauses of a `try` are over: its resources, their closing, and its block
abbrev pub protected_exceptions : (ExprId → List ClassId) → (StmtId → List ClassId) → Program → TryStatement → List ClassId
protected_exceptions values inner p t = flat_map values (map (λ r. r.initializer) t.resources.items) ++ thrown_by_closing p t.resources.items ++ inner t.block

-- what gets past the clauses, and what their blocks throw
abbrev pub exceptions_before_finally : (ExprId → List ClassId) → (StmtId → List ClassId) → Program → TryStatement → List ClassId
exceptions_before_finally values inner p t = uncaught p t.catches.items (protected_exceptions values inner p t) ++ flat_map (λ c. inner c.block) t.catches.items

-- a `finally` that cannot complete normally lets no exception through
abbrev pub let_through : Completion → List ClassId → List ClassId
let_through last thrown = cond last.completes thrown []

abbrev pub try_exceptions : (ExprId → List ClassId) → (StmtId → List ClassId) → (StmtId → Completion) → Program → TryStatement → List ClassId
try_exceptions values inner ends p t = let_through (finally_completion ends t.finally) (exceptions_before_finally values inner p t) ++ flat_map inner (optional t.finally)

-- a statement throws what its parts throw, but for a `try`
abbrev pub exceptions_in : (ExprId → List ClassId) → (StmtId → List ClassId) → (StmtId → Completion) → Program → Body → StatementKind → List ClassId
exceptions_in values inner ends p b (statements.Try t) = try_exceptions values inner ends p t
exceptions_in values inner ends p b kind = thrown_by_statement p b kind ++ flat_map values (expressions_in kind) ++ flat_map inner (statements_in kind)

abbrev pub exceptions_at : (StmtId → List ClassId) → Program → Body → Option TStmt → List ClassId
exceptions_at inner p b None = []
exceptions_at inner p b (Some x) = exceptions_in (expression_exceptions p b) inner (completion b) p b x.kind

-- down to this depth
abbrev pub exceptions_to : ℕ → Program → Body → StmtId → List ClassId
exceptions_to zero p b s = []
exceptions_to (suc depth) p b s = exceptions_at (exceptions_to depth p b) p b (statement_at b s)

-- the classes of exceptions that the statement can throw
abbrev pub statement_exceptions : Program → Body → StmtId → List ClassId
statement_exceptions p b s = exceptions_to (length b.statements.items) p b s

-- those that the body can throw
abbrev pub body_exceptions : Program → Body → List ClassId
body_exceptions p b = flat_map (statement_exceptions p b) b.stmts.items
