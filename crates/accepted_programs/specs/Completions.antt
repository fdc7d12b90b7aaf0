-- How the statements of a body can complete (JLS 14.1, 14.22), as far as it decides which exceptions a `finally` lets through
-- (JLS 11.2.2). A loop's condition is always true where it is absent or the literal `true`.
use Rattle.std.specs.Prelude.{◌&&◌, ◌||◌, not, ℕ, zero, suc, Bool, true, false, Option, Some, None, List, [], ◌∷◌, length, map}
use Rattle.program_model.specs.declared.kinds.ExprId.{ExprId}
use Rattle.program_model.specs.declared.kinds.StmtId.{StmtId}
use Rattle.program_model.specs.declared.kinds.Literal.TheVariants as literals
use Rattle.program_model.specs.declared.tree.Body.{Body}
use Rattle.program_model.specs.declared.tree.CatchClause.{CatchClause}
use Rattle.program_model.specs.declared.tree.ExpressionKind.{ExpressionKind}
use Rattle.program_model.specs.declared.tree.ExpressionKind.TheVariants as expressions
use Rattle.program_model.specs.declared.tree.StatementKind.{StatementKind}
use Rattle.program_model.specs.declared.tree.StatementKind.TheVariants as statements
use Rattle.program_model.specs.declared.tree.TryStatement.{TryStatement}
use Rattle.program_model.specs.declared.tree.TStmt.{TStmt}
use Rattle.program_model.specs.Lookups.{statement_at}
use Rattle.program_model.specs.Typing.{kind_at}

-- how a statement may end that is reached, beside by an exception or a `return`
pub record Completion : Type 0 where
  -- it can complete normally
  pub completes : Bool
  -- a reachable `break` in it exits the innermost loop around it
  pub breaks : Bool
  -- a reachable `continue` in it continues the innermost loop around it
  pub continues : Bool

abbrev pub normal : Completion
normal = record { completes = true; breaks = false; continues = false }

-- of `return` and `throw`
abbrev pub abrupt : Completion
abrupt = record { completes = false; breaks = false; continues = false }

abbrev pub breaking : Completion
breaking = record { completes = false; breaks = true; continues = false }

abbrev pub continuing : Completion
continuing = record { completes = false; breaks = false; continues = true }

-- the second is reachable where the first can complete normally
abbrev pub and_then : Completion → Completion → Completion
and_then a b = record { completes = a.completes && b.completes; breaks = a.breaks || (a.completes && b.breaks); continues = a.continues || (a.completes && b.continues) }

abbrev pub in_sequence : List Completion → Completion
in_sequence [] = normal
in_sequence (a ∷ all) = and_then a (in_sequence all)

-- both are reachable, and one of them runs
abbrev pub one_of : Completion → Completion → Completion
one_of a b = record { completes = a.completes || b.completes; breaks = a.breaks || b.breaks; continues = a.continues || b.continues }

abbrev pub one_among : List Completion → Completion
one_among [] = abrupt
one_among (a ∷ all) = one_of a (one_among all)

-- ---- loops

abbrev pub is_true_kind : Option ExpressionKind → Bool
is_true_kind (Some (expressions.Literal (literals.Boolean true))) = true
is_true_kind kind = false

-- the expression is the literal `true`
abbrev pub is_true_literal : Body → ExprId → Bool
is_true_literal b e = is_true_kind (kind_at b e)

-- a `for` without a condition goes on as with `true` (JLS 14.14.1.2)
abbrev pub goes_on : Body → Option ExprId → Bool
goes_on b None = true
goes_on b (Some e) = is_true_literal b e

-- a loop's own jumps end in it
abbrev pub loop_that : Bool → Completion
loop_that completes = record { completes = completes; breaks = false; continues = false }

-- `while` and `for`: where the condition is always true, only a `break` ends the loop
abbrev pub loop_completion : Bool → Completion → Completion
loop_completion always body = loop_that (not always || body.breaks)

-- `do`: the condition is reached where the body can complete normally or goes on
abbrev pub do_completion : Bool → Completion → Completion
do_completion always body = loop_that (((body.completes || body.continues) && not always) || body.breaks)

-- ---- all statements, by how those in them complete

abbrev pub else_completion : (StmtId → Completion) → Option StmtId → Completion
else_completion inner None = normal
else_completion inner (Some s) = inner s

abbrev pub finally_completion : (StmtId → Completion) → Option StmtId → Completion
finally_completion inner None = normal
finally_completion inner (Some s) = inner s

-- the block and the catch clauses, of which one is run to its end
abbrev pub protected_completion : (StmtId → Completion) → StmtId → List CatchClause → Completion
protected_completion inner block catches = one_of (inner block) (one_among (map (λ c. inner c.block) catches))

-- what runs before a `finally` is done only where that can complete normally
abbrev pub try_completion : (StmtId → Completion) → TryStatement → Completion
try_completion inner t = and_then (finally_completion inner t.finally) (protected_completion inner t.block t.catches.items)

abbrev pub completion_in : (StmtId → Completion) → Body → StatementKind → Completion
completion_in inner b (statements.Block ss end) = in_sequence (map inner ss.items)
completion_in inner b statements.Empty = normal
completion_in inner b (statements.LocalDeclaration names) = normal
completion_in inner b (statements.Expression e) = normal
completion_in inner b (statements.If c x y) = one_of (inner x) (else_completion inner y)
completion_in inner b (statements.While c x) = loop_completion (is_true_literal b c) (inner x)
completion_in inner b (statements.Do x c) = do_completion (is_true_literal b c) (inner x)
completion_in inner b (statements.For l) = loop_completion (goes_on b l.condition) (inner l.body)
completion_in inner b (statements.Return e) = abrupt
completion_in inner b (statements.Throw e) = abrupt
completion_in inner b statements.Break = breaking
completion_in inner b statements.Continue = continuing
completion_in inner b (statements.Try t) = try_completion inner t
completion_in inner b (statements.SuperCall c) = normal
completion_in inner b (statements.FieldInitializer e) = normal

abbrev pub completion_at : (StmtId → Completion) → Body → Option TStmt → Completion
completion_at inner b None = normal
completion_at inner b (Some x) = completion_in inner b x.kind

-- down to this depth
abbrev pub completion_to : ℕ → Body → StmtId → Completion
completion_to zero b s = normal
completion_to (suc depth) b s = completion_at (completion_to depth b) b (statement_at b s)

-- how the statement can complete: in a tree nothing is deeper than there are statements
abbrev pub completion : Body → StmtId → Completion
completion b s = completion_to (length b.statements.items) b s
