-- `break` and `continue` stand within loops (JLS 14.15, 14.16).
use Rattle.std.specs.Prelude.{◌≡◌, ◌||◌, ◌&&◌, not, ℕ, zero, suc, Bool, true, false, Option, Some, None, length}
use Rattle.std.specs.List.{list_any}
use Rattle.program_model.specs.declared.kinds.StmtId.{StmtId}
use Rattle.program_model.specs.declared.tree.Body.{Body}
use Rattle.program_model.specs.declared.tree.TStmt.{TStmt}
use Rattle.program_model.specs.declared.tree.StatementKind.{StatementKind}
use Rattle.program_model.specs.declared.tree.StatementKind.TheVariants as statements
use Rattle.program_model.specs.Lookups.{statement_at}
use Rattle.program_model.specs.Trees.{statements_in}

abbrev pub is_jump : StatementKind → Bool
is_jump statements.Break = true
is_jump statements.Continue = true
is_jump kind = false

abbrev pub is_loop : StatementKind → Bool
is_loop (statements.While c s) = true
is_loop (statements.Do s c) = true
is_loop (statements.For l) = true
is_loop kind = false

-- a statement of this kind is a `break` or `continue`, or is no loop and `inner` holds of a statement in it
abbrev pub has_free_jump_in : (StmtId → Bool) → StatementKind → Bool
has_free_jump_in inner kind = is_jump kind || (not (is_loop kind) && list_any inner (statements_in kind))

abbrev pub has_free_jump_at : (StmtId → Bool) → Option TStmt → Bool
has_free_jump_at inner None = false
has_free_jump_at inner (Some x) = has_free_jump_in inner x.kind

-- the statement is a `break` or `continue`, or has within it, down to this depth, one that no loop in it encloses
abbrev pub has_free_jump : ℕ → Body → StmtId → Bool
has_free_jump zero b s = false
has_free_jump (suc depth) b s = has_free_jump_at (has_free_jump depth b) (statement_at b s)

-- each `break` and `continue` of the body stands within a loop: in a tree nothing is deeper than there are statements
abbrev pub HasJumpsInLoops : Body → Type 0
HasJumpsInLoops b = list_any (has_free_jump (length b.statements.items) b) b.stmts.items ≡ false
