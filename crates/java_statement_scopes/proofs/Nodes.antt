-- A block and a `try` in memory as nodes over the trees of their lists.
use Rattle.std.proofs.Common.{◌≡◌, rules, map, option_map, Option, Some, None, Vec, Global}
use Rattle.rlc_base.specs.declared.place.Pos.{Pos}
use Rattle.java_syntax.specs.declared.statement_trees.Block.{Block}
use Rattle.java_syntax.specs.declared.statement_trees.Catch.{Catch}
use Rattle.java_syntax.specs.declared.statement_trees.Resource.{Resource}
use Rattle.java_syntax.specs.declared.statement_trees.Stmt as stmt
use Rattle.java_syntax.specs.declared.statement_trees.Stmt.{the_lemmas}
use Rattle.java_syntax.specs.StatementTrees.{block_of, catch_of, catches, maybe_block, resource_of, stmt_of}
use Rattle.java_syntax.specs.StatementTrees as syntax
use Rattle.java_syntax.proofs.Rows.{catches_are_items, stmts_are_items}

pub block_is_node : (b : Block) → stmt_of (stmt.Block b) ≡ syntax.BlockOf (block_of b)
block_is_node b = search (rules, the_lemmas, stmts_are_items, catches_are_items)

pub try_is_node : (rs : Vec Resource Global) (b : Block) (cs : Vec Catch Global) (last : Option Block) (place : Pos) → stmt_of (stmt.Try rs b cs last place) ≡ syntax.Try (map resource_of rs.items) (block_of b) (catches (map catch_of cs.items)) (maybe_block (option_map block_of last)) place
try_is_node rs b cs None place = search (rules, the_lemmas, stmts_are_items, catches_are_items)
try_is_node rs b cs (Some f) place = search (rules, the_lemmas, stmts_are_items, catches_are_items)
