-- Whether a `try` has a `finally`, in memory and as a tree.
use Rattle.std.proofs.Common.{◌≡◌, refl, option_map, Option, Some, None}
use Rattle.std.specs.Option.{is_some}
use Rattle.java_syntax.specs.declared.statement_trees.Block.{Block}
use Rattle.java_syntax.specs.StatementTrees.{block_of, maybe_block}
use Rattle.java_typed_statements.specs.StatementTrees.{has_finally}

pub finally_is_some : (last : Option Block) → is_some last ≡ has_finally (maybe_block (option_map block_of last))
finally_is_some None = refl
finally_is_some (Some b) = refl
