use Rattle.std.proofs.Common.{length}
use Rattle.command_trees.proofs.names.+put_kind.Given as goal

abbrev pub decreases-put_kind : goal.decreases-put_kind
decreases-put_kind l = length l.words.now
