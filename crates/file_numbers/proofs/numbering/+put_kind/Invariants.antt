use Rattle.std.proofs.Common.{length}
use Rattle.file_numbers.proofs.numbering.+put_kind.Given as goal

abbrev pub decreases-put_kind : goal.decreases-put_kind
decreases-put_kind l = length l.names.now
