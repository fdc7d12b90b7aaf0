use Rattle.std.proofs.Common.{length}
use Rattle.input_files.proofs.names.+put_all.Given as goal

abbrev pub decreases-put_all : goal.decreases-put_all
decreases-put_all l = length l.files.now
