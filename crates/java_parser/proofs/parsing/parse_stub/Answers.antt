use Rattle.std.proofs.Common.{refl}
use Rattle.java_parser.proofs.FileLaws.{no_stub_after}
use Rattle.java_parser.proofs.parsing.parse_stub.Goals as goal

pub returns-clause-no_stub : goal.returns-clause-no_stub
returns-clause-no_stub c = no_stub_after _ _ _ _ refl c.stub_trees.ensures.stopped
