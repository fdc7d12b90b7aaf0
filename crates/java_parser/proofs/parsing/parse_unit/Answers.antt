use Rattle.std.proofs.Common.{refl}
use Rattle.java_parser.proofs.FileLaws.{no_unit_after}
use Rattle.java_parser.proofs.parsing.parse_unit.Goals as goal

pub returns-clause-no_unit : goal.returns-clause-no_unit
returns-clause-no_unit c = no_unit_after _ _ _ _ refl c.unit_tree.ensures.stopped
