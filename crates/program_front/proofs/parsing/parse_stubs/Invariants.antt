use Rattle.std.proofs.Common.{take}
use Rattle.program_front.specs.Files.{AreSectionsOf}
use Rattle.program_front.specs.InTurn.{AreDone}
use Rattle.program_front.proofs.parsing.parse_stubs.Given as goal

abbrev pub invariant-each : goal.invariant-each
invariant-each l = AreDone AreSectionsOf (take l.file-index l.files) l.stubs.items
