use Rattle.std.proofs.Common.{take}
use Rattle.program_front.specs.Files.{IsUnitOf}
use Rattle.program_front.specs.InTurn.{AreDone}
use Rattle.program_front.proofs.parsing.parse_sources.Given as goal

abbrev pub invariant-each : goal.invariant-each
invariant-each l = AreDone IsUnitOf (take l.file-index l.files) l.units.items
