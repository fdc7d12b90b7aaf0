use Rattle.std.proofs.Common.{take}
use Rattle.program_front.specs.Files.{IsCutOf}
use Rattle.program_front.specs.InTurn.{AreDone}
use Rattle.program_front.proofs.lexing.lex_files.Given as goal

abbrev pub invariant-each : goal.invariant-each
invariant-each l = AreDone IsCutOf (take l.file-index l.files) l.cut.items
