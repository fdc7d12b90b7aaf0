-- The program of files covers its checked exceptions: neither the annotations nor the bodies change what its methods declare.
use Rattle.std.proofs.Common.{ap}
use Rattle.program_model.specs.declared.program.Program.{Program}
use Rattle.accepted_programs.specs.Coverage.{CoversItsExceptions}
use Rattle.program_reading.specs.Programs.{Input, IsProgram}
use Rattle.program_reading.specs.TypedPrograms.{IsTyped}
use Rattle.acceptance_laws.proofs.ProgramExceptions.{program_covers}
use Rattle.acceptance_laws.proofs.SignedTables.{signed_tables}

pub covers : (input : Input) (p : Program) → IsProgram input p → CoversItsExceptions p
covers input p is =
    let typed : IsTyped input.settings is.sections is.sources is.typed = is.is_typed in
    program_covers typed.table is.sources is.typed p typed.right typed.elaborated
    (signed_tables typed.table is.typed p is.typed.bodies.items typed.elaborated.table is.annotated.signed) (ap (λ bs. bs.items) is.annotated.signed.bodies)
