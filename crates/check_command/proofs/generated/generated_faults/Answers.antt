use Rattle.std.proofs.Common.{subst}
use Rattle.std.specs.Prelude.{IfOk}
use Rattle.program_model.specs.declared.program.Program.{Program}
use Rattle.command_inputs.specs.Inputs.{FileTexts}
use Rattle.check_command.specs.Checks.{AreFaults}
use Rattle.check_command.proofs.generated.generated_faults.Goals as goal

pub returns-clause-faults : goal.returns-clause-faults
returns-clause-faults c =
    subst (λ (files : FileTexts). IfOk c.file_faults.result (λ x. (p : Program) × AreFaults files p x.count x.text)) c.generated_files.ensures c.file_faults.ensures.faults
