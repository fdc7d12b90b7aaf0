use Rattle.command_inputs.specs.Inputs.{texts_of}
use Rattle.command_programs.proofs.StopLaws.{halted}
use Rattle.command_programs.proofs.programs.program_under.Goals as goal

pub returns-in-Err-clause-refused : goal.returns-in-Err-clause-refused
returns-in-Err-clause-refused c = halted c.args.settings.now (texts_of c.args.files) c.in-Err.stop c.args.names.now c.halt_of.result c.requires.names c.in-Err.ensures.stopped c.halt_of.ensures
