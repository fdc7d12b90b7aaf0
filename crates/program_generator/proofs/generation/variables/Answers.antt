use Rattle.std.proofs.Common.{rules}
use Rattle.program_generator.specs.Generation.{variables_text}
use Rattle.program_generator.proofs.generation.variables.Goals as goal

pub returns : goal.returns
unfolding variables_text
returns c = search rules
