use Rattle.std.proofs.Common.{rules}
use Rattle.program_generator.specs.Generation.{opening_text}
use Rattle.program_generator.proofs.generation.opening.Goals as goal

pub returns : goal.returns
unfolding opening_text
returns c = search rules
