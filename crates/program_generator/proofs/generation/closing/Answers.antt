use Rattle.std.proofs.Common.{rules}
use Rattle.program_generator.specs.Generation.{closing_text}
use Rattle.program_generator.proofs.generation.closing.Goals as goal

pub returns : goal.returns
unfolding closing_text
returns c = search rules
