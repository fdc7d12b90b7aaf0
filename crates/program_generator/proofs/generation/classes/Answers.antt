use Rattle.std.proofs.Common.{rules}
use Rattle.program_generator.specs.Generation.{classes_text}
use Rattle.program_generator.proofs.generation.classes.Goals as goal

pub returns : goal.returns
unfolding classes_text
returns c = search rules
