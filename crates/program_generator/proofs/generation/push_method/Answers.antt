use Rattle.std.proofs.Common.{rules, append_assoc}
use Rattle.program_generator.specs.Generation.{method_text}
use Rattle.program_generator.proofs.generation.push_method.Goals as goal

pub returns-clause-text : goal.returns-clause-text
unfolding method_text
returns-clause-text c = search (rules, append_assoc)
