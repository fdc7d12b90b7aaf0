use Rattle.std.proofs.Common.{◌≡◌, ◌++◌, ◌<◌}
use Rattle.program_generator.specs.Generation.{behind_methods, classes_text, methods_text}
use Rattle.program_generator.proofs.generation.generate.Given as goal

abbrev pub invariant-each : goal.invariant-each
invariant-each l = record {
  text : l.text ≡ classes_text ++ methods_text l.number l.seed;
  state : l.state ≡ behind_methods l.number l.seed;
  small : l.state < 4294967296;
}
