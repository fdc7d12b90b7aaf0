use Rattle.std.proofs.Common.{◌≡◌, drop}
use Rattle.graph_words.specs.Names.{behind_last_dot, last_name}
use Rattle.graph_words.proofs.names.last_name.Given as goal

abbrev pub invariant-each : goal.invariant-each
invariant-each l = behind_last_dot l.found (drop l.index l.name) ≡ last_name l.name
