use Rattle.std.proofs.Common.{◌≡◌, drop}
use Rattle.graph_words.specs.Names.{body_named}
use Rattle.graph_words.proofs.methods.body_named.Given as goal

abbrev pub invariant-each : goal.invariant-each
invariant-each l = body_named l.p l.name (drop l.method-index l.p.methods.items) ≡ body_named l.p l.name l.p.methods.items
