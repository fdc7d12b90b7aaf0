use Rattle.std.proofs.Common.{◌≡◌, drop}
use Rattle.flow_certs.specs.Forms.{AreSamePairs, lines_of, pairs_in}
use Rattle.flow_certs.proofs.lists.read_pairs.Given as goal

abbrev pub invariant-lines : goal.invariant-lines
invariant-lines l = record {
  rest : lines_of l.rest ≡ drop l.counter (lines_of l.text);
  pairs : AreSamePairs l.pairs.keys (pairs_in l.p l.b l.counter (lines_of l.text));
}
