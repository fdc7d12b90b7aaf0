use Rattle.std.proofs.Common.{◌≡◌, drop}
use Rattle.java_cfg.specs.Contents.{arcs_of}
use Rattle.flow_certs.specs.Forms.{lines_of, pairs_in}
use Rattle.flow_certs.specs.Listings.{AreClosed}
use Rattle.flow_certs.proofs.steps.first_open.Given as goal

abbrev pub invariant-lines : goal.invariant-lines
invariant-lines l = record {
  rest : lines_of l.rest ≡ drop l.place (lines_of l.text);
  before : AreClosed l.listed.program.now l.listed.body (arcs_of l.listed.graph.now) l.listed.pairs.now.keys (pairs_in l.listed.program.now l.listed.body l.count (lines_of l.text)) l.place;
}
