-- One line more is read.
use Rattle.std.proofs.Common.{◌≡◌, arith, subst, ℕ}
use Rattle.flow_certs.specs.Forms.{AreSamePairs, lines_of, pairs_in}
use Rattle.flow_certs.proofs.FormLaws.{loop_line}
use Rattle.flow_certs.proofs.ListingLaws.{line_more}
use Rattle.flow_certs.proofs.lists.read_pairs.Goals as goal

pub lines-preserved : goal.lines-preserved
lines-preserved c =
    let lines = lines_of c.args.text.now in
    let line = loop_line lines (lines_of c.lines.rest.now) (lines_of c.next_line.result.1.now) c.lines.counter c.next_line.result.0.now c.lines.invariant.rest c.next_line.ensures.lines in
    record {
      rest = line.1;
      pairs = line_more c.args.p.now c.args.b lines c.lines.counter c.next_line.result.0.now line.0 c.lines.pairs.keys c.put_said.new.pairs.keys c.pair_in.result c.lines.invariant.pairs c.pair_in.ensures c.in_ok-put_said.ensures;
    }

pub returns-clause-pairs : goal.returns-clause-pairs
returns-clause-pairs c =
    let past = c.lines-test.false in
    let few = c.lines.auto.counter-end in
    let all : c.lines.counter ≡ c.args.count = omega (arith, past, few) in
    subst (λ (n : ℕ). AreSamePairs c.lines.pairs.keys (pairs_in c.args.p.now c.args.b n (lines_of c.args.text.now))) all c.lines.invariant.pairs
