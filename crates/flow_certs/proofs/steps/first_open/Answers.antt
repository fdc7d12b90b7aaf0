-- The pair of one line more.
use Rattle.std.proofs.Common.{arith, rules, sym, subst, Option}
use Rattle.std.specs.Prelude.{IfSome}
use Rattle.java_cfg.specs.Contents.{arcs_of}
use Rattle.flow_certs.specs.declared.pair.Pair.{Pair}
use Rattle.flow_certs.specs.Certificates.{IsClosed}
use Rattle.flow_certs.specs.Forms.{lines_of, pairs_in}
use Rattle.flow_certs.proofs.FormLaws.{loop_line, pair_at, pairs_few}
use Rattle.flow_certs.proofs.TestLaws.{failed, first_more}
use Rattle.flow_certs.proofs.steps.first_open.Goals as goal

pub returns-then-not-closed : goal.returns-then-not-closed
returns-then-not-closed c =
    let x = c.args.listed.now in
    let lines = lines_of c.args.text.now in
    let closed : Pair → Type 0 = IsClosed x.program.now x.body (arcs_of x.graph.now) x.pairs.now.keys in
    let line = loop_line lines (lines_of c.lines.rest.now) (lines_of c.next_line.result.1.now) c.lines.place c.next_line.result.0.now c.lines.invariant.rest c.next_line.ensures.lines in
    let one = pair_at x.program.now x.body c.args.count c.lines.place lines c.next_line.result.0.now c.requires.pairs c.lines-test.true line.0 in
    (c.lines.invariant.before, (one.0, (one.1.1, (λ h. failed c.is_line_closed-closed.result c.is_line_closed-closed.ensures (search rules) (subst (λ (o : Option Pair). IfSome o closed) (sym one.1.0) h)))))

pub lines-preserved : goal.lines-preserved
lines-preserved c =
    let x = c.args.listed.now in
    let lines = lines_of c.args.text.now in
    let closed : Pair → Type 0 = IsClosed x.program.now x.body (arcs_of x.graph.now) x.pairs.now.keys in
    let line = loop_line lines (lines_of c.lines.rest.now) (lines_of c.next_line.result.1.now) c.lines.place c.next_line.result.0.now c.lines.invariant.rest c.next_line.ensures.lines in
    let one = pair_at x.program.now x.body c.args.count c.lines.place lines c.next_line.result.0.now c.requires.pairs c.lines-test.true line.0 in
    record {
      rest = line.1;
      before = first_more closed (pairs_in x.program.now x.body c.args.count lines) c.lines.place one.0 c.lines.invariant.before one.1.1
          (subst (λ (o : Option Pair). IfSome o closed) one.1.0 (c.is_line_closed-closed.ensures.0 (search rules)));
    }

pub returns : goal.returns
returns c = λ i x at.
    let past = c.lines-test.false in
    let few = pairs_few c.args.listed.now.program.now c.args.listed.now.body c.args.count i (lines_of c.args.text.now) x at in
    c.lines.invariant.before i x (omega (arith, past, few)) at
