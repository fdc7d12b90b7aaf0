-- The births are missing, or a pair is open, or the pairs are a certificate.
use Rattle.std.proofs.Common.{arith, rules}
use Rattle.java_cfg.specs.Contents.{arcs_of}
use Rattle.flow_certs.specs.Forms.{lines_of, pairs_in}
use Rattle.flow_certs.proofs.BodyLaws.{birth_line, certificate_of, pair_line}
use Rattle.flow_certs.proofs.FormLaws.{pairs_few}
use Rattle.flow_certs.proofs.TestLaws.{failed}
use Rattle.flow_certs.proofs.body.open_line.Goals as goal

pub returns-then-not-born : goal.returns-then-not-born
returns-then-not-born c =
    let x = c.args.listed.now in
    birth_line x.program.now x.body (arcs_of x.graph.now) x.pairs.now.keys (pairs_in x.program.now x.body c.args.count (lines_of c.args.text.now)) c.requires.same c.args.line
    (failed c.in_ok-born.born c.in_ok-born.ensures (search rules))

pub returns-in-None : goal.returns-in-None
returns-in-None c =
    let x = c.args.listed.now in
    certificate_of x.program.now x.body (arcs_of x.graph.now) x.pairs.now.keys (pairs_in x.program.now x.body c.args.count (lines_of c.args.text.now)) c.requires.same
    (c.in_ok-born.ensures.0 (search rules)) c.in-None.ensures

pub line_behind-requires : goal.line_behind-requires
line_behind-requires c =
    let x = c.args.listed.now in
    let few = pairs_few x.program.now x.body c.args.count c.in-Some.place (lines_of c.args.text.now) c.in-Some.ensures.1.0 c.in-Some.ensures.1.1.0 in
    let lines = c.requires.lines in
    let room = c.requires.room in
    omega (arith, few, lines, room)

pub returns-in-Some : goal.returns-in-Some
returns-in-Some c =
    let x = c.args.listed.now in
    let pairs = pairs_in x.program.now x.body c.args.count (lines_of c.args.text.now) in
    let opens = pair_line x.program.now x.body (arcs_of x.graph.now) x.pairs.now.keys pairs c.requires.same c.args.line c.in-Some.place (c.in_ok-born.ensures.0 (search rules)) c.in-Some.ensures in
    rw c.line_behind.ensures opens
