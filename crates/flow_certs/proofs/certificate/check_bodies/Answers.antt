-- One body more is checked.
use Rattle.std.proofs.Common.{◌<◌, ◌≤◌, arith, rules}
use Rattle.java_cfg.proofs.SearchLemmas.{passed_on}
use Rattle.flow_certs.specs.Causes.{IsCertificateStop}
use Rattle.flow_certs.specs.Forms.{body_count, lines_of, sections}
use Rattle.flow_certs.proofs.ProgramLaws.{lines_few, more_lines, none_yet, one_more, stopped}
use Rattle.flow_certs.proofs.certificate.check_bodies.Goals as goal

pub next_line-requires : goal.next_line-requires
next_line-requires c = more_lines c.args.p.now (lines_of c.args.bytes.now) c.requires.form

pub bodies-init : goal.bodies-init
bodies-init c = none_yet c.args.p.now (lines_of c.args.bytes.now) c.next_line.result.0.now (lines_of c.next_line.result.1.now) c.next_line.ensures.lines c.requires.form

pub check_next-requires-clause-room : goal.check_next-requires-clause-room
check_next-requires-clause-room c =
    let count = c.bodies.invariant.count in
    let few = lines_few c.args.p.now c.args.bytes.now in
    let fits = c.requires.fits in
    omega (arith, count, few, fits)

pub returns-in_err-next-clause-cause : goal.returns-in_err-next-clause-cause
returns-in_err-next-clause-cause c =
    let inside : c.bodies.body < body_count c.args.p.now = search rules in
    passed_on c.from_residual.result c.in_err-next.field-0.0 (IsCertificateStop c.args.p.now c.args.file c.args.bytes.now) c.from_residual.ensures.1
    (stopped c.args.p.now c.args.file c.args.bytes.now c.bodies.body c.bodies.line (lines_of c.bodies.rest.now) c.in_err-next.field-0.0 c.requires.form inside c.bodies.invariant c.in_err-next.ensures.cause)

pub bodies-preserved : goal.bodies-preserved
bodies-preserved c =
    let inside : c.bodies.body < body_count c.args.p.now = search rules in
    one_more c.args.p.now (lines_of c.args.bytes.now) (sections c.args.p.now c.args.bytes.now) c.bodies.body c.bodies.line c.in_ok-next.next.0 (lines_of c.bodies.rest.now) (lines_of c.in_ok-next.next.1.now)
    c.bodies.invariant inside c.in_ok-next.ensures.line c.in_ok-next.ensures.rest c.in_ok-next.ensures.certified

pub returns-clause-certified : goal.returns-clause-certified
returns-clause-certified c = λ i low.
    let all : body_count c.args.p.now ≤ c.bodies.body = search rules in
    c.bodies.invariant.certified i (omega (arith, low, all))
