-- The line of the body, its pairs, and what stands behind them.
use Rattle.std.proofs.Common.{◌∙◌, ap, subst, ◌+◌, List}
use Rattle.java_cfg.proofs.SearchLemmas.{passed_on}
use Rattle.flow_certs.specs.declared.pair.Pair.{Pair}
use Rattle.flow_certs.specs.Causes.{IsPartStop}
use Rattle.flow_certs.specs.Certificates.{IsCertified}
use Rattle.flow_certs.specs.Forms.{body_id, first_part, lines_of}
use Rattle.flow_certs.proofs.ProgramLaws.{are_pair_lines, enough_lines, line_room, more_behind, part_behind, part_count, part_pairs, tail_room}
use Rattle.flow_certs.proofs.certificate.check_next.Goals as goal

pub next_line-requires : goal.next_line-requires
next_line-requires c = more_behind c.args.p.now c.args.body c.args.line (lines_of c.args.text.now) c.requires.form

pub check_body-requires-clause-lines : goal.check_body-requires-clause-lines
check_body-requires-clause-lines c =
    enough_lines c.args.p.now c.args.body c.args.line c.said_count-count.result (lines_of c.args.text.now) c.next_line.result.0.now (lines_of c.next_line.result.1.now) c.next_line.ensures.lines c.said_count-count.ensures
    c.requires.inside c.requires.form

pub check_body-requires-clause-pairs : goal.check_body-requires-clause-pairs
check_body-requires-clause-pairs c =
    are_pair_lines c.args.p.now c.args.body c.args.line c.said_count-count.result (lines_of c.args.text.now) c.next_line.result.0.now (lines_of c.next_line.result.1.now) c.next_line.ensures.lines c.said_count-count.ensures
    c.requires.inside c.requires.form

pub check_body-requires-clause-room : goal.check_body-requires-clause-room
check_body-requires-clause-room c =
    tail_room c.args.p.now c.args.body c.args.line c.said_count-count.result (lines_of c.args.text.now) c.next_line.result.0.now (lines_of c.next_line.result.1.now) c.next_line.ensures.lines c.said_count-count.ensures
    c.requires.room

pub line_behind-requires : goal.line_behind-requires
line_behind-requires c =
    line_room c.args.p.now c.args.body c.args.line c.said_count-count.result (lines_of c.args.text.now) c.next_line.result.0.now (lines_of c.next_line.result.1.now) c.next_line.ensures.lines c.said_count-count.ensures
    c.requires.inside c.requires.form c.requires.room

pub returns-in_err-rest-clause-cause : goal.returns-in_err-rest-clause-cause
returns-in_err-rest-clause-cause c =
    let pairs =
    part_pairs c.args.p.now c.args.body c.args.line c.said_count-count.result (lines_of c.args.text.now) c.next_line.result.0.now (lines_of c.next_line.result.1.now) c.next_line.ensures.lines c.said_count-count.ensures in
    passed_on c.from_residual.result c.in_err-rest.field-0.0 (IsPartStop c.args.p.now c.args.file (body_id c.args.body) c.args.line (first_part c.args.p.now c.args.body c.args.line (lines_of c.args.text.now)).pairs) c.from_residual.ensures.1
    (subst (λ (xs : List Pair). IsPartStop c.args.p.now c.args.file (body_id c.args.body) c.args.line xs c.in_err-rest.field-0.0) pairs c.in_err-rest.ensures.cause)

pub returns-clause-certified : goal.returns-clause-certified
returns-clause-certified c =
    subst (λ (xs : List Pair). IsCertified c.args.p.now (body_id c.args.body) xs)
    (part_pairs c.args.p.now c.args.body c.args.line c.said_count-count.result (lines_of c.args.text.now) c.next_line.result.0.now (lines_of c.next_line.result.1.now) c.next_line.ensures.lines c.said_count-count.ensures)
    c.in_ok-rest.ensures.certified

pub returns-clause-line : goal.returns-clause-line
returns-clause-line c =
    c.line_behind.ensures
    ∙ ap (λ n. c.args.line + 1 + n)
    (part_count c.args.p.now c.args.body c.args.line c.said_count-count.result (lines_of c.args.text.now) c.next_line.result.0.now (lines_of c.next_line.result.1.now) c.next_line.ensures.lines c.said_count-count.ensures)

pub returns-clause-rest : goal.returns-clause-rest
returns-clause-rest c =
    c.in_ok-rest.ensures.rest
    ∙ part_behind c.args.p.now c.args.body c.args.line c.said_count-count.result (lines_of c.args.text.now) c.next_line.result.0.now (lines_of c.next_line.result.1.now) c.next_line.ensures.lines c.said_count-count.ensures
