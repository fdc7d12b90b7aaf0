-- What was written is the graph of the body, or its refusal.
use Rattle.std.proofs.Common.{◌≡◌, length, subst}
use Rattle.std.proofs.lemmas.Result.{IfOk-weaker}
use Rattle.rlc_base.specs.declared.faults.Stop.TheVariants as stops
use Rattle.java_cfg.specs.Limits.{IsCause}
use Rattle.java_cfg.specs.Contents.{arcs_of, nodes_of}
use Rattle.graph_words.specs.Answers.{IsAnswer, refusal_line}
use Rattle.graph_words.specs.Answers.IsAnswer.{Drawn, Refused}
use Rattle.graph_words.specs.Arcs.{graph_lines}
use Rattle.graph_words.proofs.graphs.body_answer.Goals as goal

pub returns-in-Ok : goal.returns-in-Ok
returns-in-Ok c =
    let rows = arcs_of c.in-Ok.graph in
    let nodes = nodes_of c.in-Ok.graph in
    IfOk-weaker c.graph_text.result (λ text. text ≡ graph_lines c.args.p.now c.args.body.now c.args.with_arcs rows (length nodes))
    (IsAnswer c.args.p.now c.args.number c.args.with_arcs)
    (λ text e. Drawn c.args.body.now nodes rows c.requires c.in-Ok.ensures.graph e) c.graph_text.ensures

pub returns-in-Err-TooMuch : goal.returns-in-Err-TooMuch
returns-in-Err-TooMuch c =
    let refusal = c.in-Err-TooMuch.refusal in
    let cause : IsCause c.args.p.now c.args.number (stops.TooMuch refusal) = subst (IsCause c.args.p.now c.args.number) c.in-Err-TooMuch.field-0-is c.in-Err-TooMuch.ensures.cause in
    IfOk-weaker c.refusal_text.result (λ text. text ≡ refusal_line refusal) (IsAnswer c.args.p.now c.args.number c.args.with_arcs)
    (λ text e. Refused refusal cause e) c.refusal_text.ensures
