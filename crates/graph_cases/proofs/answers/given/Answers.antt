-- What is given is the answer on the body that is named.
use Rattle.std.proofs.Common.{◌≡◌, sym, subst, ◌∙◌, Result, Ok, Some}
use Rattle.graph_cases.specs.Answers.{IsGiven}
use Rattle.graph_words.specs.Names.{body_named}
use Rattle.program_model.specs.declared.program.Program.{Program}
use Rattle.rlc_base.specs.declared.faults.Stop.{Stop}
use Rattle.graph_cases.proofs.answers.given.Goals as goal

pub returns-in_ok-graph_answer-in-Some-clause-given : goal.returns-in_ok-graph_answer-in-Some-clause-given
returns-in_ok-graph_answer-in-Some-clause-given c =
    let p = c.in-Ok.p in
    let text = c.in_ok-graph_answer-in-Some.field-0 in
    let named : body_named p c.args.name.now p.methods.items ≡ Some c.in-Some.number = sym c.in_ok-body_named.ensures ∙ c.in-Some.is in
    let found : IsGiven (Ok p) c.args.name.now c.args.with_arcs text = (c.in-Some.number, (named, c.in_ok-graph_answer-in-Some.ensures)) in
    subst (λ (program : Result Program Stop). IsGiven program c.args.name.now c.args.with_arcs text) (sym c.in-Ok.is) found
