-- One birth more is looked for.
use Rattle.std.proofs.Common.{◌∙◌, ap, rules, sym, Some}
use Rattle.std.proofs.lemmas.Option.{slice_get-get_or}
use Rattle.body_origins.specs.Births.{Birth}
use Rattle.flow_certs.specs.Certificates.{Lists}
use Rattle.flow_certs.proofs.TestLaws.{all_first, failed, first_more, is_false, is_true}
use Rattle.flow_certs.proofs.births.lists_births.Goals as goal

pub returns-then-not-listed : goal.returns-then-not-listed
returns-then-not-listed c =
    let x = c.birth-item.result in
    let at = slice_get-get_or c.args.births.now c.births.birth-index x c.births-test.true ∙ ap Some (sym c.birth-item.is) in
    is_false (λ all. failed c.lists_birth-listed.result c.lists_birth-listed.ensures (search rules) (all c.births.birth-index x at))

pub births-preserved : goal.births-preserved
births-preserved c =
    let x = c.birth-item.result in
    let at = slice_get-get_or c.args.births.now c.births.birth-index x c.births-test.true ∙ ap Some (sym c.birth-item.is) in
    first_more (λ (y : Birth). Lists c.args.origins.now.keys c.args.pairs.now.keys c.args.node y.0 y.1) c.args.births.now c.births.birth-index x c.births.invariant at (c.lists_birth-listed.ensures.0 (search rules))

pub returns : goal.returns
returns c = is_true (all_first (λ (y : Birth). Lists c.args.origins.now.keys c.args.pairs.now.keys c.args.node y.0 y.1) c.args.births.now c.births.birth-index c.births.invariant c.births-test.false)
