-- The step along one arc more is looked for.
use Rattle.std.proofs.Common.{get_or, rules, subst, sym}
use Rattle.std.proofs.lemmas.Option.{slice_get-get_or}
use Rattle.control_actions.specs.declared.action.Action.TheVariants.{Skip}
use Rattle.control_actions.specs.declared.action.Edge.TheVariants.{Go}
use Rattle.java_cfg.specs.declared.arc.Arc.{Arc}
use Rattle.body_origins.specs.Flow.{flow}
use Rattle.flow_certs.specs.Certificates.{IsListed}
use Rattle.flow_certs.proofs.TestLaws.{all_first, failed, first_more, is_false, is_true}
use Rattle.flow_certs.proofs.steps.are_steps_listed.Goals as goal

-- what a list of arcs gives past its end
abbrev no_arc : Arc
no_arc = record { action = Skip; edge = Go; to = 0; pos = record { file = 0; line = 0; col = 0 } }

pub flow-outcome-requires-clause-small : goal.flow-outcome-requires-clause-small
flow-outcome-requires-clause-small c = c.requires.small c.arcs.arc-index (get_or c.args.row.now c.arcs.arc-index no_arc) (slice_get-get_or c.args.row.now c.arcs.arc-index no_arc c.arcs-test.true)

pub returns-then-not-listed : goal.returns-then-not-listed
returns-then-not-listed c =
    let a = get_or c.args.row.now c.arcs.arc-index no_arc in
    let at = slice_get-get_or c.args.row.now c.arcs.arc-index no_arc c.arcs-test.true in
    is_false (λ all. failed c.is_listed-listed.result c.is_listed-listed.ensures (search rules) (subst (IsListed c.args.pairs.now.keys a.to c.args.number) (sym c.flow-outcome.ensures) (all c.arcs.arc-index a at)))

pub arcs-preserved : goal.arcs-preserved
arcs-preserved c =
    let a = get_or c.args.row.now c.arcs.arc-index no_arc in
    let at = slice_get-get_or c.args.row.now c.arcs.arc-index no_arc c.arcs-test.true in
    first_more (λ (x : Arc). IsListed c.args.pairs.now.keys x.to c.args.number (flow c.args.p.now c.args.b c.args.origin.now x.action x.edge c.args.fact.now)) c.args.row.now c.arcs.arc-index a c.arcs.invariant at
    (subst (IsListed c.args.pairs.now.keys a.to c.args.number) c.flow-outcome.ensures (c.is_listed-listed.ensures.0 (search rules)))

pub returns : goal.returns
returns c =
    is_true
    (all_first (λ (x : Arc). IsListed c.args.pairs.now.keys x.to c.args.number (flow c.args.p.now c.args.b c.args.origin.now x.action x.edge c.args.fact.now)) c.args.row.now c.arcs.arc-index c.arcs.invariant
    c.arcs-test.false)
