-- The births of one arc more are looked for.
use Rattle.std.proofs.Common.{◌∙◌, get_or, rules, subst, sym, List}
use Rattle.std.proofs.lemmas.Option.{slice_get-get_or}
use Rattle.control_actions.specs.declared.action.Action.TheVariants.{Skip}
use Rattle.control_actions.specs.declared.action.Edge.TheVariants.{Go}
use Rattle.java_cfg.specs.declared.arc.Arc.{Arc}
use Rattle.body_origins.specs.Births.{Birth}
use Rattle.body_origins.specs.Origins.{arc_births}
use Rattle.flow_certs.specs.Listings.{ListBirths}
use Rattle.flow_certs.proofs.TestLaws.{all_first, failed, first_more, is_false, is_true}
use Rattle.flow_certs.proofs.births.lists_row.Goals as goal

-- what a list of arcs gives past its end
abbrev no_arc : Arc
no_arc = record { action = Skip; edge = Go; to = 0; pos = record { file = 0; line = 0; col = 0 } }

pub all_step_births-requires-clause-small : goal.all_step_births-requires-clause-small
all_step_births-requires-clause-small c = c.requires.small c.arcs.arc-index (get_or c.args.row.now c.arcs.arc-index no_arc) (slice_get-get_or c.args.row.now c.arcs.arc-index no_arc c.arcs-test.true)

pub all_step_births-requires-clause-few : goal.all_step_births-requires-clause-few
all_step_births-requires-clause-few c = c.requires.few c.arcs.arc-index (get_or c.args.row.now c.arcs.arc-index no_arc) (slice_get-get_or c.args.row.now c.arcs.arc-index no_arc c.arcs-test.true)

pub returns-then-not-listed : goal.returns-then-not-listed
returns-then-not-listed c =
    let a = get_or c.args.row.now c.arcs.arc-index no_arc in
    let at = slice_get-get_or c.args.row.now c.arcs.arc-index no_arc c.arcs-test.true in
    let births = c.deref.ensures.value ∙ c.in_ok-births.ensures in
    is_false (λ all.
    failed c.lists_births-listed.result c.lists_births-listed.ensures (search rules)
    (subst (λ (xs : List Birth). ListBirths c.args.origins.now.keys c.args.pairs.now.keys a.to xs) (sym births) (all c.arcs.arc-index a at)))

pub arcs-preserved : goal.arcs-preserved
arcs-preserved c =
    let a = get_or c.args.row.now c.arcs.arc-index no_arc in
    let at = slice_get-get_or c.args.row.now c.arcs.arc-index no_arc c.arcs-test.true in
    let births = c.deref.ensures.value ∙ c.in_ok-births.ensures in
    first_more (λ (x : Arc). ListBirths c.args.origins.now.keys c.args.pairs.now.keys x.to (arc_births c.args.p.now c.args.b x)) c.args.row.now c.arcs.arc-index a c.arcs.invariant at
    (subst (λ (xs : List Birth). ListBirths c.args.origins.now.keys c.args.pairs.now.keys a.to xs) births (c.lists_births-listed.ensures.0 (search rules)))

pub returns : goal.returns
returns c = is_true (all_first (λ (x : Arc). ListBirths c.args.origins.now.keys c.args.pairs.now.keys x.to (arc_births c.args.p.now c.args.b x)) c.args.row.now c.arcs.arc-index c.arcs.invariant c.arcs-test.false)
