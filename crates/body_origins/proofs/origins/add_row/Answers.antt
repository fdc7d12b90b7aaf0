-- The origins of one arc more are put in.
use Rattle.std.proofs.Common.{get_or, ◌∙◌, ap}
use Rattle.std.proofs.lemmas.Option.{slice_get-get_or}
use Rattle.indexmap.specs.IndexSet.{insert_all}
use Rattle.java_cfg.specs.declared.arc.Arc.{Arc}
use Rattle.control_actions.specs.declared.action.Action.TheVariants.{Skip}
use Rattle.control_actions.specs.declared.action.Edge.TheVariants.{Go}
use Rattle.body_origins.specs.Origins.{arc_births, origins_in, same_origin}
use Rattle.body_origins.proofs.OriginLaws.{flat_taken}
use Rattle.body_origins.proofs.origins.add_row.Goals as goal

-- what a list of arcs gives past its end
abbrev no_arc : Arc
no_arc = record { action = Skip; edge = Go; to = 0; pos = record { file = 0; line = 0; col = 0 } }

pub all_step_births-requires-clause-small : goal.all_step_births-requires-clause-small
all_step_births-requires-clause-small c = c.requires.small c.each.arc-index (get_or c.args.row.now c.each.arc-index no_arc) (slice_get-get_or c.args.row.now c.each.arc-index no_arc c.each-test.true)

pub all_step_births-requires-clause-few : goal.all_step_births-requires-clause-few
all_step_births-requires-clause-few c = c.requires.few c.each.arc-index (get_or c.args.row.now c.each.arc-index no_arc) (slice_get-get_or c.args.row.now c.each.arc-index no_arc c.each-test.true)

pub each-preserved : goal.each-preserved
each-preserved c =
    let births = c.deref.ensures.value ∙ c.in_ok-births.ensures in
    flat_taken (arc_births c.args.p.now c.args.b) c.args.row.now c.each.arc-index (get_or c.args.row.now c.each.arc-index no_arc) (slice_get-get_or c.args.row.now c.each.arc-index no_arc c.each-test.true)
    c.args.origins.now.keys c.each.origins.keys c.add_origins.new.origins.keys c.each.invariant
    (c.in_ok-add_origins.ensures ∙ ap (λ xs. insert_all same_origin c.each.origins.keys (origins_in xs)) births)
