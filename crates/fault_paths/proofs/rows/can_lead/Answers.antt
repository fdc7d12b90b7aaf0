-- The arcs are tried one by one.
use Rattle.std.proofs.Common.{get_or, sym}
use Rattle.std.proofs.lemmas.Option.{slice_get-get_or}
use Rattle.java_cfg.specs.declared.arc.Arc.{Arc}
use Rattle.control_actions.specs.declared.action.Action.TheVariants.{Skip}
use Rattle.control_actions.specs.declared.action.Edge.TheVariants.{Go}
use Rattle.fault_paths.specs.Tests.{can_lead_by}
use Rattle.fault_paths.proofs.AnyLaws.{any_here, any_next}
use Rattle.fault_paths.proofs.rows.can_lead.Goals as goal

-- what a list of arcs gives past its end
abbrev no_arc : Arc
no_arc = record { action = Skip; edge = Go; to = 0; pos = record { file = 0; line = 0; col = 0 } }

pub can_lead_by-requires-clause-small : goal.can_lead_by-requires-clause-small
can_lead_by-requires-clause-small c = c.requires.small c.each.arc-index (get_or c.args.row.now c.each.arc-index no_arc) (slice_get-get_or c.args.row.now c.each.arc-index no_arc c.each-test.true)

pub can_lead_by-requires-clause-few : goal.can_lead_by-requires-clause-few
can_lead_by-requires-clause-few c = c.requires.few c.each.arc-index (get_or c.args.row.now c.each.arc-index no_arc) (slice_get-get_or c.args.row.now c.each.arc-index no_arc c.each-test.true)

pub returns-then-can_lead_by : goal.returns-then-can_lead_by
returns-then-can_lead_by c = sym (any_here (can_lead_by c.args.p.now c.args.b c.args.origin.now c.args.step.now c.args.next.now) c.args.row.now c.each.arc-index (get_or c.args.row.now c.each.arc-index no_arc) (slice_get-get_or c.args.row.now c.each.arc-index no_arc c.each-test.true) (sym c.if-can_lead_by.ensures))

pub each-preserved : goal.each-preserved
each-preserved c = any_next (can_lead_by c.args.p.now c.args.b c.args.origin.now c.args.step.now c.args.next.now) c.args.row.now c.each.arc-index (get_or c.args.row.now c.each.arc-index no_arc) (slice_get-get_or c.args.row.now c.each.arc-index no_arc c.each-test.true) (sym c.if-can_lead_by.ensures) c.each.invariant
