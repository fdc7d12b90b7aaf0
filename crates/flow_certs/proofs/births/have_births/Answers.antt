-- The births of the entry, and those of one node more.
use Rattle.std.proofs.Common.{◌∙◌, ◌≤◌, arith, rules, subst, sym, length, List}
use Rattle.breadth_first.specs.Searches.{AreOnce, IsAt}
use Rattle.control_actions.specs.declared.fact.Origin.{Origin}
use Rattle.java_cfg.specs.Contents.{arcs_of}
use Rattle.java_cfg.specs.declared.arc.Arc.{Arc}
use Rattle.body_origins.specs.Births.{Birth, births_at_entry}
use Rattle.body_origins.specs.Nodes.{row_in}
use Rattle.flow_certs.specs.Listings.{ListBirths, ListRowBirths}
use Rattle.flow_certs.proofs.BirthLaws.{all_births, entry_births, row_births}
use Rattle.flow_certs.proofs.OriginLists.{once_listed}
use Rattle.flow_certs.proofs.TestLaws.{all_first, failed, first_more, is_false, is_true}
use Rattle.flow_certs.proofs.births.have_births.Goals as goal

pub lists_births-entered-requires : goal.lists_births-entered-requires
lists_births-entered-requires c = subst (λ (os : List Origin). AreOnce os) (sym c.requires.origins) (once_listed c.args.p.now c.args.b (arcs_of c.args.graph.now))

pub lists_row-requires-clause-once : goal.lists_row-requires-clause-once
lists_row-requires-clause-once c = subst (λ (os : List Origin). AreOnce os) (sym c.requires.origins) (once_listed c.args.p.now c.args.b (arcs_of c.args.graph.now))

pub lists_row-requires-clause-small : goal.lists_row-requires-clause-small
lists_row-requires-clause-small c = λ i a at. c.requires.fits.small c.nodes.node i a (subst (λ r. IsAt (row_in r) i a) (sym c.arcs.ensures) at)

pub lists_row-requires-clause-few : goal.lists_row-requires-clause-few
lists_row-requires-clause-few c = λ i a at. c.requires.fits.few c.nodes.node i a (subst (λ r. IsAt (row_in r) i a) (sym c.arcs.ensures) at)

pub returns-then-not-entered : goal.returns-then-not-entered
returns-then-not-entered c =
    let rows = arcs_of c.args.graph.now in
    let births = c.deref.ensures.value ∙ c.in_ok-births.ensures in
    is_false (λ have.
    failed c.lists_births-entered.result c.lists_births-entered.ensures (search rules)
    (subst (λ (xs : List Birth). ListBirths c.args.origins.now.keys c.args.pairs.now.keys 0 xs) (sym births)
    (subst (λ (os : List Origin). ListBirths os c.args.pairs.now.keys 0 (births_at_entry c.args.p.now c.args.b)) (sym c.requires.origins) (entry_births c.args.p.now c.args.b rows c.args.pairs.now.keys c.requires.nodes have))))

pub nodes-preserved : goal.nodes-preserved
nodes-preserved c =
    first_more (λ (r : List Arc). ListRowBirths c.args.p.now c.args.b c.args.origins.now.keys c.args.pairs.now.keys r) (arcs_of c.args.graph.now) c.nodes.node c.arcs.result.now c.nodes.invariant c.arcs.ensures
    (c.in_ok-listed.ensures.0 (search rules))

pub returns-then-not-listed : goal.returns-then-not-listed
returns-then-not-listed c =
    let rows = arcs_of c.args.graph.now in
    is_false (λ have.
    failed c.in_ok-listed.listed c.in_ok-listed.ensures (search rules)
    (subst (λ (os : List Origin). ListRowBirths c.args.p.now c.args.b os c.args.pairs.now.keys c.arcs.result.now) (sym c.requires.origins)
    (row_births c.args.p.now c.args.b rows c.args.pairs.now.keys c.requires.nodes have c.nodes.node c.arcs.result.now c.arcs.ensures)))

pub returns : goal.returns
returns c =
    let rows = arcs_of c.args.graph.now in
    let births = c.deref.ensures.value ∙ c.in_ok-births.ensures in
    let past = c.nodes-test.false in
    let count = c.nodes-node-end.ensures in
    let long = c.requires.long in
    let all : length rows ≤ c.nodes.node = omega (arith, past, count, long) in
    is_true
    (all_births c.args.p.now c.args.b rows c.args.pairs.now.keys c.requires.nodes
    (subst (λ (os : List Origin). ListBirths os c.args.pairs.now.keys 0 (births_at_entry c.args.p.now c.args.b)) c.requires.origins
    (subst (λ (xs : List Birth). ListBirths c.args.origins.now.keys c.args.pairs.now.keys 0 xs) births (c.lists_births-entered.ensures.0 (search rules))))
    (λ k row at.
    subst (λ (os : List Origin). ListRowBirths c.args.p.now c.args.b os c.args.pairs.now.keys row) c.requires.origins
    (all_first (λ (r : List Arc). ListRowBirths c.args.p.now c.args.b c.args.origins.now.keys c.args.pairs.now.keys r) rows c.nodes.node c.nodes.invariant all k row at)))
