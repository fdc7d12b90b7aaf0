-- One birth more is listed.
use Rattle.std.proofs.Common.{◌∙◌, arith, sym}
use Rattle.std.proofs.lemmas.Option.{slice_get_within}
use Rattle.flow_rules.specs.Births.{births_at_entry}
use Rattle.body_origins.proofs.OriginLaws.{take_whole, taken_next}
use Rattle.body_origins.proofs.births.all_entry_births.Goals as goal

pub overflow_add-k : goal.overflow_add-k
overflow_add-k c =
    let inside = slice_get_within (births_at_entry c.args.p.now c.args.b) c.each.k c.in-Some.birth (sym c.in-Some.ensures) in
    let few = c.requires.few in
    omega (arith, inside, few)

pub each-smaller : goal.each-smaller
each-smaller c =
    let inside = slice_get_within (births_at_entry c.args.p.now c.args.b) c.each.k c.in-Some.birth (sym c.in-Some.ensures) in
    omega (arith, inside)

pub each-preserved : goal.each-preserved
each-preserved c = record {
  items = taken_next (births_at_entry c.args.p.now c.args.b) c.each.found.items c.push.new.self.items c.each.k c.in-Some.birth (sym c.in-Some.ensures) c.each.invariant.items c.in_ok-push.ensures.items;
  count = (let inside = slice_get_within (births_at_entry c.args.p.now c.args.b) c.each.k c.in-Some.birth (sym c.in-Some.ensures) in omega (arith, inside));
}

pub returns : goal.returns
returns c = c.each.invariant.items ∙ take_whole (births_at_entry c.args.p.now c.args.b) c.each.k (sym c.entry_births.ensures ∙ c.in_default.is)
