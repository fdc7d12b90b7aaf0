-- The births are tried one by one.
use Rattle.std.proofs.Common.{◌∙◌, arith, sym}
use Rattle.std.proofs.lemmas.Option.{slice_get_within}
use Rattle.obligation_paths.specs.Origins.{arc_births}
use Rattle.fault_paths.specs.Tests.{is_first}
use Rattle.fault_paths.proofs.AnyLaws.{any_end, any_here, any_next}
use Rattle.fault_paths.proofs.steps.is_born_by.Goals as goal

pub overflow_add-k : goal.overflow_add-k
overflow_add-k c =
    let inside = slice_get_within (arc_births c.args.p.now c.args.b c.args.arc.now) c.each.k c.in-Some.birth (sym c.in-Some.ensures) in
    let few = c.requires.few in
    omega (arith, inside, few)

pub each-smaller : goal.each-smaller
each-smaller c =
    let inside = slice_get_within (arc_births c.args.p.now c.args.b c.args.arc.now) c.each.k c.in-Some.birth (sym c.in-Some.ensures) in
    omega (arith, inside)

pub returns-then-is_first : goal.returns-then-is_first
returns-then-is_first c = sym (any_here (is_first c.args.origin.now c.args.fact.now) (arc_births c.args.p.now c.args.b c.args.arc.now) c.each.k c.in-Some.birth (sym c.in-Some.ensures) (sym c.if-is_first.ensures))

pub each-preserved : goal.each-preserved
each-preserved c = record {
  none = any_next (is_first c.args.origin.now c.args.fact.now) (arc_births c.args.p.now c.args.b c.args.arc.now) c.each.k c.in-Some.birth (sym c.in-Some.ensures) (sym c.if-is_first.ensures) c.each.invariant.none;
  count = (let inside = slice_get_within (arc_births c.args.p.now c.args.b c.args.arc.now) c.each.k c.in-Some.birth (sym c.in-Some.ensures) in omega (arith, inside));
}

pub returns : goal.returns
returns c = sym (any_end (is_first c.args.origin.now c.args.fact.now) (arc_births c.args.p.now c.args.b c.args.arc.now) c.each.k (sym c.births.ensures ∙ c.in_default.is) c.each.invariant.none)
