-- One class more.
use Rattle.std.proofs.Common.{◌∙◌, sym, subst, map, arith, Option, ◌+◌}
use Rattle.std.proofs.lemmas.List.{length-map}
use Rattle.rlc_base.specs.declared.faults.Refusal.{Refusal}
use Rattle.class_names.specs.ClassNames.{rows_in}
use Rattle.class_order.specs.Cases.{IsLeast}
use Rattle.class_order.specs.Declarations.{declaration_of}
use Rattle.class_headers.proofs.CycleLemmas.{IsEarlyCycle, cycles_all, cycles_more}
use Rattle.class_headers.proofs.cyclic.cycles.Goals as goal

pub loop-number-preserved : goal.loop-number-preserved
loop-number-preserved c =
    let order = map declaration_of c.args.order.now in
    let direct = rows_in c.args.direct.now in
    let P : Option Refusal → Type 0 = IsLeast (IsEarlyCycle order direct (c.loop-number.number + 1)) in
    record {
      least = subst P (sym c.lesser_of-found.ensures) (cycles_more order direct c.loop-number.number c.loop-number.found c.in_ok-own.own c.loop-number.invariant.least c.in_ok-own.ensures.least);
      clear = c.in_ok-own.ensures.clear;
      long = c.in_ok-own.ensures.length ∙ c.loop-number.invariant.long;
    }

pub returns : goal.returns
returns c =
    let test = c.loop-number-test.false in
    let same = c.requires.long in
    let long = length-map c.args.order.now declaration_of in
    cycles_all (map declaration_of c.args.order.now) (rows_in c.args.direct.now) c.loop-number.number c.loop-number.found (omega arith) c.loop-number.invariant.least
