-- One class more.
use Rattle.std.proofs.Common.{◌+◌, sym, subst, Option, map, take}
use Rattle.rlc_base.specs.declared.faults.Refusal.{Refusal}
use Rattle.class_names.specs.ClassNames.{rows_in}
use Rattle.class_order.specs.Cases.{IsAmong, IsLeast}
use Rattle.class_order.specs.Declarations.{declaration_of}
use Rattle.class_order.proofs.LeastLemmas.{among_more_of, among_none}
use Rattle.super_checks.specs.SuperCases.{IsThrowsOf}
use Rattle.super_checks.proofs.AmongLemmas.{among_all_of}
use Rattle.super_checks.proofs.throws.throws_refusal.Goals as goal

pub loop-class-init : goal.loop-class-init
loop-class-init c = record { least = among_none (IsThrowsOf c.args.hierarchy.now.names.now (rows_in c.args.hierarchy.now.direct.now) c.args.hierarchy.now.throwable); ready = record { long = c.in_ok-marks.ensures.length; clear = c.in_ok-marks.ensures.clear } }

pub loop-class-preserved : goal.loop-class-preserved
loop-class-preserved c =
    let cases = IsThrowsOf c.args.hierarchy.now.names.now (rows_in c.args.hierarchy.now.direct.now) c.args.hierarchy.now.throwable in
    let all = c.args.order.now in
    let L : Option Refusal → Type 0 = IsLeast (IsAmong cases (map declaration_of (take (c.loop-class.class-index + 1) all))) in
    record {
      least = subst L (sym c.lesser_of-found.ensures) (among_more_of declaration_of cases all c.loop-class.class-index c.class-item.result c.loop-class.found c.in_ok-own.own c.loop-class-test.true c.class-item.is c.loop-class.invariant.least c.in_ok-own.ensures.least);
      ready = c.in_ok-own.ensures.ready;
    }

pub returns : goal.returns
returns c = among_all_of declaration_of (IsThrowsOf c.args.hierarchy.now.names.now (rows_in c.args.hierarchy.now.direct.now) c.args.hierarchy.now.throwable) c.args.order.now c.loop-class.class-index c.loop-class.found c.loop-class-test.false c.loop-class.invariant.least
