-- One name more.
use Rattle.std.proofs.Common.{◌+◌, sym, subst, Option, take}
use Rattle.rlc_base.specs.declared.faults.Refusal.{Refusal}
use Rattle.class_names.specs.ClassNames.{rows_in}
use Rattle.class_names.specs.Meanings.{unit_of}
use Rattle.class_order.specs.Cases.{IsAmong, IsLeast}
use Rattle.class_order.proofs.LeastLemmas.{among_more, among_none}
use Rattle.super_checks.specs.SuperCases.{IsThrowsAt}
use Rattle.super_checks.proofs.AmongLemmas.{among_all}
use Rattle.super_checks.proofs.throws.throws_in.Goals as goal

pub loop-name-init : goal.loop-name-init
loop-name-init c = record { least = among_none (IsThrowsAt c.args.hierarchy.now.names.now (rows_in c.args.hierarchy.now.direct.now) c.args.hierarchy.now.throwable (unit_of c.args.scope.now)); ready = c.requires.ready }

pub loop-name-preserved : goal.loop-name-preserved
loop-name-preserved c =
    let cases = IsThrowsAt c.args.hierarchy.now.names.now (rows_in c.args.hierarchy.now.direct.now) c.args.hierarchy.now.throwable (unit_of c.args.scope.now) in
    let all = c.args.clause.now in
    let L : Option Refusal → Type 0 = IsLeast (IsAmong cases (take (c.loop-name.name-index + 1) all)) in
    record {
      least = subst L (sym c.lesser_of-found.ensures) (among_more cases all c.loop-name.name-index c.name-item.result c.loop-name.found c.in_ok-own.own c.loop-name-test.true c.name-item.is c.loop-name.invariant.least c.in_ok-own.ensures.least);
      ready = c.in_ok-own.ensures.ready;
    }

pub returns-clause-least : goal.returns-clause-least
returns-clause-least c = among_all (IsThrowsAt c.args.hierarchy.now.names.now (rows_in c.args.hierarchy.now.direct.now) c.args.hierarchy.now.throwable (unit_of c.args.scope.now)) c.args.clause.now c.loop-name.name-index c.loop-name.found c.loop-name-test.false c.loop-name.invariant.least
