-- One tree more.
use Rattle.std.proofs.Common.{◌+◌, sym, subst, Option, List, map, take}
use Rattle.rlc_base.specs.declared.faults.Refusal.{Refusal}
use Rattle.java_syntax.specs.declared.names.Name.{Name}
use Rattle.class_names.specs.ClassNames.{rows_in}
use Rattle.class_names.specs.Meanings.{unit_of}
use Rattle.class_order.specs.Cases.{IsAmong, IsLeast}
use Rattle.class_order.proofs.LeastLemmas.{among_more_of, among_none}
use Rattle.class_declarations.specs.Members.{written_of}
use Rattle.super_checks.specs.SuperCases.{IsThrowsAt, IsThrowsIn}
use Rattle.super_checks.proofs.AmongLemmas.{among_all_of}
use Rattle.super_checks.proofs.throws.throws_among.Goals as goal

pub loop-tree-init : goal.loop-tree-init
loop-tree-init c = record { least = among_none (IsThrowsIn c.args.hierarchy.now.names.now (rows_in c.args.hierarchy.now.direct.now) c.args.hierarchy.now.throwable (unit_of c.args.scope.now)); ready = c.requires.ready }

pub loop-tree-preserved : goal.loop-tree-preserved
loop-tree-preserved c =
    let cases = IsThrowsIn c.args.hierarchy.now.names.now (rows_in c.args.hierarchy.now.direct.now) c.args.hierarchy.now.throwable (unit_of c.args.scope.now) in
    let all = c.args.trees.now in
    let T : List Name → Type 0 = λ names. IsLeast (IsAmong (IsThrowsAt c.args.hierarchy.now.names.now (rows_in c.args.hierarchy.now.direct.now) c.args.hierarchy.now.throwable (unit_of c.args.scope.now)) names) c.in_ok-own.own in
    let L : Option Refusal → Type 0 = IsLeast (IsAmong cases (map written_of (take (c.loop-tree.tree-index + 1) all))) in
    record {
      least = subst L (sym c.lesser_of-found.ensures) (among_more_of written_of cases all c.loop-tree.tree-index c.tree-item.result c.loop-tree.found c.in_ok-own.own c.loop-tree-test.true c.tree-item.is c.loop-tree.invariant.least (subst T c.throws.ensures c.in_ok-own.ensures.least));
      ready = c.in_ok-own.ensures.ready;
    }

pub returns-clause-least : goal.returns-clause-least
returns-clause-least c = among_all_of written_of (IsThrowsIn c.args.hierarchy.now.names.now (rows_in c.args.hierarchy.now.direct.now) c.args.hierarchy.now.throwable (unit_of c.args.scope.now)) c.args.trees.now c.loop-tree.tree-index c.loop-tree.found c.loop-tree-test.false c.loop-tree.invariant.least
