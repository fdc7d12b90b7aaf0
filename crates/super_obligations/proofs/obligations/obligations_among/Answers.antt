-- One class more.
use Rattle.std.proofs.Common.{◌≡◌, ◌+◌, sym, subst, arith, length, map, ℕ, Option}
use Rattle.std.specs.List.{range_with_len}
use Rattle.rlc_base.specs.declared.faults.Refusal.{Refusal}
use Rattle.class_order.specs.Cases.{IsAmong, IsLeast}
use Rattle.class_order.specs.Declarations.{declaration_of}
use Rattle.class_order.proofs.LeastLemmas.{among_none}
use Rattle.class_headers.specs.SuperTypes.{supers_of}
use Rattle.super_obligations.specs.Obligations.{IsObligationAt}
use Rattle.super_obligations.proofs.ObligationLemmas.{obligations_more}
use Rattle.super_obligations.proofs.obligations.obligations_among.Goals as goal

pub loop-number-init : goal.loop-number-init
loop-number-init c = record {
  least = among_none (IsObligationAt (map declaration_of c.args.order.now) c.args.sets.now.owns.now (map supers_of c.args.sets.now.supers.now));
  ready = record { long = c.in_ok-marks.ensures.length; clear = c.in_ok-marks.ensures.clear };
}

pub loop-number-preserved : goal.loop-number-preserved
loop-number-preserved c =
    let order = map declaration_of c.args.order.now in
    let owns = c.args.sets.now.owns.now in
    let supers = map supers_of c.args.sets.now.supers.now in
    let n = c.loop-number.number in
    let L : Option Refusal → Type 0 = IsLeast (IsAmong (IsObligationAt order owns supers) (range_with_len 0 (n + 1))) in
    record {
      least = subst L (sym c.lesser_of-found.ensures) (obligations_more order owns supers n c.loop-number.found c.in_ok-own.own c.loop-number.invariant.least c.in_ok-own.ensures.least);
      ready = c.in_ok-own.ensures.ready;
    }

pub returns : goal.returns
returns c =
    let order = map declaration_of c.args.order.now in
    let owns = c.args.sets.now.owns.now in
    let supers = map supers_of c.args.sets.now.supers.now in
    let test = c.loop-number-test.false in
    let bound = c.loop-number.auto.number-end in
    let all : c.loop-number.number ≡ length c.args.order.now = omega (arith, test, bound) in
    let L : ℕ → Type 0 = λ n. IsLeast (IsAmong (IsObligationAt order owns supers) (range_with_len 0 n)) c.loop-number.found in
    subst L all c.loop-number.invariant.least
