-- One pair more.
use Rattle.std.proofs.Common.{◌↔◌, ◌∙◌, sym, subst, refl, Bool, IsTrue, length, take, List, ◌+◌}
use Rattle.std.specs.List.{All}
use Rattle.std.proofs.lemmas.List.{take_all}
use Rattle.std.proofs.lemmas.List.Elements.{All-get_or, All-nil}
use Rattle.class_names.specs.ClassNames.{rows_in}
use Rattle.super_checks.specs.Readiness.{IsPairUnder, IsPairWithin}
use Rattle.super_checks.specs.declared.exceptions.Pair.{Pair}
use Rattle.super_checks.proofs.ExceptionLemmas.{all_more, pair}
use Rattle.super_checks.proofs.exceptions.are_under.Goals as goal

pub loop-pair-init : goal.loop-pair-init
loop-pair-init c = record {
  under = ((λ h. All-nil (IsPairUnder (rows_in c.args.direct.now))), (λ all. refl));
  ready = record { long = c.in_ok-marks.ensures.length; clear = c.in_ok-marks.ensures.clear };
}

pub is_under-requires-clause-within : goal.is_under-requires-clause-within
is_under-requires-clause-within c =
    let none : Pair = pair (record { 0 = 0 }) (record { 0 = 0 }) in
    All-get_or (IsPairWithin (length c.args.direct.now)) c.args.pairs.now c.loop-pair.pair-index none c.loop-pair-test.true c.requires.within

pub loop-pair-preserved : goal.loop-pair-preserved
loop-pair-preserved c =
    let P = IsPairUnder (rows_in c.args.direct.now) in
    let pairs = c.args.pairs.now in
    let i = c.loop-pair.pair-index in
    let none : Pair = pair (record { 0 = 0 }) (record { 0 = 0 }) in
    let B : Bool → Type 0 = λ b. IsTrue b ↔ All P (take (i + 1) pairs) in
    record {
      under = subst B (sym c.both-all.ensures) (all_more P pairs i none c.loop-pair.all c.in_ok-fits.fits c.loop-pair-test.true c.loop-pair.invariant.under c.in_ok-fits.ensures.under);
      ready = record { long = c.in_ok-fits.ensures.length ∙ c.loop-pair.invariant.ready.long; clear = c.in_ok-fits.ensures.clear };
    }

pub returns : goal.returns
returns c =
    let P = IsPairUnder (rows_in c.args.direct.now) in
    let L : List Pair → Type 0 = λ ps. IsTrue c.loop-pair.all ↔ All P ps in
    subst L (take_all c.loop-pair.pair-index c.args.pairs.now c.loop-pair-test.false) c.loop-pair.invariant.under
