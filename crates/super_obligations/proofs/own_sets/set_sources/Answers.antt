-- One class more.
use Rattle.std.proofs.Common.{◌∙◌, sym, ap, arith, ◌<◌, ◌++◌, ◌∷◌, [], None, length, get_or}
use Rattle.std.proofs.lemmas.List.{get_or_default, map_push}
use Rattle.class_names.specs.ClassNames.{rows_in}
use Rattle.super_obligations.proofs.ObligationLemmas.{sources_more}
use Rattle.super_obligations.proofs.own_sets.set_sources.Goals as goal

pub loop-number-preserved : goal.loop-number-preserved
loop-number-preserved c =
    let owns = c.args.owns.now in
    let supers = c.args.supers.now in
    let n = c.loop-number.number in
    let wide = c.requires in
    let test = c.loop-number-test.true in
    let inside : n < length supers = omega arith in
    ap rows_in c.in_ok-push.ensures.items ∙ map_push (λ r. r.items) c.loop-number.all.items c.in_ok-sources_by.field-0
    ∙ (λ j. c.loop-number.invariant j ++ c.in_ok-sources_by.ensures j ∷ [])
    ∙ sym (sources_more owns supers n (get_or owns n None) c.index-supers-number.result test inside (get_or_default owns n None (get_or owns n None) test) c.index-supers-number.is)
