-- One parameter more, and the end of them.
use Rattle.std.proofs.Common.{◌∙◌, sym, ap, arith, ◌+◌, ◌<◌, ◌≤◌, min, ◌++◌, length, drop}
use Rattle.std.specs.Prelude.{zip}
use Rattle.java_statement_rules.specs.DeclaredVariables.{double_cases}
use Rattle.source_classes.specs.Parameters.{cases_behind, parameters_from}
use Rattle.source_classes.proofs.ParameterLemmas.{all_counted, all_declared, case_next, pair_more, parameter_next}
use Rattle.source_classes.proofs.declared_parameters.parameters.Goals as goal

pub loop-i-preserved : goal.loop-i-preserved
loop-i-preserved c =
    let i = c.loop-i.i in
    let ws = c.args.written.now in
    let xs = c.args.signatures.now in
    let w = c.index-written-i.result in
    let x = c.index-signatures-i.result in
    let before = c.loop-i.locals.items in
    let counted = c.loop-i.refusals.items in
    let rest = drop (i + 1) (zip ws xs) in
    let in_ws : i < length ws = omega arith in
    let in_xs : i < length xs = omega arith in
    let pair = pair_more ws xs i w x in_ws in_xs c.index-written-i.is c.index-signatures-i.is in
    record {
      locals =
          ap (λ ls. ls ++ parameters_from (length ls) rest) c.in_ok-declare.ensures.local
          ∙ sym (parameter_next before w x rest)
          ∙ ap (λ ps. before ++ parameters_from (length before) ps) (sym pair)
          ∙ c.loop-i.invariant.locals;
      cases =
          ap (λ rs. rs ++ cases_behind c.declare.new.locals.items rest) c.in_ok-declare.ensures.cases
          ∙ ap (λ ls. (counted ++ double_cases w.name.pos before w.name.text) ++ cases_behind ls rest) c.in_ok-declare.ensures.local
          ∙ sym (case_next counted before w x rest)
          ∙ ap (λ ps. counted ++ cases_behind before ps) (sym pair)
          ∙ c.loop-i.invariant.cases;
    }

pub returns-clause-locals : goal.returns-clause-locals
returns-clause-locals c =
    let all : min (length c.args.written.now) (length c.args.signatures.now) ≤ c.loop-i.i = omega arith in
    all_declared c.args.written.now c.args.signatures.now c.loop-i.i c.loop-i.locals.items _ all c.loop-i.invariant.locals

pub returns-clause-cases : goal.returns-clause-cases
returns-clause-cases c =
    let all : min (length c.args.written.now) (length c.args.signatures.now) ≤ c.loop-i.i = omega arith in
    all_counted c.args.written.now c.args.signatures.now c.loop-i.i c.loop-i.locals.items c.loop-i.refusals.items _ all c.loop-i.invariant.cases
