-- A program class with a super class of the library.
use Rattle.std.proofs.Common.{sym, subst, arith, map, Option, Some}
use Rattle.std.proofs.lemmas.List.{length-map}
use Rattle.rlc_base.specs.declared.faults.Refusal.{Refusal}
use Rattle.class_order.specs.Cases.{IsLeast}
use Rattle.class_order.specs.Declarations.{declaration_of}
use Rattle.class_headers.specs.SuperTypes.{supers_of}
use Rattle.super_obligations.specs.Obligations.{IsObligationOf}
use Rattle.super_obligations.proofs.ObligationLemmas.{burdened_least, candidate_within, unburdened}
use Rattle.super_obligations.proofs.obligations.obligation_of.Goals as goal

pub has_obligation-requires-clause-within : goal.has_obligation-requires-clause-within
has_obligation-requires-clause-within c =
    let below = candidate_within (map declaration_of c.args.order.now) (declaration_of c.args.class.now) c.args.extended (sym c.if-is_candidate.ensures) in
    let long = c.requires.long in
    let wide = length-map c.args.order.now declaration_of in
    omega (arith, below, long, wide)

pub returns-in_ok-has-clause-least : goal.returns-in_ok-has-clause-least
returns-in_ok-has-clause-least c =
    let order = map declaration_of c.args.order.now in
    let d = declaration_of c.args.class.now in
    let owns = c.args.sets.now.owns.now in
    let supers = map supers_of c.args.sets.now.supers.now in
    let L : Option Refusal → Type 0 = IsLeast (IsObligationOf order owns supers d (Some c.args.extended)) in
    subst L (sym c.where_true.ensures) (burdened_least order owns supers d c.args.extended c.in_ok-has.has (sym c.if-is_candidate.ensures) c.in_ok-has.ensures.has)

pub returns-else-is_candidate-clause-least : goal.returns-else-is_candidate-clause-least
returns-else-is_candidate-clause-least c =
    unburdened (map declaration_of c.args.order.now) c.args.sets.now.owns.now (map supers_of c.args.sets.now.supers.now) (declaration_of c.args.class.now) c.args.extended (sym c.if-is_candidate.ensures)
