use Rattle.std.proofs.Common.{◌≡◌, ◌∙◌, ap, sym, Some, None, List, ◌++◌, map}
use Rattle.rlc_base.specs.declared.faults.Refusal.{Refusal}
use Rattle.java_types.specs.Refusals.{least}
use Rattle.java_types.specs.ProgramCases.{program_cases}
use Rattle.java_types.specs.TypedBodies.{typed_body_of}
use Rattle.java_elaboration.proofs.NoCases.{none_is_least, typings_well_formed}
use Rattle.java_elaboration.proofs.elaborations.elaborate_bodies.Goals as goal

pub with_typings-requires : goal.with_typings-requires
with_typings-requires c =
    let cases : List Refusal = program_cases c.args.table c.args.units.now in
    let counted : c.program_typing.new.refusals.items ≡ cases = c.in_ok-typings.ensures.cases ∙ ap (λ (xs : List Refusal). xs ++ cases) c.new-refusals.ensures.items in
    let none : least c.program_typing.new.refusals.items ≡ None = cc in
    typings_well_formed c.args.table c.args.units.now (map typed_body_of c.in_ok-typings.typings.items) c.program_typing.new.refusals.items c.in_ok-typings.ensures.typed counted none c.requires.well_formed

pub returns-in-Some-clause-cause : goal.returns-in-Some-clause-cause
returns-in-Some-clause-cause c =
    let cases : List Refusal = program_cases c.args.table c.args.units.now in
    let counted : c.program_typing.new.refusals.items ≡ cases = c.in_ok-typings.ensures.cases ∙ ap (λ (xs : List Refusal). xs ++ cases) c.new-refusals.ensures.items in
    let found : least c.program_typing.new.refusals.items ≡ Some c.in-Some.refusal = cc in
    ap least (sym counted) ∙ found

pub returns-in_ok-with_typings-in-None-clause-right : goal.returns-in_ok-with_typings-in-None-clause-right
returns-in_ok-with_typings-in-None-clause-right c =
    let cases : List Refusal = program_cases c.args.table c.args.units.now in
    let counted : c.program_typing.new.refusals.items ≡ cases = c.in_ok-typings.ensures.cases ∙ ap (λ (xs : List Refusal). xs ++ cases) c.new-refusals.ensures.items in
    let none : least c.program_typing.new.refusals.items ≡ None = cc in
    sym counted ∙ none_is_least c.program_typing.new.refusals.items none
