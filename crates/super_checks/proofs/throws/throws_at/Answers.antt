-- The class that a name means is searched from.
use Rattle.std.proofs.Common.{sym, subst, arith, Option, Some, None}
use Rattle.rlc_base.specs.declared.code.Code.TheVariants as refused
use Rattle.rlc_base.specs.declared.faults.Refusal.{Refusal}
use Rattle.program_model.specs.declared.kinds.ClassId.{ClassId}
use Rattle.class_names.specs.ClassNames.{rows_in}
use Rattle.class_names.specs.Meanings.{unit_of}
use Rattle.class_order.specs.Cases.{IsLeast}
use Rattle.class_order.proofs.LeastLemmas.{least_unless}
use Rattle.class_headers.specs.SuperTypes.{IsUnder}
use Rattle.class_headers.proofs.KnownLemmas.{class_named_known}
use Rattle.super_checks.specs.SuperCases.{IsUnfit}
use Rattle.super_checks.proofs.throws.throws_at.Goals as goal

pub is_under-requires-clause-within : goal.is_under-requires-clause-within
is_under-requires-clause-within c =
    let below = class_named_known c.args.hierarchy.now.names.now (unit_of c.args.scope.now) c.args.name.now c.in-Some.thrown (sym c.in-Some.ensures) in
    let long = c.requires.long in
    omega (arith, below, long)

pub returns-in-None-clause-least : goal.returns-in-None-clause-least
returns-in-None-clause-least c =
    let P : Option ClassId → Type 0 = λ o. IsLeast (IsUnfit (rows_in c.args.hierarchy.now.direct.now) c.args.hierarchy.now.throwable c.args.name.now o) None in
    subst P c.in-None.ensures (λ r due. due)

pub returns-in_ok-fits-in-Some-clause-least : goal.returns-in_ok-fits-in-Some-clause-least
returns-in_ok-fits-in-Some-clause-least c =
    let direct = rows_in c.args.hierarchy.now.direct.now in
    let throwable = c.args.hierarchy.now.throwable in
    let name = c.args.name.now in
    let thrown = c.in-Some.thrown in
    let P : Option ClassId → Type 0 = λ o. IsLeast (IsUnfit direct throwable name o) c.where_true.result in
    let L : Option Refusal → Type 0 = λ r. IsLeast (IsUnfit direct throwable name (Some thrown)) r in
    subst P c.in-Some.ensures (subst L (sym c.where_true.ensures) (least_unless (IsUnder direct thrown throwable) c.in_ok-fits-in-Some.fits refused.BadSuper name.pos c.in_ok-fits-in-Some.ensures.under))
