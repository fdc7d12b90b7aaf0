-- A core library that lacks a class is refused first, and then the least type.
use Rattle.std.proofs.Common.{◌≡◌, sym, subst, map, List, Option, Some, None}
use Rattle.rlc_base.specs.declared.faults.Refusal.{Refusal}
use Rattle.refusal_order.specs.Refusals.{least}
use Rattle.class_names.specs.declared.class_name.ClassName.{ClassName}
use Rattle.class_order.specs.Cases.{IsLeast}
use Rattle.class_order.specs.Core.{AreCore}
use Rattle.class_order.specs.Declarations.{declaration_of}
use Rattle.class_checks.specs.TypeCases.{IsTypeCase, LacksCore, all_type_cases}
use Rattle.class_checks.proofs.TypeLemmas.{core_first, types_only}
use Rattle.class_checks.proofs.types.check_types.Goals as goal

pub returns-in-Err-clause-least : goal.returns-in-Err-clause-least
returns-in-Err-clause-least c =
    let order = map declaration_of c.args.order.now in
    let P : Option Refusal → Type 0 = IsLeast (IsTypeCase order) in
    let L : List ClassName → Type 0 = LacksCore in
    let R : Refusal → Type 0 = λ r. P (Some r) in
    subst R (sym c.in-Err.ensures.missing.0) (core_first order (subst L c.requires c.in-Err.ensures.missing.1))

pub returns-in-None-clause-none : goal.returns-in-None-clause-none
returns-in-None-clause-none c =
    let order = map declaration_of c.args.order.now in
    let N : List ClassName → Type 0 = λ names. None ≡ least (all_type_cases names order) in
    let A : List ClassName → Type 0 = λ names. AreCore names c.in-Ok.core in
    types_only order None (λ lacks. lacks c.in-Ok.core (subst A c.requires c.in-Ok.ensures.core)) (subst N c.requires c.in-None.ensures)

pub returns-in-Some-clause-least : goal.returns-in-Some-clause-least
returns-in-Some-clause-least c =
    let order = map declaration_of c.args.order.now in
    let N : List ClassName → Type 0 = λ names. Some c.in-Some.refusal ≡ least (all_type_cases names order) in
    let A : List ClassName → Type 0 = λ names. AreCore names c.in-Ok.core in
    types_only order (Some c.in-Some.refusal) (λ lacks. lacks c.in-Ok.core (subst A c.requires c.in-Ok.ensures.core)) (subst N c.requires c.in-Some.ensures)
