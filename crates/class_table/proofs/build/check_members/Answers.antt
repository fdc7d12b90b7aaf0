-- The first pass that has a case refuses.
use Rattle.std.proofs.Common.{◌∙◌, sym, ap, subst, inl, inr, map, List, Option}
use Rattle.rlc_base.specs.declared.faults.Refusal.{Refusal}
use Rattle.program_model.specs.declared.kinds.ClassId.{ClassId}
use Rattle.class_names.specs.ClassNames.{rows_in}
use Rattle.class_order.specs.Cases.{IsLeast}
use Rattle.class_order.specs.Declarations.{declaration_of}
use Rattle.class_headers.specs.SuperTypes.{AreKnown}
use Rattle.super_obligations.specs.SuperPass.{IsSuperCase}
use Rattle.class_table.proofs.PassLemmas.{cycles_told, members_told}
use Rattle.class_table.proofs.build.check_members.Goals as goal

pub cycles-requires-clause-known : goal.cycles-requires-clause-known
cycles-requires-clause-known c =
    let K : List (List ClassId) → Type 0 = AreKnown in
    subst K (sym (ap rows_in c.deref.ensures.value ∙ c.requires.supers.direct)) c.requires.supers.known

pub super_refusal-requires-clause-known : goal.super_refusal-requires-clause-known
super_refusal-requires-clause-known c =
    let K : List (List ClassId) → Type 0 = AreKnown in
    subst K (sym c.requires.supers.direct) c.requires.supers.known

pub returns-in-Some-clause-cause : goal.returns-in-Some-clause-cause
returns-in-Some-clause-cause c =
    let order = map declaration_of c.args.order.now in
    inl (cycles_told order c.args.core (rows_in c.deref.result.now) _ _ (ap rows_in c.deref.ensures.value ∙ c.requires.supers.direct) c.in-Some.is c.in_ok-cycle.ensures)

pub returns-in-Some-2-clause-cause : goal.returns-in-Some-2-clause-cause
returns-in-Some-2-clause-cause c =
    let order = map declaration_of c.args.order.now in
    inr (
      cycles_told order c.args.core (rows_in c.deref.result.now) _ _ (ap rows_in c.deref.ensures.value ∙ c.requires.supers.direct) c.in-None.is c.in_ok-cycle.ensures,
      inl (members_told order c.args.names.now _ _ c.requires.names c.in-Some-2.is c.in_ok-double-in-None.ensures),
    )

pub returns-in-Some-3-clause-cause : goal.returns-in-Some-3-clause-cause
returns-in-Some-3-clause-cause c =
    let order = map declaration_of c.args.order.now in
    let S : Option Refusal → Type 0 = IsLeast (IsSuperCase order c.args.core) in
    inr (
      cycles_told order c.args.core (rows_in c.deref.result.now) _ _ (ap rows_in c.deref.ensures.value ∙ c.requires.supers.direct) c.in-None.is c.in_ok-cycle.ensures,
      inr (
        members_told order c.args.names.now _ _ c.requires.names c.in-None-2.is c.in_ok-double-in-None.ensures,
        subst S c.in-Some-3.is c.in_ok-misplaced-in-None-2.ensures,
      ),
    )

pub returns-in-None-3-clause-fit : goal.returns-in-None-3-clause-fit
returns-in-None-3-clause-fit c =
    let order = map declaration_of c.args.order.now in
    let S : Option Refusal → Type 0 = IsLeast (IsSuperCase order c.args.core) in
    record {
      cycles = cycles_told order c.args.core (rows_in c.deref.result.now) _ _ (ap rows_in c.deref.ensures.value ∙ c.requires.supers.direct) c.in-None.is c.in_ok-cycle.ensures;
      members = members_told order c.args.names.now _ _ c.requires.names c.in-None-2.is c.in_ok-double-in-None.ensures;
      supers = subst S c.in-None-3.is c.in_ok-misplaced-in-None-2.ensures;
    }
