-- The sets of all classes, and what makes them up.
use Rattle.std.proofs.Common.{◌∙◌, sym, ap, subst, length, map, Bool, List, Option}
use Rattle.std.specs.List.{range_with_len}
use Rattle.std.proofs.lemmas.List.{length-map}
use Rattle.program_model.specs.declared.kinds.ClassId.{ClassId}
use Rattle.class_names.specs.ClassNames.{rows_in}
use Rattle.class_order.specs.Cases.{IsAmong, IsLeast}
use Rattle.class_order.specs.Declarations.{declaration_of}
use Rattle.class_headers.specs.SuperTypes.{AreKnown, supers_of}
use Rattle.super_obligations.specs.Obligations.{IsObligationAt, own_set}
use Rattle.super_obligations.proofs.ObligationLemmas.{length-set_sources, sources_known}
use Rattle.super_obligations.proofs.obligations.obligation_refusal.Goals as goal

pub set_sources-requires : goal.set_sources-requires
set_sources-requires c =
    ap length (c.as_slice-said.ensures.value ∙ c.in_ok-owns.ensures) ∙ length-map (map declaration_of c.args.order.now) own_set ∙ length-map c.args.order.now declaration_of ∙ c.requires.wide

pub obligations_among-requires-clause-sources : goal.obligations_among-requires-clause-sources
obligations_among-requires-clause-sources c = ap rows_in c.as_slice-rows.ensures.value ∙ c.in_ok-sources.ensures

pub obligations_among-requires-clause-known : goal.obligations_among-requires-clause-known
obligations_among-requires-clause-known c =
    let supers = map supers_of c.args.supers.now in
    let K : List (List ClassId) → Type 0 = AreKnown in
    let same = ap length (c.as_slice-said.ensures.value ∙ c.in_ok-owns.ensures) ∙ length-map (map declaration_of c.args.order.now) own_set ∙ length-map c.args.order.now declaration_of ∙ c.requires.wide ∙ sym (length-map c.args.supers.now supers_of) in
    subst K (sym (ap rows_in c.as_slice-rows.ensures.value ∙ c.in_ok-sources.ensures)) (sources_known c.as_slice-said.result.now supers c.args.object same (subst K c.requires.direct c.requires.known))

pub obligations_among-requires-clause-long : goal.obligations_among-requires-clause-long
obligations_among-requires-clause-long c =
    let supers = map supers_of c.args.supers.now in
    let same = ap length (c.as_slice-said.ensures.value ∙ c.in_ok-owns.ensures) ∙ length-map (map declaration_of c.args.order.now) own_set ∙ length-map c.args.order.now declaration_of ∙ c.requires.wide ∙ sym (length-map c.args.supers.now supers_of) in
    c.requires.wide ∙ sym (length-map c.args.supers.now supers_of) ∙ sym (length-set_sources c.as_slice-said.result.now supers same)
    ∙ sym (ap length (ap rows_in c.as_slice-rows.ensures.value ∙ c.in_ok-sources.ensures)) ∙ length-map c.as_slice-rows.result.now (λ r. r.items)

pub returns : goal.returns
returns c =
    let order = map declaration_of c.args.order.now in
    let L : List (Option Bool) → Type 0 = λ owns. IsLeast (IsAmong (IsObligationAt order owns (map supers_of c.args.supers.now)) (range_with_len 0 (length c.args.order.now))) c.in_ok-found.found in
    subst L (c.as_slice-said.ensures.value ∙ c.in_ok-owns.ensures) c.in_ok-found.ensures
