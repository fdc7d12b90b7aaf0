-- The four parts.
use Rattle.std.proofs.Common.{◌∙◌, sym, ap, subst, length, map, List, Option, ℕ}
use Rattle.std.specs.List.{range_with_len}
use Rattle.std.proofs.lemmas.List.{length-map}
use Rattle.rlc_base.specs.declared.faults.Refusal.{Refusal}
use Rattle.refusal_order.specs.Refusals.{lesser_of}
use Rattle.program_model.specs.declared.kinds.ClassId.{ClassId}
use Rattle.class_names.specs.ClassNames.{rows_in}
use Rattle.class_order.specs.Cases.{IsAmong, IsLeast}
use Rattle.class_order.specs.Declarations.{class_name_of, declaration_of}
use Rattle.class_headers.specs.SuperTypes.{AreKnown, all_direct, supers_of}
use Rattle.class_headers.proofs.KnownLemmas.{length-supers_from}
use Rattle.super_obligations.specs.Obligations.{IsObligationAt, own_sets}
use Rattle.super_obligations.specs.SuperPass.{IsSuperCase}
use Rattle.super_obligations.proofs.SuperPassLemmas.{core_here, kinds_here, obligations_here, super_least, table_direct, table_supers, throws_here}
use Rattle.super_obligations.proofs.super_pass.super_refusal.Goals as goal

pub throws_refusal-requires-clause-known : goal.throws_refusal-requires-clause-known
throws_refusal-requires-clause-known c = let K : List (List ClassId) → Type 0 = AreKnown in subst K (sym (ap rows_in c.as_slice-direct.ensures.value)) c.requires.known

pub throws_refusal-requires-clause-long : goal.throws_refusal-requires-clause-long
throws_refusal-requires-clause-long c =
    ap length c.requires.names ∙ length-map (map declaration_of c.args.order.now) class_name_of ∙ length-map c.args.order.now declaration_of ∙ c.requires.long ∙ sym (ap length c.as_slice-direct.ensures.value)

pub obligation_refusal-requires-clause-direct : goal.obligation_refusal-requires-clause-direct
obligation_refusal-requires-clause-direct c =
    ap rows_in c.as_slice-direct.ensures.value ∙ c.requires.direct ∙ ap (λ ss. all_direct c.args.core.object (map supers_of ss)) (sym c.as_slice-supers.ensures.value)

pub obligation_refusal-requires-clause-known : goal.obligation_refusal-requires-clause-known
obligation_refusal-requires-clause-known c = let K : List (List ClassId) → Type 0 = AreKnown in subst K (sym (ap rows_in c.as_slice-direct.ensures.value)) c.requires.known

pub obligation_refusal-requires-clause-wide : goal.obligation_refusal-requires-clause-wide
obligation_refusal-requires-clause-wide c =
    sym (length-map c.args.order.now declaration_of) ∙ sym (length-supers_from c.args.names.now c.args.core.object 0 (map declaration_of c.args.order.now)) ∙ sym (ap length c.requires.supers)
    ∙ length-map c.args.table.now.supers.items supers_of ∙ sym (ap length c.as_slice-supers.ensures.value)

pub core_refusal-requires-clause-known : goal.core_refusal-requires-clause-known
core_refusal-requires-clause-known c = let K : List (List ClassId) → Type 0 = AreKnown in subst K (sym (ap rows_in c.as_slice-direct.ensures.value)) c.requires.known

pub core_refusal-requires-clause-long : goal.core_refusal-requires-clause-long
core_refusal-requires-clause-long c =
    ap length c.requires.names ∙ length-map (map declaration_of c.args.order.now) class_name_of ∙ length-map c.args.order.now declaration_of ∙ c.requires.long ∙ sym (ap length c.as_slice-direct.ensures.value)

pub returns : goal.returns
returns c =
    let order = map declaration_of c.args.order.now in
    let names = c.args.names.now in
    let core = c.args.core in
    let supers = map supers_of c.as_slice-supers.result.now in
    let direct = rows_in c.as_slice-direct.result.now in
    let supers_are = table_supers names order core supers c.requires.names (ap (map supers_of) c.as_slice-supers.ensures.value ∙ c.requires.supers) in
    let direct_are = table_direct order core supers direct supers_are (ap rows_in c.as_slice-direct.ensures.value ∙ c.requires.direct ∙ ap (λ ss. all_direct core.object (map supers_of ss)) (sym c.as_slice-supers.ensures.value)) in
    let kinds = c.kind_refusal-kinds.result in
    let throws = c.in_ok-throws.throws in
    let obligations = c.in_ok-obligations.obligations in
    let library = c.in_ok-library.library in
    let L : Option Refusal → Type 0 = IsLeast (IsSuperCase order core) in
    let N = length-map c.args.order.now declaration_of in
    let O : ℕ → Type 0 = λ n. IsLeast (IsAmong (IsObligationAt order (own_sets order) supers) (range_with_len 0 n)) obligations in
    subst L (sym (c.lesser_of.ensures ∙ ap (lesser_of kinds) (c.lesser_of-behind_kinds.ensures ∙ ap (lesser_of throws) c.lesser_of-behind_throws.ensures)))
    (super_least order core kinds throws obligations library
    (kinds_here order core supers kinds supers_are c.kind_refusal-kinds.ensures)
    (throws_here names order core direct throws c.requires.names direct_are c.in_ok-throws.ensures)
    (obligations_here order core supers obligations supers_are (subst O (sym N) c.in_ok-obligations.ensures))
    (core_here order core direct library direct_are c.in_ok-library.ensures))
