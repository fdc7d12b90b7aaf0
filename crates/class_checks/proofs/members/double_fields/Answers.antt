-- Fields are double where their names are equal.
use Rattle.std.proofs.Common.{◌≡◌, ◌∙◌, ap, refl, subst, map, List, []}
use Rattle.std.specs.Prelude.{IfOk}
use Rattle.rlc_base.specs.declared.faults.Refusal.{Refusal}
use Rattle.refusal_order.specs.Refusals.{least}
use Rattle.class_order.specs.Declarations.{declaration_of}
use Rattle.class_checks.specs.DoubleMembers.{field_names, field_names_among, is_one_name}
use Rattle.class_checks.specs.MemberKeys.{double_keys, keyed_field, keyed_of}
use Rattle.class_checks.proofs.DoubleLemmas.{repeats_mapped}
use Rattle.class_checks.proofs.members.double_fields.Goals as goal

pub returns : goal.returns
returns c =
    let names = c.args.names.now in
    let d = declaration_of c.args.class.now in
    let L : List Refusal → Type 0 = λ cases. IfOk c.double_keys.result (λ r. r ≡ least cases) in
    let keys = ap (map keyed_of) c.deref-2.ensures.value ∙ c.in_ok-keys.ensures ∙ ap (λ ms. map keyed_field (field_names_among names d ms)) c.deref.ensures.value in
    subst L (ap (double_keys []) keys ∙ repeats_mapped keyed_field is_one_name (λ x y. refl) [] (field_names names d)) c.double_keys.ensures
