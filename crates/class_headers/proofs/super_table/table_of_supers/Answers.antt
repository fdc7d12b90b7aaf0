-- What stands right above a class is a class of the table.
use Rattle.std.proofs.Common.{◌≡◌, ◌∙◌, sym, ap, subst, map, length, arith}
use Rattle.std.specs.Prelude.{codes}
use Rattle.std.proofs.lemmas.List.{length-map}
use Rattle.class_names.specs.ClassNames.{rows_in}
use Rattle.class_order.specs.Declarations.{class_name_of, declaration_of}
use Rattle.class_headers.specs.SuperTypes.{AreKnown, all_direct, direct_of, supers_from, supers_of}
use Rattle.class_headers.proofs.KnownLemmas.{all_known, found_within, length-supers_from}
use Rattle.class_headers.proofs.super_table.table_of_supers.Goals as goal

pub returns-clause-known : goal.returns-clause-known
returns-clause-known c =
    let order = map declaration_of c.args.order.now in
    let classes = c.args.names.now in
    let direct : rows_in c.in_ok-direct.direct.items ≡ all_direct c.args.object (supers_from 0 classes c.args.object order) = c.in_ok-direct.ensures ∙ ap (λ xs. all_direct c.args.object (map supers_of xs)) c.deref.ensures.value ∙ ap (all_direct c.args.object) c.in_ok-supers.ensures in
    subst AreKnown (sym direct) (all_known classes c.args.object order (found_within classes (codes "java.lang.Object") c.args.object c.requires.object) (ap length c.requires.names ∙ length-map order class_name_of))

pub returns-clause-long : goal.returns-clause-long
returns-clause-long c =
    let order = map declaration_of c.args.order.now in
    let direct = c.in_ok-direct.ensures ∙ ap (λ xs. all_direct c.args.object (map supers_of xs)) c.deref.ensures.value ∙ ap (all_direct c.args.object) c.in_ok-supers.ensures in
    let first = length-map c.in_ok-direct.direct.items (λ r. r.items) in
    let second = length-map (supers_from 0 c.args.names.now c.args.object order) (direct_of c.args.object) in
    let third = length-supers_from c.args.names.now c.args.object 0 order in
    let fourth = length-map c.args.order.now declaration_of in
    sym fourth ∙ sym third ∙ sym second ∙ sym (ap length direct) ∙ first

pub returns-clause-few : goal.returns-clause-few
returns-clause-few c =
    let long = returns-clause-long c in
    let few = c.len-count.ensures.few in
    let first = length-map c.args.order.now declaration_of in
    let second = ap length c.requires.names ∙ length-map (map declaration_of c.args.order.now) class_name_of in
    omega (arith, long, few, first, second)
