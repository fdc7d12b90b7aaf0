-- The types of the fields are known, and there are as many fields as are written.
use Rattle.std.proofs.Common.{◌∙◌, sym, ap, subst, arith, map, length, List}
use Rattle.std.specs.List.{All}
use Rattle.std.proofs.lemmas.List.{length-map}
use Rattle.class_order.specs.Declarations.{declaration_of}
use Rattle.class_declarations.specs.Members.{WrittenField, written_field_of}
use Rattle.table_members.specs.Fields.{IsField}
use Rattle.class_table.proofs.KnownLemmas.{IsKnownField, known_fields}
use Rattle.class_table.proofs.MemberLemmas.{zip_long}
use Rattle.class_table.proofs.members.make_fields.Goals as goal

pub table_fields-requires : goal.table_fields-requires
table_fields-requires c =
    let A : List WrittenField → Type 0 = All (IsKnownField c.args.names.now) in
    subst A (sym (ap (map written_field_of) c.deref-3.ensures.value ∙ c.in_ok-written.ensures)) (known_fields c.args.names.now 0 (map declaration_of c.args.order.now) c.requires.known)

pub returns-clause-numbered : goal.returns-clause-numbered
returns-clause-numbered c =
    let few = c.if-len-gt-MAX_MEMBERS.false in
    let count = c.len.ensures in
    let long = zip_long (IsField c.args.names.now) (map written_field_of c.deref-3.result.now) c.in_ok-fields.fields.items c.in_ok-fields.ensures in
    let wide = length-map c.deref-3.result.now written_field_of in
    let same = ap length c.deref-3.ensures.value in
    omega (arith, few, count, long, wide, same)
