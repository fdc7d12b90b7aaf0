-- The heads of the methods are known, and there are as many methods as are written.
use Rattle.std.proofs.Common.{◌∙◌, sym, ap, subst, arith, map, length, List}
use Rattle.std.specs.List.{All}
use Rattle.std.proofs.lemmas.List.{length-map}
use Rattle.class_order.specs.Declarations.{declaration_of}
use Rattle.class_declarations.specs.Members.{WrittenMethod, written_method_of}
use Rattle.table_members.specs.Methods.{IsMethod}
use Rattle.class_table.proofs.KnownLemmas.{IsKnownMethod, known_methods}
use Rattle.class_table.proofs.MemberLemmas.{zip_long}
use Rattle.class_table.proofs.members.make_methods.Goals as goal

pub table_methods-requires : goal.table_methods-requires
table_methods-requires c =
    let A : List WrittenMethod → Type 0 = All (IsKnownMethod c.args.names.now) in
    subst A (sym (ap (map written_method_of) c.deref-3.ensures.value ∙ c.in_ok-written.ensures)) (known_methods c.args.names.now 0 (map declaration_of c.args.order.now) c.requires.known)

pub returns-clause-numbered : goal.returns-clause-numbered
returns-clause-numbered c =
    let few = c.if-len-gt-MAX_MEMBERS.false in
    let count = c.len.ensures in
    let long = zip_long (IsMethod c.args.names.now) (map written_method_of c.deref-3.result.now) c.in_ok-methods.methods.items c.in_ok-methods.ensures.methods in
    let wide = length-map c.deref-3.result.now written_method_of in
    let same = ap length c.deref-3.ensures.value in
    omega (arith, few, count, long, wide, same)
