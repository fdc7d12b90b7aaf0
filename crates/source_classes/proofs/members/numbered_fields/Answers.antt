-- The fields are those of the class, each beside its number.
use Rattle.std.proofs.Common.{◌∙◌, ap, map}
use Rattle.std.specs.Prelude.{zip}
use Rattle.class_order.specs.Declarations.{declaration_of}
use Rattle.class_declarations.specs.Members.{fields_of}
use Rattle.source_classes.specs.Members.{fields_beside, numbered_field_of}
use Rattle.source_classes.proofs.MemberLemmas.{fields_numbered}
use Rattle.source_classes.proofs.members.numbered_fields.Goals as goal

pub returns : goal.returns
returns c =
    let k = c.args.class.now in
    let numbers = c.field_numbers-numbers.result.now in
    ap (map numbered_field_of) c.in_ok-all.ensures
    ∙ ap (λ ds. map numbered_field_of (fields_beside k.class numbers ds)) c.deref.ensures.value
    ∙ fields_numbered k.class (declaration_of k.declared) numbers c.in_ok-written.written.items c.in_ok-written.ensures
    ∙ ap (λ ns. zip ns (fields_of k.class (declaration_of k.declared))) c.field_numbers-numbers.ensures
