-- The methods are those of the class, each beside its number.
use Rattle.std.proofs.Common.{◌∙◌, ap, map}
use Rattle.std.specs.Prelude.{zip}
use Rattle.class_order.specs.Declarations.{declaration_of}
use Rattle.class_declarations.specs.Members.{written_in}
use Rattle.source_classes.specs.Members.{methods_beside, numbered_method_of}
use Rattle.source_classes.proofs.MemberLemmas.{methods_zipped}
use Rattle.source_classes.proofs.members.numbered_methods.Goals as goal

pub returns : goal.returns
returns c =
    let numbers = c.method_numbers-numbers.result.now in
    ap (map numbered_method_of) c.in_ok-all.ensures
    ∙ ap (λ ts. map numbered_method_of (methods_beside numbers ts)) c.deref.ensures.value
    ∙ methods_zipped numbers c.in_ok-written.written.items
    ∙ ap (zip numbers) c.in_ok-written.ensures
    ∙ ap (λ ns. zip ns (written_in c.args.scope.now.names.now (declaration_of c.args.class.now.declared))) c.method_numbers-numbers.ensures
