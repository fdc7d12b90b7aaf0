use Rattle.std.proofs.Common.{◌∙◌, ap, All, ◌++◌, ◌∷◌, [], subst, sym}
use Rattle.std.proofs.lemmas.List.Elements.{All-push}
use Rattle.std.specs.Str.{IsUtf8}
use Rattle.settings_file.proofs.values.push_name.Goals as goal

pub returns-clause-utf8 : goal.returns-clause-utf8
returns-clause-utf8 c old =
    let name = c.args.name.now in
    let names = c.args.names.now.items in
    subst (All IsUtf8) (sym (c.in_ok-push.ensures.items ∙ ap (λ x. names ++ x ∷ []) c.in_ok-text_of.ensures)) (All-push IsUtf8 names name old c.utf8.name)
