use Rattle.std.proofs.Common.{◌≡◌, ◌∙◌, ◌∷◌, ◌++◌, [], ap, codes, string_bytes}
use Rattle.std.specs.Fmt.{decimal}
use Rattle.command_answers.proofs.TextLaws.{grouped_placeless}
use Rattle.command_answers.proofs.texts.placeless.Goals as goal

pub returns : goal.returns
returns c =
    let e : string_bytes c.in_ok-text.text ≡ c.args.name.now ++ (codes ": " ++ (decimal c.number-number.result ++ (codes " " ++ (c.name-cause.result.now ++ 10 ∷ [])))) = c.in_ok-text.ensures.ok in
    c.from_bytes.ensures ∙ ap (λ v. v.items) c.into_bytes.ensures.value ∙ e ∙ grouped_placeless c.args.name.now c.args.code c.number-number.result c.name-cause.result.now c.number-number.ensures c.name-cause.ensures
