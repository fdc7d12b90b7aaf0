use Rattle.std.proofs.Common.{◌≡◌, ◌++◌, ap, ◌∙◌, Some, string_bytes}
use Rattle.std.proofs.lemmas.Str.{IsUtf8-string_bytes}
use Rattle.toml.specs.Parse.{parse_document}
use Rattle.settings_file.specs.Members.{members_of}
use Rattle.settings_file.proofs.Members.{says_same, shallow}
use Rattle.settings_file.proofs.printing.print_settings.Goals as goal

pub returns-clause-printed : goal.returns-clause-printed
returns-clause-printed c =
    let s = c.args.settings.now in
    let text = string_bytes c.in-Ok.text in
    let parsed : parse_document text ≡ Some (members_of s) = c.in-Ok.ensures.reads_back (rw c.in_ok-table.ensures (shallow s)) ∙ ap Some c.in_ok-table.ensures in
    (text, c.in_ok-push_bytes.ensures.ok ∙ ap (λ x. c.args.into.now ++ x) c.as_bytes.ensures.value, says_same s text (IsUtf8-string_bytes c.in-Ok.text) parsed)
