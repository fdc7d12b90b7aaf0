use Rattle.std.proofs.Common.{◌∙◌, ◌++◌, ap, sym, subst, ℕ, List}
use Rattle.settings_file.specs.Reading.{SaysSame}
use Rattle.side_commands.proofs.migration.migrated.Goals as goal

pub returns : goal.returns
returns c =
    let printed = c.in_ok-print_settings.ensures.printed in (
      c.in-Ok.settings,
      c.in-Ok.ensures.read,
      subst (SaysSame c.in-Ok.settings) (sym (printed.1 ∙ ap (λ (text : List ℕ). text ++ printed.0) c.new-text.ensures)) printed.2,
    )
