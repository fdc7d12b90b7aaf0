use Rattle.std.proofs.Common.{rules, ◌≡◌, ◌∙◌, ap}
use Rattle.clap.specs.Words.{app_of, is_simple_and_free}
use Rattle.command_words.specs.Modes.{certify_app}
use Rattle.command_words.proofs.ModeLemmas.{certify_simple}
use Rattle.command_words.proofs.modes.certify_mode.Goals as goal

pub returns-clause-simple : goal.returns-clause-simple
unfolding certify_app
returns-clause-simple c =
    let same : app_of c.in_ok-mode.mode ≡ certify_app = search rules in
    ap is_simple_and_free same ∙ certify_simple
