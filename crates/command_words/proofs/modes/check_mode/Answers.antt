use Rattle.std.proofs.Common.{rules, ◌≡◌, ◌∙◌, ap}
use Rattle.clap.specs.Words.{app_of, is_simple_and_free}
use Rattle.command_words.specs.Modes.{check_app}
use Rattle.command_words.proofs.ModeLemmas.{check_simple}
use Rattle.command_words.proofs.modes.check_mode.Goals as goal

pub returns-clause-simple : goal.returns-clause-simple
unfolding check_app
returns-clause-simple c =
    let same : app_of c.in_ok-mode.mode ≡ check_app = search rules in
    ap is_simple_and_free same ∙ check_simple
