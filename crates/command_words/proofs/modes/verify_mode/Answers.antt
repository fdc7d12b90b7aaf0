use Rattle.std.proofs.Common.{◌≡◌, ◌∙◌, ap, ap₂, codes}
use Rattle.clap.specs.Words.{app_of, is_simple_and_free, with_rule}
use Rattle.command_words.specs.Modes.{bare_app, needed_rule, verify_app, with_inputs}
use Rattle.command_words.proofs.ModeLemmas.{verify_simple}
use Rattle.command_words.proofs.modes.verify_mode.Goals as goal

pub returns-clause-app : goal.returns-clause-app
unfolding verify_app
returns-clause-app c =
    let one : app_of c.in_ok-mode.mode ≡ with_rule (bare_app (codes "verify")) (needed_rule (codes "cert")) =
    c.in_ok-mode.ensures.shape c.needed_option.ensures.local ∙ ap₂ with_rule c.bare-mode.ensures c.needed_option.ensures.rule in
    c.in_ok-mode-2.ensures ∙ ap with_inputs one

pub returns-clause-simple : goal.returns-clause-simple
unfolding verify_app
returns-clause-simple c =
    let one : app_of c.in_ok-mode.mode ≡ with_rule (bare_app (codes "verify")) (needed_rule (codes "cert")) =
    c.in_ok-mode.ensures.shape c.needed_option.ensures.local ∙ ap₂ with_rule c.bare-mode.ensures c.needed_option.ensures.rule in
    let same : app_of c.in_ok-mode-2.mode ≡ verify_app = c.in_ok-mode-2.ensures ∙ ap with_inputs one in
    ap is_simple_and_free same ∙ verify_simple
