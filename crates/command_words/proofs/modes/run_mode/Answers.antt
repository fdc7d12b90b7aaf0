use Rattle.std.proofs.Common.{◌≡◌, ◌∙◌, ap, ap₂, codes}
use Rattle.clap.specs.Words.{app_of, is_simple_and_free, with_rule}
use Rattle.command_words.specs.Modes.{bare_app, needed_rule, run_app, with_inputs}
use Rattle.command_words.proofs.ModeLemmas.{run_simple}
use Rattle.command_words.proofs.modes.run_mode.Goals as goal

pub returns-clause-app : goal.returns-clause-app
unfolding run_app
returns-clause-app c =
    let one : app_of c.in_ok-mode.mode ≡ with_rule (bare_app (codes "run")) (needed_rule (codes "main")) =
    c.in_ok-mode.ensures.shape c.needed_option.ensures.local ∙ ap₂ with_rule c.bare-mode.ensures c.needed_option.ensures.rule in
    let two = c.in_ok-mode-2.ensures.shape c.option_named.ensures.local ∙ ap₂ with_rule one c.option_named.ensures.rule in
    let three = c.in_ok-mode-3.ensures.shape c.option_named-2.ensures.local ∙ ap₂ with_rule two c.option_named-2.ensures.rule in
    c.in_ok-mode-4.ensures ∙ ap with_inputs three

pub returns-clause-simple : goal.returns-clause-simple
unfolding run_app
returns-clause-simple c =
    let one : app_of c.in_ok-mode.mode ≡ with_rule (bare_app (codes "run")) (needed_rule (codes "main")) =
    c.in_ok-mode.ensures.shape c.needed_option.ensures.local ∙ ap₂ with_rule c.bare-mode.ensures c.needed_option.ensures.rule in
    let two = c.in_ok-mode-2.ensures.shape c.option_named.ensures.local ∙ ap₂ with_rule one c.option_named.ensures.rule in
    let three = c.in_ok-mode-3.ensures.shape c.option_named-2.ensures.local ∙ ap₂ with_rule two c.option_named-2.ensures.rule in
    let same : app_of c.in_ok-mode-4.mode ≡ run_app = c.in_ok-mode-4.ensures ∙ ap with_inputs three in
    ap is_simple_and_free same ∙ run_simple
