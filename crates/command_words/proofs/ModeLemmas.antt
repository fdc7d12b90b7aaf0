-- The modes are commands of which clap says exactly what it takes.
use Rattle.std.proofs.Common.{◌≡◌, true, refl}
use Rattle.clap.specs.Words.{is_simple_and_free}
use Rattle.clap.proofs.OnLiterals.{clap_on_literals}
use Rattle.command_words.specs.Modes.{certify_app, check_app, generate_app, run_app, settings_app, verify_app}

pub check_simple : is_simple_and_free check_app ≡ true
unfolding clap_on_literals check_app
check_simple = refl

pub run_simple : is_simple_and_free run_app ≡ true
unfolding clap_on_literals run_app
run_simple = refl

pub generate_simple : is_simple_and_free generate_app ≡ true
unfolding clap_on_literals generate_app
generate_simple = refl

pub settings_simple : is_simple_and_free settings_app ≡ true
unfolding clap_on_literals settings_app
settings_simple = refl

pub certify_simple : is_simple_and_free certify_app ≡ true
unfolding clap_on_literals certify_app
certify_simple = refl

pub verify_simple : is_simple_and_free verify_app ≡ true
unfolding clap_on_literals verify_app
verify_simple = refl
