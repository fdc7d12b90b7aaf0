-- What some words ask for.
use Rattle.std.proofs.Common.{◌≡◌, Some, None, [], ◌∷◌, codes, refl}
use Rattle.clap.proofs.OnLiterals.{clap_on_literals}
use Rattle.command_words.specs.Modes.{arguments_in, check_app, generate_app, run_app, settings_app, verify_app}
use Rattle.command_words.specs.Requests.{check, generate, request_in, run, settings, verify}

-- an option may stand behind a file, and with its value in one word
pub settings_behind_a_file : request_in (codes "check" ∷ codes "B.java" ∷ codes "--config=c" ∷ codes "A.java" ∷ [])
    ≡ Some (check (record { settings = Some (codes "c"); files = codes "B.java" ∷ codes "A.java" ∷ [] }))
unfolding clap_on_literals arguments_in check_app
settings_behind_a_file = refl

pub options_in_any_order : request_in (codes "run" ∷ codes "--steps=5" ∷ codes "--main" ∷ codes "Main" ∷ codes "W.java" ∷ [])
    ≡ Some (run (codes "Main") None 5 (record { settings = None; files = codes "W.java" ∷ [] }))
unfolding clap_on_literals arguments_in run_app
options_in_any_order = refl

pub seed_and_methods : request_in (codes "gen" ∷ codes "--seed" ∷ codes "1" ∷ codes "--methods" ∷ codes "4" ∷ []) ≡ Some (generate 1 4)
unfolding clap_on_literals arguments_in generate_app
seed_and_methods = refl

pub settings_file : request_in (codes "settings" ∷ codes "--config" ∷ codes "c" ∷ []) ≡ Some (settings (codes "c"))
unfolding clap_on_literals arguments_in settings_app
settings_file = refl

pub certificate_behind_the_files : request_in (codes "verify" ∷ codes "A.java" ∷ codes "--cert" ∷ codes "c" ∷ []) ≡ Some (verify (codes "c") (record { settings = None; files = codes "A.java" ∷ [] }))
unfolding clap_on_literals arguments_in verify_app
certificate_behind_the_files = refl

-- there is no help of clap's own
pub no_help : request_in (codes "check" ∷ codes "--help" ∷ codes "A.java" ∷ []) ≡ None
unfolding clap_on_literals arguments_in check_app
no_help = refl

pub no_file : request_in (codes "check" ∷ []) ≡ None
unfolding clap_on_literals arguments_in check_app
no_file = refl

pub empty_value : request_in (codes "check" ∷ codes "--config=" ∷ codes "A.java" ∷ []) ≡ None
unfolding clap_on_literals arguments_in check_app
empty_value = refl

pub option_twice : request_in (codes "run" ∷ codes "--main" ∷ codes "Main" ∷ codes "--main" ∷ codes "Main" ∷ codes "A.java" ∷ []) ≡ None
unfolding clap_on_literals arguments_in run_app
option_twice = refl

pub number_with_sign : request_in (codes "run" ∷ codes "--main" ∷ codes "Main" ∷ codes "--steps" ∷ codes "+5" ∷ codes "A.java" ∷ []) ≡ None
unfolding clap_on_literals arguments_in run_app
number_with_sign = refl
