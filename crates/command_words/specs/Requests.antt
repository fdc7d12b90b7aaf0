-- What the words ask for.
use Rattle.std.specs.Prelude.{◌≡◌, ◌≢◌, ℕ, Option, Some, None, option_and_then, option_map, List, [], ◌∷◌, map, codes, if◌then◌else◌, Result, Ok, Err}
use Rattle.std.specs.Str.{bytes_eq}
use Rattle.clap.specs.Words.{App, Row, Text, all_of, first_of}
use Rattle.command_words.specs.Modes.{arguments_in, certify_app, check_app, generate_app, run_app, settings_app, verify_app}
use Rattle.command_words.specs.Numbers.{number_up_to}
use Rattle.command_words.specs.declared.commands.Command.{Command}
use Rattle.command_words.specs.declared.commands.Command.TheVariants as commands
use Rattle.command_words.specs.declared.commands.Inputs.{Inputs}
use Rattle.clap.specs.declared.error.kind.ErrorKind.{ErrorKind}
use Rattle.clap.specs.declared.error.kind.ErrorKind.TheVariants as kinds
use Rattle.command_words.specs.declared.commands.WordsStop.{WordsStop}
use Rattle.command_words.specs.declared.commands.WordsStop.TheVariants as stops

-- a settings file, where one is named, and the files in the order of the words
pub record InputNames : Type 0 where
  pub settings : Option Text
  pub files : List Text

pub data Request : Type 0 where
  check : InputNames → Request
  run : (main : Text) (choices : Option Text) (steps : ℕ) → InputNames → Request
  generate : (seed methods : ℕ) → Request
  settings : (file : Text) → Request
  certify : InputNames → Request
  verify : (certificate : Text) → InputNames → Request

-- the request that a command stands for
abbrev pub input_names : Inputs → InputNames
input_names inputs = record { settings = option_map (λ name. name.now) inputs.settings; files = map (λ name. name.now) inputs.files.items }

abbrev pub request_of : Command → Request
request_of (commands.Check inputs) = check (input_names inputs)
request_of (commands.Run main choices steps inputs) = run main.now (option_map (λ name. name.now) choices) steps (input_names inputs)
request_of (commands.Generate seed methods) = generate seed methods
request_of (commands.Settings file) = settings file.now
request_of (commands.Certify inputs) = certify (input_names inputs)
request_of (commands.Verify certificate inputs) = verify certificate.now (input_names inputs)

-- the settings file and the files, of which there is one at least
abbrev pub input_names_in : List Row → Option InputNames
input_names_in rows = option_map (λ files. record { settings = first_of (codes "config") rows; files = files }) (all_of (codes "files") rows)

-- the most steps of a run: 1,000,000 where no number is given, and 10,000,000 at most
abbrev pub steps_or_default : Option Text → Option ℕ
steps_or_default None = Some 1000000
steps_or_default (Some text) = number_up_to 10000000 text

abbrev pub number_at : ℕ → Text → List Row → Option ℕ
number_at most name rows = option_and_then (number_up_to most) (first_of name rows)

-- what the options and files of each mode ask for
abbrev pub check_request : List Row → Option Request
check_request rows = option_map check (input_names_in rows)

abbrev pub run_behind : Text → ℕ → List Row → Option Request
run_behind main steps rows = option_map (run main (first_of (codes "choices") rows) steps) (input_names_in rows)

abbrev pub run_request : List Row → Option Request
run_request rows =
    option_and_then (λ main. option_and_then (λ steps. run_behind main steps rows) (steps_or_default (first_of (codes "steps") rows)))
    (first_of (codes "main") rows)

abbrev pub generate_request : List Row → Option Request
generate_request rows =
    option_and_then (λ seed. option_map (generate seed) (number_at 5000 (codes "methods") rows)) (number_at 2147483647 (codes "seed") rows)

abbrev pub settings_request : List Row → Option Request
settings_request rows = option_map settings (first_of (codes "config") rows)

abbrev pub certify_request : List Row → Option Request
certify_request rows = option_map certify (input_names_in rows)

abbrev pub verify_behind : Text → List Row → Option Request
verify_behind certificate rows = option_map (verify certificate) (input_names_in rows)

abbrev pub verify_request : List Row → Option Request
verify_request rows = option_and_then (λ certificate. verify_behind certificate rows) (first_of (codes "cert") rows)

-- what is asked for, where the mode takes the words behind it
abbrev pub request_of_mode : App → (List Row → Option Request) → List Text → Option Request
request_of_mode app request words = option_and_then request (arguments_in app words)

-- the words behind a mode
abbrev pub request_behind : Text → List Text → Option Request
request_behind mode words =
    if bytes_eq mode (codes "check") then request_of_mode check_app check_request words
    else (if bytes_eq mode (codes "run") then request_of_mode run_app run_request words
    else (if bytes_eq mode (codes "gen") then request_of_mode generate_app generate_request words
    else (if bytes_eq mode (codes "settings") then request_of_mode settings_app settings_request words
    else (if bytes_eq mode (codes "certify") then request_of_mode certify_app certify_request words
    else (if bytes_eq mode (codes "verify") then request_of_mode verify_app verify_request words else None)))))

-- what the words ask for: nothing where they begin with no mode, or with one that does not take the rest
abbrev pub request_in : List Text → Option Request
request_in [] = None
request_in (mode ∷ words) = request_behind mode words

-- why `clap` refuses the words: a kind of error that is not want of memory
abbrev pub IsCauseOf : ErrorKind → WordsStop → Type 0
IsCauseOf kind stops.Usage = kind ≢ kinds.OutOfMemory
IsCauseOf kind stops.NoMemory = Unit {0}

-- An answer is what was found, and `Usage` says that nothing was. Want of memory is always a reason.
abbrev pub Finds : {A B : Type 0} → (A → B) → Option B → Result A WordsStop → Type 0
Finds view found (Ok x) = found ≡ Some (view x)
Finds view found (Err stops.Usage) = found ≡ None
Finds view found (Err stops.NoMemory) = Unit {0}
