-- The options and files of each mode.
use Rattle.std.specs.Prelude.{Bool, ◌&&◌, ◌||◌, not, true, Option, Some, None, List, codes, if◌then◌else◌}
use Rattle.std.specs.List.{list_any}
use Rattle.std.specs.Str.{bytes_eq}
use Rattle.clap.specs.Lexer.{usize_max}
use Rattle.clap.specs.Walk.{is_empty}
use Rattle.clap.specs.Simple.{on_top}
use Rattle.clap.specs.Words.{App, Row, Rule, Text, fault_of, matches_of, new_app, new_rule, with_rule}
use Rattle.clap.specs.declared.builder.action.ArgAction.TheVariants.{Append, Set}
use Rattle.clap.specs.declared.builder.value_parser.ValueParser.TheVariants.{NonEmptyString}

-- an option with one value, which is not empty; it may be given at most once
abbrev pub option_rule : Text → Rule
option_rule name = record (new_rule name) { long = Some name; action = Some Set; parser = Some NonEmptyString }

-- such an option that has to be given
abbrev pub needed_rule : Text → Rule
needed_rule name = record (option_rule name) { required = true }

-- the files, of which there is one at least
abbrev pub files_rule : Rule
files_rule = record (new_rule (codes "files")) {
  action = Some Append;
  range = Some (record { start_inclusive = 1; end_inclusive = usize_max });
  required = true;
}

-- a mode without options: the words are those behind it, and there is no help of clap's own
abbrev pub bare_app : Text → App
bare_app name = on_top (λ s. record s { no_binary_name = true; disable_help_flag = true }) (new_app name)

-- .. [--config F] FILES..
abbrev pub with_inputs : App → App
with_inputs app = with_rule (with_rule app (option_rule (codes "config"))) files_rule

-- check [--config F] FILES..
unfoldable pub check_app : App
check_app = with_inputs (bare_app (codes "check"))

-- run --main C [--choices F] [--steps N] [--config F] FILES..
unfoldable pub run_app : App
run_app =
    with_inputs (with_rule (with_rule (with_rule (bare_app (codes "run")) (needed_rule (codes "main"))) (option_rule (codes "choices")))
    (option_rule (codes "steps")))

-- gen --seed K --methods M
unfoldable pub generate_app : App
generate_app = with_rule (with_rule (bare_app (codes "gen")) (needed_rule (codes "seed"))) (needed_rule (codes "methods"))

-- settings --config F
unfoldable pub settings_app : App
settings_app = with_rule (bare_app (codes "settings")) (needed_rule (codes "config"))

-- certify [--config F] FILES..
unfoldable pub certify_app : App
certify_app = with_inputs (bare_app (codes "certify"))

-- verify --cert F [--config F] FILES..
unfoldable pub verify_app : App
verify_app = with_inputs (with_rule (bare_app (codes "verify")) (needed_rule (codes "cert")))

-- a word that can name nothing: it is empty, or a dash alone
abbrev pub is_void : Text → Bool
is_void word = is_empty word || bytes_eq word (codes "-")

-- the options and files that are given, where the mode takes the words, each of which can name something
unfoldable pub arguments_in : App → List Text → Option (List Row)
arguments_in app words = if not (list_any is_void words) && is_empty (fault_of app words) then Some (matches_of app words) else None
