use Rattle.std.proofs.Common.{map, string_bytes, Global}
use Rattle.clap.specs.Words.{app_of, found_of, rows_of}
use Rattle.command_words.specs.Modes.{run_app}
use Rattle.command_words.specs.Requests.{run_request}
use Rattle.command_words.proofs.WordLemmas.{asks_none, asks_on}
use Rattle.command_words.proofs.reading.read_run.Goals as goal

pub returns-in-Ok : goal.returns-in-Ok
returns-in-Ok c =
    asks_on (app_of c.in_ok-mode.mode) run_app c.in_ok-mode.ensures.app (map (string_bytes {Z = Global}) c.args.words.now)
    (rows_of (found_of c.in-Ok.matches)) run_request c.run_command.result c.in-Ok.ensures c.run_command.ensures

pub returns-in-Err : goal.returns-in-Err
returns-in-Err c =
    asks_none (app_of c.in_ok-mode.mode) run_app c.in_ok-mode.ensures.app (map (string_bytes {Z = Global}) c.args.words.now)
    run_request c.in-Err.stop c.in-Err.ensures
