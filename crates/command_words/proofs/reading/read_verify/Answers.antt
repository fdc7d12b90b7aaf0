use Rattle.std.proofs.Common.{map, string_bytes, Global}
use Rattle.clap.specs.Words.{app_of, found_of, rows_of}
use Rattle.command_words.specs.Modes.{verify_app}
use Rattle.command_words.specs.Requests.{verify_request}
use Rattle.command_words.proofs.WordLemmas.{asks_none, asks_on}
use Rattle.command_words.proofs.reading.read_verify.Goals as goal

pub returns-in-Ok : goal.returns-in-Ok
returns-in-Ok c =
    asks_on (app_of c.in_ok-mode.mode) verify_app c.in_ok-mode.ensures.app (map (string_bytes {Z = Global}) c.args.words.now)
    (rows_of (found_of c.in-Ok.matches)) verify_request c.verify_command.result c.in-Ok.ensures c.verify_command.ensures

pub returns-in-Err : goal.returns-in-Err
returns-in-Err c =
    asks_none (app_of c.in_ok-mode.mode) verify_app c.in_ok-mode.ensures.app (map (string_bytes {Z = Global}) c.args.words.now)
    verify_request c.in-Err.stop c.in-Err.ensures
