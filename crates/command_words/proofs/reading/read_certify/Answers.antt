use Rattle.std.proofs.Common.{map, string_bytes, Global}
use Rattle.clap.specs.Words.{app_of, found_of, rows_of}
use Rattle.command_words.specs.Modes.{certify_app}
use Rattle.command_words.specs.Requests.{certify_request}
use Rattle.command_words.proofs.WordLemmas.{asks_none, asks_on}
use Rattle.command_words.proofs.reading.read_certify.Goals as goal

pub returns-in-Ok : goal.returns-in-Ok
returns-in-Ok c =
    asks_on (app_of c.in_ok-mode.mode) certify_app c.in_ok-mode.ensures.app (map (string_bytes {Z = Global}) c.args.words.now)
    (rows_of (found_of c.in-Ok.matches)) certify_request c.certify_command.result c.in-Ok.ensures c.certify_command.ensures

pub returns-in-Err : goal.returns-in-Err
returns-in-Err c =
    asks_none (app_of c.in_ok-mode.mode) certify_app c.in_ok-mode.ensures.app (map (string_bytes {Z = Global}) c.args.words.now)
    certify_request c.in-Err.stop c.in-Err.ensures
