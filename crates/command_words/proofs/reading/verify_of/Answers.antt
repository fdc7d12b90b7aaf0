use Rattle.clap.specs.Words.{found_of, rows_of}
use Rattle.command_words.specs.Requests.{input_names, input_names_in, request_of, verify}
use Rattle.command_words.proofs.WordLemmas.{stops_at}
use Rattle.command_words.proofs.reading.verify_of.Goals as goal

pub returns-in-Err : goal.returns-in-Err
returns-in-Err c =
    stops_at input_names (input_names_in (rows_of (found_of c.args.matches.now))) (verify c.args.certificate.now) request_of c.in-Err.stop c.in-Err.ensures
