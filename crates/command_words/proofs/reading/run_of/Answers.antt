use Rattle.std.proofs.Common.{codes}
use Rattle.clap.specs.Words.{first_of, found_of, rows_of}
use Rattle.command_words.specs.Requests.{input_names, input_names_in, request_of, run}
use Rattle.command_words.proofs.WordLemmas.{stops_at}
use Rattle.command_words.proofs.reading.run_of.Goals as goal

pub returns-in-Err : goal.returns-in-Err
returns-in-Err c =
    stops_at input_names (input_names_in (rows_of (found_of c.args.matches.now)))
    (run c.args.main.now (first_of (codes "choices") (rows_of (found_of c.args.matches.now))) c.args.steps) request_of c.in-Err.stop c.in-Err.ensures
