use Rattle.std.proofs.Common.{subst, ℕ, map, string_bytes, Global}
use Rattle.std.proofs.lemmas.List.{length-map}
use Rattle.input_files.specs.Inputs.{IsInside}
use Rattle.input_files.proofs.PlaceLaws.{stopped_inside}
use Rattle.input_files.proofs.reading.read_inputs.Goals as goal

pub stop_answer-requires : goal.stop_answer-requires
stop_answer-requires g c =
    subst (λ (n : ℕ). IsInside n c.in-Err.stop) (length-map c.args.names.now (string_bytes {Z = Global}))
    (stopped_inside (g.F.Files.contents c.args.files.now) c.args.held (map (string_bytes {Z = Global}) c.args.names.now)
    (record {
      faults = g.F.Files.faults c.args.files.now;
      faults_now = g.F.Files.faults c.read_all.new.files;
      taken = g.F.Files.taken c.args.files.now;
      taken_now = g.F.Files.taken c.read_all.new.files;
    })
    c.in-Err.stop c.in-Err.ensures.cause)

pub returns-clause-read : goal.returns-clause-read
returns-clause-read g c = record { stop = c.in-Err.stop; cause = c.in-Err.ensures.cause; line = c.in_ok-answer.ensures }
