use Rattle.std.proofs.Common.{refl}
use Rattle.rlc_cli.proofs.RequestLaws.{generated_too}
use Rattle.rlc_cli.proofs.requests.request_answer.Goals as goal

pub returns-in-Generate-clause-answer : goal.returns-in-Generate-clause-answer
returns-in-Generate-clause-answer g c =
    rw c.in-Generate.is
    (generated_too (g.F.Files.contents c.args.files.now)
    (record {
      faults = g.F.Files.faults c.args.files.now;
      faults_now = g.F.Files.faults c.args.files.now;
      taken = g.F.Files.taken c.args.files.now;
      taken_now = g.F.Files.taken c.args.files.now;
    })
    c.in-Generate.seed c.in-Generate.methods c.generated_answer.result refl c.generated_answer.ensures)
