use Rattle.side_commands.proofs.MigrationLemmas.{due_of_file}
use Rattle.side_commands.proofs.migration.due_for.Goals as goal

pub returns-clause-due : goal.returns-clause-due
returns-clause-due g c =
    due_of_file (g.F.Files.contents c.args.files.now) c.args.name.now
    (record {
      faults = g.F.Files.faults c.args.files.now;
      faults_now = g.F.Files.faults c.read_file.new.files;
      taken = g.F.Files.taken c.args.files.now;
      taken_now = g.F.Files.taken c.read_file.new.files;
    })
    c.bytes.result.now (rw c.bytes.ensures c.in-Ok.ensures.cause.0) (rw c.bytes.ensures c.in-Ok.ensures.cause.1) c.in-Ok.ensures.cause.2
    c.migrated.result c.migrated.ensures
