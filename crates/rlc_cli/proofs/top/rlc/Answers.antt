use Rattle.std.proofs.Common.{map, string_bytes, Global}
use Rattle.command_words.specs.Requests.{request_in}
use Rattle.rlc_cli.proofs.Headlines.{headline}
use Rattle.rlc_cli.proofs.ReadFaults.{after_rise}
use Rattle.rlc_cli.proofs.top.rlc.Goals as goal

pub returns-in-Ok-clause-read_rose : goal.returns-in-Ok-clause-read_rose
returns-in-Ok-clause-read_rose g c = λ rose.
    after_rise (g.F.Files.contents c.args.files.now)
    (record {
      faults = g.F.Files.faults c.args.files.now;
      faults_now = g.F.Files.faults c.answer.new.files;
      taken = g.F.Files.taken c.args.files.now;
      taken_now = g.F.Files.taken c.answer.new.files;
    })
    (request_in (map (string_bytes {Z = Global}) c.args.words.now)) (g.O.Sink.sure c.args.out.now) (g.O.Sink.bytes c.args.out.now) (g.O.Sink.bytes c.send.new.out) c.in-Ok.answer
    c.send.result c.in-Ok.ensures.answer c.send.ensures.sent rose

pub returns-in-Ok-clause-headline : goal.returns-in-Ok-clause-headline
returns-in-Ok-clause-headline g c =
    headline (g.F.Files.contents c.args.files.now)
    (record {
      faults = g.F.Files.faults c.args.files.now;
      faults_now = g.F.Files.faults c.answer.new.files;
      taken = g.F.Files.taken c.args.files.now;
      taken_now = g.F.Files.taken c.answer.new.files;
    })
    (request_in (map (string_bytes {Z = Global}) c.args.words.now)) (g.O.Sink.sure c.args.out.now) (g.O.Sink.bytes c.args.out.now) (g.O.Sink.bytes c.send.new.out) c.in-Ok.answer
    c.send.result c.in-Ok.ensures.answer c.send.ensures.sent
