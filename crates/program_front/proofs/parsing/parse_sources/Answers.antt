use Rattle.program_front.specs.Files.{IsUnitOf, IsUnitless}
use Rattle.program_front.proofs.InTurnLaws.{done_more, stopped_at}
use Rattle.program_front.proofs.parsing.parse_sources.Goals as goal

pub returns-in-Err : goal.returns-in-Err
returns-in-Err c =
    stopped_at IsUnitOf IsUnitless c.args.files.now c.each.file-index c.file-item.result c.each.units.items c.in-Err.stop
    c.each-test.true c.file-item.is c.each.invariant c.in-Err.ensures.stopped

pub each-preserved : goal.each-preserved
each-preserved c =
    rw c.in-Ok-push.ensures.items
    (done_more IsUnitOf c.args.files.now c.each.file-index c.file-item.result c.each.units.items c.in-Ok.unit
    c.each-test.true c.file-item.is c.each.invariant c.in-Ok.ensures.unit)
