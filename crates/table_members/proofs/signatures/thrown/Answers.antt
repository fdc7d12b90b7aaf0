use Rattle.class_names.specs.Meanings.{unit_of}
use Rattle.table_members.specs.Methods.{IsNamedClass}
use Rattle.table_members.proofs.Zips.{zip_end, zip_turn}
use Rattle.table_members.proofs.signatures.thrown.Goals as goal

pub each-preserved : goal.each-preserved
each-preserved c =
    zip_turn (IsNamedClass c.args.names.now (unit_of c.args.scope.now)) c.args.written.now c.each.name-index c.name-item.result c.each.classes.items c.push.new.self.items c.known_class.result c.each-test.true c.name-item.is c.in_ok-push.ensures.items c.each.invariant c.known_class.ensures

pub returns : goal.returns
returns c = zip_end (IsNamedClass c.args.names.now (unit_of c.args.scope.now)) c.args.written.now c.each.name-index c.each.classes.items c.each-test.false c.each.invariant
