use Rattle.class_names.specs.Meanings.{unit_of}
use Rattle.table_members.specs.Methods.{IsParameter}
use Rattle.table_members.proofs.Zips.{zip_end, zip_turn}
use Rattle.table_members.proofs.signatures.parameters.Goals as goal

pub each-preserved : goal.each-preserved
each-preserved c =
    zip_turn (IsParameter c.args.names.now (unit_of c.args.scope.now)) c.args.written.now c.each.param-index c.param-item.result c.each.made.items c.push.new.self.items c.in_ok-parameter.field-0 c.each-test.true c.param-item.is c.in_ok-push.ensures.items c.each.invariant c.in_ok-parameter.ensures

pub returns-clause-parameters : goal.returns-clause-parameters
returns-clause-parameters c = zip_end (IsParameter c.args.names.now (unit_of c.args.scope.now)) c.args.written.now c.each.param-index c.each.made.items c.each-test.false c.each.invariant
