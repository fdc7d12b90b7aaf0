use Rattle.dispatch_laws.proofs.Operations.{operations_throw_made_classes}
use Rattle.dispatch_laws.proofs.library_class.operations_throw_made_classes.Goals as goal

pub returns : goal.returns
returns c = operations_throw_made_classes
