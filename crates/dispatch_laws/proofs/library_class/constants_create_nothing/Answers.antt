use Rattle.dispatch_laws.proofs.Constants.{constant_resets_nothing}
use Rattle.dispatch_laws.proofs.library_class.constants_create_nothing.Goals as goal

pub returns : goal.returns
returns c = constant_resets_nothing
