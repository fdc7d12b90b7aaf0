use Rattle.dispatch_laws.proofs.Conducts.{library_makes_made_classes}
use Rattle.dispatch_laws.proofs.library_class.library_makes_made_classes.Goals as goal

pub returns : goal.returns
returns c = library_makes_made_classes
