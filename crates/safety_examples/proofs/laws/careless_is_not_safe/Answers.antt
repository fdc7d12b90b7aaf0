use Rattle.safety_examples.proofs.CarelessRun.{not_safe}
use Rattle.safety_examples.proofs.laws.careless_is_not_safe.Goals as goal

pub returns : goal.returns
returns c = not_safe
