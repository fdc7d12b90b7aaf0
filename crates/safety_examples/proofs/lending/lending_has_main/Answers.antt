use Rattle.safety_examples.proofs.LendingAccepted.{has_main}
use Rattle.safety_examples.proofs.lending.lending_has_main.Goals as goal

pub returns : goal.returns
returns c = has_main
