use Rattle.safety_examples.proofs.LendingAccepted.{accepted}
use Rattle.safety_examples.proofs.lending.lending_is_accepted.Goals as goal

pub returns : goal.returns
returns c = accepted
