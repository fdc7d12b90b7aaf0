use Rattle.safety_examples.proofs.CarefulFaults.{careful_no_fault}
use Rattle.safety_examples.proofs.laws.careful_has_no_fault.Goals as goal

pub returns : goal.returns
returns c = careful_no_fault
