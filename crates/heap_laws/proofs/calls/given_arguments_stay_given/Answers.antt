use Rattle.heap_laws.proofs.LibraryCallLaws.{given_arguments_stay_given}
use Rattle.heap_laws.proofs.calls.given_arguments_stay_given.Goals as goal

pub returns : goal.returns
returns c = given_arguments_stay_given
