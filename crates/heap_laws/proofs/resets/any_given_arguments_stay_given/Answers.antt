use Rattle.heap_laws.proofs.LibraryCallLaws.{any_given_arguments_stay_given}
use Rattle.heap_laws.proofs.resets.any_given_arguments_stay_given.Goals as goal

pub returns : goal.returns
returns c = any_given_arguments_stay_given
