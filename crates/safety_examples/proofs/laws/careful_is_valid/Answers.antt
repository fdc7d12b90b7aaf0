use Rattle.safety_examples.proofs.CarefulTrees.{has_bodies, valid_program}
use Rattle.safety_examples.proofs.laws.careful_is_valid.Goals as goal

pub returns-clause-valid : goal.returns-clause-valid
returns-clause-valid c = valid_program

pub returns-clause-bodies : goal.returns-clause-bodies
returns-clause-bodies c = has_bodies
