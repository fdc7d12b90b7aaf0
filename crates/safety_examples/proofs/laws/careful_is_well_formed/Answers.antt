use Rattle.safety_examples.proofs.CarefulFormed.{annotations_right, overriding, signed, well_formed}
use Rattle.safety_examples.proofs.laws.careful_is_well_formed.Goals as goal

pub returns-clause-well_formed : goal.returns-clause-well_formed
returns-clause-well_formed c = well_formed

pub returns-clause-overriding : goal.returns-clause-overriding
returns-clause-overriding c = overriding

pub returns-clause-annotations : goal.returns-clause-annotations
returns-clause-annotations c = annotations_right

pub returns-clause-signatures : goal.returns-clause-signatures
returns-clause-signatures c = signed
