use Rattle.well_formed_programs.proofs.WellFormedLaws.{well_formed}
use Rattle.well_formed_programs.proofs.laws.signed_program_is_well_formed.Goals as goal

pub returns : goal.returns
returns c = well_formed
