use Rattle.well_formed_programs.proofs.SignedTwice.{signed_twice}
use Rattle.well_formed_programs.proofs.laws.signed_program_is_signed.Goals as goal

pub returns : goal.returns
returns c = signed_twice
