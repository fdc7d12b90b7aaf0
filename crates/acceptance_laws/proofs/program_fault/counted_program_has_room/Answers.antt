-- The law is a lemma over the definitions alone.
use Rattle.acceptance_laws.proofs.Rooms.{counted_fits}
use Rattle.acceptance_laws.proofs.program_fault.counted_program_has_room.Goals as goal

pub returns : goal.returns
returns c = counted_fits
