-- The law is a lemma over the definitions alone.
use Rattle.graph_limits.proofs.StepRooms.{fits_places}
use Rattle.graph_limits.proofs.laws.paths_have_room.Goals as goal

pub returns : goal.returns
returns c = fits_places
