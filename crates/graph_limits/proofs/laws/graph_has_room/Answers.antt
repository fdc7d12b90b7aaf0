-- The law is a lemma over the definitions alone.
use Rattle.graph_limits.proofs.StepRooms.{fits_rows}
use Rattle.graph_limits.proofs.laws.graph_has_room.Goals as goal

pub returns : goal.returns
returns c = λ p b nodes rows listed interests graph fit. fits_rows p b nodes rows graph fit listed interests
