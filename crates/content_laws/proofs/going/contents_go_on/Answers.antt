use Rattle.content_laws.specs.Going.{IsNotedBy}
use Rattle.content_laws.proofs.Goes.{contents_go_on}
use Rattle.content_laws.proofs.going.contents_go_on.Goals as goal

pub returns : goal.returns
returns c = λ p h k l a named. contents_go_on p h k (IsNotedBy l a named)
