use Rattle.content_laws.specs.Going.{IsNotedBy}
use Rattle.content_laws.proofs.LinkSteps.{leads_go_on}
use Rattle.content_laws.proofs.going.leads_go_on.Goals as goal

pub returns : goal.returns
returns c = λ p h k l a named. leads_go_on p h k (IsNotedBy l a named)
