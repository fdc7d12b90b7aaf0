use Rattle.content_laws.proofs.Linked.{linked_leads}
use Rattle.content_laws.proofs.going.linked_object_leads.Goals as goal

pub returns : goal.returns
returns c = linked_leads
