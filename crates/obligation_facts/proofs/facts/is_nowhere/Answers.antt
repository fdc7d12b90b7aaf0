use Rattle.obligation_facts.proofs.FactLaws.{nowhere_where_empty}
use Rattle.obligation_facts.proofs.facts.is_nowhere.Goals as goal

pub returns : goal.returns
returns c = nowhere_where_empty c.args.held c.is_empty.result c.is_empty.ensures
