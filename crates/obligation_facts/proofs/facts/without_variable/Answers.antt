use Rattle.std.proofs.Common.{sym}
use Rattle.control_actions.specs.Scopes.{drops_variable}
use Rattle.control_actions.specs.declared.place.Place.TheVariants as places
use Rattle.obligation_facts.proofs.FactLaws.{absent_stays}
use Rattle.obligation_facts.proofs.facts.without_variable.Goals as goal

pub returns-then-not-contains : goal.returns-then-not-contains
returns-then-not-contains c = absent_stays c.args.held (places.Var c.args.variable) (drops_variable c.args.body.now c.args.scope c.args.variable) (sym c.if-not-contains.ensures)
