-- The laws are lemmas over the definitions alone.
use Rattle.place_laws.proofs.PlaceLaws.{single_place-alone, single_place-has, single_place-same, single_place-some}
use Rattle.place_laws.proofs.facts.single_place.Goals as goal

pub returns-clause-has : goal.returns-clause-has
returns-clause-has c = single_place-has

pub returns-clause-some : goal.returns-clause-some
returns-clause-some c = single_place-some

pub returns-clause-alone : goal.returns-clause-alone
returns-clause-alone c = single_place-alone

pub returns-clause-same : goal.returns-clause-same
returns-clause-same c = single_place-same
