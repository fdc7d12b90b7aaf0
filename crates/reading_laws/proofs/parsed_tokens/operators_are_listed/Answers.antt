-- The laws are lemmas over the definitions alone.
use Rattle.reading_laws.proofs.Listed.{infix_listed, compound_listed}
use Rattle.reading_laws.proofs.parsed_tokens.operators_are_listed.Goals as goal

pub returns-clause-between : goal.returns-clause-between
returns-clause-between c = infix_listed

pub returns-clause-compound : goal.returns-clause-compound
returns-clause-compound c = compound_listed
