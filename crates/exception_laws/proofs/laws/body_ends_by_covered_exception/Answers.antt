use Rattle.exception_laws.proofs.Reached.{ends_by_exception, ends_covered}
use Rattle.exception_laws.proofs.laws.body_ends_by_covered_exception.Goals as goal

pub returns-clause-exception : goal.returns-clause-exception
returns-clause-exception c = ends_by_exception

pub returns-clause-covered : goal.returns-clause-covered
returns-clause-covered c = ends_covered
