use Rattle.content_laws.proofs.PassedCalls.{passes_nothing}
use Rattle.content_laws.proofs.passed_calls.calls_are_made_behind.Goals as goal

pub returns : goal.returns
returns c = passes_nothing
