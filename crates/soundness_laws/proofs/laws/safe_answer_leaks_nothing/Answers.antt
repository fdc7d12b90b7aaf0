use Rattle.soundness_laws.proofs.Answers.{safe_answer}
use Rattle.soundness_laws.proofs.laws.safe_answer_leaks_nothing.Goals as goal

pub returns : goal.returns
returns c = safe_answer
