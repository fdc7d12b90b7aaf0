use Rattle.soundness_laws.proofs.Safe.{safe_at}
use Rattle.soundness_laws.proofs.soundness.agree_is_safe.Goals as goal

pub returns : goal.returns
returns c = safe_at
