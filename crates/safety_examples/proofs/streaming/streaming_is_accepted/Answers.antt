use Rattle.safety_examples.proofs.StreamingAccepted.{accepted}
use Rattle.safety_examples.proofs.streaming.streaming_is_accepted.Goals as goal

pub returns : goal.returns
returns c = accepted
