use Rattle.soundness_laws.proofs.AcceptedForms.{plain_forms}
use Rattle.soundness_laws.proofs.soundness.accepted_has_plain_forms.Goals as goal

pub returns : goal.returns
returns c = plain_forms
