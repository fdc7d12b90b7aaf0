-- The law is a lemma over the definitions alone.
use Rattle.elaboration_laws.proofs.KeptValidity.{with_bodies_typed}
use Rattle.elaboration_laws.proofs.typed_programs.program_with_bodies_is_typed.Goals as goal

pub returns : goal.returns
returns c = with_bodies_typed
