use Rattle.heap_laws.proofs.Fields.{holds_here, holds_other, plain_holds}
use Rattle.heap_laws.proofs.stores.owning_field_holds.Goals as goal

pub returns : goal.returns
returns c = record { here = holds_here; other = λ p h w u f g bound v. holds_other p h w f bound v u g; plain = plain_holds }
