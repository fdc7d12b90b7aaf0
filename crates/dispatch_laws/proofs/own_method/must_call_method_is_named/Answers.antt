-- The law is a lemma over the definitions alone.
use Rattle.dispatch_laws.proofs.Named.{own_method_named}
use Rattle.dispatch_laws.proofs.own_method.must_call_method_is_named.Goals as goal

pub returns : goal.returns
returns c = own_method_named
