-- The place in the set.
use Rattle.body_origins.specs.Origins.{same_origin}
use Rattle.flow_certs.proofs.EqLaws.{exact_origin, origin_self}
use Rattle.flow_certs.proofs.SetLaws.{number_by}
use Rattle.flow_certs.proofs.sets.number_of.Goals as goal

pub returns : goal.returns
returns c = number_by same_origin exact_origin origin_self c.args.origins.now.keys c.args.origin.now c.get_index_of.result c.get_index_of.ensures.index
