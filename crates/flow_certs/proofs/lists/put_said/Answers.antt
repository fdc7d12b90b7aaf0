-- A pair is put in.
use Rattle.std.proofs.Common.{subst, sym, Option}
use Rattle.flow_certs.specs.contracts.pair.PairPartialEq.TheImpl as pair_eq
use Rattle.flow_certs.specs.declared.pair.Pair.{Pair}
use Rattle.flow_certs.specs.Forms.{IsPut}
use Rattle.flow_certs.proofs.EqLaws.{exact_pair, pair_self}
use Rattle.flow_certs.proofs.SetLaws.{put}
use Rattle.flow_certs.proofs.lists.put_said.Goals as goal

pub returns-in_ok-insert_full-in-Some : goal.returns-in_ok-insert_full-in-Some
returns-in_ok-insert_full-in-Some c =
    subst (λ (o : Option Pair). IsPut o c.args.pairs.now.keys c.insert_full.new.self.keys) (sym c.in-Some.is)
    (put (pair_eq.ghosts).eq exact_pair pair_self c.args.pairs.now.keys c.insert_full.new.self.keys c.in-Some.pair c.in_ok-insert_full-in-Some.ensures.keys)
