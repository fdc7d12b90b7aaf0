-- The `==` of origins and of pairs is equality.
use Rattle.std.proofs.Common.{◌≡◌, rules, true}
use Rattle.rlc_base.specs.NameSet.{is_same_tells}
use Rattle.control_actions.specs.declared.fact.Fact.{Fact}
use Rattle.control_actions.specs.declared.fact.Origin.{Origin}
use Rattle.control_actions.specs.contracts.fact.FactPartialEq.TheImpl as fact_eq
use Rattle.control_actions.specs.contracts.fact.OriginEq.TheImpl.Laws as origin_laws
use Rattle.body_origins.specs.Origins.{same_origin}
use Rattle.flow_certs.specs.declared.pair.Pair.{Pair}
use Rattle.flow_certs.specs.contracts.pair.PairEq.TheImpl.Laws as pair_laws
use Rattle.flow_certs.specs.contracts.pair.PairPartialEq.TheImpl as pair_eq

pub exact_origin : (a b : Origin) → same_origin a b ≡ true → a ≡ b
exact_origin a b h =
    let first = is_same_tells a.first b.first in
    let full = is_same_tells a.full b.full in
    search rules

pub origin_self : (a : Origin) → same_origin a a ≡ true
origin_self a = (origin_laws.laws-law).refl a

exact_fact : (a b : Fact) → (fact_eq.ghosts).eq a b ≡ true → a ≡ b
exact_fact a b h =
    let places = is_same_tells a.places b.places in
    let called = is_same_tells a.called b.called in
    search rules

pub exact_pair : (a b : Pair) → (pair_eq.ghosts).eq a b ≡ true → a ≡ b
exact_pair a b h =
    let fact = exact_fact a.fact b.fact in
    search rules

pub pair_self : (a : Pair) → (pair_eq.ghosts).eq a a ≡ true
pair_self a = (pair_laws.laws-law).refl a
