-- The `==` of facts and of origins is equality.
use Rattle.std.proofs.Common.{◌≡◌, rules, subst, true}
use Rattle.rlc_base.specs.NameSet.{is_same_tells}
use Rattle.control_actions.specs.declared.fact.Fact.{Fact}
use Rattle.control_actions.specs.declared.fact.Origin.{Origin}
use Rattle.body_origins.specs.Origins.{same_origin}
use Rattle.control_actions.specs.contracts.fact.FactPartialEq.TheImpl as fact_eq
use Rattle.control_actions.specs.contracts.fact.FactEq.TheImpl.Laws as fact_laws
use Rattle.reached_pairs.specs.Visited.{IsExact}

same_fact : (x y : Fact) → (fact_eq.ghosts).eq x y ≡ true → x ≡ y
same_fact x y h =
    let places = is_same_tells x.places y.places in
    let called = is_same_tells x.called y.called in
    search rules

pub exact_origin : (a b : Origin) → same_origin a b ≡ true → a ≡ b
exact_origin a b h =
    let first = is_same_tells a.first b.first in
    let full = is_same_tells a.full b.full in
    search rules

pub exact_fact : IsExact (fact_eq.ghosts).eq
exact_fact x y = (same_fact x y, λ same. subst (λ (z : Fact). (fact_eq.ghosts).eq x z ≡ true) same ((fact_laws.laws-law).refl x))
