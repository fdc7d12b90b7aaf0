-- A region that is begun and released leaves the lists of the others.
use Rattle.std.proofs.Common.{◌≡◌, ◌∙◌, ap, ℕ, List, []}
use Rattle.std.specs.FinMap as map
use Rattle.fact_pool.specs.Regions.{IsLive, Regions, with_list, without_list}
use Rattle.fact_pool.proofs.RegionLemmas.{with_list-again, without-with_list}

pub released : {X : Type 0} (old begun now last : Regions X) (key : ℕ) (xs : List X) → ¬ (IsLive old key) → begun.lists ≡ map.insert old.lists key [] → now ≡ with_list begun key xs → last ≡ without_list now key
    → last.lists ≡ old.lists
released {X} old begun now last key xs fresh is filled emptied =
    let bare : Regions X = record { lists = old.lists; begun = begun.begun } in
    let first : begun ≡ with_list bare key [] = (λ i. record { lists = is i; begun = begun.begun }) in
    let second : now ≡ with_list bare key xs = filled ∙ ap (λ (r : Regions X). with_list r key xs) first ∙ with_list-again bare key [] xs in
    let third : last ≡ bare = emptied ∙ ap (λ (r : Regions X). without_list r key) second ∙ without-with_list bare key xs fresh in
    ap (λ (r : Regions X). r.lists) third
