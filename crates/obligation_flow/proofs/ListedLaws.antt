-- One fault more is listed.
use Rattle.std.proofs.Common.{◌≡◌, ◌∙◌, sym, ap, refl, subst, add-one, ℕ, ◌+◌, zero, suc, inl, inr, Some, None, List, [], ◌∷◌, ◌++◌, take}
use Rattle.std.specs.Prelude.{map}
use Rattle.breadth_first.specs.Searches.{IsAt}
use Rattle.breadth_first.proofs.ListLaws.{at_push, map_append}
use Rattle.control_actions.specs.declared.fact.Origin.{Origin}
use Rattle.body_faults.specs.declared.breach.Breach.{Breach}
use Rattle.body_faults.specs.declared.breach.Breached.{Breached}
use Rattle.obligation_flow.specs.Faults.{AreNamed, breach_of}
use Rattle.obligation_flow.specs.declared.faults.TracedFault.{TracedFault}

take_none : {X : Type 0} (xs : List X) → take 0 xs ≡ []
take_none [] = refl
take_none (x ∷ xs) = refl

take_next : {X : Type 0} (k : ℕ) (xs : List X) (x : X) → IsAt xs k x → take (suc k) xs ≡ take k xs ++ x ∷ []
take_next k [] x at = absurd (let never : None ≡ Some x = at in cc)
take_next zero (y ∷ ys) x at =
    let same : y ≡ x = cc in
    ap (λ zs. y ∷ zs) (take_none ys) ∙ ap (λ z. z ∷ []) same
take_next (suc k) (y ∷ ys) x at = ap (λ zs. y ∷ zs) (take_next k ys x at)

pub breaches_more : (faults more : List TracedFault) (v : TracedFault) (xs : List (Breach × Breached)) (k : ℕ) → more ≡ faults ++ v ∷ [] → map breach_of faults ≡ take k xs → IsAt xs k (breach_of v)
    → map breach_of more ≡ take (k + 1) xs
breaches_more faults more v xs k is before at =
    ap (map breach_of) is ∙ map_append breach_of faults (v ∷ []) ∙ ap (λ ys. ys ++ breach_of v ∷ []) before ∙ sym (take_next k xs (breach_of v) at) ∙ ap (λ n. take n xs) (sym (add-one k))

pub named_more : (origins : List Origin) (faults more : List TracedFault) (v : TracedFault) → more ≡ faults ++ v ∷ [] → AreNamed origins faults → IsAt origins v.breach.origin v.origin → AreNamed origins more
named_more origins faults more v is before here i t at =
    elim (at_push faults v i t (subst (λ (ys : List TracedFault). IsAt ys i t) is at)) [
      | inl old ↦ before i t old
      | inr last ↦ subst (λ (u : TracedFault). IsAt origins u.breach.origin u.origin) last.1 here
    ]
