-- A program is checked to its end, or stops at one body with one refusal.
use Rattle.std.proofs.Common.{◌≡◌, ◌∙◌, sym, ap, subst, arith, ℕ, ◌+◌, ◌<◌, ◌≤◌, inl, inr, List, length, take}
use Rattle.std.proofs.lemmas.Bool.{cases_lt}
use Rattle.std.proofs.lemmas.List.{length-take-le}
use Rattle.std.proofs.lemmas.List.Sums.{sum_by-take-le}
use Rattle.rlc_base.specs.declared.faults.Refusal.{Refusal}
use Rattle.program_model.specs.declared.kinds.BodyId.{BodyId}
use Rattle.program_model.specs.declared.program.Program.{Program}
use Rattle.breadth_first.proofs.ListLaws.{at_place}
use Rattle.program_faults.proofs.OriginLaws.{take_next}
use Rattle.program_faults.specs.Limits.{PassesLimit, too_large, too_many_places}
use Rattle.accepted_programs.specs.Paths.{relation_of}
use Rattle.fault_order.specs.declared.fault.FaultAt.{FaultAt}
use Rattle.program_faults.specs.BodyReports.{HasFaults, StopsCheck, faults, limit, most_faults, pairs}
use Rattle.program_faults.specs.ProgramReports.{HaveFaults, IsFaultCount, IsFirstStop, body_id, total_count}
use Rattle.acceptance_laws.proofs.CountOnce.{at_taken, faults_long, total_push, totals_same}

module _ (p : Program) where
  -- ---- one refusal at a body

  one_limit : (b : BodyId) (r q : Refusal) → PassesLimit p b r → PassesLimit p b q → r ≡ q
  one_limit b r q (too_large is more) (too_large same many) = is ∙ sym same
  one_limit b r q (too_large is more) (too_many_places same few many) = absurd (few more)
  one_limit b r q (too_many_places is few many) (too_large same more) = absurd (few more)
  one_limit b r q (too_many_places is few many) (too_many_places same less more) = is ∙ sym same

  one_refusal : (b : BodyId) (n : ℕ) (r q : Refusal) → StopsCheck p b n r → StopsCheck p b n q → r ≡ q
  one_refusal b n r q (limit h) (limit g) = one_limit b r q h g
  one_refusal b n r q (limit h) (pairs same small many) = absurd (small r h)
  one_refusal b n r q (limit h) (faults found same has more) = absurd (has.small r h)
  one_refusal b n r q (pairs is small many) (limit g) = absurd (small q g)
  one_refusal b n r q (pairs is small many) (pairs same less more) = is ∙ sym same
  one_refusal b n r q (pairs is small many) (faults found same has more) = absurd (has.few_pairs many)
  one_refusal b n r q (faults found is has more) (limit g) = absurd (has.small q g)
  one_refusal b n r q (faults found is has more) (pairs same small many) = absurd (has.few_pairs many)
  one_refusal b n r q (faults found is has more) (faults others same had many) = is ∙ sym same

  -- ---- no stop before a body that is told

  first_of : (n k : ℕ) (xs : List (List FaultAt)) → HaveFaults p n xs → k < n → HaveFaults p k (take k xs)
  first_of n k xs h below = record {
    long = (let long = h.long in length-take-le k xs (omega (arith, long, below)));
    each = λ i x here. h.each i x (at_taken xs k i x here);
  }

  told_body : (b : BodyId) (n : ℕ) (r : Refusal) (xs : List FaultAt) → HasFaults p b xs → n + length xs ≤ most_faults → StopsCheck p b n r → ⊥
  told_body b n r xs has few (limit h) = has.small r h
  told_body b n r xs has few (pairs is small many) = has.few_pairs many
  told_body b n r xs has few (faults found is had more) =
      let long : length found ≡ length xs = faults_long p b (relation_of p b) found xs had.are has.are in
      absurd (omega (arith, long, more, few))

  no_stop_before : (n : ℕ) (xs : List (List FaultAt)) (r : Refusal) (s : IsFirstStop p r) → HaveFaults p n xs → total_count xs ≤ most_faults → s.number < n → ⊥
  no_stop_before n xs r s h few below =
      let long = h.long in
      let one = at_place xs s.number (omega (arith, long, below)) in
      let before : total_count s.faults ≡ total_count (take s.number xs) = totals_same p s.number s.faults (take s.number xs) s.before (first_of n s.number xs h below) in
      let with_one : total_count (take (s.number + 1) xs) ≡ total_count (take s.number xs) + length one.0 = ap total_count (take_next xs s.number one.0 one.1) ∙ total_push (take s.number xs) one.0 in
      let within : total_count (take (s.number + 1) xs) ≤ total_count xs = sum_by-take-le length xs (s.number + 1) in
      told_body (body_id s.number) (total_count s.faults) r one.0 (h.each s.number one.0 one.1) (omega (arith, before, with_one, within, few)) s.stops

  pub counted_goes_on : (n : ℕ) (r : Refusal) → IsFaultCount p n → IsFirstStop p r → ⊥
  counted_goes_on n r h s =
      let counted = h.counted in
      let few = h.few in
      no_stop_before (length p.bodies.items) h.faults r s h.has (omega (arith, counted, few)) s.within

  same_body : (r q : Refusal) (s : IsFirstStop p r) (t : IsFirstStop p q) → s.number ≡ t.number → r ≡ q
  same_body r q s t same =
      let before : HaveFaults p t.number s.faults = subst (λ (n : ℕ). HaveFaults p n s.faults) same s.before in
      let counts : total_count s.faults ≡ total_count t.faults = totals_same p t.number s.faults t.faults before t.before in
      let stops = subst (λ (n : ℕ). StopsCheck p (body_id n) (total_count s.faults) r) same s.stops in
      one_refusal (body_id t.number) (total_count t.faults) r q (subst (λ (n : ℕ). StopsCheck p (body_id t.number) n r) counts stops) t.stops

  pub one_first_stop : (r q : Refusal) → IsFirstStop p r → IsFirstStop p q → r ≡ q
  one_first_stop r q s t = elim (cases_lt s.number t.number) [
    | inl below ↦ absurd (no_stop_before t.number t.faults r s t.before t.few below)
    | inr above ↦ elim (cases_lt t.number s.number) [
      | inl below ↦ absurd (no_stop_before s.number s.faults q t s.before s.few below)
      | inr other ↦ same_body r q s t (omega (arith, above, other))
    ]
  ]
