-- What is known once no path through the first bodies breaks a rule.
use Rattle.std.proofs.Common.{◌≡◌, ◌<◌, ◌+◌, arith, refl, sym, subst, ap, ℕ, zero, suc, inl, inr, List, [], ◌∷◌, length, Option, Some, None}
use Rattle.std.proofs.lemmas.Bool.{cases_lt}
use Rattle.rlc_base.specs.declared.faults.Stop.{Stop}
use Rattle.rlc_base.specs.declared.faults.Stop.TheVariants as stops
use Rattle.program_model.specs.declared.kinds.BodyId.{BodyId}
use Rattle.program_model.specs.declared.program.Program.{Program}
use Rattle.breadth_first.specs.Searches.{IsAt}
use Rattle.flow_rules.specs.Paths.{relation_of}
use Rattle.fault_order.specs.declared.fault.FaultAt.{FaultAt}
use Rattle.program_faults.specs.Faults.{AreFaultsOf}
use Rattle.program_faults.specs.BodyReports.{HasFaults, IsBodyStop}
use Rattle.program_faults.specs.ProgramReports.{HaveFaults, IsFaultCount, IsFaultStop, IsFaulty, body_id, total_count}
use Rattle.program_faults.proofs.CountLaws.{accepted}
use Rattle.certificates.specs.Certified.{IsFaultless}

-- ---- one body

pub is_faulty : (p : Program) (b : BodyId) (found : List FaultAt) → AreFaultsOf p b (relation_of p b) found → 0 < length found → IsFaulty p
is_faulty p b [] are some = absurd (omega (arith, some))
is_faulty p b (x ∷ xs) are some =
    let derived = are.derived 0 x refl in
    record { body = b; origin = x.origin; rule = x.rule; at = x.at; names = derived.0; faulty = derived.1 }

pub has_none : (p : Program) (b : BodyId) (found : List FaultAt) → HasFaults p b found → length found ≡ 0 → HasFaults p b []
has_none p b [] has none = has
has_none p b (x ∷ xs) has none = absurd (omega (arith, none))

-- ---- all bodies

-- no path through the first `n` bodies breaks a rule
abbrev pub AreFaultless : Program → ℕ → Type 0
AreFaultless p n = (i : ℕ) → i < n → HasFaults p (body_id i) []

pub none_yet : (p : Program) → AreFaultless p 0
none_yet p i inside = absurd (omega (arith, inside))

pub one_more : (p : Program) (n : ℕ) → AreFaultless p n → HasFaults p (body_id n) [] → AreFaultless p (n + 1)
one_more p n before now i inside = elim (cases_lt i n) [
  | inl below ↦ before i below
  | inr past ↦ (let same : n ≡ i = omega (arith, inside, past) in subst (λ (k : ℕ). HasFaults p (body_id k) []) same now)
]

-- as many empty lists
abbrev nones : ℕ → List (List FaultAt)
nones zero = []
nones (suc n) = [] ∷ nones n

nones_long : (n : ℕ) → length (nones n) ≡ n
nones_long zero = refl
nones_long (suc n) = ap (λ k. suc k) (nones_long n)

nones_count : (n : ℕ) → total_count (nones n) ≡ 0
nones_count zero = refl
nones_count (suc n) = nones_count n

nones_at : (n i : ℕ) (xs : List FaultAt) → IsAt (nones n) i xs → (xs ≡ []) × (i < n)
nones_at zero i xs at = absurd (let never : ◌≡◌ {A = Option (List FaultAt)} None (Some xs) = at in cc)
nones_at (suc n) zero xs at = (let same : ◌≡◌ {A = Option (List FaultAt)} (Some []) (Some xs) = at in cc, omega arith)
nones_at (suc n) (suc i) xs at = let (same, inside) = nones_at n i xs at in (same, omega (arith, inside))

have_none : (p : Program) (n : ℕ) → AreFaultless p n → HaveFaults p n (nones n)
have_none p n are = record {
  long = nones_long n;
  each = λ i xs at. let found = nones_at n i xs at in subst (λ (ys : List FaultAt). HasFaults p (body_id i) ys) (sym found.0) (are i found.1);
}

pub all_faultless : (p : Program) → AreFaultless p (length p.bodies.items) → IsFaultless p
all_faultless p are =
    let n = length p.bodies.items in
    let counted : IsFaultCount p 0 = record { faults = nones n; has = have_none p n are; counted = sym (nones_count n); few = omega arith } in
    record { counted = counted; none = accepted p 0 counted refl }

pub stops_first : (p : Program) (n : ℕ) (stop : Stop) → n < length p.bodies.items → AreFaultless p n → IsBodyStop p (body_id n) 0 stop → IsFaultStop p stop
stops_first p n (stops.Refused r) inside are cause = cause
stops_first p n (stops.TooMuch r) inside are cause = record {
  number = n;
  within = inside;
  faults = nones n;
  before = have_none p n are;
  few = rw (nones_count n) (omega arith);
  stops = rw (nones_count n) cause;
}
stops_first p n stops.NoMemory inside are cause = tt
