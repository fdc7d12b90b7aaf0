-- The faults of a body, and of several bodies, have one number.
use Rattle.std.proofs.Common.{◌≡◌, ◌∙◌, sym, ap, refl, subst, arith, ℕ, ◌+◌, ◌≤◌, suc, Some, List, [], ◌∷◌, ◌++◌, map, length, take, drop}
use Rattle.std.specs.Prelude.{sum_by}
use Rattle.std.proofs.lemmas.List.{take-append-drop}
use Rattle.std.proofs.lemmas.List.Sums.{sum_by-append}
use Rattle.rlc_base.specs.declared.place.Pos.{Pos}
use Rattle.program_model.specs.declared.kinds.BodyId.{BodyId}
use Rattle.program_model.specs.declared.program.Program.{Program}
use Rattle.breadth_first.specs.Searches.{AreOnce, IsAt, Stands}
use Rattle.breadth_first.proofs.ListLaws.{at_append, at_map, length_mapped, map_at}
use Rattle.program_faults.proofs.ListLemmas.{once_length}
use Rattle.control_actions.specs.declared.fact.Origin.{Origin}
use Rattle.control_actions.specs.declared.fact.Rule.{Rule}
use Rattle.fault_order.specs.declared.fault.FaultAt.{FaultAt}
use Rattle.accepted_programs.specs.Paths.{Relation, relation_of}
use Rattle.program_faults.specs.Faults.{AreFaultsOf}
use Rattle.program_faults.specs.ProgramReports.{HaveFaults, IsFaultCount, body_id, total_count}

-- what tells a fault from the others of its body
abbrev Key : Type 0
Key = Origin × (Rule × Pos)

abbrev key : FaultAt → Key
key x = (x.origin, (x.rule, x.at))

module _ {K : Type 0} (p : Program) (b : BodyId) (r : Relation K) where
  keys_once : (xs : List FaultAt) → AreFaultsOf p b r xs → AreOnce (map key xs)
  keys_once xs h i j k here there =
      let x = map_at key xs i k here in
      let y = map_at key xs j k there in
      let same : key x.0 ≡ key y.0 = x.1.1 ∙ sym y.1.1 in
      h.once i j x.0 y.0 x.1.0 y.1.0 (ap (λ (z : Key). z.0) same) (ap (λ (z : Key). z.1.0) same) (ap (λ (z : Key). z.1.1) same)

  keys_stand : (xs ys : List FaultAt) → AreFaultsOf p b r xs → AreFaultsOf p b r ys → (i : ℕ) (k : Key) → IsAt (map key xs) i k → Stands (map key ys) k
  keys_stand xs ys h g i k here =
      let x = map_at key xs i k here in
      let derived = h.derived i x.0 x.1.0 in
      let y = g.all x.0.origin x.0.rule x.0.at derived.0 derived.1 in
      let same : key y.0 ≡ k = (λ j. (y.1.1.0 j, (y.1.1.1.0 j, y.1.1.1.1 j))) ∙ x.1.1 in
      (y.1.0.0, at_map key ys y.1.0.0 y.0 y.1.0.1 ∙ ap Some same)

  no_longer : (xs ys : List FaultAt) → AreFaultsOf p b r xs → AreFaultsOf p b r ys → length xs ≤ length ys
  no_longer xs ys h g =
      let keys = once_length (map key xs) (map key ys) (keys_once xs h) (keys_stand xs ys h g) in
      let first = length_mapped key xs in
      let second = length_mapped key ys in
      omega (arith, keys, first, second)

  -- the faults of a body have one number
  pub faults_long : (xs ys : List FaultAt) → AreFaultsOf p b r xs → AreFaultsOf p b r ys → length xs ≡ length ys
  faults_long xs ys h g =
      let below = no_longer xs ys h g in
      let above = no_longer ys xs g h in
      omega (arith, below, above)

total_one : {X : Type 0} (f : X → ℕ) (x : X) → sum_by f (x ∷ []) ≡ f x
total_one f x = omega arith

pub total_push : {X : Type 0} (xs : List (List X)) (x : List X) → total_count (xs ++ x ∷ []) ≡ total_count xs + length x
total_push xs x = sum_by-append length xs (x ∷ []) ∙ ap (λ n. total_count xs + n) (total_one length x)

total_next : {X : Type 0} (x : List X) (xs : List (List X)) → total_count (x ∷ xs) ≡ length x + total_count xs
total_next x xs = sum_by-append length (x ∷ []) xs ∙ ap (λ n. n + total_count xs) (total_one length x)

same_totals : {X : Type 0} (xs ys : List (List X)) → length xs ≡ length ys → ((i : ℕ) (x y : List X) → IsAt xs i x → IsAt ys i y → length x ≡ length y) → total_count xs ≡ total_count ys
same_totals [] [] long each = refl
same_totals [] (y ∷ ys) long each = absurd (omega (arith, long))
same_totals (x ∷ xs) [] long each = absurd (omega (arith, long))
same_totals (x ∷ xs) (y ∷ ys) long each =
    let shorter : length xs ≡ length ys = omega (arith, long) in
    let rest = same_totals xs ys shorter (λ i v w here there. each (suc i) v w here there) in
    let first = each 0 x y refl refl in
    total_next x xs ∙ (λ i. first i + rest i) ∙ sym (total_next y ys)

pub at_taken : {X : Type 0} (xs : List X) (n i : ℕ) (x : X) → IsAt (take n xs) i x → IsAt xs i x
at_taken xs n i x here = subst (λ (ys : List _). IsAt ys i x) (take-append-drop n xs) (at_append (take n xs) (drop n xs) i x here)

module _ (p : Program) where
  -- the faults of the first bodies have one number
  pub totals_same : (n : ℕ) (xs ys : List (List FaultAt)) → HaveFaults p n xs → HaveFaults p n ys → total_count xs ≡ total_count ys
  totals_same n xs ys h g =
      same_totals xs ys (h.long ∙ sym g.long) (λ i x y here there. faults_long p (body_id i) (relation_of p (body_id i)) x y (h.each i x here).are (g.each i y there).are)

  pub counts_same : (m n : ℕ) → IsFaultCount p m → IsFaultCount p n → m ≡ n
  counts_same m n h g = h.counted ∙ totals_same (length p.bodies.items) h.faults g.faults h.has g.has ∙ sym g.counted
