-- Some of the numbers of a rising list rise too.
use Rattle.std.proofs.Common.{◌≡◌, ℕ, zero, suc, ◌+◌, ◌<◌, ◌≤◌, Option, Some, None, List, [], ◌∷◌, ◌++◌, map, length, slice_index, subst, arith, Bool, true, false, cond, zip}
use Rattle.std.specs.List.{flat_map}
use Rattle.std.specs.List.Sorted.{IsStrictlyIncreasing}
use Rattle.program_model.specs.declared.kinds.FieldId.{FieldId}
use Rattle.program_model.specs.declared.program.Field.{Field}
use Rattle.program_model.specs.declared.program.Program.{Program}
use Rattle.program_model.specs.Lookups.{field_at}
use Rattle.java_syntax.specs.ExpressionTrees.{ExprTree}
use Rattle.class_table.specs.ClassDeclarationsMembers.{WrittenField}
use Rattle.java_typing_laws.specs.FieldInitializers.{initializer_of, where_initialized}
use Rattle.elaboration_laws.specs.BodyOrders.{field_with_initializer}

-- each is above the one before it, and the first not below the bound
abbrev pub Rising : ℕ → List ℕ → Type 0
Rising b [] = Unit {0}
Rising b (x ∷ xs) = (b ≤ x) × Rising (x + 1) xs

rising_from : (b : ℕ) (xs : List ℕ) → (0 < length xs → b ≤ slice_index xs 0) → IsStrictlyIncreasing xs → Rising b xs
rising_from b [] low increasing = tt
rising_from b (x ∷ xs) low increasing = (
  low (omega arith),
  rising_from (x + 1) xs (λ h. let next = increasing 0 (omega (arith, h)) in omega (arith, next)) (λ k h.
      let same : suc k + 1 ≡ suc (k + 1) = omega arith in
      let next = increasing (suc k) (omega (arith, h)) in
      let P : ℕ → Type 0 = λ n. slice_index xs k < slice_index (x ∷ xs) n in
      subst P same next),
)

increasing_from : (b : ℕ) (xs : List ℕ) → Rising b xs → IsStrictlyIncreasing xs
increasing_from b [] rising k h = absurd (omega arith)
increasing_from b (x ∷ []) rising k h = absurd (omega arith)
increasing_from b (x ∷ y ∷ ys) rising zero h = let next = rising.1.0 in omega arith
increasing_from b (x ∷ y ∷ ys) rising (suc k) h =
    let same : suc (k + 1) ≡ suc k + 1 = omega arith in
    let P : ℕ → Type 0 = λ n. slice_index (y ∷ ys) k < slice_index (x ∷ y ∷ ys) n in
    subst P same (increasing_from (x + 1) (y ∷ ys) rising.1 k (omega arith))

lower : (b c : ℕ) (xs : List ℕ) → b ≤ c → Rising c xs → Rising b xs
lower b c [] below rising = tt
lower b c (x ∷ xs) below rising = ((let first = rising.0 in omega arith), rising.1)

abbrev numbers : List FieldId → List ℕ
numbers fs = map (λ f. f.0) fs

-- the field itself, or nothing, before rising numbers
one_before : (b : ℕ) (f : FieldId) (x : Option Field) (e : Option ExprTree) (rest : List FieldId) → b ≤ f.0 → Rising (f.0 + 1) (numbers rest) → Rising b (numbers (where_initialized (λ g y v. g ∷ []) f x e ++ rest))
one_before b f None e rest low rising = lower b (f.0 + 1) (numbers rest) (omega arith) rising
one_before b f (Some x) None rest low rising = lower b (f.0 + 1) (numbers rest) (omega arith) rising
one_before b f (Some x) (Some e) rest low rising = by x.is_static
  where
    by : (s : Bool) → Rising b (numbers (cond s [] (f ∷ []) ++ rest))
    by true = lower b (f.0 + 1) (numbers rest) (omega arith) rising
    by false = (low, rising)

some_rise : (p : Program) (b : ℕ) (fs : List FieldId) (ws : List WrittenField) → Rising b (numbers fs) → Rising b (numbers (flat_map (field_with_initializer p) (zip fs ws)))
some_rise p b [] ws rising = tt
some_rise p b (f ∷ fs) [] rising = tt
some_rise p b (f ∷ fs) (w ∷ ws) rising =
    one_before b f (field_at p f) (initializer_of w) (flat_map (field_with_initializer p) (zip fs ws)) rising.0 (some_rise p (f.0 + 1) fs ws rising.1)

-- the fields with initialisers among those of a class rise
pub initialized_rise : (p : Program) (fs : List FieldId) (ws : List WrittenField) → IsStrictlyIncreasing (map (λ f. f.0) fs) → IsStrictlyIncreasing (map (λ f. f.0) (flat_map (field_with_initializer p) (zip fs ws)))
initialized_rise p fs ws increasing = increasing_from 0 (numbers (flat_map (field_with_initializer p) (zip fs ws))) (some_rise p 0 fs ws (rising_from 0 (numbers fs) (λ h. omega arith) increasing))
