-- A text that is cut at the first byte of a value.
use Rattle.std.proofs.Common.{◌≡◌, ◌∙◌, sym, ap, refl, arith, ℕ, ◌+◌, ◌-◌, ◌<◌, ◌==◌, Bool, true, false, cond, Option, Some, None, List, [], ◌∷◌, length, take, drop}
use Rattle.std.specs.Prelude.{nat_lt}
use Rattle.std.specs.List.{position, position_or_len, slice_split}
use Rattle.std.proofs.lemmas.List.{length-drop, take_all}
use Rattle.std.proofs.lemmas.Bool.{ltb-false, ltb-true}
use Rattle.std.proofs.lemmas.List.Splits.{length-slice_split, slice_split_first, slice_split_none}
use Rattle.std.proofs.lemmas.List.Sums.{fails_before_first}
use Rattle.flow_certs.specs.Forms.{is_none}
use Rattle.flow_certs.specs.Numbers.{parts}

module _ (p : ℕ → Bool) where
  place_by : (test : Bool) (n k : ℕ) → cond test (Some n) None ≡ Some k → (test ≡ true) × (n ≡ k)
  place_by true n k h = let same : n ≡ k = cc in (refl, same)
  place_by false n k h = absurd (let never : ◌≡◌ {A = Option ℕ} None (Some k) = h in cc)

  none_by : (test : Bool) (n : ℕ) → cond test (Some n) None ≡ None → test ≡ false
  none_by true n h = absurd (let never : Some n ≡ None = h in cc)
  none_by false n h = refl

  -- at the place the text is cut
  pub cut_some : (text : List ℕ) (k : ℕ) → position p text ≡ Some k → slice_split p text ≡ take k text ∷ slice_split p (drop (k + 1) text)
  cut_some text k h =
      let found = place_by (nat_lt (position_or_len p text) (length text)) (position_or_len p text) k h in
      slice_split_first p text 0 (ltb-true (position_or_len p text) (length text) found.0)
      ∙ ap (λ n. take n text ∷ slice_split p (drop (n + 1) text)) found.1

  pub cut_within : (text : List ℕ) (k : ℕ) → position p text ≡ Some k → k < length text
  cut_within text k h =
      let found = place_by (nat_lt (position_or_len p text) (length text)) (position_or_len p text) k h in
      let inside = ltb-true (position_or_len p text) (length text) found.0 in
      let same = found.1 in
      omega (arith, inside, same)

  -- where there is no place the text is one part
  pub cut_none : (text : List ℕ) → position p text ≡ None → slice_split p text ≡ text ∷ []
  cut_none text h =
      let past = ltb-false (position_or_len p text) (length text) (none_by (nat_lt (position_or_len p text) (length text)) (position_or_len p text) h) in
      slice_split_none p text (λ k d inside. fails_before_first p text k d (omega (arith, past, inside)))

  some_part : (xs : List (List ℕ)) → 0 < length xs → is_none xs ≡ false
  some_part [] h = absurd (omega arith)
  some_part (x ∷ xs) h = refl

  -- a text has a part
  pub has_part : (text : List ℕ) → is_none (slice_split p text) ≡ false
  has_part text = some_part (slice_split p text) (let long = length-slice_split p text in omega (arith, long))

pub rest_of : (text : List ℕ) (k : ℕ) → take (length text - k) (drop k text) ≡ drop k text
rest_of text k = take_all (length text - k) (drop k text) (let long = length-drop k text in omega (arith, long))

-- the same, of the slices that a cut gives
pub cut_at : (at : ℕ) (text : List ℕ) (k : ℕ) → position (λ b. b == at) text ≡ Some k → parts at text ≡ take k text ∷ parts at (take (length text - (k + 1)) (drop (k + 1) text))
cut_at at text k h = cut_some (λ b. b == at) text k h ∙ ap (λ rest. take k text ∷ parts at rest) (sym (rest_of text (k + 1)))

pub cut_end : (at : ℕ) (text : List ℕ) → position (λ b. b == at) text ≡ None → parts at text ≡ text ∷ []
cut_end at text h = cut_none (λ b. b == at) text h

pub cut_more : (at : ℕ) (text : List ℕ) → is_none (parts at text) ≡ false
cut_more at text = has_part (λ b. b == at) text
