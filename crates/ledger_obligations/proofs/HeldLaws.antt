-- What the frame at a position holds.
use Rattle.std.proofs.Common.{◌≡◌, ◌∙◌, ap, sym, refl, ℕ, suc, ◌+◌, ◌-◌, ◌<◌, ◌≤◌, nat_eq, Bool, true, false, List, [], ◌∷◌, length, map, reverse, slice_get, get_or, Some, option_map, arith}
use Rattle.std.proofs.lemmas.Grind.{common_steps}
use Rattle.std.proofs.lemmas.List.{get_or-reverse, length-reverse}
use Rattle.std.proofs.lemmas.Option.{get_or_from_slice_get, slice_get-get_or, slice_get-map, slice_get_within}
use Rattle.ledger_state.specs.declared.value.Value.{Value}
use Rattle.ledger_obligations.specs.declared.active_frame.ActiveFrame.{ActiveFrame}
use Rattle.ledger_obligations.specs.Obligations.{held_at, held_in}

-- the top frame is at the position behind all that are below it
pub held_at_top : (x : List Value) (xs : List (List Value)) → held_at (x ∷ xs) (length xs + 1) ≡ x
held_at_top x xs = grind (arith, common_steps)

-- no frame is at another position beyond
pub held_at_none : (xs : List (List Value)) (j : ℕ) → length xs < j → held_at xs j ≡ []
held_at_none [] j h = refl
held_at_none (x ∷ xs) j h = grind (arith, common_steps, held_at_none xs j, h)

pub held_at_zero : (xs : List (List Value)) → held_at xs 0 ≡ []
held_at_zero [] = refl
held_at_zero (x ∷ xs) = grind (arith, common_steps, held_at_zero xs)

-- the frame at a position stands as far from the end
pub held_at_get : (xs : List (List Value)) (j : ℕ) → 0 < j → j ≤ length xs → slice_get xs (length xs - j) ≡ Some (held_at xs j)
held_at_get [] j above within = absurd (omega arith)
held_at_get (x ∷ xs) j above within = go (nat_eq (length xs + 1) j) refl (held_at_get xs j above)
  where
    go : (b : Bool) → nat_eq (length xs + 1) j ≡ b → (j ≤ length xs → slice_get xs (length xs - j) ≡ Some (held_at xs j)) → slice_get (x ∷ xs) (length (x ∷ xs) - j) ≡ Some (held_at (x ∷ xs) j)
    go true e rest =
        let top : length (x ∷ xs) - j ≡ 0 = grind (arith, common_steps, e) in
        rw (e, top) refl
    go false e rest =
        let below : j ≤ length xs = grind (arith, common_steps, e, within) in
        let at : length (x ∷ xs) - j ≡ suc (length xs - j) = omega arith in
        rw (e, at) (rest below)

-- the frame at a position of those below the top one, which stand bottom first
pub held_at_frame : (frames : List ActiveFrame) (top : List Value) (j : ℕ) (fr : ActiveFrame) → 0 < j → slice_get frames (j - 1) ≡ Some fr → held_at (top ∷ map held_in (reverse frames)) j ≡ held_in fr
held_at_frame frames top j fr above at =
    let within : j - 1 < length frames = slice_get_within frames (j - 1) fr at in
    let count : length (map held_in (reverse frames)) ≡ length frames = grind (arith, common_steps, length-reverse frames) in
    let other : nat_eq (length (map held_in (reverse frames)) + 1) j ≡ false = grind (arith, common_steps, count, within) in
    let place : length frames - j < length (reverse frames) = grind (arith, common_steps, length-reverse frames, within, above) in
    let back : length frames - 1 - (length frames - j) ≡ j - 1 = omega arith in
    let there : get_or (reverse frames) (length frames - j) fr ≡ fr =
    get_or-reverse frames (length frames - j) fr (omega arith)
    ∙ ap (λ i. get_or frames i fr) back ∙ get_or_from_slice_get frames (j - 1) fr fr at in
    let found : slice_get (map held_in (reverse frames)) (length frames - j) ≡ Some (held_in fr) =
    slice_get-map held_in (reverse frames) (length frames - j)
    ∙ ap (option_map held_in) (slice_get-get_or (reverse frames) (length frames - j) fr place ∙ ap Some there) in
    let seen : slice_get (map held_in (reverse frames)) (length (map held_in (reverse frames)) - j) ≡ Some (held_at (map held_in (reverse frames)) j) =
    held_at_get (map held_in (reverse frames)) j above (rw count (omega arith)) in
    rw other (cc (sym seen ∙ ap (λ n. slice_get (map held_in (reverse frames)) (n - j)) count ∙ found))
