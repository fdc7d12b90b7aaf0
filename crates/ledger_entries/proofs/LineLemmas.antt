-- Loops over lists: what is done, and what is left behind it, is the whole.
use Rattle.std.proofs.Common.{◌≡◌, ℕ, zero, suc, ◌+◌, ◌-◌, ◌<◌, Bool, List, [], ◌∷◌, ◌++◌, drop, Some, sym, ap, ◌∙◌, append_assoc, arith}
use Rattle.std.proofs.lemmas.Grind.{common_steps}
use Rattle.std.specs.Prelude.{filter, slice_get, if◌then◌else◌}
use Rattle.std.specs.List.{flat_map, range_with_len}
use Rattle.program_model.specs.declared.program.Program.{Program}
use Rattle.ledger_state.specs.declared.entry.Entry.{Entry}
use Rattle.ledger_state.specs.declared.object.Object.{Object}
use Rattle.ledger_entries.specs.Entries.{heavy_lines, lines_from}

-- what is left begins with the element at hand
pub lines_drop : (p : Program) (f : ℕ → Object → List Entry) (k i : ℕ) (xs : List Object) (x : Object) → slice_get xs i ≡ Some x → lines_from p f k (drop i xs) ≡ heavy_lines p x.class (f k x) ++ lines_from p f (k + 1) (drop (suc i) xs)
lines_drop p f k i [] x found = absurd (cc)
lines_drop p f k zero (y ∷ ys) x found =
    let same : y ≡ x = cc in
    ap (λ (z : Object). heavy_lines p z.class (f k z) ++ lines_from p f (k + 1) ys) same
lines_drop p f k (suc i) (y ∷ ys) x found = lines_drop p f k i ys x found

pub filter_drop : {X : Type 0} (test : X → Bool) (i : ℕ) (xs : List X) (x : X) → slice_get xs i ≡ Some x → filter test (drop i xs) ≡ (if test x then x ∷ [] else []) ++ filter test (drop (suc i) xs)
filter_drop test i [] x found = absurd (cc)
filter_drop test zero (y ∷ ys) x found = grind (arith, common_steps)
filter_drop test (suc i) (y ∷ ys) x found = filter_drop test i ys x found

pub range_drop : (f : ℕ → List Entry) (c i : ℕ) → i < c → flat_map f (range_with_len (i + 1) (c - i)) ≡ f (i + 1) ++ flat_map f (range_with_len (i + 1 + 1) (c - (i + 1)))
range_drop f c i below =
    let one_more : c - i ≡ suc (c - (i + 1)) = omega arith in
    ap (λ (n : ℕ). flat_map f (range_with_len (i + 1) n)) one_more

-- one element's part is done
pub part_done : {X : Type 0} (done part left rest whole : List X) → left ≡ part ++ rest → done ++ left ≡ whole → (done ++ part) ++ rest ≡ whole
part_done done part left rest whole parts all = append_assoc done part rest ∙ ap (λ l. done ++ l) (sym parts) ∙ all
