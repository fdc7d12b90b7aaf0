-- The lines of a few objects, which stand by their numbers, are those of all objects where every other one has none.
use Rattle.std.proofs.Common.{◌≡◌, ◌∙◌, ap, sym, refl, ℕ, suc, ◌+◌, ◌-◌, ◌<◌, ◌≤◌, Bool, true, false, ◌&&◌, ◌||◌, nat_eq, Option, Some, None, List, [], ◌∷◌, ◌++◌, add-zero, arith}
use Rattle.std.proofs.lemmas.Grind.{common_steps}
use Rattle.std.specs.Prelude.{nat_lt, slice_get}
use Rattle.std.specs.List.{flat_map}
use Rattle.program_model.specs.declared.kinds.ClassId.{ClassId}
use Rattle.program_model.specs.declared.program.Program.{Program}
use Rattle.must_call_sets.specs.MustCallSets.{is_heavy_class}
use Rattle.ledger_state.specs.declared.entry.Entry.{Entry}
use Rattle.ledger_state.specs.declared.object.Object.{Object}
use Rattle.ledger_entries.specs.Entries.{heavy_lines, lines_from}
use Rattle.draft_lines.specs.declared.change.ObjectChange.{ObjectChange}
use Rattle.draft_lines.specs.DraftLines.{has_change, rises_beyond}

-- Numbers that rise

and_left : (a b : Bool) → (a && b) ≡ true → a ≡ true
and_left true b e = refl
and_left false b e = e

and_right : (a b : Bool) → (a && b) ≡ true → b ≡ true
and_right true b e = e
and_right false b e = absurd (cc)

pub first_beyond : (k : ℕ) (c : ObjectChange) (cs : List ObjectChange) → rises_beyond k (c ∷ cs) ≡ true → k < c.number
first_beyond k c cs rises =
    let less : nat_lt k c.number ≡ true = and_left (nat_lt k c.number) (rises_beyond c.number cs) rises in
    grind (arith, common_steps, less)

pub rest_beyond : (k : ℕ) (c : ObjectChange) (cs : List ObjectChange) → rises_beyond k (c ∷ cs) ≡ true → rises_beyond c.number cs ≡ true
rest_beyond k c cs rises = and_right (nat_lt k c.number) (rises_beyond c.number cs) rises

pub still_beyond : (k m : ℕ) (c : ObjectChange) (cs : List ObjectChange) → rises_beyond k (c ∷ cs) ≡ true → m < c.number → rises_beyond m (c ∷ cs) ≡ true
still_beyond k m c cs rises less =
    let is : nat_lt m c.number ≡ true = grind (arith, common_steps, less) in
    ap (λ t. t && rises_beyond c.number cs) is ∙ rest_beyond k c cs rises

-- the number is before all of them
pub none_before : (k m : ℕ) (cs : List ObjectChange) → rises_beyond m cs ≡ true → k ≤ m → has_change cs k ≡ false
none_before k m [] rises before = refl
none_before k m (c ∷ cs) rises before =
    let less : m < c.number = first_beyond m c cs rises in
    let apart : nat_eq c.number k ≡ false = grind (arith, common_steps, less, before) in
    let further : k ≤ c.number = omega (arith, less, before) in
    ap (λ t. t || has_change cs k) apart ∙ none_before k c.number cs (rest_beyond m c cs rises) further

-- The lines

pub heavy_none : (p : Program) (c : ClassId) → heavy_lines p c [] ≡ []
heavy_none p c = go (is_heavy_class p c) refl
  where
    go : (b : Bool) → is_heavy_class p c ≡ b → heavy_lines p c [] ≡ []
    go true e = rw e refl
    go false e = rw e refl

-- no object has a line
lines_none : (p : Program) (line : ℕ → Object → List Entry) (j : ℕ) (xs : List Object) → ((i : ℕ) (x : Object) → slice_get xs i ≡ Some x → line (j + i) x ≡ []) → lines_from p line j xs ≡ []
lines_none p line j [] none = refl
lines_none p line j (x ∷ xs) none =
    let quiet : line j x ≡ [] = rw add-zero at (none 0 x refl) in
    let first : heavy_lines p x.class (line j x) ≡ [] = ap (heavy_lines p x.class) quiet ∙ heavy_none p x.class in
    let rest : lines_from p line (j + 1) xs ≡ [] = lines_none p line (j + 1) xs (λ i y found. let n : j + 1 + i ≡ j + suc i = omega arith in ap (λ m. line m y) n ∙ none (suc i) y found) in
    λ i. first i ++ rest i

-- the lines of the object that is there
abbrev pub lines_at : Program → (ℕ → Object → List Entry) → ℕ → Option Object → Option (List Entry)
lines_at p line k None = None
lines_at p line k (Some x) = Some (heavy_lines p x.class (line k x))

-- the objects `xs`, whose numbers begin behind `k`, have these lines
abbrev pub AllHave : Program → (ℕ → Object → List Entry) → (ObjectChange → List Entry) → ℕ → List Object → List ObjectChange → Type 0
AllHave p line block k xs [] = Unit {0}
AllHave p line block k xs (c ∷ cs) = ((i : ℕ) → c.number ≡ k + 1 + i → lines_at p line c.number (slice_get xs i) ≡ Some (block c)) × AllHave p line block k xs cs

further_on : (p : Program) (line : ℕ → Object → List Entry) (block : ObjectChange → List Entry) (k : ℕ) (x : Object) (xs : List Object) (cs : List ObjectChange) → AllHave p line block k (x ∷ xs) cs → AllHave p line block (k + 1) xs cs
further_on p line block k x xs [] have = tt
further_on p line block k x xs (c ∷ cs) have = (
  λ i e. let n : c.number ≡ k + 1 + suc i = omega (arith, e) in have.0 (suc i) n,
  further_on p line block k x xs cs have.1,
)

pub lines_rising : (p : Program) (line : ℕ → Object → List Entry) (block : ObjectChange → List Entry) (k : ℕ) (xs : List Object) (cs : List ObjectChange) → rises_beyond k cs ≡ true → AllHave p line block k xs cs → ((i : ℕ) (x : Object) → slice_get xs i ≡ Some x → has_change cs (k + 1 + i) ≡ false → line (k + 1 + i) x ≡ []) → lines_from p line (k + 1) xs ≡ flat_map block cs
lines_rising p line block k xs [] rises have quiet = lines_none p line (k + 1) xs (λ i x found. quiet i x found refl)
lines_rising p line block k [] (c ∷ cs) rises have quiet =
    let less : k < c.number = first_beyond k c cs rises in
    let at : c.number ≡ k + 1 + (c.number - (k + 1)) = omega (arith, less) in
    let no : None ≡ Some (block c) = have.0 (c.number - (k + 1)) at in
    absurd (cc)
lines_rising p line block k (x ∷ xs) (c ∷ cs) rises have quiet = go (nat_eq c.number (k + 1)) refl (lines_rising p line block (k + 1) xs)
  where
    less : k < c.number
    less = first_beyond k c cs rises

    go : (t : Bool) → nat_eq c.number (k + 1) ≡ t → ((ds : List ObjectChange) → rises_beyond (k + 1) ds ≡ true → AllHave p line block (k + 1) xs ds → ((i : ℕ) (y : Object) → slice_get xs i ≡ Some y → has_change ds (k + 1 + 1 + i) ≡ false → line (k + 1 + 1 + i) y ≡ []) → lines_from p line (k + 1 + 1) xs ≡ flat_map block ds) → lines_from p line (k + 1) (x ∷ xs) ≡ flat_map block (c ∷ cs)
    go true e further =
        let here : c.number ≡ k + 1 = grind (arith, common_steps, e) in
        let first : c.number ≡ k + 1 + 0 = omega (arith, here) in
        let both : Some (heavy_lines p x.class (line c.number x)) ≡ Some (block c) = have.0 0 first in
        let is : heavy_lines p x.class (line c.number x) ≡ block c = cc in
        let one : heavy_lines p x.class (line (k + 1) x) ≡ block c = ap (λ m. heavy_lines p x.class (line m x)) (sym here) ∙ is in
        let beyond : rises_beyond (k + 1) cs ≡ true = ap (λ m. rises_beyond m cs) (sym here) ∙ rest_beyond k c cs rises in
        let rest : lines_from p line (k + 1 + 1) xs ≡ flat_map block cs =
        further cs beyond (further_on p line block k x xs cs have.1)
        (λ i y found none.
        let n : k + 1 + 1 + i ≡ k + 1 + suc i = omega arith in
        let apart : nat_eq c.number (k + 1 + suc i) ≡ false = grind (arith, common_steps, here) in
        let all : has_change (c ∷ cs) (k + 1 + suc i) ≡ false = ap (λ t. t || has_change cs (k + 1 + suc i)) apart ∙ ap (has_change cs) (sym n) ∙ none in
        ap (λ m. line m y) n ∙ quiet (suc i) y found all) in
        (λ i. one i ++ rest i)
    go false e further =
        let after : k + 1 < c.number = grind (arith, common_steps, less, e) in
        let plus : k + 1 + 0 ≡ k + 1 = omega arith in
        let none : has_change (c ∷ cs) (k + 1 + 0) ≡ false = ap (has_change (c ∷ cs)) plus ∙ none_before (k + 1) (k + 1) (c ∷ cs) (still_beyond k (k + 1) c cs rises after) (omega arith) in
        let first : line (k + 1) x ≡ [] = ap (λ m. line m x) (sym plus) ∙ quiet 0 x refl none in
        let rest : lines_from p line (k + 1 + 1) xs ≡ flat_map block (c ∷ cs) =
        further (c ∷ cs) (still_beyond k (k + 1) c cs rises after) (further_on p line block k x xs (c ∷ cs) have)
        (λ i y found other.
        let n : k + 1 + 1 + i ≡ k + 1 + suc i = omega arith in
        ap (λ m. line m y) n ∙ quiet (suc i) y found (ap (has_change (c ∷ cs)) (sym n) ∙ other)) in
        (λ i. (ap (heavy_lines p x.class) first ∙ heavy_none p x.class) i ++ rest i)
