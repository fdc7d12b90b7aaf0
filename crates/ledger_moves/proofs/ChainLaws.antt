-- A step that is found among triples leads where one of them leads. There is a table in which list k has k items: where steps are
-- equal over it, their numbers are.
use Rattle.std.proofs.Common.{◌≡◌, ◌∙◌, sym, ap, refl, arith, ℕ, ◌+◌, ◌<◌, ◌≤◌, zero, suc, max, Bool, true, false, Option, Some, None, List, [], ◌∷◌, map, length}
use Rattle.std.specs.Prelude.{slice_get, IfSome}
use Rattle.std.specs.List.{find}
use Rattle.std.specs.Option.{option_map}
use Rattle.java_control.specs.Changes.{highest_steps, step_in}
use Rattle.java_control.specs.Control.{Step}
use Rattle.control_actions.specs.declared.cell.Cell.{Cell}
use Rattle.control_actions.specs.declared.item.Item.TheVariants as items
use Rattle.control_actions.specs.declared.triple.Triple.{Triple}
use Rattle.java_control.specs.Remaining.{Todo, todos}
use Rattle.java_control.specs.Tables.{list_at, list_from}

-- a cell behind which list k stands
abbrev link : ℕ → Cell
link k = record { item = items.Ended; tail = k }

-- n cells from the k-th on
abbrev links : ℕ → ℕ → List Cell
links k zero = []
links k (suc n) = link k ∷ links (k + 1) n

links_at : (i n k : ℕ) → k < n → slice_get (links i n) k ≡ Some (link (i + k))
links_at i zero k h = absurd (omega arith)
links_at i (suc n) zero h =
    let e : i ≡ i + 0 = omega arith in
    ap (λ j. Some (link j)) e
links_at i (suc n) (suc k) h =
    let e : i + 1 + k ≡ i + suc k = omega arith in
    links_at (i + 1) n k (omega arith) ∙ ap (λ j. Some (link j)) e

count_from : (n k : ℕ) → k ≤ n → length (todos (list_from (links 0 n) k k)) ≡ k
unfolding list_from
count_from n zero h = refl
count_from n (suc k) h =
    let e : 0 + k ≡ k = omega arith in
    rw (links_at 0 n k (omega arith) ∙ ap (λ j. Some (link j)) e) (ap suc (count_from n k (omega arith)))

count : (n k : ℕ) → k ≤ n → length (todos (list_at (links 0 n) k)) ≡ k
unfolding list_at
count n k h = count_from n k h

abbrev list_left : Option Step → List Todo
list_left None = []
list_left (Some s) = s.to

same_number : (n : ℕ) (s t : Triple) → s.to ≤ n → t.to ≤ n → Some (step_in (links 0 n) s) ≡ Some (step_in (links 0 n) t) → s.to ≡ t.to
same_number n s t hs ht e =
    let lists : todos (list_at (links 0 n) s.to) ≡ todos (list_at (links 0 n) t.to) = ap list_left e in
    sym (count n s.to hs) ∙ ap length lists ∙ count n t.to ht

found_in : (test : Step → Bool) (n : ℕ) (steps : List Triple) (s : Triple) → s.to ≤ n → highest_steps steps ≤ n → Some (step_in (links 0 n) s) ≡ find test (map (step_in (links 0 n)) steps) → s.to ≤ highest_steps steps
found_in test n [] s hs h e = absurd (cc e)
found_in test n (t ∷ ts) s hs h e =
    let rest : Some (step_in (links 0 n) s) ≡ find test (map (step_in (links 0 n)) ts) → s.to ≤ highest_steps ts =
    λ there. found_in test n ts s hs (omega arith) there in
    go (test (step_in (links 0 n) t)) refl rest
  where
    go : (b : Bool) → test (step_in (links 0 n) t) ≡ b → (Some (step_in (links 0 n) s) ≡ find test (map (step_in (links 0 n)) ts) → s.to ≤ highest_steps ts) → s.to ≤ max t.to (highest_steps ts)
    go true is rest =
        let here : find test (map (step_in (links 0 n)) (t ∷ ts)) ≡ Some (step_in (links 0 n) t) = rw is refl in
        let same : s.to ≡ t.to = same_number n s t hs (omega arith) (e ∙ here) in
        omega arith
    go false is rest =
        let there : find test (map (step_in (links 0 n)) (t ∷ ts)) ≡ find test (map (step_in (links 0 n)) ts) = rw is refl in
        let below : s.to ≤ highest_steps ts = rest (e ∙ there) in
        omega arith

-- what is found leads no higher than the triples do
pub found_within : (test : Step → Bool) (steps : List Triple) (r : Option Triple) → ((cells : List Cell) → option_map (step_in cells) r ≡ find test (map (step_in cells) steps)) → IfSome r (λ s. s.to ≤ highest_steps steps)
found_within test steps None h = record {}
found_within test steps (Some s) h =
    found_in test (max s.to (highest_steps steps)) steps s (omega arith) (omega arith) (h (links 0 (max s.to (highest_steps steps))))
