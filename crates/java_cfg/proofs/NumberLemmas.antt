-- No two numbers of a table name one list.
use Rattle.std.proofs.Common.{◌≡◌, ◌∙◌, sym, ap, refl, arith, ℕ, ◌<◌, ◌≤◌, zero, suc, Bool, true, false, Some, List, [], ◌∷◌, length, get_or, inl, inr}
use Rattle.std.specs.Prelude.{slice_get}
use Rattle.std.specs.List.{All, IsDistinct}
use Rattle.std.proofs.lemmas.Bool.{cases_lt}
use Rattle.std.proofs.lemmas.List.Elements.{All-get_or}
use Rattle.std.proofs.lemmas.Map.Keys.{apart_from_distinct}
use Rattle.std.proofs.lemmas.Option.{get_or_from_slice_get, slice_get_within}
use Rattle.control_actions.specs.declared.cell.Cell.{Cell}
use Rattle.control_actions.specs.declared.item.Item.{Item}
use Rattle.control_actions.specs.declared.item.Item.TheVariants as items
use Rattle.control_actions.specs.contracts.cell.CellPartialEq.TheImpl as cell_eq
use Rattle.control_actions.specs.contracts.cell.CellEq.TheImpl.Laws as cell_laws
use Rattle.java_control.specs.Remaining.{Todos, todos, nil, cons}
use Rattle.java_control.specs.Tables.{highest, item_by, list_at, view_in, IsOrdered, Keeps}
use Rattle.control_actions.proofs.TableLemmas.{list_at_suc, list_at_zero}
use Rattle.java_cfg.specs.Reach.{AreOnce}
use Rattle.java_cfg.specs.Tables.{control_at, controls}
use Rattle.java_cfg.proofs.ListLemmas.{map_get, map_same, place_within}

-- the values of a list differ where no two are equal by a test that each passes with itself
pub once_distinct : {X : Type 0} (eq : X → X → Bool) (xs : List X) → ((x : X) → eq x x ≡ true) → IsDistinct eq xs → AreOnce xs
once_distinct {X} eq xs same distinct i j x here there =
    let never : (k m : ℕ) → slice_get xs k ≡ Some x → slice_get xs m ≡ Some x → k < m → ⊥ =
    (λ k m first second less.
    let apart = apart_from_distinct eq xs k m x distinct less (slice_get_within xs m x second) in
    let one = get_or_from_slice_get xs k x x first in
    let two = get_or_from_slice_get xs m x x second in
    let wrong : true ≡ false = sym (same x) ∙ (λ n. eq (sym one n) (sym two n)) ∙ apart in
    cc) in
    elim (cases_lt i j) [
      | inl less ↦ absurd (never i j here there less)
      | inr more ↦ elim (cases_lt j i) [
        | inl less ↦ absurd (never j i there here less)
        | inr other ↦ omega arith
      ]
    ]

-- an item is known by what it means, where the numbers in it are
item_exact : (f : ℕ → Todos) (x y : Item) → ((i j : ℕ) → i ≤ highest x → j ≤ highest y → f i ≡ f j → i ≡ j) → item_by f x ≡ item_by f y → x ≡ y
item_exact f (items.Cond c d p q) (items.Cond c' d' p' q') known h =
    let first : p ≡ p' = known p p' (omega arith) (omega arith) (cc) in
    let second : q ≡ q' = known q q' (omega arith) (omega arith) (cc) in
    cc
item_exact f (items.NullFork c d p q) (items.NullFork c' d' p' q') known h =
    let first : p ≡ p' = known p p' (omega arith) (omega arith) (cc) in
    let second : q ≡ q' = known q q' (omega arith) (omega arith) (cc) in
    cc
item_exact f (items.BoolFork c d p q) (items.BoolFork c' d' p' q') known h =
    let first : p ≡ p' = known p p' (omega arith) (omega arith) (cc) in
    let second : q ≡ q' = known q q' (omega arith) (omega arith) (cc) in
    cc
item_exact f (items.Do a b) (items.Do a' b') known h = cc
item_exact f (items.Ev a b) (items.Ev a' b') known h = cc
item_exact f (items.Act a b) (items.Act a' b') known h = cc
item_exact f (items.LoopEnd a b) (items.LoopEnd a' b') known h = cc
item_exact f (items.For a b) (items.For a' b') known h = cc
item_exact f (items.Leave a b) (items.Leave a' b') known h = cc
item_exact f (items.Catch a b) (items.Catch a' b') known h = cc
item_exact f (items.Fin a b) (items.Fin a' b') known h = cc
item_exact f (items.Close a b) (items.Close a' b') known h = cc
item_exact f (items.Finish a b c) (items.Finish a' b' c') known h = cc
item_exact f (items.Supp a b c) (items.Supp a' b' c') known h = cc
item_exact f (items.Out a) (items.Out a') known h = cc
item_exact f items.Ended items.Ended known h = refl
item_exact f x y known h = cc

todos_exact : (xs ys : Todos) → todos xs ≡ todos ys → xs ≡ ys
todos_exact nil nil h = refl
todos_exact nil (cons y ys) h = absurd (let never : [] ≡ y ∷ todos ys = h in cc)
todos_exact (cons x xs) nil h = absurd (let never : x ∷ todos xs ≡ [] = h in cc)
todos_exact (cons x xs) (cons y ys) h =
    let equal : x ∷ todos xs ≡ y ∷ todos ys = h in
    let first : x ≡ y = cc in
    let rest : xs ≡ ys = todos_exact xs ys (cc) in
    (λ i. cons (first i) (rest i))

-- no two numbers of a table are one list
pub same_number : (cells : List Cell) → IsOrdered cells → AreOnce cells → (n i j : ℕ) → i ≤ n → i ≤ length cells → j ≤ length cells → list_at cells i ≡ list_at cells j → i ≡ j
same_number cells ordered once n zero zero bound a b h = refl
same_number cells ordered once n zero (suc m) bound a b h =
    let d = place_within cells m (omega arith) in
    let never : nil ≡ cons (view_in cells d.0.item) (list_at cells d.0.tail) = sym (list_at_zero cells) ∙ h ∙ list_at_suc cells m d.0 ordered d.1 in
    absurd (cc)
same_number cells ordered once n (suc k) zero bound a b h =
    let c = place_within cells k (omega arith) in
    let never : nil ≡ cons (view_in cells c.0.item) (list_at cells c.0.tail) = sym (list_at_zero cells) ∙ sym h ∙ list_at_suc cells k c.0 ordered c.1 in
    absurd (cc)
same_number cells ordered once zero (suc k) (suc m) bound a b h = absurd (omega arith)
same_number cells ordered once (suc n) (suc k) (suc m) bound a b h =
    let c = place_within cells k (omega arith) in
    let d = place_within cells m (omega arith) in
    let equal : cons (view_in cells c.0.item) (list_at cells c.0.tail) ≡ cons (view_in cells d.0.item) (list_at cells d.0.tail) = sym (list_at_suc cells k c.0 ordered c.1) ∙ h ∙ list_at_suc cells m d.0 ordered d.1 in
    let small = ordered k c.0 c.1 in
    let few = ordered m d.0 d.1 in
    let tails : c.0.tail ≡ d.0.tail = same_number cells ordered once n c.0.tail d.0.tail (omega (arith, small)) (omega (arith, small)) (omega (arith, few)) (cc) in
    let views : view_in cells c.0.item ≡ view_in cells d.0.item = cc in
    let items_same : c.0.item ≡ d.0.item = item_exact (list_at cells) c.0.item d.0.item (λ x y inside within is. same_number cells ordered once n x y (omega (arith, small, inside)) (omega (arith, small, inside)) (omega (arith, few, within)) is) views in
    let same : c.0 ≡ d.0 = (λ i. record { item = items_same i; tail = tails i }) in
    let place : k ≡ m = once k m d.0 (c.1 ∙ ap Some same) d.1 in
    ap suc place

-- no control stands twice where no number does
pub controls_once : (cells : List Cell) (numbers : List ℕ) → IsOrdered cells → AreOnce cells → AreOnce numbers → All (λ n. n ≤ length cells) numbers → AreOnce (controls cells numbers)
controls_once cells numbers ordered once numbers_once within i j x here there =
    let first = map_get (control_at cells) numbers i x here in
    let second = map_get (control_at cells) numbers j x there in
    let inside : (k n : ℕ) → slice_get numbers k ≡ Some n → n ≤ length cells = (λ k n at.
    let read = All-get_or (λ (n : ℕ). n ≤ length cells) numbers k n (slice_get_within numbers k n at) within in
    let is = get_or_from_slice_get numbers k n n at in
    omega (arith, read, is)) in
    let lists : list_at cells first.0 ≡ list_at cells second.0 = todos_exact (list_at cells first.0) (list_at cells second.0) (first.1.1 ∙ sym second.1.1) in
    let same : first.0 ≡ second.0 = same_number cells ordered once first.0 first.0 second.0 (omega arith) (inside i first.0 first.1.0) (inside j second.0 second.1.0) lists in
    numbers_once i j second.0 (first.1.0 ∙ ap Some same) second.1.0

-- controls stay where a table keeps its lists
pub controls_kept : (old new : List Cell) (numbers : List ℕ) → Keeps old new → All (λ n. n ≤ length old) numbers → controls new numbers ≡ controls old numbers
controls_kept old new numbers kept within = map_same (control_at new) (control_at old) numbers (λ k d inside. ap todos (kept.same (get_or numbers k d) (within k d inside)))

-- cells that are apart by `==` differ
pub cells_once : (cells : List Cell) → IsDistinct (cell_eq.ghosts).eq cells → AreOnce cells
cells_once cells distinct = once_distinct (cell_eq.ghosts).eq cells (λ c. (cell_laws.laws-law).refl c) distinct
