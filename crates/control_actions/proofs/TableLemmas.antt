-- Lemmas on the table of lists.
use Rattle.std.proofs.Common.{◌≡◌, ◌∙◌, sym, ap, refl, subst, arith, ℕ, ◌+◌, ◌-◌, ◌<◌, ◌≤◌, zero, suc, max, Bool, true, false, cond, Option, Some, None, List, [], ◌∷◌, ◌++◌, map, length, length-append, inl, inr, add-one}
use Rattle.std.specs.Prelude.{slice_get, Result, Ok, Err, IfOk, IfSome, OnErr}
use Rattle.std.specs.List.{list_any}
use Rattle.std.proofs.lemmas.Bool.{cases_lt}
use Rattle.indexmap.specs.IndexSet.{insert_key}
use Rattle.control_actions.specs.declared.cell.Cell.{Cell}
use Rattle.control_actions.specs.declared.item.Item.{Item}
use Rattle.control_actions.specs.declared.item.Item.TheVariants as items
use Rattle.control_actions.specs.Remaining.{Todos, Cond, NullFork, BoolFork, nil, cons}
use Rattle.control_actions.specs.Tables.{item_by, highest, highest_of, on_cell, list_from, list_at, view_in, bare, IsFirst, IsOrdered, Keeps}

-- two meanings of numbers that agree as far as an item looks give it one meaning
pub item_same : (f g : ℕ → Todos) (x : Item) → ((i : ℕ) → i ≤ highest x → f i ≡ g i) → item_by f x ≡ item_by g x
item_same f g (items.Cond c d p q) h = (λ i. Cond c d (h p (omega arith) i) (h q (omega arith) i))
item_same f g (items.NullFork pos d p q) h = (λ i. NullFork pos d (h p (omega arith) i) (h q (omega arith) i))
item_same f g (items.BoolFork pos d p q) h = (λ i. BoolFork pos d (h p (omega arith) i) (h q (omega arith) i))
item_same f g (items.Do s d) h = refl
item_same f g (items.Ev e d) h = refl
item_same f g (items.Act a pos) h = refl
item_same f g (items.LoopEnd w d) h = refl
item_same f g (items.For w d) h = refl
item_same f g (items.Leave x pos) h = refl
item_same f g (items.Catch s b) h = refl
item_same f g (items.Fin s b) h = refl
item_same f g (items.Close r b) h = refl
item_same f g (items.Finish c b s) h = refl
item_same f g (items.Supp c b s) h = refl
item_same f g (items.Out c) h = refl
item_same f g items.Ended h = refl

cell_same : (f g : ℕ → Todos) (c : Cell) (k : ℕ) → ((i : ℕ) → i ≤ k → f i ≡ g i) → max (highest c.item) c.tail ≤ k → cons (item_by f c.item) (f c.tail) ≡ cons (item_by g c.item) (g c.tail)
cell_same f g c k h small =
    let items_same = item_same f g c.item (λ i within. h i (omega arith)) in
    let tails_same = h c.tail (omega arith) in
    (λ i. cons (items_same i) (tails_same i))

on_cell_same : (o : Option Cell) (f g : Cell → Todos) → ((c : Cell) → o ≡ Some c → f c ≡ g c) → on_cell o f ≡ on_cell o g
on_cell_same None f g h = refl
on_cell_same (Some c) f g h = h c refl

-- looking further changes nothing
pub enough : (cells : List Cell) → IsOrdered cells → (n m id : ℕ) → id ≤ n → id ≤ m → list_from cells n id ≡ list_from cells m id
unfolding list_from
enough cells ordered zero zero id a b = refl
enough cells ordered zero (suc m) zero a b = refl
enough cells ordered zero (suc m) (suc k) a b = absurd (omega arith)
enough cells ordered (suc n) zero zero a b = refl
enough cells ordered (suc n) zero (suc k) a b = absurd (omega arith)
enough cells ordered (suc n) (suc m) zero a b = refl
enough cells ordered (suc n) (suc m) (suc k) a b =
    on_cell_same (slice_get cells k) _ _ (λ c is. cell_same (list_from cells n) (list_from cells m) c k (λ i within. enough cells ordered n m i (omega arith) (omega arith)) (ordered k c is))

pub list_at_zero : (cells : List Cell) → list_at cells 0 ≡ nil
unfolding list_at list_from
list_at_zero cells = refl

-- the list that begins with a cell
pub list_at_suc : (cells : List Cell) (k : ℕ) (c : Cell) → IsOrdered cells → slice_get cells k ≡ Some c → list_at cells (suc k) ≡ cons (view_in cells c.item) (list_at cells c.tail)
unfolding list_at list_from
list_at_suc cells k c ordered is =
    ap (λ o. on_cell o (λ x. cons (item_by (list_from cells k) x.item) (list_from cells k x.tail))) is
    ∙ cell_same (list_from cells k) (list_at cells) c k (λ i within. enough cells ordered k i i (omega arith) (omega arith)) (ordered k c is)

slice_get_front : (cells : List Cell) (c : Cell) (k : ℕ) → k < length cells → slice_get (cells ++ c ∷ []) k ≡ slice_get cells k
slice_get_front [] c k h = absurd (omega arith)
slice_get_front (x ∷ xs) c zero h = refl
slice_get_front (x ∷ xs) c (suc k) h = slice_get_front xs c k (omega arith)

slice_get_last : (cells : List Cell) (c d : Cell) (k : ℕ) → length cells ≤ k → slice_get (cells ++ c ∷ []) k ≡ Some d → c ≡ d
slice_get_last [] c d zero h is = cc
slice_get_last [] c d (suc k) h is = cc
slice_get_last (x ∷ xs) c d zero h is = absurd (omega arith)
slice_get_last (x ∷ xs) c d (suc k) h is = slice_get_last xs c d k (omega arith) is

-- one cell more changes no list
from_append : (cells : List Cell) (c : Cell) → IsOrdered cells → (n id : ℕ) → id ≤ length cells → list_from (cells ++ c ∷ []) n id ≡ list_from cells n id
unfolding list_from
from_append cells c ordered zero id h = refl
from_append cells c ordered (suc n) zero h = refl
from_append cells c ordered (suc n) (suc k) h =
    let here : k < length cells = omega arith in
    ap (λ o. on_cell o (λ x. cons (item_by (list_from (cells ++ c ∷ []) n) x.item) (list_from (cells ++ c ∷ []) n x.tail))) (slice_get_front cells c k here)
    ∙ on_cell_same (slice_get cells k) _ _ (λ x is. cell_same _ _ x k (λ i within. from_append cells c ordered n i (omega arith)) (ordered k x is))

pub keeps_self : (cells : List Cell) → Keeps cells cells
keeps_self cells = record { grows = omega arith; same = λ id h. refl }

pub keeps_append : (cells : List Cell) (c : Cell) → IsOrdered cells → Keeps cells (cells ++ c ∷ [])
unfolding list_at
keeps_append cells c ordered = record { grows = omega (arith, length-append {A = Cell}); same = λ id h. from_append cells c ordered id id h }

pub keeps_trans : (a b c : List Cell) → Keeps a b → Keeps b c → Keeps a c
keeps_trans a b c first second = record { grows = omega (arith, first.grows, second.grows); same = λ id h. second.same id (omega (arith, first.grows)) ∙ first.same id h }

-- an item means the same in a table that keeps its lists
pub view_kept : (old new : List Cell) (x : Item) → Keeps old new → highest x ≤ length old → view_in new x ≡ view_in old x
view_kept old new x kept small = item_same (list_at new) (list_at old) x (λ i within. kept.same i (omega arith))

pub views_kept : (old new : List Cell) (xs : List Item) → Keeps old new → highest_of xs ≤ length old → map (view_in new) xs ≡ map (view_in old) xs
views_kept old new [] kept small = refl
views_kept old new (x ∷ xs) kept small =
    let first = view_kept old new x kept (omega arith) in
    let rest = views_kept old new xs kept (omega arith) in
    (λ i. first i ∷ rest i)

bare_zero : (list : ℕ → Todos) (x : Item) → list 0 ≡ nil → highest x ≡ 0 → item_by list x ≡ bare x
bare_zero list x none small = item_same list (λ _. nil) x (λ i within. let zero_is : i ≡ 0 = omega arith in ap list zero_is ∙ none)

-- items without lists mean the same in each table
pub bare_in : (cells : List Cell) (xs : List Item) → highest_of xs ≡ 0 → map (view_in cells) xs ≡ map bare xs
bare_in cells [] small = refl
bare_in cells (x ∷ xs) small =
    let first = bare_zero (list_at cells) x (list_at_zero cells) (omega arith) in
    let rest = bare_in cells xs (omega arith) in
    (λ i. first i ∷ rest i)

ordered_append : (cells : List Cell) (c : Cell) → IsOrdered cells → max (highest c.item) c.tail ≤ length cells → IsOrdered (cells ++ c ∷ [])
ordered_append cells c ordered small k d is = elim (cases_lt k (length cells)) [
  | inl below ↦ ordered k d (sym (slice_get_front cells c k below) ∙ is)
  | inr above ↦
      let P : Cell → Type 0 = λ x. max (highest x.item) x.tail ≤ length cells in
      let same : c ≡ d = slice_get_last cells c d k above is in
      let bound : max (highest d.item) d.tail ≤ length cells = subst P same small in
      omega (arith, bound)
]

-- the table after a cell was put in, unless an equal one stands there
kept_by : (b : Bool) (cells : List Cell) (c : Cell) → IsOrdered cells → Keeps cells (cond b cells (cells ++ c ∷ []))
kept_by true cells c ordered = keeps_self cells
kept_by false cells c ordered = keeps_append cells c ordered

ordered_by : (b : Bool) (cells : List Cell) (c : Cell) → IsOrdered cells → max (highest c.item) c.tail ≤ length cells → IsOrdered (cond b cells (cells ++ c ∷ []))
ordered_by true cells c ordered small = ordered
ordered_by false cells c ordered small = ordered_append cells c ordered small

pub inserted_keeps : (eq : Cell → Cell → Bool) (old new : List Cell) (c : Cell) → IsOrdered old → new ≡ insert_key eq old c → Keeps old new
inserted_keeps eq old new c ordered is = subst (λ (x : List Cell). Keeps old x) (sym is) (kept_by (list_any (eq c) old) old c ordered)

pub inserted_ordered : (eq : Cell → Cell → Bool) (old new : List Cell) (c : Cell) → IsOrdered old → max (highest c.item) c.tail ≤ length old → new ≡ insert_key eq old c → IsOrdered new
inserted_ordered eq old new c ordered small is = subst IsOrdered (sym is) (ordered_by (list_any (eq c) old) old c ordered small)

-- the list that begins with a cell that was put in
pub inserted_list : (eq : Cell → Cell → Bool) (old new : List Cell) (c d : Cell) (i : ℕ) → IsOrdered old → max (highest c.item) c.tail ≤ length old → new ≡ insert_key eq old c → slice_get new i ≡ Some d → c ≡ d → list_at new (i + 1) ≡ cons (view_in old c.item) (list_at old c.tail)
inserted_list eq old new c d i ordered small is at same =
    let kept = inserted_keeps eq old new c ordered is in
    let begins = list_at_suc new i c (inserted_ordered eq old new c ordered small is) (at ∙ ap Some (sym same)) in
    let item = view_kept old new c.item kept (omega arith) in
    let tail = kept.same c.tail (omega arith) in
    ap (list_at new) (add-one i) ∙ begins ∙ (λ i. cons (item i) (tail i))

pub keeps_same : (old new : List Cell) → new ≡ old → Keeps old new
keeps_same old new is = subst (λ (x : List Cell). Keeps old x) (sym is) (keeps_self old)

-- the table after a cell was put in, or not taken
pub kept_after : {A E : Type 0} (r : Result A E) (eq : Cell → Cell → Bool) (old new : List Cell) (c : Cell) → IsOrdered old → IfOk r (λ _. new ≡ insert_key eq old c) → OnErr r (new ≡ old) → Keeps old new
kept_after (Ok x) eq old new c ordered is failed = inserted_keeps eq old new c ordered is
kept_after (Err e) eq old new c ordered is failed = keeps_same old new failed

pub ordered_after : {A E : Type 0} (r : Result A E) (eq : Cell → Cell → Bool) (old new : List Cell) (c : Cell) → IsOrdered old → max (highest c.item) c.tail ≤ length old → IfOk r (λ _. new ≡ insert_key eq old c) → OnErr r (new ≡ old) → IsOrdered new
ordered_after (Ok x) eq old new c ordered small is failed = inserted_ordered eq old new c ordered small is
ordered_after (Err e) eq old new c ordered small is failed = subst IsOrdered (sym failed) ordered

slice_get_within_some : (cells : List Cell) (k : ℕ) → k < length cells → (c : Cell) × (slice_get cells k ≡ Some c)
slice_get_within_some [] k h = absurd (omega arith)
slice_get_within_some (x ∷ xs) zero h = (x, refl)
slice_get_within_some (x ∷ xs) (suc k) h = slice_get_within_some xs k (omega arith)

-- the cell at a place is the first one of its list
first_of_cell : (cells : List Cell) (k : ℕ) (r : Option Cell) → IsOrdered cells → k < length cells → r ≡ slice_get cells k → IsFirst cells (list_at cells (suc k)) r
first_of_cell cells k None ordered within is = absurd (let there = slice_get_within_some cells k within in let never : None ≡ Some there.0 = is ∙ there.1 in cc)
first_of_cell cells k (Some c) ordered within is = (list_at_suc cells k c ordered (sym is), let bound = ordered k c (sym is) in omega (arith, bound))

pub first_of_list : (cells : List Cell) (id : ℕ) (r : Option Cell) → IsOrdered cells → (id ≡ 0 → ⊥) → id ≤ length cells → r ≡ slice_get cells (id - 1) → IsFirst cells (list_at cells id) r
first_of_list cells zero r ordered other within is = absurd (other refl)
first_of_list cells (suc k) r ordered other within is =
    let same : suc k - 1 ≡ k = omega arith in
    first_of_cell cells k r ordered (omega arith) (is ∙ ap (slice_get cells) same)

earlier_by : (cells : List Cell) (k : ℕ) (r : Option Cell) → IsOrdered cells → r ≡ slice_get cells k → IfSome r (λ c. c.tail < suc k)
earlier_by cells k None ordered is = tt
earlier_by cells k (Some c) ordered is = let bound = ordered k c (sym is) in omega (arith, bound)

-- the list behind the first item was made earlier
pub first_earlier : (cells : List Cell) (id : ℕ) (r : Option Cell) → IsOrdered cells → (id ≡ 0 → ⊥) → r ≡ slice_get cells (id - 1) → IfSome r (λ c. c.tail < id)
first_earlier cells zero r ordered other is = absurd (other refl)
first_earlier cells (suc k) r ordered other is =
    let same : suc k - 1 ≡ k = omega arith in
    earlier_by cells k r ordered (is ∙ ap (slice_get cells) same)
