-- Lemmas on items that are put before a list one after another, the last one first.
use Rattle.std.proofs.Common.{◌≡◌, ◌∙◌, sym, ap, refl, arith, add-one, drop-cons, ℕ, ◌+◌, ◌<◌, ◌≤◌, zero, suc, List, [], ◌∷◌, ◌++◌, map, drop, length, get_or}
use Rattle.std.proofs.Math.Seq.{drop-length}
use Rattle.control_actions.specs.declared.cell.Cell.{Cell}
use Rattle.control_actions.specs.declared.item.Item.{Item}
use Rattle.control_actions.specs.Remaining.{todos, cons}
use Rattle.control_actions.specs.Tables.{highest, highest_of, view_in, list_at, Keeps}
use Rattle.control_actions.proofs.TableLemmas.{view_kept}

-- what is left begins with the element at that place
pub drop_at : {A : Type 0} (xs : List A) (i : ℕ) (d : A) → i < length xs → drop i xs ≡ get_or xs i d ∷ drop (i + 1) xs
drop_at xs i d h = rw (add-one, drop-cons xs i d) refl

-- one more item in front of what was put in before
pub pushed_more : (old mid new : List Cell) (x : Item) (rest : List Item) (tail behind id : ℕ) → Keeps old mid → highest x ≤ length old → list_at new id ≡ cons (view_in mid x) (list_at mid behind) → todos (list_at mid behind) ≡ map (view_in old) rest ++ todos (list_at old tail) → todos (list_at new id) ≡ (view_in old x ∷ map (view_in old) rest) ++ todos (list_at old tail)
pushed_more old mid new x rest tail behind id kept small is before =
    let item = view_kept old mid x kept small in
    ap todos is ∙ (λ i. item i ∷ before i)

-- an item of a list names no list that is higher than those of the whole
pub highest_at : (items : List Item) (i : ℕ) (d : Item) → i < length items → highest (get_or items i d) ≤ highest_of items
highest_at [] i d h = absurd (omega arith)
highest_at (x ∷ items) zero d h = omega arith
highest_at (x ∷ items) (suc i) d h = let rest = highest_at items i d (omega arith) in omega (arith, rest)

-- at first nothing is put before
pub pushed_none : (cells : List Cell) (items : List Item) (tail : ℕ) → todos (list_at cells tail) ≡ map (view_in cells) (drop (length items) items) ++ todos (list_at cells tail)
pushed_none cells items tail = ap (λ xs. map (view_in cells) xs ++ todos (list_at cells tail)) (sym (drop-length items))

-- one item more
pub pushed_before : (old mid new : List Cell) (items : List Item) (left k : ℕ) (d : Item) (tail behind id : ℕ) → Keeps old mid → left ≡ k + 1 → left ≤ length items → highest_of items ≤ length old → list_at new id ≡ cons (view_in mid (get_or items k d)) (list_at mid behind) → todos (list_at mid behind) ≡ map (view_in old) (drop left items) ++ todos (list_at old tail) → todos (list_at new id) ≡ map (view_in old) (drop k items) ++ todos (list_at old tail)
pushed_before old mid new items left k d tail behind id kept next within small is before =
    let inside : k < length items = omega arith in
    let one = highest_at items k d inside in
    let rest = before ∙ ap (λ n. map (view_in old) (drop n items) ++ todos (list_at old tail)) next in
    pushed_more old mid new (get_or items k d) (drop (k + 1) items) tail behind id kept (omega (arith, one)) is rest
    ∙ ap (λ xs. map (view_in old) xs ++ todos (list_at old tail)) (sym (drop_at items k d inside))
