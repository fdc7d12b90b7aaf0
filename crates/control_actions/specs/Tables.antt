-- Lists of items that share their tails, kept in one table of cells: 0 is the number of the empty list, and k + 1 that of the
-- list that begins with cell k. An item of the table names the lists within it by number.
use Rattle.std.specs.Prelude.{◌≡◌, ℕ, ◌≤◌, zero, suc, max, Option, Some, None, List, [], ◌∷◌, length, slice_get}
use Rattle.control_actions.specs.declared.cell.Cell.{Cell}
use Rattle.control_actions.specs.declared.item.Item.{Item}
use Rattle.control_actions.specs.declared.item.Item.TheVariants as items
use Rattle.control_actions.specs.Remaining.{Todo, Todos, Do, Ev, Act, Cond, NullFork, BoolFork, LoopEnd, For, Leave, Catch, Fin, Close, Finish, Supp, Out, Ended, nil, cons}

-- what an item of a table means, where `list` tells what the numbers of lists mean
abbrev pub item_by : (ℕ → Todos) → Item → Todo
item_by list (items.Do s d) = Do s d
item_by list (items.Ev e d) = Ev e d
item_by list (items.Act a pos) = Act a pos
item_by list (items.Cond c d p q) = Cond c d (list p) (list q)
item_by list (items.NullFork pos d p q) = NullFork pos d (list p) (list q)
item_by list (items.BoolFork pos d p q) = BoolFork pos d (list p) (list q)
item_by list (items.LoopEnd w d) = LoopEnd w d
item_by list (items.For w d) = For w d
item_by list (items.Leave x pos) = Leave x pos
item_by list (items.Catch s b) = Catch s b
item_by list (items.Fin f b) = Fin f b
item_by list (items.Close r b) = Close r b
item_by list (items.Finish c b f) = Finish c b f
item_by list (items.Supp c b s) = Supp c b s
item_by list (items.Out c) = Out c
item_by list items.Ended = Ended

-- the highest number of a list within an item
abbrev pub highest : Item → ℕ
highest (items.Cond c d p q) = max p q
highest (items.NullFork pos d p q) = max p q
highest (items.BoolFork pos d p q) = max p q
highest _ = 0

abbrev pub highest_of : List Item → ℕ
highest_of [] = 0
highest_of (x ∷ xs) = max (highest x) (highest_of xs)

abbrev pub on_cell : Option Cell → (Cell → Todos) → Todos
on_cell None f = nil
on_cell (Some c) f = f c

-- the list of a number, by looking at no more than so many cells
unfoldable pub list_from : List Cell → ℕ → ℕ → Todos
list_from cells zero id = nil
list_from cells (suc n) zero = nil
list_from cells (suc n) (suc k) = on_cell (slice_get cells k) (λ c. cons (item_by (list_from cells n) c.item) (list_from cells n c.tail))

-- the list of a number
unfoldable pub list_at : List Cell → ℕ → Todos
list_at cells id = list_from cells id id

-- what an item of the table means
abbrev pub view_in : List Cell → Item → Todo
view_in cells x = item_by (list_at cells) x

-- items without lists mean the same in each table
abbrev pub bare : Item → Todo
bare x = item_by (λ _. nil) x

-- each cell names lists that were made before it
abbrev pub IsOrdered : List Cell → Type 0
IsOrdered cells = (k : ℕ) (c : Cell) → slice_get cells k ≡ Some c → max (highest c.item) c.tail ≤ k

-- the lists of the old table stay in the new one
pub record Keeps (old new : List Cell) : Type 0 where
  pub grows : length old ≤ length new
  pub same : (id : ℕ) → id ≤ length old → list_at new id ≡ list_at old id

-- the first cell of a list, where it has one
abbrev pub IsFirst : List Cell → Todos → Option Cell → Type 0
IsFirst cells list None = list ≡ nil
IsFirst cells list (Some c) = (list ≡ cons (view_in cells c.item) (list_at cells c.tail)) × (max (highest c.item) c.tail ≤ length cells)
