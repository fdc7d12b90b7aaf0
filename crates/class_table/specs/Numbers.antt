-- The numbers of the members of a class among those of the program.
use Rattle.std.specs.Prelude.{◌≡◌, ◌<◌, ℕ, ◌+◌, Bool, nat_eq, List, [], ◌∷◌, slice_index_or, if◌then◌else◌}
use Rattle.program_model.specs.declared.kinds.ClassId.{ClassId}

-- the numbers of those that pass the test, where the first has this one
abbrev pub numbers_where : {X : Type 0} → (X → Bool) → ℕ → List X → List ℕ
numbers_where test first [] = []
numbers_where test first (x ∷ xs) = if test x then first ∷ numbers_where test (first + 1) xs else numbers_where test (first + 1) xs

-- the numbers of the members of the class with this number, by the classes of all members
abbrev pub numbers_owned : ℕ → List ClassId → List ℕ
numbers_owned n owners = numbers_where (λ (o : ClassId). nat_eq o.0 n) 0 owners

-- the row with this number
abbrev pub row_at : List (List ℕ) → ℕ → List ℕ
row_at rows n = slice_index_or rows n []

-- each of so many rows has the numbers of its class
abbrev pub AreNumbers : ℕ → List ClassId → List (List ℕ) → Type 0
AreNumbers count owners rows = (n : ℕ) → n < count → row_at rows n ≡ numbers_owned n owners
