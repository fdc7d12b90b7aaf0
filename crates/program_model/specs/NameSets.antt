-- Sets of names of methods, each by its number in the table of names.
use Rattle.std.specs.Prelude.{Bool, true, false, List, [], ◌∷◌}
use Rattle.std.specs.Ordering.{nat_cmp}
use Rattle.std.specs.FinSet as set

abbrev pub Names : Type 0
Names = set.FinSet nat_cmp

abbrev pub no_names : Names
no_names = set.empty

abbrev pub is_empty : Names → Bool
is_empty names = set.is_subset names set.empty

-- the names, where a test holds
abbrev pub when : Bool → Names → Names
when true names = names
when false names = no_names

-- the names of all elements of a list
abbrev pub names_of_all : {X : Type 0} → (X → Names) → List X → Names
names_of_all f [] = no_names
names_of_all f (x ∷ xs) = set.union (f x) (names_of_all f xs)
