-- The names of the files that a command reads.
use Rattle.std.specs.Prelude.{ℕ, Option, Some, None, List, [], ◌∷◌, ◌++◌}

abbrev pub optional_name : Option (List ℕ) → List (List ℕ)
optional_name None = []
optional_name (Some name) = name ∷ []

-- the settings file and the choices file, where they are named, and then the files in the order of the words
abbrev pub reading_list : Option (List ℕ) → Option (List ℕ) → List (List ℕ) → List (List ℕ)
reading_list settings choices files = optional_name settings ++ optional_name choices ++ files
