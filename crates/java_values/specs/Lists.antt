-- Lists of trees with their levels.
use Rattle.std.specs.Prelude.{max, List, [], ◌∷◌, ◌++◌}
use Rattle.java_values.specs.NestedTrees.{Nested}

abbrev pub none_of : (A : Type 0) → Nested (List A)
none_of A = record { tree = []; depth = 0 }

-- one more behind the others
abbrev pub added : {A : Type 0} → Nested (List A) → Nested A → Nested (List A)
added all one = record { tree = all.tree ++ one.tree ∷ []; depth = max all.depth one.depth }
