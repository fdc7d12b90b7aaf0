-- The methods that the bodies of the source files are of.
use Rattle.std.specs.Prelude.{◌≡◌, ℕ, List, [], ◌∷◌, All, map}
use Rattle.java_elaboration.specs.Bodies.{SourceBody}

-- by their numbers
abbrev pub method_numbers : List SourceBody → List ℕ
method_numbers bodies = map (λ (b : SourceBody). b.method.0) bodies

-- no number stands twice
abbrev pub AreDistinct : List ℕ → Type 0
AreDistinct [] = Unit {0}
AreDistinct (n ∷ ns) = All (λ m. n ≡ m → ⊥) ns × AreDistinct ns
