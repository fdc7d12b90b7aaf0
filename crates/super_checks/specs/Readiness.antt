-- What a search among super types needs.
use Rattle.std.specs.Prelude.{◌≡◌, ◌<◌, ℕ, Bool, List, [], length}
use Rattle.program_model.specs.declared.kinds.ClassId.{ClassId}
use Rattle.class_headers.specs.Search.{AreMarked}
use Rattle.class_headers.specs.SuperTypes.{IsUnder}
use Rattle.super_checks.specs.declared.exceptions.Pair.{Pair}

-- a mark for each of so many classes, none of them set
pub record AreReady (count : ℕ) (marks : List Bool) : Type 0 where
  pub long : length marks ≡ count
  pub clear : AreMarked [] marks

-- the lower class of a pair is one of so many classes
abbrev pub IsPairWithin : ℕ → Pair → Type 0
IsPairWithin count p = p.lower.0 < count

abbrev pub IsPairUnder : List (List ClassId) → Pair → Type 0
IsPairUnder direct p = IsUnder direct p.lower p.upper
