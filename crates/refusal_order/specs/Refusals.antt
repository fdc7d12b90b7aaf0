-- Of several refusals the one at the least place stands, and at one place that with the least code.
use Rattle.std.specs.Prelude.{ℕ, Bool, ◌&&◌, ◌||◌, nat_eq, nat_lt, Option, Some, None, List, [], ◌∷◌, Result, Ok, Err, if◌then◌else◌}
use Rattle.rlc_base.specs.declared.place.Pos.{Pos}
use Rattle.rlc_base.specs.declared.code.Code.{Code}
use Rattle.rlc_base.specs.declared.faults.Refusal.{Refusal}
use Rattle.rlc_base.specs.Codes.{number_of}

-- the first number is the lesser, or the two are equal and what comes behind them decides
abbrev pub is_less_or : ℕ → ℕ → Bool → Bool
is_less_or x y behind = nat_lt x y || (nat_eq x y && behind)

-- the file comes first, then the line, then the column, then whatever decides at one place
abbrev pub is_place_before_or : Pos → Pos → Bool → Bool
is_place_before_or x y behind = is_less_or x.file y.file (is_less_or x.line y.line (is_less_or x.col y.col behind))

-- the place comes first, and then the code
abbrev pub is_before : Refusal → Refusal → Bool
is_before x y = is_place_before_or x.pos y.pos (nat_lt (number_of x.code) (number_of y.code))

-- the lesser of a refusal and of one that may be none
abbrev pub lesser : Refusal → Option Refusal → Refusal
lesser x None = x
lesser x (Some y) = if is_before y x then y else x

-- the lesser of two that may be none
abbrev pub lesser_of : Option Refusal → Option Refusal → Option Refusal
lesser_of None y = y
lesser_of (Some x) y = Some (lesser x y)

-- the least of all
abbrev pub least : List Refusal → Option Refusal
least [] = None
least (x ∷ xs) = lesser_of (Some x) (least xs)

-- the least of what each element gives
abbrev pub least_of_all : {X : Type 0} → (X → Option Refusal) → List X → Option Refusal
least_of_all f [] = None
least_of_all f (x ∷ xs) = lesser_of (f x) (least_of_all f xs)

-- a pass refuses by the least of its cases, and by none where no case holds
abbrev pub verdict_of : Option Refusal → Result (Unit {0}) Refusal
verdict_of None = Ok tt
verdict_of (Some x) = Err x

abbrev pub refused_at : Code → Pos → Refusal
refused_at code pos = record { code = code; pos = pos }

-- the refusal, where the case holds
abbrev pub where_true : Bool → Code → Pos → List Refusal
where_true holds code pos = if holds then refused_at code pos ∷ [] else []
