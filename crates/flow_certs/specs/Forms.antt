-- The form of a certificate: the first line, for each body of the program its line and its pairs, and the last line. Each line ends
-- with a line feed.
use Rattle.std.specs.Prelude.{◌≡◌, ◌↔◌, ◌⊎◌, ℕ, zero, suc, ◌+◌, ◌-◌, Bool, true, false, ◌&&◌, nat_lt, Option, Some, None, option_map, unwrap_or, List, [], ◌∷◌, length, take, drop, if◌then◌else◌}
use Rattle.std.specs.List.{filter_map}
use Rattle.breadth_first.specs.Searches.{Stands}
use Rattle.program_model.specs.declared.kinds.BodyId.{BodyId}
use Rattle.program_model.specs.declared.program.Program.{Program}
use Rattle.flow_certs.specs.declared.pair.Pair.{Pair}
use Rattle.flow_certs.specs.declared.form.Stage.{Stage}
use Rattle.flow_certs.specs.declared.form.Stage.TheVariants as stages
use Rattle.flow_certs.specs.Lines.{count_in, is_end, is_head, pair_in}
use Rattle.flow_certs.specs.Numbers.{parts}

-- what stands between the line feeds of a text (the code of a line feed is 10); behind the last one nothing may stand
abbrev pub lines_of : List ℕ → List (List ℕ)
lines_of bytes = parts 10 bytes

abbrev pub body_id : ℕ → BodyId
body_id n = record { 0 = n }

abbrev pub body_count : Program → ℕ
body_count p = length p.bodies.items

-- ---- which lines may stand behind one another

abbrev pub after_pair : ℕ → ℕ → Option Pair → Option Stage
after_pair next left None = None
after_pair next left (Some x) = Some (stages.Within next (left - 1))

-- the line of the next body, or the last line where there is none
abbrev pub after_bodies : Program → ℕ → List ℕ → Option Stage
after_bodies p next line =
    if nat_lt next (body_count p) then option_map (λ count. stages.Within (next + 1) count) (count_in next line)
    else (if is_end line then Some stages.Ended else None)

-- where the text stands after a line; none where the line can't stand there
abbrev pub after : Program → Stage → List ℕ → Option Stage
after p stages.Head line = if is_head line then Some (stages.Within 0 0) else None
after p (stages.Within next left) line =
    if nat_lt 0 left then after_pair next left (pair_in p (body_id (next - 1)) line) else after_bodies p next line
after p stages.Ended line = None

abbrev pub is_ended : Stage → Bool
is_ended stages.Head = false
is_ended (stages.Within next left) = false
is_ended stages.Ended = true

abbrev pub is_none : {X : Type 0} → List X → Bool
is_none [] = true
is_none (x ∷ xs) = false

-- The number of the first line with which no certificate begins, where `number` is that of the first line here; where each line begins
-- one and the text is none, the line in which the text ends.
abbrev pub wrong_from : Program → Option Stage → ℕ → List (List ℕ) → Option ℕ
wrong_from p None number lines = Some (number - 1)
wrong_from p (Some stage) number [] = Some number
wrong_from p (Some stage) number (line ∷ rest) =
    if is_none rest then (if is_ended stage && is_none line then None else Some number)
    else wrong_from p (after p stage line) (number + 1) rest

-- none where the text is of the form
abbrev pub first_wrong : Program → List ℕ → Option ℕ
first_wrong p bytes = wrong_from p (Some stages.Head) 1 (lines_of bytes)

-- ---- what a text of this form says

-- a body's part of a certificate: the number of its line, and its pairs in order, of which each has a line
pub record Section : Type 0 where
  pub line : ℕ
  pub pairs : List Pair

-- the pairs of the first lines
abbrev pub pairs_in : Program → BodyId → ℕ → List (List ℕ) → List Pair
pairs_in p b count lines = filter_map (pair_in p b) (take count lines)

-- how many pairs the line of the body says
abbrev pub said_count : ℕ → List ℕ → ℕ
said_count body line = unwrap_or (count_in body line) 0

-- how many pairs of the body follow its line, which is the first one here
abbrev pub pair_count : ℕ → List (List ℕ) → ℕ
pair_count body [] = 0
pair_count body (line ∷ rest) = said_count body line

-- the part of the body whose line is the first one here
abbrev pub first_part : Program → ℕ → ℕ → List (List ℕ) → Section
first_part p body number [] = record { line = number; pairs = [] }
first_part p body number (line ∷ rest) = record { line = number; pairs = pairs_in p (body_id body) (said_count body line) rest }

-- what stands behind that part
abbrev pub behind_part : ℕ → List (List ℕ) → List (List ℕ)
behind_part body [] = []
behind_part body (line ∷ rest) = drop (said_count body line) rest

-- the parts of so many bodies from the body of that number on, whose line has that number
abbrev pub sections_from : Program → ℕ → ℕ → ℕ → List (List ℕ) → List Section
sections_from p zero body number lines = []
sections_from p (suc bodies) body number lines =
    first_part p body number lines ∷ sections_from p bodies (body + 1) (number + 1 + pair_count body lines) (behind_part body lines)

-- the part of each body
abbrev pub sections : Program → List ℕ → List Section
sections p bytes = sections_from p (body_count p) 0 2 (drop 1 (lines_of bytes))

-- ---- lists of pairs

-- the same pairs stand in both lists
abbrev pub AreSamePairs : List Pair → List Pair → Type 0
AreSamePairs xs ys = (x : Pair) → (Stands xs x ↔ Stands ys x)

-- what a line says, where it says a pair, is among the later pairs beside the earlier ones
abbrev pub IsPut : Option Pair → List Pair → List Pair → Type 0
IsPut None before later = later ≡ before
IsPut (Some x) before later = (y : Pair) → Stands later y ↔ (Stands before y ⊎ (x ≡ y))

-- each of the first lines says a pair of the body
abbrev pub ArePairLines : Program → BodyId → ℕ → List (List ℕ) → Type 0
ArePairLines p b zero lines = Unit {0}
ArePairLines p b (suc n) [] = ⊥
ArePairLines p b (suc n) (line ∷ rest) = ((x : Pair) × (pair_in p b line ≡ Some x)) × ArePairLines p b n rest
