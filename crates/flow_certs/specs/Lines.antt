-- What a line of a certificate says: how many pairs a body has, or one of its pairs.
use Rattle.std.specs.Prelude.{ℕ, ◌+◌, min, Bool, true, false, ◌&&◌, ◌==◌, nat_le, Option, Some, None, option_map, List, [], ◌∷◌, codes, length, if◌then◌else◌}
use Rattle.std.specs.FinSet as set
use Rattle.std.specs.Str.{bytes_eq}
use Rattle.program_model.specs.declared.kinds.BodyId.{BodyId}
use Rattle.program_model.specs.declared.program.Program.{Program}
use Rattle.control_actions.specs.PlaceNumbers.{number_of}
use Rattle.control_actions.specs.declared.fact.Mode.{Mode}
use Rattle.control_actions.specs.declared.fact.Mode.TheVariants as modes
use Rattle.control_actions.specs.declared.place.Place.{Place}
use Rattle.control_actions.specs.declared.place.Place.TheVariants as places
use Rattle.obligation_facts.specs.Facts.{Names, PlaceSet, with_place}
use Rattle.java_cfg.specs.Limits.{owning_count, variable_count}
use Rattle.flow_certs.specs.declared.pair.Pair.{Pair}
use Rattle.flow_certs.specs.Numbers.{number_below, number_in, parts}

-- ---- places

-- The place that a word names, in frames of the body: `v0` a parameter or local, `f0` an owning field of the body's class, `t0` a
-- temp, each with its number, `this`, or `super`. The code of `v` is 118, that of `f` 102, that of `t` 116. A set of places has room
-- for 160 variables, 16 owning fields and 64 temps.
abbrev pub place_in : Program → BodyId → List ℕ → Option Place
place_in p b [] = None
place_in p b (c ∷ digits) =
    if bytes_eq (c ∷ digits) (codes "this") then Some places.This
    else (if bytes_eq (c ∷ digits) (codes "super") then Some places.Super
    else (if c == 118 then option_map (λ k. places.Var k) (number_below (min (variable_count p b) 160) digits)
    else (if c == 102 then option_map (λ k. places.Field k) (number_below (min (owning_count p b) 16) digits)
    else (if c == 116 then option_map (λ k. places.Temp k) (number_below 64 digits)
    else None))))

-- the number from which on the next place may follow, and the places so far
abbrev pub PlacesSoFar : Type 0
PlacesSoFar = ℕ × PlaceSet

abbrev pub with_next_place : PlacesSoFar → Place → Option PlacesSoFar
with_next_place (least, held) x = if nat_le least (number_of x) then Some (number_of x + 1, with_place held x) else None

abbrev pub then_place : PlacesSoFar → Option Place → Option PlacesSoFar
then_place so_far None = None
then_place so_far (Some x) = with_next_place so_far x

-- the places that words name, each behind those before it in the order of places
abbrev pub places_from : Program → BodyId → Option PlacesSoFar → List (List ℕ) → Option PlaceSet
places_from p b None words = None
places_from p b (Some so_far) [] = Some so_far.1
places_from p b (Some so_far) (word ∷ words) = places_from p b (then_place so_far (place_in p b word)) words

-- places parted by commas (the code of a comma is 44), at least one
abbrev pub places_in : Program → BodyId → List ℕ → Option PlaceSet
places_in p b text = places_from p b (Some (0, set.empty)) (parts 44 text)

-- ---- modes, called names, needs

abbrev pub mode_in : List ℕ → Option Mode
mode_in word =
    if bytes_eq word (codes "own") then Some modes.Own
    else (if bytes_eq word (codes "none") then Some modes.None
    else (if bytes_eq word (codes "held") then Some modes.Held
    else (if bytes_eq word (codes "lent") then Some modes.Lent
    else (if bytes_eq word (codes "alias") then Some modes.Alias
    else None))))

-- the number from which on the next name may follow, and the names so far
abbrev pub NamesSoFar : Type 0
NamesSoFar = ℕ × Names

abbrev pub then_name : NamesSoFar → Option ℕ → Option NamesSoFar
then_name (least, names) None = None
then_name (least, names) (Some n) = if nat_le least n then Some (n + 1, set.insert names n) else None

-- the names of the table of names that numbers name, each number larger than those before it
abbrev pub names_from : Program → Option NamesSoFar → List (List ℕ) → Option Names
names_from p None words = None
names_from p (Some so_far) [] = Some so_far.1
names_from p (Some so_far) (word ∷ words) = names_from p (then_name so_far (number_below (length p.names) word)) words

-- numbers parted by commas, or `-` for none
abbrev pub names_in : Program → List ℕ → Option Names
names_in p text = if bytes_eq text (codes "-") then Some set.empty else names_from p (Some (0, set.empty)) (parts 44 text)

-- whether the full set of the origin is needed, and not its first one
abbrev pub need_in : List ℕ → Option Bool
need_in word = if bytes_eq word (codes "full") then Some true else (if bytes_eq word (codes "first") then Some false else None)

-- ---- lines

abbrev pub pair_with : Option ℕ → Option ℕ → Option PlaceSet → Option Mode → Option Names → Option Bool → Option Pair
pair_with (Some node) (Some origin) (Some held) (Some mode) (Some names) (Some full) =
    Some (record { node = node; origin = origin; fact = record { origin = 0; places = held; mode = mode; called = names; full = full } })
pair_with _ _ _ _ _ _ = None

abbrev pub pair_of : Program → BodyId → List (List ℕ) → Option Pair
pair_of p b (node ∷ origin ∷ held ∷ mode ∷ called ∷ need ∷ []) =
    pair_with (number_in node) (number_in origin) (places_in p b held) (mode_in mode) (names_in p called) (need_in need)
pair_of p b _ = None

abbrev pub has_six : List (List ℕ) → Bool
has_six (a ∷ b ∷ c ∷ d ∷ e ∷ f ∷ []) = true
has_six _ = false

-- The pair that a line says: the number of a node, that of an origin, the places, the mode, the called names, and the need. The code
-- of a space is 32.
abbrev pub pair_in : Program → BodyId → List ℕ → Option Pair
pair_in p b line = pair_of p b (parts 32 line)

abbrev pub is_number : ℕ → Option ℕ → Bool
is_number n None = false
is_number n (Some k) = k == n

abbrev pub count_of : ℕ → List (List ℕ) → Option ℕ
count_of number (word ∷ body ∷ count ∷ []) =
    if bytes_eq word (codes "body") && is_number number (number_in body) then number_in count else None
count_of number _ = None

-- how many pairs follow, where the line is that of the body with this number
abbrev pub count_in : ℕ → List ℕ → Option ℕ
count_in number line = count_of number (parts 32 line)

-- the first line, and the last
abbrev pub is_head : List ℕ → Bool
is_head line = bytes_eq line (codes "rlc-cert 1")

abbrev pub is_end : List ℕ → Bool
is_end line = bytes_eq line (codes "end")
