-- The place at which reading stopped.
use Rattle.std.proofs.Common.{◌≡◌, ◌<◌, ◌++◌, ◌∷◌, ◌∙◌, [], ap, sym, subst, refl, arith, ℕ, zero, suc, List, length, map, get_or, Option, Some, Err}
use Rattle.std.specs.Prelude.{slice_get}
use Rattle.std.specs.declared.alloc.Global.{Global}
use Rattle.std.proofs.lemmas.Option.{slice_get_within}
use Rattle.outside.specs.Files.{Contents}
use Rattle.source_files.specs.Reading.{AreContents, Counts, IsReading, Reaches}
use Rattle.source_files.specs.declared.stops.ReadingStop.{ReadingStop}
use Rattle.source_files.specs.declared.stops.ReadingStop.TheVariants as stops
use Rattle.input_files.specs.Inputs.{IsInside}

-- the text of an element
pub slice_get_map : {X Y : Type 0} (f : X → Y) (xs : List X) (i : ℕ) (x : X) → i < length xs → x ≡ get_or xs i x → slice_get (map f xs) i ≡ Some (f x)
slice_get_map f [] i x inside at = absurd (omega (arith, inside))
slice_get_map f (y ∷ ys) zero x inside at = ap (λ z. Some (f z)) (sym at)
slice_get_map f (y ∷ ys) (suc i) x inside at =
    let within : i < length ys = omega (arith, inside) in
    slice_get_map f ys i x within at

as_many : (told : Option Contents) (names texts : List (List ℕ)) → AreContents told names texts → length names ≡ length texts
as_many told [] [] read = refl
as_many told [] (text ∷ texts) read = absurd read
as_many told (name ∷ names) [] read = absurd read
as_many told (name ∷ names) (text ∷ texts) (content, fits, rest) = ap (λ n. suc n) (as_many told names texts rest)

get_behind : (before : List (List ℕ)) (name : List ℕ) (behind : List (List ℕ)) → slice_get (before ++ name ∷ behind) (length before) ≡ Some name
get_behind [] name behind = refl
get_behind (first ∷ before) name behind = get_behind before name behind

-- the place is one of the names'
reached_inside : (told : Option Contents) (held : ℕ) (names : List (List ℕ)) (at : ℕ) (name : List ℕ) (texts : List (List ℕ)) → Reaches told held names at name texts → at < length names
reached_inside told held names at name texts r =
    let here : length r.before ≡ at = as_many told r.before texts r.read ∙ r.count in
    let found : slice_get (r.before ++ name ∷ r.behind) at ≡ Some name =
    subst (λ (n : ℕ). slice_get (r.before ++ name ∷ r.behind) n ≡ Some name) here (get_behind r.before name r.behind) in
    slice_get_within names at name (subst (λ (all : List (List ℕ)). slice_get all at ≡ Some name) (sym r.split) found)

pub stopped_inside : (told : Option Contents) (held : ℕ) (names : List (List ℕ)) (c : Counts) (stop : ReadingStop) → IsReading {A = Global} told held names c (Err stop) → IsInside (length names) stop
stopped_inside told held names c (stops.Failed at) (name, texts, reached, rose) = reached_inside told held names at name texts reached
stopped_inside told held names c (stops.TooBig at) (name, texts, reached, past, none) = reached_inside told held names at name texts reached
stopped_inside told held names c (stops.TooMuch at) (name, texts, reached, past, none) = reached_inside told held names at name texts reached
stopped_inside told held names c stops.NoMemory none = tt
