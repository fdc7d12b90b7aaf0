-- One file more of a list of files.
use Rattle.std.proofs.Common.{◌≡◌, ◌<◌, ◌≤◌, ◌+◌, ◌++◌, ◌∷◌, [], ◌∙◌, ap, sym, arith, ℕ, zero, suc, List, length, map, take, drop, get_or, Option, None, Some, Err}
use Rattle.std.proofs.lemmas.List.{map_more}
use Rattle.outside.specs.Counts.{RoseBy}
use Rattle.outside.specs.Files.{Contents, max_file}
use Rattle.source_files.specs.Reading.{AreContents, Counts, HasAll, HasNamed, IsContent, IsOneReading, IsReading, IsTooBig, Reaches, max_text, total_of}
use Rattle.source_files.specs.declared.stops.ReadingStop.{ReadingStop}
use Rattle.source_files.specs.declared.stops.ReadingStop.TheVariants.{Failed, TooBig, TooMuch, NoMemory}

contents_push : (told : Option Contents) (names texts : List (List ℕ)) (name text : List ℕ) → AreContents told names texts → IsContent told name text → length text ≤ max_file → AreContents told (names ++ name ∷ []) (texts ++ text ∷ [])
contents_push told [] [] name text read content fits = (content, fits, tt)
contents_push told [] (t ∷ ts) name text read content fits = absurd read
contents_push told (n ∷ ns) [] name text read content fits = absurd read
contents_push told (n ∷ ns) (t ∷ ts) name text (first, small, rest) content fits = (first, small, contents_push told ns ts name text rest content fits)

pub contents_more : {X : Type 0} (told : Option Contents) (f : X → List ℕ) (xs : List X) (i : ℕ) (x : X) (texts : List (List ℕ)) (text : List ℕ) → i < length xs → x ≡ get_or xs i x
    → AreContents told (map f (take i xs)) texts → IsContent told (f x) text → length text ≤ max_file → AreContents told (map f (take (i + 1) xs)) (texts ++ text ∷ [])
contents_more told f xs i x texts text inside at read content fits =
    let more : map f (take (i + 1) xs) ≡ map f (take i xs) ++ f x ∷ [] = map_more f xs i x inside ∙ ap (λ y. map f (take i xs) ++ f y ∷ []) (sym at) in
    rw more (contents_push told (map f (take i xs)) texts (f x) text read content fits)

pub total_push : (texts : List (List ℕ)) (text : List ℕ) → total_of (texts ++ text ∷ []) ≡ total_of texts + length text
total_push [] text = omega arith
total_push (t ∷ ts) text = let rest = total_push ts text in omega (arith, rest)

split_at : {X : Type 0} (f : X → List ℕ) (xs : List X) (i : ℕ) (x : X) → i < length xs → x ≡ get_or xs i x → map f xs ≡ map f (take i xs) ++ f x ∷ map f (drop (suc i) xs)
split_at f [] i x inside at = absurd (omega (arith, inside))
split_at f (y ∷ ys) zero x inside at = ap (λ z. f z ∷ map f ys) (sym at)
split_at f (y ∷ ys) (suc i) x inside at = ap (λ zs. f y ∷ zs) (split_at f ys i x (omega (arith, inside)) at)

-- all files are there, so this one is
pub here : {X : Type 0} (told : Option Contents) (f : X → List ℕ) (xs : List X) (i : ℕ) (x : X) → i < length xs → x ≡ get_or xs i x → HasAll told (map f xs) → HasNamed told (f x)
here None f xs i x inside at all = absurd all
here (Some files) f [] i x inside at all = absurd (omega (arith, inside))
here (Some files) f (y ∷ ys) zero x inside at (first, rest) = rw at first
here (Some files) f (y ∷ ys) (suc i) x inside at (first, rest) = here (Some files) f ys i x (omega (arith, inside)) at rest

past_from : (n a b c : ℕ) → a ≤ b → RoseBy n b c → RoseBy n a c
past_from n a b c below (rose, raised, last) = (omega (arith, below, rose), omega (arith, below, raised), last)

too_big : (told : Option Contents) (name : List ℕ) (c one : Counts) → c.taken ≤ one.taken → one.taken_now ≡ c.taken_now → IsTooBig told name one → IsTooBig told name c
too_big None name c one below same past = past_from (max_file + 1) c.taken one.taken c.taken_now below (rw (sym same) past)
too_big (Some files) name c one below same past = past

pub record IsNext {X : Type 0} (told : Option Contents) (held : ℕ) (f : X → List ℕ) (xs : List X) (i : ℕ) (x : X) (texts : List (List ℕ)) : Type 0 where
  pub inside : i < length xs
  pub at : x ≡ get_or xs i x
  pub read : AreContents told (map f (take i xs)) texts
  pub few : held + total_of texts ≤ max_text

reached : {X : Type 0} (told : Option Contents) (held : ℕ) (f : X → List ℕ) (xs : List X) (i : ℕ) (x : X) (texts : List (List ℕ)) (n : ℕ) → n ≡ length texts → IsNext told held f xs i x texts → Reaches told held (map f xs) n (f x) texts
reached told held f xs i x texts n is h = record {
  before = map f (take i xs);
  behind = map f (drop (suc i) xs);
  split = split_at f xs i x h.inside h.at;
  count = sym is;
  read = h.read;
  few = h.few;
}

-- Where reading the next file stopped, reading all of them did.
pub stopped : {X : Type 0} (A : Type 0) (told now : Option Contents) (held : ℕ) (f : X → List ℕ) (xs : List X) (i : ℕ) (x : X) (name : List ℕ) (texts : List (List ℕ)) (at total : ℕ) (c one : Counts) (stop : ReadingStop)
    → now ≡ told → name ≡ f x → at ≡ length texts → total ≡ held + total_of texts → one.faults ≡ c.faults → one.faults_now ≡ c.faults_now → c.taken ≤ one.taken → one.taken_now ≡ c.taken_now → IsNext told held f xs i x texts
    → IsOneReading now name at total one (Err stop) → IsReading {A = A} told held (map f xs) c (Err stop)
stopped A told now held f xs i x name texts at total c one (Failed n) same named place sum before after below taken h (is, rose) =
    (f x, texts, reached told held f xs i x texts n (is ∙ place) h, rw (sym before) (rw (sym after) rose))
stopped A told now held f xs i x name texts at total c one (TooBig n) same named place sum before after below taken h (is, past, none) =
    (f x, texts, reached told held f xs i x texts n (is ∙ place) h, too_big told (f x) c one below taken (rw (sym named) (rw (sym same) past)), sym after ∙ none ∙ before)
stopped A told now held f xs i x name texts at total c one (TooMuch n) same named place sum before after below taken h (is, (bytes, content, fits, past), none) =
    (f x, texts, reached told held f xs i x texts n (is ∙ place) h, record { bytes = bytes; content = rw (sym named) (rw (sym same) content); fits = fits; past = rw (sym sum) past }, sym after ∙ none ∙ before)
stopped A told now held f xs i x name texts at total c one NoMemory same named place sum before after below taken h none = sym after ∙ none ∙ before
