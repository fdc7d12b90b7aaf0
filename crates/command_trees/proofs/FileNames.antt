-- Each file but the core stub is that of a word, and the word is its name.
use Rattle.std.proofs.Common.{◌≡◌, ◌∙◌, ap, refl, arith, ℕ, zero, suc, ◌+◌, Bool, true, false, cond, Some, List, [], ◌∷◌, ◌++◌, filter, length, slice_get}
use Rattle.std.proofs.lemmas.Option.{same_Some}
use Rattle.file_numbers.specs.Numbering.{is_of_kind, numbered_files}
use Rattle.command_trees.specs.Inputs.{IsFileOfWord, file_names, source_files, stub_files}

-- ---- places in joined lists

at_left : {X : Type 0} (xs ys : List X) (k : ℕ) (x : X) → slice_get xs k ≡ Some x → slice_get (xs ++ ys) k ≡ Some x
at_left [] ys k x is = absurd (let no = is in cc)
at_left (y ∷ xs) ys zero x is = is
at_left (y ∷ xs) ys (suc k) x is = at_left xs ys k x is

at_right : {X : Type 0} (xs ys : List X) (k n : ℕ) (x : X) → n ≡ length xs + k → slice_get ys k ≡ Some x → slice_get (xs ++ ys) n ≡ Some x
at_right [] ys k n x at is = let same : n ≡ k = omega (arith, at) in ap (slice_get ys) same ∙ is
at_right (y ∷ xs) ys k zero x at is = absurd (omega (arith, at))
at_right (y ∷ xs) ys k (suc n) x at is = at_right xs ys k n x (omega (arith, at)) is

-- ---- the files of a kind

record Found (stubs : Bool) (first : ℕ) (words texts : List (List ℕ)) (k n : ℕ) (bytes : List ℕ) : Type 0 where
  place : ℕ
  word : List ℕ
  number : n ≡ first + k
  word_is : slice_get words place ≡ Some word
  text_is : slice_get texts place ≡ Some bytes
  kind_is : slice_get (filter (is_of_kind stubs) words) k ≡ Some word

found_by : (b stubs : Bool) (first : ℕ) (w t : List ℕ) (ws ts : List (List ℕ)) (k n : ℕ) (bytes : List ℕ) → is_of_kind stubs w ≡ b
    → ((j m : ℕ) → slice_get (numbered_files stubs (first + 1) ws ts) j ≡ Some (m, bytes) → Found stubs (first + 1) ws ts j m bytes)
    → ((j m : ℕ) → slice_get (numbered_files stubs first ws ts) j ≡ Some (m, bytes) → Found stubs first ws ts j m bytes)
    → slice_get (cond b ((first, t) ∷ numbered_files stubs (first + 1) ws ts) (numbered_files stubs first ws ts)) k ≡ Some (n, bytes) → Found stubs first (w ∷ ws) (t ∷ ts) k n bytes
found_by true stubs first w t ws ts zero n bytes kind later rest is =
    let pair : (first, t) ≡ (n, bytes) = same_Some (first, t) (n, bytes) is in
    let here : first ≡ n = ap (λ (x : ℕ × List ℕ). x.0) pair in
    record {
      place = 0;
      word = w;
      number = omega (arith, here);
      word_is = refl;
      text_is = ap (λ (x : ℕ × List ℕ). Some x.1) pair;
      kind_is = ap (λ c. slice_get (cond c (w ∷ filter (is_of_kind stubs) ws) (filter (is_of_kind stubs) ws)) 0) kind;
    }
found_by true stubs first w t ws ts (suc k) n bytes kind later rest is =
    let f = later k n is in
    record {
      place = suc f.place;
      word = f.word;
      number = omega (arith, f.number);
      word_is = f.word_is;
      text_is = f.text_is;
      kind_is = ap (λ c. slice_get (cond c (w ∷ filter (is_of_kind stubs) ws) (filter (is_of_kind stubs) ws)) (suc k)) kind ∙ f.kind_is;
    }
found_by false stubs first w t ws ts k n bytes kind later rest is =
    let f = rest k n is in
    record {
      place = suc f.place;
      word = f.word;
      number = f.number;
      word_is = f.word_is;
      text_is = f.text_is;
      kind_is = ap (λ c. slice_get (cond c (w ∷ filter (is_of_kind stubs) ws) (filter (is_of_kind stubs) ws)) k) kind ∙ f.kind_is;
    }

found : (stubs : Bool) (first : ℕ) (words texts : List (List ℕ)) (k n : ℕ) (bytes : List ℕ) → slice_get (numbered_files stubs first words texts) k ≡ Some (n, bytes) → Found stubs first words texts k n bytes
found stubs first [] texts k n bytes is = absurd (let no = is in cc)
found stubs first (w ∷ ws) [] k n bytes is = absurd (let no = is in cc)
found stubs first (w ∷ ws) (t ∷ ts) k n bytes is =
    found_by (is_of_kind stubs w) stubs first w t ws ts k n bytes refl (λ j m at. found stubs (first + 1) ws ts j m bytes at) (λ j m at. found stubs first ws ts j m bytes at) is

long_by : (b : Bool) (x : ℕ × List ℕ) (more rest : List (ℕ × List ℕ)) (w : List ℕ) (kind : List (List ℕ)) → length more ≡ length kind → length rest ≡ length kind → length (cond b (x ∷ more) rest) ≡ length (cond b (w ∷ kind) kind)
long_by true x more rest w kind first second = ap suc first
long_by false x more rest w kind first second = second

length-kind : (stubs : Bool) (first : ℕ) (words texts : List (List ℕ)) → length words ≡ length texts → length (numbered_files stubs first words texts) ≡ length (filter (is_of_kind stubs) words)
length-kind stubs first [] texts same = refl
length-kind stubs first (w ∷ ws) [] same = absurd (omega (arith, same))
length-kind stubs first (w ∷ ws) (t ∷ ts) same =
    let rest : length ws ≡ length ts = omega (arith, same) in
    long_by (is_of_kind stubs w) (first, t) (numbered_files stubs (first + 1) ws ts) (numbered_files stubs first ws ts) w (filter (is_of_kind stubs) ws) (length-kind stubs (first + 1) ws ts rest) (length-kind stubs first ws ts rest)

-- ---- all files

pub stub_named : (words texts : List (List ℕ)) (k n : ℕ) (bytes : List ℕ) → slice_get (numbered_files true 1 words texts) k ≡ Some (n, bytes) → IsFileOfWord words texts n bytes
stub_named words texts k n bytes is =
    let f = found true 1 words texts k n bytes is in
    let at : n ≡ suc k = omega (arith, f.number) in
    record {
      place = f.place;
      word = f.word;
      word_is = f.word_is;
      text_is = f.text_is;
      name_is = ap (slice_get (file_names words)) at ∙ at_left (filter (is_of_kind true) words) (filter (is_of_kind false) words) k f.word f.kind_is;
    }

pub source_named : (words texts : List (List ℕ)) (k n : ℕ) (bytes : List ℕ) → length words ≡ length texts → slice_get (source_files words texts) k ≡ Some (n, bytes) → IsFileOfWord words texts n bytes
source_named words texts k n bytes same is =
    let first = length (stub_files words texts) in
    let f = found false first words texts k n bytes is in
    let long = length-kind true 1 words texts same in
    let rest = at_right (filter (is_of_kind true) words) (filter (is_of_kind false) words) k (length (numbered_files true 1 words texts) + k) f.word (omega (arith, long)) f.kind_is in
    let at : n ≡ suc (length (numbered_files true 1 words texts) + k) = omega (arith, f.number) in
    record {
      place = f.place;
      word = f.word;
      word_is = f.word_is;
      text_is = f.text_is;
      name_is = ap (slice_get (file_names words)) at ∙ rest;
    }
