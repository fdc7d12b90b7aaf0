-- Characters at the front of a text, and texts by their first bytes.
use Rattle.std.proofs.Common.{◌≡◌, ℕ, ◌+◌, ◌<◌, ◌≤◌, Bool, true, false, List, [], ◌∷◌, ◌++◌, length, take, drop, refl, sym, ap, ◌∙◌, subst, arith}
use Rattle.std.specs.Prelude.{min, slice_index, Option, Some, None, MatchOption}
use Rattle.std.specs.List.{list_all}
use Rattle.std.specs.Char.{IsScalar, encode_utf8, len_utf8}
use Rattle.std.specs.Str.{IsUtf8, StartsWithNoChar, all_scalars, encode_utf8_all}
use Rattle.std.proofs.Math.Utf8.{scalar}
use Rattle.std.proofs.lemmas.List.{length-append, take-take, take_at, drop_at, take-append-drop, append_assoc, append-nil}
use Rattle.std.proofs.lemmas.List.Folds.{list_all-append}
use Rattle.std.proofs.lemmas.Bool.{and_parts, and_from, both_ways}
use Rattle.std.proofs.Math.Seq.{take-add}
use Rattle.std.proofs.lemmas.Str.{length-encode, len_utf8_bounds, IsUtf8-encode, encode_same, encodes-append}
use Rattle.java_lexer.specs.Characters.{BeginsWith, IsRun}

-- where none of the first four bytes' fronts is UTF-8, no character stands
pub no_character : (text : List ℕ) → ((m : ℕ) → 0 < m → IsUtf8 (take m (take (min (length text) 4) text)) → ⊥) → StartsWithNoChar text
no_character text none c rest scalar e =
    let width : length (encode_utf8 c) ≡ len_utf8 c = length-encode c in
    let size : length text ≡ len_utf8 c + length rest = ap length e ∙ length-append (encode_utf8 c) rest ∙ ap (λ n. n + length rest) width in
    let bounds : (1 ≤ len_utf8 c) × (len_utf8 c ≤ 4) = len_utf8_bounds c in
    let inside : len_utf8 c ≤ min (length text) 4 = omega arith in
    let front : take (len_utf8 c) (take (min (length text) 4) text) ≡ encode_utf8 c =
    take-take (len_utf8 c) (min (length text) 4) text inside ∙ ap (take (len_utf8 c)) e ∙ take_at (encode_utf8 c) rest (len_utf8 c) width in
    none (len_utf8 c) bounds.0 (subst (λ bs. IsUtf8 bs) (sym front) (IsUtf8-encode c scalar))

-- the text of no bytes has no character
pub nothing_stands : (text : List ℕ) → length text ≡ 0 → StartsWithNoChar text
nothing_stands text empty c rest scalar e =
    let size : length text ≡ length (encode_utf8 c) + length rest = ap length e ∙ length-append (encode_utf8 c) rest in
    let width : length (encode_utf8 c) ≡ len_utf8 c = length-encode c in
    let bounds : (1 ≤ len_utf8 c) × (len_utf8 c ≤ 4) = len_utf8_bounds c in
    absurd (omega arith)

-- the first character of a front is that of the text
pub first_character : (text front rest : List ℕ) (c : ℕ) → front ≡ take (length front) text → front ≡ encode_utf8 c ++ rest
    → (len_utf8 c ≤ length text) × (text ≡ encode_utf8 c ++ drop (len_utf8 c) text)
first_character text front rest c e spelled =
    let whole : text ≡ encode_utf8 c ++ (rest ++ drop (length front) text) =
    sym (take-append-drop (length front) text) ∙ ap (λ xs. xs ++ drop (length front) text) (sym e ∙ spelled) ∙ append_assoc (encode_utf8 c) rest (drop (length front) text) in
    let width : length (encode_utf8 c) ≡ len_utf8 c = length-encode c in
    let size : length text ≡ length (encode_utf8 c) + length (rest ++ drop (length front) text) = ap length whole ∙ length-append (encode_utf8 c) (rest ++ drop (length front) text) in
    let behind : drop (len_utf8 c) text ≡ rest ++ drop (length front) text = ap (drop (len_utf8 c)) whole ∙ drop_at (encode_utf8 c) (rest ++ drop (length front) text) (len_utf8 c) width in
    (omega arith, whole ∙ ap (λ xs. encode_utf8 c ++ xs) (sym behind))

-- a text by its first byte, and by its first two
pub by_first : (text : List ℕ) (a : ℕ) → slice_index text 0 ≡ a → 0 < length text → text ≡ a ∷ drop 1 text
by_first [] a e l = absurd (omega arith)
by_first (x ∷ xs) a e l = ap (λ n. n ∷ xs) e

pub by_two : (text : List ℕ) (a b : ℕ) → slice_index text 0 ≡ a → slice_index text 1 ≡ b → 0 < length text → 0 < b → text ≡ a ∷ b ∷ drop 2 text
by_two [] a b e f l p = absurd (omega arith)
by_two (x ∷ []) a b e f l p = absurd (omega arith)
by_two (x ∷ y ∷ xs) a b e f l p = ap (λ n. n ∷ y ∷ xs) e ∙ ap (λ n. a ∷ n ∷ xs) f

-- the characters of a front that is UTF-8 are characters, and what `next` of `chars` answers is the text's first
pub character_is : (P : Type 0) (text front bs rest : List ℕ) (r : Option ℕ) → front ≡ take (length front) text → IsUtf8 front → bs ≡ front → (length front ≡ 0 → StartsWithNoChar text)
    → MatchOption r ((length bs ≡ 0) × P) (λ c. bs ≡ encode_utf8 c ++ rest)
    → MatchOption r (StartsWithNoChar text) (λ c. IsScalar c × (len_utf8 c ≤ length text) × (text ≡ encode_utf8 c ++ drop (len_utf8 c) text))
character_is P text front bs rest None e utf8 same none steps = none (ap length (sym same) ∙ steps.0)
character_is P text front bs rest (Some c) e utf8 same none steps =
    let spelled : front ≡ encode_utf8 c ++ rest = sym same ∙ steps in
    let stands : (len_utf8 c ≤ length text) × (text ≡ encode_utf8 c ++ drop (len_utf8 c) text) = first_character text front rest c e spelled in
    (scalar_at utf8.0 c rest utf8.1.0 (utf8.1.1 ∙ spelled), stands.0, stands.1)
  where
    scalar_at : (cs : List ℕ) (c : ℕ) (rest : List ℕ) → all_scalars cs ≡ true → encode_utf8_all cs ≡ encode_utf8 c ++ rest → IsScalar c
    scalar_at [] c rest all spelled =
        let size : 0 ≡ length (encode_utf8 c) + length rest = ap length spelled ∙ length-append (encode_utf8 c) rest in
        let width : length (encode_utf8 c) ≡ len_utf8 c = length-encode c in
        let bounds : (1 ≤ len_utf8 c) × (len_utf8 c ≤ 4) = len_utf8_bounds c in
        absurd (omega arith)
    scalar_at (d ∷ ds) c rest all spelled = subst (λ x. IsScalar x) (encode_same d c (encode_utf8_all ds) rest spelled).0 (and_parts (scalar d) (all_scalars ds) all).0

scalars_append : (cs ds : List ℕ) → all_scalars cs ≡ true → all_scalars ds ≡ true → all_scalars (cs ++ ds) ≡ true
scalars_append [] ds e f = f
scalars_append (c ∷ cs) ds e f =
    let parts = and_parts (scalar c) (all_scalars cs) e in
    and_from (scalar c) (all_scalars (cs ++ ds)) parts.0 (scalars_append cs ds parts.1 f)

-- one more character behind a run
pub run_more : (test : ℕ → Bool) (text : List ℕ) (n c : ℕ) → IsRun test (take n text) → IsScalar c → test c ≡ true
    → drop n text ≡ encode_utf8 c ++ drop (len_utf8 c) (drop n text) → IsRun test (take (n + len_utf8 c) text)
run_more test text n c run is passes stands =
    let front : take (len_utf8 c) (drop n text) ≡ encode_utf8 c =
    ap (take (len_utf8 c)) stands ∙ take_at (encode_utf8 c) (drop (len_utf8 c) (drop n text)) (len_utf8 c) (length-encode c) in
    record {
      characters = run.characters ++ c ∷ [];
      scalars = scalars_append run.characters (c ∷ []) run.scalars (and_from (scalar c) true is refl);
      pass = list_all-append test run.characters (c ∷ []) ∙ and_from (list_all test run.characters) (list_all test (c ∷ [])) run.pass (and_from (test c) true passes refl);
      spelled = take-add n (len_utf8 c) text ∙ ap (λ xs. xs ++ take (len_utf8 c) (drop n text)) run.spelled ∙ ap (λ xs. encode_utf8_all run.characters ++ xs) (front ∙ sym (append-nil (encode_utf8 c)))
          ∙ sym (encodes-append run.characters (c ∷ []));
    }

-- only one character stands at the front
pub other_character : (test : ℕ → Bool) (text rest : List ℕ) (c : ℕ) → test c ≡ false → text ≡ encode_utf8 c ++ rest → BeginsWith test text → ⊥
other_character test text rest c fails spelled begins =
    both_ways (test c) fails (ap test (encode_same c begins.first rest begins.rest (sym spelled ∙ begins.spelled)).0 ∙ begins.passes)
