-- Words of a list: what holds of all of them, and the longest that begins a text.
use Rattle.std.proofs.Common.{◌≡◌, ℕ, ◌<◌, ◌≤◌, Bool, true, false, List, [], ◌∷◌, length, take, refl, sym, ap, ◌∙◌, subst, arith, inl, inr}
use Rattle.std.specs.Prelude.{max, nat_eq, if◌then◌else◌}
use Rattle.std.specs.List.{list_all, starts_with}
use Rattle.std.specs.Str.{bytes_eq}
use Rattle.std.proofs.lemmas.Bool.{and_parts, or_cases, or_left, or_right, false≢true, eqb-true, cases_lt}
use Rattle.std.proofs.lemmas.List.{length-take, length-take-le}
use Rattle.java_lexer.specs.Words.{is_listed, longest_listed}

pub same_bytes : (xs ys : List ℕ) → bytes_eq xs ys ≡ true → xs ≡ ys
same_bytes [] [] e = refl
same_bytes [] (y ∷ ys) e = absurd (false≢true e)
same_bytes (x ∷ xs) [] e = absurd (false≢true e)
same_bytes (x ∷ xs) (y ∷ ys) e =
    let parts = and_parts (nat_eq x y) (bytes_eq xs ys) e in
    ap (λ n. n ∷ xs) (eqb-true x y parts.0) ∙ ap (λ zs. y ∷ zs) (same_bytes xs ys parts.1)

-- what all words of a list pass, a listed word passes
pub listed_passes : (test : List ℕ → Bool) (words : List (List ℕ)) (word : List ℕ) → list_all test words ≡ true → is_listed words word ≡ true → test word ≡ true
listed_passes test [] word all is = absurd (false≢true is)
listed_passes test (x ∷ words) word all is =
    let parts = and_parts (test x) (list_all test words) all in
    elim (or_cases (bytes_eq x word) (is_listed words word) is) [
      | inl e ↦ subst (λ w. test w ≡ true) (same_bytes x word e) parts.0
      | inr e ↦ listed_passes test words word parts.1 e
    ]

-- a listed word that begins the text is no longer than the longest
pub longest_at_least : (words : List (List ℕ)) (text : List ℕ) (m : ℕ) → m ≤ length text → is_listed words (take m text) ≡ true → m ≤ longest_listed words text
longest_at_least [] text m inside is = absurd (false≢true is)
longest_at_least (word ∷ words) text m inside is =
    elim (or_cases (bytes_eq word (take m text)) (is_listed words (take m text)) is) [
      | inl e ↦
          let size : length word ≡ m = ap length (same_bytes word (take m text) e) ∙ length-take-le m text inside in
          let begins : starts_with nat_eq text word ≡ true = subst (λ n. bytes_eq word (take n text) ≡ true) (sym size) e in
          let first : (if starts_with nat_eq text word then length word else 0) ≡ length word = ap (λ t. if t then length word else 0) begins in
          omega arith
      | inr e ↦
          let rest : m ≤ longest_listed words text = longest_at_least words text m inside e in
          omega arith
    ]

-- the longest listed word that begins the text is one that does
pub record IsListedFront (words : List (List ℕ)) (text : List ℕ) (n : ℕ) : Type 0 where
  pub fits : n ≤ length text
  pub listed : is_listed words (take n text) ≡ true

front_word : (word text : List ℕ) → starts_with nat_eq text word ≡ true → length word ≤ length text
front_word word text begins =
    let size : length word ≡ length (take (length word) text) = ap length (same_bytes word (take (length word) text) begins) in
    omega (arith, length-take (length word) text)

longest_of_two : (words : List (List ℕ)) (word text : List ℕ) (t : Bool) → starts_with nat_eq text word ≡ t
    → (0 < longest_listed words text → IsListedFront words text (longest_listed words text))
    → 0 < max (if t then length word else 0) (longest_listed words text) → IsListedFront (word ∷ words) text (max (if t then length word else 0) (longest_listed words text))
longest_of_two words word text false begins rest more =
    let same : max 0 (longest_listed words text) ≡ longest_listed words text = omega arith in
    let one = rest (omega arith) in
    subst (λ n. IsListedFront (word ∷ words) text n) (sym same) (record { fits = one.fits; listed = or_right (bytes_eq word (take (longest_listed words text) text)) _ one.listed })
longest_of_two words word text true begins rest more = elim (cases_lt (length word) (longest_listed words text)) [
  | inl shorter ↦
      let same : max (length word) (longest_listed words text) ≡ longest_listed words text = omega arith in
      let one = rest (omega arith) in
      subst (λ n. IsListedFront (word ∷ words) text n) (sym same) (record { fits = one.fits; listed = or_right (bytes_eq word (take (longest_listed words text) text)) _ one.listed })
  | inr longer ↦
      let same : max (length word) (longest_listed words text) ≡ length word = omega arith in
      subst (λ n. IsListedFront (word ∷ words) text n) (sym same)
      (record { fits = front_word word text begins; listed = or_left (bytes_eq word (take (length word) text)) (is_listed words (take (length word) text)) begins })
]

pub longest_is_listed : (words : List (List ℕ)) (text : List ℕ) → 0 < longest_listed words text → IsListedFront words text (longest_listed words text)
longest_is_listed [] text more = absurd (omega arith)
longest_is_listed (word ∷ words) text more = longest_of_two words word text (starts_with nat_eq text word) refl (longest_is_listed words text) more
