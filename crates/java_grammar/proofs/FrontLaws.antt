-- There is one closed front at most, and it ends where the tokens are wrong.
use Rattle.std.specs.Prelude.{◌≡◌, ℕ, ◌<◌, ◌≤◌, Bool, List, [], ◌∷◌, ◌++◌, length, map, ◌⊎◌}
use Rattle.std.proofs.Common.{refl, sym, ◌∙◌, ap, subst, arith, append_assoc, append-nil, take, drop}
use Rattle.std.proofs.lemmas.List.{take-append-drop, length-take-le, map-append, length-map, length-append}
use Rattle.java_syntax.specs.declared.symbols.Symbol.{Symbol}
use Rattle.java_syntax.specs.declared.tokens.Token.{Token}
use Rattle.java_syntax.specs.Derives.{Lexeme, lexeme_of, first_word, Step}
use Rattle.java_grammar.specs.Reached.{lexemes_of}
use Rattle.java_grammar.specs.Refusal.{IsDerivation, IsWrongAt, IsRefusal}
use Rattle.java_grammar.specs.declared.machine.DeriveFail.{DeriveFail}
use Rattle.java_grammar.specs.declared.machine.DeriveFail.TheVariants as fails
use Rattle.java_grammar.specs.Fronts.{IsClosedFront}
use Rattle.java_grammar.proofs.Laws.{cons_same}
use Rattle.java_grammar.proofs.Runs.{the_only}

-- one list cut twice: the longer part has the next of what is behind the shorter
pub record Between (xs ys us : List Lexeme) : Type 0 where
  pub next : Lexeme
  pub middle : List Lexeme
  pub behind : List Lexeme
  pub longer : us ≡ xs ++ next ∷ middle
  pub rest : ys ≡ next ∷ behind

between : (xs ys us vs : List Lexeme) → xs ++ ys ≡ us ++ vs → length xs < length us → Between xs ys us
between [] ys [] vs h l = let e : ⊥ = omega (arith, l) in absurd e
between [] ys (u ∷ us) vs h l = record { next = u; middle = us; behind = us ++ vs; longer = refl; rest = h }
between (x ∷ xs) ys [] vs h l = let e : ⊥ = omega (arith, l) in absurd e
between (x ∷ xs) ys (u ∷ us) vs h l =
    let p = cons_same x (xs ++ ys) u (us ++ vs) h in
    let b = between xs ys us vs p.1 (omega (arith, l)) in
    record { next = b.next; middle = b.middle; behind = b.behind; longer = ap (λ y. u ∷ y) b.longer ∙ ap (λ y. y ∷ (xs ++ b.next ∷ b.middle)) (sym p.0); rest = b.rest }

same_part : (xs ys us vs : List Lexeme) → xs ++ ys ≡ us ++ vs → length xs ≡ length us → xs ≡ us
same_part [] ys [] vs h l = refl
same_part [] ys (u ∷ us) vs h l = let e : ⊥ = omega (arith, l) in absurd e
same_part (x ∷ xs) ys [] vs h l = let e : ⊥ = omega (arith, l) in absurd e
same_part (x ∷ xs) ys (u ∷ us) vs h l =
    let p = cons_same x (xs ++ ys) u (us ++ vs) h in
    let r = same_part xs ys us vs p.1 (omega (arith, l)) in
    ap (λ y. y ∷ xs) p.0 ∙ ap (λ y. u ∷ y) r

below_or_same : (m n : ℕ) → (m < n → ⊥) → (n < m → ⊥) → m ≡ n
below_or_same m n f g = go (order m n)
  where
    order : (m n : ℕ) → (m < n) ⊎ (n < m) ⊎ (m ≡ n)
    order m n = grind arith

    go : (m < n) ⊎ (n < m) ⊎ (m ≡ n) → m ≡ n
    go h = grind (arith, h, f, g)

module _ (stub : Bool) (start : Symbol) (tokens : List Lexeme) where
  -- a closed front is no shorter than what some sentence begins with
  no_shorter : (n : ℕ) (es : List Step) (us vs ts : List Lexeme) (fs : List Step) → IsClosedFront stub start tokens n es → tokens ≡ us ++ vs → IsDerivation stub start (us ++ ts) fs → n < length us → ⊥
  no_shorter n es us vs ts fs f e d l =
      let b = between f.used f.rest us vs (sym f.parts ∙ e) (omega (arith, l, f.place)) in
      f.closed b.next b.behind (b.middle ++ ts) fs b.rest
      (subst (λ y. IsDerivation stub start y fs) (append_assoc f.used (b.next ∷ b.middle) ts) (subst (λ y. IsDerivation stub start (y ++ ts) fs) b.longer d))

  whole_derives : (us : List Lexeme) (fs : List Step) → IsDerivation stub start us fs → IsDerivation stub start (us ++ []) fs
  whole_derives us fs d = subst (λ y. IsDerivation stub start y fs) (sym (append-nil us)) d

  pub one_front : (n m : ℕ) (es fs : List Step) → IsClosedFront stub start tokens n es → IsClosedFront stub start tokens m fs → (n ≡ m) × (es ≡ fs)
  one_front n m es fs f g =
      let e = below_or_same n m (λ l. no_shorter n es g.used g.rest [] fs f g.parts (whole_derives g.used fs g.derived) (omega (arith, l, g.place)))
      (λ l. no_shorter m fs f.used f.rest [] es g f.parts (whole_derives f.used es f.derived) (omega (arith, l, f.place))) in
      let u = same_part f.used f.rest g.used g.rest (sym f.parts ∙ g.parts) (f.place ∙ e ∙ sym g.place) in
      (e, the_only stub start g.used fs es g.derived (subst (λ y. IsDerivation stub start y es) u f.derived))

  -- where all tokens are a sentence, they are the front
  pub all_front : (es : List Step) → IsDerivation stub start tokens es → IsClosedFront stub start tokens (length tokens) es
  all_front es d = record { used = tokens; rest = []; parts = sym (append-nil tokens); place = refl; derived = d; closed = λ t behind ts fs e k. nil_cons t behind e }
    where
      nil_cons : (t : Lexeme) (ts : List Lexeme) → [] ≡ t ∷ ts → ⊥
      nil_cons t ts h = grind arith

  -- elsewhere it ends where the tokens are wrong
  front_at : (at n : ℕ) (es : List Step) → IsWrongAt stub start tokens at → IsClosedFront stub start tokens n es → n ≡ at
  front_at at n es w f = below_or_same n at
      (λ l. no_shorter n es w.used w.rest w.goes_on.0 w.goes_on.1 f w.parts w.goes_on.2 (omega (arith, l, w.place)))
      (λ l.
      let b = between w.used w.rest f.used f.rest (sym w.parts ∙ f.parts) (omega (arith, l, w.place, f.place)) in
      w.wrong (b.next ∷ b.middle) es (sym (ap first_word b.rest)) (subst (λ y. IsDerivation stub start y es) b.longer f.derived))

  pub wrong_front : (at : ℕ) (es : List Step) (us vs : List Lexeme) → IsWrongAt stub start tokens at → tokens ≡ us ++ vs → length us ≡ at → IsDerivation stub start us es → IsClosedFront stub start tokens at es
  wrong_front at es us vs w e l d =
      let u = same_part us vs w.used w.rest (sym e ∙ w.parts) (l ∙ sym w.place) in
      record {
        used = w.used;
        rest = w.rest;
        parts = w.parts;
        place = w.place;
        derived = subst (λ y. IsDerivation stub start y es) u d;
        closed = λ t behind ts fs h k. w.wrong (t ∷ ts) fs (sym (ap first_word h)) k;
      }

  pub no_front : (at : ℕ) (us vs : List Lexeme) → IsWrongAt stub start tokens at → tokens ≡ us ++ vs → length us ≡ at → ((es : List Step) → IsDerivation stub start us es → ⊥)
      → (n : ℕ) (es : List Step) → IsClosedFront stub start tokens n es → ⊥
  no_front at us vs w e l k n es f =
      let u = same_part f.used f.rest us vs (sym f.parts ∙ e) (f.place ∙ front_at at n es w f ∙ sym l) in
      k es (subst (λ y. IsDerivation stub start y es) u f.derived)

-- tokens that are wrong somewhere are no sentence
pub wrong_is_none : (stub : Bool) (start : Symbol) (tokens : List Lexeme) (at : ℕ) → IsWrongAt stub start tokens at → (es : List Step) → IsDerivation stub start tokens es → ⊥
wrong_is_none stub start tokens at w es d = w.wrong w.rest es refl (subst (λ y. IsDerivation stub start y es) w.parts d)

pub at_most : (stub : Bool) (start : Symbol) (bytes : List ℕ) (tokens : List Token) (at : ℕ) → IsWrongAt stub start (lexemes_of bytes tokens) at → at ≤ length tokens
at_most stub start bytes tokens at w =
    let a = sym (length-map tokens (lexeme_of bytes)) ∙ ap length w.parts ∙ length-append w.used w.rest in
    omega (arith, a, w.place)

pub cut_at : (bytes : List ℕ) (tokens : List Token) (at : ℕ) → lexemes_of bytes tokens ≡ lexemes_of bytes (take at tokens) ++ lexemes_of bytes (drop at tokens)
cut_at bytes tokens at = ap (map (lexeme_of bytes)) (sym (take-append-drop at tokens)) ∙ map-append (lexeme_of bytes) (take at tokens) (drop at tokens)

pub cut_length : (bytes : List ℕ) (tokens : List Token) (at : ℕ) → at ≤ length tokens → length (lexemes_of bytes (take at tokens)) ≡ at
cut_length bytes tokens at l = length-map (take at tokens) (lexeme_of bytes) ∙ length-take-le at tokens l

pub refusal_at : (stub : Bool) (start : Symbol) (tokens : List Lexeme) (fail : DeriveFail) (at : ℕ) → fail ≡ fails.WrongAt at → IsRefusal stub start tokens fail → IsWrongAt stub start tokens at
refusal_at stub start tokens fail at h r = let P : DeriveFail → Type 0 = λ x. IsRefusal stub start tokens x in subst P h r
