-- What holds of each table that passes the tests.
use Rattle.std.specs.Prelude.{◌≡◌, Bool, true, false, not, ◌&&◌, ◌||◌, List, [], ◌∷◌, ◌++◌, Some, is_some, ◌⊎◌}
use Rattle.std.proofs.Common.{refl, sym, ◌∙◌, ap, subst, inl, inr, arith}
use Rattle.java_syntax.specs.declared.words.Word.{Word}
use Rattle.java_syntax.specs.declared.words.Effect.{Effect}
use Rattle.java_syntax.specs.declared.symbols.Symbol.{Symbol}
use Rattle.java_syntax.specs.declared.symbols.Item.{Item}
use Rattle.java_syntax.specs.declared.symbols.Item.TheVariants.{Take, Read, Do}
use Rattle.java_syntax.specs.declared.actions.Action.{Action}
use Rattle.java_syntax.specs.declared.productions.Production.{Production}
use Rattle.java_syntax.specs.Table.{body_of, head_of}
use Rattle.java_syntax.specs.Derives.{Lexeme, Surroundings, after, enters, allowed, first_word, leaves_no_else, Step, Took, Used, Did, Derives, ended, took, used, did}
use Rattle.java_grammar.specs.Choices.{default_production}
use Rattle.java_grammar.specs.Lookahead.{found, candidate}
use Rattle.java_grammar.specs.Reached.{leads, empty, no_word, goes_on, IsFit}
use Rattle.java_grammar.proofs.Bools.{and_parts, or_cases, implied, not_true, or_right}
use Rattle.java_grammar.proofs.Words.{all, words, each_word, same_word}
use Rattle.java_grammar.proofs.ChoiceTests.{chooses_at, default_at}
use Rattle.java_grammar.proofs.FollowTests.{alone_at, parts, parts_well, parts_at}

leads_grows : (xs : List Item) (G : Word → Bool) (w : Word) → leads xs no_word w ≡ true → leads xs G w ≡ true
leads_grows [] G w h = grind arith
leads_grows (Take v e ∷ xs) G w h = h
leads_grows (Do a ∷ xs) G w h = leads_grows xs G w h
leads_grows (Read x ∷ xs) G w h = elim (or_cases (is_some (found x w)) (is_some (default_production x) && leads xs no_word w) h) [
  | inl p ↦ rw p refl
  | inr p ↦ let q = and_parts (is_some (default_production x)) (leads xs no_word w) p in rw (q.0, leads_grows xs G w q.1) (or_right _)
]

leads_ends : (xs : List Item) (G : Word → Bool) (w : Word) → empty xs ≡ true → G w ≡ true → leads xs G w ≡ true
leads_ends [] G w h g = g
leads_ends (Take v e ∷ xs) G w h g = grind arith
leads_ends (Do a ∷ xs) G w h g = leads_ends xs G w h g
leads_ends (Read x ∷ xs) G w h g = let q = and_parts (is_some (default_production x)) (empty xs) h in rw (q.0, leads_ends xs G w q.1 g) (or_right _)

leads_append : (xs ys : List Item) (F : Word → Bool) (w : Word) → leads (xs ++ ys) F w ≡ leads xs (leads ys F) w
leads_append [] ys F w = refl
leads_append (Take v e ∷ xs) ys F w = refl
leads_append (Do a ∷ xs) ys F w = leads_append xs ys F w
leads_append (Read x ∷ xs) ys F w = ap (λ b. is_some (found x w) || (is_some (default_production x) && b)) (leads_append xs ys F w)

empty_append : (xs ys : List Item) → empty (xs ++ ys) ≡ true → (empty xs ≡ true) × (empty ys ≡ true)
empty_append [] ys h = (refl, h)
empty_append (Take v e ∷ xs) ys h = grind arith
empty_append (Do a ∷ xs) ys h = empty_append xs ys h
empty_append (Read x ∷ xs) ys h =
    let p = and_parts (is_some (default_production x)) (empty (xs ++ ys)) h in
    let q = empty_append xs ys p.1 in
    (rw (p.0, q.0) refl, q.1)

leads_cases : (xs : List Item) (F : Word → Bool) (w : Word) → leads xs F w ≡ true → (leads xs no_word w ≡ true) ⊎ ((empty xs ≡ true) × (F w ≡ true))
leads_cases [] F w h = inr (refl, h)
leads_cases (Take v e ∷ xs) F w h = inl h
leads_cases (Do a ∷ xs) F w h = leads_cases xs F w h
leads_cases (Read x ∷ xs) F w h = elim (or_cases (is_some (found x w)) (is_some (default_production x) && leads xs F w) h) [
  | inl p ↦ inl (rw p refl)
  | inr p ↦ let q = and_parts (is_some (default_production x)) (leads xs F w) p in elim (leads_cases xs F w q.1) [
    | inl r ↦ inl (rw (q.0, r) (or_right _))
    | inr r ↦ inr (rw (q.0, r.0) refl, r.1)
  ]
]

leads_more : (xs : List Item) (F G : Word → Bool) (w : Word) → (F w ≡ true → G w ≡ true) → leads xs F w ≡ true → leads xs G w ≡ true
leads_more xs F G w k h = elim (leads_cases xs F w h) [ inl p ↦ leads_grows xs G w p | inr p ↦ leads_ends xs G w p.0 (k p.1) ]

fits : (s : Symbol) (xs is : List Item) → parts_well s xs ≡ true → ((w : Word) → leads is no_word w ≡ true → goes_on s w ≡ false) → IsFit is → IsFit (xs ++ is)
fits s [] is h F k = k
fits s (Take v e ∷ xs) is h F k = fits s xs is h F k
fits s (Do a ∷ xs) is h F k = fits s xs is h F k
fits s (Read x ∷ xs) is h F k =
    let p = and_parts (all (parts s x xs) words) (parts_well s xs) h in (
      (λ w q. not_true (goes_on x w) (implied (leads xs (λ v. not (goes_on s v)) w) (not (goes_on x w)) (each_word (parts s x xs) p.0 w)
          (leads_more xs (leads is no_word) (λ v. not (goes_on s v)) w (λ r. rw (F w r) refl) (sym (leads_append xs is no_word w) ∙ q)))),
      fits s xs is p.1 F k,
    )

pub fits_used : (a : Production) (is : List Item) → IsFit (Read (head_of a) ∷ is) → IsFit (body_of a ++ is)
fits_used a is k = fits (head_of a) (body_of a) is (parts_at a) k.0 k.1

-- The first word of what is derived.
pub first_of : {s : Surroundings} {is : List Item} (t : Lexeme) {ts us : List Lexeme} {es : List Step} → Derives s is us es → us ≡ t ∷ ts → leads is no_word t.word ≡ true
first_of t (ended s) e = grind arith
first_of t (took s w f u q d) e = let p : u ≡ t = grind arith in rw (sym q, p) (same_word t.word)
first_of t (did s b d) e = first_of t d e
first_of t (used s x a {is = is} q g d) e = elim (leads_cases (body_of a) (leads is no_word) t.word (sym (leads_append (body_of a) is no_word t.word) ∙ first_of t d e)) [
  | inl p ↦ rw (sym q, chooses_at a t.word p) refl
  | inr p ↦ rw (sym q, default_at a p.0, p.1) (or_right _)
]

pub none_of : {s : Surroundings} {is : List Item} {ts : List Lexeme} {es : List Step} → Derives s is ts es → ts ≡ [] → empty is ≡ true
none_of (ended s) e = refl
none_of (took s w f u q d) e = grind arith
none_of (did s b d) e = none_of d e
none_of (used s x a {is = is} q g d) e = let p = empty_append (body_of a) is (none_of d e) in rw (sym q, default_at a p.0, p.1) refl

-- The production that is used is the one that the next word chooses.
pub chosen_is : (a : Production) (s : Surroundings) (is : List Item) (ts : List Lexeme) {es : List Step} → IsFit (Read (head_of a) ∷ is) → leaves_no_else a (first_word ts) ≡ true
    → Derives s (body_of a ++ is) ts es → candidate (head_of a) (first_word ts) ≡ Some a
chosen_is a s is [] k g d = default_at a (empty_append (body_of a) is (none_of d refl)).0
chosen_is a s is (t ∷ ts) k g d = elim (leads_cases (body_of a) (leads is no_word) t.word (sym (leads_append (body_of a) is no_word t.word) ∙ first_of t d refl)) [
  | inl p ↦ rw (chooses_at a t.word p) refl
  | inr p ↦ rw (alone_at a t.word p.0 (k.0 t.word p.1) g, default_at a p.0) refl
]

-- What a derivation begins with.
pub record Uses (s : Surroundings) (x : Symbol) (is : List Item) (ts : List Lexeme) (es : List Step) : Type 0 where
  pub by : Production
  pub of : head_of by ≡ x
  pub may : (allowed by s && leaves_no_else by (first_word ts)) ≡ true
  pub behind : List Step
  pub steps : es ≡ Used by ∷ behind
  pub derived : Derives (enters by s) (body_of by ++ is) ts behind

pub uses : {s : Surroundings} {x : Symbol} {is : List Item} {ts : List Lexeme} {es : List Step} → Derives s (Read x ∷ is) ts es → Uses s x is ts es
uses (used s x a {es = es} q g d) = record { by = a; of = q; may = g; behind = es; steps = refl; derived = d }

pub record Does (s : Surroundings) (a : Action) (is : List Item) (ts : List Lexeme) (es : List Step) : Type 0 where
  pub behind : List Step
  pub steps : es ≡ Did a ∷ behind
  pub derived : Derives s is ts behind

pub does : {s : Surroundings} {a : Action} {is : List Item} {ts : List Lexeme} {es : List Step} → Derives s (Do a ∷ is) ts es → Does s a is ts es
does (did s a {es = es} d) = record { behind = es; steps = refl; derived = d }

pub record Takes (s : Surroundings) (w : Word) (e : Effect) (is : List Item) (ts : List Lexeme) (es : List Step) : Type 0 where
  pub token : Lexeme
  pub is_word : token.word ≡ w
  pub rest : List Lexeme
  pub tokens : ts ≡ token ∷ rest
  pub behind : List Step
  pub steps : es ≡ Took token ∷ behind
  pub derived : Derives (after e token s) is rest behind

pub takes : {s : Surroundings} {w : Word} {e : Effect} {is : List Item} {ts : List Lexeme} {es : List Step} → Derives s (Take w e ∷ is) ts es → Takes s w e is ts es
takes (took s w e t {ts = ts} {es = es} q d) = record { token = t; is_word = q; rest = ts; tokens = refl; behind = es; steps = refl; derived = d }

pub no_items : {s : Surroundings} {ts : List Lexeme} {es : List Step} → Derives s [] ts es → (ts ≡ []) × (es ≡ [])
no_items (ended s) = (refl, refl)

pub some_same : {A : Type 0} (a b : A) → Some a ≡ Some b → a ≡ b
some_same a b h = grind arith

pub cons_same : (t : Lexeme) (ts : List Lexeme) (u : Lexeme) (us : List Lexeme) → t ∷ ts ≡ u ∷ us → (t ≡ u) × (ts ≡ us)
cons_same t ts u us h = (grind arith, grind arith)

-- Two productions of one symbol that derive the same tokens are one.
pub one_production : (x : Symbol) (is : List Item) (ts : List Lexeme) (es fs : List Step) (s : Surroundings) → IsFit (Read x ∷ is) → (a : Uses s x is ts es) (b : Uses s x is ts fs) → a.by ≡ b.by
one_production x is ts es fs s k a b =
    let P : Symbol → Type 0 = λ y. IsFit (Read y ∷ is) in
    let c = chosen_is a.by (enters a.by s) is ts (subst P (sym a.of) k) (and_parts _ _ a.may).1 a.derived in
    let d = chosen_is b.by (enters b.by s) is ts (subst P (sym b.of) k) (and_parts _ _ b.may).1 b.derived in
    some_same _ _ (sym c ∙ ap (λ y. candidate y (first_word ts)) (a.of ∙ sym b.of) ∙ d)

-- A list of tokens has at most one derivation.
pub one_derivation : {s : Surroundings} {is : List Item} {ts : List Lexeme} {es : List Step} (fs : List Step) → IsFit is → Derives s is ts es → Derives s is ts fs → es ≡ fs
one_derivation fs k (ended s) d = sym (no_items d).1
one_derivation fs k (took s w e t {is = is} {ts = ts} {es = es} q c) d =
    let u = takes d in
    let p = cons_same t ts u.token u.rest u.tokens in
    let D : Derives (after e t s) is ts u.behind = subst (λ y. Derives (after e t s) is y u.behind) (sym p.1) (subst (λ y. Derives (after e y s) is u.rest u.behind) (sym p.0) u.derived) in
    ap (λ y. Took t ∷ y) (one_derivation u.behind k c D) ∙ ap (λ y. Took y ∷ u.behind) p.0 ∙ sym u.steps
one_derivation fs k (used s x a {is = is} {ts = ts} {es = es} q g c) d =
    let u = uses d in
    let v : Uses s x is ts (Used a ∷ es) = record { by = a; of = q; may = g; behind = es; steps = refl; derived = c } in
    let p = one_production x is ts (Used a ∷ es) fs s k v u in
    let P : Symbol → Type 0 = λ y. IsFit (Read y ∷ is) in
    let D : Derives (enters a s) (body_of a ++ is) ts u.behind = subst (λ y. Derives (enters y s) (body_of y ++ is) ts u.behind) (sym p) u.derived in
    ap (λ y. Used a ∷ y) (one_derivation u.behind (fits_used a is (subst P (sym q) k)) c D) ∙ ap (λ y. Used y ∷ u.behind) p ∙ sym u.steps
one_derivation fs k (did s a c) d =
    let u = does d in
    ap (λ y. Did a ∷ y) (one_derivation u.behind k c u.derived) ∙ sym u.steps
