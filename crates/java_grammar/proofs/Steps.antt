-- How what is reached changes with each step of the machine.
use Rattle.std.specs.Prelude.{◌≡◌, ℕ, Bool, true, false, ◌&&◌, if◌then◌else◌, List, [], ◌∷◌, ◌++◌, Option, Some, None, ◌≢◌}
use Rattle.std.proofs.Common.{refl, sym, ◌∙◌, ap, subst, arith, append_assoc, append-nil, reverse}
use Rattle.std.proofs.lemmas.List.{reverse-append, reverse-reverse}
use Rattle.java_syntax.specs.declared.words.Word.{Word}
use Rattle.java_syntax.specs.declared.words.Effect.{Effect}
use Rattle.java_syntax.specs.declared.symbols.Symbol.{Symbol}
use Rattle.java_syntax.specs.declared.symbols.Item.{Item}
use Rattle.java_syntax.specs.declared.symbols.Item.TheVariants.{Take, Read, Do}
use Rattle.java_syntax.specs.declared.actions.Action.{Action}
use Rattle.java_syntax.specs.declared.productions.Production.{Production}
use Rattle.java_syntax.specs.Table.{body_of}
use Rattle.java_syntax.specs.Derives.{Lexeme, Surroundings, after, enters, allowed, first_word, leaves_no_else, Step, Took, Used, Did, Derives, ended, took, used, did}
use Rattle.java_grammar.specs.declared.machine.Machine.{Machine}
use Rattle.java_grammar.specs.Lookahead.{candidate, permitted, choice}
use Rattle.java_grammar.specs.Reached.{IsFit, StartsWith, Anything, Reached, IsWrongAfter, IsSettled, IsNoWord, Keeps}
use Rattle.java_grammar.proofs.Bools.{and_parts, true_false}
use Rattle.java_grammar.proofs.SymbolTests.{candidate_is_of, candidate_leaves}
use Rattle.java_grammar.proofs.Laws.{chosen_is, fits_used, Uses, uses, does, takes, no_items, some_same, cons_same}

pub top : (xs : List Item) (x : Item) → reverse (xs ++ x ∷ []) ≡ x ∷ reverse xs
top xs x = reverse-append xs (x ∷ [])

pub placed : (xs ys : List Item) → reverse (xs ++ reverse ys) ≡ ys ++ reverse xs
placed xs ys = reverse-append xs (reverse ys) ∙ ap (λ z. z ++ reverse xs) (reverse-reverse ys)

pub kept : (bytes : List ℕ) (next : Option Word) (m n : Machine) (b : Bool) → Keeps bytes next m n b → b ≡ true → Keeps bytes next m n true
kept bytes next m n true k h = k
kept bytes next m n false k h = absurd (true_false (sym h))

pub nothing_left : (is : List Item) → IsSettled is → IsNoWord is → is ≡ []
nothing_left [] h k = refl
nothing_left (Take w e ∷ is) h k = elim k [ ]
nothing_left (Read x ∷ is) h k = elim h [ ]
nothing_left (Do a ∷ is) h k = elim h [ ]

none_some : {A : Type 0} (a : A) → None ≡ Some a → ⊥
none_some a h = grind arith

starts_is : (w : Word) (ts : List Lexeme) (u : Lexeme) (us : List Lexeme) → ts ≡ u ∷ us → first_word ts ≡ Some w → u.word ≡ w
starts_is w ts u us h n = some_same _ _ (sym (ap first_word h) ∙ n)

starts_none : (w : Word) (ts : List Lexeme) → ts ≡ [] → first_word ts ≡ Some w → ⊥
starts_none w ts h n = none_some w (sym (ap first_word h) ∙ n)

ends_none : (ts : List Lexeme) (u : Lexeme) (us : List Lexeme) → ts ≡ u ∷ us → first_word ts ≡ None → ⊥
ends_none ts u us h n = none_some u.word (sym n ∙ ap first_word h)

-- what is permitted is a candidate, and allowed
pub permitted_is : (s : Surroundings) (o : Option Production) (a : Production) → permitted s o ≡ Some a → (o ≡ Some a) × (allowed a s ≡ true)
permitted_is s None a h = absurd (none_some a h)
permitted_is s (Some b) a h = go (allowed b s) refl h
  where
    go : (c : Bool) → allowed b s ≡ c → (if c then Some b else None) ≡ Some a → (Some b ≡ Some a) × (allowed a s ≡ true)
    go true e k = (k, subst (λ y. allowed y s ≡ true) (some_same _ _ k) e)
    go false e k = absurd (none_some a k)

permitted_so : (s : Surroundings) (o : Option Production) (a : Production) → o ≡ Some a → allowed a s ≡ true → permitted s o ≡ Some a
permitted_so s o a h k = rw (h, k) refl

may : (x : Symbol) (s : Surroundings) (next : Option Word) (ts : List Lexeme) (a : Production) → first_word ts ≡ next → candidate x next ≡ Some a → allowed a s ≡ true
    → (allowed a s && leaves_no_else a (first_word ts)) ≡ true
may x s next ts a n c h = rw (n, h, candidate_leaves x next a c) refl

-- what a derivation uses is what the next word chooses
used_is : (x : Symbol) (s : Surroundings) (is : List Item) (next : Option Word) (ts : List Lexeme) {es : List Step} → IsFit (Read x ∷ is) → first_word ts ≡ next → (u : Uses s x is ts es) → candidate x next ≡ Some u.by
used_is x s is next ts k n u =
    let P : Symbol → Type 0 = λ y. IsFit (Read y ∷ is) in
    ap (candidate x) (sym n) ∙ ap (λ y. candidate y (first_word ts)) (sym u.of) ∙ chosen_is u.by (enters u.by s) is ts (subst P (sym u.of) k) (and_parts _ _ u.may).1 u.derived

pub starts : (o : Surroundings) (start : List Item) → IsFit start → Reached o start [] Anything o start []
starts o start k = record { fit = k; sound = λ ts fs n d. d; complete = λ ts fs n d. (fs, refl, d) }

pub narrows : {o : Surroundings} {start : List Item} {so_far : List Lexeme} {s : Surroundings} {is : List Item} {es : List Step} (next : Option Word) → Reached o start so_far Anything s is es → Reached o start so_far (StartsWith next) s is es
narrows next r = record { fit = r.fit; sound = λ ts fs n d. r.sound ts fs tt d; complete = λ ts fs n d. r.complete ts fs tt d }

module _ (o : Surroundings) (start : List Item) (so_far : List Lexeme) (s : Surroundings) (is : List Item) (es : List Step) where
  -- a production is used
  pub goes_by : (next : Option Word) (x : Symbol) (a : Production) → Reached o start so_far (StartsWith next) s (Read x ∷ is) es → choice x s next ≡ Some a
      → Reached o start so_far (StartsWith next) (enters a s) (body_of a ++ is) (es ++ Used a ∷ [])
  goes_by next x a r c =
      let p = permitted_is s (candidate x next) a c in
      let h = candidate_is_of x next a p.0 in
      let P : Symbol → Type 0 = λ y. IsFit (Read y ∷ is) in
      record {
        fit = fits_used a is (subst P (sym h) r.fit);
        sound = λ ts fs n d. subst (λ y. Derives o start (so_far ++ ts) y) (sym (append_assoc es (Used a ∷ []) fs))
            (r.sound ts (Used a ∷ fs) n (used s x a h (may x s next ts a n p.0 p.1) d));
        complete = λ ts fs n d.
            let g = r.complete ts fs n d in
            let u = uses g.2 in
            let e = some_same _ _ (sym (used_is x s is next ts r.fit n u) ∙ p.0) in
            (u.behind, g.1 ∙ ap (λ y. es ++ y) u.steps ∙ ap (λ y. es ++ Used y ∷ u.behind) e ∙ sym (append_assoc es (Used a ∷ []) u.behind), subst (λ y. Derives (enters y s) (body_of y ++ is) ts u.behind) e u.derived);
      }

  -- an action is done
  pub acts_by : (IsNext : List Lexeme → Type 0) (a : Action) → Reached o start so_far IsNext s (Do a ∷ is) es → Reached o start so_far IsNext s is (es ++ Did a ∷ [])
  acts_by IsNext a r = record {
    fit = r.fit;
    sound = λ ts fs n d. subst (λ y. Derives o start (so_far ++ ts) y) (sym (append_assoc es (Did a ∷ []) fs)) (r.sound ts (Did a ∷ fs) n (did s a d));
    complete = λ ts fs n d.
        let g = r.complete ts fs n d in
        let u = does g.2 in
        (u.behind, g.1 ∙ ap (λ y. es ++ y) u.steps ∙ sym (append_assoc es (Did a ∷ []) u.behind), u.derived);
  }

  -- a token is taken
  pub goes_over : (w : Word) (f : Effect) (t : Lexeme) → Reached o start so_far (StartsWith (Some w)) s (Take w f ∷ is) es → t.word ≡ w
      → Reached o start (so_far ++ t ∷ []) Anything (after f t s) is (es ++ Took t ∷ [])
  goes_over w f t r q = record {
    fit = r.fit;
    sound = λ ts fs n d. subst (λ y. Derives o start y ((es ++ Took t ∷ []) ++ fs)) (sym (append_assoc so_far (t ∷ []) ts)) (subst (λ y. Derives o start (so_far ++ t ∷ ts) y) (sym (append_assoc es (Took t ∷ []) fs))
        (r.sound (t ∷ ts) (Took t ∷ fs) (ap (λ y. Some y) q) (took s w f t q d)));
    complete = λ ts fs n d.
        let g = r.complete (t ∷ ts) fs (ap (λ y. Some y) q) (subst (λ y. Derives o start y fs) (append_assoc so_far (t ∷ []) ts) d) in
        let u = takes g.2 in
        let e = cons_same t ts u.token u.rest u.tokens in (
          u.behind,
          g.1 ∙ ap (λ y. es ++ y) u.steps ∙ ap (λ y. es ++ Took y ∷ u.behind) (sym e.0) ∙ sym (append_assoc es (Took t ∷ []) u.behind),
          subst (λ y. Derives (after f t s) is y u.behind) (sym e.1) (subst (λ y. Derives (after f y s) is u.rest u.behind) (sym e.0) u.derived),
        );
  }

  -- nothing is right
  pub no_choice : (next : Option Word) (x : Symbol) → Reached o start so_far (StartsWith next) s (Read x ∷ is) es → choice x s next ≡ None → IsWrongAfter o start so_far next
  no_choice next x r c ts fs n d =
      let g = r.complete ts fs n d in
      let u = uses g.2 in
      none_some u.by (sym c ∙ permitted_so s (candidate x next) u.by (used_is x s is next ts r.fit n u) (and_parts _ _ u.may).0)

  pub other_word : (w v : Word) (f : Effect) → Reached o start so_far (StartsWith (Some w)) s (Take v f ∷ is) es → v ≢ w → IsWrongAfter o start so_far (Some w)
  other_word w v f r q ts fs n d =
      let g = r.complete ts fs n d in
      let u = takes g.2 in
      q (sym u.is_word ∙ starts_is w ts u.token u.rest u.tokens n)

  pub too_short : (v : Word) (f : Effect) → Reached o start so_far (StartsWith None) s (Take v f ∷ is) es → IsWrongAfter o start so_far None
  too_short v f r ts fs n d =
      let g = r.complete ts fs n d in
      let u = takes g.2 in
      ends_none ts u.token u.rest u.tokens n

pub too_long : (o : Surroundings) (start : List Item) (so_far : List Lexeme) (s : Surroundings) (es : List Step) (w : Word) → Reached o start so_far (StartsWith (Some w)) s [] es → IsWrongAfter o start so_far (Some w)
too_long o start so_far s es w r ts fs n d = starts_none w ts (no_items (r.complete ts fs n d).2).0 n

pub ends_here : (o : Surroundings) (start : List Item) (so_far : List Lexeme) (s : Surroundings) (es : List Step) → Reached o start so_far (StartsWith None) s [] es → Derives o start so_far es
ends_here o start so_far s es r = subst (λ y. Derives o start y es) (append-nil so_far) (subst (λ y. Derives o start (so_far ++ []) y) (append-nil es) (r.sound [] [] refl (ended s)))

false_by : {A : Type 0} → false ≡ true → A
false_by h = absurd (true_false (sym h))

pub fits_alone : (x : Symbol) → IsFit (Read x ∷ [])
fits_alone x = ((λ w h. false_by h), tt)
