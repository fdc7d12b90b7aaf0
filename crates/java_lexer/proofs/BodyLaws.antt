-- What stands between the quotes of a literal, as a body and by the search for the quote that closes it.
use Rattle.std.proofs.Common.{◌≡◌, ℕ, suc, ◌+◌, Bool, true, false, List, [], ◌∷◌, ◌++◌, length, take, drop, refl, sym, ap, ◌∙◌, subst, inl, inr}
use Rattle.std.specs.Prelude.{◌||◌, ◌&&◌, ◌==◌, Option, Some, None}
use Rattle.std.specs.Option.{option_map}
use Rattle.std.proofs.lemmas.Bool.{and_parts, and_from, and_left, and_right, or_parts, or_from, or_cases, cases_Bool, cond-true, cond-false, eqb-true, eq-eqb, not-true, not_from_false, false≢true}
use Rattle.std.proofs.lemmas.List.{take-append-drop, drop_more}
use Rattle.java_lexer.specs.Characters.{is_line_end}
use Rattle.java_lexer.specs.Literals.{is_escape, is_on_line, IsBody, empty, plain, escape}
use Rattle.java_lexer.specs.Refusals.{IsClosed}
use Rattle.java_lexer.specs.Reading.{closing_quote, has_known_escapes}
use Rattle.java_lexer.proofs.EndLaws.{none_some, some_same, more_of, closing_front}

-- the quote behind a body closes it
pub body_closes : (quote : ℕ) (body more : List ℕ) → is_line_end quote ≡ false → (92 == quote) ≡ false → IsBody quote is_on_line body
    → closing_quote quote false (body ++ quote ∷ more) ≡ Some (length body)
body_closes quote body more on_line other empty =
    cond-false (is_line_end quote) _ _ on_line ∙ cond-true (quote == quote && true) _ _ (and_from (quote == quote) true (eq-eqb quote quote refl) refl)
body_closes quote body more on_line other (plain b rest is held) =
    let parts = or_parts (b == quote || b == 92) (is_line_end b) is in
    let signs = or_parts (b == quote) (b == 92) parts.0 in
    cond-false (is_line_end b) _ _ parts.1 ∙ cond-false (b == quote && true) _ _ (and_left (b == quote) true signs.0)
    ∙ ap (λ t. option_map suc (closing_quote quote t (rest ++ quote ∷ more))) (and_left (b == 92) true signs.1)
    ∙ ap (option_map suc) (body_closes quote rest more on_line other held)
body_closes quote body more on_line other (escape b rest is held) =
    cond-false (92 == quote && true) _ _ (and_left (92 == quote) true other)
    ∙ ap (option_map suc) (cond-false (is_line_end b) _ _ (not-true (is_line_end b) is) ∙ cond-false (b == quote && false) _ _ (and_right (b == quote) false refl)
    ∙ ap (λ t. option_map suc (closing_quote quote t (rest ++ quote ∷ more))) (and_right (b == 92) false refl)
    ∙ ap (option_map suc) (body_closes quote rest more on_line other held))

-- a body, or one whose first byte is escaped
abbrev pub BodyFrom : ℕ → Bool → List ℕ → Type 0
BodyFrom quote false text = IsBody quote is_on_line text
BodyFrom quote true text = IsBody quote is_on_line (92 ∷ text)

body_before : (quote b : ℕ) (bs : List ℕ) → (b == quote && true) ≡ false → is_line_end b ≡ false → BodyFrom quote (b == 92 && true) bs → IsBody quote is_on_line (b ∷ bs)
body_before quote b bs other on_line held = elim (cases_Bool (b == 92)) [
  | inl backslash ↦
      let escaped : IsBody quote is_on_line (92 ∷ bs) = subst (λ t. BodyFrom quote t bs) (and_from (b == 92) true backslash refl) held in
      subst (λ n. IsBody quote is_on_line (n ∷ bs)) (sym (eqb-true b 92 backslash)) escaped
  | inr no_backslash ↦
      let body : IsBody quote is_on_line bs = subst (λ t. BodyFrom quote t bs) (and_left (b == 92) true no_backslash) held in
      plain b bs (or_from (b == quote || b == 92) (is_line_end b) (or_from (b == quote) (b == 92) (no_quote (b == quote) other) no_backslash) on_line) body
]
  where
    no_quote : (t : Bool) → (t && true) ≡ false → t ≡ false
    no_quote true e = e
    no_quote false e = refl

-- what stands before the quote that closes is a body
pub closing_body : (quote : ℕ) (escaped : Bool) (text : List ℕ) (n : ℕ) → closing_quote quote escaped text ≡ Some n → BodyFrom quote escaped (take n text)
closing_body quote escaped [] n e = absurd (none_some n e)
closing_body quote false (b ∷ bs) n e = elim (cases_Bool (is_line_end b)) [
  | inl ends ↦ absurd (none_some n (sym (cond-true (is_line_end b) _ _ ends) ∙ e))
  | inr goes ↦
      let rest = sym (cond-false (is_line_end b) _ _ goes) ∙ e in
      elim (cases_Bool (b == quote && true)) [
        | inl is ↦ subst (λ k. IsBody quote is_on_line (take k (b ∷ bs))) (some_same 0 n (sym (cond-true (b == quote && true) _ _ is) ∙ rest)) empty
        | inr is ↦
            let less = more_of (closing_quote quote (b == 92 && true) bs) n (sym (cond-false (b == quote && true) _ _ is) ∙ rest) in
            subst (λ k. IsBody quote is_on_line (take k (b ∷ bs))) (sym less.is)
            (body_before quote b (take less.less bs) is goes (closing_body quote (b == 92 && true) bs less.less less.has))
      ]
]
closing_body quote true (b ∷ bs) n e = elim (cases_Bool (is_line_end b)) [
  | inl ends ↦ absurd (none_some n (sym (cond-true (is_line_end b) _ _ ends) ∙ e))
  | inr goes ↦
      let rest = sym (cond-false (is_line_end b) _ _ goes) ∙ e in
      let less = more_of (closing_quote quote (b == 92 && false) bs) n (sym (cond-false (b == quote && false) _ _ (and_right (b == quote) false refl)) ∙ rest) in
      let body : IsBody quote is_on_line (take less.less bs) =
      subst (λ t. BodyFrom quote t (take less.less bs)) (and_right (b == 92) false refl) (closing_body quote (b == 92 && false) bs less.less less.has) in
      subst (λ k. IsBody quote is_on_line (92 ∷ take k (b ∷ bs))) (sym less.is) (escape b (take less.less bs) (not_from_false (is_line_end b) goes) body)
]

-- the quote that the search finds closes a body
pub closed_body : (quote : ℕ) (text : List ℕ) (n : ℕ) → closing_quote quote false text ≡ Some n → IsClosed quote text (take n text)
closed_body quote text n e =
    let front = closing_front quote false text n e in
    record {
      held = closing_body quote false text n e;
      rest = drop (n + 1) text;
      spelled = sym (take-append-drop n text) ∙ ap (λ xs. take n text ++ xs) (drop_more text n 0 front.fits ∙ ap (λ b. b ∷ drop (n + 1) text) front.quote_is);
    }

pub closed_closes : (quote : ℕ) (text body : List ℕ) → is_line_end quote ≡ false → (92 == quote) ≡ false → IsClosed quote text body → closing_quote quote false text ≡ Some (length body)
closed_closes quote text body on_line other closed = ap (closing_quote quote false) closed.spelled ∙ body_closes quote body closed.rest on_line other closed.held

-- where no body is closed, the search finds nothing
pub none_closes : (quote : ℕ) (text : List ℕ) → ((body : List ℕ) → IsClosed quote text body → ⊥) → closing_quote quote false text ≡ None
none_closes quote text none = go (closing_quote quote false text) refl
  where
    go : (r : Option ℕ) → closing_quote quote false text ≡ r → closing_quote quote false text ≡ None
    go None e = e
    go (Some n) e = absurd (none (take n text) (closed_body quote text n e))

escape_stays : (b : ℕ) → is_escape b ≡ true → is_on_line b ≡ true
escape_stays b is = elim (cases_Bool (is_line_end b)) [
  | inl ends ↦ elim (or_cases (b == 10) (b == 13) ends) [
    | inl feed ↦ absurd (false≢true (ap is_escape (sym (eqb-true b 10 feed)) ∙ is))
    | inr return ↦ absurd (false≢true (ap is_escape (sym (eqb-true b 13 return)) ∙ is))
  ]
  | inr goes ↦ not_from_false (is_line_end b) goes
]

-- a body with known escapes
pub body_weak : (quote : ℕ) (body : List ℕ) → IsBody quote is_escape body → IsBody quote is_on_line body
body_weak quote body empty = empty
body_weak quote body (plain b rest is held) = plain b rest is (body_weak quote rest held)
body_weak quote body (escape b rest is held) = escape b rest (escape_stays b is) (body_weak quote rest held)

pub body_known : (quote : ℕ) (body : List ℕ) → IsBody quote is_escape body → has_known_escapes false body ≡ true
body_known quote body empty = refl
body_known quote body (plain b rest is held) =
    let parts = or_parts (b == quote || b == 92) (is_line_end b) is in
    ap (λ t. has_known_escapes t rest) (and_left (b == 92) true (or_parts (b == quote) (b == 92) parts.0).1) ∙ body_known quote rest held
body_known quote body (escape b rest is held) =
    and_from (is_escape b) (has_known_escapes (b == 92 && false) rest) is (ap (λ t. has_known_escapes t rest) (and_right (b == 92) false refl) ∙ body_known quote rest held)

pub known_body : (quote : ℕ) (body : List ℕ) → IsBody quote is_on_line body → has_known_escapes false body ≡ true → IsBody quote is_escape body
known_body quote body empty known = empty
known_body quote body (plain b rest is held) known =
    let parts = or_parts (b == quote || b == 92) (is_line_end b) is in
    plain b rest is (known_body quote rest held (ap (λ t. has_known_escapes t rest) (sym (and_left (b == 92) true (or_parts (b == quote) (b == 92) parts.0).1)) ∙ known))
known_body quote body (escape b rest is held) known =
    let parts = and_parts (is_escape b) (has_known_escapes (b == 92 && false) rest) known in
    escape b rest parts.0 (known_body quote rest held (ap (λ t. has_known_escapes t rest) (sym (and_right (b == 92) false refl)) ∙ parts.1))
