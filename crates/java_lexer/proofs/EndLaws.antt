-- Where comments and quoted literals end: what stands behind the end changes nothing, and what stands before it is enough.
use Rattle.std.proofs.Common.{◌≡◌, ℕ, zero, suc, ◌+◌, ◌<◌, ◌≤◌, Bool, true, false, List, [], ◌∷◌, ◌++◌, length, take, refl, sym, ap, ◌∙◌, subst, arith, inl, inr}
use Rattle.std.specs.Prelude.{◌&&◌, ◌==◌, not, slice_index, Option, Some, None}
use Rattle.std.specs.List.{list_all, prefix_len}
use Rattle.std.specs.Option.{option_map}
use Rattle.std.proofs.lemmas.Bool.{and_parts, and_from, eqb-true, cases_Bool, cond-true, cond-false, false≢true}
use Rattle.java_lexer.specs.Characters.{is_line_end}
use Rattle.java_lexer.specs.Reading.{closing_quote}
use Rattle.java_lexer.specs.Tokens.{comment_end}

-- one more than what an option has
pub record IsMore (o : Option ℕ) (n : ℕ) : Type 0 where
  pub less : ℕ
  pub has : o ≡ Some less
  pub is : n ≡ suc less

pub some_same : (m n : ℕ) → ◌≡◌ {A = Option ℕ} (Some m) (Some n) → m ≡ n
some_same m n e = cc

pub none_some : (n : ℕ) → ◌≡◌ {A = Option ℕ} None (Some n) → ⊥
none_some n e = cc

pub more_of : (o : Option ℕ) (n : ℕ) → option_map suc o ≡ Some n → IsMore o n
more_of None n e = absurd (none_some n e)
more_of (Some m) n e = record { less = m; has = refl; is = sym (some_same (suc m) n e) }

-- what stands behind the end of a comment
pub comment_end_more : (body more : List ℕ) (n : ℕ) → comment_end body ≡ Some n → comment_end (body ++ more) ≡ Some n
comment_end_more [] more n e = absurd (none_some n e)
comment_end_more (b ∷ []) more n e = elim (cases_Bool (b == 42 && false)) [
  | inl is ↦ absurd (false≢true (and_parts (b == 42) false is).1)
  | inr is ↦ absurd (none_some n (sym (cond-false (b == 42 && false) _ _ is) ∙ e))
]
comment_end_more (b ∷ c ∷ cs) more n e = elim (cases_Bool (b == 42 && c == 47)) [
  | inl is ↦ cond-true (b == 42 && c == 47) _ _ is ∙ sym (cond-true (b == 42 && c == 47) _ _ is) ∙ e
  | inr is ↦
      let behind = more_of (comment_end (c ∷ cs)) n (sym (cond-false (b == 42 && c == 47) _ _ is) ∙ e) in
      cond-false (b == 42 && c == 47) _ _ is ∙ ap (option_map suc) (comment_end_more (c ∷ cs) more behind.less behind.has) ∙ ap (λ k. Some k) (sym behind.is)
]

-- the bytes up to the end of a comment
pub record IsClosedBy (bs : List ℕ) (n : ℕ) : Type 0 where
  pub two : 2 ≤ n
  pub fits : n ≤ length bs
  pub closed : comment_end (take n bs) ≡ Some n

closed_behind : (b c : ℕ) (cs : List ℕ) (k : ℕ) → (b == 42 && c == 47) ≡ false → IsClosedBy (c ∷ cs) k → IsClosedBy (b ∷ c ∷ cs) (suc k)
closed_behind b c cs zero is behind = absurd (omega (arith, behind.two))
closed_behind b c cs (suc k) is behind = record {
  two = omega (arith, behind.two);
  fits = omega (arith, behind.fits);
  closed = cond-false (b == 42 && c == 47) _ _ is ∙ ap (option_map suc) behind.closed;
}

pub comment_end_front : (bs : List ℕ) (n : ℕ) → comment_end bs ≡ Some n → IsClosedBy bs n
comment_end_front [] n e = absurd (none_some n e)
comment_end_front (b ∷ []) n e = elim (cases_Bool (b == 42 && false)) [
  | inl is ↦ absurd (false≢true (and_parts (b == 42) false is).1)
  | inr is ↦ absurd (none_some n (sym (cond-false (b == 42 && false) _ _ is) ∙ e))
]
comment_end_front (b ∷ c ∷ cs) n e = elim (cases_Bool (b == 42 && c == 47)) [
  | inl is ↦
      let two : 2 ≡ n = some_same 2 n (sym (cond-true (b == 42 && c == 47) _ _ is) ∙ e) in
      subst (λ k. IsClosedBy (b ∷ c ∷ cs) k) two (record { two = omega arith; fits = omega arith; closed = cond-true (b == 42 && c == 47) _ _ is })
  | inr is ↦
      let behind = more_of (comment_end (c ∷ cs)) n (sym (cond-false (b == 42 && c == 47) _ _ is) ∙ e) in
      subst (λ k. IsClosedBy (b ∷ c ∷ cs) k) (sym behind.is) (closed_behind b c cs behind.less is (comment_end_front (c ∷ cs) behind.less behind.has))
]

-- what stands behind a quote that closes
pub closing_more : (quote : ℕ) (escaped : Bool) (body more : List ℕ) (n : ℕ) → closing_quote quote escaped body ≡ Some n → closing_quote quote escaped (body ++ more) ≡ Some n
closing_more quote escaped [] more n e = absurd (none_some n e)
closing_more quote escaped (b ∷ bs) more n e = elim (cases_Bool (is_line_end b)) [
  | inl ends ↦ absurd (none_some n (sym (cond-true (is_line_end b) _ _ ends) ∙ e))
  | inr goes ↦ elim (cases_Bool (b == quote && not escaped)) [
    | inl is ↦
        let rest = sym (cond-false (is_line_end b) _ _ goes) ∙ e in
        cond-false (is_line_end b) _ _ goes ∙ cond-true (b == quote && not escaped) _ _ is ∙ sym (cond-true (b == quote && not escaped) _ _ is) ∙ rest
    | inr is ↦
        let rest = sym (cond-false (is_line_end b) _ _ goes) ∙ e in
        let behind = more_of (closing_quote quote (b == 92 && not escaped) bs) n (sym (cond-false (b == quote && not escaped) _ _ is) ∙ rest) in
        cond-false (is_line_end b) _ _ goes ∙ cond-false (b == quote && not escaped) _ _ is
        ∙ ap (option_map suc) (closing_more quote (b == 92 && not escaped) bs more behind.less behind.has) ∙ ap (λ k. Some k) (sym behind.is)
  ]
]

-- the bytes up to a quote that closes
pub record IsClosedQuote (quote : ℕ) (escaped : Bool) (bs : List ℕ) (n : ℕ) : Type 0 where
  pub fits : n < length bs
  pub quote_is : slice_index bs n ≡ quote
  pub closed : closing_quote quote escaped (take (suc n) bs) ≡ Some n

pub closing_front : (quote : ℕ) (escaped : Bool) (bs : List ℕ) (n : ℕ) → closing_quote quote escaped bs ≡ Some n → IsClosedQuote quote escaped bs n
closing_front quote escaped [] n e = absurd (none_some n e)
closing_front quote escaped (b ∷ bs) n e = elim (cases_Bool (is_line_end b)) [
  | inl ends ↦ absurd (none_some n (sym (cond-true (is_line_end b) _ _ ends) ∙ e))
  | inr goes ↦ elim (cases_Bool (b == quote && not escaped)) [
    | inl is ↦
        let rest = sym (cond-false (is_line_end b) _ _ goes) ∙ e in
        let first : 0 ≡ n = some_same 0 n (sym (cond-true (b == quote && not escaped) _ _ is) ∙ rest) in
        subst (λ k. IsClosedQuote quote escaped (b ∷ bs) k) first (record {
          fits = omega arith;
          quote_is = eqb-true b quote (and_parts (b == quote) (not escaped) is).0;
          closed = cond-false (is_line_end b) _ _ goes ∙ cond-true (b == quote && not escaped) _ _ is;
        })
    | inr is ↦
        let rest = sym (cond-false (is_line_end b) _ _ goes) ∙ e in
        let behind = more_of (closing_quote quote (b == 92 && not escaped) bs) n (sym (cond-false (b == quote && not escaped) _ _ is) ∙ rest) in
        let front = closing_front quote (b == 92 && not escaped) bs behind.less behind.has in
        subst (λ k. IsClosedQuote quote escaped (b ∷ bs) k) (sym behind.is) (record {
          fits = omega (arith, front.fits);
          quote_is = front.quote_is;
          closed = cond-false (is_line_end b) _ _ goes ∙ cond-false (b == quote && not escaped) _ _ is ∙ ap (option_map suc) front.closed;
        })
  ]
]

-- the longest front that passes
pub front_passes : (test : ℕ → Bool) (bs : List ℕ) → list_all test (take (prefix_len test bs) bs) ≡ true
front_passes test [] = refl
front_passes test (b ∷ bs) = elim (cases_Bool (test b)) [
  | inl is ↦
      let len : prefix_len test (b ∷ bs) ≡ suc (prefix_len test bs) = cond-true (test b) (1 + prefix_len test bs) 0 is ∙ one_more (prefix_len test bs) in
      subst (λ n. list_all test (take n (b ∷ bs)) ≡ true) (sym len) (and_from (test b) (list_all test (take (prefix_len test bs) bs)) is (front_passes test bs))
  | inr is ↦ subst (λ n. list_all test (take n (b ∷ bs)) ≡ true) (sym (cond-false (test b) (1 + prefix_len test bs) 0 is)) refl
]
  where
    one_more : (n : ℕ) → 1 + n ≡ suc n
    one_more n = omega arith

pub front_fits : (test : ℕ → Bool) (bs : List ℕ) → prefix_len test bs ≤ length bs
front_fits test [] = omega arith
front_fits test (b ∷ bs) =
    let rest : prefix_len test bs ≤ length bs = front_fits test bs in
    elim (cases_Bool (test b)) [
      | inl is ↦ subst (λ n. n ≤ length (b ∷ bs)) (sym (cond-true (test b) (1 + prefix_len test bs) 0 is)) (omega arith)
      | inr is ↦ subst (λ n. n ≤ length (b ∷ bs)) (sym (cond-false (test b) (1 + prefix_len test bs) 0 is)) (omega arith)
    ]

pub front_longest : (test : ℕ → Bool) (bs : List ℕ) (k : ℕ) → k ≤ length bs → list_all test (take k bs) ≡ true → k ≤ prefix_len test bs
front_longest test bs zero inside all = omega arith
front_longest test [] (suc k) inside all = absurd (omega arith)
front_longest test (b ∷ bs) (suc k) inside all =
    let parts = and_parts (test b) (list_all test (take k bs)) all in
    let rest : k ≤ prefix_len test bs = front_longest test bs k (omega arith) parts.1 in
    subst (λ n. suc k ≤ n) (sym (cond-true (test b) (1 + prefix_len test bs) 0 parts.0)) (omega arith)
