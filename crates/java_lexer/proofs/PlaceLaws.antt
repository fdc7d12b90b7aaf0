-- Lines and columns, byte by byte.
use Rattle.std.proofs.Common.{◌≡◌, add_assoc, ℕ, ◌+◌, ◌≤◌, Bool, true, false, List, [], ◌∷◌, ◌++◌, length, refl, sym, ap, ◌∙◌, subst, arith, inl, inr}
use Rattle.std.specs.Prelude.{◌||◌, ◌&&◌, ◌==◌, not, reverse, slice_index, if◌then◌else◌}
use Rattle.std.specs.List.{prefix_len}
use Rattle.std.proofs.lemmas.Bool.{cases_Bool, cond-true, cond-false, eqb-true, or_left, or_right, or_from, and_left, and_right, and_from, not_from_false, not_from_true}
use Rattle.std.proofs.lemmas.List.{reverse-append, append_assoc, append-nil, length-reverse}
use Rattle.std.proofs.lemmas.List.Sums.{prefix_len-le-length}
use Rattle.rlc_base.specs.declared.place.Pos.{Pos}
use Rattle.java_lexer.specs.declared.places.Cursor.{Cursor}
use Rattle.java_lexer.specs.Characters.{is_line_end}
use Rattle.java_lexer.specs.Cut.{line_ends, last_line_len, place_behind}
use Rattle.java_lexer.specs.Reading.{moved, moved_past}

-- a carriage return is the last byte
abbrev pub ends_return : List ℕ → Bool
ends_return [] = false
ends_return (b ∷ []) = b == 13
ends_return (b ∷ c ∷ cs) = ends_return (c ∷ cs)

-- the lines that one more byte ends
abbrev pub lines_more : Bool → ℕ → ℕ
lines_more after b = if b == 10 then (if after then 0 else 1) else if b == 13 then 1 else 0

abbrev pub line_end : ℕ → ℕ → ℕ
line_end b next = if b == 10 || (b == 13 && not (next == 10)) then 1 else 0

one_line : (b : ℕ) → line_end b 0 ≡ lines_more false b
one_line b = elim (cases_Bool (b == 10)) [
  | inl feed ↦ cond-true (b == 10 || (b == 13 && true)) 1 0 (or_left (b == 10) (b == 13 && true) feed) ∙ sym (cond-true (b == 10) 1 (if b == 13 then 1 else 0) feed)
  | inr other ↦ elim (cases_Bool (b == 13)) [
    | inl return ↦ cond-true (b == 10 || (b == 13 && true)) 1 0 (or_right (b == 10) (b == 13 && true) (and_from (b == 13) true return refl)) ∙ sym (cond-false (b == 10) 1 (if b == 13 then 1 else 0) other ∙ cond-true (b == 13) 1 0 return)
    | inr plain ↦ cond-false (b == 10 || (b == 13 && true)) 1 0 (or_from (b == 10) (b == 13 && true) other (and_left (b == 13) true plain)) ∙ sym (cond-false (b == 10) 1 (if b == 13 then 1 else 0) other ∙ cond-false (b == 13) 1 0 plain)
  ]
]

-- the end of a line before the last byte, and the last byte
two_lines : (a b : ℕ) → line_end a b + (line_end b 0 + 0) ≡ (line_end a 0 + 0) + lines_more (a == 13) b
two_lines a b = elim (cases_Bool (b == 10)) [
  | inl feed ↦ elim (cases_Bool (a == 13)) [
    | inl return ↦
        let first : line_end a b ≡ 0 = cond-false (a == 10 || (a == 13 && not (b == 10))) 1 0 (or_from (a == 10) (a == 13 && not (b == 10)) (return_feed a return) (and_right' a b feed)) in
        let alone : line_end a 0 ≡ 1 = cond-true (a == 10 || (a == 13 && true)) 1 0 (or_right (a == 10) (a == 13 && true) (and_from (a == 13) true return refl)) in
        let second : line_end b 0 ≡ 1 = cond-true (b == 10 || (b == 13 && true)) 1 0 (or_left (b == 10) (b == 13 && true) feed) in
        let more : lines_more (a == 13) b ≡ 0 = cond-true (b == 10) (if a == 13 then 0 else 1) (if b == 13 then 1 else 0) feed ∙ cond-true (a == 13) 0 1 return in
        omega arith
    | inr other ↦
        let first : line_end a b ≡ line_end a 0 = same_line a b 0 other in
        let second : line_end b 0 ≡ lines_more false b = one_line b in
        let more : lines_more (a == 13) b ≡ lines_more false b = ap (λ t. lines_more t b) other in
        omega arith
  ]
  | inr plain ↦
      let first : line_end a b ≡ line_end a 0 = ap (λ t. if a == 10 || (a == 13 && not t) then 1 else 0) plain in
      let second : line_end b 0 ≡ lines_more false b = one_line b in
      let more : lines_more (a == 13) b ≡ lines_more false b = cond-false (b == 10) (if a == 13 then 0 else 1) (if b == 13 then 1 else 0) plain ∙ sym (cond-false (b == 10) 1 (if b == 13 then 1 else 0) plain) in
      omega arith
]
  where
    return_feed : (a : ℕ) → (a == 13) ≡ true → (a == 10) ≡ false
    return_feed a return = let e : a ≡ 13 = eqb-true a 13 return in subst (λ n. (n == 10) ≡ false) (sym e) refl

    and_right' : (a b : ℕ) → (b == 10) ≡ true → (a == 13 && not (b == 10)) ≡ false
    and_right' a b feed = and_right (a == 13) (not (b == 10)) (not_from_true (b == 10) feed)

    same_line : (a b c : ℕ) → (a == 13) ≡ false → line_end a b ≡ line_end a c
    same_line a b c other = ap (λ t. if a == 10 || (t && not (b == 10)) then 1 else 0) other ∙ sym (ap (λ t. if a == 10 || (t && not (c == 10)) then 1 else 0) other)

line_ends_push : (text : List ℕ) (b : ℕ) → line_ends (text ++ b ∷ []) ≡ line_ends text + lines_more (ends_return text) b
line_ends_push [] b = let e : line_end b 0 ≡ lines_more false b = one_line b in omega arith
line_ends_push (a ∷ []) b = two_lines a b
line_ends_push (a ∷ c ∷ cs) b =
    let rest : line_ends ((c ∷ cs) ++ b ∷ []) ≡ line_ends (c ∷ cs) + lines_more (ends_return (c ∷ cs)) b = line_ends_push (c ∷ cs) b in
    ap (λ n. line_end a c + n) rest ∙ sym (add_assoc (line_end a c) (line_ends (c ∷ cs)) (lines_more (ends_return (c ∷ cs)) b))

ends_return_push : (text : List ℕ) (b : ℕ) → ends_return (text ++ b ∷ []) ≡ (b == 13)
ends_return_push [] b = refl
ends_return_push (a ∷ []) b = refl
ends_return_push (a ∷ c ∷ cs) b = ends_return_push (c ∷ cs) b

abbrev pub stays : ℕ → Bool
stays b = not (is_line_end b)

last_line_push : (text : List ℕ) (b : ℕ) → last_line_len (text ++ b ∷ []) ≡ (if stays b then 1 + last_line_len text else 0)
last_line_push text b = ap (prefix_len stays) (reverse-append text (b ∷ []))

-- the cursor is behind the text
pub record IsBehind (text : List ℕ) (cursor : Cursor) : Type 0 where
  pub line : cursor.line ≡ 1 + line_ends text
  pub col : cursor.col ≡ 1 + last_line_len text
  pub after : cursor.after_return ≡ ends_return text

pub behind_nothing : IsBehind [] (record { line = 1; col = 1; after_return = false })
behind_nothing = record { line = refl; col = refl; after = refl }

behind_feed : (text : List ℕ) (cursor : Cursor) (b : ℕ) → (b == 10) ≡ true → IsBehind text cursor
    → IsBehind (text ++ b ∷ []) (record { line = (if cursor.after_return then cursor.line else cursor.line + 1); col = 1; after_return = false })
behind_feed text cursor b feed behind =
    let more : lines_more (ends_return text) b ≡ (if ends_return text then 0 else 1) = cond-true (b == 10) _ _ feed in
    let push : line_ends (text ++ b ∷ []) ≡ line_ends text + lines_more (ends_return text) b = line_ends_push text b in
    let line : cursor.line ≡ 1 + line_ends text = behind.line in
    let gone : stays b ≡ false = not_from_true (is_line_end b) (or_left (b == 10) (b == 13) feed) in
    let is : b ≡ 10 = eqb-true b 10 feed in
    record {
      line = elim (cases_Bool (ends_return text)) [
        | inl ended ↦
            let none : ◌≡◌ {A = ℕ} (if ends_return text then 0 else 1) 0 = cond-true (ends_return text) 0 1 ended in
            cond-true cursor.after_return cursor.line (cursor.line + 1) (behind.after ∙ ended) ∙ (omega arith)
        | inr open_line ↦
            let one : ◌≡◌ {A = ℕ} (if ends_return text then 0 else 1) 1 = cond-false (ends_return text) 0 1 open_line in
            cond-false cursor.after_return cursor.line (cursor.line + 1) (behind.after ∙ open_line) ∙ (omega arith)
      ];
      col = let none : last_line_len (text ++ b ∷ []) ≡ 0 = last_line_push text b ∙ cond-false (stays b) (1 + last_line_len text) 0 gone in omega arith;
      after = sym (ends_return_push text b ∙ ap (λ n. n == 13) is);
    }

behind_return : (text : List ℕ) (cursor : Cursor) (b : ℕ) → (b == 10) ≡ false → (b == 13) ≡ true → IsBehind text cursor
    → IsBehind (text ++ b ∷ []) (record { line = cursor.line + 1; col = 1; after_return = true })
behind_return text cursor b other return behind =
    let more : lines_more (ends_return text) b ≡ 1 = cond-false (b == 10) _ _ other ∙ cond-true (b == 13) 1 0 return in
    let push : line_ends (text ++ b ∷ []) ≡ line_ends text + lines_more (ends_return text) b = line_ends_push text b in
    let line : cursor.line ≡ 1 + line_ends text = behind.line in
    let gone : stays b ≡ false = not_from_true (is_line_end b) (or_right (b == 10) (b == 13) return) in
    record {
      line = omega arith;
      col = let none : last_line_len (text ++ b ∷ []) ≡ 0 = last_line_push text b ∙ cond-false (stays b) (1 + last_line_len text) 0 gone in omega arith;
      after = sym (ends_return_push text b ∙ return);
    }

behind_other : (text : List ℕ) (cursor : Cursor) (b : ℕ) → (b == 10) ≡ false → (b == 13) ≡ false → IsBehind text cursor
    → IsBehind (text ++ b ∷ []) (record { line = cursor.line; col = cursor.col + 1; after_return = false })
behind_other text cursor b other plain behind =
    let more : lines_more (ends_return text) b ≡ 0 = cond-false (b == 10) _ _ other ∙ cond-false (b == 13) 1 0 plain in
    let push : line_ends (text ++ b ∷ []) ≡ line_ends text + lines_more (ends_return text) b = line_ends_push text b in
    let line : cursor.line ≡ 1 + line_ends text = behind.line in
    let col : cursor.col ≡ 1 + last_line_len text = behind.col in
    let goes : stays b ≡ true = not_from_false (is_line_end b) (or_from (b == 10) (b == 13) other plain) in
    record {
      line = omega arith;
      col = let one : last_line_len (text ++ b ∷ []) ≡ 1 + last_line_len text = last_line_push text b ∙ cond-true (stays b) (1 + last_line_len text) 0 goes in omega arith;
      after = sym (ends_return_push text b ∙ plain);
    }

behind_moved : (text : List ℕ) (cursor : Cursor) (b : ℕ) → IsBehind text cursor → IsBehind (text ++ b ∷ []) (moved cursor b)
behind_moved text cursor b behind = elim (cases_Bool (b == 10)) [
  | inl feed ↦ subst (λ c. IsBehind (text ++ b ∷ []) c) (sym (cond-true (b == 10) _ _ feed)) (behind_feed text cursor b feed behind)
  | inr other ↦ elim (cases_Bool (b == 13)) [
    | inl return ↦ subst (λ c. IsBehind (text ++ b ∷ []) c) (sym (cond-false (b == 10) _ _ other ∙ cond-true (b == 13) _ _ return)) (behind_return text cursor b other return behind)
    | inr plain ↦ subst (λ c. IsBehind (text ++ b ∷ []) c) (sym (cond-false (b == 10) _ _ other ∙ cond-false (b == 13) _ _ plain)) (behind_other text cursor b other plain behind)
  ]
]

-- a cursor that moves past bytes stays behind them
pub behind_past : (bytes text : List ℕ) (cursor : Cursor) → IsBehind text cursor → IsBehind (text ++ bytes) (moved_past cursor bytes)
behind_past [] text cursor behind = subst (λ xs. IsBehind xs cursor) (sym (append-nil text)) behind
behind_past (b ∷ bs) text cursor behind =
    subst (λ xs. IsBehind xs (moved_past (moved cursor b) bs)) (append_assoc text (b ∷ []) bs) (behind_past bs (text ++ b ∷ []) (moved cursor b) (behind_moved text cursor b behind))

pub place_is : (file : ℕ) (text : List ℕ) (cursor : Cursor) → IsBehind text cursor → ◌≡◌ {A = Pos} (record { file = file; line = cursor.line; col = cursor.col }) (place_behind file text)
place_is file text cursor behind =
    ap (λ n. place file n cursor.col) behind.line ∙ ap (λ n. place file (1 + line_ends text) n) behind.col
  where
    place : ℕ → ℕ → ℕ → Pos
    place file line col = record { file = file; line = line; col = col }

pub line_ends_fit : (text : List ℕ) → line_ends text ≤ length text
line_ends_fit [] = omega arith
line_ends_fit (b ∷ bs) =
    let rest : line_ends bs ≤ length bs = line_ends_fit bs in
    let one : line_end b (slice_index bs 0) ≤ 1 = elim (cases_Bool (b == 10 || (b == 13 && not (slice_index bs 0 == 10)))) [
      | inl ends ↦ subst (λ n. n ≤ 1) (sym (cond-true (b == 10 || (b == 13 && not (slice_index bs 0 == 10))) 1 0 ends)) (omega arith)
      | inr goes ↦ subst (λ n. n ≤ 1) (sym (cond-false (b == 10 || (b == 13 && not (slice_index bs 0 == 10))) 1 0 goes)) (omega arith)
    ] in
    omega arith

-- a cursor behind a text has a line and a column that fit
pub record Fits (text : List ℕ) (cursor : Cursor) : Type 0 where
  pub line : cursor.line ≤ length text + 1
  pub col : cursor.col ≤ length text + 1

pub behind_fits : (text : List ℕ) (cursor : Cursor) → IsBehind text cursor → Fits text cursor
behind_fits text cursor behind =
    let lines : line_ends text ≤ length text = line_ends_fit text in
    let cols : last_line_len text ≤ length (reverse text) = prefix_len-le-length stays (reverse text) in
    let size : length (reverse text) ≡ length text = length-reverse text in
    record { line = omega (arith, behind.line); col = omega (arith, behind.col) }
