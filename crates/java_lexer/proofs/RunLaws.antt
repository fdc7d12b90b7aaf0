-- Runs of identifier characters.
use Rattle.std.proofs.Common.{◌≡◌, ℕ, ◌<◌, ◌≤◌, Bool, true, List, [], ◌∷◌, ◌++◌, length, take, drop, refl, sym, ap, ◌∙◌, arith}
use Rattle.std.specs.Prelude.{◌||◌, ◌&&◌, ◌==◌, nat_lt}
use Rattle.std.specs.List.{list_all}
use Rattle.std.specs.Char.{encode_utf8, is_ascii_alphanumeric}
use Rattle.std.specs.Str.{all_scalars, encode_utf8_all}
use Rattle.std.proofs.Math.Utf8.{scalar, low_scalar}
use Rattle.std.proofs.lemmas.Bool.{and_parts, and_from, or_left, ltb-true}
use Rattle.std.proofs.lemmas.List.{append_assoc, take-append-drop, length-append, length-take-le}
use Rattle.std.proofs.lemmas.Str.{encode_same, encode_ascii}
use Rattle.unicode_ident.proofs.IdentLemmas.{is_xid_continue-ascii}
use Rattle.java_lexer.specs.Characters.{is_identifier_part, BeginsWith, IsRun}

-- behind the longest run no character of the run's test stands
run_within : (test : ℕ → Bool) (cs ds rest more : List ℕ) → all_scalars ds ≡ true → list_all test ds ≡ true → (BeginsWith test rest → ⊥)
    → encode_utf8_all cs ++ rest ≡ encode_utf8_all ds ++ more → length (encode_utf8_all ds) ≤ length (encode_utf8_all cs)
run_within test cs [] rest more scalars pass ends e = omega arith
run_within test [] (d ∷ ds) rest more scalars pass ends e =
    let scalar_parts = and_parts (scalar d) (all_scalars ds) scalars in
    let pass_parts = and_parts (test d) (list_all test ds) pass in
    absurd (ends (record {
      first = d;
      rest = encode_utf8_all ds ++ more;
      scalar = scalar_parts.0;
      passes = pass_parts.0;
      spelled = e ∙ append_assoc (encode_utf8 d) (encode_utf8_all ds) more;
    }))
run_within test (c ∷ cs) (d ∷ ds) rest more scalars pass ends e =
    let scalar_parts = and_parts (scalar d) (all_scalars ds) scalars in
    let pass_parts = and_parts (test d) (list_all test ds) pass in
    let same = encode_same c d (encode_utf8_all cs ++ rest) (encode_utf8_all ds ++ more)
    (sym (append_assoc (encode_utf8 c) (encode_utf8_all cs) rest) ∙ e ∙ append_assoc (encode_utf8 d) (encode_utf8_all ds) more) in
    let behind : length (encode_utf8_all ds) ≤ length (encode_utf8_all cs) = run_within test cs ds rest more scalar_parts.1 pass_parts.1 ends same.1 in
    let width : length (encode_utf8 c) ≡ length (encode_utf8 d) = ap (λ x. length (encode_utf8 x)) same.0 in
    omega (arith, length-append (encode_utf8 c) (encode_utf8_all cs), length-append (encode_utf8 d) (encode_utf8_all ds))

-- a run that no character of its test follows is the longest
pub run_longest : (test : ℕ → Bool) (text : List ℕ) (n m : ℕ) → n ≤ length text → m ≤ length text → IsRun test (take n text) → (BeginsWith test (drop n text) → ⊥)
    → IsRun test (take m text) → m ≤ n
run_longest test text n m n_fits m_fits run ends other =
    let both : encode_utf8_all run.characters ++ drop n text ≡ encode_utf8_all other.characters ++ drop m text =
    ap (λ xs. xs ++ drop n text) (sym run.spelled) ∙ take-append-drop n text ∙ sym (take-append-drop m text) ∙ ap (λ xs. xs ++ drop m text) other.spelled in
    let within : length (encode_utf8_all other.characters) ≤ length (encode_utf8_all run.characters) =
    run_within test run.characters other.characters (drop n text) (drop m text) other.scalars other.pass ends both in
    omega (arith, ap length run.spelled, ap length other.spelled, length-take-le n text n_fits, length-take-le m text m_fits)

-- an ASCII byte that an identifier may have
abbrev pub is_plain_part : ℕ → Bool
is_plain_part b = nat_lt b 128 && (is_ascii_alphanumeric b || b == 95)

plain_scalar : (b : ℕ) → b < 128 → scalar b ≡ true
plain_scalar b low = low_scalar b (omega arith)

pub plain_part : (b : ℕ) → is_plain_part b ≡ true → is_identifier_part b ≡ true
plain_part b is =
    let parts = and_parts (nat_lt b 128) (is_ascii_alphanumeric b || b == 95) is in
    or_left _ (b == 36) (is_xid_continue-ascii b (ltb-true b 128 parts.0) ∙ parts.1)

-- such bytes are a run
pub plain_run : (text : List ℕ) → list_all is_plain_part text ≡ true → IsRun is_identifier_part text
plain_run [] all = record { characters = []; scalars = refl; pass = refl; spelled = refl }
plain_run (b ∷ bs) all =
    let parts = and_parts (is_plain_part b) (list_all is_plain_part bs) all in
    let low : b < 128 = ltb-true b 128 (and_parts (nat_lt b 128) (is_ascii_alphanumeric b || b == 95) parts.0).0 in
    let rest = plain_run bs parts.1 in
    record {
      characters = b ∷ rest.characters;
      scalars = and_from (scalar b) (all_scalars rest.characters) (plain_scalar b low) rest.scalars;
      pass = and_from (is_identifier_part b) (list_all is_identifier_part rest.characters) (plain_part b parts.0) rest.pass;
      spelled = ap (λ xs. b ∷ xs) rest.spelled ∙ ap (λ xs. xs ++ encode_utf8_all rest.characters) (sym (encode_ascii b low));
    }
