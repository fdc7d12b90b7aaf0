-- The machine over a whole list of tokens.
use Rattle.std.specs.Prelude.{◌≡◌, ℕ, ◌+◌, ◌<◌, ◌≤◌, Bool, true, false, List, [], ◌∷◌, ◌++◌, get_or, length, map}
use Rattle.std.proofs.Common.{refl, sym, ◌∙◌, ap, subst, arith, zero, suc, append-nil, reverse, take, drop}
use Rattle.std.proofs.lemmas.List.{take-append-drop, length-take-le, map-append, length-map}
use Rattle.std.proofs.Math.Seq.{drop-cons}
use Rattle.std.proofs.Math.ListN.{drop_of_length-le}
use Rattle.java_syntax.specs.declared.symbols.Symbol.{Symbol}
use Rattle.java_syntax.specs.declared.symbols.Item.TheVariants.{Read}
use Rattle.java_syntax.specs.declared.tokens.Token.{Token}
use Rattle.java_syntax.specs.Derives.{Lexeme, lexeme_of, at_start, Step, step_of}
use Rattle.java_grammar.specs.declared.machine.Machine.{Machine}
use Rattle.java_grammar.specs.Reached.{surroundings_of, lexemes_of, Anything, Holds, Advances, Ends}
use Rattle.java_grammar.specs.Refusal.{IsDerivation, IsWrongAt}
use Rattle.java_grammar.proofs.Bools.{true_false}
use Rattle.java_grammar.proofs.Viable.{ends_some_way}
use Rattle.java_grammar.proofs.Laws.{one_derivation}
use Rattle.java_grammar.proofs.Steps.{starts, fits_alone}

take_more : (tokens : List Token) (at : ℕ) (d : Token) → at < length tokens → take at tokens ++ get_or tokens at d ∷ [] ≡ take (at + 1) tokens
take_more [] at d l = grind arith
take_more (t ∷ ts) zero d l = refl
take_more (t ∷ ts) (suc at) d l = let e : suc at + 1 ≡ suc (at + 1) = omega arith in rw e (ap (λ y. t ∷ y) (take_more ts at d (omega (arith, l))))

whole : (tokens : List Token) (at : ℕ) → length tokens ≤ at → take at tokens ≡ tokens
whole tokens at l = sym (append-nil (take at tokens)) ∙ ap (λ y. take at tokens ++ y) (sym (drop_of_length-le tokens l)) ∙ take-append-drop at tokens

module _ (bytes : List ℕ) (stub : Bool) (start : Symbol) (tokens : List Token) (at : ℕ) where
  abbrev Reads : List Lexeme → Machine → Type 0
  Reads used m = Holds bytes (at_start stub) (Read start ∷ []) used Anything m

  viable : (used : List Lexeme) (m : Machine) → Reads used m → (ts : List Lexeme) × (es : List Step) × IsDerivation stub start (used ++ ts) es
  viable used m h =
      let r = ends_some_way (surroundings_of bytes m.context) (reverse m.stack.items) in
      (r.0, map (step_of bytes) m.events.items ++ r.1, h.sound r.0 r.1 tt r.2)

  pub wrong_here : (d : Token) (m n : Machine) (b : Bool) → Reads (lexemes_of bytes (take at tokens)) m
      → Advances bytes (get_or tokens at d) m n b → b ≡ false → at < length tokens → IsWrongAt stub start (lexemes_of bytes tokens) at
  wrong_here d m n true h k q l = absurd (true_false q)
  wrong_here d m n false h k q l = record {
    used = lexemes_of bytes (take at tokens);
    rest = lexeme_of bytes (get_or tokens at d) ∷ lexemes_of bytes (drop (suc at) tokens);
    parts = ap (map (lexeme_of bytes)) (sym (take-append-drop at tokens) ∙ ap (λ y. take at tokens ++ y) (drop-cons tokens at d l)) ∙ map-append (lexeme_of bytes) (take at tokens) (get_or tokens at d ∷ drop (suc at) tokens);
    goes_on = viable (lexemes_of bytes (take at tokens)) m h;
    place = length-map (take at tokens) (lexeme_of bytes) ∙ length-take-le at tokens (omega (arith, l));
    wrong = λ ts es e d. k (at_start stub) (Read start ∷ []) (lexemes_of bytes (take at tokens)) h ts es e d;
  }

  pub wrong_end : (m n : Machine) (b : Bool) → Reads (lexemes_of bytes (take at tokens)) m
      → Ends bytes m n b → b ≡ false → length tokens ≤ at → IsWrongAt stub start (lexemes_of bytes tokens) (length tokens)
  wrong_end m n true h k q l = absurd (true_false q)
  wrong_end m n false h k q l = record {
    used = lexemes_of bytes tokens;
    rest = [];
    parts = sym (append-nil (lexemes_of bytes tokens));
    goes_on = subst (λ y. (ts : List Lexeme) × (es : List Step) × IsDerivation stub start (lexemes_of bytes y ++ ts) es) (whole tokens at l) (viable (lexemes_of bytes (take at tokens)) m h);
    place = length-map tokens (lexeme_of bytes);
    wrong = λ ts es e d. k (at_start stub) (Read start ∷ []) (lexemes_of bytes (take at tokens)) h ts es e (subst (λ y. IsDerivation stub start (lexemes_of bytes y ++ ts) es) (sym (whole tokens at l)) d);
  }

  pub ended_at : (m n : Machine) (b : Bool) → Reads (lexemes_of bytes (take at tokens)) m
      → Ends bytes m n b → b ≡ true → length tokens ≤ at → IsDerivation stub start (lexemes_of bytes tokens) (map (step_of bytes) n.events.items)
  ended_at m n false h k q l = absurd (true_false (sym q))
  ended_at m n true h k q l = subst (λ y. IsDerivation stub start (lexemes_of bytes y) (map (step_of bytes) n.events.items)) (whole tokens at l)
      (k (at_start stub) (Read start ∷ []) (lexemes_of bytes (take at tokens)) h)

  pub took_one : (d : Token) (m n : Machine) (b : Bool) → Reads (lexemes_of bytes (take at tokens)) m
      → Advances bytes (get_or tokens at d) m n b → b ≡ true → at < length tokens → Reads (lexemes_of bytes (take (at + 1) tokens)) n
  took_one d m n false h k q l = absurd (true_false (sym q))
  took_one d m n true h k q l = subst (λ y. Reads y n)
      (sym (map-append (lexeme_of bytes) (take at tokens) (get_or tokens at d ∷ [])) ∙ ap (map (lexeme_of bytes)) (take_more tokens at d l))
      (k (at_start stub) (Read start ∷ []) (lexemes_of bytes (take at tokens)) h)

pub starts_at : (bytes : List ℕ) (stub : Bool) (start : Symbol) (m : Machine) → m.stack.items ≡ reverse (Read start ∷ []) → surroundings_of bytes m.context ≡ at_start stub → m.events.items ≡ []
    → Holds bytes (at_start stub) (Read start ∷ []) [] Anything m
starts_at bytes stub start m e f g = rw (e, f, g) (starts (at_start stub) (Read start ∷ []) (fits_alone start))

pub the_only : (stub : Bool) (start : Symbol) (tokens : List Lexeme) (es fs : List Step) → IsDerivation stub start tokens es → IsDerivation stub start tokens fs → fs ≡ es
the_only stub start tokens es fs d k = one_derivation es (fits_alone start) k d
