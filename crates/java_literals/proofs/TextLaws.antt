-- The texts of string literals, a byte at a time.
use Rattle.std.proofs.Common.{◌≡◌, ◌∙◌, ℕ, ◌+◌, ◌<◌, List, ◌++◌, Option, Some, None, length, drop, get_or, ap, sym, refl, append_assoc}
use Rattle.std.specs.Prelude.{option_map, option_and_then}
use Rattle.std.proofs.lemmas.List.{drop_more}
use Rattle.java_literals.specs.declared.texts.Within.{Within}
use Rattle.java_literals.specs.declared.texts.Within.TheVariants as within
use Rattle.java_literals.specs.Texts.{after, text_from, text_step}

-- what is put before a text twice is put before it at once
before_twice : (front next : List ℕ) (o : Option (List ℕ)) → option_map (λ more. (front ++ next) ++ more) o ≡ option_map (λ more. front ++ more) (option_map (λ more. next ++ more) o)
before_twice front next None = refl
before_twice front next (Some more) = ap Some (append_assoc front next more)

same_pair : (p q : List ℕ × Within) → Some p ≡ Some q → p ≡ q
same_pair p q e = cc

step_on : (pushed new : List ℕ) (next : Within) (bs : List ℕ) (o : Option (List ℕ × Within))
    → option_map (λ s. (new, s)) (Some next) ≡ option_map (after pushed) o
    → option_map (λ more. new ++ more) (text_from bs next)
    ≡ option_map (λ more. pushed ++ more) (option_and_then (λ step. option_map (λ more. step.0 ++ more) (text_from bs step.1)) o)
step_on pushed new next bs None e = cc
step_on pushed new next bs (Some s) e =
    let both : (new, next) ≡ after pushed s = same_pair (new, next) (after pushed s) e in
    let front : new ≡ pushed ++ s.0 = ap (λ (p : List ℕ × Within). p.0) both in
    let state : next ≡ s.1 = ap (λ (p : List ℕ × Within). p.1) both in
    rw (front, state) (before_twice pushed s.0 (text_from bs s.1))

-- one byte of a literal more
pub text_turn : (bytes : List ℕ) (i : ℕ) (pushed new : List ℕ) (state next : Within)
    → i < length bytes
    → option_map (λ s. (new, s)) (Some next) ≡ option_map (after pushed) (text_step state (get_or bytes i 0))
    → option_map (λ more. pushed ++ more) (text_from (drop i bytes) state) ≡ text_from bytes within.Plain
    → option_map (λ more. new ++ more) (text_from (drop (i + 1) bytes) next) ≡ text_from bytes within.Plain
text_turn bytes i pushed new state next h step so_far =
    step_on pushed new next (drop (i + 1) bytes) (text_step state (get_or bytes i 0)) step
    ∙ sym (ap (λ bs. option_map (λ more. pushed ++ more) (text_from bs state)) (drop_more bytes i 0 h))
    ∙ so_far
