-- Bytes have one cut, or one refusal.
use Rattle.std.proofs.Common.{◌≡◌, ◌∙◌, ap, refl, sym, arith, ℕ, ◌≤◌, ◌<◌, inl, inr, List, take}
use Rattle.std.specs.Prelude.{◌⊎◌}
use Rattle.rlc_base.specs.Codes.{number_of}
use Rattle.rlc_base.specs.declared.code.Code.{Code}
use Rattle.rlc_base.specs.declared.faults.Refusal.{Refusal}
use Rattle.rlc_base.specs.declared.faults.Stop.{Stop}
use Rattle.rlc_base.specs.declared.faults.Stop.TheVariants as stops
use Rattle.java_syntax.specs.declared.tokens.Token.{Token}
use Rattle.java_lexer.specs.Cut.{IsCut, IsRefusal, IsStopAt, place_behind}
use Rattle.java_lexer.proofs.CutLaws.{cut_unique, refusal_not_cut}
use Rattle.reading_laws.proofs.OneRefusal.{one_code}

pub one_cut : (file : ℕ) (bytes : List ℕ) (tokens others : List Token) → IsCut file bytes tokens → IsCut file bytes others → tokens ≡ others
one_cut file bytes tokens others is also = cut_unique file bytes is.cut also.cut

pub no_stop : (file : ℕ) (bytes : List ℕ) (tokens : List Token) (stop : Stop) → IsCut file bytes tokens → IsStopAt file bytes stop → stop ≡ stops.NoMemory
no_stop file bytes tokens (stops.Refused r) cut stopped = absurd (refusal_not_cut file bytes stopped.0 r.code tokens stopped.1 cut)
no_stop file bytes tokens (stops.TooMuch r) cut stopped = absurd stopped
no_stop file bytes tokens stops.NoMemory cut stopped = refl

one_least : (m n a b : ℕ) → (m < n) ⊎ ((m ≡ n) × (a ≤ b)) → (n < m) ⊎ ((n ≡ m) × (b ≤ a)) → (m ≡ n) × (a ≡ b)
one_least m n a b (inl less) (inl more) = absurd (omega (arith, less, more))
one_least m n a b (inl less) (inr same) = absurd (omega (arith, less, same.0))
one_least m n a b (inr same) (inl more) = absurd (omega (arith, same.0, more))
one_least m n a b (inr same) (inr also) = (same.0, omega (arith, same.1, also.1))

one_fault : (bytes : List ℕ) (place other_place : ℕ) (code other_code : Code) → IsRefusal bytes place code → IsRefusal bytes other_place other_code → (place ≡ other_place) × (code ≡ other_code)
one_fault bytes place other_place code other_code is also =
    let same = one_least place other_place (number_of code) (number_of other_code) (is.least other_place other_code also.fault) (also.least place code is.fault) in
    (same.0, one_code code other_code same.1)

pub one_stop : (file : ℕ) (bytes : List ℕ) (r q : Refusal) → IsStopAt file bytes (stops.Refused r) → IsStopAt file bytes (stops.Refused q) → r ≡ q
one_stop file bytes r q is also =
    let same = one_fault bytes is.0 also.0 r.code q.code is.1 also.1 in
    let pos = is.2 ∙ ap (λ n. place_behind file (take n bytes)) same.0 ∙ sym also.2 in
    λ i. record { code = same.1 i; pos = pos i }
