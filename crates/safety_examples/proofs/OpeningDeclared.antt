-- The program declares no method twice.
use Rattle.std.proofs.Common.{◌≡◌, ◌∙◌, ap, sym, refl, eqb-true, eq-eqb, nat_eq, ℕ, Bool, true, not, ◌&&◌, ◌||◌}
use Rattle.std.proofs.lemmas.Bool.{and_from}
use Rattle.program_model.specs.declared.kinds.MethodId.{MethodId}
use Rattle.program_model.specs.declared.program.Method.{Method}
use Rattle.program_model.specs.Overrides.{are_alike}
use Rattle.program_model.specs.SuperTests.{is_class}
use Rattle.soundness_laws.specs.AcceptedProgramsConditions.{DeclaresOnce}
use Rattle.safety_examples.specs.OpeningPrograms.{opening}
use Rattle.safety_examples.specs.ReplacingPrograms.{methods_declared}
use Rattle.safety_examples.proofs.Tests.{passes_at, test_each}

-- where the first test passes, the second does
so_passes : (a b : Bool) → (not a || b) ≡ true → a ≡ true → b ≡ true
so_passes a b either first = sym (ap (λ z. not z || b) first) ∙ either

-- ---- methods

same_method : (a b : MethodId) → a.0 ≡ b.0 → a ≡ b
same_method a b same = λ i. record { 0 = same i }

abbrev differs : ℕ → Method → ℕ → Method → Bool
differs i x j y = not (is_class x.class y.class && are_alike x y) || nat_eq i j

all_differ : test_each (λ i x. test_each (differs i x) methods_declared) methods_declared ≡ true
all_differ = refl

pub declares_once : DeclaresOnce opening
declares_once a b x y at_x at_y same alike =
    let first : test_each (differs a.0 x) methods_declared ≡ true = passes_at (λ i (z : Method). test_each (differs i z) methods_declared) methods_declared a.0 x all_differ at_x in
    let both : differs a.0 x b.0 y ≡ true = passes_at (differs a.0 x) methods_declared b.0 y first at_y in
    same_method a b (eqb-true a.0 b.0 (so_passes (is_class x.class y.class && are_alike x y) (nat_eq a.0 b.0) both (and_from (is_class x.class y.class) (are_alike x y) (ap (is_class x.class) (sym same) ∙ eq-eqb x.class.0 x.class.0 refl) alike)))
