-- The parts of a program whose annotations are read.
use Rattle.std.proofs.Common.{◌≡◌, ◌∙◌, ℕ, zero, suc, ◌<◌, List, [], ◌∷◌, Option, None, Some, Ok, length, All, ap, refl, subst, arith}
use Rattle.std.specs.List.{AllZip}
use Rattle.program_model.specs.declared.program.Class.{Class}
use Rattle.program_model.specs.declared.program.Field.{Field}
use Rattle.program_model.specs.declared.program.Method.{Method}
use Rattle.std.proofs.lemmas.List.{length-map}
use Rattle.rlc_base.specs.declared.faults.Refusal.{Refusal}
use Rattle.annotation_rules.specs.Refusals.{least, verdict_of}
use Rattle.effective_signatures.specs.Effective.{signed_parameter}
use Rattle.effective_signatures.specs.SignedMethods.{IsSignedMethod}

pub moved_methods : (names : List (List ℕ)) (fields fields' : List Field) (classes classes' : List Class) (methods methods' signed : List Method)
    → fields ≡ fields' → classes ≡ classes' → methods ≡ methods' → AllZip (IsSignedMethod names fields classes) methods signed
    → AllZip (IsSignedMethod names fields' classes') methods' signed
moved_methods names fields fields' classes classes' methods methods' signed f c m all =
    subst (λ ms. AllZip (IsSignedMethod names fields' classes') ms signed) m
    (subst (λ ks. AllZip (IsSignedMethod names fields' ks) methods signed) c
    (subst (λ fs. AllZip (IsSignedMethod names fs classes) methods signed) f all))

-- a signed method has as many parameters as before
pub signed_lengths : (names : List (List ℕ)) (fields : List Field) (classes : List Class) (most : ℕ) (old signed : List Method)
    → AllZip (IsSignedMethod names fields classes) old signed → All (λ (m : Method). length m.sig.params.items < most) old
    → All (λ (m : Method). length m.sig.params.items < most) signed
signed_lengths names fields classes most [] [] all few k d h = absurd (omega arith)
signed_lengths names fields classes most [] (s ∷ ss) all few k d h = absurd all
signed_lengths names fields classes most (m ∷ ms) [] all few k d h = absurd all
signed_lengths names fields classes most (m ∷ ms) (s ∷ ss) all few zero d h =
    let same = ap length all.0.signature.params ∙ length-map m.sig.params.items (signed_parameter names) in
    let bound = few 0 d (omega arith) in
    omega (arith, same, bound)
signed_lengths names fields classes most (m ∷ ms) (s ∷ ss) all few (suc k) d h =
    signed_lengths names fields classes most ms ss all.1 (λ j e g. few (suc j) e (omega arith)) k d (omega arith)

-- where the least of some cases is none, there is no case
pub no_least : (cases : List Refusal) → least cases ≡ None → cases ≡ []
no_least [] none = refl
no_least (x ∷ xs) none = absurd (let no = none in cc)

ok_none : (least : Option Refusal) (u : Unit {0}) → Ok u ≡ verdict_of least → least ≡ None
ok_none None u is = refl
ok_none (Some x) u is = absurd (cc)

-- a pass that refuses nothing has no case
pub no_cases : (cases : List Refusal) (u : Unit {0}) → Ok u ≡ verdict_of (least cases) → cases ≡ []
no_cases cases u is = no_least cases (ok_none (least cases) u is)
