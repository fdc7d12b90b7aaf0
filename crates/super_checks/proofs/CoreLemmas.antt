-- The core library by tests of its parts.
use Rattle.std.proofs.Common.{◌≡◌, ◌↔◌, ◌∙◌, arith, sym, refl, true≢false, Bool, true, false, not, ◌&&◌, IsTrue, List, ℕ}
use Rattle.std.specs.Prelude.{codes, length, slice_get, ◌<◌}
use Rattle.program_model.specs.declared.kinds.ClassId.{ClassId}
use Rattle.program_model.specs.declared.program.CoreClasses.{CoreClasses}
use Rattle.class_names.specs.declared.class_name.ClassName.{ClassName}
use Rattle.class_order.specs.Core.{AreCore}
use Rattle.class_order.specs.Declarations.{Declaration}
use Rattle.class_headers.proofs.KnownLemmas.{found_within}
use Rattle.class_headers.specs.SuperTypes.{IsUnder}
use Rattle.super_checks.specs.SuperCases.{AreOfLibrary, HasExceptions, HasStringClass, IsCoreLibrary, is_final_at, is_library_at, language_exceptions}

-- the class of strings is a class of the program
pub string_within : (classes : List ClassName) (k : CoreClasses) (count : ℕ) → length classes ≡ count → AreCore classes k → k.string.0 < count
string_within classes k count long core = let below = found_within classes (codes "java.lang.String") k.string core.roots.string in omega (arith, below, long)

-- a test that computes tells what it tests
pub test_told : (a b : Bool) → a ≡ b → IsTrue a ↔ (b ≡ true)
test_told a b same = ((λ is. sym same ∙ is), (λ is. same ∙ is))

-- the class of strings by its two tests
pub string_told : (order : List Declaration) (direct : List (List ClassId)) (core : CoreClasses) (final exception : Bool) → final ≡ is_final_at (slice_get order core.string.0) → IsTrue exception ↔ IsUnder direct core.string core.throwable
    → IsTrue (final && not exception) ↔ HasStringClass order direct core
string_told order direct core true true is under = (
  (λ never. absurd (true≢false (sym never))),
  (λ h. absurd (h.no_exception (under.0 refl))),
)
string_told order direct core true false is under = (
  (λ yes. record { final = sym is; no_exception = λ u. true≢false (sym (under.1 u)) }),
  (λ h. refl),
)
string_told order direct core false exception is under = (
  (λ never. absurd (true≢false (sym never))),
  (λ h. absurd (true≢false (sym (is ∙ h.final)))),
)

-- the core library by the tests of the order of its exceptions, of what declares them, of its root and of its class of strings
pub library_told : (order : List Declaration) (direct : List (List ClassId)) (core : CoreClasses) (ordered thrown object string : Bool) → IsTrue ordered ↔ HasExceptions direct core → IsTrue thrown ↔ AreOfLibrary order (language_exceptions core)
    → object ≡ is_library_at (slice_get order core.object.0) → IsTrue string ↔ HasStringClass order direct core → IsTrue ((ordered && thrown) && (object && string)) ↔ IsCoreLibrary order direct core
library_told order direct core true true true true e t o s = (
  (λ yes. record { exceptions = e.0 refl; language = t.0 refl; object = sym o; string = s.0 refl }),
  (λ h. refl),
)
library_told order direct core true true true false e t o s = (
  (λ never. absurd (true≢false (sym never))),
  (λ h. s.1 h.string),
)
library_told order direct core true true false string e t o s = (
  (λ never. absurd (true≢false (sym never))),
  (λ h. absurd (true≢false (sym (o ∙ h.object)))),
)
library_told order direct core true false object string e t o s = (
  (λ never. absurd (true≢false (sym never))),
  (λ h. t.1 h.language),
)
library_told order direct core false thrown object string e t o s = (
  (λ never. absurd (true≢false (sym never))),
  (λ h. e.1 h.exceptions),
)
