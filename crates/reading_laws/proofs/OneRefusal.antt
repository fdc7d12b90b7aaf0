-- Codes differ in their numbers, and the order of refusals is total.
use Rattle.std.proofs.Common.{◌≡◌, ◌∙◌, ap, refl, sym, arith, ℕ, Bool, true, false}
use Rattle.std.specs.Prelude.{nat_lt, ◌==◌, if◌then◌else◌}
use Rattle.std.proofs.lemmas.Bool.Decides.{nat_tests}
use Rattle.rlc_base.specs.Codes.{number_of}
use Rattle.rlc_base.specs.declared.code.Code.{Code}
use Rattle.rlc_base.specs.declared.code.Code.TheVariants as refused
use Rattle.rlc_base.specs.declared.faults.Refusal.{Refusal}
use Rattle.refusal_order.specs.Refusals.{is_before, is_less_or}

-- ---- codes

-- the code of a number
code_of : ℕ → Code
code_of n =
    if n == 11 then refused.OpenComment else
    if n == 12 then refused.OpenText else
    if n == 13 then refused.BadLiteral else
    if n == 14 then refused.LeftOutWord else
    if n == 20 then refused.Syntax else
    if n == 30 then refused.DoubleClass else
    if n == 31 then refused.UnknownType else
    if n == 32 then refused.CyclicSupers else
    if n == 33 then refused.DoubleMember else
    if n == 34 then refused.BadSuper else
    if n == 40 then refused.NoSuchName else
    if n == 41 then refused.NoSuchMethod else
    if n == 42 then refused.Ambiguous else
    if n == 43 then refused.Mismatch else
    if n == 44 then refused.UndeclaredException else
    if n == 45 then refused.BadOverride else
    if n == 46 then refused.NotAbstract else
    if n == 50 then refused.BadAnno else
    if n == 51 then refused.NoSuchMustCall else
    if n == 52 then refused.BadAlias else
    if n == 53 then refused.BadOwningOverride else
    if n == 54 then refused.NoFinalizer else
    if n == 55 then refused.OwningFieldShape else
    if n == 56 then refused.BadReset else
    if n == 57 then refused.SmallSet else
    if n == 60 then refused.FileTooBig else
    if n == 61 then refused.TooDeep else
    if n == 62 then refused.TooManyClasses else
    if n == 63 then refused.MethodTooLarge else
    if n == 64 then refused.TooManyPlaces else
    if n == 65 then refused.TooManyFacts else
    if n == 66 then refused.TooManyFiles else
    if n == 67 then refused.TooMuchText else
    if n == 68 then refused.TooManyNames else
    if n == 69 then refused.TooManyFaults else
    if n == 70 then refused.BadToml else
    if n == 71 then refused.BadKey else
    if n == 72 then refused.BadVersion else
    if n == 73 then refused.BadChoices else
    if n == 74 then refused.NoMain else
    if n == 80 then refused.BadCert else
    if n == 81 then refused.CertOpen else
    if n == 82 then refused.CertTooBig else
    if n == 83 then refused.BadScript else
    if n == 84 then refused.TooManyEdits else refused.BadByte

code_of_number : (c : Code) → code_of (number_of c) ≡ c
unfolding code_of
code_of_number refused.BadByte = refl
code_of_number refused.OpenComment = refl
code_of_number refused.OpenText = refl
code_of_number refused.BadLiteral = refl
code_of_number refused.LeftOutWord = refl
code_of_number refused.Syntax = refl
code_of_number refused.DoubleClass = refl
code_of_number refused.UnknownType = refl
code_of_number refused.CyclicSupers = refl
code_of_number refused.DoubleMember = refl
code_of_number refused.BadSuper = refl
code_of_number refused.NoSuchName = refl
code_of_number refused.NoSuchMethod = refl
code_of_number refused.Ambiguous = refl
code_of_number refused.Mismatch = refl
code_of_number refused.UndeclaredException = refl
code_of_number refused.BadOverride = refl
code_of_number refused.NotAbstract = refl
code_of_number refused.BadAnno = refl
code_of_number refused.NoSuchMustCall = refl
code_of_number refused.BadAlias = refl
code_of_number refused.BadOwningOverride = refl
code_of_number refused.NoFinalizer = refl
code_of_number refused.OwningFieldShape = refl
code_of_number refused.BadReset = refl
code_of_number refused.SmallSet = refl
code_of_number refused.FileTooBig = refl
code_of_number refused.TooDeep = refl
code_of_number refused.TooManyClasses = refl
code_of_number refused.MethodTooLarge = refl
code_of_number refused.TooManyPlaces = refl
code_of_number refused.TooManyFacts = refl
code_of_number refused.TooManyFiles = refl
code_of_number refused.TooMuchText = refl
code_of_number refused.TooManyNames = refl
code_of_number refused.TooManyFaults = refl
code_of_number refused.BadToml = refl
code_of_number refused.BadKey = refl
code_of_number refused.BadVersion = refl
code_of_number refused.BadChoices = refl
code_of_number refused.NoMain = refl
code_of_number refused.BadCert = refl
code_of_number refused.CertOpen = refl
code_of_number refused.CertTooBig = refl
code_of_number refused.BadScript = refl
code_of_number refused.TooManyEdits = refl

pub one_code : (c d : Code) → number_of c ≡ number_of d → c ≡ d
one_code c d same = sym (code_of_number c) ∙ ap code_of same ∙ code_of_number d

-- ---- places

same_or : (a b : ℕ) (p q : Bool) → is_less_or a b p ≡ false → is_less_or b a q ≡ false → a ≡ b
same_or a b p q h k = grind (arith, nat_tests)

behind_or : (a b : ℕ) (p : Bool) → a ≡ b → is_less_or a b p ≡ false → p ≡ false
behind_or a b true same h = grind (arith, nat_tests)
behind_or a b false same h = refl

not_less : (a b : ℕ) → nat_lt a b ≡ false → nat_lt b a ≡ false → a ≡ b
not_less a b h k = grind (arith, nat_tests)

pub one_first : (x y : Refusal) → is_before x y ≡ false → is_before y x ≡ false → x ≡ y
one_first x y h k =
    let file = same_or x.pos.file y.pos.file _ _ h k in
    let line_first = behind_or x.pos.file y.pos.file _ file h in
    let line_second = behind_or y.pos.file x.pos.file _ (sym file) k in
    let line = same_or x.pos.line y.pos.line _ _ line_first line_second in
    let col_first = behind_or x.pos.line y.pos.line _ line line_first in
    let col_second = behind_or y.pos.line x.pos.line _ (sym line) line_second in
    let col = same_or x.pos.col y.pos.col _ _ col_first col_second in
    let code_first = behind_or x.pos.col y.pos.col _ col col_first in
    let code_second = behind_or y.pos.col x.pos.col _ (sym col) col_second in
    let code = one_code x.code y.code (not_less _ _ code_first code_second) in
    λ i. record { code = code i; pos = record { file = file i; line = line i; col = col i } }
