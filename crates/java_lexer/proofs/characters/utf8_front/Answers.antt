use Rattle.std.proofs.Common.{◌≡◌, ◌<◌, length, take, arith, ap, sym, ◌∙◌, subst}
use Rattle.std.specs.Str.{IsUtf8, IsValidUpTo}
use Rattle.std.proofs.lemmas.List.{length-take-le}
use Rattle.java_lexer.proofs.TextLaws.{no_character, nothing_stands}
use Rattle.java_lexer.proofs.characters.utf8_front.Goals as goal

pub returns-in-Ok-clause-longest : goal.returns-in-Ok-clause-longest
returns-in-Ok-clause-longest c empty =
    let front : length (take c.min.result c.args.text.now) ≡ 0 = ap length (sym c.in-Ok.ensures.cases.0) ∙ empty in
    let size : length (take c.min.result c.args.text.now) ≡ c.min.result = length-take-le c.min.result c.args.text.now (omega arith) in
    nothing_stands c.args.text.now (omega arith)

pub returns-in-Ok-from_utf8-clause-longest : goal.returns-in-Ok-from_utf8-clause-longest
returns-in-Ok-from_utf8-clause-longest c empty =
    let fault : IsValidUpTo (take c.min.result c.args.text.now) c.valid_up_to.result = subst (λ n. IsValidUpTo (take c.min.result c.args.text.now) n) (sym c.valid_up_to.ensures) c.in-Err.ensures.cases.1 in
    let short = fault.short in
    let front : length (take c.valid_up_to.result (take c.min.result c.args.text.now)) ≡ 0 = ap length (sym c.in-Ok-from_utf8.ensures.cases.0) ∙ empty in
    let size : length (take c.valid_up_to.result (take c.min.result c.args.text.now)) ≡ c.valid_up_to.result = length-take-le c.valid_up_to.result (take c.min.result c.args.text.now) (omega arith) in
    let none : c.valid_up_to.result ≡ 0 = omega arith in
    no_character c.args.text.now (subst (λ n. (m : _) → 0 < m → IsUtf8 (take m (take n c.args.text.now)) → ⊥) c.min.ensures (λ m more. fault.longest m (omega arith)))
