-- The simple name in a qualified name, by where what stands behind the last dot begins.
use Rattle.std.proofs.Common.{◌≡◌, ◌∙◌, sym, ap, refl, arith, ℕ, ◌+◌, ◌-◌, ◌<◌, ◌≤◌, List, [], ◌∷◌, length, take, drop}
use Rattle.std.proofs.lemmas.List.{length-drop, length-take-le}
use Rattle.source_classes.specs.SourceClasses.{behind_last_dot, package_name, simple_in, simple_name}

in_some : (front name : List ℕ) → 0 < length front → simple_in front name ≡ behind_last_dot name name
in_some [] name some = absurd (omega (arith, some))
in_some (b ∷ bs) name some = refl

package_long : (name : List ℕ) (start : ℕ) → start ≤ length name → drop start name ≡ behind_last_dot name name → length (package_name name) ≡ start - 1
package_long name start within behind =
    let long : length (behind_last_dot name name) ≡ length name - start = ap length (sym behind) ∙ length-drop start name in
    let cut : length name - (length (behind_last_dot name name) + 1) ≡ start - 1 = omega (arith, long, within) in
    ap (λ n. length (take n name)) cut ∙ length-take-le (start - 1) name (omega (arith, within))

pub simple_behind : (name : List ℕ) (start : ℕ) → start ≤ length name → drop start name ≡ behind_last_dot name name → 1 < start → drop start name ≡ simple_name name
simple_behind name start within behind some =
    let long = package_long name start within behind in
    behind ∙ sym (in_some (package_name name) name (omega (arith, long, some)))

in_none : (front name : List ℕ) → length front ≡ 0 → simple_in front name ≡ name
in_none [] name none = refl
in_none (b ∷ bs) name none = absurd (omega (arith, none))

pub simple_whole : (name : List ℕ) (start : ℕ) → start ≤ length name → drop start name ≡ behind_last_dot name name → start ≤ 1 → name ≡ simple_name name
simple_whole name start within behind none =
    let long = package_long name start within behind in
    sym (in_none (package_name name) name (omega (arith, long, none)))
