-- Known bytes to which one front after another is appended.
use Rattle.std.proofs.Common.{◌≡◌, ℕ, ◌+◌, ◌≤◌, List, ◌++◌, length, take, drop, Option, Some, None, refl, sym, ap, ◌∙◌, append-nil, append_assoc}
use Rattle.std.proofs.Math.Seq.{take-add}
use Rattle.std.proofs.lemmas.List.{take_all}
use Rattle.std.specs.Io.KnownBytes.{append_known}

-- at first nothing was appended
pub appended_none : (known : Option (List ℕ)) (bytes : List ℕ) → known ≡ append_known known (take 0 bytes)
appended_none None bytes = refl
appended_none (Some xs) bytes = sym (ap Some (append-nil xs))

appended_twice : (known : Option (List ℕ)) (xs ys : List ℕ) → append_known (append_known known xs) ys ≡ append_known known (xs ++ ys)
appended_twice None xs ys = refl
appended_twice (Some zs) xs ys = ap Some (append_assoc zs xs ys)

-- after a front of `sent` bytes, the next `count` bytes of the rest
pub appended_more : (first old new : Option (List ℕ)) (bytes : List ℕ) (sent count : ℕ)
    → old ≡ append_known first (take sent bytes)
    → new ≡ append_known old (take count (drop sent bytes))
    → new ≡ append_known first (take (sent + count) bytes)
appended_more first old new bytes sent count front more =
    more
    ∙ ap (λ known. append_known known (take count (drop sent bytes))) front
    ∙ appended_twice first (take sent bytes) (take count (drop sent bytes))
    ∙ ap (append_known first) (sym (take-add sent count bytes))

-- a front that is as long as the bytes is all of them
pub appended_all : (first now : Option (List ℕ)) (bytes : List ℕ) (sent : ℕ)
    → now ≡ append_known first (take sent bytes) → length bytes ≤ sent → now ≡ append_known first bytes
appended_all first now bytes sent front all = front ∙ ap (append_known first) (take_all sent bytes all)
