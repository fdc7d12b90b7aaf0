-- Keys that differ are told apart.
use Rattle.std.proofs.Common.{◌≡◌, ℕ, false, List, refl, Ordering, Less, Equal, Greater, is_eq, nat_cmp}
use Rattle.std.proofs.lemmas.Map.Lookups.{exact_bytes}
use Rattle.std.specs.Cmp.Lexicographic.{slice_cmp}
use Rattle.toml.specs.Data.{same_key}

pub other_key : (k l : List ℕ) → (k ≡ l → ⊥) → same_key k l ≡ false
other_key k l other = by_order (slice_cmp nat_cmp k l) refl
  where
    by_order : (o : Ordering) → slice_cmp nat_cmp k l ≡ o → is_eq o ≡ false
    by_order Less is = refl
    by_order Equal is = absurd (other (exact_bytes k l is))
    by_order Greater is = refl
