-- Sets of places without those of fields of `this` and of its part of the super class.
use Rattle.std.proofs.Common.{◌≡◌, ℕ, zero, suc, ◌+◌, Bool, true, false, not, ◌&&◌, ◌==◌, refl, ap, ◌∙◌}
use Rattle.std.specs.FinSet as set
use Rattle.java_control.specs.PlaceNumbers.{number_of}
use Rattle.control_actions.specs.declared.place.Place.TheVariants as places
use Rattle.obligation_facts.specs.Facts.{PlaceSet, without, without_fields, without_fields_from, without_parts}
use Rattle.safety_examples.proofs.OwnerSets.{removed}

-- the number is that of none of n fields from number j on
abbrev pub is_no_field : ℕ → ℕ → ℕ → Bool
is_no_field k j zero = true
is_no_field k j (suc n) = is_no_field k (j + 1) n && not (k == number_of (places.Field j))

both_and : (a b c : Bool) → (a && (b && c)) ≡ ((a && b) && c)
both_and true b c = refl
both_and false b c = refl

fields_left : (s : PlaceSet) (k j n : ℕ) → set.contains (without_fields_from s j n) k ≡ (is_no_field k j n && set.contains s k)
unfolding without_fields_from
fields_left s k j zero = refl
fields_left s k j (suc n) =
    fields_left (without s (places.Field j)) k (j + 1) n ∙ ap (λ (b : Bool). is_no_field k (j + 1) n && b) (removed s (number_of (places.Field j)) k)
    ∙ both_and (is_no_field k (j + 1) n) (not (k == number_of (places.Field j))) (set.contains s k)

pub parts_left : (s : PlaceSet) (k : ℕ) → set.contains (without_parts s) k ≡ (not (k == number_of places.Super) && (is_no_field k 0 16 && set.contains s k))
parts_left s k = removed (without_fields s) (number_of places.Super) k ∙ ap (λ (b : Bool). not (k == number_of places.Super) && b) (fields_left s k 0 16)
