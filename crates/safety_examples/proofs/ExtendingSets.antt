-- Sets of places and of names, as the flow rules ask for them.
pub use Rattle.safety_examples.proofs.CarefulSets.{close_not_none, within_itself}
use Rattle.std.proofs.Common.{◌≡◌, ℕ, Bool, true, false, not, ◌&&◌, ◌||◌, ◌==◌, refl, sym, ap, ◌∙◌, true≢false}
use Rattle.std.specs.Cmp.{nat_cmp_total, unsigned_tied}
use Rattle.std.specs.FinSet as set
use Rattle.std.specs.Ordering.{nat_cmp}
use Rattle.rlc_base.specs.NameSet.{inserted}
use Rattle.program_model.proofs.NameLaws.{union_none}
use Rattle.program_model.specs.NameSets.{Names}
use Rattle.obligation_facts.specs.Facts.{PlaceSet, has_field_from}
use Rattle.safety_examples.specs.CarefulPrograms.{no_names}
use Rattle.safety_examples.proofs.CarefulSets.{contains_none}

pub removed : (s : set.FinSet nat_cmp) (n k : ℕ) → set.contains (set.remove s n) k ≡ (not (k == n) && set.contains s k)
removed s n k = set.contains-remove nat_cmp_total s n k ∙ ap (λ b. not b && set.contains s k) (unsigned_tied k n)

-- a set with a member is not empty
pub somewhere : (s : set.FinSet nat_cmp) (k : ℕ) → set.contains s k ≡ true → set.is_subset s set.empty ≡ false
somewhere s k has = go (set.is_subset s set.empty) refl
  where
    go : (b : Bool) → set.is_subset s set.empty ≡ b → set.is_subset s set.empty ≡ false
    go true within = absurd (true≢false (sym (set.is_subset-contains nat_cmp_total s set.empty within k has) ∙ contains_none k))
    go false not_within = not_within

-- a set without members is empty
pub nowhere : (s : set.FinSet nat_cmp) → ((k : ℕ) → set.contains s k ≡ false) → set.is_subset s set.empty ≡ true
nowhere s none = set.contains-is_subset nat_cmp_total s set.empty (λ k has. absurd (true≢false (sym has ∙ none k)))

-- the one member, in a set of one
pub alone : (n k : ℕ) → set.contains (set.insert no_names n) k ≡ (k == n)
alone n k = inserted no_names n k ∙ ap (λ b. (k == n) || b) (contains_none k) ∙ or_none (k == n)
  where
    or_none : (b : Bool) → (b || false) ≡ b
    or_none true = refl
    or_none false = refl

-- a set of places with that of the first owning field has one of a field
pub holds_field : (s : PlaceSet) → set.contains s 161 ≡ true → has_field_from s 0 16 ≡ true
unfolding has_field_from
holds_field s has = ap (λ b. b || has_field_from s 1 15) has

-- what was called leaves nothing of itself
pub none_left : (s : Names) → set.is_subset (set.difference s s) no_names ≡ true
none_left s = nowhere (set.difference s s) (λ k. set.contains-difference nat_cmp_total s s k ∙ and_not (set.contains s k))
  where
    and_not : (b : Bool) → (b && not b) ≡ false
    and_not true = refl
    and_not false = refl

pub nothing_left : (t : Names) → set.is_subset (set.difference no_names t) no_names ≡ true
nothing_left t = nowhere (set.difference no_names t) (λ k. set.contains-difference nat_cmp_total no_names t k ∙ ap (λ b. b && not (set.contains t k)) (contains_none k))

pub nothing_promised : (t : Names) → set.is_subset (set.difference (set.union no_names no_names) t) no_names ≡ true
nothing_promised t = ap (λ (s : Names). set.is_subset (set.difference s t) no_names) (union_none no_names) ∙ nothing_left t
