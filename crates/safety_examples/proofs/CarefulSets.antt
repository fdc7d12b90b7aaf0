-- What the tests on the sets of the examples answer.
use Rattle.std.proofs.Common.{◌≡◌, ℕ, Bool, true, false, not, ◌&&◌, ◌||◌, refl, sym, ap, ◌∙◌, true≢false}
use Rattle.std.specs.Cmp.{nat_cmp_total}
use Rattle.std.specs.FinSet as set
use Rattle.std.specs.Ordering.{nat_cmp}
use Rattle.rlc_base.specs.NameSet.{inserted}
use Rattle.safety_examples.specs.CarefulPrograms.{close_alone, no_names}
use Rattle.program_model.specs.NameSets.{Names}

pub contains_none : (k : ℕ) → set.contains no_names k ≡ false
contains_none k = set.contains-empty nat_cmp k

pub contains_close : set.contains close_alone 0 ≡ true
contains_close = inserted set.empty 0 0

pub within_itself : (s : Names) → set.is_subset s s ≡ true
within_itself s = set.contains-is_subset nat_cmp_total s s (λ k has. has)

pub none_within : (s : Names) → set.is_subset no_names s ≡ true
none_within s = set.contains-is_subset nat_cmp_total no_names s (λ k has. absurd (true≢false (sym has ∙ contains_none k)))

pub close_not_none : set.is_subset close_alone no_names ≡ false
close_not_none = go (set.is_subset close_alone no_names) refl
  where
    go : (b : Bool) → set.is_subset close_alone no_names ≡ b → set.is_subset close_alone no_names ≡ false
    go true within = absurd (true≢false (sym (set.is_subset-contains nat_cmp_total close_alone no_names within 0 contains_close) ∙ contains_none 0))
    go false not_within = not_within

-- `close` is new where nothing was called
pub close_is_new : set.contains (set.difference close_alone no_names) 0 ≡ true
close_is_new = set.contains-difference nat_cmp_total close_alone no_names 0 ∙ ap (λ b. b && not (set.contains no_names 0)) contains_close ∙ ap not (contains_none 0)

-- and it is not new where it was called
pub close_is_old : set.contains (set.difference close_alone close_alone) 0 ≡ false
close_is_old = set.contains-difference nat_cmp_total close_alone close_alone 0 ∙ ap (λ b. b && not b) contains_close

pub nothing_is_new : set.contains (set.difference no_names no_names) 0 ≡ false
nothing_is_new = set.contains-difference nat_cmp_total no_names no_names 0 ∙ ap (λ b. b && not (set.contains no_names 0)) (contains_none 0)

-- two classes without obligations
pub both_light : (not (set.is_subset no_names no_names) || (not (set.is_subset no_names no_names) || false)) ≡ false
both_light = ap (λ (b : Bool). not b || (not b || false)) (within_itself no_names)
