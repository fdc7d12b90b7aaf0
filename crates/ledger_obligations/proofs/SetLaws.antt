-- A set cut to another one.
use Rattle.std.proofs.Common.{◌≡◌, ◌∙◌, ap, sym, refl, Bool, true, false, not, ◌&&◌}
use Rattle.std.specs.Cmp.{nat_cmp_total}
use Rattle.std.specs.FinSet as set
use Rattle.must_call_sets.specs.MustCallSets.{Names}
use Rattle.rlc_base.specs.NameSet.{same_members}

both : (a b : Bool) → (a && not (a && not b)) ≡ (a && b)
both true true = refl
both true false = refl
both false b = refl

-- without what it has beyond the other set
pub cut_set : (s t : Names) → set.difference s (set.difference s t) ≡ set.intersection s t
cut_set s t =
    same_members (set.difference s (set.difference s t)) (set.intersection s t)
    (λ k. set.contains-difference nat_cmp_total s (set.difference s t) k
    ∙ ap (λ b. set.contains s k && not b) (set.contains-difference nat_cmp_total s t k)
    ∙ both (set.contains s k) (set.contains t k)
    ∙ sym (set.contains-intersection nat_cmp_total s t k))
