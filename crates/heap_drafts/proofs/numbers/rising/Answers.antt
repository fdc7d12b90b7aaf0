use Rattle.std.proofs.Common.{◌≡◌, ◌∙◌, ap, sym, subst, List, ℕ, nat_eq, true}
use Rattle.std.proofs.lemmas.List.Sorted.{IsNonDecreasingBy-from_sort, list_any-IsPermutation}
use Rattle.std.specs.List.Sorted.{IsNonDecreasing}
use Rattle.ledger_state.specs.Heaps.{has_number}
use Rattle.heap_drafts.proofs.numbers.rising.Goals as goal

pub each_once-requires : goal.each_once-requires
each_once-requires c =
    let up : IsNonDecreasing c.sort.new.self.items = IsNonDecreasingBy-from_sort (λ x. x) c.sort.new.self.items c.in_ok-sort.ensures.sorted in
    subst (λ (ns : List ℕ). IsNonDecreasing ns) (sym c.deref.ensures.value) up

pub returns-clause-all : goal.returns-clause-all
returns-clause-all c =
    λ k above has.
    let moved : has_number c.sort.new.self.items k ≡ true = sym (list_any-IsPermutation (λ j. nat_eq j k) c.args.numbers.items c.sort.new.self.items c.sort.ensures.permutation) ∙ has in
    c.in_ok-once.ensures.all k above (ap (λ ns. has_number ns k) c.deref.ensures.value ∙ moved)
