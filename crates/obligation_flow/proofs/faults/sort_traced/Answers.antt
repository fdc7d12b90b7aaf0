-- The faults are sorted by the numbers of their order.
use Rattle.std.proofs.Common.{rules}
use Rattle.std.proofs.lemmas.List.Sorted.{IsNonDecreasingBy-from_sort_by}
use Rattle.obligation_flow.specs.Faults.{order_of}
use Rattle.obligation_flow.proofs.faults.sort_traced.Goals as goal

pub returns-clause-order : goal.returns-clause-order
returns-clause-order c = IsNonDecreasingBy-from_sort_by order_of c.sort_by.new.self.items c.in_ok-sort_by.ensures.sorted (λ a r f' k. search rules)
