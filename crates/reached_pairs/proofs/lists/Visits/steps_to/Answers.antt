-- As many steps stand in the other order.
use Rattle.std.proofs.Common.{◌≡◌, ◌∙◌, ap, length, subst, sym, ℕ}
use Rattle.std.proofs.lemmas.List.{length-reverse}
use Rattle.breadth_first.specs.Searches.{IsChain}
use Rattle.reached_pairs.specs.Visited.{sources_in}
use Rattle.reached_pairs.proofs.TrailLaws.{back_chain}
use Rattle.reached_pairs.proofs.lists.Visits.steps_to.Goals as goal

pub returns-clause-chain : goal.returns-clause-chain
returns-clause-chain c =
    let size : length c.in_ok-steps.steps.items ≡ length c.reverse.new.self.items = sym (ap length c.reverse.ensures.items ∙ length-reverse c.in_ok-steps.steps.items) in
    subst (λ (n : ℕ). IsChain (sources_in c.args.self.now.sources.items) n c.args.at) size (back_chain c.args.self.now.sources.items c.in_ok-steps.steps.items c.args.at c.in_ok-steps.ensures)
