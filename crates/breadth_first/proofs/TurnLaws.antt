-- The turns of a search: first it comes to the starts, and then it goes on from one found value after another.
use Rattle.std.proofs.Common.{◌∙◌, sym, ap, subst, arith, ℕ, suc, List, [], length}
use Rattle.std.specs.Prelude.{slice_get}
use Rattle.breadth_first.specs.Walks.{IsWalk}
use Rattle.breadth_first.specs.Searches.{Extends, HasStarts, IsAt, IsSearch, IsSource, Source, rank}
use Rattle.breadth_first.specs.Turns.{AreStarts, AreSteps}
use Rattle.breadth_first.proofs.ListLaws.{at_append, at_within}
use Rattle.breadth_first.proofs.SearchLaws.{chain_of, chain_walk, search_extend, search_next, search_none, search_starts, search_turn, starts_extend}

module _ {S : Type 0} (starts : S → Type 0) (leads : ℕ → S → S → Type 0) where
  -- the search came to the starts
  pub search_first : (points : List (S × Source)) (more : List S) (more_sources : List Source) → AreStarts starts leads points → Extends [] [] points more more_sources
      → IsSearch starts leads more more_sources 0 0 × HasStarts starts leads more more_sources
  search_first points more more_sources are extends =
      let h = search_extend starts leads [] [] 0 0 points more more_sources (search_none starts leads) (omega arith)
      (λ s x stands.
      let one = are.each s x stands in
      (subst (λ (y : Source). IsSource starts leads [] 0 s y) (sym one.1) one.0, ap rank one.1))
      extends in
      (h, search_starts starts leads more more_sources h (λ s start. let one = are.all s start in extends.all s one.0 one.1))

  -- the search went on from the next value
  pub search_turned : (found : List S) (sources : List Source) (done : ℕ) (b : S) (points : List (S × Source)) (more : List S) (more_sources : List Source)
      → IsSearch starts leads found sources done done → HasStarts starts leads found sources → IsAt found done b → AreSteps starts leads done b points → Extends found sources points more more_sources
      → IsSearch starts leads more more_sources (suc done) (suc done) × HasStarts starts leads more more_sources
  search_turned found sources done b points more more_sources h starting here are extends =
      let inside = at_within found done b here in
      let turned = search_turn starts leads found sources done done (suc done) h (omega arith) in
      let grown = search_extend starts leads found sources done (suc done) points more more_sources turned (omega (arith, inside))
      (λ s x stands.
      let one = are.each s x stands in
      (subst (λ (y : Source). IsSource starts leads found (length found) s y) (sym one.1.1) (b, (inside, (here, one.1.0))), ap rank one.1.1))
      extends in
      let there : IsAt more done b = ap (λ xs. slice_get xs done) extends.is ∙ at_append found extends.new done b here in (
        search_next starts leads more more_sources done b grown there (λ label s led. let one = are.all label s led in extends.all s one.0 one.1),
        starts_extend starts leads found sources points more more_sources starting extends,
      )

  -- what a search has found is reached
  pub search_reached : (found : List S) (sources : List Source) (done top : ℕ) → IsSearch starts leads found sources done top → (k : ℕ) (s : S) → IsAt found k s → (n : ℕ) × IsWalk starts leads n s
  search_reached found sources done top h k s here =
      let chain = chain_of starts leads found sources done top h (suc k) k (omega arith) s here in
      (chain.0, chain_walk starts leads found sources done top h k chain.0 s here chain.1)
