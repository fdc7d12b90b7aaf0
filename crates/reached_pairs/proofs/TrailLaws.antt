-- Steps that lead back.
use Rattle.std.proofs.Common.{sym, refl, subst, ℕ, Option, Some, None, List, [], ◌∷◌, ◌++◌, length}
use Rattle.breadth_first.specs.Searches.{IsAt, IsChain}
use Rattle.breadth_first.proofs.ListLaws.{at_map}
use Rattle.reached_pairs.specs.declared.visit.Source.{Source as Step}
use Rattle.reached_pairs.specs.Trails.{IsBack, IsBackToStart}
use Rattle.reached_pairs.specs.Visited.{source_of, sources_in}

-- one step more leads back
pub back_more : (steps : List (Option Step)) (back : List Step) (from mid : ℕ) (s : Step) → IsBack steps back from mid → IsAt steps mid (Some s) → IsBack steps (back ++ s ∷ []) from s.visit
back_more steps [] from mid s is here = (subst (λ (n : ℕ). IsAt steps n (Some s)) (sym is) here, refl)
back_more steps (t ∷ back) from mid s is here = (is.0, back_more steps back t.visit mid s is.1 here)

-- as many sources lead back to a start
pub back_chain : (steps : List (Option Step)) (back : List Step) (from : ℕ) → IsBackToStart steps back from → IsChain (sources_in steps) (length back) from
back_chain steps [] from h = at_map source_of steps from None (subst (λ (n : ℕ). IsAt steps n None) (sym h.1.0) h.1.1)
back_chain steps (s ∷ back) from h =
    ((s.visit, s.arc), (at_map source_of steps from (Some s) h.1.0.0, back_chain steps back s.visit (h.0, (h.1.0.1, h.1.1))))
