-- The first visit at which a rule is broken is one with the fewest steps.
use Rattle.std.proofs.Common.{◌≡◌, ◌∙◌, sym, ap, refl, subst, arith, ℕ, ◌≤◌, zero, suc, Option, Some, None, List, length}
use Rattle.std.specs.Prelude.{slice_get}
use Rattle.rlc_base.specs.declared.place.Pos.{Pos}
use Rattle.program_model.specs.declared.kinds.BodyId.{BodyId}
use Rattle.program_model.specs.declared.program.Program.{Program}
use Rattle.breadth_first.specs.Searches.{IsAt, IsChain, IsSearch, Source}
use Rattle.breadth_first.proofs.ListLaws.{map_at}
use Rattle.fact_pool.specs.declared.handle.Handle.{Handle}
use Rattle.shortest_paths.specs.Searched.{IsSearched}
use Rattle.shortest_paths.proofs.SearchedLaws.{searched_all}
use Rattle.java_cfg.specs.declared.arc.Arc.{Arc}
use Rattle.control_actions.specs.declared.fact.Fact.{Fact}
use Rattle.control_actions.specs.declared.fact.Origin.{Origin}
use Rattle.control_actions.specs.declared.fact.Outcome.TheVariants.{Fault}
use Rattle.control_actions.specs.declared.fact.Rule.{Rule}
use Rattle.java_cfg.specs.Facts.{Names}
use Rattle.shortest_paths.specs.Flow.{flow}
use Rattle.shortest_paths.specs.Numbering.{numbered, numbered_outcome}
use Rattle.shortest_paths.specs.Paths.{IsPath, Move, Taken}
use Rattle.shortest_paths.proofs.NumberingLaws.{flow-numbered}
use Rattle.reached_pairs.specs.Visited.{found_in, known_in, sources_in}
use Rattle.reached_pairs.specs.declared.visit.Source.{Source as Step}
use Rattle.reached_pairs.specs.declared.visit.Visit.{Visit}
use Rattle.shortest_paths.specs.Nodes.{arcs_at, move_of, relation_in}
use Rattle.shortest_paths.specs.Steps.{Begins, Leads}
use Rattle.shortest_paths.proofs.TellingLaws.{path_walk}
use Rattle.path_faults.specs.Broken.{IsBroken}

module _ {S : Type 0} (starts : S → Type 0) (leads : ℕ → S → S → Type 0) where
  -- what was found earlier has no longer chain
  chain_ordered : (found : List S) (sources : List Source) (done top : ℕ) → IsSearch starts leads found sources done top → (n m i j : ℕ) → i ≤ j → IsChain sources n i → IsChain sources m j → n ≤ m
  chain_ordered found sources done top h zero m i j le first second = omega arith
  chain_ordered found sources done top h (suc n) zero i j le first second =
      absurd (let low = h.ordered i j (Some first.0) None le first.1.0 second in omega (arith, low))
  chain_ordered found sources done top h (suc n) (suc m) i j le first second =
      let low : suc first.0.0 ≤ suc second.0.0 = h.ordered i j (Some first.0) (Some second.0) le first.1.0 second.1.0 in
      let rest = chain_ordered found sources done top h n m first.0.0 second.0.0 (omega (arith, low)) first.1.1 second.1.1 in
      omega (arith, rest)

module _ (p : Program) (b : BodyId) (rows : List (List Arc)) (origins : List Origin) (facts : List Fact) (visits : List Visit) (pairs : List (ℕ × Handle)) (steps : List (Option Step))
    (h : IsSearched (Begins p b origins) (Leads p b rows origins) facts visits pairs steps (length visits)) where
  -- no path to a step that breaks the rule there has fewer steps than the first visit at which it is broken
  pub first_least : (k n m : ℕ) (rule : Rule) (at : Pos) → IsChain (sources_in steps) n k
      → ((j i : ℕ) (w : Visit) (names : Names) → IsAt visits j w → IsBroken p b rows origins facts w i m rule at names → k ≤ j)
      → (o : Origin) → IsAt origins m o → (others : List (Taken ℕ)) (control : ℕ) (f : Fact) → IsPath p b (relation_in rows) o others control (Some f)
      → (i : ℕ) (t : Move ℕ) (names : Names) → slice_get ((relation_in rows).next control) i ≡ Some t → flow p b o t.action t.edge f ≡ Fault rule names → t.pos ≡ at → n ≤ length others
  first_least k n m rule at chain first o here others control f path i t names step breaks place =
      let walk = path_walk p b rows origins o m here others control (Some f) path in
      let shortest = searched_all (Begins p b origins) (Leads p b rows origins) facts visits pairs steps h in
      let found = shortest.least (length others) (control, Some (numbered m f)) walk in
      let visit = map_at (known_in facts) visits found.0 (control, Some (numbered m f)) found.1.0 in
      let node : visit.0.node ≡ control = ap (λ (z : ℕ × Option Fact). z.0) visit.1.1 in
      let one = map_at move_of (arcs_at rows control) i t step in
      let fault : flow p b o one.0.action one.0.edge f ≡ Fault rule names = subst (λ (y : Move ℕ). flow p b o y.action y.edge f ≡ Fault rule names) (sym one.1.1) breaks in
      let broken : IsBroken p b rows origins facts visit.0 i m rule at names =
      record {
        fact = numbered m f;
        read = ap (λ (z : ℕ × Option Fact). z.1) visit.1.1;
        number = refl;
        origin = o;
        numbered = here;
        arc = one.0;
        taken = subst (λ (l : ℕ). IsAt (arcs_at rows l) i one.0) (sym node) one.1.0;
        breaks = flow-numbered m p b o one.0.action one.0.edge f ∙ ap (numbered_outcome m) fault;
        place = ap (λ (y : Move ℕ). y.pos) one.1.1 ∙ place;
      } in
      let earlier = first found.0 i visit.0 names visit.1.0 broken in
      let other = shortest.chained found.0 (control, Some (numbered m f)) found.1.0 in
      let low = chain_ordered (Begins p b origins) (Leads p b rows origins) (found_in facts visits) (sources_in steps) (length visits) (length visits) h.search n other.0 k found.0 earlier chain other.1 in
      let small = found.1.1 other.0 other.1 in
      omega (arith, low, small)
