-- The turns of a search.
use Rattle.std.proofs.Common.{◌≡◌, ◌∙◌, sym, ap, subst, arith, ℕ, suc, ◌+◌, inl, inr, Option, Some, None, List, [], length, length-append}
use Rattle.std.specs.Prelude.{slice_get}
use Rattle.rlc_base.specs.declared.faults.Stop.{Stop}
use Rattle.rlc_base.specs.declared.faults.Stop.TheVariants as stops
use Rattle.rlc_base.specs.declared.place.Pos.{Pos}
use Rattle.reached_pairs.specs.Searches.{Extends, IsAt, IsSearch, IsShortest, Source, Stands}
use Rattle.reached_pairs.specs.Turns.{AreStarts, AreSteps}
use Rattle.reached_pairs.specs.Walks.{IsWalk}
use Rattle.reached_pairs.proofs.ListLaws.{at_map, at_within, length_mapped}
use Rattle.reached_pairs.proofs.SearchLaws.{search_done}
use Rattle.reached_pairs.proofs.TurnLaws.{search_first, search_reached, search_turned}
use Rattle.fact_pool.specs.declared.handle.Handle.{Handle}
use Rattle.reached_pairs.specs.Additions.{ArePast, IsAddCause}
use Rattle.reached_pairs.specs.Visited.{AreVisits, fact_in, found_in, known_in, pairs_in, sources_in}
use Rattle.reached_pairs.specs.declared.visit.Source.{Source as Step}
use Rattle.reached_pairs.specs.declared.visit.Visit.{Visit}
use Rattle.fact_search.specs.Searched.{IsSearchCause, IsSearched, ReachMany}

-- nothing is visited before a search
pub no_visits : {F : Type 0} (facts : List F) (visits : List Visit) (pairs : List (ℕ × Handle)) → facts ≡ [] → visits ≡ [] → pairs ≡ [] → AreVisits facts visits pairs
no_visits {F} facts visits pairs no_facts none no_pairs = record {
  handles = λ k v h here is. absurd (let never : Some v ≡ None = sym here ∙ ap (λ (xs : List Visit). slice_get xs k) none in cc);
  used = λ i inside. absurd (let count : length facts ≡ 0 = ap length no_facts in omega (arith, count, inside));
  facts_once = λ i j x here there. absurd (let never : Some x ≡ None = sym here ∙ ap (λ (xs : List F). slice_get xs i) no_facts in cc);
  once = λ i j v here there. absurd (let never : Some v ≡ None = sym here ∙ ap (λ (xs : List Visit). slice_get xs i) none in cc);
  listed = no_pairs ∙ sym (ap pairs_in none);
  few = (let count : length pairs ≡ 0 = ap length no_pairs in omega (arith, count));
  count = (let count : length facts ≡ 0 = ap length no_facts in omega (arith, count));
}

module _ {F : Type 0} (starts : ℕ × Option F → Type 0) (leads : ℕ → ℕ × Option F → ℕ × Option F → Type 0) where
  -- a walk reaches what is visited
  pub visit_reached : (facts : List F) (visits : List Visit) (pairs : List (ℕ × Handle)) (steps : List (Option Step)) (done : ℕ) → IsSearched starts leads facts visits pairs steps done
      → (k : ℕ) (v : Visit) (f : Option F) → IsAt visits k v → f ≡ fact_in facts v.fact → (n : ℕ) × IsWalk starts leads n (v.node, f)
  visit_reached facts visits pairs steps done h k v f here is =
      search_reached starts leads (found_in facts visits) (sources_in steps) done done h.search k (v.node, f)
      (at_map (known_in facts) visits k v here ∙ ap (λ (x : Option F). Some (v.node, x)) (sym is))

  -- the starts are visited
  pub searched_first : (facts : List F) (visits : List Visit) (pairs : List (ℕ × Handle)) (steps : List (Option Step)) (old_facts : List F) (old_visits : List Visit) (old_steps : List (Option Step))
      (points : List ((ℕ × Option F) × Source)) → old_visits ≡ [] → old_steps ≡ [] → AreStarts starts leads points → AreVisits facts visits pairs
      → Extends (found_in old_facts old_visits) (sources_in old_steps) points (found_in facts visits) (sources_in steps) → IsSearched starts leads facts visits pairs steps 0
  searched_first facts visits pairs steps old_facts old_visits old_steps points none no_steps are held extends =
      let from_none : Extends [] [] points (found_in facts visits) (sources_in steps) =
      subst (λ (z : List (ℕ × Option F) × List Source). Extends z.0 z.1 points (found_in facts visits) (sources_in steps))
      (λ i. (ap (found_in old_facts) none i, ap sources_in no_steps i)) extends in
      let one = search_first starts leads points (found_in facts visits) (sources_in steps) are from_none in
      record { held = held; search = one.0; within = omega arith; starting = one.1 }

  -- what one visit leads to is visited
  pub searched_next : (old_facts : List F) (old_visits : List Visit) (old_pairs : List (ℕ × Handle)) (old_steps : List (Option Step)) (done : ℕ) → IsSearched starts leads old_facts old_visits old_pairs old_steps done
      → (v : Visit) (f : Option F) → IsAt old_visits done v → f ≡ fact_in old_facts v.fact
      → (points : List ((ℕ × Option F) × Source)) → AreSteps starts leads done (v.node, f) points
      → (facts : List F) (visits : List Visit) (pairs : List (ℕ × Handle)) (steps : List (Option Step)) → AreVisits facts visits pairs
      → Extends (found_in old_facts old_visits) (sources_in old_steps) points (found_in facts visits) (sources_in steps) → IsSearched starts leads facts visits pairs steps (suc done)
  searched_next old_facts old_visits old_pairs old_steps done h v f here is points are facts visits pairs steps held extends =
      let there = at_map (known_in old_facts) old_visits done v here ∙ ap (λ (x : Option F). Some (v.node, x)) (sym is) in
      let one =
      search_turned starts leads (found_in old_facts old_visits) (sources_in old_steps) done (v.node, f) points (found_in facts visits) (sources_in steps)
      h.search h.starting there are extends in
      let inside = at_within old_visits done v here in
      let grown : length (found_in facts visits) ≡ length (found_in old_facts old_visits) + length extends.new = ap length extends.is ∙ length-append (found_in old_facts old_visits) extends.new in
      let before = length_mapped (known_in old_facts) old_visits in
      let now = length_mapped (known_in facts) visits in
      record { held = held; search = one.0; within = omega (arith, inside, grown, before, now); starting = one.1 }

  -- what was found and what it leads to, where that is more than a million pairs
  many_by : (found : List (ℕ × Option F)) (points : List ((ℕ × Option F) × Source)) → ((k : ℕ) (s : ℕ × Option F) → IsAt found k s → (n : ℕ) × IsWalk starts leads n s)
      → ((s : ℕ × Option F) (x : Source) → Stands points (s, x) → (n : ℕ) × IsWalk starts leads n s) → ArePast found points → ReachMany starts leads
  many_by found points reached led past = record {
    pairs = past.pairs;
    once = past.once;
    more = past.more;
    each = λ i x here. (elim (past.each i x here) as (λ _. (n : ℕ) × IsWalk starts leads n (x.0, Some x.1)) [
      | inl stands ↦ reached stands.0 (x.0, Some x.1) stands.1
      | inr stands ↦ led (x.0, Some x.1) stands.0 stands.1
    ]);
  }

  cause_by : (found : List (ℕ × Option F)) (points : List ((ℕ × Option F) × Source)) (pos : Pos) (stop : Stop) → ((k : ℕ) (s : ℕ × Option F) → IsAt found k s → (n : ℕ) × IsWalk starts leads n s)
      → ((s : ℕ × Option F) (x : Source) → Stands points (s, x) → (n : ℕ) × IsWalk starts leads n s) → IsAddCause found points pos stop → IsSearchCause starts leads pos stop
  cause_by found points pos (stops.Refused x) reached led cause = cause
  cause_by found points pos (stops.TooMuch x) reached led cause = (cause.0, many_by found points reached led cause.1)
  cause_by found points pos stops.NoMemory reached led cause = tt

  -- why the starts are not visited
  pub first_cause : (old_facts : List F) (old_visits : List Visit) (points : List ((ℕ × Option F) × Source)) (pos : Pos) (stop : Stop) → old_visits ≡ []
      → AreStarts starts leads points → IsAddCause (found_in old_facts old_visits) points pos stop → IsSearchCause starts leads pos stop
  first_cause old_facts old_visits points pos stop none are cause =
      cause_by (found_in old_facts old_visits) points pos stop
      (λ k s here. absurd (let never : Some s ≡ None = sym here ∙ ap (λ (xs : List Visit). slice_get (found_in old_facts xs) k) none in cc))
      (λ s x stands. (0, (are.each s x stands).0)) cause

  -- why what one visit leads to is not visited
  pub next_cause : (facts : List F) (visits : List Visit) (pairs : List (ℕ × Handle)) (steps : List (Option Step)) (done : ℕ) → IsSearched starts leads facts visits pairs steps done
      → (v : Visit) (f : Option F) → IsAt visits done v → f ≡ fact_in facts v.fact → (points : List ((ℕ × Option F) × Source)) → AreSteps starts leads done (v.node, f) points
      → (pos : Pos) (stop : Stop) → IsAddCause (found_in facts visits) points pos stop → IsSearchCause starts leads pos stop
  next_cause facts visits pairs steps done h v f here is points are pos stop cause =
      let before = visit_reached facts visits pairs steps done h done v f here is in
      cause_by (found_in facts visits) points pos stop
      (search_reached starts leads (found_in facts visits) (sources_in steps) done done h.search)
      (λ s x stands.
      let one = are.each s x stands in
      (suc before.0, ((v.node, f), (before.1, (one.0, one.1.0))))) cause

  -- the visits are what walks reach, each first by one of the fewest steps
  pub searched_all : (facts : List F) (visits : List Visit) (pairs : List (ℕ × Handle)) (steps : List (Option Step)) → IsSearched starts leads facts visits pairs steps (length visits)
      → IsShortest starts leads (found_in facts visits) (sources_in steps)
  searched_all facts visits pairs steps h =
      search_done starts leads (found_in facts visits) (sources_in steps) (length visits)
      (subst (λ (n : ℕ). IsSearch starts leads (found_in facts visits) (sources_in steps) n (length visits)) (sym (length_mapped (known_in facts) visits)) h.search)
      h.starting
