-- What was gathered from all steps are the rules that paths break.
use Rattle.std.proofs.Common.{◌≡◌, ◌∙◌, sym, ap, refl, subst, arith, ℕ, suc, Bool, true, false, Option, Some, None, List, [], ◌∷◌, length}
use Rattle.std.specs.Prelude.{cond}
use Rattle.std.specs.FinSet as set
use Rattle.std.specs.Map.{lookup}
use Rattle.std.proofs.lemmas.Map.Entries.{hash_map_get_place}
use Rattle.indexmap.specs.IndexMap.{IndexMap, IsUnique, keys}
use Rattle.rlc_base.specs.declared.place.Pos.{Pos}
use Rattle.program_model.specs.declared.kinds.BodyId.{BodyId}
use Rattle.program_model.specs.declared.program.Program.{Program}
use Rattle.breadth_first.specs.Searches.{AreOnce, IsAt, Stands}
use Rattle.breadth_first.proofs.ListLaws.{at_map, at_same}
use Rattle.fact_pool.specs.declared.handle.Handle.{Handle}
use Rattle.reached_facts.specs.Searched.{IsSearched}
use Rattle.java_cfg.specs.declared.arc.Arc.{Arc}
use Rattle.java_cfg.proofs.NumberLemmas.{once_distinct}
use Rattle.control_actions.specs.declared.fact.Fact.{Fact}
use Rattle.control_actions.specs.declared.fact.Origin.{Origin}
use Rattle.control_actions.specs.declared.fact.Rule.{Rule}
use Rattle.flow_rules.specs.Facts.{Names}
use Rattle.flow_rules.specs.Paths.{Faulty}
use Rattle.reached_pairs.specs.declared.visit.Source.{Source as Step}
use Rattle.reached_pairs.specs.declared.visit.Visit.{Visit}
use Rattle.reached_facts.specs.Nodes.{relation_in}
use Rattle.reached_facts.specs.Origins.{origins_of}
use Rattle.reached_facts.specs.Steps.{Begins, Leads}
use Rattle.path_faults.specs.Broken.{IsBroken}
use Rattle.path_faults.proofs.BrokenLaws.{broken_faulty, faulty_broken}
use Rattle.body_faults.specs.Breaches.{AreBreaches, HasGathered, IsFirstBreach}
use Rattle.body_faults.specs.Broken.{BrokenStep, all_broken, broken_step, same_breach}
use Rattle.body_faults.specs.declared.breach.Breach.{Breach}
use Rattle.body_faults.specs.declared.breach.Breached.{Breached}
use Rattle.body_faults.specs.contracts.breach.BreachEq.TheImpl.Laws as breach_laws
use Rattle.body_faults.proofs.JoinLaws.{IsJoinedFrom, exact_breach, joined_from, known_from, same_self}
use Rattle.body_faults.proofs.StepLaws.{broken_rising, broken_stands, stands_broken}

found_by : (k : Breach) (e : Breach × Breached) (es : List (Breach × Breached)) (y : Breached) (r : Bool) → same_breach k e.0 ≡ r → cond r (Some e.1) (lookup (same_breach k) es) ≡ Some y
    → (lookup (same_breach k) es ≡ Some y → (x : Breach × Breached) × (Stands es x × ((x.0 ≡ k) × (x.1 ≡ y)))) → (x : Breach × Breached) × (Stands (e ∷ es) x × ((x.0 ≡ k) × (x.1 ≡ y)))
found_by k e es y true is h rest = (e, ((0, refl), (sym (exact_breach k e.0 is), (let same : e.1 ≡ y = cc in same))))
found_by k e es y false is h rest = let one = rest h in (one.0, ((suc one.1.0.0, one.1.0.1), one.1.1))

-- what is found in a list of entries stands there
found_stands : (k : Breach) (es : List (Breach × Breached)) (y : Breached) → lookup (same_breach k) es ≡ Some y → (x : Breach × Breached) × (Stands es x × ((x.0 ≡ k) × (x.1 ≡ y)))
found_stands k [] y h = absurd (let never : None ≡ Some y = h in cc)
found_stands k (e ∷ es) y h = found_by k e es y (same_breach k e.0) refl h (λ later. found_stands k es y later)

module _ {S : Type 0} (p : Program) (b : BodyId) (rows : List (List Arc)) (origins : List Origin) (facts : List Fact) (visits : List Visit) (pairs : List (ℕ × Handle)) (steps : List (Option Step))
    (h : IsSearched (Begins p b origins) (Leads p b rows origins) facts visits pairs steps (length visits)) (all : origins ≡ origins_of p b rows)
    (m : IndexMap Breach Breached S) (unique : IsUnique same_breach m) (gathered : HasGathered m (all_broken p b rows origins facts visits)) where
  -- a path breaks the rule, and the names are missing
  abbrev IsFaulty : Origin → Breach → Names → Type 0
  IsFaulty o k names = Faulty p b (relation_in rows) o k.rule k.at names

  entry_joined : (i : ℕ) (x : Breach × Breached) → IsAt m.entries i x → IsJoinedFrom x.0 (all_broken p b rows origins facts visits) x.1
  entry_joined i x at =
      joined_from x.0 (all_broken p b rows origins facts visits) x.1 (sym (gathered x.0) ∙ hash_map_get_place (breach_laws.laws-law) m i x.0 x.1 unique at)

  -- a step of the list is one of a path
  step_faulty : (x : BrokenStep) → Stands (all_broken p b rows origins facts visits) x → (o : Origin) × (IsAt origins x.breach.origin o × IsFaulty o x.breach x.names)
  step_faulty x stands =
      let one = stands_broken p b rows origins facts visits x stands in
      broken_faulty p b rows origins facts visits pairs steps h x.visit x.arc x.breach.origin one.0 x.breach.rule x.breach.at x.names one.1.0 one.1.1

  -- a path that breaks a rule has its step in the list
  faulty_step : (o : Origin) (rule : Rule) (at : Pos) (names : Names) → Faulty p b (relation_in rows) o rule at names
      → (n : ℕ) × (IsAt origins n o × ((x : BrokenStep) × (Stands (all_broken p b rows origins facts visits) x × ((x.breach ≡ record { origin = n; rule = rule; at = at }) × (x.names ≡ names)))))
  faulty_step o rule at names faulty =
      let one = faulty_broken p b rows origins facts visits pairs steps h all o rule at names faulty in
      let n = one.1.1.0 in (
        n,
        (
          one.1.1.1.1.1.0,
          (
            broken_step (record { origin = n; rule = rule; at = at }) names one.0 one.1.0,
            (
              broken_stands p b rows origins facts visits one.0 one.1.0 n one.1.1.1.0 rule at names one.1.1.1.1.0 one.1.1.1.1.1.1,
              (refl, refl),
            ),
          ),
        ),
      )

  entry_derived : (i : ℕ) (x : Breach × Breached) → IsAt m.entries i x → (o : Origin) × (IsAt origins x.0.origin o × ((names : Names) × IsFaulty o x.0 names))
  entry_derived i x at =
      let from = entry_joined i x at in
      let one = step_faulty from.step (from.place, from.at) in
      subst (λ (k : Breach). (o : Origin) × (IsAt origins k.origin o × ((names : Names) × IsFaulty o k names))) from.breach (one.0, (one.1.0, (from.step.names, one.1.1)))

  name_missing : (i n : ℕ) (x : Breach × Breached) (o : Origin) → IsAt m.entries i x → IsAt origins x.0.origin o → set.contains x.1.missing n ≡ true
      → (names : Names) × (IsFaulty o x.0 names × (set.contains names n ≡ true))
  name_missing i n x o at here there =
      let one = (entry_joined i x at).only n there in
      let faulty = step_faulty one.0 one.1.0 in
      let same : faulty.0 ≡ o = at_same origins x.0.origin faulty.0 o (subst (λ (k : Breach). IsAt origins k.origin faulty.0) one.1.1.0 faulty.1.0) here in
      (one.0.names, (subst (λ (k : Breach). IsFaulty o k one.0.names) one.1.1.0 (subst (λ (q : Origin). IsFaulty q one.0.breach one.0.names) same faulty.1.1), one.1.1.1))

  missing_name : AreOnce origins → (i n : ℕ) (x : Breach × Breached) (o : Origin) → IsAt m.entries i x → IsAt origins x.0.origin o
      → (names : Names) × (IsFaulty o x.0 names × (set.contains names n ≡ true)) → set.contains x.1.missing n ≡ true
  missing_name once i n x o at here (names, (faulty, there)) =
      let one = faulty_step o x.0.rule x.0.at names faulty in
      let number : one.0 ≡ x.0.origin = once one.0 x.0.origin o one.1.0 here in
      let same : one.1.1.0.breach ≡ x.0 = one.1.1.1.1.0 ∙ ap (λ (l : ℕ). record { origin = l; rule = x.0.rule; at = x.0.at }) number in
      (entry_joined i x at).put n (one.1.1.0, (one.1.1.1.0, (same, ap (λ (s : Names). set.contains s n) one.1.1.1.1.1 ∙ there)))

  all_entries : (o : Origin) (rule : Rule) (at : Pos) (names : Names) → Faulty p b (relation_in rows) o rule at names
      → (x : Breach × Breached) × (Stands m.entries x × (IsAt origins x.0.origin o × ((x.0.rule ≡ rule) × (x.0.at ≡ at))))
  all_entries o rule at names faulty =
      let one = faulty_step o rule at names faulty in
      let k : Breach = record { origin = one.0; rule = rule; at = at } in
      let known = known_from k None (all_broken p b rows origins facts visits) one.1.1.1.0.0 one.1.1.0 one.1.1.1.0.1 one.1.1.1.1.0 in
      let entry = found_stands k m.entries known.0 (gathered k ∙ known.1) in (
        entry.0,
        (
          entry.1.0,
          (
            subst (λ (q : Breach). IsAt origins q.origin o) (sym entry.1.1.0) one.1.0,
            (ap (λ (q : Breach). q.rule) entry.1.1.0, ap (λ (q : Breach). q.at) entry.1.1.0),
          ),
        ),
      )

  entry_first : (i : ℕ) (x : Breach × Breached) → IsAt m.entries i x → IsFirstBreach p b rows origins facts visits x
  entry_first i x at =
      let from = entry_joined i x at in
      let one = stands_broken p b rows origins facts visits from.step (from.place, from.at) in
      record {
        visit = one.0;
        place = subst (λ (n : ℕ). IsAt visits n one.0) (sym from.visit) one.1.0;
        names = from.step.names;
        breaks =
            subst (λ (n : ℕ). IsBroken p b rows origins facts one.0 n x.0.origin x.0.rule x.0.at from.step.names) (sym from.arc)
            (subst (λ (k : Breach). IsBroken p b rows origins facts one.0 from.step.arc k.origin k.rule k.at from.step.names) from.breach one.1.1);
        within = λ n there. from.put n (from.step, ((from.place, from.at), (from.breach, there)));
        earliest = λ j l w others here breaks. (
            let other = broken_stands p b rows origins facts visits j l x.0.origin w x.0.rule x.0.at others here breaks in
            let first = from.first other.0 (broken_step x.0 others j l) other.1 refl in
            let rising = broken_rising p b rows origins facts visits from.place other.0 from.step (broken_step x.0 others j l) first from.at other.1 in
            let visit = from.visit in
            omega (arith, rising, visit));
      }

  -- the entries are the rules that paths break
  pub gathered_breaches : AreOnce origins → AreBreaches p b rows origins facts visits m.entries
  gathered_breaches once = record {
    once = λ i j x y at there same.
        once_distinct same_breach (keys m) same_self unique i j x.0 (at_map (λ (e : Breach × Breached). e.0) m.entries i x at)
        (at_map (λ (e : Breach × Breached). e.0) m.entries j y there ∙ ap Some (sym same));
    derived = entry_derived;
    missing = λ i n x o at here. (name_missing i n x o at here, missing_name once i n x o at here);
    all = all_entries;
    first = entry_first;
  }
