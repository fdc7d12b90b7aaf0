-- A point is put into a list of visits.
use Rattle.std.proofs.Common.{◌≡◌, ◌∙◌, sym, ap, refl, subst, arith, ℕ, ◌+◌, ◌<◌, ◌≤◌, ◌⊎◌, inl, inr, zero, suc, Bool, true, false, Option, Some, None, List, [], ◌∷◌, ◌++◌, take, get_or, length, length-append, append_assoc}
use Rattle.std.specs.Prelude.{slice_get, MatchBool}
use Rattle.std.proofs.lemmas.Bool.{cases_lt}
use Rattle.std.proofs.lemmas.List.{take_more}
use Rattle.rlc_base.specs.declared.faults.Stop.{Stop}
use Rattle.rlc_base.specs.declared.faults.Stop.TheVariants as stops
use Rattle.rlc_base.specs.declared.place.Pos.{Pos}
use Rattle.breadth_first.specs.Searches.{AreOnce, Extends, IsAt, Stands}
use Rattle.breadth_first.proofs.ListLaws.{append_none, at_append, at_back, at_behind, at_front, at_last, at_map, at_place, at_push, at_split, at_within, map_append, map_at, once_push, stands_append, stands_last, stands_split, stands_take}
use Rattle.fact_pool.specs.declared.handle.Handle.{Handle}
use Rattle.fact_pool.specs.Regions.{Lacks, StandsAt}
use Rattle.reached_pairs.specs.declared.visit.Point.{Point}
use Rattle.reached_pairs.specs.declared.visit.Source.{Source as Step}
use Rattle.reached_pairs.specs.declared.visit.Visit.{Visit}
use Rattle.reached_pairs.specs.Additions.{ArePast, IsAddCause, IsHandled, IsPut, IsPutCause, point_of, points_in}
use Rattle.reached_pairs.specs.Visited.{AreVisits, IsExact, fact_in, facts_in, found_in, known_in, pair_of, pair_with, source_of, sources_in}
use Rattle.reached_pairs.proofs.Reading.{AreRead, facts_count, facts_stand, found_kept, found_once, pairs_once, pairs_push}
use Rattle.reached_pairs.proofs.VisitLaws.{lacks_stands}

-- a fact that is interned has its handle
pub handled : {X : Type 0} (eq : X → X → Bool) (xs ys : List X) (x : X) (h : Handle) (b : Bool) → IsExact eq
    → MatchBool b (Lacks eq xs x × (h.0 ≡ length xs) × (ys ≡ xs ++ x ∷ [])) (StandsAt eq xs h.0 x × (ys ≡ xs)) → IsHandled xs (Some x) (Some h) ys
handled {X} eq xs ys x h true exact is =
    (ap (slice_get ys) is.1 ∙ ap (λ zs. slice_get zs (length xs)) is.2 ∙ at_last xs x, inr (lacks_stands eq xs x ((exact x x).1 refl) is.0, (is.2, is.1)))
handled eq xs ys x h false exact is =
    let y = is.0.0 in
    let same : x ≡ y = (exact x y).0 is.0.2 in
    (ap (λ zs. slice_get zs h.0) is.1 ∙ is.0.1 ∙ ap Some (sym same), inl is.1)

only_one : {X : Type 0} (y z : X) → Stands (y ∷ []) z → y ≡ z
only_one y z (zero, here) = cc
only_one y z (suc k, here) = absurd (let never : None ≡ Some z = here in cc)

one_inside : {X : Type 0} (y : X) (k : ℕ) (x : X) → IsAt (y ∷ []) k x → (k ≡ 0) × (y ≡ x)
one_inside y zero x here = (refl, (let same : y ≡ x = cc in same))
one_inside y (suc k) x here = absurd (let never : None ≡ Some x = here in cc)

-- nothing is put in
extends_old : {S : Type 0} (found : List S) (sources : List (Option (ℕ × ℕ))) (s : S) (x : Option (ℕ × ℕ)) → Stands found s → Extends found sources ((s, x) ∷ []) found sources
extends_old found sources s x stands = record {
  new = [];
  new_sources = [];
  is = append_none found;
  is_sources = append_none sources;
  long = refl;
  each = λ k t y here there. absurd (let inside = at_within [] k t here in omega (arith, inside));
  all = λ t y one. subst (Stands found) (ap (λ z. z.0) (only_one (s, x) (t, y) one)) stands;
}

extends_new : {S : Type 0} (found : List S) (sources : List (Option (ℕ × ℕ))) (s : S) (x : Option (ℕ × ℕ)) → Extends found sources ((s, x) ∷ []) (found ++ s ∷ []) (sources ++ x ∷ [])
extends_new {S} found sources s x = record {
  new = s ∷ [];
  new_sources = x ∷ [];
  is = refl;
  is_sources = refl;
  long = refl;
  each = λ k t y here there.
      let first = one_inside s k t here in
      let second = one_inside x k y there in
      (0, (λ i. Some (first.1 i, second.1 i)));
  all = λ t y one. subst (Stands (found ++ s ∷ [])) (ap (λ (z : S × Option (ℕ × ℕ)). z.0) (only_one (s, x) (t, y) one)) (stands_last found s);
}

-- what is known of the fact of a handle
read_fact : {F : Type 0} (facts more : List F) (o : Option F) (h : Option Handle) → IsHandled facts o h more → fact_in more h ≡ o
read_fact facts more None None is = refl
read_fact facts more None (Some h) is = absurd is
read_fact facts more (Some f) None is = absurd is
read_fact facts more (Some f) (Some h) is = is.0

-- what a point does to the list of facts: nothing, or its fact is new there
pub data Grown {F : Type 0} (facts more : List F) (h : Option Handle) : Type 0 where
  stays : more ≡ facts → ((g : Handle) → h ≡ Some g → g.0 < length facts) → Grown facts more h
  grows : (f : F) (g : Handle) → h ≡ Some g → (Stands facts f → ⊥) → more ≡ facts ++ f ∷ [] → g.0 ≡ length facts → Grown facts more h

grown_by : {F : Type 0} (facts more : List F) (f : F) (h : Handle) → IsAt more h.0 f → ((more ≡ facts) ⊎ ((Stands facts f → ⊥) × ((more ≡ facts ++ f ∷ []) × (h.0 ≡ length facts)))) → Grown facts more (Some h)
grown_by facts more f h at (inl same) =
    stays same (λ g is. let both : h ≡ g = cc in subst (λ (z : Handle). z.0 < length facts) both (at_within facts h.0 f (ap (λ xs. slice_get xs h.0) (sym same) ∙ at)))
grown_by facts more f h at (inr new) = grows f h refl new.0 new.1.0 new.1.1

grown : {F : Type 0} (facts more : List F) (o : Option F) (h : Option Handle) → IsHandled facts o h more → Grown facts more h
grown facts more None None is = stays is (λ g never. absurd (let no : None ≡ Some g = never in cc))
grown facts more None (Some h) is = absurd is
grown facts more (Some f) None is = absurd is
grown facts more (Some f) (Some h) is = grown_by facts more f h is.0 is.1

module _ {F : Type 0} (facts more : List F) (visits : List Visit) (pairs : List (ℕ × Handle)) (v : Visit) (h : AreVisits facts visits pairs) where
  -- a visit that is new is read with the others
  pub read_more : Grown facts more v.fact → (Stands visits v → ⊥) → AreRead more (visits ++ v ∷ []) × (found_in more (visits ++ v ∷ []) ≡ found_in facts visits ++ known_in more v ∷ [])
  read_more (stays same within) new = (
    record {
      handles = λ k w g here is. subst (λ (xs : List F). g.0 < length xs) (sym same) (pushed k w g here is);
      facts_once = subst AreOnce (sym same) h.facts_once;
      once = once_push visits v h.once new;
    },
    map_append (known_in more) visits (v ∷ []) ∙ ap (λ xs. found_in xs visits ++ known_in more v ∷ []) same,
  )
    where
      pushed : (k : ℕ) (w : Visit) (g : Handle) → IsAt (visits ++ v ∷ []) k w → w.fact ≡ Some g → g.0 < length facts
      pushed k w g here is =
          elim (at_push visits v k w here) [
            | inl old ↦ h.handles k w g old is
            | inr last ↦ within g (ap (λ (x : Visit). x.fact) last.1 ∙ is)
          ]
  read_more (grows f g is fresh longer place) new = (
    record {
      handles = λ k w q here known. subst (λ (xs : List F). q.0 < length xs) (sym longer) (pushed k w q here known);
      facts_once = subst AreOnce (sym longer) (once_push facts f h.facts_once fresh);
      once = once_push visits v h.once new;
    },
    map_append (known_in more) visits (v ∷ []) ∙ ap (λ xs. xs ++ known_in more v ∷ []) (ap (λ xs. found_in xs visits) longer ∙ found_kept facts (f ∷ []) visits h.handles),
  )
    where
      pushed : (k : ℕ) (w : Visit) (q : Handle) → IsAt (visits ++ v ∷ []) k w → w.fact ≡ Some q → q.0 < length (facts ++ f ∷ [])
      pushed k w q here known =
          let size = length-append facts (f ∷ []) in
          elim (at_push visits v k w here) [
            | inl old ↦ let low = h.handles k w q old known in omega (arith, low, size)
            | inr last ↦
                let both : Some g ≡ Some q = sym is ∙ ap (λ (x : Visit). x.fact) last.1 ∙ known in
                let same : g ≡ q = cc in
                let number : g.0 ≡ q.0 = ap (λ (x : Handle). x.0) same in
                omega (arith, number, place, size)
          ]

  kept_used : (i : ℕ) → i < length facts → (k : ℕ) × ((w : Visit) × ((g : Handle) × (IsAt (visits ++ v ∷ []) k w × ((w.fact ≡ Some g) × (g.0 ≡ i)))))
  kept_used i below =
      let one = h.used i below in
      (one.0, (one.1.0, (one.1.1.0, (at_append visits (v ∷ []) one.0 one.1.0 one.1.1.1.0, one.1.1.1.1))))

  -- the list of facts has the facts of the visits, and no more of them than there are pairs
  used_more : Grown facts more v.fact → (i : ℕ) → i < length more → (k : ℕ) × ((w : Visit) × ((g : Handle) × (IsAt (visits ++ v ∷ []) k w × ((w.fact ≡ Some g) × (g.0 ≡ i)))))
  used_more (stays same within) i below = kept_used i (subst (λ (xs : List F). i < length xs) same below)
  used_more (grows f g is fresh longer place) i below =
      elim (cases_lt i (length facts)) [
        | inl old ↦ kept_used i old
        | inr late ↦
            let size = ap length longer ∙ length-append facts (f ∷ []) in
            (length visits, (v, (g, (at_last visits v, (is, omega (arith, late, below, size, place))))))
      ]

  count_more : Grown facts more v.fact → (more_pairs : List (ℕ × Handle)) → more_pairs ≡ pairs ++ pair_of v → length more ≤ length more_pairs
  count_more (stays same within) more_pairs is =
      let size = ap length is ∙ length-append pairs (pair_of v) in
      let before = h.count in
      let facts_size = ap length same in
      omega (arith, size, before, facts_size)
  count_more (grows f g is fresh longer place) more_pairs pushed =
      let size = ap length pushed ∙ length-append pairs (pair_of v) in
      let one : length (pair_of v) ≡ 1 = ap (λ o. length (pair_with v.node o)) is in
      let before = h.count in
      let facts_size = ap length longer ∙ length-append facts (f ∷ []) in
      omega (arith, size, one, before, facts_size)

  -- a visit that is there adds no fact
  stays_old : Grown facts more v.fact → Stands visits v → more ≡ facts
  stays_old (stays same within) stands = same
  stays_old (grows f g is fresh longer place) stands =
      absurd (let low = h.handles stands.0 v g stands.1 is in omega (arith, low, place))

module _ {F : Type 0} (facts more : List F) (visits : List Visit) (steps : List (Option Step)) (pairs : List (ℕ × Handle)) (v : Visit) (fact : Option F) (s : Option Step) (h : AreVisits facts visits pairs) where
  point_is : fact_in more v.fact ≡ fact → known_in more v ≡ (v.node, fact)
  point_is read = ap (λ (o : Option F). (v.node, o)) read

  added_old : Grown facts more v.fact → fact_in more v.fact ≡ fact → Stands visits v
      → AreVisits more visits pairs × Extends (found_in facts visits) (sources_in steps) (((v.node, fact), source_of s) ∷ []) (found_in more visits) (sources_in steps)
  added_old grew read stands =
      let same = stays_old facts more visits pairs v h grew stands in
      let known : known_in facts v ≡ (v.node, fact) = ap (λ xs. known_in xs v) (sym same) ∙ point_is read in
      let stood : Stands (found_in facts visits) (v.node, fact) = (stands.0, at_map (known_in facts) visits stands.0 v stands.1 ∙ ap Some known) in
      let extends = extends_old (found_in facts visits) (sources_in steps) (v.node, fact) (source_of s) stood in (
        subst (λ (xs : List F). AreVisits xs visits pairs) (sym same) h,
        subst (λ (xs : List F). Extends (found_in facts visits) (sources_in steps) (((v.node, fact), source_of s) ∷ []) (found_in xs visits) (sources_in steps)) (sym same) extends,
      )

  added_new : (more_pairs : List (ℕ × Handle)) → more_pairs ≡ pairs ++ pair_of v → length more_pairs ≤ 1000000 → Grown facts more v.fact → fact_in more v.fact ≡ fact → (Stands visits v → ⊥)
      → AreVisits more (visits ++ v ∷ []) more_pairs × Extends (found_in facts visits) (sources_in steps) (((v.node, fact), source_of s) ∷ []) (found_in more (visits ++ v ∷ [])) (sources_in (steps ++ s ∷ []))
  added_new more_pairs pushed few grew read new =
      let both = read_more facts more visits pairs v h grew new in
      let found_is : found_in more (visits ++ v ∷ []) ≡ found_in facts visits ++ (v.node, fact) ∷ [] = both.1 ∙ ap (λ x. found_in facts visits ++ x ∷ []) (point_is read) in
      let sources_are : sources_in (steps ++ s ∷ []) ≡ sources_in steps ++ source_of s ∷ [] = map_append source_of steps (s ∷ []) in
      let extends = extends_new (found_in facts visits) (sources_in steps) (v.node, fact) (source_of s) in (
        record {
          handles = both.0.handles;
          used = used_more facts more visits pairs v h grew;
          facts_once = both.0.facts_once;
          once = both.0.once;
          listed = pushed ∙ ap (λ xs. xs ++ pair_of v) h.listed ∙ sym (pairs_push visits v);
          few = few;
          count = count_more facts more visits pairs v h grew more_pairs pushed;
        },
        subst (λ (xs : List (ℕ × Option F)). Extends (found_in facts visits) (sources_in steps) (((v.node, fact), source_of s) ∷ []) xs (sources_in (steps ++ s ∷ []))) (sym found_is)
            (subst (λ (ys : List (Option (ℕ × ℕ))). Extends (found_in facts visits) (sources_in steps) (((v.node, fact), source_of s) ∷ []) (found_in facts visits ++ (v.node, fact) ∷ []) ys) (sym sources_are) extends),
      )

  -- the visit of a point is put in
  pub added : (more_visits : List Visit) (more_steps : List (Option Step)) (more_pairs : List (ℕ × Handle))
      → IsHandled facts fact v.fact more → IsPut visits steps pairs v s more_visits more_steps more_pairs → length more_pairs ≤ 1000000
      → AreVisits more more_visits more_pairs × Extends (found_in facts visits) (sources_in steps) (((v.node, fact), source_of s) ∷ []) (found_in more more_visits) (sources_in more_steps)
  added more_visits more_steps more_pairs is put few =
      elim put.is [
        | inl old ↦
            let one = added_old (grown facts more fact v.fact is) (read_fact facts more fact v.fact is) old.0 in
            moved visits steps pairs (sym old.1.0) (sym old.1.1.0) (sym old.1.1.1) one
        | inr new ↦
            let one = added_new (pairs ++ pair_of v) refl (subst (λ (xs : List (ℕ × Handle)). length xs ≤ 1000000) new.1.1.1 few) (grown facts more fact v.fact is) (read_fact facts more fact v.fact is) new.0 in
            moved (visits ++ v ∷ []) (steps ++ s ∷ []) (pairs ++ pair_of v) (sym new.1.0) (sym new.1.1.0) (sym new.1.1.1) one
      ]
    where
      moved : (xs : List Visit) (ys : List (Option Step)) (zs : List (ℕ × Handle)) → xs ≡ more_visits → ys ≡ more_steps → zs ≡ more_pairs
          → AreVisits more xs zs × Extends (found_in facts visits) (sources_in steps) (((v.node, fact), source_of s) ∷ []) (found_in more xs) (sources_in ys)
          → AreVisits more more_visits more_pairs × Extends (found_in facts visits) (sources_in steps) (((v.node, fact), source_of s) ∷ []) (found_in more more_visits) (sources_in more_steps)
      moved xs ys zs first second third both = (
        subst (λ (us : List Visit). AreVisits more us more_pairs) first (subst (λ (ws : List (ℕ × Handle)). AreVisits more xs ws) third both.0),
        subst (λ (us : List Visit). Extends (found_in facts visits) (sources_in steps) (((v.node, fact), source_of s) ∷ []) (found_in more us) (sources_in more_steps)) first
            (subst (λ (ws : List (Option Step)). Extends (found_in facts visits) (sources_in steps) (((v.node, fact), source_of s) ∷ []) (found_in more xs) (sources_in ws)) second both.1),
      )

  past : IsHandled facts fact v.fact more → (Stands visits v → ⊥) → 1000000 < length (pairs ++ pair_of v) → ArePast (found_in facts visits) (((v.node, fact), source_of s) ∷ [])
  past is new many =
      let both = read_more facts more visits pairs v h (grown facts more fact v.fact is) new in
      let found = found_in more (visits ++ v ∷ []) in
      let found_is : found ≡ found_in facts visits ++ (v.node, fact) ∷ [] = both.1 ∙ ap (λ x. found_in facts visits ++ x ∷ []) (point_is (read_fact facts more fact v.fact is)) in
      record {
        pairs = facts_in found;
        once = pairs_once found (found_once more (visits ++ v ∷ []) both.0);
        more = let size = facts_count more (visits ++ v ∷ []) both.0.handles ∙ ap length (pairs_push visits v ∙ ap (λ xs. xs ++ pair_of v) (sym h.listed)) in omega (arith, size, many);
        each = λ i x here.
            let stands = facts_stand found i x here in
            elim (at_push (found_in facts visits) (v.node, fact) stands.0 (x.0, Some x.1) (ap (λ xs. slice_get xs stands.0) (sym found_is) ∙ stands.1)) [
              | inl old ↦ inl (stands.0, old)
              | inr last ↦ inr (source_of s, (0, ap (λ (z : ℕ × Option F). Some (z, source_of s)) last.1))
            ];
      }

  -- why a point is not put in
  pub add_cause : (pos : Pos) (stop : Stop) → IsHandled facts fact v.fact more → IsPutCause visits pairs v pos stop → IsAddCause (found_in facts visits) (((v.node, fact), source_of s) ∷ []) pos stop
  add_cause pos (stops.Refused x) is cause = cause
  add_cause pos (stops.TooMuch x) is cause = (cause.0, past is cause.1.0 cause.1.1)
  add_cause pos stops.NoMemory is cause = tt

module _ {S : Type 0} where
  -- what the search came to is one of the points, or was found before
  pub extends_back : (found : List S) (sources : List (Option (ℕ × ℕ))) (points : List (S × Option (ℕ × ℕ))) (more : List S) (more_sources : List (Option (ℕ × ℕ))) → Extends found sources points more more_sources
      → (s : S) → Stands more s → Stands found s ⊎ ((x : Option (ℕ × ℕ)) × Stands points (s, x))
  extends_back found sources points more more_sources h s stands =
      elim (at_split found h.new stands.0 s (ap (λ xs. slice_get xs stands.0) (sym h.is) ∙ stands.1)) [
        | inl old ↦ inl (stands.0, old)
        | inr later ↦
            let inside = at_within h.new later.0 s later.1.1 in
            let x = at_place h.new_sources later.0 (let long = h.long in omega (arith, long, inside)) in
            inr (x.0, h.each later.0 s x.0 later.1.1 x.1)
      ]

  extends_more : (found : List S) (sources : List (Option (ℕ × ℕ))) (points next : List (S × Option (ℕ × ℕ))) (mid : List S) (mid_sources : List (Option (ℕ × ℕ))) (more : List S) (more_sources : List (Option (ℕ × ℕ)))
      → Extends found sources points mid mid_sources → Extends mid mid_sources next more more_sources → Extends found sources (points ++ next) more more_sources
  extends_more found sources points next mid mid_sources more more_sources first second = record {
    new = first.new ++ second.new;
    new_sources = first.new_sources ++ second.new_sources;
    is = second.is ∙ ap (λ xs. xs ++ second.new) first.is ∙ append_assoc found first.new second.new;
    is_sources = second.is_sources ∙ ap (λ xs. xs ++ second.new_sources) first.is_sources ∙ append_assoc sources first.new_sources second.new_sources;
    long =
        let one = first.long in
        let two = second.long in
        let size = length-append first.new second.new in
        let sources_size = length-append first.new_sources second.new_sources in
        omega (arith, one, two, size, sources_size);
    each = λ k s x here there.
        elim (at_split first.new second.new k s here) [
          | inl old ↦ stands_append points next (s, x) (first.each k s x old (at_front first.new_sources second.new_sources k x (let inside = at_within first.new k s old in let one = first.long in omega (arith, inside, one)) there))
          | inr later ↦
              let place = later.1.0 in
              let one = first.long in
              let stands = second.each later.0 s x later.1.1 (at_back first.new_sources second.new_sources k later.0 x (omega (arith, place, one)) there) in
              at_behind points next stands.0 (s, x) stands.1
        ];
    all = λ s x stands.
        elim (stands_split points next (s, x) stands) [
          | inl old ↦ let one = first.all s x old in (one.0, ap (λ xs. slice_get xs one.0) second.is ∙ at_append mid second.new one.0 s one.1)
          | inr later ↦ second.all s x later
        ];
  }

  -- the search came to no point yet
  pub extends_none : (found : List S) (sources : List (Option (ℕ × ℕ))) → Extends found sources [] found sources
  extends_none found sources = record {
    new = [];
    new_sources = [];
    is = append_none found;
    is_sources = append_none sources;
    long = refl;
    each = λ k t y here there. absurd (let inside = at_within [] k t here in omega (arith, inside));
    all = λ t y stands. absurd (let inside = at_within [] stands.0 (t, y) stands.1 in omega (arith, inside));
  }

take_all : {X : Type 0} (xs : List X) (n : ℕ) → length xs ≤ n → take n xs ≡ xs
take_all [] zero h = refl
take_all [] (suc n) h = refl
take_all (x ∷ xs) zero h = absurd (omega (arith, h))
take_all (x ∷ xs) (suc n) h = ap (λ ys. x ∷ ys) (take_all xs n (omega (arith, h)))

-- the search came to all points
pub extends_whole : {F : Type 0} (found : List (ℕ × Option F)) (sources : List (Option (ℕ × ℕ))) (points : List (Point F)) (n : ℕ) (more : List (ℕ × Option F)) (more_sources : List (Option (ℕ × ℕ))) → length points ≤ n
    → Extends found sources (points_in (take n points)) more more_sources → Extends found sources (points_in points) more more_sources
extends_whole {F} found sources points n more more_sources all h =
    subst (λ (xs : List (Point F)). Extends found sources (points_in xs) more more_sources) (take_all points n all) h

module _ {F : Type 0} (found : List (ℕ × Option F)) (sources : List (Option (ℕ × ℕ))) (points : List (Point F)) (i : ℕ) (x : Point F) (is : x ≡ get_or points i x) where
  next_points : i < length points → points_in (take (i + 1) points) ≡ points_in (take i points) ++ point_of x ∷ []
  next_points inside = ap points_in (take_more points i x inside ∙ ap (λ y. take i points ++ y ∷ []) (sym is)) ∙ map_append point_of (take i points) (x ∷ [])

  -- the search came to one point more
  pub extends_next : (mid : List (ℕ × Option F)) (mid_sources : List (Option (ℕ × ℕ))) (more : List (ℕ × Option F)) (more_sources : List (Option (ℕ × ℕ))) → i < length points
      → Extends found sources (points_in (take i points)) mid mid_sources → Extends mid mid_sources (point_of x ∷ []) more more_sources
      → Extends found sources (points_in (take (i + 1) points)) more more_sources
  extends_next mid mid_sources more more_sources inside first second =
      subst (λ (xs : List ((ℕ × Option F) × Option (ℕ × ℕ))). Extends found sources xs more more_sources) (sym (next_points inside))
      (extends_more found sources (points_in (take i points)) (point_of x ∷ []) mid mid_sources more more_sources first second)

  whole : (n : ℕ) (z : (ℕ × Option F) × Option (ℕ × ℕ)) → Stands (points_in (take n points)) z → Stands (points_in points) z
  whole n z h =
      let one = map_at point_of (take n points) h.0 z h.1 in
      let place = stands_take points n one.0 (h.0, one.1.0) in
      (place.0, at_map point_of points place.0 one.0 place.1 ∙ ap Some one.1.1)

  past_before : (mid : List (ℕ × Option F)) (mid_sources : List (Option (ℕ × ℕ))) → i < length points → Extends found sources (points_in (take i points)) mid mid_sources
      → (y : ℕ × Option F) → Stands mid y ⊎ ((s : Option (ℕ × ℕ)) × Stands (point_of x ∷ []) (y, s)) → Stands found y ⊎ ((s : Option (ℕ × ℕ)) × Stands (points_in points) (y, s))
  past_before mid mid_sources inside first y (inl old) =
      elim (extends_back found sources (points_in (take i points)) mid mid_sources first y old) [
        | inl here ↦ inl here
        | inr point ↦ inr (point.0, whole i (y, point.0) point.1)
      ]
  past_before mid mid_sources inside first y (inr point) =
      let one = at_behind (points_in (take i points)) (point_of x ∷ []) point.1.0 (y, point.0) point.1.1 in
      inr (point.0, whole (i + 1) (y, point.0) (one.0, ap (λ xs. slice_get xs one.0) (next_points inside) ∙ one.1))

  -- why one of the points is not put in
  pub cause_before : (mid : List (ℕ × Option F)) (mid_sources : List (Option (ℕ × ℕ))) (pos : Pos) (stop : Stop) → i < length points → Extends found sources (points_in (take i points)) mid mid_sources
      → IsAddCause mid (point_of x ∷ []) pos stop → IsAddCause found (points_in points) pos stop
  cause_before mid mid_sources pos (stops.Refused r) inside first cause = cause
  cause_before mid mid_sources pos (stops.TooMuch r) inside first cause = (
    cause.0,
    record {
      pairs = cause.1.pairs;
      once = cause.1.once;
      more = cause.1.more;
      each = λ k y here. past_before mid mid_sources inside first (y.0, Some y.1) (cause.1.each k y here);
    },
  )
  cause_before mid mid_sources pos stops.NoMemory inside first cause = tt
