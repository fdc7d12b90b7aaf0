-- The steps by which a search came to a visit tell a path to it, of the fewest steps.
use Rattle.std.proofs.Common.{◌≡◌, ◌∙◌, sym, ap, refl, subst, arith, ℕ, ◌+◌, zero, suc, Option, Some, None, List, [], ◌∷◌, ◌++◌, length, take}
use Rattle.std.specs.Prelude.{map, reverse, slice_get, Result, Ok, Err, IfOk}
use Rattle.std.proofs.lemmas.List.{reverse-append}
use Rattle.program_model.specs.declared.kinds.BodyId.{BodyId}
use Rattle.program_model.specs.declared.program.Program.{Program}
use Rattle.breadth_first.specs.Searches.{IsAt, IsChain, Stands}
use Rattle.breadth_first.specs.Walks.{IsWalk}
use Rattle.breadth_first.proofs.ListLaws.{at_behind, at_map, at_place, at_same, at_within, length_mapped, map_append, map_at, stands_append}
use Rattle.fact_pool.specs.declared.handle.Handle.{Handle}
use Rattle.reached_facts.specs.Searched.{IsSearched}
use Rattle.reached_facts.proofs.SearchedLaws.{searched_all}
use Rattle.java_cfg.specs.declared.arc.Arc.{Arc}
use Rattle.control_actions.specs.declared.fact.Fact.{Fact}
use Rattle.control_actions.specs.declared.fact.Origin.{Origin}
use Rattle.control_actions.specs.declared.fact.Outcome.{Outcome}
use Rattle.control_actions.specs.declared.fact.Outcome.TheVariants.{Next, Gone, Fault}
use Rattle.flow_rules.specs.Births.{births_of_step}
use Rattle.flow_rules.specs.Flow.{flow}
use Rattle.flow_rules.specs.Numbering.{numbered, numbered_outcome}
use Rattle.flow_rules.specs.Paths.{IsPath, Move, Taken, taken, start, on, entered, born, flowed}
use Rattle.flow_rules.specs.declared.path_step.PathStep.{PathStep}
use Rattle.flow_rules.proofs.NumberingLaws.{flow-numbered}
use Rattle.reached_pairs.specs.Trails.{AreBehind, IsBack, IsBackToStart}
use Rattle.reached_pairs.specs.Visited.{fact_in, found_in, known_in, source_of, sources_in}
use Rattle.reached_pairs.proofs.Reading.{AreRead, found_once}
use Rattle.reached_pairs.specs.declared.visit.Source.{Source as Step}
use Rattle.reached_pairs.specs.declared.visit.Visit.{Visit}
use Rattle.reached_facts.specs.Nodes.{arcs_at, move_of, relation_in}
use Rattle.reached_facts.proofs.OriginLaws.{take_next, take_whole}
use Rattle.reached_facts.specs.Steps.{Becomes, Begins, Leads}
use Rattle.shortest_paths.specs.Telling.{AreToldBack, IsShortestPath, IsToldStep, Tells, step_from, told, told_fact}

pub length_push : {X : Type 0} (xs : List X) (x : X) → length (xs ++ x ∷ []) ≡ suc (length xs)
length_push [] x = refl
length_push (y ∷ xs) x = ap suc (length_push xs x)

reverse_next : {X : Type 0} (xs : List X) (k : ℕ) (x : X) → IsAt xs k x → reverse (take (k + 1) xs) ≡ x ∷ reverse (take k xs)
reverse_next xs k x here = ap reverse (take_next xs k x here) ∙ reverse-append (take k xs) (x ∷ [])

pub stands_reverse : {X : Type 0} (xs : List X) (k : ℕ) (x : X) → IsAt xs k x → Stands (reverse xs) x
stands_reverse [] k x here = absurd (let never : None ≡ Some x = here in cc)
stands_reverse {X} (y ∷ xs) zero x here =
    let same : y ≡ x = cc in
    let last = at_behind (reverse xs) (y ∷ []) 0 x (ap Some same) in
    (last.0, ap (λ (zs : List X). slice_get zs last.0) (reverse-append (y ∷ []) xs) ∙ last.1)
stands_reverse {X} (y ∷ xs) (suc k) x here =
    let before = stands_append (reverse xs) (y ∷ []) x (stands_reverse xs k x here) in
    (before.0, ap (λ (zs : List X). slice_get zs before.0) (reverse-append (y ∷ []) xs) ∙ before.1)

back_stands : (steps : List (Option Step)) (back : List Step) (from to : ℕ) → IsBack steps back from to → (s : Step) (k : ℕ) → IsAt back k s → (j : ℕ) × IsAt steps j (Some s)
back_stands steps [] from to h s k here = absurd (let never : None ≡ Some s = here in cc)
back_stands steps (t ∷ back) from to h s zero here = let same : t ≡ s = cc in (from, h.0 ∙ ap (λ (x : Step). Some (Some x)) same)
back_stands steps (t ∷ back) from to h s (suc k) here = back_stands steps back t.visit to h.1 s k here

-- as many steps are told
pub told_count : (rows : List (List Arc)) (facts : List Fact) (visits : List Visit) (back : List Step) (steps : List PathStep) → AreToldBack rows facts visits back steps → length steps ≡ length back
told_count rows facts visits [] steps h = ap length h
told_count rows facts visits (s ∷ back) steps (front, (x, (pushed, (step, rest)))) = ap length pushed ∙ length_push front x ∙ ap suc (told_count rows facts visits back front rest)

pub told_none : (rows : List (List Arc)) (facts : List Fact) (visits : List Visit) (sources : List Step) → AreToldBack rows facts visits (reverse (take 0 sources)) []
told_none rows facts visits [] = refl
told_none rows facts visits (s ∷ sources) = refl

-- one step more is told
pub told_next : (rows : List (List Arc)) (facts : List Fact) (visits : List Visit) (sources : List Step) (s : Step) (path more : List PathStep) (x : PathStep) → IsAt sources (length path) s
    → AreToldBack rows facts visits (reverse (take (length path) sources)) path → IsToldStep rows facts visits s x → more ≡ path ++ x ∷ [] → AreToldBack rows facts visits (reverse (take (length more) sources)) more
told_next rows facts visits sources s path more x here before step pushed =
    let long : length more ≡ length path + 1 = (let size = ap length pushed ∙ length_push path x in omega (arith, size)) in
    subst (λ (n : ℕ). AreToldBack rows facts visits (reverse (take n sources)) more) (sym long)
    (subst (λ (back : List Step). AreToldBack rows facts visits back more) (sym (reverse_next sources (length path) s here)) (path, (x, (pushed, (step, before)))))

-- all steps are told
pub told_all : (rows : List (List Arc)) (facts : List Fact) (visits : List Visit) (sources : List Step) (path : List PathStep) → slice_get sources (length path) ≡ None
    → AreToldBack rows facts visits (reverse (take (length path) sources)) path → AreToldBack rows facts visits (reverse sources) path
told_all rows facts visits sources path none h = subst (λ (xs : List Step). AreToldBack rows facts visits (reverse xs) path) (take_whole sources (length path) none) h

pub if_ok : {A E : Type 0} (r : Result A E) (P R : A → Type 0) → ((x : A) → P x → R x) → IfOk r P → IfOk r R
if_ok (Ok x) P R f h = f x h
if_ok (Err e) P R f h = tt

next_of : (m : ℕ) (x : Outcome) (g : Fact) → numbered_outcome m x ≡ Next g → (f : Fact) × ((x ≡ Next f) × (numbered m f ≡ g))
next_of m (Next f) g h = (f, (refl, (let same : numbered m f ≡ g = cc in same)))
next_of m Gone g h = absurd (let never : Gone ≡ Next g = h in cc)
next_of m (Fault rule names) g h = absurd (let never : Fault rule names ≡ Next g = h in cc)

told_push : (m : ℕ) (front steps : List PathStep) (x : PathStep) (path : List (Taken ℕ)) (t : Taken ℕ) → front ≡ map (told m) path → x ≡ told m t → steps ≡ front ++ x ∷ [] → steps ≡ map (told m) (path ++ t ∷ [])
told_push m front steps x path t before last is =
    is ∙ ap (λ y. front ++ y ∷ []) last ∙ ap (λ ys. ys ++ told m t ∷ []) before ∙ sym (map_append (told m) path (t ∷ []))

module _ (p : Program) (b : BodyId) (rows : List (List Arc)) (origins : List Origin) where
  -- a path is a walk of as many steps
  pub path_walk : (o : Origin) (m : ℕ) → IsAt origins m o → (steps : List (Taken ℕ)) (k : ℕ) (f : Option Fact) → IsPath p b (relation_in rows) o steps k f
      → IsWalk (Begins p b origins) (Leads p b rows origins) (length steps) (k, told_fact m f)
  path_walk o m here _ _ _ start = refl
  path_walk o m here _ _ (Some f) (entered n is) = (refl, ((o, f), ((n, is), (here, refl))))
  path_walk o m here _ _ _ (on {steps} {k} i t path at) =
      let one = map_at move_of (arcs_at rows k) i t at in
      subst (λ (n : ℕ). IsWalk (Begins p b origins) (Leads p b rows origins) n (t.to, None)) (sym (length_push steps (taken k t None)))
      ((k, None), (path_walk o m here steps k None path, (i, (one.0, (one.1.0, (sym (ap (λ (x : Move ℕ). x.to) one.1.1), tt))))))
  path_walk o m here _ _ (Some f) (born {steps} {k} i n t path at is) =
      let one = map_at move_of (arcs_at rows k) i t at in
      let birth = subst (λ (x : Move ℕ). slice_get (births_of_step p b x.action x.edge x.pos) n ≡ Some (o, f)) (sym one.1.1) is in
      subst (λ (l : ℕ). IsWalk (Begins p b origins) (Leads p b rows origins) l (t.to, Some (numbered m f))) (sym (length_push steps (taken k t None)))
      ((k, None), (path_walk o m here steps k None path, (i, (one.0, (one.1.0, (sym (ap (λ (x : Move ℕ). x.to) one.1.1), ((o, f), ((n, birth), (here, refl)))))))))
  path_walk o m here _ _ (Some g) (flowed {steps} {k} {f} i t path at is) =
      let one = map_at move_of (arcs_at rows k) i t at in
      let flows : flow p b o one.0.action one.0.edge f ≡ Next g = subst (λ (x : Move ℕ). flow p b o x.action x.edge f ≡ Next g) (sym one.1.1) is in
      let numbered_flow : flow p b o one.0.action one.0.edge (numbered m f) ≡ Next (numbered m g) = flow-numbered m p b o one.0.action one.0.edge f ∙ ap (numbered_outcome m) flows in
      subst (λ (l : ℕ). IsWalk (Begins p b origins) (Leads p b rows origins) l (t.to, Some (numbered m g))) (sym (length_push steps (taken k t (Some f))))
      ((k, Some (numbered m f)), (path_walk o m here steps k (Some f) path, (i, (one.0, (one.1.0, (sym (ap (λ (x : Move ℕ). x.to) one.1.1), (o, (here, numbered_flow))))))))

  -- the steps tell a path to the node with what is known there: of each origin where nothing is followed yet
  abbrev IsTold : ℕ → Option Fact → List PathStep → Type 0
  IsTold node None steps = (o : Origin) (m : ℕ) → Tells p b (relation_in rows) o m node None steps
  IsTold node (Some g) steps =
      (o : Origin) × ((f : Fact) × (IsAt origins g.origin o × ((numbered g.origin f ≡ g) × Tells p b (relation_in rows) o g.origin node (Some f) steps)))

  begins_told : (node : ℕ) (known : Option Fact) (steps : List PathStep) → Begins p b origins (node, known) → steps ≡ [] → IsTold node known steps
  begins_told node None steps first none = λ o m. record { path = []; is = subst (λ (k : ℕ). IsPath p b (relation_in rows) o [] k None) (sym first) start; told = none }
  begins_told node (Some g) steps (first, (x, (birth, (at, is)))) none =
      (x.0, (x.1, (at, (is, record { path = []; is = subst (λ (k : ℕ). IsPath p b (relation_in rows) x.0 [] k (Some x.1)) (sym first) (entered birth.0 birth.1); told = none }))))

  extend : (u : Visit) (k i : ℕ) (a : Arc) (before known : Option Fact) (front steps : List PathStep) (x : PathStep) → IsTold u.node before front → IsAt (arcs_at rows u.node) i a → k ≡ a.to → Becomes p b origins a before known
      → x ≡ step_from u a before → steps ≡ front ++ x ∷ [] → IsTold k known steps
  extend u k i a None None front steps x front_told arc to led is pushed = λ o m. (
      let t = front_told o m in
      record {
        path = t.path ++ taken u.node (move_of a) None ∷ [];
        is = subst (λ (n : ℕ). IsPath p b (relation_in rows) o (t.path ++ taken u.node (move_of a) None ∷ []) n None) (sym to) (on i (move_of a) t.is (at_map move_of (arcs_at rows u.node) i a arc));
        told = told_push m front steps x t.path (taken u.node (move_of a) None) t.told is pushed;
      })
  extend u k i a None (Some g) front steps x front_told arc to (y, (birth, (at, numbers))) is pushed =
      let t = front_told y.0 g.origin in (
        y.0,
        (
          y.1,
          (
            at,
            (
              numbers,
              record {
                path = t.path ++ taken u.node (move_of a) None ∷ [];
                is = subst (λ (n : ℕ). IsPath p b (relation_in rows) y.0 (t.path ++ taken u.node (move_of a) None ∷ []) n (Some y.1)) (sym to)
                    (born i birth.0 (move_of a) t.is (at_map move_of (arcs_at rows u.node) i a arc) birth.1);
                told = told_push g.origin front steps x t.path (taken u.node (move_of a) None) t.told is pushed;
              },
            ),
          ),
        ),
      )
  extend u k i a (Some f0) None front steps x front_told arc to led is pushed = absurd led
  extend u k i a (Some f0) (Some g) front steps x (o, (f, (at, (numbers, t)))) arc to (q, (there, flows)) is pushed =
      let same : q ≡ o = at_same origins f0.origin q o there at in
      let numbered_flow : numbered_outcome f0.origin (flow p b o a.action a.edge f) ≡ Next g =
      sym (flow-numbered f0.origin p b o a.action a.edge f) ∙ ap (flow p b o a.action a.edge) numbers ∙ ap (λ y. flow p b y a.action a.edge f0) (sym same) ∙ flows in
      let one = next_of f0.origin (flow p b o a.action a.edge f) g numbered_flow in
      let number : f0.origin ≡ g.origin = ap (λ (y : Fact). y.origin) one.1.1 in
      let last : x ≡ told f0.origin (taken u.node (move_of a) (Some f)) = is ∙ ap (λ (y : Fact). step_from u a (Some y)) (sym numbers) in
      let tells : Tells p b (relation_in rows) o f0.origin k (Some one.0) steps =
      record {
        path = t.path ++ taken u.node (move_of a) (Some f) ∷ [];
        is = subst (λ (n : ℕ). IsPath p b (relation_in rows) o (t.path ++ taken u.node (move_of a) (Some f) ∷ []) n (Some one.0)) (sym to)
            (flowed i (move_of a) t.is (at_map move_of (arcs_at rows u.node) i a arc) one.1.0);
        told = told_push f0.origin front steps x t.path (taken u.node (move_of a) (Some f)) t.told last pushed;
      } in
      (o, (one.0, subst (λ (n : ℕ). IsAt origins n o × ((numbered n one.0 ≡ g) × Tells p b (relation_in rows) o n k (Some one.0) steps)) number (at, (one.1.1, tells))))

  module _ (facts : List Fact) (visits : List Visit) (pairs : List (ℕ × Handle)) (sources : List (Option Step)) (h : IsSearched (Begins p b origins) (Leads p b rows origins) facts visits pairs sources (length visits)) where
    found_at : (at : ℕ) (v : Visit) (known : Option Fact) → IsAt visits at v → known ≡ fact_in facts v.fact → IsAt (found_in facts visits) at (v.node, known)
    found_at at v known here read = at_map (known_in facts) visits at v here ∙ ap (λ (o : Option Fact). Some (v.node, o)) (sym read)

    tell : (back : List Step) (at : ℕ) (v : Visit) (known : Option Fact) (steps : List PathStep) → IsBackToStart sources back at → IsAt visits at v → known ≡ fact_in facts v.fact
        → AreToldBack rows facts visits back steps → IsTold v.node known steps
    tell [] at v known steps (to, (is, none)) here read back_told =
        begins_told v.node known steps
        (h.search.traced at (v.node, known) None (found_at at v known here read) (at_map source_of sources at None (subst (λ (n : ℕ). IsAt sources n None) (sym is) none)))
        back_told
    tell (s ∷ back) at v known steps (to, ((source, rest), none)) here read (front, (x, (pushed, (step, back_told)))) =
        let led = h.search.traced at (v.node, known) (Some (s.visit, s.arc)) (found_at at v known here read) (at_map source_of sources at (Some s) source) in
        let same : known_in facts step.visit ≡ led.0 = at_same (found_in facts visits) s.visit (known_in facts step.visit) led.0 (at_map (known_in facts) visits s.visit step.visit step.place) led.1.1.0 in
        let leads = subst (λ (z : ℕ × Option Fact). Leads p b rows origins s.arc z (v.node, known)) (sym same) led.1.1.1 in
        let arcs : step.arc ≡ leads.0 = at_same (arcs_at rows step.visit.node) s.arc step.arc leads.0 step.taken leads.1.0 in
        extend step.visit v.node s.arc leads.0 (fact_in facts step.visit.fact) known front steps x
        (tell back s.visit step.visit (fact_in facts step.visit.fact) front (to, (rest, none)) step.place refl back_told)
        leads.1.0 leads.1.1.0 leads.1.1.1 (step.is ∙ ap (λ (y : Arc). step_from step.visit y (fact_in facts step.visit.fact)) arcs) pushed

    -- the steps to a visit with a fact tell a shortest path
    pub tells_shortest : (back : List Step) (at n : ℕ) (v : Visit) (g : Fact) (steps : List PathStep) → IsBackToStart sources back at → IsAt visits at v → Some g ≡ fact_in facts v.fact
        → AreToldBack rows facts visits back steps → IsChain (sources_in sources) n at → length steps ≡ n → IsShortestPath p b (relation_in rows) origins v.node g steps
    tells_shortest back at n v g steps trail here read back_told chain count =
        let one = tell back at v (Some g) steps trail here read back_told in
        let read_all : AreRead facts visits = record { handles = h.held.handles; facts_once = h.held.facts_once; once = h.held.once } in
        record {
          origin = one.0;
          fact = one.1.0;
          at = one.1.1.0;
          is = one.1.1.1.0;
          tells = one.1.1.1.1;
          least = λ others path. (
              let walk = subst (λ (f : Fact). IsWalk (Begins p b origins) (Leads p b rows origins) (length others) (v.node, Some f)) one.1.1.1.0 (path_walk one.0 g.origin one.1.1.0 others v.node (Some one.1.0) path) in
              let found = (searched_all (Begins p b origins) (Leads p b rows origins) facts visits pairs sources h).least (length others) (v.node, Some g) walk in
              let place : at ≡ found.0 = found_once facts visits read_all at found.0 (v.node, Some g) (found_at at v (Some g) here read) found.1.0 in
              let low = found.1.1 n (subst (λ (k : ℕ). IsChain (sources_in sources) n k) place chain) in
              omega (arith, count, low));
        }

    -- each visit has a source
    pub sources_long : length sources ≡ length visits
    sources_long = sym (length_mapped source_of sources) ∙ h.search.long ∙ length_mapped (known_in facts) visits

    -- each step goes on from an earlier visit
    pub sources_behind : AreBehind sources
    sources_behind k s there =
        let source = at_map source_of sources k (Some s) there in
        let inside = at_within (sources_in sources) k (Some (s.visit, s.arc)) source in
        let long = h.search.long in
        let reached = at_place (found_in facts visits) k (omega (arith, inside, long)) in
        (h.search.traced k reached.0 (Some (s.visit, s.arc)) reached.1 source).1.0

    -- a step by which the search came to something goes on from a visit by an arc of its node
    pub step_place : (back : List Step) (at k : ℕ) (s : Step) → IsBackToStart sources back at → IsAt back k s → (v : Visit) × ((a : Arc) × (IsAt visits s.visit v × IsAt (arcs_at rows v.node) s.arc a))
    step_place back at k s trail here =
        let source = back_stands sources back at trail.0 trail.1.0 s k here in
        let traced = came s source.0 source.1 in
        let visit = map_at (known_in facts) visits s.visit traced.0 traced.1.0 in
        let leads = subst (λ (z : ℕ × Option Fact). Leads p b rows origins s.arc z traced.1.1.0) (sym visit.1.1) traced.1.1.1 in
        (visit.0, (leads.0, (visit.1.0, leads.1.0)))
      where
        came : (s : Step) (j : ℕ) → IsAt sources j (Some s) → (z : ℕ × Option Fact) × (IsAt (found_in facts visits) s.visit z × ((w : ℕ × Option Fact) × Leads p b rows origins s.arc z w))
        came s j there =
            let source = at_map source_of sources j (Some s) there in
            let inside = at_within (sources_in sources) j (Some (s.visit, s.arc)) source in
            let long = h.search.long in
            let reached = at_place (found_in facts visits) j (omega (arith, inside, long)) in
            let led = h.search.traced j reached.0 (Some (s.visit, s.arc)) reached.1 source in
            (led.0, (led.1.1.0, (reached.0, led.1.1.1)))
