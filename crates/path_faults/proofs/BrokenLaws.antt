-- A rule is broken at a visit exactly where some path breaks it.
use Rattle.std.proofs.Common.{◌≡◌, ◌∙◌, sym, ap, refl, subst, ℕ, Option, Some, List, length}
use Rattle.std.specs.Prelude.{slice_get}
use Rattle.rlc_base.specs.declared.place.Pos.{Pos}
use Rattle.program_model.specs.declared.kinds.BodyId.{BodyId}
use Rattle.program_model.specs.declared.program.Program.{Program}
use Rattle.breadth_first.specs.Searches.{IsAt}
use Rattle.breadth_first.proofs.ListLaws.{at_map, at_same, map_at}
use Rattle.fact_pool.specs.declared.handle.Handle.{Handle}
use Rattle.shortest_paths.specs.Searched.{IsSearched}
use Rattle.shortest_paths.proofs.SearchedLaws.{searched_all, visit_reached}
use Rattle.java_cfg.specs.declared.arc.Arc.{Arc}
use Rattle.control_actions.specs.declared.fact.Fact.{Fact}
use Rattle.control_actions.specs.declared.fact.Origin.{Origin}
use Rattle.control_actions.specs.declared.fact.Outcome.{Outcome}
use Rattle.control_actions.specs.declared.fact.Outcome.TheVariants.{Next, Gone, Fault}
use Rattle.control_actions.specs.declared.fact.Rule.{Rule}
use Rattle.java_cfg.specs.Facts.{Names}
use Rattle.shortest_paths.specs.Flow.{flow}
use Rattle.shortest_paths.specs.Numbering.{numbered, numbered_outcome}
use Rattle.shortest_paths.specs.Paths.{Faulty, Move}
use Rattle.shortest_paths.proofs.NumberingLaws.{flow-numbered}
use Rattle.reached_pairs.specs.Visited.{known_in}
use Rattle.reached_pairs.specs.declared.visit.Source.{Source as Step}
use Rattle.reached_pairs.specs.declared.visit.Visit.{Visit}
use Rattle.shortest_paths.specs.Nodes.{arcs_at, move_of, relation_in}
use Rattle.shortest_paths.specs.Origins.{origins_of}
use Rattle.shortest_paths.specs.Steps.{Begins, Leads}
use Rattle.shortest_paths.proofs.PathLaws.{walk_known}
use Rattle.shortest_paths.proofs.ReachedLaws.{reach_walk}
use Rattle.path_faults.specs.Broken.{IsBroken}
use Rattle.path_faults.proofs.ListedLaws.{reach_listed}

fault_of : (m : ℕ) (x : Outcome) (rule : Rule) (names : Names) → numbered_outcome m x ≡ Fault rule names → x ≡ Fault rule names
fault_of m (Next f) rule names h = absurd (let never : Next (numbered m f) ≡ Fault rule names = h in cc)
fault_of m Gone rule names h = absurd (let never : Gone ≡ Fault rule names = h in cc)
fault_of m (Fault r n) rule names h = h

module _ (p : Program) (b : BodyId) (rows : List (List Arc)) (origins : List Origin) (facts : List Fact) (visits : List Visit) (pairs : List (ℕ × Handle)) (steps : List (Option Step))
    (h : IsSearched (Begins p b origins) (Leads p b rows origins) facts visits pairs steps (length visits)) where
  -- a rule that is broken at a visit is broken by a path
  pub broken_faulty : (k i m : ℕ) (v : Visit) (rule : Rule) (at : Pos) (names : Names) → IsAt visits k v → IsBroken p b rows origins facts v i m rule at names
      → (o : Origin) × (IsAt origins m o × Faulty p b (relation_in rows) o rule at names)
  broken_faulty k i m v rule at names here x =
      let walk = visit_reached (Begins p b origins) (Leads p b rows origins) facts visits pairs steps (length visits) h k v (Some x.fact) here (sym x.read) in
      let known = walk_known p b rows origins walk.0 v.node x.fact walk.1 in
      let same : x.origin ≡ known.origin = at_same origins m x.origin known.origin x.numbered (subst (λ (n : ℕ). IsAt origins n known.origin) x.number known.at) in
      let breaks : numbered_outcome x.fact.origin (flow p b known.origin x.arc.action x.arc.edge known.fact) ≡ Fault rule names =
      sym (flow-numbered x.fact.origin p b known.origin x.arc.action x.arc.edge known.fact) ∙ ap (flow p b known.origin x.arc.action x.arc.edge) known.is
      ∙ ap (λ o. flow p b o x.arc.action x.arc.edge x.fact) (sym same) ∙ x.breaks in (
        known.origin,
        (
          subst (λ (n : ℕ). IsAt origins n known.origin) x.number known.at,
          record {
            control = v.node;
            fact = known.fact;
            reached = known.reached;
            index = i;
            move = move_of x.arc;
            step = at_map move_of (arcs_at rows v.node) i x.arc x.taken;
            breaks = fault_of x.fact.origin (flow p b known.origin x.arc.action x.arc.edge known.fact) rule names breaks;
            place = x.place;
          },
        ),
      )

  -- a rule that a path breaks is broken at a visit
  pub faulty_broken : origins ≡ origins_of p b rows → (o : Origin) (rule : Rule) (at : Pos) (names : Names) → Faulty p b (relation_in rows) o rule at names
      → (k : ℕ) × ((i : ℕ) × ((m : ℕ) × ((v : Visit) × (IsAt visits k v × (IsAt origins m o × IsBroken p b rows origins facts v i m rule at names)))))
  faulty_broken all o rule at names x =
      let listed = reach_listed p b rows o x.control x.fact x.reached in
      let m = listed.0 in
      let here : IsAt origins m o = ap (λ (os : List Origin). slice_get os m) all ∙ listed.1 in
      let walk = reach_walk p b rows origins o m here x.control x.fact x.reached in
      let found = (searched_all (Begins p b origins) (Leads p b rows origins) facts visits pairs steps h).least walk.0 (x.control, Some (numbered m x.fact)) walk.1 in
      let visit = map_at (known_in facts) visits found.0 (x.control, Some (numbered m x.fact)) found.1.0 in
      let node : visit.0.node ≡ x.control = ap (λ (z : ℕ × Option Fact). z.0) visit.1.1 in
      let one = map_at move_of (arcs_at rows x.control) x.index x.move x.step in
      let breaks : flow p b o one.0.action one.0.edge x.fact ≡ Fault rule names = subst (λ (y : Move ℕ). flow p b o y.action y.edge x.fact ≡ Fault rule names) (sym one.1.1) x.breaks in (
        found.0,
        (
          x.index,
          (
            m,
            (
              visit.0,
              (
                visit.1.0,
                (
                  here,
                  record {
                    fact = numbered m x.fact;
                    read = ap (λ (z : ℕ × Option Fact). z.1) visit.1.1;
                    number = refl;
                    origin = o;
                    numbered = here;
                    arc = one.0;
                    taken = subst (λ (n : ℕ). IsAt (arcs_at rows n) x.index one.0) (sym node) one.1.0;
                    breaks = flow-numbered m p b o one.0.action one.0.edge x.fact ∙ ap (numbered_outcome m) breaks;
                    place = ap (λ (y : Move ℕ). y.pos) one.1.1 ∙ x.place;
                  },
                ),
              ),
            ),
          ),
        ),
      )
