-- A path has as many steps as a walk.
use Rattle.std.proofs.Common.{◌≡◌, ◌∙◌, sym, ap, refl, subst, ℕ, zero, suc, Some, None, List, [], ◌∷◌, ◌++◌, length}
use Rattle.program_model.specs.declared.kinds.BodyId.{BodyId}
use Rattle.program_model.specs.declared.program.Program.{Program}
use Rattle.breadth_first.specs.Searches.{IsAt}
use Rattle.breadth_first.specs.Walks.{IsWalk}
use Rattle.breadth_first.proofs.ListLaws.{at_map, at_same}
use Rattle.java_cfg.specs.declared.arc.Arc.{Arc}
use Rattle.control_actions.specs.declared.fact.Fact.{Fact}
use Rattle.control_actions.specs.declared.fact.Origin.{Origin}
use Rattle.control_actions.specs.declared.fact.Outcome.{Outcome}
use Rattle.control_actions.specs.declared.fact.Outcome.TheVariants.{Next, Gone, Fault}
use Rattle.flow_rules.specs.Flow.{flow}
use Rattle.flow_rules.specs.Numbering.{numbered, numbered_outcome}
use Rattle.flow_rules.specs.Paths.{IsPath, Taken, taken, start, on, entered, born, flowed}
use Rattle.flow_rules.proofs.NumberingLaws.{flow-numbered}
use Rattle.graph_relation.specs.Nodes.{arcs_at, move_of, relation_in}
use Rattle.reached_facts.specs.Steps.{Begins, Leads}
use Rattle.shortest_paths.proofs.TellingLaws.{length_push}

next_of : (m : ℕ) (x : Outcome) (g : Fact) → numbered_outcome m x ≡ Next g → (f : Fact) × ((x ≡ Next f) × (numbered m f ≡ g))
next_of m (Next f) g h = (f, (refl, (let same : numbered m f ≡ g = cc in same)))
next_of m Gone g h = absurd (let never : Gone ≡ Next g = h in cc)
next_of m (Fault rule names) g h = absurd (let never : Fault rule names ≡ Next g = h in cc)

module _ (p : Program) (b : BodyId) (rows : List (List Arc)) (origins : List Origin) where
  -- a path of so many steps leads to the node
  abbrev IsBarePath : Origin → ℕ → ℕ → Type 0
  IsBarePath o n k = (steps : List (Taken ℕ)) × (IsPath p b (relation_in rows) o steps k None × (length steps ≡ n))

  bare_path : (o : Origin) (n k : ℕ) → IsWalk (Begins p b origins) (Leads p b rows origins) n (k, None) → IsBarePath o n k
  bare_path o zero k first = ([], (subst (λ (m : ℕ). IsPath p b (relation_in rows) o [] m None) (sym first) start, refl))
  bare_path o (suc n) k ((node, None), (walk, (i, (a, (arc, (to, is)))))) =
      let before = bare_path o n node walk in (
        before.0 ++ taken node (move_of a) None ∷ [],
        (
          subst (λ (m : ℕ). IsPath p b (relation_in rows) o (before.0 ++ taken node (move_of a) None ∷ []) m None) (sym to) (on i (move_of a) before.1.0 (at_map move_of (arcs_at rows node) i a arc)),
          length_push before.0 (taken node (move_of a) None) ∙ ap suc before.1.1,
        ),
      )
  bare_path o (suc n) k ((node, Some f), (walk, (i, (a, (arc, (to, is)))))) = absurd is

  -- a path of so many steps leads to the node with the fact, but for the number of its origin
  pub record IsPathOf (n k : ℕ) (g : Fact) : Type 0 where
    pub origin : Origin
    pub fact : Fact
    pub at : IsAt origins g.origin origin
    pub is : numbered g.origin fact ≡ g
    pub steps : List (Taken ℕ)
    pub path : IsPath p b (relation_in rows) origin steps k (Some fact)
    pub long : length steps ≡ n

  goes_on : (n k : ℕ) (f g : Fact) (i node : ℕ) (a : Arc) (o : Origin) → IsPathOf n node f → IsAt (arcs_at rows node) i a → k ≡ a.to → IsAt origins f.origin o → flow p b o a.action a.edge f ≡ Next g → IsPathOf (suc n) k g
  goes_on n k f g i node a o before arc to at flows =
      let same : o ≡ before.origin = at_same origins f.origin o before.origin at before.at in
      let numbered_flow : numbered_outcome f.origin (flow p b before.origin a.action a.edge before.fact) ≡ Next g =
      sym (flow-numbered f.origin p b before.origin a.action a.edge before.fact) ∙ ap (flow p b before.origin a.action a.edge) before.is ∙ ap (λ x. flow p b x a.action a.edge f) (sym same) ∙ flows in
      let one = next_of f.origin (flow p b before.origin a.action a.edge before.fact) g numbered_flow in
      let number : f.origin ≡ g.origin = ap (λ (x : Fact). x.origin) one.1.1 in
      let last : Taken ℕ = taken node (move_of a) (Some before.fact) in
      record {
        origin = before.origin;
        fact = one.0;
        at = subst (λ (m : ℕ). IsAt origins m before.origin) number before.at;
        is = subst (λ (m : ℕ). numbered m one.0 ≡ g) number one.1.1;
        steps = before.steps ++ last ∷ [];
        path = subst (λ (m : ℕ). IsPath p b (relation_in rows) before.origin (before.steps ++ last ∷ []) m (Some one.0)) (sym to)
            (flowed i (move_of a) before.path (at_map move_of (arcs_at rows node) i a arc) one.1.0);
        long = length_push before.steps last ∙ ap suc before.long;
      }

  -- a path goes with each walk to a fact
  pub walk_path : (n k : ℕ) (g : Fact) → IsWalk (Begins p b origins) (Leads p b rows origins) n (k, Some g) → IsPathOf n k g
  walk_path zero k g (first, (x, (birth, (at, is)))) = record {
    origin = x.0;
    fact = x.1;
    at = at;
    is = is;
    steps = [];
    path = subst (λ (m : ℕ). IsPath p b (relation_in rows) x.0 [] m (Some x.1)) (sym first) (entered birth.0 birth.1);
    long = refl;
  }
  walk_path (suc n) k g ((node, None), (walk, (i, (a, (arc, (to, (x, (birth, (at, is))))))))) =
      let before = bare_path x.0 n node walk in
      record {
        origin = x.0;
        fact = x.1;
        at = at;
        is = is;
        steps = before.0 ++ taken node (move_of a) None ∷ [];
        path = subst (λ (m : ℕ). IsPath p b (relation_in rows) x.0 (before.0 ++ taken node (move_of a) None ∷ []) m (Some x.1)) (sym to)
            (born i birth.0 (move_of a) before.1.0 (at_map move_of (arcs_at rows node) i a arc) birth.1);
        long = length_push before.0 (taken node (move_of a) None) ∙ ap suc before.1.1;
      }
  walk_path (suc n) k g ((node, Some f), (walk, (i, (a, (arc, (to, (o, (at, flows)))))))) = goes_on n k f g i node a o (walk_path n node f walk) arc to at flows
