-- Pairs whose steps lead to pairs, and the same pairs in another list.
use Rattle.std.proofs.Common.{◌≡◌, ◌∙◌, sym, subst, ℕ, ◌<◌, Bool, true, Some, None, List, length}
use Rattle.std.specs.Prelude.{◌↔◌, slice_get}
use Rattle.program_model.specs.declared.kinds.BodyId.{BodyId}
use Rattle.program_model.specs.declared.program.Program.{Program}
use Rattle.breadth_first.specs.Searches.{IsAt, Stands}
use Rattle.breadth_first.proofs.ListLaws.{at_same}
use Rattle.control_actions.specs.declared.fact.Origin.{Origin}
use Rattle.control_actions.specs.declared.fact.Outcome.{Outcome}
use Rattle.control_actions.specs.declared.fact.Outcome.TheVariants.{Next, Gone, Fault}
use Rattle.java_cfg.specs.declared.arc.Arc.{Arc}
use Rattle.body_origins.specs.Nodes.{row_in}
use Rattle.body_origins.specs.Origins.{origins_of}
use Rattle.flow_certs.specs.declared.pair.Pair.{Pair}
use Rattle.flow_certs.specs.Certificates.{HaveBirths, IsClosed, IsListed, pair_at}
use Rattle.flow_certs.specs.Listings.{AreStepsListed}

module _ (p : Program) (b : BodyId) (rows : List (List Arc)) (pairs : List Pair) where
  -- a pair of the graph is closed where the steps of its row are listed
  pub closed_by : (x : Pair) (o : Origin) (row : List Arc) (test : Bool) → x.node < length rows → IsAt (origins_of p b rows) x.origin o → IsAt rows x.node row
      → (test ≡ true) ↔ AreStepsListed p b pairs row x.origin o x.fact → (test ≡ true) ↔ IsClosed p b rows pairs x
  closed_by x o row test inside numbered here tells = (
    (λ h. record {
      node = inside;
      origin = o;
      numbered = numbered;
      steps = λ i a at. tells.0 h i a (subst (λ r. IsAt (row_in r) i a) here at);
    }),
    (λ c.
        let same : c.origin ≡ o = at_same (origins_of p b rows) x.origin c.origin o c.numbered numbered in
        tells.1 (subst (λ (q : Origin). AreStepsListed p b pairs row x.origin q x.fact) same (λ i a at. c.steps i a (subst (λ r. IsAt (row_in r) i a) (sym here) at)))),
  )

  pub no_origin : (x : Pair) → None ≡ slice_get (origins_of p b rows) x.origin → IsClosed p b rows pairs x → ⊥
  no_origin x none c = let never : None ≡ Some c.origin = none ∙ c.numbered in cc

module _ (xs ys : List Pair) (more : (x : Pair) → Stands xs x → Stands ys x) where
  pub listed_more : (node origin : ℕ) (outcome : Outcome) → IsListed xs node origin outcome → IsListed ys node origin outcome
  listed_more node origin (Next g) h = more (pair_at node origin g) h
  listed_more node origin Gone h = tt
  listed_more node origin (Fault rule names) h = h

  pub closed_more : (p : Program) (b : BodyId) (rows : List (List Arc)) (x : Pair) → IsClosed p b rows xs x → IsClosed p b rows ys x
  closed_more p b rows x c = record {
    node = c.node;
    origin = c.origin;
    numbered = c.numbered;
    steps = λ i a at. listed_more a.to x.origin _ (c.steps i a at);
  }

  pub births_more : (p : Program) (b : BodyId) (rows : List (List Arc)) → HaveBirths p b rows xs → HaveBirths p b rows ys
  births_more p b rows h = record {
    entered = λ n o f at. (let one = h.entered n o f at in (one.0, (one.1.0, more (pair_at 0 one.0 f) one.1.1)));
    born = λ k i n t o f comes at birth. (let one = h.born k i n t o f comes at birth in (one.0, (one.1.0, more (pair_at t.to one.0 f) one.1.1)));
  }
