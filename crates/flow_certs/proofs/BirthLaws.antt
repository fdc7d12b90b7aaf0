-- Births that are among the pairs.
use Rattle.std.proofs.Common.{◌≡◌, sym, refl, subst, ℕ, Bool, true, Some, None, List}
use Rattle.std.specs.Prelude.{◌↔◌, map, slice_get}
use Rattle.program_model.specs.declared.kinds.BodyId.{BodyId}
use Rattle.program_model.specs.declared.program.Program.{Program}
use Rattle.breadth_first.specs.Searches.{AreOnce, IsAt, Stands}
use Rattle.breadth_first.proofs.ListLaws.{at_map, at_within, map_at}
use Rattle.control_actions.specs.declared.fact.Fact.{Fact}
use Rattle.control_actions.specs.declared.fact.Origin.{Origin}
use Rattle.java_cfg.specs.declared.arc.Arc.{Arc}
use Rattle.body_origins.specs.Births.{births_at_entry, births_of_step}
use Rattle.body_origins.specs.Nodes.{AreNodes, arcs_at, move_of, row_in}
use Rattle.body_origins.specs.Origins.{origins_of}
use Rattle.body_origins.specs.Paths.{Move}
use Rattle.flow_certs.specs.declared.pair.Pair.{Pair}
use Rattle.flow_certs.specs.Certificates.{HaveBirths, Lists, pair_at}
use Rattle.flow_certs.specs.Listings.{ListBirths, ListRowBirths}

module _ (origins : List Origin) (pairs : List Pair) (once : AreOnce origins) where
  pub lists_by : (node n : ℕ) (o : Origin) (f : Fact) (test : Bool) → IsAt origins n o → (test ≡ true) ↔ Stands pairs (pair_at node n f) → (test ≡ true) ↔ Lists origins pairs node o f
  lists_by node n o f test at tells = (
    (λ h. (n, (at, tells.0 h))),
    (λ (m, (there, stands)).
        let same : m ≡ n = once m n o there at in
        tells.1 (subst (λ (k : ℕ). Stands pairs (pair_at node k f)) same stands)),
  )

module _ (p : Program) (b : BodyId) (rows : List (List Arc)) (pairs : List Pair) (nodes : AreNodes rows) where
  -- the births of the entry and of each row are all births
  pub all_births : ListBirths (origins_of p b rows) pairs 0 (births_at_entry p b) → ((k : ℕ) (row : List Arc) → IsAt rows k row → ListRowBirths p b (origins_of p b rows) pairs row) → HaveBirths p b rows pairs
  all_births entry each = record {
    entered = λ n o f here. entry n (o, f) here;
    born = λ k i n t o f comes at here. (
        let arc = map_at move_of (arcs_at rows k) i t at in
        let row = row_at k i arc.0 arc.1.0 in
        let listed = each k row.0 row.1.0 i arc.0 row.1.1 n (o, f) (subst (λ (m : Move ℕ). IsAt (births_of_step p b m.action m.edge m.pos) n (o, f)) (sym arc.1.1) here) in
        subst (λ (m : Move ℕ). Lists (origins_of p b rows) pairs m.to o f) arc.1.1 listed);
  }
    where
      row_by : (k i : ℕ) (a : Arc) (r : _) → slice_get rows k ≡ r → IsAt (row_in r) i a → (row : List Arc) × (IsAt rows k row × IsAt row i a)
      row_by k i a None is here = absurd (let never : None ≡ Some a = here in cc)
      row_by k i a (Some row) is here = (row, (is, here))

      row_at : (k i : ℕ) (a : Arc) → IsAt (arcs_at rows k) i a → (row : List Arc) × (IsAt rows k row × IsAt row i a)
      row_at k i a here = row_by k i a (slice_get rows k) refl here

  -- all births are those of the entry and of each row
  pub entry_births : HaveBirths p b rows pairs → ListBirths (origins_of p b rows) pairs 0 (births_at_entry p b)
  entry_births have n x here = have.entered n x.0 x.1 here

  pub row_births : HaveBirths p b rows pairs → (k : ℕ) (row : List Arc) → IsAt rows k row → ListRowBirths p b (origins_of p b rows) pairs row
  row_births have k row at i a arc n x here =
      have.born k i n (move_of a) x.0 x.1 (nodes.reached k (at_within rows k row at))
      (subst (λ r. slice_get (map move_of (row_in r)) i ≡ Some (move_of a)) (sym at) (at_map move_of row i a arc)) here
