-- What a certificate is: for each body a list of pairs that shows that no path through the body breaks a rule.
use Rattle.std.specs.Prelude.{◌≡◌, ℕ, ◌<◌, None, List, length}
use Rattle.rlc_base.specs.declared.faults.Refusal.{Refusal}
use Rattle.breadth_first.specs.Searches.{IsAt, Stands}
use Rattle.program_model.specs.declared.kinds.BodyId.{BodyId}
use Rattle.program_model.specs.declared.program.Program.{Program}
use Rattle.control_actions.specs.Remaining.{Todo}
use Rattle.control_actions.specs.declared.fact.Fact.{Fact}
use Rattle.control_actions.specs.declared.fact.Origin.{Origin}
use Rattle.control_actions.specs.declared.fact.Outcome.{Outcome}
use Rattle.control_actions.specs.declared.fact.Outcome.TheVariants.{Next, Gone, Fault}
use Rattle.java_cfg.specs.Graphs.{IsGraphOf}
use Rattle.java_cfg.specs.Limits.{PassesLimit}
use Rattle.java_cfg.specs.declared.arc.Arc.{Arc}
use Rattle.body_origins.specs.Births.{births_at_entry, births_of_step}
use Rattle.body_origins.specs.Flow.{flow}
use Rattle.body_origins.specs.Nodes.{arcs_at, relation_in}
use Rattle.body_origins.specs.Origins.{origins_of}
use Rattle.body_origins.specs.Paths.{Comes, Move}
use Rattle.flow_certs.specs.declared.pair.Pair.{Pair}
use Rattle.flow_certs.specs.Forms.{Section, body_count, body_id, first_wrong, sections}

-- the pair of a node, an origin with this number, and a fact
abbrev pub pair_at : ℕ → ℕ → Fact → Pair
pair_at node origin f = record { node = node; origin = origin; fact = f }

-- the pairs have the fact of the origin at the node
abbrev pub Lists : List Origin → List Pair → ℕ → Origin → Fact → Type 0
Lists origins pairs node o f = (n : ℕ) × (IsAt origins n o × Stands pairs (pair_at node n f))

-- The pairs have all births of a body with these rows of arcs: those at its entry at node 0, and those of the arcs of each node that is
-- reached at the nodes to which the arcs lead.
pub record HaveBirths (p : Program) (b : BodyId) (rows : List (List Arc)) (pairs : List Pair) : Type 0 where
  pub entered : (n : ℕ) (o : Origin) (f : Fact) → IsAt (births_at_entry p b) n (o, f) → Lists (origins_of p b rows) pairs 0 o f
  pub born : (k i n : ℕ) (t : Move ℕ) (o : Origin) (f : Fact) → Comes (relation_in rows) k → IsAt ((relation_in rows).next k) i t
      → IsAt (births_of_step p b t.action t.edge t.pos) n (o, f) → Lists (origins_of p b rows) pairs t.to o f

-- what a step makes of a fact is among the pairs, at the node to which the step leads, and no rule is broken
abbrev pub IsListed : List Pair → ℕ → ℕ → Outcome → Type 0
IsListed pairs node origin (Next f) = Stands pairs (pair_at node origin f)
IsListed pairs node origin Gone = Unit {0}
IsListed pairs node origin (Fault rule names) = ⊥

-- The pair is one of a node and an origin of the body, and what each arc of the node makes of its fact is among the pairs.
pub record IsClosed (p : Program) (b : BodyId) (rows : List (List Arc)) (pairs : List Pair) (x : Pair) : Type 0 where
  pub node : x.node < length rows
  pub origin : Origin
  pub numbered : IsAt (origins_of p b rows) x.origin origin
  pub steps : (i : ℕ) (a : Arc) → IsAt (arcs_at rows x.node) i a → IsListed pairs a.to x.origin (flow p b origin a.action a.edge x.fact)

-- The pairs are a certificate of the body: they have all births at reachable nodes, and are closed under the steps and the flow rules,
-- of which none is broken.
pub record AreCertificate (p : Program) (b : BodyId) (rows : List (List Arc)) (pairs : List Pair) : Type 0 where
  pub births : HaveBirths p b rows pairs
  pub closed : (j : ℕ) (x : Pair) → IsAt pairs j x → IsClosed p b rows pairs x

-- the body passes no limit on controls and places, and the pairs are a certificate of it
pub record IsCertified (p : Program) (b : BodyId) (pairs : List Pair) : Type 0 where
  pub small : (r : Refusal) → PassesLimit p b r → ⊥
  pub nodes : List (List Todo)
  pub rows : List (List Arc)
  pub graph : IsGraphOf p b nodes rows
  pub certificate : AreCertificate p b rows pairs

-- the first `n` parts are certificates of their bodies
abbrev pub AreCertified : Program → List Section → ℕ → Type 0
AreCertified p parts n = (i : ℕ) → i < n → (s : Section) × (IsAt parts i s × IsCertified p (body_id i) s.pairs)

-- the text is a certificate of the program
pub record IsCertificate (p : Program) (bytes : List ℕ) : Type 0 where
  pub form : first_wrong p bytes ≡ None
  pub bodies : AreCertified p (sections p bytes) (body_count p)
