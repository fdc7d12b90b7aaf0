-- A body with a certificate has no fault, and a text that is a certificate has no cause to be refused.
use Rattle.std.proofs.Common.{◌≡◌, ◌∙◌, sym, ap, subst, arith, ℕ, ◌<◌, inl, inr, Some, None, List, []}
use Rattle.std.specs.Prelude.{map, slice_get}
use Rattle.std.proofs.lemmas.Bool.{cases_lt}
use Rattle.std.proofs.lemmas.Option.{slice_get_past}
use Rattle.rlc_base.specs.declared.faults.Refusal.{Refusal}
use Rattle.rlc_base.specs.declared.faults.Stop.TheVariants as stops
use Rattle.rlc_base.specs.declared.place.Pos.{Pos}
use Rattle.program_model.specs.declared.kinds.BodyId.{BodyId}
use Rattle.program_model.specs.declared.program.Program.{Program}
use Rattle.program_model.specs.Lookups.{body_at}
use Rattle.breadth_first.specs.Searches.{IsAt}
use Rattle.breadth_first.proofs.ListLaws.{at_same, at_within, map_at}
use Rattle.control_actions.specs.Remaining.{Todo}
use Rattle.control_actions.specs.declared.fact.Fact.{Fact}
use Rattle.control_actions.specs.declared.fact.Origin.{Origin}
use Rattle.control_actions.specs.declared.fact.Rule.{Rule}
use Rattle.java_control.specs.Control.{Step, next_of, steps_in}
use Rattle.obligation_facts.specs.Facts.{Names}
use Rattle.java_cfg.specs.Limits.{PassesLimit}
use Rattle.java_cfg.specs.declared.arc.Arc.{Arc}
use Rattle.body_origins.specs.Flow.{flow}
use Rattle.body_origins.specs.Nodes.{arcs_at, move_of, relation_in}
use Rattle.body_origins.specs.Origins.{origins_of}
use Rattle.body_origins.specs.Paths.{Faulty, Move, Reach, relation_of, entered, born, flowed}
use Rattle.body_origins.specs.Paths.{move_of as control_move}
use Rattle.graph_relation.proofs.FaultLaws.{control_faulty}
use Rattle.flow_certs.specs.declared.pair.Pair.{Pair}
use Rattle.flow_certs.specs.Causes.{IsCertificateStop, IsOpenBody, IsOpenLine, IsOpenText, birth, pair}
use Rattle.flow_certs.specs.Certificates.{AreCertificate, IsCertificate, IsCertified, IsListed, Lists, pair_at}
use Rattle.flow_certs.specs.Forms.{Section, body_count, body_id, sections}
use Rattle.flow_certs.proofs.OneGraph.{one_graph}

module _ (p : Program) (b : BodyId) (rows : List (List Arc)) (pairs : List Pair) (certificate : AreCertificate p b rows pairs) where
  -- what a step of a listed fact comes to
  stepped : (o : Origin) (k i : ℕ) (f : Fact) (t : Move ℕ) → (listed : Lists (origins_of p b rows) pairs k o f) → IsAt ((relation_in rows).next k) i t
      → IsListed pairs t.to listed.0 (flow p b o t.action t.edge f)
  stepped o k i f t (n, (numbered, (j, here))) at =
      let closed = certificate.closed j (pair_at k n f) here in
      let same : closed.origin ≡ o = at_same (origins_of p b rows) n closed.origin o closed.numbered numbered in
      let arc = map_at move_of (arcs_at rows k) i t at in
      let step : IsListed pairs arc.0.to n (flow p b o arc.0.action arc.0.edge f) = subst (λ (q : Origin). IsListed pairs arc.0.to n (flow p b q arc.0.action arc.0.edge f)) same (closed.steps i arc.0 arc.1.0) in
      subst (λ (m : Move ℕ). IsListed pairs m.to n (flow p b o m.action m.edge f)) arc.1.1 step

  -- each fact that a path brings to a node is listed there
  reached_listed : (o : Origin) (k : ℕ) (f : Fact) → Reach p b (relation_in rows) o k f → Lists (origins_of p b rows) pairs k o f
  reached_listed o _ f (entered n is) = certificate.births.entered n o f is
  reached_listed o _ f (born {k} i n t comes at is) = certificate.births.born k i n t o f comes at is
  reached_listed o _ g (flowed {k} {f} i t reach at is) =
      let before = reached_listed o k f reach in
      let step = subst (IsListed pairs t.to before.0) is (stepped o k i f t before at) in
      (before.0, (before.1.0, step))

  -- no path through the graph breaks a rule
  node_faultless : (o : Origin) (rule : Rule) (at : Pos) (names : Names) → Faulty p b (relation_in rows) o rule at names → ⊥
  node_faultless o rule at names x =
      let before = reached_listed o x.control x.fact x.reached in
      subst (IsListed pairs x.move.to before.0) x.breaks (stepped o x.control x.index x.fact x.move before x.step)

module _ (p : Program) where
  body_faultless : (b : BodyId) (pairs : List Pair) → IsCertified p b pairs → (o : Origin) (rule : Rule) (at : Pos) (names : Names) → Faulty p b (relation_of p b) o rule at names → ⊥
  body_faultless b pairs c o rule at names x = node_faultless p b c.rows pairs c.certificate o rule at names (control_faulty p b c.nodes c.rows c.graph o rule at names x)

  -- a number that names no body has no steps
  no_steps : (b : BodyId) (k : List Todo) → body_at p b ≡ None → next_of p b k ≡ []
  unfolding next_of
  no_steps b k none = ap (λ (x : _). steps_in p x k) none

  no_body : (b : BodyId) → body_at p b ≡ None → (o : Origin) (rule : Rule) (at : Pos) (names : Names) → Faulty p b (relation_of p b) o rule at names → ⊥
  no_body b none o rule at names x =
      let step : slice_get (map control_move []) x.index ≡ Some x.move = ap (λ (xs : List Step). slice_get (map control_move xs) x.index) (sym (no_steps b x.control none)) ∙ x.step in
      let inside = at_within [] x.index x.move step in
      absurd (omega (arith, inside))

  -- no path through a body of a program with a certificate breaks a rule
  pub faultless : (bytes : List ℕ) → IsCertificate p bytes → (b : BodyId) (o : Origin) (rule : Rule) (at : Pos) (names : Names) → Faulty p b (relation_of p b) o rule at names → ⊥
  faultless bytes c b o rule at names x = elim (cases_lt b.0 (body_count p)) [
    | inl inside ↦ (let one = c.bodies b.0 inside in body_faultless b one.0.pairs one.1.1 o rule at names x)
    | inr past ↦ no_body b (slice_get_past p.bodies.items b.0 past) o rule at names x
  ]

  -- its bodies pass no limit on controls and places
  pub limitless : (bytes : List ℕ) → IsCertificate p bytes → (b : BodyId) (r : Refusal) → b.0 < body_count p → PassesLimit p b r → ⊥
  limitless bytes c b r inside limit = (c.bodies b.0 inside).1.1.small r limit

  open_line : (b : BodyId) (rows : List (List Arc)) (line : ℕ) (pairs : List Pair) (open_at : ℕ) → AreCertificate p b rows pairs → IsOpenLine p b rows line pairs open_at → ⊥
  open_line b rows line pairs _ c (birth missing) = missing c.births
  open_line b rows line pairs _ c (pair j x births here opens before) = opens (c.closed j x here)

  open_body : (b : BodyId) (line : ℕ) (pairs : List Pair) (open_at : ℕ) → IsCertified p b pairs → IsOpenBody p b line pairs open_at → ⊥
  open_body b line pairs open_at c x =
      let same = one_graph p b c.nodes x.nodes c.rows x.rows c.graph x.graph in
      open_line b x.rows line pairs open_at (subst (λ (rows : List (List Arc)). AreCertificate p b rows pairs) same c.certificate) x.opens

  open_text : (file : ℕ) (bytes : List ℕ) (r : Refusal) → IsCertificate p bytes → IsOpenText p file bytes r → ⊥
  open_text file bytes r c x =
      let one = c.bodies x.number x.within in
      let same : one.0 ≡ x.section = at_same (sections p bytes) x.number one.0 x.section one.1.0 x.at in
      open_body (body_id x.number) x.section.line x.section.pairs x.line (subst (λ (s : Section). IsCertified p (body_id x.number) s.pairs) same one.1.1) x.opens

  -- a certificate is not refused, and passes no limit
  pub not_refused : (file : ℕ) (bytes : List ℕ) (r : Refusal) → IsCertificate p bytes → IsCertificateStop p file bytes (stops.Refused r) → ⊥
  not_refused file bytes r c (inl bad) = let never : None ≡ Some bad.line = sym c.form ∙ bad.wrong in cc
  not_refused file bytes r c (inr opens) = open_text file bytes r c opens

  pub not_limited : (file : ℕ) (bytes : List ℕ) (r : Refusal) → IsCertificate p bytes → IsCertificateStop p file bytes (stops.TooMuch r) → ⊥
  not_limited file bytes r c x = (c.bodies x.number x.within).1.1.small r x.limit
