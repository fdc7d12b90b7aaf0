-- The part of a body, and why it is not taken.
use Rattle.std.proofs.Common.{◌≡◌, sym, refl, subst, ℕ, ◌+◌, Some, None, List}
use Rattle.rlc_base.specs.declared.code.Code.TheVariants as refused
use Rattle.rlc_base.specs.declared.faults.Refusal.{Refusal}
use Rattle.rlc_base.specs.declared.faults.Stop.{Stop}
use Rattle.rlc_base.specs.declared.faults.Stop.TheVariants as stops
use Rattle.rlc_base.specs.Codes.{stop_of}
use Rattle.program_model.specs.declared.kinds.BodyId.{BodyId}
use Rattle.program_model.specs.declared.program.Program.{Program}
use Rattle.breadth_first.specs.Searches.{Stands}
use Rattle.control_actions.specs.Remaining.{Todo}
use Rattle.java_cfg.specs.Graphs.{IsGraphOf}
use Rattle.java_cfg.specs.Limits.{HasTooManyPlaces, IsCause, PassesLimit, ReachesMore, too_large, too_many_places}
use Rattle.java_cfg.specs.declared.arc.Arc.{Arc}
use Rattle.flow_certs.specs.declared.pair.Pair.{Pair}
use Rattle.flow_certs.specs.Causes.{IsOpenLine, IsPartStop, birth, pair, refusal_at}
use Rattle.flow_certs.specs.Certificates.{AreCertificate, HaveBirths, IsCertified}
use Rattle.flow_certs.specs.Forms.{AreSamePairs}
use Rattle.flow_certs.specs.Listings.{IsFirstOpen}
use Rattle.flow_certs.proofs.StepLaws.{births_more, closed_more}

module _ (p : Program) (b : BodyId) where
  -- a body with a graph passes no limit on controls and places
  pub no_limit : (ReachesMore p b 65536 → ⊥) → (HasTooManyPlaces p b → ⊥) → (r : Refusal) → PassesLimit p b r → ⊥
  no_limit small fits r (too_large is more) = small more
  no_limit small fits r (too_many_places is few many) = fits many

  pub graph_stop : (file line : ℕ) (pairs : List Pair) (stop : Stop) → IsCause p b stop → IsPartStop p file b line pairs stop
  graph_stop file line pairs (stops.Refused r) cause = absurd cause
  graph_stop file line pairs (stops.TooMuch r) cause = cause
  graph_stop file line pairs stops.NoMemory cause = tt

  module _ (rows : List (List Arc)) (keys pairs : List Pair) (same : AreSamePairs keys pairs) where
    back : (x : Pair) → Stands pairs x → Stands keys x
    back x = (same x).1

    forth : (x : Pair) → Stands keys x → Stands pairs x
    forth x = (same x).0

    -- all births are among the pairs, and each pair is closed
    pub certificate_of : HaveBirths p b rows keys → IsFirstOpen p b rows keys pairs None → AreCertificate p b rows pairs
    certificate_of births closed = record {
      births = births_more keys pairs forth p b rows births;
      closed = λ j x here. closed_more keys pairs forth p b rows x (closed j x here);
    }

    -- a birth is missing
    pub birth_line : (line : ℕ) → (HaveBirths p b rows keys → ⊥) → IsOpenLine p b rows line pairs line
    birth_line line missing = birth (λ births. missing (births_more pairs keys back p b rows births))

    -- the pair of a place is the first that is not closed
    pub pair_line : (line place : ℕ) → HaveBirths p b rows keys → IsFirstOpen p b rows keys pairs (Some place) → IsOpenLine p b rows line pairs (line + 1 + place)
    pair_line line place births (before, (x, (here, opens))) =
        pair place x (births_more keys pairs forth p b rows births) here (λ closed. opens (closed_more pairs keys back p b rows x closed))
        (λ i y low at. closed_more keys pairs forth p b rows y (before i y low at))

  module _ (nodes : List (List Todo)) (rows : List (List Arc)) (g : IsGraphOf p b nodes rows) (small : (r : Refusal) → PassesLimit p b r → ⊥) (pairs : List Pair) where
    pub certified : AreCertificate p b rows pairs → IsCertified p b pairs
    certified c = record { small = small; nodes = nodes; rows = rows; graph = g; certificate = c }

    pub open_stop : (file line open_at : ℕ) (stop : Stop) → IsOpenLine p b rows line pairs open_at → stop ≡ stop_of (refusal_at refused.CertOpen file open_at) → IsPartStop p file b line pairs stop
    open_stop file line open_at stop opens is =
        subst (IsPartStop p file b line pairs) (sym is) (open_at, (record { small = small; nodes = nodes; rows = rows; graph = g; opens = opens }, refl))
