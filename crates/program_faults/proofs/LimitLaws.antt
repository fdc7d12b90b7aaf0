-- Why a body stops the check.
use Rattle.std.proofs.Common.{◌≡◌, sym, ap, subst, ℕ, ◌+◌, ◌<◌, List, length}
use Rattle.rlc_base.specs.declared.code.Code.TheVariants as refused
use Rattle.rlc_base.specs.declared.faults.Refusal.{Refusal}
use Rattle.rlc_base.specs.declared.faults.Stop.{Stop}
use Rattle.rlc_base.specs.declared.faults.Stop.TheVariants as stops
use Rattle.rlc_base.specs.declared.place.Pos.{Pos}
use Rattle.program_model.specs.declared.kinds.BodyId.{BodyId}
use Rattle.program_model.specs.declared.program.Program.{Program}
use Rattle.java_cfg.specs.Graphs.{IsGraphOf}
use Rattle.java_cfg.specs.Limits.{HasTooManyPlaces, IsCause, PassesLimit, ReachesMore, method_place, refusal, too_large, too_many_places}
use Rattle.java_cfg.specs.declared.arc.Arc.{Arc}
use Rattle.java_control.specs.Remaining.{Todo}
use Rattle.flow_rules.specs.Paths.{relation_of}
use Rattle.graph_limits.specs.Nodes.{relation_in}
use Rattle.graph_limits.specs.Pairs.{IsPairsCause, ReachesMorePairs, most_pairs}
use Rattle.fault_order.specs.declared.fault.FaultAt.{FaultAt}
use Rattle.graph_limits.proofs.PairLaws.{node_pairs, same_cause}
use Rattle.obligation_flow.specs.Faults.{AreFaultsOf}
use Rattle.program_faults.specs.BodyReports.{HasFaults, IsBodyStop, faults, limit, most_faults, pairs}

module _ (p : Program) (b : BodyId) where
  -- a body with a graph passes no limit on controls and places
  pub no_limit : (ReachesMore p b 65536 → ⊥) → (HasTooManyPlaces p b → ⊥) → (r : Refusal) → PassesLimit p b r → ⊥
  no_limit small fits r (too_large is more) = small more
  no_limit small fits r (too_many_places is few many) = fits many

  pub graph_stop : (before : ℕ) (stop : Stop) → IsCause p b stop → IsBodyStop p b before stop
  graph_stop before (stops.Refused r) cause = cause
  graph_stop before (stops.TooMuch r) cause = limit cause
  graph_stop before stops.NoMemory cause = tt

  control_stop : (before : ℕ) (stop : Stop) → ((r : Refusal) → PassesLimit p b r → ⊥) → IsPairsCause p b (relation_of p b) (method_place p b) stop → IsBodyStop p b before stop
  control_stop before (stops.Refused r) small cause = cause
  control_stop before (stops.TooMuch r) small cause = pairs cause.0 small cause.1
  control_stop before stops.NoMemory small cause = tt

  module _ (nodes : List (List Todo)) (rows : List (List Arc)) (g : IsGraphOf p b nodes rows) where
    pub pairs_stop : (before : ℕ) (stop : Stop) → ((r : Refusal) → PassesLimit p b r → ⊥) → IsPairsCause p b (relation_in rows) (method_place p b) stop → IsBodyStop p b before stop
    pairs_stop before stop small cause = control_stop before stop small ((same_cause p b nodes rows g (method_place p b) stop).0 cause)

    pub has_faults : (xs : List FaultAt) → ((r : Refusal) → PassesLimit p b r → ⊥) → (ReachesMorePairs p b (relation_in rows) most_pairs → ⊥) → AreFaultsOf p b (relation_of p b) xs → HasFaults p b xs
    has_faults xs small few are = record { small = small; few_pairs = λ many. few (node_pairs p b nodes rows g most_pairs many); are = are }

  pub count_stop : (before found : ℕ) (xs : List FaultAt) (pos : Pos) (stop : Stop) → HasFaults p b xs → found ≡ length xs → pos ≡ method_place p b
      → stop ≡ stops.TooMuch (refusal refused.TooManyFaults pos) → most_faults < before + found → IsBodyStop p b before stop
  count_stop before found xs pos stop has counted place is many =
      let code : refusal refused.TooManyFaults pos ≡ refusal refused.TooManyFaults (method_place p b) = ap (refusal refused.TooManyFaults) place in
      let more : most_faults < before + length xs = subst (λ (n : ℕ). most_faults < before + n) counted many in
      subst (IsBodyStop p b before) (sym is) (faults xs code has more)
