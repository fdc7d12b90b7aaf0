-- The pairs of a control and a fact that paths reach, and the limit on them.
use Rattle.std.specs.Prelude.{◌≡◌, ◌<◌, ℕ, List, length}
use Rattle.rlc_base.specs.declared.code.Code.TheVariants as refused
use Rattle.rlc_base.specs.declared.faults.Stop.{Stop}
use Rattle.rlc_base.specs.declared.faults.Stop.TheVariants as stops
use Rattle.rlc_base.specs.declared.place.Pos.{Pos}
use Rattle.program_model.specs.declared.kinds.BodyId.{BodyId}
use Rattle.program_model.specs.declared.program.Program.{Program}
use Rattle.reached_pairs.specs.Searches.{IsAt}
use Rattle.java_cfg.specs.Limits.{refusal}
use Rattle.java_cfg.specs.Reach.{AreOnce}
use Rattle.control_actions.specs.declared.fact.Fact.{Fact}
use Rattle.control_actions.specs.declared.fact.Origin.{Origin}
use Rattle.flow_rules.specs.Paths.{Reach, Relation}

-- a control, and a fact of an origin there
pub record Pair (K : Type 0) : Type 0 where
  pub control : K
  pub origin : Origin
  pub fact : Fact

abbrev pub IsReachedPair : {K : Type 0} → Program → BodyId → Relation K → Pair K → Type 0
IsReachedPair p b r x = Reach p b r x.origin x.control x.fact

-- paths reach more than `n` pairs
pub record ReachesMorePairs {K : Type 0} (p : Program) (b : BodyId) (r : Relation K) (n : ℕ) : Type 0 where
  pub pairs : List (Pair K)
  pub reached : (i : ℕ) (x : Pair K) → IsAt pairs i x → IsReachedPair p b r x
  pub once : AreOnce pairs
  pub more : n < length pairs

-- the most pairs that a body may reach
abbrev pub most_pairs : ℕ
most_pairs = 1000000

-- why the paths of a body are not followed to their ends, where `pos` is the place that is told
abbrev pub IsPairsCause : {K : Type 0} → Program → BodyId → Relation K → Pos → Stop → Type 0
IsPairsCause p b r pos (stops.Refused x) = ⊥
IsPairsCause p b r pos (stops.TooMuch x) = (x ≡ refusal refused.TooManyFacts pos) × ReachesMorePairs p b r most_pairs
IsPairsCause p b r pos stops.NoMemory = Unit {0}
