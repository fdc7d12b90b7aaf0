-- What a step of the machine comes to.
use Rattle.std.specs.Prelude.{Option}
use Rattle.program_model.specs.declared.kinds.ClassId.{ClassId}
use Rattle.rlc_base.specs.declared.place.Pos.{Pos}
use Rattle.ledger_moves.specs.Configuration.{Config}

-- a configuration, or none: no frame is left, and `main` ended by an exception of this class, or by none; or the next step throws
-- an ignored exception of this class, at this place, and is not taken
pub data Outcome : Type 0 where
  went : (c : Config) → Outcome
  ended : (e : Option ClassId) → Outcome
  stray : (e : ClassId) (pos : Pos) → Outcome

-- the configuration afterwards: where no step was taken, that of before
abbrev pub config_after : Config → Outcome → Config
config_after c (went d) = d
config_after c (ended e) = c
config_after c (stray e pos) = c
