-- The origins of a body are listed once.
use Rattle.std.proofs.Common.{List}
use Rattle.program_model.specs.declared.kinds.BodyId.{BodyId}
use Rattle.program_model.specs.declared.program.Program.{Program}
use Rattle.breadth_first.specs.Searches.{AreOnce}
use Rattle.java_cfg.specs.declared.arc.Arc.{Arc}
use Rattle.body_origins.specs.Origins.{births_in, origins_in, origins_of}
use Rattle.body_origins.proofs.BornOrigins.{origins_once}

pub once_listed : (p : Program) (b : BodyId) (rows : List (List Arc)) → AreOnce (origins_of p b rows)
once_listed p b rows = origins_once (origins_in (births_in p b rows))
