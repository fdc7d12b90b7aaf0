-- Programs none of whose bodies calls a super constructor.
use Rattle.std.proofs.Common.{List}
use Rattle.program_model.specs.declared.kinds.BodyId.{BodyId}
use Rattle.program_model.specs.declared.program.Program.{Program}
use Rattle.java_control.specs.Remaining.{Todo}
use Rattle.covering_laws.specs.Paths.{Comes, on, relation_of}
use Rattle.covering_laws.specs.Storing.{HasStored, onward, opened, stored}

-- a control behind a store is one that is reached
pub stored_comes : (p : Program) (b : BodyId) (k : List Todo) → HasStored p b k → Comes (relation_of p b) k
stored_comes p b _ (stored i t f d comes at is) = on i t comes at
stored_comes p b _ (opened i t comes at is) = on i t comes at
stored_comes p b _ (onward {k} i t before at) = on i t (stored_comes p b k before) at
