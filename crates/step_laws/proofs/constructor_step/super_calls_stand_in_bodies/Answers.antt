use Rattle.step_laws.proofs.ConstructorReached.{super_stands}
use Rattle.step_laws.proofs.constructor_step.super_calls_stand_in_bodies.Goals as goal

pub returns : goal.returns
returns c = super_stands
