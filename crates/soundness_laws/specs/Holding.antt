-- All that holds in each moment of a run of an accepted program.
use Rattle.program_model.specs.declared.program.Program.{Program}
use Rattle.content_laws.specs.Configuration.{Config}
use Rattle.content_laws.specs.Frames.{HaveTargets}
use Rattle.content_laws.specs.Types.{HaveTypes}
use Rattle.content_laws.specs.FieldContents.{FieldsHold, FieldsOwn, MakersOwn}
use Rattle.content_laws.specs.PlaceFacts.{AreCovered}
use Rattle.content_laws.specs.Ranges.{AreInRange}
use Rattle.content_laws.specs.Making.{AreBeingMade}
use Rattle.content_laws.specs.Linking.{LinkedAreAliases, LinksReachAliased}
use Rattle.content_laws.specs.Agreement.{Agree}
use Rattle.content_laws.specs.Arguments.{HaveArguments}
use Rattle.content_laws.specs.ClassValues.{HaveClasses}
use Rattle.content_laws.specs.Thrown.{HaveThrown}
use Rattle.content_laws.specs.Filled.{AreFilled}
use Rattle.content_laws.specs.Sight.{RunOnObjects}
use Rattle.soundness_laws.specs.Knowing.{AllKnowArguments}

-- The frames and the heap agree with the facts of the flow rules, `this` stands where it is taken, no object stands where the static type is
-- no class type, each object that is held is there, the places of frames are in facts that are true of what they hold, what is being made
-- is not finished, what is linked is an alias, of an argument that some method takes, fields hold what they own, and own what they hold, those of what constructors make, too, and calls on links lead to their ends, frames hold the arguments of their calls, an object of a class or null stands where the static
-- type is under the class, exceptions on their way out stand in their temps, constructors have stored what the owning fields of their objects hold, frames with a `this` run on objects, and know of `this` and of aliased arguments.
pub record Holds (p : Program) (c : Config) : Type 0 where
  pub agree : Agree p c
  pub targets : HaveTargets p c.frames
  pub types : HaveTypes p c
  pub ranges : AreInRange c
  pub covered : AreCovered p c.heap c.frames
  pub making : AreBeingMade p c.heap c.frames
  pub aliases : LinkedAreAliases p c.heap
  pub reached : LinksReachAliased p c.heap
  pub fields : FieldsHold p c.frames c.heap
  pub owned : FieldsOwn p c.heap
  pub makers : MakersOwn p c.heap c.frames
  pub arguments : HaveArguments p c.frames
  pub values : HaveClasses p c
  pub thrown : HaveThrown p c.frames
  pub filled : AreFilled p c.heap c.frames
  pub objects : RunOnObjects p c.frames
  pub known : AllKnowArguments p c.frames
