-- What the bodies of an elaborated program rest on.
use Rattle.std.specs.Prelude.{◌≡◌, ◌<◌, ◌^◌, Some, length}
use Rattle.program_model.specs.declared.kinds.BodyId.{BodyId}
use Rattle.program_model.specs.declared.program.Program.{Program}
use Rattle.program_model.specs.declared.tree.Body.{Body}
use Rattle.program_model.specs.Lookups.{body_at}
use Rattle.program_model.specs.Validity.{RunsBody}
use Rattle.java_elaboration.specs.ProgramBodies.{body_number}
use Rattle.java_elaboration.specs.SourceClassesMembers.{Environment}
use Rattle.java_elaboration.specs.Bodies.{SourceBody}
use Rattle.elaboration_laws.specs.BodiesOfTables.{HasTypedTable}
use Rattle.elaboration_laws.specs.LaidBodies.{HasHeadsInTrees}

-- the body is written for a method of the table that runs one, and names in its compilation unit mean types and classes of the table
pub record IsBodyInTable (e : Environment) (b : SourceBody) : Type 0 where
  pub typed : HasTypedTable e b
  pub runs : RunsBody e.program b.signature

-- the bodies of the program are trees, one of a method, and no more than numbers reach
pub record HasSingleTrees (q : Program) : Type 0 where
  pub few : length q.bodies.items < 2 ^ 32
  pub single : (n : BodyId) (x : Body) → body_at q n ≡ Some x → body_number q.bodies.items x.method.0 ≡ Some n
  pub trees : (n : BodyId) (x : Body) → body_at q n ≡ Some x → HasHeadsInTrees x
