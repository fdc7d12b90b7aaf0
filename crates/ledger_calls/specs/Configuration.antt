-- What the machine is at one moment: its frames, its heap with the ledger of each object, its arrays and static fields, the
-- entries so far, and the choices of the library.
use Rattle.std.specs.Prelude.{ℕ, Option, List, map}
use Rattle.program_model.specs.declared.kinds.ClassId.{ClassId}
use Rattle.program_model.specs.declared.kinds.MethodId.{MethodId}
use Rattle.java_control.specs.Remaining.{Todo}
use Rattle.stub_conduct.specs.declared.choice.Choice.{Choice}
use Rattle.ledger_state.specs.declared.array.ArrayObject.{ArrayObject}
use Rattle.ledger_state.specs.declared.entry.Entry.{Entry}
use Rattle.ledger_state.specs.declared.locals.Locals.{Locals}
use Rattle.ledger_state.specs.declared.object.StoredStatic.{StoredStatic}
use Rattle.ledger_state.specs.declared.value.Value.{Value}
use Rattle.ledger_state.specs.Contents.{HeapContents}
use Rattle.ledger_state.specs.Locals.{held}

-- a method that runs: what is left of its body, and the values of its variables, of `this`, and of its temps by depth
pub record Frame : Type 0 where
  pub method : MethodId
  pub control : List Todo
  pub locals : Locals

-- what each of the frames holds
abbrev pub held_by : List Frame → List (List Value)
held_by frs = map (λ (fr : Frame). held fr.locals) frs

-- the top frame stands first, and a frame's position is the number of frames from it down, so that `main` is 1. Where no
-- frame is left, `ended` is the class of the exception by which `main` ended
pub record Config : Type 0 where
  pub frames : List Frame
  pub heap : HeapContents
  pub arrays : List ArrayObject
  pub statics : List StoredStatic
  pub entries : List Entry
  pub choices : List Choice
  pub used : ℕ
  pub ended : Option ClassId
