-- Where `this` stands in the frames of a run.
pub use Rattle.ledger_moves.specs.LedgerFramesFrames.{frame_after, is_made, made_place}
pub use Rattle.ledger_moves.specs.LedgerFramesFrames.{frame_after}
use Rattle.std.specs.Prelude.{◌≡◌, ℕ, ◌<◌, false, Some, List, [], ◌∷◌}
use Rattle.program_model.specs.declared.kinds.BodyId.{BodyId}
use Rattle.program_model.specs.declared.program.Program.{Program}
use Rattle.program_model.specs.declared.tree.Body.{Body}
use Rattle.program_model.specs.Lookups.{body_at}
use Rattle.fact_laws.specs.Paths.{Comes, relation_of}
use Rattle.ledger_state.specs.declared.locals.Locals.{Locals}
use Rattle.ledger_state.specs.Locals.{temp_value}
use Rattle.ledger_state.specs.Values.{is_null}
use Rattle.ledger_moves.specs.Configuration.{Frame}
use Rattle.ledger_moves.specs.Choosing.{body_id}
use Rattle.fact_laws.specs.StepTargets.{FindsThis, RunsOnThis}

-- the temp of the depth holds `this`; no accepted body has temps as deep as 64
abbrev pub holds_this : Locals → ℕ → Type 0
holds_this l d = d < 64 → temp_value l d ≡ l.this

-- The frame stands at a control that its body reaches. Each action that is left to run finds `this` where it takes it from a
-- temp, and `this` is not null in an instance method or a constructor.
pub record KeepsTargets (p : Program) (fr : Frame) : Type 0 where
  pub number : BodyId
  pub body : Body
  pub id : body_id p fr.method ≡ Some number
  pub at : body_at p number ≡ Some body
  pub method : body.method ≡ fr.method
  pub control : Comes (relation_of p number) fr.control
  pub this : RunsOnThis p body → is_null fr.locals.this ≡ false
  pub targets : FindsThis p body fr.control (holds_this fr.locals)

abbrev pub HaveTargets : Program → List Frame → Type 0
HaveTargets p [] = Unit {0}
HaveTargets p (fr ∷ frs) = KeepsTargets p fr × HaveTargets p frs
