-- Frames that begin, and steps over a table of lists.
use Rattle.std.proofs.Common.{◌≡◌, refl, ◌-◌, Option, Some, None, List, [], ◌∷◌, ◌++◌, map, length, replicate}
use Rattle.std.specs.Prelude.{slice_get}
use Rattle.std.specs.Option.{option_map}
use Rattle.java_control.specs.Changes.{step_in}
use Rattle.control_actions.specs.declared.cell.Cell.{Cell}
use Rattle.control_actions.specs.declared.triple.Triple.{Triple}
use Rattle.ledger_frames.specs.LedgerCallsCalls.{begun, body_of, control_in, variable_count}
use Rattle.ledger_moves.specs.Frames.{start_by}
use Rattle.ledger_state.specs.declared.locals.Locals.{Locals}
use Rattle.ledger_state.specs.declared.value.Value.{Value}
use Rattle.ledger_state.specs.declared.value.Value.TheVariants as values
use Rattle.program_model.specs.declared.kinds.BodyId.{BodyId}
use Rattle.program_model.specs.declared.kinds.MethodId.{MethodId}
use Rattle.program_model.specs.declared.program.Program.{Program}
use Rattle.program_model.specs.Lookups.{method_at}

frame_begun : (p : Program) (b : Option BodyId) (m : MethodId) (l : Locals) → control_in p b (record { method = m; control = []; locals = l }) ≡ record { method = m; control = start_by p b; locals = l }
frame_begun p None m l = refl
frame_begun p (Some b) m l = refl

-- the frame of a method that begins, part by part
pub begun_as : (p : Program) (m : MethodId) (self : Value) (xs : List Value) → begun p m self xs ≡ record {
  method = m;
  control = start_by p (body_of (method_at p m));
  locals = record {
    variables = xs ++ replicate (variable_count p (body_of (method_at p m)) - length xs) values.Nothing;
    this = self;
    temps = [];
  };
}
begun_as p m self xs = frame_begun p (body_of (method_at p m)) m _

pub first_seen : (cells : List Cell) (steps : List Triple) → option_map (step_in cells) (slice_get steps 0) ≡ slice_get (map (step_in cells) steps) 0
first_seen cells [] = refl
first_seen cells (s ∷ ss) = refl
