-- The start of a run.
use Rattle.std.specs.Prelude.{None, [], ◌∷◌, pos}
use Rattle.program_model.specs.declared.kinds.ElementType.TheVariants as elements
use Rattle.program_model.specs.declared.kinds.MethodId.{MethodId}
use Rattle.program_model.specs.declared.program.Program.{Program}
use Rattle.stub_conduct.specs.declared.choice.Choices.{Choices}
use Rattle.ledger_state.specs.declared.value.Value.TheVariants as values
use Rattle.ledger_steps.specs.LedgerCallsCalls.{begun}
use Rattle.ledger_moves.specs.Configuration.{Config}
use Rattle.ledger_state.specs.Classes.{library_array}

-- one frame, of `main`, whose argument is an array of texts that the library chooses; no object, no line, and no choice used
unfoldable pub start_config : Program → MethodId → Choices → Config
start_config p main choices = record {
  frames = begun p main values.Nothing (values.Array 0 ∷ []) ∷ [];
  heap = record { objects = []; fields = [] };
  arrays = library_array elements.Str (pos choices.args) ∷ [];
  statics = [];
  entries = [];
  choices = choices.list.items;
  used = 0;
  ended = None;
}
