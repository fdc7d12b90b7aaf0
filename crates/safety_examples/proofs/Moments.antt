-- Moments of the runs of the two programs.
use Rattle.std.proofs.Common.{ℕ, true, Option, None, List, [], ◌∷◌, pos}
use Rattle.program_model.specs.declared.kinds.ClassId.{ClassId}
use Rattle.program_model.specs.declared.kinds.ElementType.TheVariants as elements
use Rattle.program_model.specs.NameSets.{Names}
use Rattle.java_control.specs.Remaining.{Todo}
use Rattle.stub_conduct.specs.declared.choice.Choice.{Choice}
use Rattle.ledger_state.specs.declared.entry.Entry.{Entry}
use Rattle.ledger_state.specs.declared.entry.Owner.{Owner}
use Rattle.ledger_state.specs.declared.entry.Owner.TheVariants as owners
use Rattle.ledger_state.specs.declared.object.Object.{Object}
use Rattle.ledger_state.specs.declared.value.Value.{Value}
use Rattle.ledger_state.specs.declared.value.Value.TheVariants as values
use Rattle.ledger_state.specs.Classes.{library_array}
use Rattle.soundness_laws.specs.Configuration.{Config}
use Rattle.safety_examples.specs.CarefulPrograms.{close_alone, io_exception, main_method, no_names, socket}

-- `main` stands at a control; what `s` and the temps hold, the objects, the lines, the choices and how many of them are used
abbrev pub at : List Todo → Value → List Value → List Object → List Entry → List Choice → ℕ → Config
at control s temps objects entries choices used = record {
  frames = record { method = main_method; control = control; locals = record { variables = values.Array 0 ∷ s ∷ []; this = values.Nothing; temps = temps } } ∷ [];
  heap = record { objects = objects; fields = [] };
  arrays = library_array elements.Str (pos 0) ∷ [];
  statics = [];
  entries = entries;
  choices = choices;
  used = used;
  ended = None;
}

-- `main` has ended, by an exception of the class or by none
abbrev pub ended_by : Option ClassId → List Object → List Entry → List Choice → ℕ → Config
ended_by e objects entries choices used = record {
  frames = [];
  heap = record { objects = objects; fields = [] };
  arrays = library_array elements.Str (pos 0) ∷ [];
  statics = [];
  entries = entries;
  choices = choices;
  used = used;
  ended = e;
}

-- the socket, on which these names were called
abbrev pub the_socket : Names → Owner → Object
the_socket called owner = record { class = socket; link = None; finished = true; must = close_alone; called = called; owner = owner }

-- the exception that `close` throws
abbrev pub the_exception : Object
the_exception = record { class = io_exception; link = None; finished = true; must = no_names; called = no_names; owner = owners.Library }
