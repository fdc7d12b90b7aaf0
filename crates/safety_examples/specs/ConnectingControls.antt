-- What is left to run at the controls of the program's bodies, in the order in which they are reached.
use Rattle.std.specs.Prelude.{List, [], ◌∷◌}
use Rattle.control_actions.specs.declared.action.Action.TheVariants as actions
use Rattle.control_actions.specs.declared.action.Scope.TheVariants as scopes
use Rattle.control_actions.specs.declared.action.TargetForm.TheVariants as forms
use Rattle.control_actions.specs.declared.place.Place.TheVariants as places
use Rattle.java_control.specs.Remaining.{Todo, Do, Ev, Act, Ended}
use Rattle.safety_examples.specs.CarefulPrograms.{expression_number, in_source, statement_number}
use Rattle.safety_examples.specs.ConnectingPrograms.{holder_close, holder_constructor}
use Rattle.safety_examples.specs.ResettingPrograms.{connect, held, socket_close, socket_constructor}

-- ---- the constructor: `this.held = new Socket(); this.held.connect();`

abbrev pub makes_socket : Todo
makes_socket = Act (actions.New socket_constructor 0 0) (in_source 4 28)

abbrev pub stores_held : Todo
stores_held = Act (actions.PutOwn held 0) (in_source 4 26)

abbrev pub drops_stored : Todo
drops_stored = Act (actions.Drop (scopes.Temp 0)) (in_source 4 16)

-- `this.held.connect();`
abbrev pub connects_after : Todo
connects_after = Do (statement_number 1) 0

abbrev pub reads_stored : Todo
reads_stored = Act (actions.Copy (places.Temp 0) (places.Field 0)) (in_source 4 47)

abbrev pub connects_held : Todo
connects_held = Act (actions.Call connect 0 1 forms.Other) (in_source 4 52)

abbrev pub drops_connected : Todo
drops_connected = Act (actions.Drop (scopes.Temp 0)) (in_source 4 42)

abbrev pub constructor_controls : List (List Todo)
constructor_controls =
    (Do (statement_number 0) 0 ∷ connects_after ∷ [])
    ∷ (Ev (expression_number 2) 0 ∷ drops_stored ∷ connects_after ∷ [])
    ∷ (Ev (expression_number 1) 0 ∷ stores_held ∷ drops_stored ∷ connects_after ∷ [])
    ∷ (makes_socket ∷ stores_held ∷ drops_stored ∷ connects_after ∷ [])
    ∷ (stores_held ∷ drops_stored ∷ connects_after ∷ [])
    ∷ (drops_stored ∷ connects_after ∷ [])
    ∷ (connects_after ∷ [])
    ∷ (Ev (expression_number 5) 0 ∷ drops_connected ∷ [])
    ∷ (Ev (expression_number 4) 0 ∷ connects_held ∷ drops_connected ∷ [])
    ∷ (reads_stored ∷ connects_held ∷ drops_connected ∷ [])
    ∷ (connects_held ∷ drops_connected ∷ [])
    ∷ (drops_connected ∷ [])
    ∷ []
    ∷ (Ended ∷ [])
    ∷ []

-- ---- `close`: `this.held.close();`

abbrev pub reads_held : Todo
reads_held = Act (actions.Copy (places.Temp 0) (places.Field 0)) (in_source 6 25)

abbrev pub closes_held : Todo
closes_held = Act (actions.Call socket_close 0 1 forms.Other) (in_source 6 30)

abbrev pub drops_held : Todo
drops_held = Act (actions.Drop (scopes.Temp 0)) (in_source 6 20)

abbrev pub close_controls : List (List Todo)
close_controls =
    (Do (statement_number 0) 0 ∷ [])
    ∷ (Ev (expression_number 2) 0 ∷ drops_held ∷ [])
    ∷ (Ev (expression_number 1) 0 ∷ closes_held ∷ drops_held ∷ [])
    ∷ (reads_held ∷ closes_held ∷ drops_held ∷ [])
    ∷ (closes_held ∷ drops_held ∷ [])
    ∷ (drops_held ∷ [])
    ∷ []
    ∷ (Ended ∷ [])
    ∷ []

-- ---- `main`: `Holder h = new Holder(); h.close();`

abbrev pub makes_holder : Todo
makes_holder = Act (actions.New holder_constructor 0 0) (in_source 8 20)

abbrev pub keeps_holder : Todo
keeps_holder = Act (actions.Move (places.Var 1) (places.Temp 0)) (in_source 8 16)

-- `h.close();`
abbrev pub second : Todo
second = Do (statement_number 1) 0

abbrev pub reads_holder : Todo
reads_holder = Act (actions.Copy (places.Temp 0) (places.Var 1)) (in_source 9 9)

abbrev pub closes_holder : Todo
closes_holder = Act (actions.Call holder_close 0 1 forms.Other) (in_source 9 11)

abbrev pub drops_holder : Todo
drops_holder = Act (actions.Drop (scopes.Temp 0)) (in_source 9 9)

abbrev pub main_controls : List (List Todo)
main_controls =
    (Do (statement_number 0) 0 ∷ second ∷ [])
    ∷ (Ev (expression_number 0) 0 ∷ keeps_holder ∷ second ∷ [])
    ∷ (makes_holder ∷ keeps_holder ∷ second ∷ [])
    ∷ (keeps_holder ∷ second ∷ [])
    ∷ (second ∷ [])
    ∷ (Ev (expression_number 2) 0 ∷ drops_holder ∷ [])
    ∷ (Ev (expression_number 1) 0 ∷ closes_holder ∷ drops_holder ∷ [])
    ∷ (reads_holder ∷ closes_holder ∷ drops_holder ∷ [])
    ∷ (closes_holder ∷ drops_holder ∷ [])
    ∷ (drops_holder ∷ [])
    ∷ []
    ∷ (Ended ∷ [])
    ∷ []
