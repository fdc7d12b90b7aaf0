-- What is left to run at the controls of the program's bodies, in the order in which they are reached.
use Rattle.std.specs.Prelude.{List, [], ◌∷◌}
use Rattle.control_actions.specs.declared.action.Action.TheVariants as actions
use Rattle.control_actions.specs.declared.action.Scope.TheVariants as scopes
use Rattle.control_actions.specs.declared.action.TargetForm.TheVariants as forms
use Rattle.control_actions.specs.declared.place.Place.TheVariants as places
use Rattle.java_control.specs.Remaining.{Todo, Do, Ev, Act, Ended}
use Rattle.safety_examples.specs.CarefulPrograms.{expression_number, in_source, statement_number}
use Rattle.safety_examples.specs.ReconnectingPrograms.{holder_close, holder_connect, holder_constructor}
use Rattle.safety_examples.specs.ResettingPrograms.{connect, held, socket_close, socket_constructor}

-- ---- the constructor: `this.held = new Socket();`

abbrev pub makes_socket : Todo
makes_socket = Act (actions.New socket_constructor 0 0) (in_source 4 28)

abbrev pub stores_held : Todo
stores_held = Act (actions.PutOwn held 0) (in_source 4 26)

abbrev pub drops_stored : Todo
drops_stored = Act (actions.Drop (scopes.Temp 0)) (in_source 4 16)

abbrev pub constructor_controls : List (List Todo)
constructor_controls =
    (Do (statement_number 0) 0 ∷ [])
    ∷ (Ev (expression_number 2) 0 ∷ drops_stored ∷ [])
    ∷ (Ev (expression_number 1) 0 ∷ stores_held ∷ drops_stored ∷ [])
    ∷ (makes_socket ∷ stores_held ∷ drops_stored ∷ [])
    ∷ (stores_held ∷ drops_stored ∷ [])
    ∷ (drops_stored ∷ [])
    ∷ []
    ∷ (Ended ∷ [])
    ∷ []

-- ---- `connect`: `this.held.connect();`

abbrev pub reads_socket : Todo
reads_socket = Act (actions.Copy (places.Temp 0) (places.Field 0)) (in_source 6 27)

abbrev pub connects_held : Todo
connects_held = Act (actions.Call connect 0 1 forms.Other) (in_source 6 32)

abbrev pub drops_connected : Todo
drops_connected = Act (actions.Drop (scopes.Temp 0)) (in_source 6 22)

abbrev pub connect_controls : List (List Todo)
connect_controls =
    (Do (statement_number 0) 0 ∷ [])
    ∷ (Ev (expression_number 2) 0 ∷ drops_connected ∷ [])
    ∷ (Ev (expression_number 1) 0 ∷ connects_held ∷ drops_connected ∷ [])
    ∷ (reads_socket ∷ connects_held ∷ drops_connected ∷ [])
    ∷ (connects_held ∷ drops_connected ∷ [])
    ∷ (drops_connected ∷ [])
    ∷ []
    ∷ (Ended ∷ [])
    ∷ []

-- ---- `close`: `this.held.close();`

abbrev pub reads_held : Todo
reads_held = Act (actions.Copy (places.Temp 0) (places.Field 0)) (in_source 8 25)

abbrev pub closes_held : Todo
closes_held = Act (actions.Call socket_close 0 1 forms.Other) (in_source 8 30)

abbrev pub drops_held : Todo
drops_held = Act (actions.Drop (scopes.Temp 0)) (in_source 8 20)

abbrev pub close_controls : List (List Todo)
close_controls =
    (Do (statement_number 0) 0 ∷ [])
    ∷ (Ev (expression_number 2) 0 ∷ drops_held ∷ [])
    ∷ (Ev (expression_number 1) 0 ∷ closes_held ∷ drops_held ∷ [])
    ∷ (reads_held ∷ closes_held ∷ drops_held ∷ [])
    ∷ (closes_held ∷ drops_held ∷ [])
    ∷ (drops_held ∷ [])
    ∷ []
    ∷ (Ended ∷ [])
    ∷ []

-- ---- `main`: `Holder h = new Holder(); h.close(); h.connect(); h.close();`

abbrev pub makes_holder : Todo
makes_holder = Act (actions.New holder_constructor 0 0) (in_source 10 20)

abbrev pub keeps_holder : Todo
keeps_holder = Act (actions.Move (places.Var 1) (places.Temp 0)) (in_source 10 16)

-- `h.close();`
abbrev pub first : Todo
first = Do (statement_number 1) 0

abbrev pub reads_first : Todo
reads_first = Act (actions.Copy (places.Temp 0) (places.Var 1)) (in_source 11 9)

abbrev pub calls_first : Todo
calls_first = Act (actions.Call holder_close 0 1 forms.Other) (in_source 11 11)

abbrev pub drops_first : Todo
drops_first = Act (actions.Drop (scopes.Temp 0)) (in_source 11 9)

-- `h.connect();`
abbrev pub second : Todo
second = Do (statement_number 2) 0

abbrev pub reads_second : Todo
reads_second = Act (actions.Copy (places.Temp 0) (places.Var 1)) (in_source 12 9)

abbrev pub calls_second : Todo
calls_second = Act (actions.Call holder_connect 0 1 forms.Other) (in_source 12 11)

abbrev pub drops_second : Todo
drops_second = Act (actions.Drop (scopes.Temp 0)) (in_source 12 9)

-- `h.close();`
abbrev pub third : Todo
third = Do (statement_number 3) 0

abbrev pub reads_third : Todo
reads_third = Act (actions.Copy (places.Temp 0) (places.Var 1)) (in_source 13 9)

abbrev pub calls_third : Todo
calls_third = Act (actions.Call holder_close 0 1 forms.Other) (in_source 13 11)

abbrev pub drops_third : Todo
drops_third = Act (actions.Drop (scopes.Temp 0)) (in_source 13 9)

abbrev pub main_controls : List (List Todo)
main_controls =
    (Do (statement_number 0) 0 ∷ first ∷ second ∷ third ∷ [])
    ∷ (Ev (expression_number 0) 0 ∷ keeps_holder ∷ first ∷ second ∷ third ∷ [])
    ∷ (makes_holder ∷ keeps_holder ∷ first ∷ second ∷ third ∷ [])
    ∷ (keeps_holder ∷ first ∷ second ∷ third ∷ [])
    ∷ (first ∷ second ∷ third ∷ [])
    ∷ (Ev (expression_number 2) 0 ∷ drops_first ∷ second ∷ third ∷ [])
    ∷ (Ev (expression_number 1) 0 ∷ calls_first ∷ drops_first ∷ second ∷ third ∷ [])
    ∷ (reads_first ∷ calls_first ∷ drops_first ∷ second ∷ third ∷ [])
    ∷ (calls_first ∷ drops_first ∷ second ∷ third ∷ [])
    ∷ (drops_first ∷ second ∷ third ∷ [])
    ∷ (second ∷ third ∷ [])
    ∷ (Ev (expression_number 4) 0 ∷ drops_second ∷ third ∷ [])
    ∷ (Ev (expression_number 3) 0 ∷ calls_second ∷ drops_second ∷ third ∷ [])
    ∷ (reads_second ∷ calls_second ∷ drops_second ∷ third ∷ [])
    ∷ (calls_second ∷ drops_second ∷ third ∷ [])
    ∷ (drops_second ∷ third ∷ [])
    ∷ (third ∷ [])
    ∷ (Ev (expression_number 6) 0 ∷ drops_third ∷ [])
    ∷ (Ev (expression_number 5) 0 ∷ calls_third ∷ drops_third ∷ [])
    ∷ (reads_third ∷ calls_third ∷ drops_third ∷ [])
    ∷ (calls_third ∷ drops_third ∷ [])
    ∷ (drops_third ∷ [])
    ∷ []
    ∷ (Ended ∷ [])
    ∷ []
