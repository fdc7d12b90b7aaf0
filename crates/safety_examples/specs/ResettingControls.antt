-- What is left to run at the controls of the program's bodies, in the order in which they are reached.
use Rattle.std.specs.Prelude.{List, [], ◌∷◌}
use Rattle.control_actions.specs.declared.action.Action.TheVariants as actions
use Rattle.control_actions.specs.declared.action.Scope.TheVariants as scopes
use Rattle.control_actions.specs.declared.action.TargetForm.TheVariants as forms
use Rattle.control_actions.specs.declared.place.Place.TheVariants as places
use Rattle.java_control.specs.Remaining.{Todo, Do, Ev, Act, Ended}
use Rattle.safety_examples.specs.CarefulPrograms.{expression_number, in_source, statement_number}
use Rattle.safety_examples.specs.ResettingPrograms.{close_quietly, connect, held, holder_close, holder_constructor, socket_constructor}

-- ---- the constructor: `s.connect(); this.held = s;`

abbrev pub reads_first : Todo
reads_first = Act (actions.Copy (places.Temp 0) (places.Var 0)) (in_source 4 32)

abbrev pub connects_parameter : Todo
connects_parameter = Act (actions.Call connect 0 1 forms.Other) (in_source 4 34)

abbrev pub leaves_parameter : Todo
leaves_parameter = Act (actions.Drop (scopes.Temp 0)) (in_source 4 32)

-- `this.held = s;`
abbrev pub keeps_parameter : Todo
keeps_parameter = Do (statement_number 1) 0

abbrev pub reads_parameter : Todo
reads_parameter = Act (actions.Copy (places.Temp 0) (places.Var 0)) (in_source 4 57)

abbrev pub stores_held : Todo
stores_held = Act (actions.PutOwn held 0) (in_source 4 55)

abbrev pub drops_stored : Todo
drops_stored = Act (actions.Drop (scopes.Temp 0)) (in_source 4 45)

abbrev pub constructor_controls : List (List Todo)
constructor_controls =
    (Do (statement_number 0) 0 ∷ keeps_parameter ∷ [])
    ∷ (Ev (expression_number 1) 0 ∷ leaves_parameter ∷ keeps_parameter ∷ [])
    ∷ (Ev (expression_number 0) 0 ∷ connects_parameter ∷ leaves_parameter ∷ keeps_parameter ∷ [])
    ∷ (reads_first ∷ connects_parameter ∷ leaves_parameter ∷ keeps_parameter ∷ [])
    ∷ (connects_parameter ∷ leaves_parameter ∷ keeps_parameter ∷ [])
    ∷ (leaves_parameter ∷ keeps_parameter ∷ [])
    ∷ (keeps_parameter ∷ [])
    ∷ (Ev (expression_number 4) 0 ∷ drops_stored ∷ [])
    ∷ (Ev (expression_number 3) 0 ∷ stores_held ∷ drops_stored ∷ [])
    ∷ (reads_parameter ∷ stores_held ∷ drops_stored ∷ [])
    ∷ (stores_held ∷ drops_stored ∷ [])
    ∷ (drops_stored ∷ [])
    ∷ []
    ∷ (Ended ∷ [])
    ∷ []

-- ---- `close`: `Socket.closeQuietly(this.held);`

abbrev pub reads_held : Todo
reads_held = Act (actions.Copy (places.Temp 0) (places.Field 0)) (in_source 6 45)

abbrev pub closes_held : Todo
closes_held = Act (actions.Call close_quietly 0 1 forms.Static) (in_source 6 27)

abbrev pub drops_held : Todo
drops_held = Act (actions.Drop (scopes.Temp 0)) (in_source 6 20)

abbrev pub close_controls : List (List Todo)
close_controls =
    (Do (statement_number 0) 0 ∷ [])
    ∷ (Ev (expression_number 2) 0 ∷ drops_held ∷ [])
    ∷ (Ev (expression_number 1) 0 ∷ closes_held ∷ drops_held ∷ [])
    ∷ (reads_held ∷ closes_held ∷ drops_held ∷ [])
    ∷ (closes_held ∷ drops_held ∷ [])
    ∷ (drops_held ∷ [])
    ∷ []
    ∷ (Ended ∷ [])
    ∷ []

-- ---- `main`: `Socket s = new Socket(); s.connect(); Holder h = new Holder(s); h.close();`

abbrev pub makes_socket : Todo
makes_socket = Act (actions.New socket_constructor 0 0) (in_source 8 20)

abbrev pub keeps_socket : Todo
keeps_socket = Act (actions.Move (places.Var 1) (places.Temp 0)) (in_source 8 16)

-- `s.connect();`
abbrev pub second : Todo
second = Do (statement_number 1) 0

abbrev pub reads_socket : Todo
reads_socket = Act (actions.Copy (places.Temp 0) (places.Var 1)) (in_source 9 9)

abbrev pub connects : Todo
connects = Act (actions.Call connect 0 1 forms.Other) (in_source 9 11)

abbrev pub leaves : Todo
leaves = Act (actions.Drop (scopes.Temp 0)) (in_source 9 9)

-- `Holder h = new Holder(s);`
abbrev pub third : Todo
third = Do (statement_number 2) 0

abbrev pub reads_argument : Todo
reads_argument = Act (actions.Copy (places.Temp 1) (places.Var 1)) (in_source 10 31)

abbrev pub makes_holder : Todo
makes_holder = Act (actions.New holder_constructor 0 1) (in_source 10 20)

abbrev pub keeps_holder : Todo
keeps_holder = Act (actions.Move (places.Var 2) (places.Temp 0)) (in_source 10 16)

-- `h.close();`
abbrev pub fourth : Todo
fourth = Do (statement_number 3) 0

abbrev pub reads_holder : Todo
reads_holder = Act (actions.Copy (places.Temp 0) (places.Var 2)) (in_source 11 9)

abbrev pub closes_holder : Todo
closes_holder = Act (actions.Call holder_close 0 1 forms.Other) (in_source 11 11)

abbrev pub drops_holder : Todo
drops_holder = Act (actions.Drop (scopes.Temp 0)) (in_source 11 9)

abbrev pub main_controls : List (List Todo)
main_controls =
    (Do (statement_number 0) 0 ∷ second ∷ third ∷ fourth ∷ [])
    ∷ (Ev (expression_number 0) 0 ∷ keeps_socket ∷ second ∷ third ∷ fourth ∷ [])
    ∷ (makes_socket ∷ keeps_socket ∷ second ∷ third ∷ fourth ∷ [])
    ∷ (keeps_socket ∷ second ∷ third ∷ fourth ∷ [])
    ∷ (second ∷ third ∷ fourth ∷ [])
    ∷ (Ev (expression_number 2) 0 ∷ leaves ∷ third ∷ fourth ∷ [])
    ∷ (Ev (expression_number 1) 0 ∷ connects ∷ leaves ∷ third ∷ fourth ∷ [])
    ∷ (reads_socket ∷ connects ∷ leaves ∷ third ∷ fourth ∷ [])
    ∷ (connects ∷ leaves ∷ third ∷ fourth ∷ [])
    ∷ (leaves ∷ third ∷ fourth ∷ [])
    ∷ (third ∷ fourth ∷ [])
    ∷ (Ev (expression_number 4) 0 ∷ keeps_holder ∷ fourth ∷ [])
    ∷ (Ev (expression_number 3) 1 ∷ makes_holder ∷ keeps_holder ∷ fourth ∷ [])
    ∷ (reads_argument ∷ makes_holder ∷ keeps_holder ∷ fourth ∷ [])
    ∷ (makes_holder ∷ keeps_holder ∷ fourth ∷ [])
    ∷ (keeps_holder ∷ fourth ∷ [])
    ∷ (fourth ∷ [])
    ∷ (Ev (expression_number 6) 0 ∷ drops_holder ∷ [])
    ∷ (Ev (expression_number 5) 0 ∷ closes_holder ∷ drops_holder ∷ [])
    ∷ (reads_holder ∷ closes_holder ∷ drops_holder ∷ [])
    ∷ (closes_holder ∷ drops_holder ∷ [])
    ∷ (drops_holder ∷ [])
    ∷ []
    ∷ (Ended ∷ [])
    ∷ []
