-- What is left to run at the controls of the program's bodies, in the order in which they are reached.
use Rattle.std.specs.Prelude.{List, [], ◌∷◌}
use Rattle.control_actions.specs.declared.action.Action.TheVariants as actions
use Rattle.control_actions.specs.declared.action.Scope.TheVariants as scopes
use Rattle.control_actions.specs.declared.action.TargetForm.TheVariants as forms
use Rattle.control_actions.specs.declared.place.Place.TheVariants as places
use Rattle.java_control.specs.Remaining.{Todo, Do, Ev, Act, Ended}
use Rattle.safety_examples.specs.OwnerPrograms.{expression_number, in_source, statement_number}
use Rattle.safety_examples.specs.ResettingPrograms.{connect, socket_close, socket_constructor}
use Rattle.safety_examples.specs.ReopeningPrograms.{reopen}

-- ---- `reopen`: `s.connect();`

abbrev pub reads_parameter : Todo
reads_parameter = Act (actions.Copy (places.Temp 0) (places.Var 0)) (in_source 3 36)

abbrev pub connects_parameter : Todo
connects_parameter = Act (actions.Call connect 0 1 forms.Other) (in_source 3 38)

abbrev pub drops_parameter : Todo
drops_parameter = Act (actions.Drop (scopes.Temp 0)) (in_source 3 36)

abbrev pub reopen_controls : List (List Todo)
reopen_controls =
    (Do (statement_number 0) 0 ∷ [])
    ∷ (Ev (expression_number 1) 0 ∷ drops_parameter ∷ [])
    ∷ (Ev (expression_number 0) 0 ∷ connects_parameter ∷ drops_parameter ∷ [])
    ∷ (reads_parameter ∷ connects_parameter ∷ drops_parameter ∷ [])
    ∷ (connects_parameter ∷ drops_parameter ∷ [])
    ∷ (drops_parameter ∷ [])
    ∷ []
    ∷ (Ended ∷ [])
    ∷ []

-- ---- `main`: `Socket s = new Socket(); reopen(s); s.close();`

abbrev pub makes_socket : Todo
makes_socket = Act (actions.New socket_constructor 0 0) (in_source 5 20)

abbrev pub keeps_socket : Todo
keeps_socket = Act (actions.Move (places.Var 1) (places.Temp 0)) (in_source 5 16)

-- `reopen(s);`
abbrev pub second : Todo
second = Do (statement_number 1) 0

abbrev pub reads_argument : Todo
reads_argument = Act (actions.Copy (places.Temp 0) (places.Var 1)) (in_source 6 16)

abbrev pub reopens_socket : Todo
reopens_socket = Act (actions.Call reopen 0 1 forms.Static) (in_source 6 9)

abbrev pub drops_argument : Todo
drops_argument = Act (actions.Drop (scopes.Temp 0)) (in_source 6 9)

-- `s.close();`
abbrev pub third : Todo
third = Do (statement_number 2) 0

abbrev pub reads_receiver : Todo
reads_receiver = Act (actions.Copy (places.Temp 0) (places.Var 1)) (in_source 7 9)

abbrev pub closes_socket : Todo
closes_socket = Act (actions.Call socket_close 0 1 forms.Other) (in_source 7 11)

abbrev pub drops_receiver : Todo
drops_receiver = Act (actions.Drop (scopes.Temp 0)) (in_source 7 9)

abbrev pub main_controls : List (List Todo)
main_controls =
    (Do (statement_number 0) 0 ∷ second ∷ third ∷ [])
    ∷ (Ev (expression_number 0) 0 ∷ keeps_socket ∷ second ∷ third ∷ [])
    ∷ (makes_socket ∷ keeps_socket ∷ second ∷ third ∷ [])
    ∷ (keeps_socket ∷ second ∷ third ∷ [])
    ∷ (second ∷ third ∷ [])
    ∷ (Ev (expression_number 2) 0 ∷ drops_argument ∷ third ∷ [])
    ∷ (Ev (expression_number 1) 0 ∷ reopens_socket ∷ drops_argument ∷ third ∷ [])
    ∷ (reads_argument ∷ reopens_socket ∷ drops_argument ∷ third ∷ [])
    ∷ (reopens_socket ∷ drops_argument ∷ third ∷ [])
    ∷ (drops_argument ∷ third ∷ [])
    ∷ (third ∷ [])
    ∷ (Ev (expression_number 4) 0 ∷ drops_receiver ∷ [])
    ∷ (Ev (expression_number 3) 0 ∷ closes_socket ∷ drops_receiver ∷ [])
    ∷ (reads_receiver ∷ closes_socket ∷ drops_receiver ∷ [])
    ∷ (closes_socket ∷ drops_receiver ∷ [])
    ∷ (drops_receiver ∷ [])
    ∷ []
    ∷ (Ended ∷ [])
    ∷ []
