-- What is left to run at the controls of the program's bodies, in the order in which they are reached.
use Rattle.std.specs.Prelude.{List, [], ◌∷◌}
use Rattle.control_actions.specs.declared.action.Action.TheVariants as actions
use Rattle.control_actions.specs.declared.action.Completion.{Completion}
use Rattle.control_actions.specs.declared.action.Completion.TheVariants as completions
use Rattle.control_actions.specs.declared.action.Scope.TheVariants as scopes
use Rattle.control_actions.specs.declared.action.TargetForm.TheVariants as forms
use Rattle.control_actions.specs.declared.place.Place.TheVariants as places
use Rattle.java_control.specs.Remaining.{Todo, Do, Ev, Act, Out, Ended}
use Rattle.safety_examples.specs.CarefulPrograms.{expression_number, in_source, io_exception, socket_close, socket_constructor, statement_number}
use Rattle.safety_examples.specs.ThrowingPrograms.{shut}

-- ---- `shut`: `s.close();`

abbrev pub reads_parameter : Todo
reads_parameter = Act (actions.Copy (places.Temp 0) (places.Var 0)) (in_source 4 53)

abbrev pub closes_parameter : Todo
closes_parameter = Act (actions.Call socket_close 0 1 forms.Other) (in_source 4 55)

abbrev pub drops_parameter : Todo
drops_parameter = Act (actions.Drop (scopes.Temp 0)) (in_source 4 53)

-- `close` has thrown
abbrev pub thrown_by_close : Completion
thrown_by_close = completions.Throw 0 io_exception (in_source 4 55)

abbrev pub shut_controls : List (List Todo)
shut_controls =
    (Do (statement_number 0) 0 ∷ [])
    ∷ (Ev (expression_number 1) 0 ∷ drops_parameter ∷ [])
    ∷ (Ev (expression_number 0) 0 ∷ closes_parameter ∷ drops_parameter ∷ [])
    ∷ (reads_parameter ∷ closes_parameter ∷ drops_parameter ∷ [])
    ∷ (closes_parameter ∷ drops_parameter ∷ [])
    ∷ (drops_parameter ∷ [])
    ∷ []
    ∷ (Out thrown_by_close ∷ drops_parameter ∷ [])
    ∷ (Out thrown_by_close ∷ [])
    ∷ (Ended ∷ [])
    ∷ []

-- ---- `main`: `Socket s = new Socket(); shut(s);`

abbrev pub makes_socket : Todo
makes_socket = Act (actions.New socket_constructor 0 0) (in_source 6 20)

abbrev pub keeps_socket : Todo
keeps_socket = Act (actions.Move (places.Var 1) (places.Temp 0)) (in_source 6 16)

-- `shut(s);`
abbrev pub second : Todo
second = Do (statement_number 1) 0

abbrev pub reads_socket : Todo
reads_socket = Act (actions.Copy (places.Temp 0) (places.Var 1)) (in_source 7 14)

abbrev pub shuts_socket : Todo
shuts_socket = Act (actions.Call shut 0 1 forms.Static) (in_source 7 9)

abbrev pub drops_socket : Todo
drops_socket = Act (actions.Drop (scopes.Temp 0)) (in_source 7 9)

-- `shut` has thrown
abbrev pub thrown_by_shut : Completion
thrown_by_shut = completions.Throw 0 io_exception (in_source 7 9)

abbrev pub main_controls : List (List Todo)
main_controls =
    (Do (statement_number 0) 0 ∷ second ∷ [])
    ∷ (Ev (expression_number 0) 0 ∷ keeps_socket ∷ second ∷ [])
    ∷ (makes_socket ∷ keeps_socket ∷ second ∷ [])
    ∷ (keeps_socket ∷ second ∷ [])
    ∷ (second ∷ [])
    ∷ (Ev (expression_number 2) 0 ∷ drops_socket ∷ [])
    ∷ (Ev (expression_number 1) 0 ∷ shuts_socket ∷ drops_socket ∷ [])
    ∷ (reads_socket ∷ shuts_socket ∷ drops_socket ∷ [])
    ∷ (shuts_socket ∷ drops_socket ∷ [])
    ∷ (drops_socket ∷ [])
    ∷ []
    ∷ (Out thrown_by_shut ∷ drops_socket ∷ [])
    ∷ (Out thrown_by_shut ∷ [])
    ∷ (Ended ∷ [])
    ∷ []
