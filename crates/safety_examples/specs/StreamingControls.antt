-- What is left to run at the controls of the program, in the order in which they are reached.
use Rattle.std.specs.Prelude.{List, [], ◌∷◌}
use Rattle.control_actions.specs.declared.action.Action.TheVariants as actions
use Rattle.control_actions.specs.declared.action.Completion.{Completion}
use Rattle.control_actions.specs.declared.action.Completion.TheVariants as completions
use Rattle.control_actions.specs.declared.action.Scope.TheVariants as scopes
use Rattle.control_actions.specs.declared.action.TargetForm.TheVariants as forms
use Rattle.control_actions.specs.declared.place.Place.TheVariants as places
use Rattle.java_control.specs.Remaining.{Todo, Do, Ev, Act, Out, Ended}
use Rattle.safety_examples.specs.CarefulPrograms.{expression_number, in_source, io_exception, statement_number}
use Rattle.safety_examples.specs.StreamingPrograms.{get_stream, socket_constructor, stream_close}

-- `new Socket()` is called
abbrev pub makes : Todo
makes = Act (actions.New socket_constructor 0 0) (in_source 3 20)

-- `s` takes the new socket
abbrev pub keeps : Todo
keeps = Act (actions.Move (places.Var 1) (places.Temp 0)) (in_source 3 7)

-- `InputStream in = s.getInputStream();`
abbrev pub second : Todo
second = Do (statement_number 1) 0

abbrev pub reads_socket : Todo
reads_socket = Act (actions.Copy (places.Temp 0) (places.Var 1)) (in_source 4 18)

abbrev pub streams : Todo
streams = Act (actions.Call get_stream 0 1 forms.Other) (in_source 4 20)

-- `in` takes the stream
abbrev pub takes : Todo
takes = Act (actions.Move (places.Var 2) (places.Temp 0)) (in_source 4 13)

-- `in.close();`
abbrev pub third : Todo
third = Do (statement_number 2) 0

abbrev pub reads_stream : Todo
reads_stream = Act (actions.Copy (places.Temp 0) (places.Var 2)) (in_source 5 1)

abbrev pub closes : Todo
closes = Act (actions.Call stream_close 0 1 forms.Other) (in_source 5 4)

abbrev pub drops : Todo
drops = Act (actions.Drop (scopes.Temp 0)) (in_source 5 1)

-- `close` has thrown
abbrev pub thrown : Completion
thrown = completions.Throw 0 io_exception (in_source 5 4)

abbrev pub controls : List (List Todo)
controls =
    (Do (statement_number 0) 0 ∷ second ∷ third ∷ [])
    ∷ (Ev (expression_number 0) 0 ∷ keeps ∷ second ∷ third ∷ [])
    ∷ (makes ∷ keeps ∷ second ∷ third ∷ [])
    ∷ (keeps ∷ second ∷ third ∷ [])
    ∷ (second ∷ third ∷ [])
    ∷ (Ev (expression_number 2) 0 ∷ takes ∷ third ∷ [])
    ∷ (Ev (expression_number 1) 0 ∷ streams ∷ takes ∷ third ∷ [])
    ∷ (reads_socket ∷ streams ∷ takes ∷ third ∷ [])
    ∷ (streams ∷ takes ∷ third ∷ [])
    ∷ (takes ∷ third ∷ [])
    ∷ (third ∷ [])
    ∷ (Ev (expression_number 4) 0 ∷ drops ∷ [])
    ∷ (Ev (expression_number 3) 0 ∷ closes ∷ drops ∷ [])
    ∷ (reads_stream ∷ closes ∷ drops ∷ [])
    ∷ (closes ∷ drops ∷ [])
    ∷ (drops ∷ [])
    ∷ []
    ∷ (Out thrown ∷ drops ∷ [])
    ∷ (Out thrown ∷ [])
    ∷ (Ended ∷ [])
    ∷ []
