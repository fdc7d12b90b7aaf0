-- What is left to run at the controls of the two programs, in the order in which they are reached.
use Rattle.std.specs.Prelude.{List, [], ◌∷◌}
use Rattle.control_actions.specs.declared.action.Action.TheVariants as actions
use Rattle.control_actions.specs.declared.action.Completion.{Completion}
use Rattle.control_actions.specs.declared.action.Completion.TheVariants as completions
use Rattle.control_actions.specs.declared.action.Scope.TheVariants as scopes
use Rattle.control_actions.specs.declared.action.TargetForm.TheVariants as forms
use Rattle.control_actions.specs.declared.place.Place.TheVariants as places
use Rattle.java_control.specs.Remaining.{Todo, Do, Ev, Act, Out, Ended}
use Rattle.safety_examples.specs.CarefulPrograms.{expression_number, in_source, io_exception, socket_close, socket_constructor, statement_number}

-- `new Socket()` is called
abbrev pub makes : Todo
makes = Act (actions.New socket_constructor 0 0) (in_source 3 20)

-- `s` takes the new socket
abbrev pub keeps : Todo
keeps = Act (actions.Move (places.Var 1) (places.Temp 0)) (in_source 3 7)

-- `s.close();`
abbrev pub second : Todo
second = Do (statement_number 1) 0

abbrev pub reads : Todo
reads = Act (actions.Copy (places.Temp 0) (places.Var 1)) (in_source 4 1)

abbrev pub closes : Todo
closes = Act (actions.Call socket_close 0 1 forms.Other) (in_source 4 3)

abbrev pub drops : Todo
drops = Act (actions.Drop (scopes.Temp 0)) (in_source 4 1)

-- `close` has thrown
abbrev pub thrown : Completion
thrown = completions.Throw 0 io_exception (in_source 4 3)

-- the controls of the program that closes its socket
abbrev pub controls : List (List Todo)
controls =
    (Do (statement_number 0) 0 ∷ second ∷ [])
    ∷ (Ev (expression_number 0) 0 ∷ keeps ∷ second ∷ [])
    ∷ (makes ∷ keeps ∷ second ∷ [])
    ∷ (keeps ∷ second ∷ [])
    ∷ (second ∷ [])
    ∷ (Ev (expression_number 2) 0 ∷ drops ∷ [])
    ∷ (Ev (expression_number 1) 0 ∷ closes ∷ drops ∷ [])
    ∷ (reads ∷ closes ∷ drops ∷ [])
    ∷ (closes ∷ drops ∷ [])
    ∷ (drops ∷ [])
    ∷ []
    ∷ (Out thrown ∷ drops ∷ [])
    ∷ (Out thrown ∷ [])
    ∷ (Ended ∷ [])
    ∷ []
