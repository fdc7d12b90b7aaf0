-- What is left to run at the controls of the program's bodies, in the order in which they are reached.
use Rattle.std.specs.Prelude.{List, [], ◌∷◌}
use Rattle.control_actions.specs.declared.action.Action.TheVariants as actions
use Rattle.control_actions.specs.declared.action.Scope.TheVariants as scopes
use Rattle.control_actions.specs.declared.action.TargetForm.TheVariants as forms
use Rattle.control_actions.specs.declared.place.Place.TheVariants as places
use Rattle.java_control.specs.Remaining.{Todo, Do, Ev, Act, Ended}
use Rattle.safety_examples.specs.OwnerPrograms.{expression_number, in_source, statement_number}
use Rattle.safety_examples.specs.OwnerPrograms.{resource_close, resource_constructor}
use Rattle.safety_examples.specs.LendingPrograms.{shut}

-- ---- `shut`: `r.close();`

abbrev pub reads_parameter : Todo
reads_parameter = Act (actions.Copy (places.Temp 0) (places.Var 0)) (in_source 3 36)

abbrev pub closes_parameter : Todo
closes_parameter = Act (actions.Call resource_close 0 1 forms.Other) (in_source 3 38)

abbrev pub drops_parameter : Todo
drops_parameter = Act (actions.Drop (scopes.Temp 0)) (in_source 3 36)

abbrev pub shut_controls : List (List Todo)
shut_controls =
    (Do (statement_number 0) 0 ∷ [])
    ∷ (Ev (expression_number 1) 0 ∷ drops_parameter ∷ [])
    ∷ (Ev (expression_number 0) 0 ∷ closes_parameter ∷ drops_parameter ∷ [])
    ∷ (reads_parameter ∷ closes_parameter ∷ drops_parameter ∷ [])
    ∷ (closes_parameter ∷ drops_parameter ∷ [])
    ∷ (drops_parameter ∷ [])
    ∷ []
    ∷ (Ended ∷ [])
    ∷ []

-- ---- `main`: `Resource r = new Resource(); shut(r);`

abbrev pub makes_resource : Todo
makes_resource = Act (actions.New resource_constructor 0 0) (in_source 5 22)

abbrev pub keeps_resource : Todo
keeps_resource = Act (actions.Move (places.Var 1) (places.Temp 0)) (in_source 5 18)

-- `shut(r);`
abbrev pub second : Todo
second = Do (statement_number 1) 0

abbrev pub reads_resource : Todo
reads_resource = Act (actions.Copy (places.Temp 0) (places.Var 1)) (in_source 6 14)

abbrev pub shuts_resource : Todo
shuts_resource = Act (actions.Call shut 0 1 forms.Static) (in_source 6 9)

abbrev pub drops_resource : Todo
drops_resource = Act (actions.Drop (scopes.Temp 0)) (in_source 6 9)

abbrev pub main_controls : List (List Todo)
main_controls =
    (Do (statement_number 0) 0 ∷ second ∷ [])
    ∷ (Ev (expression_number 0) 0 ∷ keeps_resource ∷ second ∷ [])
    ∷ (makes_resource ∷ keeps_resource ∷ second ∷ [])
    ∷ (keeps_resource ∷ second ∷ [])
    ∷ (second ∷ [])
    ∷ (Ev (expression_number 2) 0 ∷ drops_resource ∷ [])
    ∷ (Ev (expression_number 1) 0 ∷ shuts_resource ∷ drops_resource ∷ [])
    ∷ (reads_resource ∷ shuts_resource ∷ drops_resource ∷ [])
    ∷ (shuts_resource ∷ drops_resource ∷ [])
    ∷ (drops_resource ∷ [])
    ∷ []
    ∷ (Ended ∷ [])
    ∷ []
