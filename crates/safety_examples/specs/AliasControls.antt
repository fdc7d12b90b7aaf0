-- What is left to run at the controls of the program's bodies, in the order in which they are reached.
use Rattle.std.specs.Prelude.{List, [], ◌∷◌}
use Rattle.control_actions.specs.declared.action.Action.TheVariants as actions
use Rattle.control_actions.specs.declared.action.Completion.TheVariants as completions
use Rattle.control_actions.specs.declared.action.Scope.TheVariants as scopes
use Rattle.control_actions.specs.declared.action.TargetForm.TheVariants as forms
use Rattle.control_actions.specs.declared.place.Place.TheVariants as places
use Rattle.java_control.specs.Remaining.{Todo, Do, Ev, Act, Out, Ended}
use Rattle.safety_examples.specs.OwnerPrograms.{expression_number, in_source, statement_number}
use Rattle.safety_examples.specs.OwnerPrograms.{resource_close, resource_constructor}
use Rattle.safety_examples.specs.AliasPrograms.{pass}

-- ---- `pass`: `return r;`

abbrev pub reads_parameter : Todo
reads_parameter = Act (actions.Copy (places.Temp 0) (places.Var 0)) (in_source 3 62)

-- the value of temp 0 is on its way out
abbrev pub gives_parameter : Todo
gives_parameter = Out (completions.ReturnValue 0 (in_source 3 55))

abbrev pub pass_controls : List (List Todo)
pass_controls =
    (Do (statement_number 0) 0 ∷ [])
    ∷ (Ev (expression_number 0) 0 ∷ gives_parameter ∷ [])
    ∷ (reads_parameter ∷ gives_parameter ∷ [])
    ∷ (gives_parameter ∷ [])
    ∷ (Ended ∷ [])
    ∷ []

-- ---- `main`: `Resource r = new Resource(); Resource s = pass(r); s.close();`

abbrev pub makes_resource : Todo
makes_resource = Act (actions.New resource_constructor 0 0) (in_source 5 22)

abbrev pub keeps_resource : Todo
keeps_resource = Act (actions.Move (places.Var 1) (places.Temp 0)) (in_source 5 18)

-- `Resource s = pass(r);`
abbrev pub second : Todo
second = Do (statement_number 1) 0

abbrev pub reads_resource : Todo
reads_resource = Act (actions.Copy (places.Temp 0) (places.Var 1)) (in_source 6 27)

abbrev pub passes_resource : Todo
passes_resource = Act (actions.Call pass 0 1 forms.Static) (in_source 6 22)

abbrev pub keeps_alias : Todo
keeps_alias = Act (actions.Move (places.Var 2) (places.Temp 0)) (in_source 6 18)

-- `s.close();`
abbrev pub third : Todo
third = Do (statement_number 2) 0

abbrev pub reads_alias : Todo
reads_alias = Act (actions.Copy (places.Temp 0) (places.Var 2)) (in_source 7 9)

abbrev pub closes_alias : Todo
closes_alias = Act (actions.Call resource_close 0 1 forms.Other) (in_source 7 11)

abbrev pub drops_alias : Todo
drops_alias = Act (actions.Drop (scopes.Temp 0)) (in_source 7 9)

abbrev pub main_controls : List (List Todo)
main_controls =
    (Do (statement_number 0) 0 ∷ second ∷ third ∷ [])
    ∷ (Ev (expression_number 0) 0 ∷ keeps_resource ∷ second ∷ third ∷ [])
    ∷ (makes_resource ∷ keeps_resource ∷ second ∷ third ∷ [])
    ∷ (keeps_resource ∷ second ∷ third ∷ [])
    ∷ (second ∷ third ∷ [])
    ∷ (Ev (expression_number 2) 0 ∷ keeps_alias ∷ third ∷ [])
    ∷ (Ev (expression_number 1) 0 ∷ passes_resource ∷ keeps_alias ∷ third ∷ [])
    ∷ (reads_resource ∷ passes_resource ∷ keeps_alias ∷ third ∷ [])
    ∷ (passes_resource ∷ keeps_alias ∷ third ∷ [])
    ∷ (keeps_alias ∷ third ∷ [])
    ∷ (third ∷ [])
    ∷ (Ev (expression_number 4) 0 ∷ drops_alias ∷ [])
    ∷ (Ev (expression_number 3) 0 ∷ closes_alias ∷ drops_alias ∷ [])
    ∷ (reads_alias ∷ closes_alias ∷ drops_alias ∷ [])
    ∷ (closes_alias ∷ drops_alias ∷ [])
    ∷ (drops_alias ∷ [])
    ∷ []
    ∷ (Ended ∷ [])
    ∷ []
