-- What is left to run at the controls of the program's bodies, in the order in which they are reached.
use Rattle.std.specs.Prelude.{List, [], ◌∷◌}
use Rattle.control_actions.specs.declared.action.Action.TheVariants as actions
use Rattle.control_actions.specs.declared.action.Scope.TheVariants as scopes
use Rattle.control_actions.specs.declared.action.TargetForm.TheVariants as forms
use Rattle.control_actions.specs.declared.place.Place.TheVariants as places
use Rattle.java_control.specs.Remaining.{Todo, Do, Ev, Act, Ended}
use Rattle.safety_examples.specs.CarefulPrograms.{expression_number, in_source, statement_number}
use Rattle.safety_examples.specs.ExtendingPrograms.{base_constructor, close_quietly, held, holder_close, holder_constructor, resource_constructor}

-- ---- the constructor: `this.held = r;`

abbrev pub reads_parameter : Todo
reads_parameter = Act (actions.Copy (places.Temp 0) (places.Var 0)) (in_source 4 55)

abbrev pub stores_held : Todo
stores_held = Act (actions.PutOwn held 0) (in_source 4 53)

abbrev pub drops_stored : Todo
drops_stored = Act (actions.Drop (scopes.Temp 0)) (in_source 4 43)

-- `super();` is expanded at once
abbrev pub takes_this : Todo
takes_this = Act (actions.Copy (places.Temp 0) places.This) (in_source 4 34)

abbrev pub calls_base : Todo
calls_base = Act (actions.Super base_constructor 0 1) (in_source 4 34)

abbrev pub drops_base : Todo
drops_base = Act (actions.Drop (scopes.Temp 0)) (in_source 4 34)

abbrev pub keeps : Todo
keeps = Do (statement_number 1) 0

abbrev pub constructor_controls : List (List Todo)
constructor_controls =
    (takes_this ∷ calls_base ∷ drops_base ∷ keeps ∷ [])
    ∷ (calls_base ∷ drops_base ∷ keeps ∷ [])
    ∷ (drops_base ∷ keeps ∷ [])
    ∷ (keeps ∷ [])
    ∷ (Ev (expression_number 2) 0 ∷ drops_stored ∷ [])
    ∷ (Ev (expression_number 1) 0 ∷ stores_held ∷ drops_stored ∷ [])
    ∷ (reads_parameter ∷ stores_held ∷ drops_stored ∷ [])
    ∷ (stores_held ∷ drops_stored ∷ [])
    ∷ (drops_stored ∷ [])
    ∷ []
    ∷ (Ended ∷ [])
    ∷ []

-- ---- the constructor of the class that is extended: it does nothing

abbrev pub base_controls : List (List Todo)
base_controls = [] ∷ (Ended ∷ []) ∷ []

-- ---- `close`: `Resource.closeQuietly(this.held);`

abbrev pub reads_held : Todo
reads_held = Act (actions.Copy (places.Temp 0) (places.Field 0)) (in_source 6 47)

abbrev pub closes_held : Todo
closes_held = Act (actions.Call close_quietly 0 1 forms.Static) (in_source 6 29)

abbrev pub drops_held : Todo
drops_held = Act (actions.Drop (scopes.Temp 0)) (in_source 6 20)

abbrev pub close_controls : List (List Todo)
close_controls =
    (Do (statement_number 0) 0 ∷ [])
    ∷ (Ev (expression_number 2) 0 ∷ drops_held ∷ [])
    ∷ (Ev (expression_number 1) 0 ∷ closes_held ∷ drops_held ∷ [])
    ∷ (reads_held ∷ closes_held ∷ drops_held ∷ [])
    ∷ (closes_held ∷ drops_held ∷ [])
    ∷ (drops_held ∷ [])
    ∷ []
    ∷ (Ended ∷ [])
    ∷ []

-- ---- `main`: `Holder h = new Holder(new Resource()); h.close();`

abbrev pub makes_resource : Todo
makes_resource = Act (actions.New resource_constructor 1 0) (in_source 8 31)

abbrev pub makes_holder : Todo
makes_holder = Act (actions.New holder_constructor 0 1) (in_source 8 20)

abbrev pub keeps_holder : Todo
keeps_holder = Act (actions.Move (places.Var 1) (places.Temp 0)) (in_source 8 16)

-- `h.close();`
abbrev pub second : Todo
second = Do (statement_number 1) 0

abbrev pub reads_holder : Todo
reads_holder = Act (actions.Copy (places.Temp 0) (places.Var 1)) (in_source 9 9)

abbrev pub closes_holder : Todo
closes_holder = Act (actions.Call holder_close 0 1 forms.Other) (in_source 9 11)

abbrev pub drops_holder : Todo
drops_holder = Act (actions.Drop (scopes.Temp 0)) (in_source 9 9)

abbrev pub main_controls : List (List Todo)
main_controls =
    (Do (statement_number 0) 0 ∷ second ∷ [])
    ∷ (Ev (expression_number 1) 0 ∷ keeps_holder ∷ second ∷ [])
    ∷ (Ev (expression_number 0) 1 ∷ makes_holder ∷ keeps_holder ∷ second ∷ [])
    ∷ (makes_resource ∷ makes_holder ∷ keeps_holder ∷ second ∷ [])
    ∷ (makes_holder ∷ keeps_holder ∷ second ∷ [])
    ∷ (keeps_holder ∷ second ∷ [])
    ∷ (second ∷ [])
    ∷ (Ev (expression_number 3) 0 ∷ drops_holder ∷ [])
    ∷ (Ev (expression_number 2) 0 ∷ closes_holder ∷ drops_holder ∷ [])
    ∷ (reads_holder ∷ closes_holder ∷ drops_holder ∷ [])
    ∷ (closes_holder ∷ drops_holder ∷ [])
    ∷ (drops_holder ∷ [])
    ∷ []
    ∷ (Ended ∷ [])
    ∷ []
