-- What is left to run at the controls of the program's bodies, in the order in which they are reached.
use Rattle.std.specs.Prelude.{List, [], ◌∷◌}
use Rattle.control_actions.specs.declared.action.Action.TheVariants as actions
use Rattle.control_actions.specs.declared.action.Scope.TheVariants as scopes
use Rattle.control_actions.specs.declared.action.TargetForm.TheVariants as forms
use Rattle.control_actions.specs.declared.place.Place.TheVariants as places
use Rattle.java_control.specs.Remaining.{Todo, Do, Ev, Act, Ended}
use Rattle.safety_examples.specs.CarefulPrograms.{expression_number, in_source, statement_number}
use Rattle.safety_examples.specs.ReplacingPrograms.{holder_close, holder_constructor, holder_reopen}
use Rattle.safety_examples.specs.OwnerPrograms.{held, resource_close, resource_constructor}

-- ---- the constructor: `this.held = new Resource();`

abbrev pub makes_resource : Todo
makes_resource = Act (actions.New resource_constructor 0 0) (in_source 4 28)

abbrev pub stores_held : Todo
stores_held = Act (actions.PutOwn held 0) (in_source 4 26)

abbrev pub drops_stored : Todo
drops_stored = Act (actions.Drop (scopes.Temp 0)) (in_source 4 16)

abbrev pub constructor_controls : List (List Todo)
constructor_controls =
    (Do (statement_number 0) 0 ∷ [])
    ∷ (Ev (expression_number 2) 0 ∷ drops_stored ∷ [])
    ∷ (Ev (expression_number 1) 0 ∷ stores_held ∷ drops_stored ∷ [])
    ∷ (makes_resource ∷ stores_held ∷ drops_stored ∷ [])
    ∷ (stores_held ∷ drops_stored ∷ [])
    ∷ (drops_stored ∷ [])
    ∷ []
    ∷ (Ended ∷ [])
    ∷ []

-- ---- `reopen`: `this.held.close(); this.held = new Resource();`

abbrev pub reads_replaced : Todo
reads_replaced = Act (actions.Copy (places.Temp 0) (places.Field 0)) (in_source 6 26)

abbrev pub closes_replaced : Todo
closes_replaced = Act (actions.Call resource_close 0 1 forms.Other) (in_source 6 31)

abbrev pub drops_replaced : Todo
drops_replaced = Act (actions.Drop (scopes.Temp 0)) (in_source 6 21)

-- `this.held = new Resource();`
abbrev pub replaces : Todo
replaces = Do (statement_number 1) 0

abbrev pub makes_anew : Todo
makes_anew = Act (actions.New resource_constructor 0 0) (in_source 6 52)

abbrev pub stores_anew : Todo
stores_anew = Act (actions.PutOwn held 0) (in_source 6 50)

abbrev pub drops_anew : Todo
drops_anew = Act (actions.Drop (scopes.Temp 0)) (in_source 6 40)

abbrev pub reopen_controls : List (List Todo)
reopen_controls =
    (Do (statement_number 0) 0 ∷ replaces ∷ [])
    ∷ (Ev (expression_number 2) 0 ∷ drops_replaced ∷ replaces ∷ [])
    ∷ (Ev (expression_number 1) 0 ∷ closes_replaced ∷ drops_replaced ∷ replaces ∷ [])
    ∷ (reads_replaced ∷ closes_replaced ∷ drops_replaced ∷ replaces ∷ [])
    ∷ (closes_replaced ∷ drops_replaced ∷ replaces ∷ [])
    ∷ (drops_replaced ∷ replaces ∷ [])
    ∷ (replaces ∷ [])
    ∷ (Ev (expression_number 5) 0 ∷ drops_anew ∷ [])
    ∷ (Ev (expression_number 4) 0 ∷ stores_anew ∷ drops_anew ∷ [])
    ∷ (makes_anew ∷ stores_anew ∷ drops_anew ∷ [])
    ∷ (stores_anew ∷ drops_anew ∷ [])
    ∷ (drops_anew ∷ [])
    ∷ []
    ∷ (Ended ∷ [])
    ∷ []

-- ---- `close`: `this.held.close();`

abbrev pub reads_held : Todo
reads_held = Act (actions.Copy (places.Temp 0) (places.Field 0)) (in_source 8 25)

abbrev pub closes_held : Todo
closes_held = Act (actions.Call resource_close 0 1 forms.Other) (in_source 8 30)

abbrev pub drops_held : Todo
drops_held = Act (actions.Drop (scopes.Temp 0)) (in_source 8 20)

abbrev pub close_controls : List (List Todo)
close_controls =
    (Do (statement_number 0) 0 ∷ [])
    ∷ (Ev (expression_number 2) 0 ∷ drops_held ∷ [])
    ∷ (Ev (expression_number 1) 0 ∷ closes_held ∷ drops_held ∷ [])
    ∷ (reads_held ∷ closes_held ∷ drops_held ∷ [])
    ∷ (closes_held ∷ drops_held ∷ [])
    ∷ (drops_held ∷ [])
    ∷ []
    ∷ (Ended ∷ [])
    ∷ []

-- ---- `main`: `Holder h = new Holder(); h.close(); h.reopen(); h.close();`

abbrev pub makes_holder : Todo
makes_holder = Act (actions.New holder_constructor 0 0) (in_source 10 20)

abbrev pub keeps_holder : Todo
keeps_holder = Act (actions.Move (places.Var 1) (places.Temp 0)) (in_source 10 16)

-- `h.close();`
abbrev pub first : Todo
first = Do (statement_number 1) 0

abbrev pub reads_first : Todo
reads_first = Act (actions.Copy (places.Temp 0) (places.Var 1)) (in_source 11 9)

abbrev pub calls_first : Todo
calls_first = Act (actions.Call holder_close 0 1 forms.Other) (in_source 11 11)

abbrev pub drops_first : Todo
drops_first = Act (actions.Drop (scopes.Temp 0)) (in_source 11 9)

-- `h.reopen();`
abbrev pub second : Todo
second = Do (statement_number 2) 0

abbrev pub reads_second : Todo
reads_second = Act (actions.Copy (places.Temp 0) (places.Var 1)) (in_source 12 9)

abbrev pub calls_second : Todo
calls_second = Act (actions.Call holder_reopen 0 1 forms.Other) (in_source 12 11)

abbrev pub drops_second : Todo
drops_second = Act (actions.Drop (scopes.Temp 0)) (in_source 12 9)

-- `h.close();`
abbrev pub third : Todo
third = Do (statement_number 3) 0

abbrev pub reads_third : Todo
reads_third = Act (actions.Copy (places.Temp 0) (places.Var 1)) (in_source 13 9)

abbrev pub calls_third : Todo
calls_third = Act (actions.Call holder_close 0 1 forms.Other) (in_source 13 11)

abbrev pub drops_third : Todo
drops_third = Act (actions.Drop (scopes.Temp 0)) (in_source 13 9)

abbrev pub main_controls : List (List Todo)
main_controls =
    (Do (statement_number 0) 0 ∷ first ∷ second ∷ third ∷ [])
    ∷ (Ev (expression_number 0) 0 ∷ keeps_holder ∷ first ∷ second ∷ third ∷ [])
    ∷ (makes_holder ∷ keeps_holder ∷ first ∷ second ∷ third ∷ [])
    ∷ (keeps_holder ∷ first ∷ second ∷ third ∷ [])
    ∷ (first ∷ second ∷ third ∷ [])
    ∷ (Ev (expression_number 2) 0 ∷ drops_first ∷ second ∷ third ∷ [])
    ∷ (Ev (expression_number 1) 0 ∷ calls_first ∷ drops_first ∷ second ∷ third ∷ [])
    ∷ (reads_first ∷ calls_first ∷ drops_first ∷ second ∷ third ∷ [])
    ∷ (calls_first ∷ drops_first ∷ second ∷ third ∷ [])
    ∷ (drops_first ∷ second ∷ third ∷ [])
    ∷ (second ∷ third ∷ [])
    ∷ (Ev (expression_number 4) 0 ∷ drops_second ∷ third ∷ [])
    ∷ (Ev (expression_number 3) 0 ∷ calls_second ∷ drops_second ∷ third ∷ [])
    ∷ (reads_second ∷ calls_second ∷ drops_second ∷ third ∷ [])
    ∷ (calls_second ∷ drops_second ∷ third ∷ [])
    ∷ (drops_second ∷ third ∷ [])
    ∷ (third ∷ [])
    ∷ (Ev (expression_number 6) 0 ∷ drops_third ∷ [])
    ∷ (Ev (expression_number 5) 0 ∷ calls_third ∷ drops_third ∷ [])
    ∷ (reads_third ∷ calls_third ∷ drops_third ∷ [])
    ∷ (calls_third ∷ drops_third ∷ [])
    ∷ (drops_third ∷ [])
    ∷ []
    ∷ (Ended ∷ [])
    ∷ []
