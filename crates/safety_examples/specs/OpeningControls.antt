-- What is left to run at the controls of the constructor and of `main`, in the order in which they are reached.
use Rattle.std.specs.Prelude.{List, [], ◌∷◌}
use Rattle.control_actions.specs.declared.action.Action.TheVariants as actions
use Rattle.control_actions.specs.declared.action.Scope.TheVariants as scopes
use Rattle.control_actions.specs.declared.action.TargetForm.TheVariants as forms
use Rattle.control_actions.specs.declared.place.Place.TheVariants as places
use Rattle.java_control.specs.Remaining.{Todo, Do, Ev, Act, Ended}
use Rattle.safety_examples.specs.CarefulPrograms.{expression_number, in_source, statement_number}
use Rattle.safety_examples.specs.ReplacingPrograms.{holder_reopen}
use Rattle.safety_examples.specs.ReplacingControls.{calls_first, drops_first, drops_stored, first, keeps_holder, makes_holder, makes_resource, reads_first, stores_held}

-- ---- the constructor: `this.held = new Resource(); this.reopen();`

-- `this.reopen();`
abbrev pub then_reopens : Todo
then_reopens = Do (statement_number 1) 0

abbrev pub takes_this : Todo
takes_this = Act (actions.Copy (places.Temp 0) places.This) (in_source 4 44)

abbrev pub calls_reopen : Todo
calls_reopen = Act (actions.Call holder_reopen 0 1 forms.This) (in_source 4 49)

abbrev pub drops_reopened : Todo
drops_reopened = Act (actions.Drop (scopes.Temp 0)) (in_source 4 44)

abbrev pub constructor_controls : List (List Todo)
constructor_controls =
    (Do (statement_number 0) 0 ∷ then_reopens ∷ [])
    ∷ (Ev (expression_number 2) 0 ∷ drops_stored ∷ then_reopens ∷ [])
    ∷ (Ev (expression_number 1) 0 ∷ stores_held ∷ drops_stored ∷ then_reopens ∷ [])
    ∷ (makes_resource ∷ stores_held ∷ drops_stored ∷ then_reopens ∷ [])
    ∷ (stores_held ∷ drops_stored ∷ then_reopens ∷ [])
    ∷ (drops_stored ∷ then_reopens ∷ [])
    ∷ (then_reopens ∷ [])
    ∷ (Ev (expression_number 4) 0 ∷ drops_reopened ∷ [])
    ∷ (Ev (expression_number 3) 0 ∷ calls_reopen ∷ drops_reopened ∷ [])
    ∷ (takes_this ∷ calls_reopen ∷ drops_reopened ∷ [])
    ∷ (calls_reopen ∷ drops_reopened ∷ [])
    ∷ (drops_reopened ∷ [])
    ∷ []
    ∷ (Ended ∷ [])
    ∷ []

-- ---- `main`: `Holder h = new Holder(); h.close();`

abbrev pub main_controls : List (List Todo)
main_controls =
    (Do (statement_number 0) 0 ∷ first ∷ [])
    ∷ (Ev (expression_number 0) 0 ∷ keeps_holder ∷ first ∷ [])
    ∷ (makes_holder ∷ keeps_holder ∷ first ∷ [])
    ∷ (keeps_holder ∷ first ∷ [])
    ∷ (first ∷ [])
    ∷ (Ev (expression_number 2) 0 ∷ drops_first ∷ [])
    ∷ (Ev (expression_number 1) 0 ∷ calls_first ∷ drops_first ∷ [])
    ∷ (reads_first ∷ calls_first ∷ drops_first ∷ [])
    ∷ (calls_first ∷ drops_first ∷ [])
    ∷ (drops_first ∷ [])
    ∷ []
    ∷ (Ended ∷ [])
    ∷ []
