-- The steps of a frame by the control relation, and which of them its values choose.
use Rattle.std.specs.Prelude.{ℕ, Bool, true, false, not, Option, Some, None, List, [], ◌∷◌, nat_eq}
use Rattle.std.specs.List.{find}
use Rattle.program_model.specs.declared.kinds.BodyId.{BodyId}
use Rattle.program_model.specs.declared.kinds.ClassId.{ClassId}
use Rattle.program_model.specs.declared.kinds.MethodId.{MethodId}
use Rattle.program_model.specs.declared.program.Program.{Program}
use Rattle.program_model.specs.declared.tree.Body.{Body}
use Rattle.program_model.specs.Lookups.{body_at, method_at}
use Rattle.program_model.specs.SuperTests.{is_class}
use Rattle.control_actions.specs.declared.action.Action.{Action}
use Rattle.control_actions.specs.declared.action.Action.TheVariants as actions
use Rattle.control_actions.specs.declared.action.ClauseId.{ClauseId}
use Rattle.control_actions.specs.declared.action.Edge.{Edge}
use Rattle.control_actions.specs.declared.action.Edge.TheVariants as edges
use Rattle.java_control.specs.Control.{Step, next_of}
use Rattle.java_control.specs.Exceptions.{clause_taken}
use Rattle.java_control.specs.Remaining.{Todo}
use Rattle.ledger_state.specs.declared.value.Value.{Value}
use Rattle.ledger_state.specs.declared.array.ArrayObject.{ArrayObject}
use Rattle.ledger_state.specs.declared.locals.Locals.{Locals}
use Rattle.ledger_calls.specs.Calls.{body_of}
use Rattle.ledger_calls.specs.Configuration.{Frame}
use Rattle.ledger_operations.specs.Operations.{thrown_by_operation}
use Rattle.ledger_state.specs.Classes.{runtime_class}
use Rattle.ledger_state.specs.Contents.{HeapContents}
use Rattle.ledger_state.specs.Locals.{temp_value}
use Rattle.ledger_state.specs.Values.{is_null, is_true}

abbrev pub body_id : Program → MethodId → Option BodyId
body_id p m = body_of (method_at p m)

abbrev pub body_by : Program → Option BodyId → Option Body
body_by p None = None
body_by p (Some b) = body_at p b

-- the body of a method
abbrev pub method_body : Program → MethodId → Option Body
method_body p m = body_by p (body_id p m)

abbrev pub steps_by : Program → Option BodyId → List Todo → List Step
steps_by p None control = []
steps_by p (Some b) control = next_of p b control

abbrev pub frame_steps : Program → Frame → List Step
frame_steps p fr = steps_by p (body_id p fr.method) fr.control

-- Which step the values choose

abbrev pub same_edge : Edge → Edge → Bool
same_edge edges.Go edges.Go = true
same_edge edges.Null edges.Null = true
same_edge edges.NonNull edges.NonNull = true
same_edge edges.True edges.True = true
same_edge edges.False edges.False = true
same_edge (edges.Throws c) (edges.Throws d) = is_class c d
same_edge e f = false

-- the outcome of a test of the value
abbrev pub fits_edge : Value → Edge → Bool
fits_edge v edges.Null = is_null v
fits_edge v edges.NonNull = not (is_null v)
fits_edge v edges.True = is_true v
fits_edge v edges.False = not (is_true v)
fits_edge v edges.Go = false
fits_edge v (edges.Throws c) = false

abbrev pub is_number : ℕ → Option ℕ → Bool
is_number i None = false
is_number i (Some k) = nat_eq i k

abbrev pub is_taken_in : Program → Option Body → ClauseId → ClassId → Bool
is_taken_in p None clause e = false
is_taken_in p (Some b) clause e = is_number clause.index (clause_taken p b clause.statement e)

-- the clause takes the exception: it is the first of its statement that covers the exception's own class
abbrev pub is_taken : Program → Option Body → ClauseId → Option ClassId → Bool
is_taken p b clause None = false
is_taken p b clause (Some e) = is_taken_in p b clause e

abbrev pub edge_of_class : Option ClassId → Edge
edge_of_class None = edges.Go
edge_of_class (Some c) = edges.Throws c

-- the edge of what throws no exception of its own: an explicit `throw` goes by the static class of what it throws
abbrev pub edge_of_action : Action → Edge
edge_of_action (actions.Raise d s) = edge_of_class s
edge_of_action a = edges.Go

-- the edge by which an operation goes that throws an exception of this class, or none
abbrev pub operation_edge : Action → Option ClassId → Edge
operation_edge a None = edge_of_action a
operation_edge a (Some e) = edges.Throws e

abbrev pub agrees_with : Program → HeapContents → List ArrayObject → MethodId → Locals → Action → Edge → Bool
agrees_with p h arrays m l (actions.Test d) e = fits_edge (temp_value l d) e
agrees_with p h arrays m l (actions.Enter clause x b d) e = is_taken p (method_body p m) clause (runtime_class p h (temp_value l d))
agrees_with p h arrays m l a e = same_edge (operation_edge a (thrown_by_operation p h arrays l a)) e

-- the step is the one that the frame's values choose. Where no clause takes an exception it passes on, by the last of the steps
abbrev pub agrees : Program → HeapContents → List ArrayObject → MethodId → Locals → Step → Bool
agrees p h arrays m l s = agrees_with p h arrays m l s.action s.edge

abbrev pub chosen : Program → HeapContents → List ArrayObject → Frame → Option Step
chosen p h arrays fr = find (agrees p h arrays fr.method fr.locals) (frame_steps p fr)

abbrev pub goes_by : Edge → Step → Bool
goes_by e s = same_edge e s.edge

-- the step of the frame by this edge
abbrev pub step_by : Program → Frame → Edge → Option Step
step_by p fr e = find (goes_by e) (frame_steps p fr)
