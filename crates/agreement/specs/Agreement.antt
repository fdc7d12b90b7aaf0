-- How a run agrees with the facts of the flow rules: the invariant of safety. It is said object by object: for each unmet object that
-- a frame owns there is a fact. Roots stand for objects throughout.
use Rattle.std.specs.Prelude.{◌≡◌, ℕ, ◌+◌, ◌<◌, Bool, true, false, Some, None, List, [], ◌∷◌, length, nat_eq, slice_get, MatchBool}
use Rattle.std.specs.List.{list_any}
use Rattle.std.specs.FinSet as set
use Rattle.program_model.specs.declared.kinds.BodyId.{BodyId}
use Rattle.program_model.specs.declared.kinds.ClassId.{ClassId}
use Rattle.program_model.specs.declared.kinds.MethodId.{MethodId}
use Rattle.program_model.specs.declared.program.Program.{Program}
use Rattle.program_model.specs.declared.tree.Body.{Body}
use Rattle.program_model.specs.Lookups.{body_at, method_at}
use Rattle.ownership_rules.specs.Bodies.{constructs}
use Rattle.ownership_rules.specs.MustCallSets.{fits, must_of}
use Rattle.java_control.specs.Calls.{called_method}
use Rattle.java_control.specs.Control.{Step}
use Rattle.java_control.specs.PlaceNumbers.{IsSmall}
use Rattle.control_actions.specs.declared.action.Action.{Action}
use Rattle.control_actions.specs.declared.action.Action.TheVariants as actions
use Rattle.control_actions.specs.declared.fact.Fact.{Fact}
use Rattle.control_actions.specs.declared.fact.Mode.TheVariants as modes
use Rattle.control_actions.specs.declared.fact.Origin.{Origin}
use Rattle.control_actions.specs.declared.place.Place.{Place}
use Rattle.ownership_rules.specs.Facts.{has, is_nowhere, need}
use Rattle.ownership_rules.specs.MovesAtCalls.{moved_at_call}
use Rattle.ownership_rules.specs.MovesAtReturns.{result_in}
use Rattle.ownership_rules.specs.declared.moved.Moved.TheVariants as moves
use Rattle.place_laws.specs.Paths.{Comes, Reach, relation_of}
use Rattle.ledger_state.specs.Classes.{runtime_class}
use Rattle.ledger_state.specs.Contents.{HeapContents}
use Rattle.ledger_state.specs.Heaps.{next_number, object_at, root_of}
use Rattle.ledger_state.specs.Values.{number_of}
use Rattle.ledger_state.specs.declared.entry.Entry.{Entry}
use Rattle.ledger_state.specs.declared.entry.Owner.{Owner}
use Rattle.ledger_state.specs.declared.entry.Owner.TheVariants as owners
use Rattle.ledger_state.specs.declared.locals.Locals.{Locals}
use Rattle.ledger_state.specs.declared.object.Object.{Object}
use Rattle.ledger_state.specs.declared.value.Value.{Value}
use Rattle.ledger_state.specs.declared.value.Value.TheVariants as values
use Rattle.place_laws.specs.Obligations.{is_unmet}
use Rattle.place_laws.specs.Places.{class_of_method, place_value}
use Rattle.heap_laws.specs.LedgerCallsCalls.{alias_target, operand_of}
use Rattle.ledger_runs.specs.Configuration.{Config, Frame}
use Rattle.ledger_runs.specs.Choosing.{body_id, frame_steps}
use Rattle.ledger_state.specs.Leaks.{is_leak}
use Rattle.heap_laws.specs.Heaps.{HasEarlierLinks}
use Rattle.place_laws.specs.Places.{HasPlacesAlone, is_local}
use Rattle.agreement.specs.Chains.{HaveEnds}
use Rattle.agreement.specs.PlainForms.{MayRun, may_be_made}
use Rattle.agreement.specs.Renewing.{fact_as, is_renewed}

-- A fact speaks the truth of object `o`, which is `x`, in a frame of the method `m`: the frame owns the object, all that must be
-- called on it is needed by the fact and by its class, all that the fact knows was called, and the places of the fact, of which there
-- is one at least, are variables and temps that hold it.
pub record Follows (p : Program) (h : HeapContents) (m : MethodId) (l : Locals) (o : ℕ) (x : Object) (origin : Origin) (f : Fact) : Type 0 where
  pub own : f.mode ≡ modes.Own
  pub class : fits p x.class origin.class ≡ true
  pub bounded : set.is_subset x.must (must_of p x.class) ≡ true
  pub need : set.is_subset x.must (need origin f) ≡ true
  pub called : set.is_subset f.called x.called ≡ true
  pub some : is_nowhere f.places ≡ false
  pub alone : HasPlacesAlone f.places
  pub places : (q : Place) → IsSmall q → has f.places q ≡ true → (is_local q ≡ true) × (root_of h (place_value p h m l q) ≡ Some o)

-- A path through the frame's body brings a fact to the control where the frame stands that is such, as it is read where the call at which the frame waits
-- creates the object's obligation anew, which `anew` says.
pub record TracksAs (p : Program) (h : HeapContents) (anew : Bool) (fr : Frame) (o : ℕ) (x : Object) : Type 0 where
  pub body : BodyId
  pub id : body_id p fr.method ≡ Some body
  pub origin : Origin
  pub fact : Fact
  pub reached : Reach p body (relation_of p body) origin fr.control fact
  pub follows : Follows p h fr.method fr.locals o x origin (fact_as anew fact)

-- a path brings a fact that is such to the control where the top frame stands
abbrev pub Tracks : Program → HeapContents → Frame → ℕ → Object → Type 0
Tracks p h fr o x = TracksAs p h false fr o x

-- a frame that waits for the call at which it stands: none of the call's steps moves the object
pub record Awaits (p : Program) (h : HeapContents) (fr : Frame) (o : ℕ) (x : Object) : Type 0 where
  pub tracks : TracksAs p h (is_renewed p h fr o) fr o x
  pub stays : (i : ℕ) (s : Step) → slice_get (frame_steps p fr) i ≡ Some s → moved_at_call p tracks.origin s.action s.edge tracks.fact ≡ moves.Moves → ⊥

-- of these frames, which wait, the one at position `j` tracks the object
abbrev pub IsAwaited : Program → HeapContents → List Frame → ℕ → Object → ℕ → Type 0
IsAwaited p h [] o x j = ⊥
IsAwaited p h (fr ∷ frs) o x j = MatchBool (nat_eq (length frs + 1) j) (Awaits p h fr o x) (IsAwaited p h frs o x j)

-- the frame at position `j` tracks the object. The top one stands first, and the others wait
abbrev pub IsTracked : Program → HeapContents → List Frame → ℕ → Object → ℕ → Type 0
IsTracked p h [] o x j = ⊥
IsTracked p h (fr ∷ frs) o x j = MatchBool (nat_eq (length frs + 1) j) (Tracks p h fr o x) (IsAwaited p h frs o x j)

-- the frame stands at a control that its body reaches, with the variables of that body
pub record Stands (p : Program) (fr : Frame) : Type 0 where
  pub number : BodyId
  pub body : Body
  pub id : body_id p fr.method ≡ Some number
  pub at : body_at p number ≡ Some body
  pub method : body.method ≡ fr.method
  pub control : Comes (relation_of p number) fr.control
  pub variables : length fr.locals.variables ≡ length body.vars.items

abbrev pub AllStand : Program → List Frame → Type 0
AllStand p [] = Unit {0}
AllStand p (fr ∷ frs) = Stands p fr × AllStand p frs

-- a frame, the library or an owning field. (What is to be known of a field that owns an object stands beside the agreement.)
abbrev pub is_answering : Owner → Bool
is_answering (owners.Frame j) = true
is_answering owners.Library = true
is_answering (owners.Field w f) = true
is_answering owners.Released = false
is_answering owners.Lost = false
is_answering owners.Unowned = false

-- the value is an object of the class that the constructor makes
abbrev pub IsMade : Program → HeapContents → MethodId → Value → Type 0
IsMade p h m v = (k : ℕ) × (v ≡ values.Object k) × (k < next_number h) × ((x : Object) → object_at h k ≡ Some x → class_of_method (method_at p m) ≡ Some x.class) × (0 < k)

-- `this` of the frame that a `new` began
abbrev pub IsMadeByNew : Program → HeapContents → Action → Value → Type 0
IsMadeByNew p h (actions.New m d n) v = IsMade p h m v
IsMadeByNew p h a v = Unit {0}

-- the object that a `new` makes is made after the argument that it is to be an alias of
abbrev pub IsMadeAfter : Program → Locals → Action → Value → Type 0
IsMadeAfter p l (actions.New m d n) v = (k w : ℕ) → number_of v ≡ Some k → alias_target (operand_of l (actions.New m d n)) (method_at p m) ≡ Some w → (0 < w) × (w < k)
IsMadeAfter p l a v = Unit {0}

-- a constructor is the one that the call names
abbrev pub RunsItself : Action → MethodId → MethodId → Type 0
RunsItself (actions.New m d n) named runs = runs ≡ named
RunsItself (actions.Super m d n) named runs = runs ≡ named
RunsItself a named runs = Unit {0}

-- a super constructor runs on the same object
abbrev pub RunsOnSame : Action → Value → Value → Type 0
RunsOnSame (actions.Super m d n) this v = v ≡ this
RunsOnSame a this v = Unit {0}

-- the frame waits at a call, of which the other one is the run
pub record WaitsFor (p : Program) (h : HeapContents) (caller fr : Frame) : Type 0 where
  pub index : ℕ
  pub step : Step
  pub here : slice_get (frame_steps p caller) index ≡ Some step
  pub named : MethodId
  pub calls : called_method step.action ≡ Some named
  pub runs : MayRun p named fr.method
  pub itself : RunsItself step.action named fr.method
  pub kind : constructs (method_at p fr.method) ≡ constructs (method_at p named)
  pub on_same : RunsOnSame step.action caller.locals.this fr.locals.this
  pub makes : IsMadeByNew p h step.action fr.locals.this
  pub after : IsMadeAfter p caller.locals step.action fr.locals.this

-- each of these frames waits for the one above it, and the last one gives no result and makes no object
abbrev pub IsCalledFrom : Program → HeapContents → Frame → List Frame → Type 0
IsCalledFrom p h fr [] = (result_in (method_at p fr.method) ≡ None) × (constructs (method_at p fr.method) ≡ false)
IsCalledFrom p h fr (caller ∷ frs) = WaitsFor p h caller fr × IsCalledFrom p h caller frs

abbrev pub IsStacked : Program → HeapContents → List Frame → Type 0
IsStacked p h [] = Unit {0}
IsStacked p h (fr ∷ frs) = IsCalledFrom p h fr frs

-- each value that has a run-time class is of one of which there may be objects
abbrev pub HasMadeClasses : Program → HeapContents → Type 0
HasMadeClasses p h = (v : Value) (c : ClassId) → runtime_class p h v ≡ Some c → may_be_made p c ≡ true

-- the frames, the heap and the lines of a run agree with the facts
pub record Agrees (p : Program) (frs : List Frame) (h : HeapContents) (lines : List Entry) : Type 0 where
  pub standing : AllStand p frs
  pub stacked : IsStacked p h frs
  pub links : HasEarlierLinks h
  pub ends : HaveEnds h
  pub tracked : (o : ℕ) (x : Object) (j : ℕ) → object_at h o ≡ Some x → is_unmet x ≡ true → x.owner ≡ owners.Frame j → IsTracked p h frs o x j
  pub answered : (o : ℕ) (x : Object) → object_at h o ≡ Some x → x.link ≡ None → is_unmet x ≡ true → is_answering x.owner ≡ true
  pub no_leak : list_any is_leak lines ≡ false
  pub classes : HasMadeClasses p h

-- the configuration agrees with the facts
abbrev pub Agree : Program → Config → Type 0
Agree p c = Agrees p c.frames c.heap c.entries
