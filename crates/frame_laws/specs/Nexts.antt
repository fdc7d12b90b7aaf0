-- What comes next in a frame: the step that the machine takes, and all that it has seen before it takes it.
use Rattle.std.specs.Prelude.{◌≡◌, ◌⊎◌, ℕ, true, false, Option, Some, None, List, slice_get}
use Rattle.program_model.specs.declared.kinds.ClassId.{ClassId}
use Rattle.program_model.specs.declared.kinds.FieldId.{FieldId}
use Rattle.program_model.specs.declared.kinds.MethodId.{MethodId}
use Rattle.program_model.specs.declared.program.Method.{Method}
use Rattle.program_model.specs.declared.program.Program.{Program}
use Rattle.program_model.specs.Lookups.{method_at}
use Rattle.java_control.specs.Calls.{called_method}
use Rattle.java_control.specs.Control.{Step}
use Rattle.control_actions.specs.declared.action.Action.{Action}
use Rattle.control_actions.specs.declared.action.Action.TheVariants as actions
use Rattle.control_actions.specs.declared.action.Edge.TheVariants as edges
use Rattle.control_actions.specs.declared.action.PlainValue.TheVariants as plain
use Rattle.ownership_rules.specs.Callees.{may_be_null_target}
use Rattle.stub_conduct.specs.declared.choice.Choice.{Choice}
use Rattle.stub_conduct.specs.declared.choice.Conduct.{Conduct}
use Rattle.stub_conduct.specs.declared.choice.Conduct.TheVariants as conducts
use Rattle.ledger_state.specs.Classes.{runtime_class}
use Rattle.ledger_state.specs.Contents.{HeapContents}
use Rattle.ledger_state.specs.Values.{is_null}
use Rattle.ledger_state.specs.declared.array.ArrayObject.{ArrayObject}
use Rattle.ledger_state.specs.declared.locals.Locals.{Locals}
use Rattle.ledger_steps.specs.Obligations.{is_library_method}
use Rattle.ledger_moves.specs.Operations.{thrown_by_operation}
use Rattle.ledger_steps.specs.LedgerCallsCalls.{form_of, has_null_target, leaves_by, operand_of, position_of, running}
use Rattle.ledger_steps.specs.Conducts.{on_this, settled}
use Rattle.ledger_moves.specs.Choosing.{agrees_with}
use Rattle.ledger_moves.specs.Moves.{Move, Inner, Start, Library, End, Stray, Rest, Return, Back, StrayBack, NoWay, fits_target, has_body}
use Rattle.agreement.specs.PlacePlaces.{IsWay}
use Rattle.agreement.specs.PlainForms.{IsAnsweredBy, IsPlainCall, MayRun, RunsFor, may_be_made}
use Rattle.agreement.specs.Fitting.{FitsMethod}
use Rattle.fact_laws.specs.Outcomes.{IsCallRow, IsPlainRow}
use Rattle.frame_laws.specs.Steps.{IsTrueTest, is_super}

-- ---- steps within the frame

-- a step that calls nothing and stores into no owning field, which throws what its operation throws
pub record IsPlainStep (p : Program) (h : HeapContents) (arrays : List ArrayObject) (m : MethodId) (l : Locals) (e : Option ClassId) (s : Step) : Type 0 where
  pub row : IsPlainRow s.action
  pub way : IsWay s.action s.edge
  pub test : IsTrueTest l s.action s.edge
  pub thrown : e ≡ thrown_by_operation p h arrays l s.action
  pub agreeing : agrees_with p h arrays m l s.action s.edge ≡ true

-- a call whose target is null: it throws before it starts
pub record IsNullCall (p : Program) (l : Locals) (e : Option ClassId) (s : Step) : Type 0 where
  pub row : IsCallRow s.action
  pub null : is_null (operand_of l s.action 0) ≡ true
  pub target : may_be_null_target p s.action s.edge ≡ true
  pub thrown : e ≡ Some p.core.null_pointer_exception

-- a store into an owning field of `this`
pub record IsOwningStore (e : Option ClassId) (s : Step) : Type 0 where
  pub field : FieldId
  pub temp : ℕ
  pub action : s.action ≡ actions.PutOwn field temp
  pub edge : s.edge ≡ edges.Go
  pub normal : e ≡ None

abbrev pub IsInnerStep : Program → HeapContents → List ArrayObject → MethodId → Locals → Option ClassId → Step → Type 0
IsInnerStep p h arrays m l e s = IsPlainStep p h arrays m l e s ⊎ (IsNullCall p l e s ⊎ IsOwningStore e s)

-- ---- calls

-- a read of a library's constant
abbrev pub IsConstantRead : Action → Type 0
IsConstantRead (actions.Plain q (plain.LibraryConstant m)) = Unit {0}
IsConstantRead a = ⊥

-- A call of the library, or a read of its constant: it does what the conduct says, which a choice gave, by the signature of this method, which is the named
-- one, or runs for it.
pub record IsLibraryMove (p : Program) (h : HeapContents) (arrays : List ArrayObject) (l : Locals) (steps : List Step) (named m : MethodId) (d : Conduct) (s : Step) : Type 0 where
  pub index : ℕ
  pub here : slice_get steps index ≡ Some s
  pub answers : IsAnsweredBy p named m
  pub row : (IsCallRow s.action × (called_method s.action ≡ Some named)) ⊎ IsConstantRead s.action
  pub library : is_library_method p (method_at p m) ≡ true
  pub other : (e : ClassId) → d ≡ conducts.Fresh e → is_super s.action ≡ false
  pub edge : (e : ClassId) → d ≡ conducts.Fresh e → s.edge ≡ edges.Go
  pub thrown : (e : ClassId) → d ≡ conducts.Throws e → (c : ClassId) × (leaves_by p (method_at p named) e ≡ Some c) × (s.edge ≡ edges.Throws c)
  pub normal : ((e : ClassId) → d ≡ conducts.Throws e → ⊥) → s.edge ≡ edges.Go
  pub fits : FitsMethod p (method_at p m) d
  pub ran : called_method s.action ≡ Some named → (is_library_method p (method_at p (running p h l s.action named)) ≡ true)
      × (fits_target p h arrays (method_at p named) (form_of s.action) (operand_of l s.action 0) ≡ true)
      × ((c : ClassId) → runtime_class p h (operand_of l s.action 0) ≡ Some c → may_be_made p c ≡ true)
  pub by : (choice : Choice) × (d ≡ on_this s.action (settled p h arrays m choice (position_of None l s.action)))

-- a call of the program whose target is there
pub record IsStartMove (p : Program) (h : HeapContents) (arrays : List ArrayObject) (l : Locals) (steps : List Step) (named runs : MethodId) (a : Action) : Type 0 where
  pub index : ℕ
  pub step : Step
  pub here : slice_get steps index ≡ Some step
  pub same : step.action ≡ a
  pub row : IsCallRow a
  pub calls : called_method a ≡ Some named
  pub target : has_null_target l a ≡ false
  pub fits : fits_target p h arrays (method_at p named) (form_of a) (operand_of l a 0) ≡ true
  pub selected : runs ≡ running p h l a named
  pub may : MayRun p named runs
  pub plain : IsPlainCall p named
  pub method : Method
  pub named_at : method_at p named ≡ Some method
  pub running : Method
  pub running_at : method_at p runs ≡ Some running
  pub body : has_body running.body ≡ true
  pub fit : RunsFor p method running

-- what comes next in a frame of method `m`
abbrev pub IsNext : Program → HeapContents → List ArrayObject → MethodId → Locals → List Step → Move → Type 0
IsNext p h arrays m l steps (Inner e s) = (i : ℕ) × (slice_get steps i ≡ Some s) × IsInnerStep p h arrays m l e s
IsNext p h arrays m l steps (Start named runs a pos) = IsStartMove p h arrays l steps named runs a
IsNext p h arrays m l steps (Library named k d s) = IsLibraryMove p h arrays l steps named k d s
IsNext p h arrays m l steps (End pos q) = (i : ℕ) × (s : Step) × (slice_get steps i ≡ Some s) × (s.action ≡ actions.End q)
IsNext p h arrays m l steps (Stray e pos) = Unit {0}
IsNext p h arrays m l steps Rest = Unit {0}

-- ---- returns

-- The frame that waits takes a step of its call, which names this method: by `Go` where the frame above has ended normally, and
-- else by the class by which the exception leaves the call.
pub record IsBackStep (p : Program) (steps : List Step) (e : Option ClassId) (named : MethodId) (t : Step) : Type 0 where
  pub index : ℕ
  pub here : slice_get steps index ≡ Some t
  pub row : IsCallRow t.action
  pub calls : called_method t.action ≡ Some named
  pub normal : e ≡ None → t.edge ≡ edges.Go
  pub thrown : (c : ClassId) → e ≡ Some c → (k : ClassId) × (leaves_by p (method_at p named) c ≡ Some k) × (t.edge ≡ edges.Throws k)

-- how the frame that waits goes on, where the call names method `named` and the frame above has ended by `e`
abbrev pub IsBack : Program → List Step → Option ClassId → MethodId → Return → Type 0
IsBack p steps e named (Back c m t) = (c ≡ e) × (m ≡ named) × IsBackStep p steps e named t
IsBack p steps e named (StrayBack c pos) = Unit {0}
IsBack p steps e named NoWay = Unit {0}
