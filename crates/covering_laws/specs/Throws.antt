-- What is thrown, and which objects exceptions are.
use Rattle.std.specs.Prelude.{◌≡◌, ℕ, true, false, Option, Some, List, slice_get, None, [], ◌∷◌}
use Rattle.program_model.specs.declared.kinds.ClassId.{ClassId}
use Rattle.program_model.specs.declared.kinds.VType.TheVariants as types
use Rattle.program_model.specs.declared.program.Method.{Method}
use Rattle.program_model.specs.declared.program.Program.{Program}
use Rattle.program_model.specs.Lookups.{method_at}
use Rattle.program_model.specs.SuperTests.{is_under}
use Rattle.control_actions.specs.declared.action.Action.TheVariants as actions
use Rattle.ledger_state.specs.Contents.{HeapContents}
use Rattle.ledger_state.specs.Heaps.{object_at}
use Rattle.ledger_state.specs.Locals.{temp_value}
use Rattle.ledger_state.specs.declared.object.Link.{Link}
use Rattle.ledger_state.specs.declared.object.Object.{Object}
use Rattle.ledger_state.specs.declared.value.Value.TheVariants as values
use Rattle.rlc_base.specs.declared.place.Pos.{Pos}
use Rattle.java_control.specs.Control.{Step}
use Rattle.value_laws.specs.Configuration.{Frame}
use Rattle.value_laws.specs.Choosing.{frame_steps}
use Rattle.ledger_steps.specs.Ends.{exception_class, thrown_in}
use Rattle.control_actions.specs.declared.action.Completion.TheVariants as completions

-- no object that is linked to another one is of a class of exceptions: no exception is an alias of a resource
abbrev pub ExceptionsAreUnlinked : Program → HeapContents → Type 0
ExceptionsAreUnlinked p h = (k : ℕ) (x : Object) (l : Link) → object_at h k ≡ Some x → x.link ≡ Some l → is_under p x.class p.core.throwable ≡ false

-- an object that a `throw` of the frame throws is an exception (JLS 14.18)
abbrev pub RaisesExceptions : Program → HeapContents → Frame → Type 0
RaisesExceptions p h fr = (i : ℕ) (s : Step) (d : ℕ) (c : Option ClassId) (k : ℕ) → slice_get (frame_steps p fr) i ≡ Some s → s.action ≡ actions.Raise d c → temp_value fr.locals d ≡ values.Object k
    → (x : Object) × (object_at h k ≡ Some x) × (is_under p x.class p.core.throwable ≡ true)

abbrev pub TopRaisesExceptions : Program → HeapContents → List Frame → Type 0
TopRaisesExceptions p h [] = Unit {0}
TopRaisesExceptions p h (fr ∷ frs) = RaisesExceptions p h fr

-- an exception by which the frame ends has a class
abbrev pub EndsByException : Program → HeapContents → Frame → Type 0
EndsByException p h fr = (i : ℕ) (s : Step) (d : ℕ) (t : ClassId) (pos : Pos) → slice_get (frame_steps p fr) i ≡ Some s → s.action ≡ actions.End (completions.Throw d t pos)
    → exception_class p h (thrown_in fr.locals (completions.Throw d t pos)) ≡ None → ⊥

abbrev pub TopEndsByException : Program → HeapContents → List Frame → Type 0
TopEndsByException p h [] = Unit {0}
TopEndsByException p h (fr ∷ frs) = EndsByException p h fr

-- an object that the frame gives, whose method has a result of a class that `String` is not under, is of a class under that
abbrev pub GivesResultClass : Program → HeapContents → Frame → Type 0
GivesResultClass p h fr = (i : ℕ) (s : Step) (d : ℕ) (pos : Pos) (m : Method) (c : ClassId) (k : ℕ) (x : Object) → slice_get (frame_steps p fr) i ≡ Some s → s.action ≡ actions.End (completions.ReturnValue d pos)
    → method_at p fr.method ≡ Some m → m.sig.result ≡ Some (types.Obj c) → is_under p p.core.string c ≡ false → temp_value fr.locals d ≡ values.Object k → object_at h k ≡ Some x → is_under p x.class c ≡ true

-- the frame ends as its method declares: by an exception that has a class, or by an object of a class under that of the result
pub record EndsAsDeclared (p : Program) (h : HeapContents) (fr : Frame) : Type 0 where
  pub throws : EndsByException p h fr
  pub gives : GivesResultClass p h fr

abbrev pub TopEndsAsDeclared : Program → HeapContents → List Frame → Type 0
TopEndsAsDeclared p h [] = Unit {0}
TopEndsAsDeclared p h (fr ∷ frs) = EndsAsDeclared p h fr
