-- What runs at a call of a method of the program, beside the method that the call names.
use Rattle.std.specs.Prelude.{◌≡◌, ◌⊎◌, ℕ, Bool, true, false, Some, None, List, slice_get}
use Rattle.program_model.specs.declared.kinds.BodyId.{BodyId}
use Rattle.program_model.specs.declared.kinds.MethodId.{MethodId}
use Rattle.program_model.specs.declared.kinds.MethodKind.TheVariants as methods
use Rattle.program_model.specs.declared.program.Method.{Method}
use Rattle.program_model.specs.declared.program.Program.{Program}
use Rattle.program_model.specs.Lookups.{method_at}
use Rattle.program_model.specs.Overrides.{is_library}
use Rattle.ledger_obligations.specs.MustCallSets.{is_empty, must_of_optional}
use Rattle.java_control.specs.Calls.{called_method}
use Rattle.java_control.specs.Remaining.{Todo}
use Rattle.control_actions.specs.declared.action.Action.{Action}
use Rattle.control_actions.specs.declared.action.Action.TheVariants as actions
use Rattle.control_actions.specs.declared.action.TargetForm.TheVariants as forms
use Rattle.value_laws.specs.Paths.{Comes, Move, relation_of}
use Rattle.value_laws.specs.PlainForms.{MayRun, all_owe_nothing}

-- a call that has a target
abbrev pub is_on_object : Action → Bool
is_on_object (actions.Call m d n forms.Static) = false
is_on_object (actions.Call m d n form) = true
is_on_object a = false

-- At the call `a`, which names `n`, `x` runs: on an object it is an instance method (no static method hides one, JLS 8.4.8.2); it gives
-- a result only where the named one does; and where the named one's result is owning and something must be called on it, something must be called on
-- its own, or on no object that it may give (JLS 8.4.5).
pub record IsAlike (p : Program) (a : Action) (n x : Method) : Type 0 where
  pub kind : is_on_object a ≡ true → x.kind ≡ methods.Instance
  pub none : n.sig.result ≡ None → x.sig.result ≡ None
  pub light : n.sig.owning_result ≡ true → is_empty (must_of_optional p x.sig.result) ≡ true → (is_empty (must_of_optional p n.sig.result) ≡ true) ⊎ (all_owe_nothing p x.sig.result ≡ true)

-- what may run at the calls of bodies is so
pub record HasPlainRuns (p : Program) : Type 0 where
  pub alike : (b : BodyId) {k : List Todo} (i : ℕ) (t : Move (List Todo)) (named r : MethodId) (n x : Method) → Comes (relation_of p b) k → slice_get ((relation_of p b).next k) i ≡ Some t
      → called_method t.action ≡ Some named → MayRun p named r → method_at p named ≡ Some n → method_at p r ≡ Some x → is_library p x.class ≡ false → IsAlike p t.action n x
