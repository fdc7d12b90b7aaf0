-- A call is noted on the object that is its receiver, where the called method counts for a name.
use Rattle.std.proofs.Common.{◌≡◌, ℕ, true, false, Option, Some, None, [], ◌∷◌, refl, sym, ap, ◌∙◌, true≢false, eq-eqb}
use Rattle.rlc_base.specs.declared.name_id.NameId.{NameId}
use Rattle.program_model.specs.declared.kinds.MethodId.{MethodId}
use Rattle.program_model.specs.declared.kinds.MethodKind.{MethodKind}
use Rattle.program_model.specs.declared.kinds.MethodKind.TheVariants as methods
use Rattle.program_model.specs.declared.program.Method.{Method}
use Rattle.program_model.specs.declared.program.Program.{Program}
use Rattle.program_model.specs.Lookups.{method_at}
use Rattle.value_laws.specs.Effective.{is_instance_kind}
use Rattle.ledger_obligations.specs.Bodies.{constructs, is_constructor_kind}
use Rattle.ledger_obligations.specs.WellFormed.{interest_of}
use Rattle.control_actions.specs.declared.action.Action.{Action}
use Rattle.control_actions.specs.declared.action.Action.TheVariants as actions
use Rattle.control_actions.specs.declared.action.TargetForm.TheVariants as forms
use Rattle.ownership_rules.specs.Callees.{callee, is_super_target}
use Rattle.value_laws.specs.Accept.{Accept}
use Rattle.ledger_state.specs.Contents.{HeapContents}
use Rattle.ledger_state.specs.Heaps.{root_of}
use Rattle.ledger_state.specs.Values.{number_of}
use Rattle.ledger_state.specs.declared.locals.Locals.{Locals}
use Rattle.ledger_obligations.specs.Obligations.{has_note, note}
use Rattle.ledger_steps.specs.LedgerCallsCalls as calls
use Rattle.ledger_steps.specs.LedgerCallsCalls.{operand_of, receiver_note}
use Rattle.ledger_state.specs.Locals.{temp_in}
use Rattle.value_laws.specs.PlainForms.{IsPlainAction}
use Rattle.value_laws.specs.Outcomes.{IsCallRow}
use Rattle.value_laws.proofs.CallNames.{IsReceiver, object_with_root}
use Rattle.value_laws.proofs.Renewed.{without_reset}
use Rattle.value_laws.specs.FieldContents.{is_new}

-- a constructor counts for no name
no_instance : (k : MethodKind) → is_constructor_kind k ≡ true → is_instance_kind k ≡ false
no_instance methods.Ctor is = refl
no_instance methods.Instance is = absurd (true≢false (sym is))
no_instance methods.Static is = absurd (true≢false (sym is))
no_instance methods.Constant is = absurd (true≢false (sym is))

no_name : (p : Program) (x : Method) → is_constructor_kind x.kind ≡ true → interest_of p x ≡ None
no_name p x is = rw (no_instance x.kind is) refl

constructor_name : (p : Program) (ac : Accept p) (m : MethodId) (x : Option Method) → method_at p m ≡ x → constructs x ≡ true → calls.interest_in x ≡ None
constructor_name p ac m None at is = refl
constructor_name p ac m (Some x) at is = ac.well_formed.interests m x at ∙ no_name p x is

note_there : (k : ℕ) (n : NameId) → has_note (note false k n ∷ []) (note false k n) ≡ true
note_there k n = rw (eq-eqb k k refl, eq-eqb n.0 n.0 refl) refl

no_root : (h : HeapContents) (l : Locals) (o : ℕ) → root_of h (temp_in l None) ≡ Some o → ⊥
no_root h l o root = let never : None ≡ Some o = root in cc

-- a `new` has no receiver
pub no_receiver : (h : HeapContents) (l : Locals) (a : Action) (o : ℕ) → root_of h (operand_of l a 0) ≡ Some o → is_new a ≡ true → ⊥
no_receiver h l actions.Skip o root new = true≢false (sym new)
no_receiver h l (actions.New m d n) o root new = let never : None ≡ Some o = root in cc
no_receiver h l a o root new = true≢false (sym new)

-- a signature without its reset has the same name of interest
pub plain_interest_in : (m : Option Method) → calls.interest_in (without_reset m) ≡ calls.interest_in m
plain_interest_in None = refl
plain_interest_in (Some m) = refl

module _ (p : Program) (ac : Accept p) (h : HeapContents) (l : Locals) (o : ℕ) (n : NameId) where
  noted_by : (k : ℕ) (a : Action) → IsPlainAction p a → IsCallRow a → is_super_target a ≡ false → root_of h (operand_of l a 0) ≡ Some o → calls.interest_in (callee p a) ≡ Some n
      → number_of (operand_of l a 0) ≡ Some k → has_note (receiver_note l a (callee p a)) (note false k n) ≡ true
  noted_by k actions.Skip plain row other root interest number = absurd row
  noted_by k (actions.Call c d e forms.Static) plain row other root interest number = absurd (no_root h l o root)
  noted_by k (actions.Call c d e forms.Other) plain row other root interest number = rw (number, interest) (note_there k n)
  noted_by k (actions.Call c d e forms.This) plain row other root interest number = rw (number, interest) (note_there k n)
  noted_by k (actions.Call c d e forms.Super) plain row other root interest number = absurd (true≢false other)
  noted_by k (actions.New c d e) plain row other root interest number = absurd (no_root h l o root)
  noted_by k (actions.Super c d e) plain row other root interest number = absurd (let never : None ≡ Some n = sym (constructor_name p ac c (method_at p c) refl plain.1) ∙ interest in cc)
  noted_by k a plain row other root interest number = absurd row

  pub noted_at : (a : Action) → IsPlainAction p a → IsCallRow a → is_super_target a ≡ false → root_of h (operand_of l a 0) ≡ Some o → calls.interest_in (callee p a) ≡ Some n
      → IsReceiver h l a (callee p a) o n
  noted_at a plain row other root interest =
      let is = object_with_root h (operand_of l a 0) o root in
      record { object = is.0; value = is.1; root = is.2; noted = noted_by is.0 a plain row other root interest (ap number_of is.1) }
