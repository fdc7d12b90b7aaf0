-- The operands of a call that a frame is about to make, and what it is about to store into an owning field, are of their static types.
use Rattle.std.proofs.Common.{◌≡◌, ℕ, suc, ◌+◌, Bool, true, false, ◌&&◌, Option, Some, None, List, ap, refl, sym, ◌∙◌, subst, arith, true≢false, if◌then◌else◌}
use Rattle.std.specs.Prelude.{nat_le, nat_lt, slice_get}
use Rattle.program_model.specs.declared.kinds.ClassId.{ClassId}
use Rattle.program_model.specs.declared.kinds.FieldId.{FieldId}
use Rattle.program_model.specs.declared.kinds.MethodId.{MethodId}
use Rattle.program_model.specs.declared.kinds.VType.TheVariants as types
use Rattle.program_model.specs.declared.program.Method.{Method}
use Rattle.program_model.specs.declared.program.ParamSig.{ParamSig}
use Rattle.program_model.specs.declared.program.Program.{Program}
use Rattle.program_model.specs.Lookups.{method_at}
use Rattle.program_model.specs.SuperTests.{is_under}
use Rattle.java_control.specs.Calls.{called_method, temp_at}
use Rattle.java_control.specs.Control.{Step}
use Rattle.java_control.specs.Owned.{declares_field, is_owning}
use Rattle.control_actions.specs.declared.action.Action.{Action}
use Rattle.control_actions.specs.declared.action.Action.TheVariants as actions
use Rattle.control_actions.specs.declared.action.TargetForm.{TargetForm}
use Rattle.control_actions.specs.declared.action.TargetForm.TheVariants as forms
use Rattle.ledger_state.specs.Contents.{HeapContents}
use Rattle.ledger_state.specs.Locals.{temp_in, temp_value}
use Rattle.ledger_state.specs.Classes.{is_under_class}
use Rattle.ledger_state.specs.declared.array.ArrayObject.{ArrayObject}
use Rattle.ledger_state.specs.declared.locals.Locals.{Locals}
use Rattle.ledger_state.specs.declared.value.Value.{Value}
use Rattle.ledger_state.specs.declared.value.Value.TheVariants as values
use Rattle.dispatch_laws.specs.FieldContents.{is_chosen_by_class}
use Rattle.ledger_steps.specs.LedgerCallsCalls.{form_of, operand_of}
use Rattle.ledger_moves.specs.Choosing.{frame_steps}
use Rattle.ledger_moves.specs.Configuration.{Frame}
use Rattle.ledger_moves.specs.Moves.{fits_target, is_target_of}
use Rattle.dispatch_laws.specs.Accept.{Accept}
use Rattle.dispatch_laws.specs.ClassOperands.{Fits, IsNotAboveString, IsOfClass, OfClass, field_type, own_type, params_of}
use Rattle.value_laws.specs.Values.{FitsClass, HasClassUnder, temp_fits_class}
use Rattle.value_laws.specs.ClassValues.{FrameFitsClass, IsOnInstance}
use Rattle.value_laws.specs.Objects.{object_class}
use Rattle.value_laws.proofs.ClassBegun.{fits}
use Rattle.value_laws.proofs.ClassGifts.{under_fits}
use Rattle.value_laws.proofs.ClassOperands as operands

-- the object is there, and of a class under this one
abbrev pub IsUnderAt : Program → ClassId → HeapContents → ℕ → Type 0
IsUnderAt p bound h w = (e : ClassId) × (object_class h w ≡ Some e) × (is_under p e bound ≡ true)

-- an object that fits a class is of one under it
pub class_of_fit : (p : Program) (bound : ClassId) (h : HeapContents) (w : ℕ) → FitsClass p bound h (values.Object w) → IsUnderAt p bound h w
class_of_fit p bound h w fits' = go (object_class h w) refl fits'
  where
    go : (z : Option ClassId) → object_class h w ≡ z → HasClassUnder p bound z → IsUnderAt p bound h w
    go None is none = absurd none
    go (Some e) is under = (e, is, under)

module _ (p : Program) (bound : ClassId) (ac : Accept p) (own : IsNotAboveString p bound) (h : HeapContents) (fr : Frame) (keeps : FrameFitsClass p bound h fr) (i : ℕ) (s : Step) (here : slice_get (frame_steps p fr) i ≡ Some s) where
  asks : Fits p bound keeps.body s.action (temp_fits_class p bound h fr.locals)
  asks = fits p bound ac own h fr keeps i s here

  -- what is stored into an owning field
  pub stored_fits : (f : FieldId) (d : ℕ) → s.action ≡ actions.PutOwn f d → OfClass p bound (field_type p f) → FitsClass p bound h (temp_value fr.locals d)
  stored_fits f d is to = subst (λ (a : Action). Fits p bound keeps.body a (temp_fits_class p bound h fr.locals)) is asks to

  -- what another operator than `=` stores into an owning field of type `String`
  pub updated_fits : (f : FieldId) (d : ℕ) → s.action ≡ actions.Put f d true → is_owning p f ≡ true → declares_field p keeps.body f ≡ true → field_type p f ≡ Some types.Str → FitsClass p bound h (temp_value fr.locals (d + 1))
  updated_fits f d is own declared text = (subst (λ (a : Action). Fits p bound keeps.body a (temp_fits_class p bound h fr.locals)) is asks).1 own declared text

  module _ (named : MethodId) (x : Method) (named_at : method_at p named ≡ Some x) (called : called_method s.action ≡ Some named) where
    -- the argument of a parameter
    pub parameter_fits : (k : ℕ) (q : ParamSig) → slice_get x.sig.params.items k ≡ Some q → OfClass p bound (Some q.vtype) → FitsClass p bound h (operand_of fr.locals s.action (k + 1))
    parameter_fits k q at to =
        subst (λ (n : ℕ). FitsClass p bound h (operand_of fr.locals s.action n)) (let next : suc k ≡ k + 1 = omega arith in next)
        (operands.argument_fits p bound h keeps.body fr.locals named k q (ap (λ (o : Option Method). slice_get (params_of o) k) named_at ∙ at) to s.action asks called)

    first_temp : (d n : ℕ) → FitsClass p bound h (temp_value fr.locals d) → FitsClass p bound h (temp_in fr.locals (temp_at d n 0))
    first_temp d n none = go (nat_lt 0 n && nat_le (d + 0) 4294967295)
      where
        go : (t : Bool) → FitsClass p bound h (temp_in fr.locals (if t then Some (d + 0) else None))
        go true = subst (temp_fits_class p bound h fr.locals) (let same : d ≡ d + 0 = omega arith in same) none
        go false = tt

    -- the receiver, or the object of a super call, where it is an object
    pub receiver_under : IsOfClass p bound (types.Obj x.class) → IsOnInstance p h fr.locals s.action (method_at p named) → (w : ℕ) → operand_of fr.locals s.action 0 ≡ values.Object w → IsUnderAt p bound h w
    receiver_under to instance w is = by s.action asks called instance is
      where
        own_kind : (m : MethodId) → ◌≡◌ {A = Option MethodId} (Some m) (Some named) → OfClass p bound (own_type (method_at p m))
        own_kind m is' =
            let same : m ≡ named = cc in
            subst (λ (k : MethodId). OfClass p bound (own_type (method_at p k))) (sym same) (subst (λ (o : Option Method). OfClass p bound (own_type o)) (sym named_at) to)

        below : ((e : ClassId) × (object_class h w ≡ Some e) × (is_under p e x.class ≡ true)) → IsUnderAt p bound h w
        below under = (under.0, under.1, under_fits p bound ac.well_formed.valid.typed under.0 x.class under.2 to)

        held : (v : Value) → v ≡ values.Object w → FitsClass p bound h v → IsUnderAt p bound h w
        held v same fits' = class_of_fit p bound h w (subst (FitsClass p bound h) same fits')

        by : (a : Action) → Fits p bound keeps.body a (temp_fits_class p bound h fr.locals) → called_method a ≡ Some named → IsOnInstance p h fr.locals a (method_at p named) → operand_of fr.locals a 0 ≡ values.Object w → IsUnderAt p bound h w
        by actions.Skip asks' called' on is' = absurd (let never : None ≡ Some named = called' in cc)
        by (actions.Call m d n forms.Static) asks' called' on is' = absurd (let never : values.Nothing ≡ values.Object w = is' in cc)
        by (actions.Call m d n forms.Super) asks' called' on is' = held (operand_of fr.locals (actions.Call m d n forms.Super) 0) is' (first_temp d n (asks'.1 (own_kind m called')))
        by (actions.Call m d n forms.This) asks' called' on is' = below (on w x refl is' named_at)
        by (actions.Call m d n forms.Other) asks' called' on is' = below (on w x refl is' named_at)
        by (actions.New m d n) asks' called' on is' = absurd (let never : values.Nothing ≡ values.Object w = is' in cc)
        by (actions.Super m d n) asks' called' on is' = held (operand_of fr.locals (actions.Super m d n) 0) is' (first_temp d n (asks'.1 (own_kind m called')))
        by a asks' called' on is' = absurd (let never : None ≡ Some named = called' in cc)

-- ---- targets

-- a value that may be the target of a call of the method is of its class, where it is an object
pub target_is_instance : (p : Program) (h : HeapContents) (arrays : List ArrayObject) (l : Locals) (a : Action) (named : Option Method) → fits_target p h arrays named (form_of a) (operand_of l a 0) ≡ true → IsOnInstance p h l a named
target_is_instance p h arrays l a named target w m chosen is at = by (form_of a) chosen (subst (λ (v : Value). fits_target p h arrays named (form_of a) v ≡ true) is target)
  where
    of_class : (c : Option ClassId) → object_class h w ≡ c → is_under_class p c m.class ≡ true → (e : ClassId) × (object_class h w ≡ Some e) × (is_under p e m.class ≡ true)
    of_class None class none = absurd (true≢false (sym none))
    of_class (Some e) class under = (e, class, under)

    is_instance_of : is_target_of p h arrays named (values.Object w) ≡ true → (e : ClassId) × (object_class h w ≡ Some e) × (is_under p e m.class ≡ true)
    is_instance_of instance = of_class (object_class h w) refl (subst (λ (o : Option Method). is_target_of p h arrays o (values.Object w) ≡ true) at instance)

    by : (form : TargetForm) → is_chosen_by_class form ≡ true → fits_target p h arrays named form (values.Object w) ≡ true → (e : ClassId) × (object_class h w ≡ Some e) × (is_under p e m.class ≡ true)
    by forms.Static never fits' = absurd (true≢false (sym never))
    by forms.Super never fits' = absurd (true≢false (sym never))
    by forms.This chosen' fits' = is_instance_of fits'
    by forms.Other chosen' fits' = is_instance_of fits'
