-- The operands of an action that finds the values that it asks.
use Rattle.std.proofs.Common.{◌≡◌, refl, sym, subst, arith, ℕ, zero, suc, ◌+◌, ◌<◌, Bool, true, false, ◌&&◌, Option, Some, None, List, [], ◌∷◌, if◌then◌else◌, inl, inr}
use Rattle.std.specs.Prelude.{nat_le, nat_lt, slice_get}
use Rattle.program_model.specs.declared.kinds.MethodId.{MethodId}
use Rattle.program_model.specs.declared.kinds.VType.{VType}
use Rattle.program_model.specs.declared.kinds.VType.TheVariants as types
use Rattle.program_model.specs.declared.program.Method.{Method}
use Rattle.program_model.specs.declared.program.ParamSig.{ParamSig}
use Rattle.program_model.specs.declared.program.Program.{Program}
use Rattle.program_model.specs.declared.tree.Body.{Body}
use Rattle.program_model.specs.Lookups.{method_at}
use Rattle.java_control.specs.Calls.{called_method, operand_at, temp_at}
use Rattle.java_control.specs.Sources.{is_throws, source}
use Rattle.control_actions.specs.declared.action.Action.{Action}
use Rattle.control_actions.specs.declared.action.Action.TheVariants as actions
use Rattle.control_actions.specs.declared.action.Completion.{Completion}
use Rattle.control_actions.specs.declared.action.Completion.TheVariants as completions
use Rattle.control_actions.specs.declared.action.Edge.{Edge}
use Rattle.control_actions.specs.declared.action.Edge.TheVariants as edges
use Rattle.control_actions.specs.declared.action.Operator.{Operator}
use Rattle.control_actions.specs.declared.action.Operator.TheVariants as operators
use Rattle.control_actions.specs.declared.action.PlainValue.{PlainValue}
use Rattle.control_actions.specs.declared.action.Scope.{Scope}
use Rattle.control_actions.specs.declared.action.Scope.TheVariants as scopes
use Rattle.control_actions.specs.declared.action.TargetForm.TheVariants as forms
use Rattle.control_actions.specs.declared.place.Place.{Place}
use Rattle.control_actions.specs.declared.place.Place.TheVariants as places
use Rattle.frame_laws.specs.SmallActions.{IsSmallAction}
use Rattle.ledger_state.specs.declared.locals.Locals.{Locals}
use Rattle.ledger_state.specs.declared.value.Value.{Value}
use Rattle.ledger_state.specs.Locals.{temp_in, temp_value}
use Rattle.ledger_state.specs.Values.{default_of}
use Rattle.ledger_steps.specs.LedgerCallsCalls.{operand_of}
use Rattle.ledger_steps.specs.Conducts.{result_in}
use Rattle.ledger_steps.specs.Ends.{default_result, result_value, thrown_in}
use Rattle.dispatch_laws.specs.Operands.{CopyFits, Fits, GivesNone, NoObject, OperandsFit, Returns, TakesAll, after, below_and_at, copied, dropped, left_held, made_at, moved, params_of, result_of, thrown_after}
use Rattle.dispatch_laws.specs.StepOrigins.{ComesFromNone, MakesNone, TakesNone}
use Rattle.dispatch_laws.specs.Values.{IsNoObjectBut, temp_holds_none}
use Rattle.value_laws.specs.Types.{holds_none}

-- the objects of class `String` are these
module _ (texts : ℕ → Bool) where
  -- ---- the temps of an action are in range

  small_copied : (p : Program) (b : Body) (to from : Place) (l : Locals) (x : ℕ) → IsSmallAction p (actions.Copy to from) → copied p b to from (holds_none texts l) x → x < 64
  small_copied p b (places.Temp d) from l x small (inl other) = other.1.0
  small_copied p b (places.Temp d) from l x small (inr same) = subst (λ (n : ℕ). n < 64) (sym same.0) small.0
  small_copied p b (places.Var i) from l x small has = has.0
  small_copied p b to from l x small has = has.0

  small_moved : (to from : Place) (l : Locals) (x : ℕ) → moved to from (holds_none texts l) x → x < 64
  small_moved (places.Var i) (places.Temp d) l x has = has.1.0
  small_moved (places.Var i) places.This l x has = absurd has
  small_moved (places.Var i) from l x has = absurd has
  small_moved places.This from l x has = absurd has
  small_moved to from l x has = absurd has

  small_dropped : (s : Scope) (l : Locals) (x : ℕ) → dropped s (holds_none texts l) x → x < 64
  small_dropped (scopes.Temp d) l x has = has.1.0
  small_dropped (scopes.TempsAbove d) l x has = has.1.0
  small_dropped (scopes.Declared s) l x has = has.0
  small_dropped (scopes.Variable y) l x has = has.0

  small_at : (d : ℕ) (there : Type 0) (l : Locals) (x : ℕ) → d < 64 → below_and_at d there (holds_none texts l) x → x < 64
  small_at d there l x small (inl under) = under.1.0
  small_at d there l x small (inr same) = subst (λ (n : ℕ). n < 64) (sym same.0) small

  small_made : (p : Program) (to : Place) (v : PlainValue) (l : Locals) (x : ℕ) → IsSmallAction p (actions.Plain to v) → made_at to v (holds_none texts l) x → x < 64
  small_made p (places.Temp d) v l x small has = small_at d _ l x small has
  small_made p (places.Var i) v l x small has = has.0
  small_made p to v l x small has = has.0

  small_after : (p : Program) (b : Body) (a : Action) (l : Locals) (x : ℕ) → IsSmallAction p a → after p b a (holds_none texts l) x → x < 64
  small_after p b actions.Skip l x small has = has.0
  small_after p b (actions.Copy to from) l x small has = small_copied p b to from l x small has
  small_after p b (actions.Move to from) l x small has = small_moved to from l x has
  small_after p b (actions.Plain to v) l x small has = small_made p to v l x small has
  small_after p b (actions.Drop s) l x small has = small_dropped s l x has
  small_after p b (actions.Settle d c) l x small has = small_at d _ l x small.0 has
  small_after p b (actions.Enter clause y d k) l x small has = has.1.0
  small_after p b (actions.Test d) l x small has = has.1.0
  small_after p b (actions.Op k d n) l x small has = small_at d _ l x small.0 has
  small_after p b (actions.Get f d this) l x small has = small_at d _ l x small has
  small_after p b (actions.Put f d this) l x small has = small_at d _ l x (let low : d < 64 = omega (arith, small) in low) has
  small_after p b (actions.Cast t d) l x small has = small_at d _ l x small has
  small_after p b (actions.PutOwn f d) l x small has = has.0
  small_after p b (actions.Call m d n form) l x small has = small_at d _ l x small.0 has
  small_after p b (actions.New m d n) l x small has = small_at d _ l x (let low : d < 64 = omega (arith, small) in low) has
  small_after p b (actions.Super m d n) l x small has = has.1.0
  small_after p b (actions.Raise d c) l x small has = has.1.0
  small_after p b (actions.End c) l x small has = has.0

  small_thrown : (a : Action) (l : Locals) (x : ℕ) → thrown_after a (holds_none texts l) x → x < 64
  small_thrown (actions.Op k d n) l x has = has.1.0
  small_thrown (actions.Get f d this) l x has = has.1.0
  small_thrown (actions.Put f d this) l x has = has.1.0
  small_thrown (actions.Cast t d) l x has = has.1.0
  small_thrown (actions.Call m d n form) l x has = has.1.0
  small_thrown (actions.New m d n) l x has = has.1.0
  small_thrown (actions.Super m d n) l x has = has.1.0
  small_thrown (actions.Raise d c) l x has = has.1.0
  small_thrown actions.Skip l x has = absurd has
  small_thrown a l x has = absurd has

  -- a temp that is known to hold no object after a step is in range
  pub small_left : (p : Program) (b : Body) (a : Action) (e : Edge) (l : Locals) (x : ℕ) → IsSmallAction p a → left_held p b a e (holds_none texts l) x → x < 64
  small_left p b a (edges.Throws c) l x small has = small_thrown a l x has
  small_left p b a edges.Go l x small has = small_after p b a l x small has
  small_left p b a e l x small has = small_after p b a l x small has

  -- ---- what is known of temps in range holds of them

  gives_here : (p : Program) (b : Body) (l : Locals) (y : Place) → GivesNone p b y (holds_none texts l) → GivesNone p b y (temp_holds_none texts l)
  gives_here p b l (places.Var x) gives = gives
  gives_here p b l (places.Field k) gives = gives
  gives_here p b l (places.Temp d) gives = gives.1
  gives_here p b l places.This gives = gives
  gives_here p b l places.Super gives = gives

  comes_here : (p : Program) (b : Body) (l : Locals) (made : Type 0) (o : Option Place) → ComesFromNone p b (holds_none texts l) made o → ComesFromNone p b (temp_holds_none texts l) made o
  comes_here p b l made None comes = comes
  comes_here p b l made (Some y) comes = gives_here p b l y comes

  pub takes_here : (p : Program) (b : Body) (l : Locals) (a : Action) (e : Edge) (x : ℕ) → TakesNone p b a e (holds_none texts l) x → TakesNone p b a e (temp_holds_none texts l) x
  takes_here p b l a e x (inl comes) = inl (comes_here p b l ((is_throws e ≡ false) × MakesNone p a) (source p b a e (places.Temp x)) comes)
  takes_here p b l a e x (inr cast) = inr cast

  copy_here : (b : Body) (l : Locals) (to from : Place) → CopyFits b to from (holds_none texts l) → CopyFits b to from (temp_holds_none texts l)
  copy_here b l (places.Temp d) from fits = tt
  copy_here b l (places.Var x) (places.Temp d) fits = λ none. (fits none).1
  copy_here b l (places.Var x) places.This fits = fits
  copy_here b l (places.Var x) from fits = fits
  copy_here b l places.This from fits = fits
  copy_here b l to from fits = fits

  all_here : (l : Locals) (xs : List ParamSig) (d : ℕ) → TakesAll xs d (holds_none texts l) → TakesAll xs d (temp_holds_none texts l)
  all_here l [] d takes = tt
  all_here l (x ∷ xs) d takes = (λ none. (takes.0 none).1, all_here l xs (d + 1) takes.1)

  operands_here : (l : Locals) (o : Operator) (d : ℕ) → OperandsFit o d (holds_none texts l) → OperandsFit o d (temp_holds_none texts l)
  operands_here l (operators.StoreStatic f) d fits = fits.1
  operands_here l operators.StoreElement d fits = fits.1
  operands_here l (operators.Convert t) d fits = (fits.0.1, fits.1)
  operands_here l operators.Length d fits = tt
  operands_here l o d fits = tt

  returns_here : (p : Program) (b : Body) (l : Locals) (c : Completion) → Returns p b c (holds_none texts l) → Returns p b c (temp_holds_none texts l)
  returns_here p b l (completions.ReturnValue d pos) returns = λ none. (returns none).1
  returns_here p b l (completions.Break pos) returns = tt
  returns_here p b l c returns = tt

  pub fits_here : (p : Program) (b : Body) (l : Locals) (a : Action) → Fits p b a (holds_none texts l) → Fits p b a (temp_holds_none texts l)
  fits_here p b l actions.Skip fits = tt
  fits_here p b l (actions.Copy x y) fits = copy_here b l x y fits
  fits_here p b l (actions.Move x y) fits = copy_here b l x y fits
  fits_here p b l (actions.Plain x v) fits = fits
  fits_here p b l (actions.Enter clause x d k) fits = fits
  fits_here p b l (actions.Op o d n) fits = operands_here l o d fits
  fits_here p b l (actions.Put f d this) fits = λ none. (fits none).1
  fits_here p b l (actions.PutOwn f d) fits = λ none. (fits none).1
  fits_here p b l (actions.Call m d n form) fits = all_here l _ _ fits
  fits_here p b l (actions.New m d n) fits = all_here l _ _ fits
  fits_here p b l (actions.Super m d n) fits = all_here l _ _ fits
  fits_here p b l (actions.End c) fits = returns_here p b l c fits
  fits_here p b l a fits = tt

  -- ---- arguments

  taken : (l : Locals) (xs : List ParamSig) (d k : ℕ) (x : ParamSig) → TakesAll xs d (temp_holds_none texts l) → slice_get xs k ≡ Some x → NoObject (Some x.vtype) → temp_holds_none texts l (d + k)
  taken l [] d zero x takes at none = absurd (let never : None ≡ Some x = at in cc)
  taken l [] d (suc k) x takes at none = absurd (let never : None ≡ Some x = at in cc)
  taken l (y ∷ xs) d zero x takes at none =
      let same : y ≡ x = (let both : Some y ≡ Some x = at in cc) in
      subst (temp_holds_none texts l) (let here : d ≡ d + 0 = omega arith in here) (takes.0 (subst (λ (z : ParamSig). NoObject (Some z.vtype)) (sym same) none))
  taken l (y ∷ xs) d (suc k) x takes at none = subst (temp_holds_none texts l) (let here : d + 1 + k ≡ d + suc k = omega arith in here) (taken l xs (d + 1) k x takes.1 at none)

  temp_none : (l : Locals) (d n k : ℕ) → temp_holds_none texts l (d + k) → IsNoObjectBut texts (temp_in l (temp_at d n k))
  temp_none l d n k none = go (nat_lt k n && nat_le (d + k) 4294967295)
    where
      go : (t : Bool) → IsNoObjectBut texts (temp_in l (if t then Some (d + k) else None))
      go true = none
      go false = refl

  next_temp : (l : Locals) (d n k : ℕ) → temp_holds_none texts l (d + 1 + k) → IsNoObjectBut texts (temp_in l (temp_at d n (suc k)))
  next_temp l d n k none = temp_none l d n (suc k) (subst (temp_holds_none texts l) (let here : d + 1 + k ≡ d + suc k = omega arith in here) none)

  no_method : (m : MethodId) → ◌≡◌ {A = Option MethodId} None (Some m) → ⊥
  no_method m is = cc

  same_method : (m named : MethodId) → ◌≡◌ {A = Option MethodId} (Some m) (Some named) → m ≡ named
  same_method m named is = cc

  module _ (p : Program) (b : Body) (l : Locals) (named : MethodId) (k : ℕ) (x : ParamSig) (at : slice_get (params_of (method_at p named)) k ≡ Some x) (none : NoObject (Some x.vtype)) where
    given : (m : MethodId) (d : ℕ) → ◌≡◌ {A = Option MethodId} (Some m) (Some named) → TakesAll (params_of (method_at p m)) d (temp_holds_none texts l) → temp_holds_none texts l (d + k)
    given m d is takes = taken l (params_of (method_at p named)) d k x (subst (λ (j : MethodId). TakesAll (params_of (method_at p j)) d (temp_holds_none texts l)) (same_method m named is) takes) at none

    operand_none : (a : Action) → Fits p b a (temp_holds_none texts l) → called_method a ≡ Some named → IsNoObjectBut texts (temp_in l (operand_at a (suc k)))
    operand_none actions.Skip fits is = absurd (no_method named is)
    operand_none (actions.Call m d n forms.Static) fits is = temp_none l d n k (given m d is fits)
    operand_none (actions.Call m d n forms.This) fits is = next_temp l d n k (given m (d + 1) is fits)
    operand_none (actions.Call m d n forms.Super) fits is = next_temp l d n k (given m (d + 1) is fits)
    operand_none (actions.Call m d n forms.Other) fits is = next_temp l d n k (given m (d + 1) is fits)
    operand_none (actions.New m d n) fits is = temp_none l (d + 1) n k (given m (d + 1) is fits)
    operand_none (actions.Super m d n) fits is = next_temp l d n k (given m (d + 1) is fits)
    operand_none a fits is = absurd (no_method named is)

    pub argument_none : (a : Action) → Fits p b a (temp_holds_none texts l) → called_method a ≡ Some named → IsNoObjectBut texts (operand_of l a (suc k))
    argument_none a fits is = go (nat_lt (suc k) 4294967296)
      where
        go : (t : Bool) → IsNoObjectBut texts (temp_in l (if t then operand_at a (suc k) else None))
        go true = operand_none a fits is
        go false = refl

  -- ---- results

  default_none : (t : VType) → IsNoObjectBut texts (default_of t)
  default_none (types.Primitive k) = refl
  default_none types.Str = refl
  default_none (types.Arr e) = refl
  default_none (types.Obj c) = refl
  default_none types.NullType = refl

  default_result_none : (t : Option VType) → IsNoObjectBut texts (default_result t)
  default_result_none None = refl
  default_result_none (Some t) = default_none t

  no_value : (v : Value) → ◌≡◌ {A = Option Value} (Some v) None → ⊥
  no_value v is = cc

  -- the value that a frame gives as it ends normally
  pub result_none : (p : Program) (b : Body) (l : Locals) (m : Option Method) (q : Completion) → Returns p b q (temp_holds_none texts l) → thrown_in l q ≡ None → NoObject (result_of (method_at p b.method)) → IsNoObjectBut texts (result_value l m q)
  result_none p b l m (completions.ReturnValue d pos) returns normal none = returns none
  result_none p b l m (completions.Return pos) returns normal none = default_result_none (result_in m)
  result_none p b l m (completions.Throw d t pos) returns normal none = absurd (no_value (temp_value l d) normal)
  result_none p b l m (completions.Break pos) returns normal none = refl
  result_none p b l m (completions.Continue pos) returns normal none = refl
