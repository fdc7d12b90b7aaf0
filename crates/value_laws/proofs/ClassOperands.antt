-- The operands of an action that finds the values that it asks.
use Rattle.std.proofs.Common.{◌≡◌, sym, subst, arith, ℕ, zero, suc, ◌+◌, ◌<◌, Bool, true, false, ◌&&◌, Option, Some, None, List, [], ◌∷◌, if◌then◌else◌, inl, inr}
use Rattle.std.specs.Prelude.{nat_le, nat_lt, slice_get}
use Rattle.program_model.specs.declared.kinds.ClassId.{ClassId}
use Rattle.program_model.specs.declared.kinds.FieldId.{FieldId}
use Rattle.program_model.specs.declared.kinds.MethodId.{MethodId}
use Rattle.program_model.specs.declared.kinds.VType.{VType}
use Rattle.program_model.specs.declared.kinds.VType.TheVariants as types
use Rattle.program_model.specs.declared.program.Method.{Method}
use Rattle.program_model.specs.declared.program.ParamSig.{ParamSig}
use Rattle.program_model.specs.declared.program.Program.{Program}
use Rattle.program_model.specs.declared.tree.Body.{Body}
use Rattle.program_model.specs.Lookups.{method_at}
use Rattle.java_control.specs.Calls.{called_method, operand_at, temp_at}
use Rattle.java_control.specs.Sources.{is_throws, source}
use Rattle.control_actions.specs.declared.action.Action.{Action}
use Rattle.control_actions.specs.declared.action.Action.TheVariants as actions
use Rattle.control_actions.specs.declared.action.Completion.{Completion}
use Rattle.control_actions.specs.declared.action.Completion.TheVariants as completions
use Rattle.control_actions.specs.declared.action.Edge.{Edge}
use Rattle.control_actions.specs.declared.action.Edge.TheVariants as edges
use Rattle.control_actions.specs.declared.action.PlainValue.{PlainValue}
use Rattle.control_actions.specs.declared.action.Scope.{Scope}
use Rattle.control_actions.specs.declared.action.Scope.TheVariants as scopes
use Rattle.control_actions.specs.declared.action.TargetForm.{TargetForm}
use Rattle.control_actions.specs.declared.action.TargetForm.TheVariants as forms
use Rattle.control_actions.specs.declared.place.Place.{Place}
use Rattle.control_actions.specs.declared.place.Place.TheVariants as places
use Rattle.frame_laws.specs.SmallActions.{IsSmallAction}
use Rattle.ledger_state.specs.Contents.{HeapContents}
use Rattle.ledger_state.specs.declared.locals.Locals.{Locals}
use Rattle.ledger_state.specs.Locals.{temp_in, temp_value}
use Rattle.ledger_state.specs.Values.{default_of}
use Rattle.ledger_steps.specs.LedgerCallsCalls.{operand_of}
use Rattle.ledger_steps.specs.Conducts.{result_in}
use Rattle.ledger_steps.specs.Ends.{default_result, result_value, thrown_in}
use Rattle.dispatch_laws.specs.ClassOperands.{below_and_at, dropped, moved, params_of, result_of, thrown_after}
use Rattle.dispatch_laws.specs.ClassOperands.{CopyFits, Fits, GivesClass, IsOfClass, OfClass, Returns, TakesAll, TakesTarget, UpdateFits, after, copied, left_held, made_at}
use Rattle.value_laws.specs.Values.{FitsClass, temp_fits_class}
use Rattle.value_laws.specs.Origins.{ComesFromClass, MakesClass, TakesClass}
use Rattle.value_laws.specs.ClassValues.{fits_class_at}

-- ---- the temps of an action are in range

small_copied : (p : Program) (bound : ClassId) (K : HeapContents) (b : Body) (to from : Place) (l : Locals) (x : ℕ) → IsSmallAction p (actions.Copy to from) → copied p bound b to from (fits_class_at p bound K l) x → x < 64
small_copied p bound K b (places.Temp d) from l x small (inl other) = other.1.0
small_copied p bound K b (places.Temp d) from l x small (inr same) = subst (λ (n : ℕ). n < 64) (sym same.0) small.0
small_copied p bound K b (places.Var i) from l x small has = has.0
small_copied p bound K b to from l x small has = has.0

small_moved : (p : Program) (bound : ClassId) (K : HeapContents) (to from : Place) (l : Locals) (x : ℕ) → moved to from (fits_class_at p bound K l) x → x < 64
small_moved p bound K (places.Var i) (places.Temp d) l x has = has.1.0
small_moved p bound K (places.Var i) places.This l x has = absurd has
small_moved p bound K (places.Var i) from l x has = absurd has
small_moved p bound K places.This from l x has = absurd has
small_moved p bound K to from l x has = absurd has

small_dropped : (p : Program) (bound : ClassId) (K : HeapContents) (s : Scope) (l : Locals) (x : ℕ) → dropped s (fits_class_at p bound K l) x → x < 64
small_dropped p bound K (scopes.Temp d) l x has = has.1.0
small_dropped p bound K (scopes.TempsAbove d) l x has = has.1.0
small_dropped p bound K (scopes.Declared s) l x has = has.0
small_dropped p bound K (scopes.Variable y) l x has = has.0

small_at : (p : Program) (bound : ClassId) (K : HeapContents) (d : ℕ) (there : Type 0) (l : Locals) (x : ℕ) → d < 64 → below_and_at d there (fits_class_at p bound K l) x → x < 64
small_at p bound K d there l x small (inl under) = under.1.0
small_at p bound K d there l x small (inr same) = subst (λ (n : ℕ). n < 64) (sym same.0) small

small_made : (p : Program) (bound : ClassId) (K : HeapContents) (to : Place) (v : PlainValue) (l : Locals) (x : ℕ) → IsSmallAction p (actions.Plain to v) → made_at p bound to v (fits_class_at p bound K l) x → x < 64
small_made p bound K (places.Temp d) v l x small has = small_at p bound K d _ l x small has
small_made p bound K (places.Var i) v l x small has = has.0
small_made p bound K to v l x small has = has.0

small_after : (p : Program) (bound : ClassId) (K : HeapContents) (b : Body) (a : Action) (l : Locals) (x : ℕ) → IsSmallAction p a → after p bound b a (fits_class_at p bound K l) x → x < 64
small_after p bound K b actions.Skip l x small has = has.0
small_after p bound K b (actions.Copy to from) l x small has = small_copied p bound K b to from l x small has
small_after p bound K b (actions.Move to from) l x small has = small_moved p bound K to from l x has
small_after p bound K b (actions.Plain to v) l x small has = small_made p bound K to v l x small has
small_after p bound K b (actions.Drop s) l x small has = small_dropped p bound K s l x has
small_after p bound K b (actions.Settle d c) l x small has = small_at p bound K d _ l x small.0 has
small_after p bound K b (actions.Enter clause y d k) l x small has = has.1.0
small_after p bound K b (actions.Test d) l x small has = has.1.0
small_after p bound K b (actions.Op k d n) l x small has = small_at p bound K d _ l x small.0 has
small_after p bound K b (actions.Get f d this) l x small has = small_at p bound K d _ l x small has
small_after p bound K b (actions.Put f d this) l x small has = small_at p bound K d _ l x (let low : d < 64 = omega (arith, small) in low) has
small_after p bound K b (actions.Cast t d) l x small has = small_at p bound K d _ l x small has
small_after p bound K b (actions.PutOwn f d) l x small has = has.0
small_after p bound K b (actions.Call m d n form) l x small has = small_at p bound K d _ l x small.0 has
small_after p bound K b (actions.New m d n) l x small has = small_at p bound K d _ l x (let low : d < 64 = omega (arith, small) in low) has
small_after p bound K b (actions.Super m d n) l x small has = has.1.0
small_after p bound K b (actions.Raise d c) l x small has = has.1.0
small_after p bound K b (actions.End c) l x small has = has.0

small_thrown : (p : Program) (bound : ClassId) (K : HeapContents) (a : Action) (l : Locals) (x : ℕ) → thrown_after a (fits_class_at p bound K l) x → x < 64
small_thrown p bound K (actions.Op k d n) l x has = has.1.0
small_thrown p bound K (actions.Get f d this) l x has = has.1.0
small_thrown p bound K (actions.Put f d this) l x has = has.1.0
small_thrown p bound K (actions.Cast t d) l x has = has.1.0
small_thrown p bound K (actions.Call m d n form) l x has = has.1.0
small_thrown p bound K (actions.New m d n) l x has = has.1.0
small_thrown p bound K (actions.Super m d n) l x has = has.1.0
small_thrown p bound K (actions.Raise d c) l x has = has.1.0
small_thrown p bound K actions.Skip l x has = absurd has
small_thrown p bound K a l x has = absurd has

-- a temp that is known to hold an object of the class or null after a step is in range
pub small_left : (p : Program) (bound : ClassId) (K : HeapContents) (b : Body) (a : Action) (e : Edge) (l : Locals) (x : ℕ) → IsSmallAction p a → left_held p bound b a e (fits_class_at p bound K l) x → x < 64
small_left p bound K b a (edges.Throws c) l x small has = small_thrown p bound K a l x has
small_left p bound K b a edges.Go l x small has = small_after p bound K b a l x small has
small_left p bound K b a e l x small has = small_after p bound K b a l x small has

-- ---- what is known of temps in range holds of them

gives_here : (p : Program) (bound : ClassId) (K : HeapContents) (b : Body) (l : Locals) (y : Place) → GivesClass p bound b y (fits_class_at p bound K l) → GivesClass p bound b y (temp_fits_class p bound K l)
gives_here p bound K b l (places.Var x) gives = gives
gives_here p bound K b l (places.Field k) gives = gives
gives_here p bound K b l (places.Temp d) gives = gives.1
gives_here p bound K b l places.This gives = gives
gives_here p bound K b l places.Super gives = gives

comes_here : (p : Program) (bound : ClassId) (K : HeapContents) (b : Body) (l : Locals) (made : Type 0) (o : Option Place) → ComesFromClass p bound b (fits_class_at p bound K l) made o → ComesFromClass p bound b (temp_fits_class p bound K l) made o
comes_here p bound K b l made None comes = comes
comes_here p bound K b l made (Some y) comes = gives_here p bound K b l y comes

pub takes_here : (p : Program) (bound : ClassId) (K : HeapContents) (b : Body) (l : Locals) (a : Action) (e : Edge) (x : ℕ) → TakesClass p bound b a e (fits_class_at p bound K l) x → TakesClass p bound b a e (temp_fits_class p bound K l) x
takes_here p bound K b l a e x (inl comes) = inl (comes_here p bound K b l ((is_throws e ≡ false) × MakesClass p bound a) (source p b a e (places.Temp x)) comes)
takes_here p bound K b l a e x (inr cast) = inr cast

copy_here : (p : Program) (bound : ClassId) (K : HeapContents) (b : Body) (l : Locals) (to from : Place) → CopyFits p bound b to from (fits_class_at p bound K l) → CopyFits p bound b to from (temp_fits_class p bound K l)
copy_here p bound K b l (places.Temp d) from fits = tt
copy_here p bound K b l (places.Var x) (places.Temp d) fits = λ none. (fits none).1
copy_here p bound K b l (places.Var x) places.This fits = fits
copy_here p bound K b l (places.Var x) from fits = fits
copy_here p bound K b l places.This from fits = fits
copy_here p bound K b l to from fits = fits

all_here : (p : Program) (bound : ClassId) (K : HeapContents) (l : Locals) (xs : List ParamSig) (d : ℕ) → TakesAll p bound xs d (fits_class_at p bound K l) → TakesAll p bound xs d (temp_fits_class p bound K l)
all_here p bound K l [] d takes = tt
all_here p bound K l (x ∷ xs) d takes = (λ none. (takes.0 none).1, all_here p bound K l xs (d + 1) takes.1)

returns_here : (p : Program) (bound : ClassId) (K : HeapContents) (b : Body) (l : Locals) (c : Completion) → Returns p bound b c (fits_class_at p bound K l) → Returns p bound b c (temp_fits_class p bound K l)
returns_here p bound K b l (completions.ReturnValue d pos) returns = λ none. (returns none).1
returns_here p bound K b l (completions.Break pos) returns = tt
returns_here p bound K b l c returns = tt

target_here : (p : Program) (bound : ClassId) (K : HeapContents) (l : Locals) (form : TargetForm) (t : Option VType) (d : ℕ) → TakesTarget p bound form t d (fits_class_at p bound K l) → TakesTarget p bound form t d (temp_fits_class p bound K l)
target_here p bound K l forms.Super t d takes = λ to. (takes to).1
target_here p bound K l forms.Static t d takes = tt
target_here p bound K l form t d takes = tt

update_here : (p : Program) (bound : ClassId) (K : HeapContents) (b : Body) (l : Locals) (f : FieldId) (this : Bool) (d : ℕ) → UpdateFits p b f this d (fits_class_at p bound K l) → UpdateFits p b f this d (temp_fits_class p bound K l)
update_here p bound K b l f true d fits = λ own declared text. (fits own declared text).1
update_here p bound K b l f false d fits = tt

pub fits_here : (p : Program) (bound : ClassId) (K : HeapContents) (b : Body) (l : Locals) (a : Action) → Fits p bound b a (fits_class_at p bound K l) → Fits p bound b a (temp_fits_class p bound K l)
fits_here p bound K b l actions.Skip fits = tt
fits_here p bound K b l (actions.Copy x y) fits = copy_here p bound K b l x y fits
fits_here p bound K b l (actions.Move x y) fits = copy_here p bound K b l x y fits
fits_here p bound K b l (actions.Plain x v) fits = fits
fits_here p bound K b l (actions.Enter clause x d k) fits = fits
fits_here p bound K b l (actions.Put f d this) fits = ((λ none. (fits.0 none).1), update_here p bound K b l f this d fits.1)
fits_here p bound K b l (actions.PutOwn f d) fits = λ none. (fits none).1
fits_here p bound K b l (actions.Call m d n form) fits = (all_here p bound K l _ _ fits.0, target_here p bound K l form _ d fits.1)
fits_here p bound K b l (actions.New m d n) fits = all_here p bound K l _ _ fits
fits_here p bound K b l (actions.Super m d n) fits = (all_here p bound K l _ _ fits.0, λ to. (fits.1 to).1)
fits_here p bound K b l (actions.Raise d c) fits = λ to. (fits to).1
fits_here p bound K b l (actions.End c) fits = returns_here p bound K b l c fits
fits_here p bound K b l a fits = tt

-- ---- arguments

taken : (p : Program) (bound : ClassId) (K : HeapContents) (l : Locals) (xs : List ParamSig) (d k : ℕ) (x : ParamSig) → TakesAll p bound xs d (temp_fits_class p bound K l) → slice_get xs k ≡ Some x → OfClass p bound (Some x.vtype) → temp_fits_class p bound K l (d + k)
taken p bound K l [] d zero x takes at none = absurd (let never : None ≡ Some x = at in cc)
taken p bound K l [] d (suc k) x takes at none = absurd (let never : None ≡ Some x = at in cc)
taken p bound K l (y ∷ xs) d zero x takes at none =
    let same : y ≡ x = (let both : Some y ≡ Some x = at in cc) in
    subst (temp_fits_class p bound K l) (let here : d ≡ d + 0 = omega arith in here) (takes.0 (subst (λ (z : ParamSig). OfClass p bound (Some z.vtype)) (sym same) none))
taken p bound K l (y ∷ xs) d (suc k) x takes at none = subst (temp_fits_class p bound K l) (let here : d + 1 + k ≡ d + suc k = omega arith in here) (taken p bound K l xs (d + 1) k x takes.1 at none)

temp_none : (p : Program) (bound : ClassId) (K : HeapContents) (l : Locals) (d n k : ℕ) → temp_fits_class p bound K l (d + k) → FitsClass p bound K (temp_in l (temp_at d n k))
temp_none p bound K l d n k none = go (nat_lt k n && nat_le (d + k) 4294967295)
  where
    go : (t : Bool) → FitsClass p bound K (temp_in l (if t then Some (d + k) else None))
    go true = none
    go false = tt

next_temp : (p : Program) (bound : ClassId) (K : HeapContents) (l : Locals) (d n k : ℕ) → temp_fits_class p bound K l (d + 1 + k) → FitsClass p bound K (temp_in l (temp_at d n (suc k)))
next_temp p bound K l d n k none = temp_none p bound K l d n (suc k) (subst (temp_fits_class p bound K l) (let here : d + 1 + k ≡ d + suc k = omega arith in here) none)

no_method : (m : MethodId) → ◌≡◌ {A = Option MethodId} None (Some m) → ⊥
no_method m is = cc

same_method : (m named : MethodId) → ◌≡◌ {A = Option MethodId} (Some m) (Some named) → m ≡ named
same_method m named is = cc

module _ (p : Program) (bound : ClassId) (K : HeapContents) (b : Body) (l : Locals) (named : MethodId) (k : ℕ) (x : ParamSig) (at : slice_get (params_of (method_at p named)) k ≡ Some x) (none : OfClass p bound (Some x.vtype)) where
  given : (m : MethodId) (d : ℕ) → ◌≡◌ {A = Option MethodId} (Some m) (Some named) → TakesAll p bound (params_of (method_at p m)) d (temp_fits_class p bound K l) → temp_fits_class p bound K l (d + k)
  given m d is takes = taken p bound K l (params_of (method_at p named)) d k x (subst (λ (j : MethodId). TakesAll p bound (params_of (method_at p j)) d (temp_fits_class p bound K l)) (same_method m named is) takes) at none

  operand_none : (a : Action) → Fits p bound b a (temp_fits_class p bound K l) → called_method a ≡ Some named → FitsClass p bound K (temp_in l (operand_at a (suc k)))
  operand_none actions.Skip fits is = absurd (no_method named is)
  operand_none (actions.Call m d n forms.Static) fits is = temp_none p bound K l d n k (given m d is fits.0)
  operand_none (actions.Call m d n forms.This) fits is = next_temp p bound K l d n k (given m (d + 1) is fits.0)
  operand_none (actions.Call m d n forms.Super) fits is = next_temp p bound K l d n k (given m (d + 1) is fits.0)
  operand_none (actions.Call m d n forms.Other) fits is = next_temp p bound K l d n k (given m (d + 1) is fits.0)
  operand_none (actions.New m d n) fits is = temp_none p bound K l (d + 1) n k (given m (d + 1) is fits)
  operand_none (actions.Super m d n) fits is = next_temp p bound K l d n k (given m (d + 1) is fits.0)
  operand_none a fits is = absurd (no_method named is)

  pub argument_fits : (a : Action) → Fits p bound b a (temp_fits_class p bound K l) → called_method a ≡ Some named → FitsClass p bound K (operand_of l a (suc k))
  argument_fits a fits is = go (nat_lt (suc k) 4294967296)
    where
      go : (t : Bool) → FitsClass p bound K (temp_in l (if t then operand_at a (suc k) else None))
      go true = operand_none a fits is
      go false = tt

-- ---- results

pub default_fits : (p : Program) (bound : ClassId) (K : HeapContents) (t : VType) → IsOfClass p bound t → FitsClass p bound K (default_of t)
default_fits p bound K (types.Primitive k) to = absurd to
default_fits p bound K types.Str to = tt
default_fits p bound K (types.Arr e) to = tt
default_fits p bound K (types.Obj c) to = tt
default_fits p bound K types.NullType to = tt

default_result_fits : (p : Program) (bound : ClassId) (K : HeapContents) (m : Option Method) → OfClass p bound (result_of m) → FitsClass p bound K (default_result (result_in m))
default_result_fits p bound K None to = absurd to
default_result_fits p bound K (Some m) to = go m.sig.result to
  where
    go : (t : Option VType) → OfClass p bound t → FitsClass p bound K (default_result t)
    go None to = absurd to
    go (Some t) to = default_fits p bound K t to

-- the value that a frame gives as it ends normally
pub result_fits : (p : Program) (bound : ClassId) (K : HeapContents) (b : Body) (l : Locals) (m : Option Method) (q : Completion) → Returns p bound b q (temp_fits_class p bound K l) → thrown_in l q ≡ None
    → OfClass p bound (result_of (method_at p b.method)) → OfClass p bound (result_of m) → FitsClass p bound K (result_value l m q)
result_fits p bound K b l m (completions.ReturnValue d pos) returns none to here = returns to
result_fits p bound K b l m (completions.Return pos) returns none to here = default_result_fits p bound K m here
result_fits p bound K b l m (completions.Throw d t pos) returns none to here = absurd (let never : Some (temp_value l d) ≡ None = none in cc)
result_fits p bound K b l m (completions.Break pos) returns none to here = tt
result_fits p bound K b l m (completions.Continue pos) returns none to here = tt
