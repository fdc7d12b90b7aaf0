-- What the variables of a frame hold after a step.
use Rattle.std.proofs.Common.{◌≡◌, ◌∙◌, ap, refl, sym, subst, arith, ℕ, ◌<◌, ◌≤◌, Bool, true, false, ◌&&◌, Option, Some, None, List, length, map, min, inl, inr, if◌then◌else◌, eqb-true}
use Rattle.std.specs.Prelude.{nat_eq, slice_get}
use Rattle.std.specs.List.{range_with_len}
use Rattle.std.proofs.lemmas.Bool.{cases_lt}
use Rattle.std.proofs.lemmas.Option.{slice_get-get_or, slice_get_past}
use Rattle.std.proofs.lemmas.List.FromFn.{get_or-map-range_with_len, length-map-range_with_len}
use Rattle.program_model.specs.declared.kinds.ClassId.{ClassId}
use Rattle.program_model.specs.declared.kinds.FieldId.{FieldId}
use Rattle.program_model.specs.declared.kinds.MethodId.{MethodId}
use Rattle.program_model.specs.declared.program.Program.{Program}
use Rattle.program_model.specs.declared.tree.Body.{Body}
use Rattle.program_model.specs.Lookups.{variable_type}
use Rattle.java_control.specs.Calls.{is_reset_of_this}
use Rattle.control_actions.specs.declared.action.Action.{Action}
use Rattle.control_actions.specs.declared.action.Action.TheVariants as actions
use Rattle.control_actions.specs.declared.action.Edge.{Edge}
use Rattle.control_actions.specs.declared.action.Edge.TheVariants as edges
use Rattle.control_actions.specs.declared.action.PlainValue.{PlainValue}
use Rattle.control_actions.specs.declared.action.Scope.{Scope}
use Rattle.control_actions.specs.declared.place.Place.{Place}
use Rattle.control_actions.specs.declared.place.Place.TheVariants as places
use Rattle.java_control.specs.Scopes.{is_dropped}
use Rattle.java_control.specs.Sources.{emptied, is_null_pointer, is_place, is_throws, put_source, source, source_or_itself}
use Rattle.ledger_state.specs.Contents.{HeapContents}
use Rattle.ledger_state.specs.Values.{value_or_nothing}
use Rattle.ledger_state.specs.declared.locals.Locals.{Locals}
use Rattle.ledger_state.specs.declared.value.Value.{Value}
use Rattle.ledger_state.specs.declared.value.Value.TheVariants as values
use Rattle.ledger_moves.specs.Choosing.{method_body}
use Rattle.ledger_moves.specs.LedgerFramesFrames.{is_made, locals_after, source_by, sourced, value_after}
use Rattle.dispatch_laws.specs.ClassOperands.{CopyFits, Fits, OfClass}
use Rattle.value_laws.specs.Values.{FitsClass, temp_fits_class}
use Rattle.value_laws.specs.ClassValues.{VariablesFitClass}

-- ---- values by number

value_in : (f : ℕ → Value) (n i : ℕ) → i < n → value_or_nothing (slice_get (map f (range_with_len 0 n)) i) ≡ f i
value_in f n i inside =
    let all : List Value = map f (range_with_len 0 n) in
    let long : length all ≡ n = length-map-range_with_len f 0 n in
    let there : i < length all = subst (λ (k : ℕ). i < k) (sym long) inside in
    ap value_or_nothing (slice_get-get_or all i values.Nothing there) ∙ get_or-map-range_with_len f 0 n i i values.Nothing inside (omega arith)

nothing_past : (f : ℕ → Value) (n i : ℕ) → n ≤ i → value_or_nothing (slice_get (map f (range_with_len 0 n)) i) ≡ values.Nothing
nothing_past f n i past =
    let all : List Value = map f (range_with_len 0 n) in
    let long : length all ≡ n = length-map-range_with_len f 0 n in
    ap value_or_nothing (slice_get_past all i (omega (arith, past, long)))

mapped_none : (p : Program) (bound : ClassId) (K : HeapContents) (f : ℕ → Value) (n i : ℕ) → FitsClass p bound K (f i) → FitsClass p bound K (value_or_nothing (slice_get (map f (range_with_len 0 n)) i))
mapped_none p bound K f n i none = elim (cases_lt i n) [
  | inl inside ↦ subst (FitsClass p bound K) (sym (value_in f n i inside)) none
  | inr past ↦ subst (FitsClass p bound K) (sym (nothing_past f n i past)) tt
]

-- ---- sources

-- what a step makes for a variable of a type under the class is an object of the class or null, and so is what a catch clause's variable of such a type takes;
-- `K` is the heap
abbrev pub SetsClass : Program → ClassId → HeapContents → Body → Locals → Action → Value → Type 0
SetsClass p bound K b l (actions.Plain (places.Var x) w) v = OfClass p bound (variable_type b x) → FitsClass p bound K v
SetsClass p bound K b l (actions.Enter clause x d k) v = OfClass p bound (variable_type b x) → temp_fits_class p bound K l k
SetsClass p bound K b l a v = Unit {0}

module _ (p : Program) (bound : ClassId) (K h : HeapContents) (m : MethodId) (b : Body) (l : Locals) (v : Value) (i : ℕ) (kind : OfClass p bound (variable_type b i)) (variables : VariablesFitClass p bound K b l) where
  abbrev Holds : Action → Option Place → Type 0
  Holds a o = FitsClass p bound K (sourced p h m l a v (places.Var i) o)

  stays : (a : Action) → Holds a (Some (places.Var i))
  stays a = variables i kind

  -- nothing but a value that is set is made for a variable
  unless_made : (t : Bool) → FitsClass p bound K v → FitsClass p bound K (if t then v else values.Nothing)
  unless_made true none = none
  unless_made false none = tt

  not_both : (a : Action) (t : Bool) → Holds a (emptied (t && false) (places.Var i))
  not_both a true = stays a
  not_both a false = stays a

  takes_in : (a : Action) (x d : ℕ) (t : Bool) → (t ≡ true → x ≡ i) → (OfClass p bound (variable_type b x) → temp_fits_class p bound K l d) → Holds a (source_or_itself t (places.Temp d) (places.Var i))
  takes_in a x d true same fits = fits (subst (λ (k : ℕ). OfClass p bound (variable_type b k)) (sym (same refl)) kind)
  takes_in a x d false same fits = stays a

  copy_none : (to from : Place) → CopyFits p bound b to from (temp_fits_class p bound K l) → Holds (actions.Copy to from) (source_or_itself (is_place to (places.Var i)) from (places.Var i))
  copy_none (places.Temp d) from fits = stays (actions.Copy (places.Temp d) from)
  copy_none (places.Var x) (places.Temp d) fits = takes_in (actions.Copy (places.Var x) (places.Temp d)) x d (nat_eq x i) (eqb-true x i) fits
  copy_none (places.Var x) places.This fits = absurd fits
  copy_none (places.Var x) from fits = absurd fits
  copy_none places.This from fits = absurd fits
  copy_none to from fits = absurd fits

  -- what is moved away leaves nothing
  moved_away : (to from : Place) (t : Bool) (o : Option Place) → Holds (actions.Move to from) o → Holds (actions.Move to from) (if t then None else o)
  moved_away to from true o none = tt
  moved_away to from false o none = none

  move_none : (to from : Place) → CopyFits p bound b to from (temp_fits_class p bound K l) → Holds (actions.Move to from) (if is_place from (places.Var i) then None else source_or_itself (is_place to (places.Var i)) from (places.Var i))
  move_none (places.Temp d) from fits = moved_away (places.Temp d) from (is_place from (places.Var i)) (Some (places.Var i)) (stays (actions.Move (places.Temp d) from))
  move_none (places.Var x) (places.Temp d) fits = takes_in (actions.Move (places.Var x) (places.Temp d)) x d (nat_eq x i) (eqb-true x i) fits
  move_none (places.Var x) places.This fits = absurd fits
  move_none (places.Var x) from fits = absurd fits
  move_none places.This from fits = absurd fits
  move_none to from fits = absurd fits

  made_none : (x : Place) (w : PlainValue) → SetsClass p bound K b l (actions.Plain x w) v → Holds (actions.Plain x w) (emptied (is_place x (places.Var i)) (places.Var i))
  made_none (places.Var x) w sets = go (nat_eq x i) (eqb-true x i)
    where
      go : (t : Bool) → (t ≡ true → x ≡ i) → Holds (actions.Plain (places.Var x) w) (emptied t (places.Var i))
      go true same = unless_made (is_made (Some (places.Var x)) (places.Var i)) (sets (subst (λ (j : ℕ). OfClass p bound (variable_type b j)) (sym (same refl)) kind))
      go false same = stays (actions.Plain (places.Var x) w)
  made_none (places.Temp d) w sets = stays (actions.Plain (places.Temp d) w)
  made_none x w sets = stays (actions.Plain x w)

  drops : (s : Scope) (t : Bool) → Holds (actions.Drop s) (emptied t (places.Var i))
  drops s true = tt
  drops s false = stays (actions.Drop s)

  catch_none : (a : Action) (x k : ℕ) (t : Bool) → (t ≡ true → x ≡ i) → (OfClass p bound (variable_type b x) → temp_fits_class p bound K l k) → Holds a (if t then Some (places.Temp k) else Some (places.Var i))
  catch_none a x k true same caught = caught (subst (λ (j : ℕ). OfClass p bound (variable_type b j)) (sym (same refl)) kind)
  catch_none a x k false same caught = stays a

  put_stays : (f : FieldId) (d : ℕ) (this : Bool) (e : Edge) → Holds (actions.Put f d this) (put_source d e (places.Var i))
  put_stays f d this (edges.Throws c) = stays (actions.Put f d this)
  put_stays f d this edges.Go = stays (actions.Put f d this)
  put_stays f d this e = stays (actions.Put f d this)

  source_none : (a : Action) (e : Edge) → Fits p bound b a (temp_fits_class p bound K l) → SetsClass p bound K b l a v → Holds a (source p b a e (places.Var i))
  source_none actions.Skip e fits sets = stays actions.Skip
  source_none (actions.Copy to from) e fits sets = copy_none to from fits
  source_none (actions.Move to from) e fits sets = move_none to from fits
  source_none (actions.Plain x w) e fits sets = made_none x w sets
  source_none (actions.Drop s) e fits sets = drops s (is_dropped b s (places.Var i))
  source_none (actions.Settle d c) e fits sets = stays (actions.Settle d c)
  source_none (actions.Enter clause x d k) e fits sets = catch_none (actions.Enter clause x d k) x k (nat_eq x i) (eqb-true x i) sets
  source_none (actions.Test d) e fits sets = stays (actions.Test d)
  source_none (actions.Op k d n) e fits sets = stays (actions.Op k d n)
  source_none (actions.Get f d this) e fits sets = stays (actions.Get f d this)
  source_none (actions.Put f d this) e fits sets = put_stays f d this e
  source_none (actions.Cast t d) e fits sets = not_both (actions.Cast t d) (is_throws e)
  source_none (actions.PutOwn f d) e fits sets = stays (actions.PutOwn f d)
  source_none (actions.Call k d n form) e fits sets = not_both (actions.Call k d n form) (is_reset_of_this p (actions.Call k d n form))
  source_none (actions.New k d n) e fits sets = stays (actions.New k d n)
  source_none (actions.Super k d n) e fits sets = stays (actions.Super k d n)
  source_none (actions.Raise d c) e fits sets = not_both (actions.Raise d c) (is_null_pointer p e)
  source_none (actions.End c) e fits sets = stays (actions.End c)

-- ---- the law

-- where a variable is of a type under the class, its value is an object of the class or null after a step
pub variables_after : (p : Program) (bound : ClassId) (K h : HeapContents) (m : MethodId) (b : Body) (l : Locals) (v : Value) (a : Action) (e : Edge) → method_body p m ≡ Some b → Fits p bound b a (temp_fits_class p bound K l) → SetsClass p bound K b l a v
    → VariablesFitClass p bound K b l → VariablesFitClass p bound K b (locals_after p h m l a e v)
variables_after p bound K h m b l v a e body fits sets variables i kind =
    mapped_none p bound K (λ j. value_after p h m l a e v (places.Var j)) (min (length l.variables) 4294967296) i
    (subst (λ (y : Option Body). FitsClass p bound K (sourced p h m l a v (places.Var i) (source_by p y a e (places.Var i)))) (sym body) (source_none p bound K h m b l v i kind variables a e fits sets))
