-- From where a temp takes its value that is known to hold no object after a step.
use Rattle.std.proofs.Common.{◌≡◌, ◌∙◌, ap, refl, sym, subst, arith, ℕ, ◌+◌, ◌<◌, Bool, true, false, ◌&&◌, ◌||◌, true≢false, Option, Some, None, max, min, inl, inr}
use Rattle.std.specs.Prelude.{if◌then◌else◌, nat_eq, nat_le, nat_lt}
use Rattle.std.proofs.lemmas.Bool.Decides.{nat_tests}
use Rattle.program_model.specs.declared.kinds.ClassId.{ClassId}
use Rattle.program_model.specs.declared.kinds.FieldId.{FieldId}
use Rattle.program_model.specs.declared.program.Program.{Program}
use Rattle.program_model.specs.declared.tree.Body.{Body}
use Rattle.control_actions.specs.declared.action.Action.{Action}
use Rattle.control_actions.specs.declared.action.Action.TheVariants as actions
use Rattle.control_actions.specs.declared.action.Completion.{Completion}
use Rattle.control_actions.specs.declared.action.Completion.TheVariants as completions
use Rattle.control_actions.specs.declared.action.Edge.{Edge}
use Rattle.control_actions.specs.declared.action.Edge.TheVariants as edges
use Rattle.control_actions.specs.declared.action.Scope.{Scope}
use Rattle.control_actions.specs.declared.action.Scope.TheVariants as scopes
use Rattle.control_actions.specs.declared.place.Place.{Place}
use Rattle.control_actions.specs.declared.place.Place.TheVariants as places
use Rattle.java_control.specs.Calls.{completion_temp, is_reset_of_this}
use Rattle.java_control.specs.Sources.{emptied, is_null_pointer, is_temp_among, is_throws, next_depth, source, source_or_itself, temp_of}
use Rattle.step_laws.specs.Operands.{GivesNone, GivesNoneAt, after, below_and_at, copied, dropped, left_held, moved, thrown_after}
use Rattle.step_laws.specs.Origins.{ComesFromNone, MakesNone, TakesNone}

-- ---- tests of depths

above : (d x : ℕ) → x < d → nat_eq d x ≡ false
above d x under = grind (arith, nat_tests)

apart : (d x : ℕ) → (x ≡ d → ⊥) → nat_eq d x ≡ false
apart d x other = grind (arith, nat_tests, other)

itself : (d x : ℕ) → x ≡ d → nat_eq d x ≡ true
itself d x same = grind (arith, nat_tests)

not_from : (d x : ℕ) → x < d → nat_le d x ≡ false
not_from d x under = grind (arith, nat_tests)

not_past : (d x : ℕ) → x < d → nat_lt d x ≡ false
not_past d x under = grind (arith, nat_tests)

first_among : (d n x : ℕ) → x ≡ d → 0 < n → is_temp_among d n (places.Temp x) ≡ true
first_among d n x same some = grind (arith, nat_tests)

some_operand : (n : ℕ) → 0 < max n 1
some_operand n = omega arith

apart_from_next : (d x : ℕ) → x < 64 → x < d → nat_eq (next_depth d) x ≡ false
apart_from_next d x small under = above (min (d + 1) 4294967295) x (omega (arith, small, under))

next_is : (d x : ℕ) → x < 64 → x ≡ d → next_depth d ≡ d + 1
next_is d x small same = omega (arith, small, same)

-- ---- sources

stays_unless : (t : Bool) (q : Place) → t ≡ false → emptied t q ≡ Some q
stays_unless true q is = absurd (true≢false is)
stays_unless false q is = refl

gone_where : (t : Bool) (q : Place) → t ≡ true → emptied t q ≡ None
gone_where true q is = refl
gone_where false q is = absurd (true≢false (sym is))

takes_unless : (t : Bool) (y q : Place) → t ≡ false → source_or_itself t y q ≡ Some q
takes_unless true y q is = absurd (true≢false is)
takes_unless false y q is = refl

takes_where : (t : Bool) (y q : Place) → t ≡ true → source_or_itself t y q ≡ Some y
takes_where true y q is = refl
takes_where false y q is = absurd (true≢false (sym is))

neither : (t u : Bool) (y : Option Place) (q : Place) → t ≡ false → u ≡ false → (if t then y else emptied u q) ≡ Some q
neither true u y q first second = absurd (true≢false first)
neither false u y q first second = stays_unless u q second

first_of : (t u : Bool) (y : Option Place) (q : Place) → t ≡ true → (if t then y else emptied u q) ≡ y
first_of true u y q is = refl
first_of false u y q is = absurd (true≢false (sym is))

not_both : (t u : Bool) → u ≡ false → (t && u) ≡ false
not_both true u is = is
not_both false u is = refl

not_first : (t u : Bool) → t ≡ false → (t && u) ≡ false
not_first true u is = absurd (true≢false is)
not_first false u is = refl

not_either : (t u : Bool) → t ≡ false → u ≡ false → (t || u) ≡ false
not_either true u first second = absurd (true≢false first)
not_either false u first second = second

either_first : (t u : Bool) → t ≡ true → (t || u) ≡ true
either_first true u is = refl
either_first false u is = absurd (true≢false (sym is))

not_among : (d n x : ℕ) → x < d → is_temp_among d n (places.Temp x) ≡ false
not_among d n x under = not_first (nat_le d x) (nat_lt x (d + n)) (not_from d x under)

module _ (p : Program) (b : Body) (held : ℕ → Type 0) (x : ℕ) (small : x < 64) where
  kept : (a : Action) (e : Edge) → source p b a e (places.Temp x) ≡ Some (places.Temp x) → held x → TakesNone p b a e held x
  kept a e is has = inl (subst (ComesFromNone p b held ((is_throws e ≡ false) × MakesNone p a)) (sym is) has)

  given : (a : Action) (e : Edge) (y : Place) → source p b a e (places.Temp x) ≡ Some y → GivesNone p b y held → TakesNone p b a e held x
  given a e y is has = inl (subst (ComesFromNone p b held ((is_throws e ≡ false) × MakesNone p a)) (sym is) has)

  made : (a : Action) (e : Edge) → source p b a e (places.Temp x) ≡ None → is_throws e ≡ false → MakesNone p a → TakesNone p b a e held x
  made a e is goes makes = inl (subst (ComesFromNone p b held ((is_throws e ≡ false) × MakesNone p a)) (sym is) (goes, makes))

  -- ---- temps below the action's

  op_stays : (d n : ℕ) → x < d → emptied (is_temp_among d n (places.Temp x)) (places.Temp x) ≡ Some (places.Temp x)
  op_stays d n under = stays_unless (is_temp_among d n (places.Temp x)) (places.Temp x) (not_among d n x under)

  call_stays : (a : Action) (d n : ℕ) → x < d → emptied (is_temp_among d (max n 1) (places.Temp x) || is_reset_of_this p a && false) (places.Temp x) ≡ Some (places.Temp x)
  call_stays a d n under =
      stays_unless (is_temp_among d (max n 1) (places.Temp x) || is_reset_of_this p a && false) (places.Temp x)
      (not_either (is_temp_among d (max n 1) (places.Temp x)) (is_reset_of_this p a && false) (not_among d (max n 1) x under) (not_both (is_reset_of_this p a) false refl))

  call_gone : (a : Action) (d n : ℕ) → x ≡ d → emptied (is_temp_among d (max n 1) (places.Temp x) || is_reset_of_this p a && false) (places.Temp x) ≡ None
  call_gone a d n same =
      gone_where (is_temp_among d (max n 1) (places.Temp x) || is_reset_of_this p a && false) (places.Temp x)
      (either_first (is_temp_among d (max n 1) (places.Temp x)) (is_reset_of_this p a && false) (first_among d (max n 1) x same (some_operand n)))

  -- ---- an action that throws

  thrown : (a : Action) (c : ClassId) → thrown_after a held x → TakesNone p b a (edges.Throws c) held x
  thrown (actions.Op k d n) c has = kept (actions.Op k d n) (edges.Throws c) (op_stays d (max n 1) has.0) has.1
  thrown (actions.Get f d this) c has = kept (actions.Get f d this) (edges.Throws c) (stays_unless (nat_eq d x) (places.Temp x) (above d x has.0)) has.1
  thrown (actions.Put f d this) c has = kept (actions.Put f d this) (edges.Throws c) (op_stays d 2 has.0) has.1
  thrown (actions.Cast t d) c has = kept (actions.Cast t d) (edges.Throws c) (stays_unless (true && nat_eq d x) (places.Temp x) (not_both true (nat_eq d x) (above d x has.0))) has.1
  thrown (actions.Call m d n form) c has = kept (actions.Call m d n form) (edges.Throws c) (call_stays (actions.Call m d n form) d n has.0) has.1
  thrown (actions.New m d n) c has = kept (actions.New m d n) (edges.Throws c) (op_stays d (n + 1) has.0) has.1
  thrown (actions.Super m d n) c has = kept (actions.Super m d n) (edges.Throws c) (op_stays d (max n 1) has.0) has.1
  thrown (actions.Raise d t) c has =
      kept (actions.Raise d t) (edges.Throws c) (stays_unless (is_null_pointer p (edges.Throws c) && nat_eq d x) (places.Temp x) (not_both (is_null_pointer p (edges.Throws c)) (nat_eq d x) (above d x has.0))) has.1
  thrown actions.Skip c has = absurd has
  thrown a c has = absurd has

  -- ---- an action that goes on

  copy_goes : (to from : Place) (e : Edge) → copied p b to from held x → TakesNone p b (actions.Copy to from) e held x
  copy_goes (places.Temp d) y e (inl other) = kept (actions.Copy (places.Temp d) y) e (takes_unless (nat_eq d x) y (places.Temp x) (apart d x other.0)) other.1
  copy_goes (places.Temp d) y e (inr same) = given (actions.Copy (places.Temp d) y) e y (takes_where (nat_eq d x) y (places.Temp x) (itself d x same.0)) same.1
  copy_goes (places.Var i) y e has = kept (actions.Copy (places.Var i) y) e refl has
  copy_goes to y e has = kept (actions.Copy to y) e refl has

  move_goes : (to from : Place) (e : Edge) → moved to from held x → TakesNone p b (actions.Move to from) e held x
  move_goes (places.Var i) (places.Temp d) e has = kept (actions.Move (places.Var i) (places.Temp d)) e (moves (nat_eq d x) (above d x has.0)) has.1
    where
      moves : (t : Bool) → t ≡ false → (if t then None else Some (places.Temp x)) ≡ Some (places.Temp x)
      moves true is = absurd (true≢false is)
      moves false is = refl
  move_goes (places.Var i) places.This e has = absurd has
  move_goes (places.Var i) y e has = absurd has
  move_goes places.This y e has = absurd has
  move_goes to y e has = absurd has

  drop_goes : (s : Scope) (e : Edge) → dropped s held x → TakesNone p b (actions.Drop s) e held x
  drop_goes (scopes.Temp d) e has = kept (actions.Drop (scopes.Temp d)) e (stays_unless (nat_eq d x) (places.Temp x) (above d x has.0)) has.1
  drop_goes (scopes.TempsAbove d) e has = kept (actions.Drop (scopes.TempsAbove d)) e (stays_unless (nat_lt d x) (places.Temp x) (not_past d x has.0)) has.1
  drop_goes (scopes.Declared s) e has = kept (actions.Drop (scopes.Declared s)) e refl has
  drop_goes (scopes.Variable y) e has = kept (actions.Drop (scopes.Variable y)) e refl has

  settles_at : (c : Completion) (d : ℕ) (e : Edge) → x ≡ d → GivesNoneAt c held → TakesNone p b (actions.Settle d c) e held x
  settles_at (completions.ReturnValue k pos) d e same gives =
      given (actions.Settle d (completions.ReturnValue k pos)) e (places.Temp k) (first_of (nat_eq d x) (nat_le d x) (Some (places.Temp k)) (places.Temp x) (itself d x same)) gives
  settles_at (completions.Break pos) d e same gives = absurd gives
  settles_at c d e same gives = absurd gives

  stored : (d : ℕ) → x < d → (if nat_eq d x then Some (places.Temp (next_depth d)) else emptied (nat_eq (next_depth d) x) (places.Temp x)) ≡ Some (places.Temp x)
  stored d under = neither (nat_eq d x) (nat_eq (next_depth d) x) (Some (places.Temp (next_depth d))) (places.Temp x) (above d x under) (apart_from_next d x small under)

  stored_here : (d : ℕ) → x ≡ d → (if nat_eq d x then Some (places.Temp (next_depth d)) else emptied (nat_eq (next_depth d) x) (places.Temp x)) ≡ Some (places.Temp (d + 1))
  stored_here d same =
      first_of (nat_eq d x) (nat_eq (next_depth d) x) (Some (places.Temp (next_depth d))) (places.Temp x) (itself d x same) ∙ ap (λ (n : ℕ). Some (places.Temp n)) (next_is d x small same)

  put_by : (f : FieldId) (d : ℕ) (this : Bool) (e : Edge) → source p b (actions.Put f d this) e (places.Temp x) ≡ (if nat_eq d x then Some (places.Temp (next_depth d)) else emptied (nat_eq (next_depth d) x) (places.Temp x))
      → below_and_at d (held (d + 1)) held x → TakesNone p b (actions.Put f d this) e held x
  put_by f d this e is (inl under) = kept (actions.Put f d this) e (is ∙ stored d under.0) under.1
  put_by f d this e is (inr same) = given (actions.Put f d this) e (places.Temp (d + 1)) (is ∙ stored_here d same.0) same.1

  abbrev PutSource : Action → Edge → Type 0
  PutSource (actions.Put f d this) e = source p b (actions.Put f d this) e (places.Temp x) ≡ (if nat_eq d x then Some (places.Temp (next_depth d)) else emptied (nat_eq (next_depth d) x) (places.Temp x))
  PutSource a e = Unit {0}

  -- `e` is no exception's edge
  goes : (a : Action) (e : Edge) → is_throws e ≡ false → PutSource a e → after p b a held x → TakesNone p b a e held x
  goes actions.Skip e none other has = kept actions.Skip e refl has
  goes (actions.Copy to from) e none other has = copy_goes to from e has
  goes (actions.Move to from) e none other has = move_goes to from e has
  goes (actions.Plain (places.Temp d) v) e none other (inl under) = kept (actions.Plain (places.Temp d) v) e (stays_unless (nat_eq d x) (places.Temp x) (above d x under.0)) under.1
  goes (actions.Plain (places.Temp d) v) e none other (inr same) = made (actions.Plain (places.Temp d) v) e (gone_where (nat_eq d x) (places.Temp x) (itself d x same.0)) none same.1
  goes (actions.Plain (places.Var i) v) e none other has = kept (actions.Plain (places.Var i) v) e refl has
  goes (actions.Plain y v) e none other has = kept (actions.Plain y v) e refl has
  goes (actions.Drop s) e none other has = drop_goes s e has
  goes (actions.Settle d c) e none other (inl under) =
      kept (actions.Settle d c) e (neither (nat_eq d x) (nat_le d x) (temp_of (completion_temp c)) (places.Temp x) (above d x under.0) (not_from d x under.0)) under.1
  goes (actions.Settle d c) e none other (inr same) = settles_at c d e same.0 same.1
  goes (actions.Enter clause y d k) e none other has = kept (actions.Enter clause y d k) e (stays_unless (nat_le d x) (places.Temp x) (not_from d x has.0)) has.1
  goes (actions.Test d) e none other has = kept (actions.Test d) e (stays_unless (nat_eq d x) (places.Temp x) (above d x has.0)) has.1
  goes (actions.Op k d n) e none other (inl under) = kept (actions.Op k d n) e (op_stays d (max n 1) under.0) under.1
  goes (actions.Op k d n) e none other (inr same) =
      made (actions.Op k d n) e (gone_where (is_temp_among d (max n 1) (places.Temp x)) (places.Temp x) (first_among d (max n 1) x same.0 (some_operand n))) none tt
  goes (actions.Get f d this) e none other (inl under) = kept (actions.Get f d this) e (stays_unless (nat_eq d x) (places.Temp x) (above d x under.0)) under.1
  goes (actions.Get f d this) e none other (inr same) = made (actions.Get f d this) e (gone_where (nat_eq d x) (places.Temp x) (itself d x same.0)) none same.1
  goes (actions.Put f d this) e none other has = put_by f d this e other has
  goes (actions.Cast t d) e none other (inl under) = kept (actions.Cast t d) e (stays_unless (is_throws e && nat_eq d x) (places.Temp x) (not_first (is_throws e) (nat_eq d x) none)) under.1
  goes (actions.Cast t d) e none other (inr same) = inr (none, same)
  goes (actions.PutOwn f d) e none other has = kept (actions.PutOwn f d) e refl has
  goes (actions.Call m d n form) e none other (inl under) = kept (actions.Call m d n form) e (call_stays (actions.Call m d n form) d n under.0) under.1
  goes (actions.Call m d n form) e none other (inr same) = made (actions.Call m d n form) e (call_gone (actions.Call m d n form) d n same.0) none same.1
  goes (actions.New m d n) e none other (inl under) = kept (actions.New m d n) e (op_stays d (n + 1) under.0) under.1
  goes (actions.New m d n) e none other (inr same) =
      made (actions.New m d n) e (gone_where (is_temp_among d (n + 1) (places.Temp x)) (places.Temp x) (first_among d (n + 1) x same.0 (omega arith))) none same.1
  goes (actions.Super m d n) e none other has = kept (actions.Super m d n) e (op_stays d (max n 1) has.0) has.1
  goes (actions.Raise d c) e none other has =
      kept (actions.Raise d c) e (stays_unless (is_null_pointer p e && nat_eq d x) (places.Temp x) (not_both (is_null_pointer p e) (nat_eq d x) (above d x has.0))) has.1
  goes (actions.End c) e none other has = kept (actions.End c) e refl has

  at_Go : (a : Action) → PutSource a edges.Go
  at_Go (actions.Put f d this) = refl
  at_Go actions.Skip = tt
  at_Go a = tt

  at_Null : (a : Action) → PutSource a edges.Null
  at_Null (actions.Put f d this) = refl
  at_Null actions.Skip = tt
  at_Null a = tt

  at_NonNull : (a : Action) → PutSource a edges.NonNull
  at_NonNull (actions.Put f d this) = refl
  at_NonNull actions.Skip = tt
  at_NonNull a = tt

  at_True : (a : Action) → PutSource a edges.True
  at_True (actions.Put f d this) = refl
  at_True actions.Skip = tt
  at_True a = tt

  at_False : (a : Action) → PutSource a edges.False
  at_False (actions.Put f d this) = refl
  at_False actions.Skip = tt
  at_False a = tt

  pub left : (a : Action) (e : Edge) → left_held p b a e held x → TakesNone p b a e held x
  left a (edges.Throws c) has = thrown a c has
  left a edges.Go has = goes a edges.Go refl (at_Go a) has
  left a edges.Null has = goes a edges.Null refl (at_Null a) has
  left a edges.NonNull has = goes a edges.NonNull refl (at_NonNull a) has
  left a edges.True has = goes a edges.True refl (at_True a) has
  left a edges.False has = goes a edges.False refl (at_False a) has

pub temps_hold_none : (p : Program) (b : Body) (a : Action) (e : Edge) (held : ℕ → Bool) (x : ℕ) → x < 64 → left_held p b a e (λ d. held d ≡ true) x → TakesNone p b a e (λ d. held d ≡ true) x
temps_hold_none p b a e held x small has = left p b (λ d. held d ≡ true) x small a e has
