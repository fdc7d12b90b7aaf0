-- A temp that is known to hold `this` after an action takes its value from itself, or from `this`.
use Rattle.std.proofs.Common.{◌≡◌, ap, refl, sym, arith, ℕ, ◌+◌, ◌<◌, Bool, true, false, ◌&&◌, ◌||◌, true≢false, Option, Some, max, min, inl, inr}
use Rattle.std.specs.Prelude.{◌⊎◌, if◌then◌else◌, nat_eq, nat_le, nat_lt}
use Rattle.std.proofs.lemmas.Bool.Decides.{nat_tests}
use Rattle.program_model.specs.declared.program.Program.{Program}
use Rattle.program_model.specs.declared.tree.Body.{Body}
use Rattle.control_actions.specs.declared.action.Action.{Action}
use Rattle.control_actions.specs.declared.action.Action.TheVariants as actions
use Rattle.control_actions.specs.declared.action.Edge.{Edge}
use Rattle.control_actions.specs.declared.action.Edge.TheVariants as edges
use Rattle.control_actions.specs.declared.action.Scope.{Scope}
use Rattle.control_actions.specs.declared.action.Scope.TheVariants as scopes
use Rattle.control_actions.specs.declared.place.Place.{Place}
use Rattle.control_actions.specs.declared.place.Place.TheVariants as places
use Rattle.java_control.specs.Calls.{completion_temp, is_reset_of_this}
use Rattle.java_control.specs.Sources.{emptied, is_null_pointer, is_temp_among, is_throws, next_depth, source, source_or_itself, temp_of}
use Rattle.step_laws.specs.Targets.{after, copied, dropped}

-- ---- tests of depths

above : (d x : ℕ) → x < d → nat_eq d x ≡ false
above d x under = grind (arith, nat_tests)

not_from : (d x : ℕ) → x < d → nat_le d x ≡ false
not_from d x under = grind (arith, nat_tests)

not_past : (d x : ℕ) → x < d → nat_lt d x ≡ false
not_past d x under = grind (arith, nat_tests)

-- of the temps below `d` and 64 none is the one behind t(d)
apart_from_next : (d x : ℕ) → x < 64 → x < d → nat_eq (next_depth d) x ≡ false
apart_from_next d x small under = above (min (d + 1) 4294967295) x (omega (arith, small, under))

-- ---- sources that are the place itself

stays_unless : (t : Bool) (q : Place) → t ≡ false → emptied t q ≡ Some q
stays_unless true q is = absurd (true≢false is)
stays_unless false q is = refl

takes_unless : (t : Bool) (y q : Place) → t ≡ false → source_or_itself t y q ≡ Some q
takes_unless true y q is = absurd (true≢false is)
takes_unless false y q is = refl

neither : (t u : Bool) (y : Option Place) (q : Place) → t ≡ false → u ≡ false → (if t then y else emptied u q) ≡ Some q
neither true u y q first second = absurd (true≢false first)
neither false u y q first second = stays_unless u q second

not_both : (t u : Bool) → u ≡ false → (t && u) ≡ false
not_both true u is = is
not_both false u is = refl

not_first : (t u : Bool) → t ≡ false → (t && u) ≡ false
not_first true u is = absurd (true≢false is)
not_first false u is = refl

not_either : (t u : Bool) → t ≡ false → u ≡ false → (t || u) ≡ false
not_either true u first second = absurd (true≢false first)
not_either false u first second = second

not_among : (d n x : ℕ) → x < d → is_temp_among d n (places.Temp x) ≡ false
not_among d n x under = not_first (nat_le d x) (nat_lt x (d + n)) (not_from d x under)

module _ (p : Program) (b : Body) (held : ℕ → Type 0) (x : ℕ) (small : x < 64) where
  abbrev pub ComesFrom : Action → Edge → Type 0
  ComesFrom a e = (a ≡ actions.Copy (places.Temp x) places.This) ⊎ (held x × (source p b a e (places.Temp x) ≡ Some (places.Temp x)))

  copy_keeps : (to from : Place) (e : Edge) → copied to from held x → ComesFrom (actions.Copy to from) e
  copy_keeps (places.Temp d) places.This e (inl under) = inr (under.1, takes_unless (nat_eq d x) places.This (places.Temp x) (above d x under.0))
  copy_keeps (places.Temp d) places.This e (inr same) = inl (ap (λ (n : ℕ). actions.Copy (places.Temp n) places.This) (sym same.0))
  copy_keeps (places.Temp d) (places.Var i) e has = inr (has.1, takes_unless (nat_eq d x) (places.Var i) (places.Temp x) (above d x has.0))
  copy_keeps (places.Temp d) y e has = inr (has.1, takes_unless (nat_eq d x) y (places.Temp x) (above d x has.0))
  copy_keeps (places.Var i) y e has = inr (has, refl)
  copy_keeps to y e has = inr (has, refl)

  drop_keeps : (s : Scope) (e : Edge) → dropped s held x → ComesFrom (actions.Drop s) e
  drop_keeps (scopes.Temp d) e has = inr (has.1, stays_unless (nat_eq d x) (places.Temp x) (above d x has.0))
  drop_keeps (scopes.TempsAbove d) e has = inr (has.1, stays_unless (nat_lt d x) (places.Temp x) (not_past d x has.0))
  drop_keeps (scopes.Declared s) e has = inr (has, refl)
  drop_keeps (scopes.Variable y) e has = inr (has, refl)

  stored : (d : ℕ) → x < d → (if nat_eq d x then Some (places.Temp (next_depth d)) else emptied (nat_eq (next_depth d) x) (places.Temp x)) ≡ Some (places.Temp x)
  stored d under = neither (nat_eq d x) (nat_eq (next_depth d) x) (Some (places.Temp (next_depth d))) (places.Temp x) (above d x under) (apart_from_next d x small under)

  pub comes_from : (a : Action) (e : Edge) → after a held x → ComesFrom a e
  comes_from actions.Skip e has = inr (has, refl)
  comes_from (actions.Copy to from) e has = copy_keeps to from e has
  comes_from (actions.Move to from) e has = absurd has
  comes_from (actions.Plain (places.Temp d) w) e has = inr (has.1, stays_unless (nat_eq d x) (places.Temp x) (above d x has.0))
  comes_from (actions.Plain (places.Var i) w) e has = inr (has, refl)
  comes_from (actions.Plain y w) e has = inr (has, refl)
  comes_from (actions.Drop s) e has = drop_keeps s e has
  comes_from (actions.Settle d c) e has = inr (has.1, neither (nat_eq d x) (nat_le d x) (temp_of (completion_temp c)) (places.Temp x) (above d x has.0) (not_from d x has.0))
  comes_from (actions.Enter clause y d k) e has = inr (has.1, stays_unless (nat_le d x) (places.Temp x) (not_from d x has.0))
  comes_from (actions.Test d) e has = inr (has.1, stays_unless (nat_eq d x) (places.Temp x) (above d x has.0))
  comes_from (actions.Op k d n) e has = inr (has.1, stays_unless (is_temp_among d (max n 1) (places.Temp x)) (places.Temp x) (not_among d (max n 1) x has.0))
  comes_from (actions.Get f d this) e has = inr (has.1, stays_unless (nat_eq d x) (places.Temp x) (above d x has.0))
  comes_from (actions.Put f d this) (edges.Throws c) has = inr (has.1, stays_unless (is_temp_among d 2 (places.Temp x)) (places.Temp x) (not_among d 2 x has.0))
  comes_from (actions.Put f d this) edges.Go has = inr (has.1, stored d has.0)
  comes_from (actions.Put f d this) e has = inr (has.1, stored d has.0)
  comes_from (actions.Cast t d) e has = inr (has.1, stays_unless (is_throws e && nat_eq d x) (places.Temp x) (not_both (is_throws e) (nat_eq d x) (above d x has.0)))
  comes_from (actions.PutOwn f d) e has = inr (has, refl)
  comes_from (actions.Call k d n form) e has = inr (
    has.1,
    stays_unless (is_temp_among d (max n 1) (places.Temp x) || is_reset_of_this p (actions.Call k d n form) && false) (places.Temp x)
        (not_either (is_temp_among d (max n 1) (places.Temp x)) (is_reset_of_this p (actions.Call k d n form) && false) (not_among d (max n 1) x has.0) (not_both (is_reset_of_this p (actions.Call k d n form)) false refl)),
  )
  comes_from (actions.New k d n) e has = inr (has.1, stays_unless (is_temp_among d (n + 1) (places.Temp x)) (places.Temp x) (not_among d (n + 1) x has.0))
  comes_from (actions.Super k d n) e has = inr (has.1, stays_unless (is_temp_among d (max n 1) (places.Temp x)) (places.Temp x) (not_among d (max n 1) x has.0))
  comes_from (actions.Raise d c) e has = inr (has.1, stays_unless (is_null_pointer p e && nat_eq d x) (places.Temp x) (not_both (is_null_pointer p e) (nat_eq d x) (above d x has.0)))
  comes_from (actions.End c) e has = inr (has, refl)

-- ---- the law

pub temps_keep_this : (p : Program) (b : Body) (a : Action) (e : Edge) (held : ℕ → Bool) (x : ℕ) → x < 64 → after a (λ d. held d ≡ true) x
    → (a ≡ actions.Copy (places.Temp x) places.This) ⊎ ((held x ≡ true) × (source p b a e (places.Temp x) ≡ Some (places.Temp x)))
temps_keep_this p b a e held x small has = comes_from p b (λ d. held d ≡ true) x small a e has
