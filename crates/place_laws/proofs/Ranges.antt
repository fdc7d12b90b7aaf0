-- Steps stay within the numbers of places, put objects into no other places than they set, and take them from places that have numbers.
use Rattle.std.proofs.Common.{◌≡◌, ◌∙◌, refl, sym, subst, arith, ℕ, ◌+◌, ◌-◌, ◌<◌, Bool, true, false, ◌||◌, true≢false, Option, Some, None, ◌&&◌, max}
use Rattle.std.specs.Prelude.{if◌then◌else◌}
use Rattle.program_model.specs.declared.kinds.BodyId.{BodyId}
use Rattle.program_model.specs.declared.kinds.VType.{VType}
use Rattle.program_model.specs.declared.program.Program.{Program}
use Rattle.program_model.specs.declared.tree.Body.{Body}
use Rattle.program_model.specs.Lookups.{body_at}
use Rattle.control_actions.specs.declared.action.Action.{Action}
use Rattle.control_actions.specs.declared.action.Action.TheVariants as actions
use Rattle.control_actions.specs.declared.action.Edge.{Edge}
use Rattle.control_actions.specs.declared.action.Edge.TheVariants as edges
use Rattle.control_actions.specs.declared.action.Scope.{Scope}
use Rattle.control_actions.specs.declared.action.Scope.TheVariants as scopes
use Rattle.control_actions.specs.declared.place.Place.{Place}
use Rattle.control_actions.specs.declared.place.Place.TheVariants as places
use Rattle.java_control.specs.Calls.{completion_temp, is_reset_of_this}
use Rattle.java_control.specs.Owned.{place_of_field}
use Rattle.java_control.specs.PlaceNumbers.{IsSmall, number_of}
use Rattle.java_control.specs.Scopes.{is_dropped}
use Rattle.java_control.specs.Sources.{emptied, is_null_pointer, is_part, is_place, is_temp, is_temp_among, is_temp_from, is_throws, is_variable, next_depth, source, source_or_itself, temp_of}
use Rattle.step_laws.specs.Facts.{PlaceSet, has, has_temp, with_place, without, without_parts, without_scope, without_temps}
use Rattle.step_laws.specs.SmallActions.{IsSmallAction, IsSmallTemp}
use Rattle.step_laws.specs.Aliases.{gives_alias, without_operands, without_reset}
use Rattle.step_laws.specs.PlaceRows.{below, entered, copied, dropped, places_after, stored}
use Rattle.place_laws.specs.Places.{HasPlacesAlone, SetsLocals, is_local}
use Rattle.place_laws.proofs.SetLaws.{IsWithin, alone_with, alone_within, has_with, parts_within, temps_within, variables_within, without_within}

-- ---- what steps take out

both_within : (held : PlaceSet) (x y : Place) → IsWithin (without (without held x) y) held
both_within held x y = λ n one. without_within held x n (without_within (without held x) y n one)

operands_within : (held : PlaceSet) (first n : ℕ) (x : Place) → IsWithin (without (without_temps held first n) x) held
operands_within held first n x = λ k one. temps_within held first n k (without_within (without_temps held first n) x k one)

scope_within : (b : Body) (s : Scope) (held : PlaceSet) → IsWithin (without_scope b s held) held
scope_within b (scopes.Declared st) held = variables_within b (scopes.Declared st) held 0 160
scope_within b (scopes.Variable x) held = without_within held (places.Var x)
scope_within b (scopes.Temp d) held = without_within held (places.Temp d)
scope_within b (scopes.TempsAbove d) held = temps_within held (d + 1) (63 - d)

dropped_within : (o : Option Body) (s : Scope) (held : PlaceSet) → IsWithin (dropped o s held) held
dropped_within None s held = λ n one. one
dropped_within (Some b) s held = scope_within b s held

maybe_within : (held : PlaceSet) (x : Place) (b : Bool) → IsWithin (if b then without held x else held) held
maybe_within held x true = without_within held x
maybe_within held x false = λ n one. one

reset_within : (held : PlaceSet) (b : Bool) → IsWithin (if b then without_parts held else held) held
reset_within held true = parts_within held
reset_within held false = λ n one. one

call_within : (p : Program) (a : Action) (held : PlaceSet) → IsWithin (without_operands a (without_reset p a held)) held
call_within p (actions.Call m d n form) held = λ k one.
    reset_within held (is_reset_of_this p (actions.Call m d n form)) k (operands_within (without_reset p (actions.Call m d n form) held) d n (places.Temp d) k one)
call_within p (actions.New m d n) held = operands_within held (d + 1) n (places.Temp d)
call_within p (actions.Super m d n) held = operands_within held d n (places.Temp d)
call_within p actions.Skip held = λ k one. one
call_within p (actions.Copy x y) held = λ k one. one
call_within p (actions.Move x y) held = λ k one. one
call_within p (actions.Plain x v) held = λ k one. one
call_within p (actions.Drop s) held = λ k one. one
call_within p (actions.Settle d c) held = λ k one. one
call_within p (actions.Enter clause x d from) held = λ k one. one
call_within p (actions.Test d) held = λ k one. one
call_within p (actions.Op k d n) held = λ j one. one
call_within p (actions.Get f d this) held = λ k one. one
call_within p (actions.Put f d this) held = λ k one. one
call_within p (actions.Cast t d) held = λ k one. one
call_within p (actions.PutOwn f d) held = λ k one. one
call_within p (actions.Raise d c) held = λ k one. one
call_within p (actions.End c) held = λ k one. one

-- ---- a set after a step: no more than it was, or with one place more

-- what a step makes of a set, where the place that may join is the one of the action
pub data Grows (x : Place) (held : PlaceSet) : PlaceSet → Type 0 where
  less : (s : PlaceSet) → IsWithin s held → Grows x held s
  more : (s : PlaceSet) → IsWithin s held → Grows x held (with_place s x)
  then_less : (s t : PlaceSet) → Grows x held s → IsWithin t s → Grows x held t

one_or_other : (x : Place) (held s : PlaceSet) (b : Bool) → IsWithin s held → Grows x held (if b then with_place s x else s)
one_or_other x held s true within = more s within
one_or_other x held s false within = less s within

copied_grows : (held : PlaceSet) (x : Place) (b : Bool) → Grows x held (if b then with_place held x else without held x)
copied_grows held x true = more held (λ n one. one)
copied_grows held x false = less (without held x) (without_within held x)

stored_grows : (held : PlaceSet) (d : ℕ) (e : Edge) → Grows (places.Temp d) held (stored held d e)
stored_grows held d edges.Go = one_or_other (places.Temp d) held (without (without held (places.Temp d)) (places.Temp (d + 1))) (has held (places.Temp (d + 1))) (both_within held (places.Temp d) (places.Temp (d + 1)))
stored_grows held d edges.Null = less _ (both_within held (places.Temp d) (places.Temp (d + 1)))
stored_grows held d edges.NonNull = less _ (both_within held (places.Temp d) (places.Temp (d + 1)))
stored_grows held d edges.True = less _ (both_within held (places.Temp d) (places.Temp (d + 1)))
stored_grows held d edges.False = less _ (both_within held (places.Temp d) (places.Temp (d + 1)))
stored_grows held d (edges.Throws c) = less _ (both_within held (places.Temp d) (places.Temp (d + 1)))

alone_grown : (x : Place) (held s : PlaceSet) → IsSmall x → HasPlacesAlone held → Grows x held s → HasPlacesAlone s
alone_grown x held _ small alone (less s within) = alone_within s held within alone
alone_grown x held _ small alone (more s within) = alone_with s x small (alone_within s held within alone)
alone_grown x held _ small alone (then_less s t grows within) = alone_within t s within (alone_grown x held s small alone grows)

same_other : (b c : Bool) → b ≡ false → (b || c) ≡ true → c ≡ true
same_other true c never one = absurd (true≢false never)
same_other false c never one = one

joined_not : (x q : Place) (held s : PlaceSet) → IsSmall x → IsSmall q → is_place x q ≡ false → Grows x held s → has s q ≡ true → has held q ≡ true
joined_not x q held _ small also other (less s within) one = within (number_of q) one
joined_not x q held _ small also other (then_less s t grows within) one = joined_not x q held s small also other grows (within (number_of q) one)
joined_not x q held _ small also other (more s within) one = within (number_of q) (same_other (is_place x q) (has s q) other (sym (has_with s x q small also) ∙ one))

local_apart : (x q : Place) → is_local x ≡ true → is_local q ≡ false → is_place x q ≡ false
local_apart (places.Var i) (places.Var j) local other = absurd (true≢false other)
local_apart (places.Var i) (places.Temp d) local other = refl
local_apart (places.Var i) places.This local other = refl
local_apart (places.Var i) (places.Field k) local other = refl
local_apart (places.Var i) places.Super local other = refl
local_apart (places.Temp d) (places.Var j) local other = refl
local_apart (places.Temp d) (places.Temp e) local other = absurd (true≢false other)
local_apart (places.Temp d) places.This local other = refl
local_apart (places.Temp d) (places.Field k) local other = refl
local_apart (places.Temp d) places.Super local other = refl
local_apart places.This q local other = absurd (true≢false (sym local))
local_apart (places.Field k) q local other = absurd (true≢false (sym local))
local_apart places.Super q local other = absurd (true≢false (sym local))

-- the place that a step may put an object into
pub record Joins (p : Program) (b : BodyId) (a : Action) (e : Edge) (held : PlaceSet) : Type 0 where
  pub place : Place
  pub small : IsSmall place
  pub local : SetsLocals a → is_local place ≡ true
  pub grows : Grows place held (places_after p b a e held)

-- a step that puts an object into no place
nothing_joins : (p : Program) (b : BodyId) (a : Action) (e : Edge) (held : PlaceSet) → IsWithin (places_after p b a e held) held → Joins p b a e held
nothing_joins p b a e held within = record { place = places.Var 0; small = omega arith; local = λ sets. refl; grows = less (places_after p b a e held) within }

temp_joins : (p : Program) (b : BodyId) (a : Action) (e : Edge) (held : PlaceSet) (d : ℕ) → d < 64 → Grows (places.Temp d) held (places_after p b a e held) → Joins p b a e held
temp_joins p b a e held d small grows = record { place = places.Temp d; small = small; local = λ sets. refl; grows = grows }

below_grows : (held : PlaceSet) (first : ℕ) (x : Place) (b : Bool) → Grows x held (if b then with_place (below held first) x else below held first)
below_grows held first x b = one_or_other x held (below held first) b (temps_within held first (64 - first))

module _ (p : Program) (b : BodyId) (e : Edge) (held : PlaceSet) where
  call_grows : (a : Action) (d : ℕ) → Grows (places.Temp d) held (if gives_alias p a e held then with_place (without_operands a (without_reset p a held)) (places.Temp d) else without_operands a (without_reset p a held))
  call_grows a d = one_or_other (places.Temp d) held (without_operands a (without_reset p a held)) (gives_alias p a e held) (call_within p a held)

  cast_joins : (t : VType) (d : ℕ) (f : Edge) → IsWithin (places_after p b (actions.Cast t d) f held) held
  cast_joins t d edges.Go = λ n one. one
  cast_joins t d edges.Null = λ n one. one
  cast_joins t d edges.NonNull = λ n one. one
  cast_joins t d edges.True = λ n one. one
  cast_joins t d edges.False = λ n one. one
  cast_joins t d (edges.Throws c) = without_within held (places.Temp d)

  pub joins : (a : Action) → IsSmallAction p a → Joins p b a e held
  joins actions.Skip fits = nothing_joins p b actions.Skip e held (λ n one. one)
  joins (actions.Copy x y) fits = record { place = x; small = fits.0; local = λ sets. sets; grows = copied_grows held x (has held y) }
  joins (actions.Move x y) fits = record { place = x; small = fits.0; local = λ sets. sets; grows = then_less (copied held x y) (without (copied held x y) y) (copied_grows held x (has held y)) (without_within (copied held x y) y) }
  joins (actions.Plain x v) fits = nothing_joins p b (actions.Plain x v) e held (without_within held x)
  joins (actions.Drop s) fits = nothing_joins p b (actions.Drop s) e held (dropped_within (body_at p b) s held)
  joins (actions.Settle d c) fits = temp_joins p b (actions.Settle d c) e held d fits.0 (below_grows held d (places.Temp d) (has_temp held (completion_temp c)))
  joins (actions.Enter clause x first d) fits = record { place = places.Var x; small = fits.0; local = λ sets. refl; grows = then_less (copied held (places.Var x) (places.Temp d)) (entered held x first d) (copied_grows held (places.Var x) (has held (places.Temp d))) (temps_within (copied held (places.Var x) (places.Temp d)) first (64 - first)) }
  joins (actions.Test d) fits = nothing_joins p b (actions.Test d) e held (without_within held (places.Temp d))
  joins (actions.Op k d n) fits = nothing_joins p b (actions.Op k d n) e held (operands_within held d n (places.Temp d))
  joins (actions.Get f d this) fits = nothing_joins p b (actions.Get f d this) e held (without_within held (places.Temp d))
  joins (actions.Put f d this) fits = temp_joins p b (actions.Put f d this) e held d (omega (arith, fits)) (stored_grows held d e)
  joins (actions.Cast t d) fits = nothing_joins p b (actions.Cast t d) e held (cast_joins t d e)
  joins (actions.PutOwn f d) fits = record { place = place_of_field p f; small = fits.1; local = λ sets. absurd sets; grows = copied_grows held (place_of_field p f) (has held (places.Temp d)) }
  joins (actions.Call m d n form) fits = temp_joins p b (actions.Call m d n form) e held d fits.0 (call_grows (actions.Call m d n form) d)
  joins (actions.New m d n) fits = temp_joins p b (actions.New m d n) e held d (omega (arith, fits)) (call_grows (actions.New m d n) d)
  joins (actions.Super m d n) fits = temp_joins p b (actions.Super m d n) e held d fits.0 (call_grows (actions.Super m d n) d)
  joins (actions.Raise d c) fits = nothing_joins p b (actions.Raise d c) e held (maybe_within held (places.Temp d) (is_null_pointer p e))
  joins (actions.End c) fits = nothing_joins p b (actions.End c) e held (λ n one. one)

module _ (p : Program) (b : BodyId) (a : Action) (e : Edge) (held : PlaceSet) (fits : IsSmallAction p a) where
  pub stays_alone : HasPlacesAlone held → HasPlacesAlone (places_after p b a e held)
  stays_alone alone = let j = joins p b e held a fits in alone_grown j.place held (places_after p b a e held) j.small alone j.grows

  pub no_other_joins : (q : Place) → SetsLocals a → IsSmall q → is_local q ≡ false → has (places_after p b a e held) q ≡ true → has held q ≡ true
  no_other_joins q sets small other one = let j = joins p b e held a fits in joined_not j.place q held (places_after p b a e held) j.small small (local_apart j.place q (j.local sets) other) j.grows one

-- ---- sources

same_some : (x y : Place) → Some x ≡ Some y → x ≡ y
same_some x y h = cc

none_some : (x : Place) → ◌≡◌ {A = Option Place} None (Some x) → ⊥
none_some x h = cc

is_small : (x z : Place) → Some x ≡ Some z → IsSmall x → IsSmall z
is_small x z is small = subst (λ (y : Place). IsSmall y) (same_some x z is) small

emptied_small : (b : Bool) (q z : Place) → emptied b q ≡ Some z → IsSmall q → IsSmall z
emptied_small true q z is small = absurd (none_some z is)
emptied_small false q z is small = is_small q z is small

taken_small : (b : Bool) (y q z : Place) → source_or_itself b y q ≡ Some z → IsSmall y → IsSmall q → IsSmall z
taken_small true y q z is small also = is_small y z is small
taken_small false y q z is small also = is_small q z is also

moved_small : (c b : Bool) (y q z : Place) → (if c then None else source_or_itself b y q) ≡ Some z → IsSmall y → IsSmall q → IsSmall z
moved_small true b y q z is small also = absurd (none_some z is)
moved_small false b y q z is small also = taken_small b y q z is small also

temp_small : (value : Option ℕ) (z : Place) → temp_of value ≡ Some z → IsSmallTemp value → IsSmall z
temp_small None z is small = absurd (none_some z is)
temp_small (Some d) z is small = is_small (places.Temp d) z is small

settled_small : (c f : Bool) (value : Option ℕ) (q z : Place) → (if c then temp_of value else emptied f q) ≡ Some z → IsSmallTemp value → IsSmall q → IsSmall z
settled_small true f value q z is small also = temp_small value z is small
settled_small false f value q z is small also = emptied_small f q z is also

-- the source is a temp, or the place itself
chosen_small : (c f : Bool) (d : ℕ) (q z : Place) → (if c then Some (places.Temp d) else emptied f q) ≡ Some z → d < 64 → IsSmall q → IsSmall z
chosen_small true f d q z is small also = is_small (places.Temp d) z is small
chosen_small false f d q z is small also = emptied_small f q z is also

next_small : (d : ℕ) → d + 1 < 64 → next_depth d < 64
next_small d fits = omega (arith, fits)

pub small_source : (p : Program) (x : Body) (a : Action) (e : Edge) (q z : Place) → IsSmallAction p a → IsSmall q → source p x a e q ≡ Some z → IsSmall z
small_source p x actions.Skip e q z fits small is = is_small q z is small
small_source p x (actions.Copy to from) e q z fits small is = taken_small (is_place to q) from q z is fits.1 small
small_source p x (actions.Move to from) e q z fits small is = moved_small (is_place from q) (is_place to q) from q z is fits.1 small
small_source p x (actions.Plain to v) e q z fits small is = emptied_small (is_place to q) q z is small
small_source p x (actions.Drop s) e q z fits small is = emptied_small (is_dropped x s q) q z is small
small_source p x (actions.Settle d c) e q z fits small is = settled_small (is_temp d q) (is_temp_from d q) (completion_temp c) q z is fits.1 small
small_source p x (actions.Enter clause y first d) e q z fits small is = chosen_small (is_variable y q) (is_temp_from first q) d q z is fits.2 small
small_source p x (actions.Test d) e q z fits small is = emptied_small (is_temp d q) q z is small
small_source p x (actions.Op k d n) e q z fits small is = emptied_small (is_temp_among d (max n 1) q) q z is small
small_source p x (actions.Get f d this) e q z fits small is = emptied_small (is_temp d q) q z is small
small_source p x (actions.Put f d this) edges.Go q z fits small is = chosen_small (is_temp d q) (is_temp (next_depth d) q) (next_depth d) q z is (next_small d fits) small
small_source p x (actions.Put f d this) edges.Null q z fits small is = chosen_small (is_temp d q) (is_temp (next_depth d) q) (next_depth d) q z is (next_small d fits) small
small_source p x (actions.Put f d this) edges.NonNull q z fits small is = chosen_small (is_temp d q) (is_temp (next_depth d) q) (next_depth d) q z is (next_small d fits) small
small_source p x (actions.Put f d this) edges.True q z fits small is = chosen_small (is_temp d q) (is_temp (next_depth d) q) (next_depth d) q z is (next_small d fits) small
small_source p x (actions.Put f d this) edges.False q z fits small is = chosen_small (is_temp d q) (is_temp (next_depth d) q) (next_depth d) q z is (next_small d fits) small
small_source p x (actions.Put f d this) (edges.Throws c) q z fits small is = emptied_small (is_temp_among d 2 q) q z is small
small_source p x (actions.Cast t d) e q z fits small is = emptied_small (is_throws e && is_temp d q) q z is small
small_source p x (actions.PutOwn f d) e q z fits small is = taken_small (is_place (place_of_field p f) q) (places.Temp d) q z is fits.0 small
small_source p x (actions.Call m d n form) e q z fits small is = emptied_small (is_temp_among d (max n 1) q || is_reset_of_this p (actions.Call m d n form) && is_part q) q z is small
small_source p x (actions.New m d n) e q z fits small is = emptied_small (is_temp_among d (n + 1) q) q z is small
small_source p x (actions.Super m d n) e q z fits small is = emptied_small (is_temp_among d (max n 1) q) q z is small
small_source p x (actions.Raise d c) e q z fits small is = emptied_small (is_null_pointer p e && is_temp d q) q z is small
small_source p x (actions.End c) e q z fits small is = is_small q z is small
