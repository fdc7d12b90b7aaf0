-- A variable or temp is among the places after a step exactly where its source was among them before.
use Rattle.std.proofs.Common.{◌≡◌, ◌∙◌, ap, refl, sym, arith, ℕ, ◌+◌, ◌-◌, ◌<◌, ◌≤◌, Bool, true, false, not, ◌&&◌, ◌||◌, true≢false, Option, Some, None, max}
use Rattle.std.specs.Prelude.{nat_eq, nat_le, nat_lt, if◌then◌else◌}
use Rattle.std.proofs.lemmas.Bool.Decides.{nat_tests}
use Rattle.program_model.specs.declared.kinds.BodyId.{BodyId}
use Rattle.program_model.specs.declared.program.Program.{Program}
use Rattle.program_model.specs.declared.tree.Body.{Body}
use Rattle.program_model.specs.Lookups.{body_at}
use Rattle.control_actions.specs.declared.action.Action.{Action}
use Rattle.control_actions.specs.declared.action.Action.TheVariants as actions
use Rattle.control_actions.specs.declared.action.Edge.{Edge}
use Rattle.control_actions.specs.declared.action.Edge.TheVariants as edges
use Rattle.control_actions.specs.declared.action.Scope.{Scope}
use Rattle.control_actions.specs.declared.action.Scope.TheVariants as scopes
use Rattle.control_actions.specs.declared.place.Place.{Place}
use Rattle.control_actions.specs.declared.place.Place.TheVariants as places
use Rattle.java_control.specs.Calls.{completion_temp, is_reset_of_this}
use Rattle.java_control.specs.Owned.{place_of_field}
use Rattle.java_control.specs.PlaceNumbers.{IsSmall}
use Rattle.java_control.specs.Scopes.{is_dropped}
use Rattle.java_control.specs.Sources.{emptied, is_null_pointer, is_part, is_place, is_temp, is_temp_among, is_temp_from, is_variable, next_depth, put_source, settle_source, source, source_or_itself, temp_of}
use Rattle.step_laws.specs.Facts.{PlaceSet, has, has_temp, with_place, without, without_parts, without_scope, without_temps}
use Rattle.step_laws.specs.SmallActions.{IsSmallAction, IsSmallScope}
use Rattle.step_laws.specs.Aliases.{alias_operand, called_places, gives_alias, without_operands, without_reset}
use Rattle.step_laws.specs.PlaceRows.{below, cast, copied, dropped, entered, places_after, settled, stored}
use Rattle.ledger_frames.specs.Frames.{is_made, made_place}
use Rattle.place_laws.specs.Places.{IsStoreEdge, IsWay, has_source, is_local, takes_alias}
use Rattle.place_laws.proofs.SetLaws.{has_copied, has_temps, has_variables, has_with, has_without, parts_aside, variable_aside}

-- ---- sources

emptied_held : (b : Bool) (held : PlaceSet) (q : Place) → has_source held (emptied b q) ≡ (not b && has held q)
emptied_held true held q = refl
emptied_held false held q = refl

taken : (b : Bool) (held : PlaceSet) (y q : Place) → has_source held (source_or_itself b y q) ≡ (if b then has held y else has held q)
taken true held y q = refl
taken false held y q = refl

moved : (c b : Bool) (held : PlaceSet) (y q : Place) → (not c && (if b then has held y else has held q)) ≡ has_source held (if c then None else source_or_itself b y q)
moved true b held y q = refl
moved false true held y q = refl
moved false false held y q = refl

held_temp : (held : PlaceSet) (value : Option ℕ) → has_source held (temp_of value) ≡ has_temp held value
held_temp held None = refl
held_temp held (Some d) = refl

-- ---- scopes

all_among : (j : ℕ) → j < 160 → (nat_le 0 j && nat_lt j (0 + 160)) ≡ true
all_among j small = grind (arith, nat_tests)

temps_above : (e d : ℕ) → e < 64 → d < 64 → (nat_le (e + 1) d && nat_lt d (e + 1 + (63 - e))) ≡ nat_lt e d
temps_above e d small also = grind (arith, nat_tests)

dropped_row : (x : Body) (s : Scope) (held : PlaceSet) (q : Place) → IsSmallScope s → IsSmall q → is_local q ≡ true → has (without_scope x s held) q ≡ (not (is_dropped x s q) && has held q)
dropped_row x (scopes.Declared st) held (places.Var j) fits small local =
    has_variables x (scopes.Declared st) held 0 160 j (omega arith) small ∙ ap (λ c. not (c && is_dropped x (scopes.Declared st) (places.Var j)) && has held (places.Var j)) (all_among j small)
dropped_row x (scopes.Declared st) held (places.Temp d) fits small local = variable_aside x (scopes.Declared st) (places.Temp d) (λ i. refl) small held 0 160 (omega arith)
dropped_row x (scopes.Variable y) held (places.Var j) fits small local = has_without held (places.Var y) (places.Var j) fits small
dropped_row x (scopes.Variable y) held (places.Temp d) fits small local = has_without held (places.Var y) (places.Temp d) fits small
dropped_row x (scopes.Temp e) held (places.Var j) fits small local = has_without held (places.Temp e) (places.Var j) fits small
dropped_row x (scopes.Temp e) held (places.Temp d) fits small local = has_without held (places.Temp e) (places.Temp d) fits small
dropped_row x (scopes.TempsAbove e) held (places.Var j) fits small local = has_temps held (e + 1) (63 - e) (places.Var j) (omega (arith, fits)) small
dropped_row x (scopes.TempsAbove e) held (places.Temp d) fits small local =
    has_temps held (e + 1) (63 - e) (places.Temp d) (omega (arith, fits)) small ∙ ap (λ b. not b && has held (places.Temp d)) (temps_above e d fits small)
dropped_row x s held places.This fits small local = absurd (true≢false (sym local))
dropped_row x s held (places.Field k) fits small local = absurd (true≢false (sym local))
dropped_row x s held places.Super fits small local = absurd (true≢false (sym local))

-- ---- temps that are emptied together

below_tests : (first e : ℕ) → first < 64 → e < 64 → (nat_le first e && nat_lt e (first + (64 - first))) ≡ nat_le first e
below_tests first e small also = grind (arith, nat_tests)

below_has : (held : PlaceSet) (first : ℕ) (q : Place) → first < 64 → IsSmall q → has (below held first) q ≡ (not (is_temp_from first q) && has held q)
below_has held first (places.Temp e) fits small =
    has_temps held first (64 - first) (places.Temp e) (omega (arith, fits)) small ∙ ap (λ b. not b && has held (places.Temp e)) (below_tests first e fits small)
below_has held first (places.Var i) fits small = has_temps held first (64 - first) (places.Var i) (omega (arith, fits)) small
below_has held first places.This fits small = has_temps held first (64 - first) places.This (omega (arith, fits)) small
below_has held first (places.Field k) fits small = has_temps held first (64 - first) (places.Field k) (omega (arith, fits)) small
below_has held first places.Super fits small = has_temps held first (64 - first) places.Super (omega (arith, fits)) small

-- what is held below, with one place more where `b` says so
below_with : (held : PlaceSet) (first : ℕ) (x q : Place) (b : Bool) → first < 64 → IsSmall x → IsSmall q
    → has (if b then with_place (below held first) x else below held first) q ≡ ((b && is_place x q) || (not (is_temp_from first q) && has held q))
below_with held first x q true fits small also = has_with (below held first) x q small also ∙ ap (λ c. is_place x q || c) (below_has held first q fits also)
below_with held first x q false fits small also = below_has held first q fits also

-- ---- `Settle`

equal_is_from : (first e : ℕ) → nat_eq first e ≡ true → nat_le first e ≡ true
equal_is_from first e same = grind (arith, nat_tests)

temp_is_from : (first : ℕ) (q : Place) → is_temp first q ≡ true → is_temp_from first q ≡ true
temp_is_from first (places.Temp e) same = equal_is_from first e same
temp_is_from first (places.Var i) same = absurd (true≢false (sym same))
temp_is_from first places.This same = absurd (true≢false (sym same))
temp_is_from first (places.Field k) same = absurd (true≢false (sym same))
temp_is_from first places.Super same = absurd (true≢false (sym same))

settle_choice : (held : PlaceSet) (value : Option ℕ) (q : Place) (c f t h : Bool) → (c ≡ true → f ≡ true) → has_source held (temp_of value) ≡ t → has held q ≡ h
    → ((t && c) || (not f && h)) ≡ has_source held (if c then temp_of value else emptied f q)
settle_choice held value q true true true h within is held_is = sym is
settle_choice held value q true true false h within is held_is = sym is
settle_choice held value q true false t h within is held_is = absurd (true≢false (sym (within refl)))
settle_choice held value q false true true h within is held_is = refl
settle_choice held value q false true false h within is held_is = refl
settle_choice held value q false false true h within is held_is = sym held_is
settle_choice held value q false false false h within is held_is = sym held_is

settled_row : (held : PlaceSet) (first : ℕ) (value : Option ℕ) (q : Place) → first < 64 → IsSmall q → has (settled held first value) q ≡ has_source held (settle_source first value q)
settled_row held first value q fits small =
    below_with held first (places.Temp first) q (has_temp held value) fits fits small
    ∙ settle_choice held value q (is_temp first q) (is_temp_from first q) (has_temp held value) (has held q) (temp_is_from first q) (held_temp held value) refl

-- ---- `Enter`

enter_choice : (held : PlaceSet) (d : ℕ) (q : Place) (c f : Bool) → (c ≡ true → f ≡ false)
    → (not f && (if c then has held (places.Temp d) else has held q)) ≡ has_source held (if c then Some (places.Temp d) else emptied f q)
enter_choice held d q true true apart = absurd (true≢false (apart refl))
enter_choice held d q true false apart = refl
enter_choice held d q false true apart = refl
enter_choice held d q false false apart = refl

variable_apart : (x first : ℕ) (q : Place) → is_variable x q ≡ true → is_temp_from first q ≡ false
variable_apart x first (places.Var y) same = refl
variable_apart x first q same = absurd (true≢false (sym same))

entered_row : (held : PlaceSet) (x first d : ℕ) (q : Place) → x < 160 → first < 64 → IsSmall q
    → has (entered held x first d) q ≡ has_source held (if is_variable x q then Some (places.Temp d) else emptied (is_temp_from first q) q)
entered_row held x first d q inside fits small =
    below_has (copied held (places.Var x) (places.Temp d)) first q fits small
    ∙ ap (λ c. not (is_temp_from first q) && c) (has_copied held (places.Var x) (places.Temp d) q inside small)
    ∙ enter_choice held d q (is_variable x q) (is_temp_from first q) (variable_apart x first q)

-- ---- operands

among_first : (d n e : ℕ) (h : Bool) → (not (nat_eq d e) && (not (nat_le d e && nat_lt e (d + n)) && h)) ≡ (not (nat_le d e && nat_lt e (d + max n 1)) && h)
among_first d n e true = grind (arith, nat_tests)
among_first d n e false = grind (arith, nat_tests)

among_next : (d n e : ℕ) (h : Bool) → (not (nat_eq d e) && (not (nat_le (d + 1) e && nat_lt e (d + 1 + n)) && h)) ≡ (not (nat_le d e && nat_lt e (d + (n + 1))) && h)
among_next d n e true = grind (arith, nat_tests)
among_next d n e false = grind (arith, nat_tests)

among_two : (d e : ℕ) (h : Bool) → (not (nat_eq (d + 1) e) && (not (nat_eq d e) && h)) ≡ (not (nat_le d e && nat_lt e (d + 2)) && h)
among_two d e true = grind (arith, nat_tests)
among_two d e false = grind (arith, nat_tests)

operand_tests : (d n : ℕ) (q : Place) (h : Bool) → (not (is_temp d q) && (not (is_temp_among d n q) && h)) ≡ (not (is_temp_among d (max n 1) q) && h)
operand_tests d n (places.Temp e) h = among_first d n e h
operand_tests d n (places.Var i) h = refl
operand_tests d n places.This h = refl
operand_tests d n (places.Field k) h = refl
operand_tests d n places.Super h = refl

object_tests : (d n : ℕ) (q : Place) (h : Bool) → (not (is_temp d q) && (not (is_temp_among (d + 1) n q) && h)) ≡ (not (is_temp_among d (n + 1) q) && h)
object_tests d n (places.Temp e) h = among_next d n e h
object_tests d n (places.Var i) h = refl
object_tests d n places.This h = refl
object_tests d n (places.Field k) h = refl
object_tests d n places.Super h = refl

store_tests : (d : ℕ) (q : Place) (h : Bool) → (not (is_temp (d + 1) q) && (not (is_temp d q) && h)) ≡ (not (is_temp_among d 2 q) && h)
store_tests d (places.Temp e) h = among_two d e h
store_tests d (places.Var i) h = refl
store_tests d places.This h = refl
store_tests d (places.Field k) h = refl
store_tests d places.Super h = refl

operands_gone : (held : PlaceSet) (d first n : ℕ) (q : Place) → d < 64 → first + n ≤ 64 → IsSmall q
    → has (without (without_temps held first n) (places.Temp d)) q ≡ (not (is_temp d q) && (not (is_temp_among first n q) && has held q))
operands_gone held d first n q fits room small =
    has_without (without_temps held first n) (places.Temp d) q fits small ∙ ap (λ b. not (is_temp d q) && b) (has_temps held first n q room small)

operand_row : (held : PlaceSet) (d n : ℕ) (q : Place) → d < 64 → d + n ≤ 64 → IsSmall q → has (without (without_temps held d n) (places.Temp d)) q ≡ has_source held (emptied (is_temp_among d (max n 1) q) q)
operand_row held d n q fits room small = operands_gone held d d n q fits room small ∙ operand_tests d n q (has held q) ∙ sym (emptied_held (is_temp_among d (max n 1) q) held q)

-- ---- stores

left_by_store : (held : PlaceSet) (d : ℕ) (q : Place) → d + 1 < 64 → IsSmall q → has (without (without held (places.Temp d)) (places.Temp (d + 1))) q ≡ (not (is_temp (d + 1) q) && (not (is_temp d q) && has held q))
left_by_store held d q fits small =
    has_without (without held (places.Temp d)) (places.Temp (d + 1)) q fits small ∙ ap (λ b. not (is_temp (d + 1) q) && b) (has_without held (places.Temp d) q (omega (arith, fits)) small)

store_with : (held : PlaceSet) (d : ℕ) (q : Place) (b : Bool) → d + 1 < 64 → IsSmall q
    → has (if b then with_place (without (without held (places.Temp d)) (places.Temp (d + 1))) (places.Temp d) else without (without held (places.Temp d)) (places.Temp (d + 1))) q
    ≡ ((b && is_temp d q) || (not (is_temp (d + 1) q) && (not (is_temp d q) && has held q)))
store_with held d q true fits small =
    has_with (without (without held (places.Temp d)) (places.Temp (d + 1))) (places.Temp d) q (omega (arith, fits)) small ∙ ap (λ c. is_temp d q || c) (left_by_store held d q fits small)
store_with held d q false fits small = left_by_store held d q fits small

store_choice : (held : PlaceSet) (n : ℕ) (q : Place) (c g b h : Bool) → has held (places.Temp n) ≡ b → has held q ≡ h
    → ((b && c) || (not g && (not c && h))) ≡ has_source held (if c then Some (places.Temp n) else emptied g q)
store_choice held n q true true true h is held_is = sym is
store_choice held n q true true false h is held_is = sym is
store_choice held n q true false true h is held_is = sym is
store_choice held n q true false false h is held_is = sym is
store_choice held n q false true true h is held_is = refl
store_choice held n q false true false h is held_is = refl
store_choice held n q false false true h is held_is = sym held_is
store_choice held n q false false false h is held_is = sym held_is

next_is : (d : ℕ) → d + 1 < 64 → next_depth d ≡ d + 1
next_is d fits = omega (arith, fits)

stored_row : (held : PlaceSet) (d : ℕ) (e : Edge) (q : Place) → d + 1 < 64 → IsStoreEdge e → IsSmall q → has (stored held d e) q ≡ has_source held (put_source d e q)
stored_row held d edges.Go q fits way small =
    store_with held d q (has held (places.Temp (d + 1))) fits small
    ∙ store_choice held (d + 1) q (is_temp d q) (is_temp (d + 1) q) (has held (places.Temp (d + 1))) (has held q) refl refl
    ∙ sym (ap (λ n. has_source held (if is_temp d q then Some (places.Temp n) else emptied (is_temp n q) q)) (next_is d fits))
stored_row held d (edges.Throws c) q fits way small = left_by_store held d q fits small ∙ store_tests d q (has held q) ∙ sym (emptied_held (is_temp_among d 2 q) held q)
stored_row held d edges.Null q fits way small = absurd way
stored_row held d edges.NonNull q fits way small = absurd way
stored_row held d edges.True q fits way small = absurd way
stored_row held d edges.False q fits way small = absurd way

-- ---- casts and throws

cast_row : (held : PlaceSet) (d : ℕ) (e : Edge) (q : Place) (b : Bool) → d < 64 → IsSmall q → has (if b then without held (places.Temp d) else held) q ≡ has_source held (emptied (b && is_temp d q) q)
cast_row held d e q true fits small = has_without held (places.Temp d) q fits small ∙ sym (emptied_held (is_temp d q) held q)
cast_row held d e q false fits small = refl

-- ---- calls

pub no_alias : (p : Program) (a : Action) (e : Edge) (held : PlaceSet) → alias_operand p a ≡ None → gives_alias p a e held ≡ false
no_alias p a edges.Go held none = ap (has_temp held) none
no_alias p a edges.Null held none = refl
no_alias p a edges.NonNull held none = refl
no_alias p a edges.True held none = refl
no_alias p a edges.False held none = refl
no_alias p a (edges.Throws c) held none = refl

reset_aside : (held : PlaceSet) (q : Place) (b : Bool) → is_local q ≡ true → IsSmall q → has (if b then without_parts held else held) q ≡ has held q
reset_aside held q true local small = parts_aside held q local small
reset_aside held q false local small = refl

local_no_part : (q : Place) (resets among : Bool) → is_local q ≡ true → (among || resets && is_part q) ≡ among
local_no_part (places.Var i) true true local = refl
local_no_part (places.Var i) true false local = refl
local_no_part (places.Var i) false true local = refl
local_no_part (places.Var i) false false local = refl
local_no_part (places.Temp d) true true local = refl
local_no_part (places.Temp d) true false local = refl
local_no_part (places.Temp d) false true local = refl
local_no_part (places.Temp d) false false local = refl
local_no_part places.This resets among local = absurd (true≢false (sym local))
local_no_part (places.Field k) resets among local = absurd (true≢false (sym local))
local_no_part places.Super resets among local = absurd (true≢false (sym local))

called_row : (p : Program) (a : Action) (d : ℕ) (e : Edge) (held : PlaceSet) (q : Place) → d < 64 → IsSmall q
    → has (called_places p a d e held) q ≡ ((gives_alias p a e held && is_temp d q) || has (without_operands a (without_reset p a held)) q)
called_row p a d e held q fits small = go (gives_alias p a e held)
  where
    go : (c : Bool) → has (if c then with_place (without_operands a (without_reset p a held)) (places.Temp d) else without_operands a (without_reset p a held)) q
        ≡ ((c && is_temp d q) || has (without_operands a (without_reset p a held)) q)
    go true = has_with (without_operands a (without_reset p a held)) (places.Temp d) q fits small
    go false = refl

-- ---- all actions

module _ (p : Program) (b : BodyId) (x : Body) (e : Edge) (held : PlaceSet) (q : Place) (at : body_at p b ≡ Some x) (small : IsSmall q) (local : is_local q ≡ true) where
  -- what calls nothing gives no alias
  aside : (a : Action) → alias_operand p a ≡ None → has (places_after p b a e held) q ≡ has_source held (source p x a e q)
      → has (places_after p b a e held) q ≡ (takes_alias p a e held q || has_source held (source p x a e q))
  aside a none is = is ∙ sym (ap (λ (c : Bool). (c && is_made (made_place a) q) || has_source held (source p x a e q)) (no_alias p a e held none))

  -- a call leaves what its source leaves, and may give an alias
  beside : (a : Action) (d : ℕ) → d < 64 → has (without_operands a (without_reset p a held)) q ≡ has_source held (source p x a e q)
      → has (called_places p a d e held) q ≡ ((gives_alias p a e held && is_temp d q) || has_source held (source p x a e q))
  beside a d fits is = called_row p a d e held q fits small ∙ ap (λ (c : Bool). (gives_alias p a e held && is_temp d q) || c) is

  pub row : (a : Action) → IsSmallAction p a → IsWay a e → has (places_after p b a e held) q ≡ (takes_alias p a e held q || has_source held (source p x a e q))
  row actions.Skip fits way = aside actions.Skip refl refl
  row (actions.Copy to from) fits way = aside (actions.Copy to from) refl (has_copied held to from q fits.0 small ∙ sym (taken (is_place to q) held from q))
  row (actions.Move to from) fits way = aside (actions.Move to from) refl (
      has_without (copied held to from) from q fits.1 small ∙ ap (λ c. not (is_place from q) && c) (has_copied held to from q fits.0 small) ∙ moved (is_place from q) (is_place to q) held from q)
  row (actions.Plain to v) fits way = aside (actions.Plain to v) refl (has_without held to q fits small ∙ sym (emptied_held (is_place to q) held q))
  row (actions.Drop s) fits way = aside (actions.Drop s) refl (ap (λ o. has (dropped o s held) q) at ∙ dropped_row x s held q fits small local ∙ sym (emptied_held (is_dropped x s q) held q))
  row (actions.Settle first c) fits way = aside (actions.Settle first c) refl (settled_row held first (completion_temp c) q fits.0 small)
  row (actions.Enter clause y first d) fits way = aside (actions.Enter clause y first d) refl (entered_row held y first d q fits.0 fits.1 small)
  row (actions.Test d) fits way = aside (actions.Test d) refl (has_without held (places.Temp d) q fits small ∙ sym (emptied_held (is_temp d q) held q))
  row (actions.Op k d n) fits way = aside (actions.Op k d n) refl (operand_row held d n q fits.0 fits.1 small)
  row (actions.Get f d through_this) fits way = aside (actions.Get f d through_this) refl (has_without held (places.Temp d) q fits small ∙ sym (emptied_held (is_temp d q) held q))
  row (actions.Put f d through_this) fits way = aside (actions.Put f d through_this) refl (stored_row held d e q fits way small)
  row (actions.Cast t d) fits way = aside (actions.Cast t d) refl (cast_edge e)
    where
      cast_edge : (f : Edge) → has (cast held d f) q ≡ has_source held (source p x (actions.Cast t d) f q)
      cast_edge edges.Go = refl
      cast_edge edges.Null = refl
      cast_edge edges.NonNull = refl
      cast_edge edges.True = refl
      cast_edge edges.False = refl
      cast_edge (edges.Throws c) = cast_row held d (edges.Throws c) q true fits small
  row (actions.PutOwn f d) fits way = aside (actions.PutOwn f d) refl (has_copied held (place_of_field p f) (places.Temp d) q fits.1 small ∙ sym (taken (is_place (place_of_field p f) q) held (places.Temp d) q))
  row (actions.Call m d n form) fits way =
      let a : Action = actions.Call m d n form in
      beside a d fits.0 (operands_gone (without_reset p a held) d d n q fits.0 fits.1 small
      ∙ ap (λ c. not (is_temp d q) && (not (is_temp_among d n q) && c)) (reset_aside held q (is_reset_of_this p a) local small)
      ∙ operand_tests d n q (has held q) ∙ sym (ap (λ c. not c && has held q) (local_no_part q (is_reset_of_this p a) (is_temp_among d (max n 1) q) local))
      ∙ sym (emptied_held (is_temp_among d (max n 1) q || is_reset_of_this p a && is_part q) held q))
  row (actions.New m d n) fits way =
      beside (actions.New m d n) d (omega (arith, fits)) (operands_gone held d (d + 1) n q (omega (arith, fits)) (omega (arith, fits)) small ∙ object_tests d n q (has held q)
      ∙ sym (emptied_held (is_temp_among d (n + 1) q) held q))
  row (actions.Super m d n) fits way = beside (actions.Super m d n) d fits.0 (operand_row held d n q fits.0 fits.1 small)
  row (actions.Raise d c) fits way = aside (actions.Raise d c) refl (cast_row held d e q (is_null_pointer p e) fits small)
  row (actions.End c) fits way = aside (actions.End c) refl refl
