-- What the places of a frame hold after a step.
use Rattle.std.proofs.Common.{◌≡◌, ◌∙◌, ap, refl, sym, subst, arith, ℕ, ◌+◌, ◌<◌, ◌≤◌, Bool, true, false, ◌&&◌, ◌||◌, true≢false, Option, Some, None, List, ◌∷◌, ◌++◌, length, map, max, min, inl, inr}
use Rattle.std.specs.Prelude.{◌⊎◌, if◌then◌else◌, slice_get}
use Rattle.std.specs.List.{list_any, range_with_len}
use Rattle.std.proofs.lemmas.Bool.Decides.{nat_tests}
use Rattle.std.proofs.lemmas.Option.{get_or_from_slice_get, slice_get-get_or, slice_get_within}
use Rattle.std.proofs.lemmas.List.Folds.{list_any-append, list_any_at}
use Rattle.std.proofs.lemmas.List.FromFn.{get_or-map-range_with_len, length-map-range_with_len}
use Rattle.program_model.specs.declared.kinds.FieldId.{FieldId}
use Rattle.program_model.specs.declared.kinds.MethodId.{MethodId}
use Rattle.program_model.specs.declared.program.Program.{Program}
use Rattle.program_model.specs.declared.tree.Body.{Body}
use Rattle.control_actions.specs.declared.action.Action.{Action}
use Rattle.control_actions.specs.declared.action.Action.TheVariants as actions
use Rattle.control_actions.specs.declared.action.Edge.{Edge}
use Rattle.control_actions.specs.declared.action.Edge.TheVariants as edges
use Rattle.control_actions.specs.declared.place.Place.{Place}
use Rattle.control_actions.specs.declared.place.Place.TheVariants as places
use Rattle.java_control.specs.Calls.{completion_temp, is_reset_of_this}
use Rattle.java_control.specs.Owned.{place_of_field}
use Rattle.java_control.specs.PlaceNumbers.{IsSmall}
use Rattle.java_control.specs.Scopes.{is_dropped}
use Rattle.java_control.specs.Sources.{emptied, is_null_pointer, is_part, is_place, is_temp, is_temp_among, is_temp_from, is_throws, is_variable, next_depth, source, source_or_itself, temp_of}
use Rattle.ledger_state.specs.Contents.{HeapContents}
use Rattle.ledger_state.specs.Heaps.{root_of, same_root}
use Rattle.ledger_state.specs.Locals.{held}
use Rattle.ledger_state.specs.Values.{value_or_nothing}
use Rattle.ledger_state.specs.declared.locals.Locals.{Locals}
use Rattle.ledger_state.specs.declared.value.Value.{Value}
use Rattle.ledger_state.specs.declared.value.Value.TheVariants as values
use Rattle.ledger_frames.specs.Obligations.{holds}
use Rattle.ledger_frames.specs.Places.{place_value}
use Rattle.ledger_frames.specs.Choosing.{method_body}
use Rattle.ledger_frames.specs.Frames.{depth_in, depth_of, is_made, locals_after, made_place, sourced, source_by, value_after}
use Rattle.place_laws.specs.Places.{HasTarget, HasVariable, is_local}
use Rattle.place_laws.proofs.Numbers.{place_itself, same_place}

-- ---- values that are made number by number

fits_range : (n i : ℕ) → i < 4294967296 → i < n → i < min n 4294967296
fits_range n i small below = omega (arith, small, below)

made_at : (f : ℕ → Value) (n i : ℕ) → i < 4294967296 → i < n → value_or_nothing (slice_get (map f (range_with_len 0 (min n 4294967296))) i) ≡ f i
made_at f n i small below =
    let all : List Value = map f (range_with_len 0 (min n 4294967296)) in
    let long : length all ≡ min n 4294967296 = length-map-range_with_len f 0 (min n 4294967296) in
    let inside : i < length all = subst (λ (k : ℕ). i < k) (sym long) (fits_range n i small below) in
    ap value_or_nothing (slice_get-get_or all i values.Nothing inside) ∙ get_or-map-range_with_len f 0 (min n 4294967296) i i values.Nothing (fits_range n i small below) (omega arith)

-- the frame has the place after the step
abbrev HasAfter : Locals → Action → Place → Type 0
HasAfter l a (places.Var i) = i < length l.variables
HasAfter l a (places.Temp d) = d < max (length l.temps) (depth_of a)
HasAfter l a places.This = ⊥
HasAfter l a (places.Field k) = ⊥
HasAfter l a places.Super = ⊥

below_range : (i : ℕ) → i < 160 → i < 4294967296
below_range i small = omega (arith, small)

value_there : (p : Program) (h k : HeapContents) (m : MethodId) (l : Locals) (a : Action) (e : Edge) (v : Value) (q : Place) → IsSmall q → HasAfter l a q
    → place_value p k m (locals_after p h m l a e v) q ≡ value_after p h m l a e v q
value_there p h k m l a e v (places.Var i) small inside = made_at (λ j. value_after p h m l a e v (places.Var j)) (length l.variables) i (below_range i small) inside
value_there p h k m l a e v (places.Temp d) small inside = made_at (λ j. value_after p h m l a e v (places.Temp j)) (max (length l.temps) (depth_of a)) d (omega (arith, small)) inside
value_there p h k m l a e v places.This small inside = absurd inside
value_there p h k m l a e v (places.Field n) small inside = absurd inside
value_there p h k m l a e v places.Super small inside = absurd inside

-- by the source of the place in the method's body
sourced_there : (p : Program) (h k : HeapContents) (m : MethodId) (x : Body) (l : Locals) (a : Action) (e : Edge) (v : Value) (q : Place) (o : Option Place) → method_body p m ≡ Some x → IsSmall q → HasAfter l a q
    → source p x a e q ≡ o → place_value p k m (locals_after p h m l a e v) q ≡ sourced p h m l a v q o
sourced_there p h k m x l a e v q o body small inside is =
    value_there p h k m l a e v q small inside ∙ ap (λ (b : Option Body). sourced p h m l a v q (source_by p b a e q)) body ∙ ap (sourced p h m l a v q) is

-- ---- which places the frame has

no_object : (h : HeapContents) (o : ℕ) → root_of h values.Nothing ≡ Some o → ⊥
no_object h o is = absurd (let never : ◌≡◌ {A = Option ℕ} None (Some o) = is in cc)

object_inside : (h : HeapContents) (vs : List Value) (i : ℕ) (o : ℕ) (found : Option Value) → slice_get vs i ≡ found → root_of h (value_or_nothing found) ≡ Some o → i < length vs
object_inside h vs i o None at is = absurd (no_object h o is)
object_inside h vs i o (Some v) at is = slice_get_within vs i v at

-- a place that holds an object stays
object_stays : (p : Program) (h : HeapContents) (m : MethodId) (l : Locals) (a : Action) (q : Place) (o : ℕ) → is_local q ≡ true → root_of h (place_value p h m l q) ≡ Some o → HasAfter l a q
object_stays p h m l a (places.Var i) o local is = object_inside h l.variables i o (slice_get l.variables i) refl is
object_stays p h m l a (places.Temp d) o local is = (let inside : d < length l.temps = object_inside h l.temps d o (slice_get l.temps d) refl is in omega (arith, inside))
object_stays p h m l a places.This o local is = absurd (true≢false (sym local))
object_stays p h m l a (places.Field k) o local is = absurd (true≢false (sym local))
object_stays p h m l a places.Super o local is = absurd (true≢false (sym local))

-- ---- where a place with another source is one that the step sets

same_some : (x y : Place) → Some x ≡ Some y → x ≡ y
same_some x y h = cc

none_some : (x : Place) → ◌≡◌ {A = Option Place} None (Some x) → ⊥
none_some x h = cc

-- the source is the place itself, or the frame has the place after the step
abbrev Stays : Locals → Action → Place → Place → Type 0
Stays l a q z = (z ≡ q) ⊎ HasAfter l a q

itself : (l : Locals) (a : Action) (q z : Place) → Some q ≡ Some z → Stays l a q z
itself l a q z is = inl (sym (same_some q z is))

emptied_itself : (l : Locals) (a : Action) (b : Bool) (q z : Place) → emptied b q ≡ Some z → Stays l a q z
emptied_itself l a true q z is = absurd (none_some z is)
emptied_itself l a false q z is = itself l a q z is

target_there : (l : Locals) (a : Action) (x q : Place) → HasVariable l x → (depth_in x ≤ depth_of a) → is_local q ≡ true → is_place x q ≡ true → HasAfter l a q
target_there l a x (places.Var i) has deep local same = subst (HasVariable l) (same_place x (places.Var i) same) has
target_there l a x (places.Temp d) has deep local same =
    (let deeper : d + 1 ≤ depth_of a = subst (λ (y : Place). depth_in y ≤ depth_of a) (same_place x (places.Temp d) same) deep in omega (arith, deeper))
target_there l a x places.This has deep local same = absurd (true≢false (sym local))
target_there l a x (places.Field k) has deep local same = absurd (true≢false (sym local))
target_there l a x places.Super has deep local same = absurd (true≢false (sym local))

taken_stays : (l : Locals) (a : Action) (y q z : Place) (b : Bool) → (b ≡ true → HasAfter l a q) → source_or_itself b y q ≡ Some z → Stays l a q z
taken_stays l a y q z true there is = inr (there refl)
taken_stays l a y q z false there is = itself l a q z is

moved_stays : (l : Locals) (a : Action) (y q z : Place) (c b : Bool) → (b ≡ true → HasAfter l a q) → (if c then None else source_or_itself b y q) ≡ Some z → Stays l a q z
moved_stays l a y q z true b there is = absurd (none_some z is)
moved_stays l a y q z false b there is = taken_stays l a y q z b there is

settled_stays : (l : Locals) (a : Action) (value : Option ℕ) (q z : Place) (c f : Bool) → (c ≡ true → HasAfter l a q) → (if c then temp_of value else emptied f q) ≡ Some z → Stays l a q z
settled_stays l a value q z true f there is = inr (there refl)
settled_stays l a value q z false f there is = emptied_itself l a f q z is

chosen_stays : (l : Locals) (a : Action) (n : ℕ) (q z : Place) (c f : Bool) → (c ≡ true → HasAfter l a q) → (if c then Some (places.Temp n) else emptied f q) ≡ Some z → Stays l a q z
chosen_stays l a n q z true f there is = inr (there refl)
chosen_stays l a n q z false f there is = emptied_itself l a f q z is

-- a field of `this` is neither a variable nor a temp
field_apart : (k : ℕ) (q : Place) → is_local q ≡ true → is_place (places.Field k) q ≡ true → ⊥
field_apart k (places.Var i) local same = true≢false (sym same)
field_apart k (places.Temp d) local same = true≢false (sym same)
field_apart k places.This local same = true≢false (sym local)
field_apart k (places.Field j) local same = true≢false (sym local)
field_apart k places.Super local same = true≢false (sym local)

module _ (p : Program) (x : Body) (l : Locals) where
  stored_stays : (f : FieldId) (d : ℕ) (this : Bool) (q z : Place) → is_local q ≡ true → (if is_temp d q then Some (places.Temp (next_depth d)) else emptied (is_temp (next_depth d) q) q) ≡ Some z → Stays l (actions.Put f d this) q z
  stored_stays f d this q z local is =
      chosen_stays l (actions.Put f d this) (next_depth d) q z (is_temp d q) (is_temp (next_depth d) q) (λ same. target_there l (actions.Put f d this) (places.Temp d) q tt (omega arith) local same) is

  stays : (a : Action) (e : Edge) (q z : Place) → is_local q ≡ true → HasTarget l a → source p x a e q ≡ Some z → Stays l a q z
  stays actions.Skip e q z local has is = itself l actions.Skip q z is
  stays (actions.Copy to from) e q z local has is =
      taken_stays l (actions.Copy to from) from q z (is_place to q) (λ same. target_there l (actions.Copy to from) to q has (omega arith) local same) is
  stays (actions.Move to from) e q z local has is =
      moved_stays l (actions.Move to from) from q z (is_place from q) (is_place to q) (λ same. target_there l (actions.Move to from) to q has (omega arith) local same) is
  stays (actions.Plain to v) e q z local has is = emptied_itself l (actions.Plain to v) (is_place to q) q z is
  stays (actions.Drop s) e q z local has is = emptied_itself l (actions.Drop s) (is_dropped x s q) q z is
  stays (actions.Settle d c) e q z local has is =
      settled_stays l (actions.Settle d c) (completion_temp c) q z (is_temp d q) (is_temp_from d q) (λ same. target_there l (actions.Settle d c) (places.Temp d) q tt (omega arith) local same) is
  stays (actions.Enter clause y first d) e q z local has is =
      chosen_stays l (actions.Enter clause y first d) d q z (is_variable y q) (is_temp_from first q) (λ same. target_there l (actions.Enter clause y first d) (places.Var y) q has (omega arith) local same) is
  stays (actions.Test d) e q z local has is = emptied_itself l (actions.Test d) (is_temp d q) q z is
  stays (actions.Op k d n) e q z local has is = emptied_itself l (actions.Op k d n) (is_temp_among d (max n 1) q) q z is
  stays (actions.Get f d this) e q z local has is = emptied_itself l (actions.Get f d this) (is_temp d q) q z is
  stays (actions.Put f d this) edges.Go q z local has is = stored_stays f d this q z local is
  stays (actions.Put f d this) edges.Null q z local has is = stored_stays f d this q z local is
  stays (actions.Put f d this) edges.NonNull q z local has is = stored_stays f d this q z local is
  stays (actions.Put f d this) edges.True q z local has is = stored_stays f d this q z local is
  stays (actions.Put f d this) edges.False q z local has is = stored_stays f d this q z local is
  stays (actions.Put f d this) (edges.Throws c) q z local has is = emptied_itself l (actions.Put f d this) (is_temp_among d 2 q) q z is
  stays (actions.Cast t d) e q z local has is = emptied_itself l (actions.Cast t d) (is_throws e && is_temp d q) q z is
  stays (actions.PutOwn f d) e q z local has is =
      taken_stays l (actions.PutOwn f d) (places.Temp d) q z (is_place (place_of_field p f) q) (λ same. absurd (field_apart _ q local same)) is
  stays (actions.Call m d n form) e q z local has is =
      emptied_itself l (actions.Call m d n form) (is_temp_among d (max n 1) q || is_reset_of_this p (actions.Call m d n form) && is_part q) q z is
  stays (actions.New m d n) e q z local has is = emptied_itself l (actions.New m d n) (is_temp_among d (n + 1) q) q z is
  stays (actions.Super m d n) e q z local has is = emptied_itself l (actions.Super m d n) (is_temp_among d (max n 1) q) q z is
  stays (actions.Raise d c) e q z local has is = emptied_itself l (actions.Raise d c) (is_null_pointer p e && is_temp d q) q z is
  stays (actions.End c) e q z local has is = itself l (actions.End c) q z is

-- ---- the value of the source

pub source_value : (p : Program) (h k : HeapContents) (m : MethodId) (x : Body) (l : Locals) (a : Action) (e : Edge) (v : Value) (q z : Place) (o : ℕ)
    → method_body p m ≡ Some x → IsSmall q → is_local q ≡ true → HasTarget l a → source p x a e q ≡ Some z → root_of h (place_value p h m l z) ≡ Some o
    → place_value p k m (locals_after p h m l a e v) q ≡ place_value p h m l z
source_value p h k m x l a e v q z o body small local has is object = elim (stays p x l a e q z local has is) [
  | inl same ↦ sourced_there p h k m x l a e v q (Some z) body small (object_stays p h m l a q o local (subst (λ (y : Place). root_of h (place_value p h m l y) ≡ Some o) same object)) is
  | inr there ↦ sourced_there p h k m x l a e v q (Some z) body small there is
]

-- ---- what is made

-- a temp into which the step puts what it makes
temp_there : (l : Locals) (a : Action) (d : ℕ) (q : Place) → depth_of a ≡ d + 1 → Some (places.Temp d) ≡ Some q → HasAfter l a q
temp_there l a d q deep is = subst (HasAfter l a) (same_some (places.Temp d) q is) (omega (arith, deep))

plain_there : (l : Locals) (a : Action) (x : Place) → is_local x ≡ true → HasVariable l x → depth_of a ≡ depth_in x → HasAfter l a x
plain_there l a (places.Var i) local has deep = has
plain_there l a (places.Temp d) local has deep = omega (arith, deep)
plain_there l a places.This local has deep = absurd (true≢false (sym local))
plain_there l a (places.Field k) local has deep = absurd (true≢false (sym local))
plain_there l a places.Super local has deep = absurd (true≢false (sym local))

-- what a step makes it puts into a variable or temp that the frame has
made_there : (l : Locals) (a : Action) (q : Place) → is_local q ≡ true → HasTarget l a → made_place a ≡ Some q → HasAfter l a q
made_there l (actions.Plain x v) q local has is =
    let same : x ≡ q = same_some x q is in
    subst (HasAfter l (actions.Plain x v)) same (plain_there l (actions.Plain x v) x (subst (λ (y : Place). is_local y ≡ true) (sym same) local) has refl)
made_there l (actions.Op k d n) q local has is = temp_there l (actions.Op k d n) d q refl is
made_there l (actions.Get f d this) q local has is = temp_there l (actions.Get f d this) d q refl is
made_there l (actions.Put f d this) q local has is = temp_there l (actions.Put f d this) d q refl is
made_there l (actions.Cast t d) q local has is = temp_there l (actions.Cast t d) d q refl is
made_there l (actions.Call m d n form) q local has is = temp_there l (actions.Call m d n form) d q refl is
made_there l (actions.New m d n) q local has is = temp_there l (actions.New m d n) d q refl is
made_there l (actions.Super m d n) q local has is = temp_there l (actions.Super m d n) d q refl is
made_there l (actions.Raise d c) q local has is = temp_there l (actions.Raise d c) d q refl is
made_there l actions.Skip q local has is = absurd (none_some q is)
made_there l (actions.Copy x y) q local has is = absurd (none_some q is)
made_there l (actions.Move x y) q local has is = absurd (none_some q is)
made_there l (actions.Drop s) q local has is = absurd (none_some q is)
made_there l (actions.Settle d c) q local has is = absurd (none_some q is)
made_there l (actions.Enter clause x b d) q local has is = absurd (none_some q is)
made_there l (actions.Test d) q local has is = absurd (none_some q is)
made_there l (actions.PutOwn f d) q local has is = absurd (none_some q is)
made_there l (actions.End c) q local has is = absurd (none_some q is)

chosen_value : (b : Bool) (v w : Value) → b ≡ true → (if b then v else w) ≡ v
chosen_value true v w is = refl
chosen_value false v w is = absurd (true≢false (sym is))

pub made_value : (p : Program) (h k : HeapContents) (m : MethodId) (x : Body) (l : Locals) (a : Action) (e : Edge) (v : Value) (q : Place)
    → method_body p m ≡ Some x → IsSmall q → is_local q ≡ true → HasTarget l a → made_place a ≡ Some q → source p x a e q ≡ None
    → place_value p k m (locals_after p h m l a e v) q ≡ v
made_value p h k m x l a e v q body small local has made none =
    sourced_there p h k m x l a e v q None body small (made_there l a q local has made) none
    ∙ chosen_value (is_made (made_place a) q) v values.Nothing (ap (λ (o : Option Place). is_made o q) made ∙ place_itself q)

-- ---- the variables

few : (n : ℕ) → n ≤ 160 → min n 4294967296 ≡ n
few n below = omega (arith, below)

pub same_variables : (p : Program) (h : HeapContents) (m : MethodId) (l : Locals) (a : Action) (e : Edge) (v : Value) → length l.variables ≤ 160 → length (locals_after p h m l a e v).variables ≡ length l.variables
same_variables p h m l a e v below = length-map-range_with_len (λ i. value_after p h m l a e v (places.Var i)) 0 (min (length l.variables) 4294967296) ∙ few (length l.variables) below

-- ---- what the frame holds

itself_root : (o : ℕ) (found : Option ℕ) → found ≡ Some o → same_root found (Some o) ≡ true
itself_root o found is = ap (λ (r : Option ℕ). same_root r (Some o)) is ∙ same_number o
  where
    same_number : (n : ℕ) → same_root (Some n) (Some n) ≡ true
    same_number n = grind (arith, nat_tests)

any_at : (test : Value → Bool) (vs : List Value) (i : ℕ) (v : Value) → slice_get vs i ≡ Some v → test v ≡ true → list_any test vs ≡ true
any_at test vs i v at one = list_any_at test vs i v (slice_get_within vs i v at) (ap test (get_or_from_slice_get vs i v v at) ∙ one)

or_true : (b : Bool) → (b || true) ≡ true
or_true true = refl
or_true false = refl

object_value : (h : HeapContents) (vs : List Value) (i o : ℕ) (found : Option Value) → slice_get vs i ≡ found → root_of h (value_or_nothing found) ≡ Some o → holds h vs o ≡ true
object_value h vs i o None at is = absurd (no_object h o is)
object_value h vs i o (Some v) at is = any_at (λ w. same_root (root_of h w) (Some o)) vs i v at (itself_root o (root_of h v) is)

behind_this : (h : HeapContents) (this : Value) (vs : List Value) (o : ℕ) → holds h vs o ≡ true → holds h (this ∷ vs) o ≡ true
behind_this h this vs o one = ap (λ b. same_root (root_of h this) (Some o) || b) one ∙ or_true (same_root (root_of h this) (Some o))

left_holds : (h : HeapContents) (vs ws : List Value) (o : ℕ) → holds h vs o ≡ true → holds h (vs ++ ws) o ≡ true
left_holds h vs ws o one = list_any-append (λ w. same_root (root_of h w) (Some o)) vs ws ∙ ap (λ b. b || holds h ws o) one

right_holds : (h : HeapContents) (vs ws : List Value) (o : ℕ) → holds h ws o ≡ true → holds h (vs ++ ws) o ≡ true
right_holds h vs ws o one = list_any-append (λ w. same_root (root_of h w) (Some o)) vs ws ∙ ap (λ b. holds h vs o || b) one ∙ or_true (holds h vs o)

pub place_counts : (p : Program) (h : HeapContents) (m : MethodId) (l : Locals) (q : Place) (o : ℕ) → is_local q ≡ true → root_of h (place_value p h m l q) ≡ Some o → holds h (held l) o ≡ true
place_counts p h m l (places.Var i) o local is = behind_this h l.this (l.variables ++ l.temps) o (left_holds h l.variables l.temps o (object_value h l.variables i o (slice_get l.variables i) refl is))
place_counts p h m l (places.Temp d) o local is = behind_this h l.this (l.variables ++ l.temps) o (right_holds h l.variables l.temps o (object_value h l.temps d o (slice_get l.temps d) refl is))
place_counts p h m l places.This o local is = absurd (true≢false (sym local))
place_counts p h m l (places.Field k) o local is = absurd (true≢false (sym local))
place_counts p h m l places.Super o local is = absurd (true≢false (sym local))
