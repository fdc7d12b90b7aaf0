-- From which place each place of a frame takes its value in a step.
use Rattle.std.specs.Prelude.{ℕ, ◌+◌, min, max, Bool, true, false, nat_lt, nat_le, ◌&&◌, ◌||◌, nat_eq, Option, Some, None, if◌then◌else◌}
use Rattle.program_model.specs.declared.program.Program.{Program}
use Rattle.program_model.specs.declared.tree.Body.{Body}
use Rattle.program_model.specs.SuperTests.{is_class}
use Rattle.control_actions.specs.declared.action.Action.{Action}
use Rattle.control_actions.specs.declared.action.Action.TheVariants as actions
use Rattle.control_actions.specs.declared.action.Edge.{Edge}
use Rattle.control_actions.specs.declared.action.Edge.TheVariants as edges
use Rattle.control_actions.specs.declared.place.Place.{Place}
use Rattle.control_actions.specs.declared.place.Place.TheVariants as places
use Rattle.control_actions.specs.Calls.{completion_temp, is_reset_of_this}
use Rattle.control_actions.specs.Owned.{place_of_field}
use Rattle.control_actions.specs.Scopes.{is_dropped}

abbrev pub is_variable : ℕ → Place → Bool
is_variable x (places.Var y) = nat_eq x y
is_variable x _ = false

abbrev pub is_field : ℕ → Place → Bool
is_field k (places.Field j) = nat_eq k j
is_field k _ = false

-- the place is the temp of depth `d`
abbrev pub is_temp : ℕ → Place → Bool
is_temp d (places.Temp e) = nat_eq d e
is_temp d _ = false

abbrev pub is_this_place : Place → Bool
is_this_place places.This = true
is_this_place _ = false

abbrev pub is_super_place : Place → Bool
is_super_place places.Super = true
is_super_place _ = false

-- the two are one place
abbrev pub is_place : Place → Place → Bool
is_place (places.Var x) q = is_variable x q
is_place places.This q = is_this_place q
is_place (places.Field k) q = is_field k q
is_place (places.Temp d) q = is_temp d q
is_place places.Super q = is_super_place q

-- the place is one of `n` temps from depth `d` on
abbrev pub is_temp_among : ℕ → ℕ → Place → Bool
is_temp_among d n (places.Temp e) = nat_le d e && nat_lt e (d + n)
is_temp_among d n _ = false

-- the place is a temp of depth `b` or more
abbrev pub is_temp_from : ℕ → Place → Bool
is_temp_from b (places.Temp e) = nat_le b e
is_temp_from b _ = false

-- a place that is emptied has no source, and every other one keeps its value
abbrev pub emptied : Bool → Place → Option Place
emptied true q = None
emptied false q = Some q

abbrev pub temp_of : Option ℕ → Option Place
temp_of None = None
temp_of (Some d) = Some (places.Temp d)

abbrev pub is_throws : Edge → Bool
is_throws (edges.Throws t) = true
is_throws _ = false

-- the edge is that of a NullPointerException
abbrev pub is_null_pointer : Program → Edge → Bool
is_null_pointer p (edges.Throws t) = is_class t p.core.null_pointer_exception
is_null_pointer p _ = false

-- the depth behind another; a depth has 32 bits
abbrev pub next_depth : ℕ → ℕ
next_depth d = min (d + 1) 4294967295

-- `Put` leaves the stored value in t(d), where it goes on. Of its edges all but throws are its going on: a step has no others
abbrev pub put_source : ℕ → Edge → Place → Option Place
put_source d (edges.Throws t) q = emptied (is_temp_among d 2 q) q
put_source d _ q = if is_temp d q then Some (places.Temp (next_depth d)) else emptied (is_temp (next_depth d) q) q

-- the place `from`, for a place that takes its value
abbrev pub source_or_itself : Bool → Place → Place → Option Place
source_or_itself true from q = Some from
source_or_itself false from q = Some q

abbrev pub move_source : Place → Place → Place → Option Place
move_source x y q = if is_place y q then None else source_or_itself (is_place x q) y q

-- t(b) takes the completion's value, and all other temps from b on are emptied
abbrev pub settle_source : ℕ → Option ℕ → Place → Option Place
settle_source b value q = if is_temp b q then temp_of value else emptied (is_temp_from b q) q

-- the variable of a catch clause takes the exception, and all temps from b on are emptied
abbrev pub enter_source : ℕ → ℕ → ℕ → Place → Option Place
enter_source x b d q = if is_variable x q then Some (places.Temp d) else emptied (is_temp_from b q) q

-- the place is an owning field of `this`, or the part of the super class
abbrev pub is_part : Place → Bool
is_part (places.Field k) = true
is_part places.Super = true
is_part _ = false

-- a call takes the `n` temps from `d` on, and gives t(d). Where it creates the obligation of `this` anew, it may store into the
-- owning fields of `this`, whether it ends normally or by an exception
abbrev pub call_source : Bool → ℕ → ℕ → Place → Option Place
call_source resets d n q = emptied (is_temp_among d (max n 1) q || resets && is_part q) q

-- the place whose value the place `q` has after the step, by the action and its edge. None: it holds nothing, or a value
-- that the action makes, as a result or an exception. The result of a call has no source also where it is an alias of an
-- operand's resource: it may be another object. Where the static class of a `throw` is NullPointerException itself, its one edge
-- may as well carry the object in t(d): so what has no source and is an object is new only in a class with obligations
abbrev pub source : Program → Body → Action → Edge → Place → Option Place
source p b actions.Skip e q = Some q
source p b (actions.Copy x y) e q = source_or_itself (is_place x q) y q
source p b (actions.Move x y) e q = move_source x y q
source p b (actions.Plain x v) e q = emptied (is_place x q) q
source p b (actions.Drop x) e q = emptied (is_dropped b x q) q
source p b (actions.Settle d c) e q = settle_source d (completion_temp c) q
source p b (actions.Enter clause x d k) e q = enter_source x d k q
source p b (actions.Test d) e q = emptied (is_temp d q) q
source p b (actions.Op k d n) e q = emptied (is_temp_among d (max n 1) q) q
source p b (actions.Get f d through_this) e q = emptied (is_temp d q) q
source p b (actions.Put f d through_this) e q = put_source d e q
source p b (actions.Cast t d) e q = emptied (is_throws e && is_temp d q) q
source p b (actions.PutOwn f d) e q = source_or_itself (is_place (place_of_field p f) q) (places.Temp d) q
source p b (actions.Call m d n form) e q = call_source (is_reset_of_this p (actions.Call m d n form)) d n q
source p b (actions.New m d n) e q = emptied (is_temp_among d (n + 1) q) q
source p b (actions.Super m d n) e q = emptied (is_temp_among d (max n 1) q) q
source p b (actions.Raise d c) e q = emptied (is_null_pointer p e && is_temp d q) q
source p b (actions.End c) e q = Some q
