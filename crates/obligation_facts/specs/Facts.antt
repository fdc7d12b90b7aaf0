-- Facts: what must be called on an object, whether it was, and what becomes of a fact where its places change.
use Rattle.std.specs.Prelude.{ℕ, zero, suc, ◌+◌, ◌-◌, Bool, true, false, not, ◌&&◌, ◌||◌, cond, nat_eq, Option, Some, None, if◌then◌else◌}
use Rattle.std.specs.Ordering.{nat_cmp}
use Rattle.std.specs.FinSet as set
use Rattle.program_model.specs.declared.tree.Body.{Body}
pub use Rattle.program_model.specs.NameSets.{Names}
use Rattle.control_actions.specs.PlaceNumbers.{number_of}
use Rattle.control_actions.specs.Scopes.{drops_variable}
use Rattle.control_actions.specs.declared.action.Scope.{Scope}
use Rattle.control_actions.specs.declared.action.Scope.TheVariants as scopes
use Rattle.control_actions.specs.declared.place.Place.{Place}
use Rattle.control_actions.specs.declared.place.Place.TheVariants as places
use Rattle.control_actions.specs.declared.fact.Fact.{Fact}
use Rattle.control_actions.specs.declared.fact.Origin.{Origin}
use Rattle.control_actions.specs.declared.fact.OriginKind.{OriginKind}
use Rattle.control_actions.specs.declared.fact.OriginKind.TheVariants as kinds
use Rattle.control_actions.specs.declared.fact.Mode.{Mode}
use Rattle.control_actions.specs.declared.fact.Mode.TheVariants as modes
use Rattle.control_actions.specs.declared.fact.Rule.TheVariants as rules
use Rattle.control_actions.specs.declared.fact.Outcome.{Outcome}
use Rattle.control_actions.specs.declared.fact.Outcome.TheVariants.{Next, Gone, Fault}

-- ---- sets of places

abbrev pub PlaceSet : Type 0
PlaceSet = set.FinSet nat_cmp

abbrev pub has : PlaceSet → Place → Bool
has held x = set.contains held (number_of x)

abbrev pub with_place : PlaceSet → Place → PlaceSet
with_place held x = set.insert held (number_of x)

abbrev pub without : PlaceSet → Place → PlaceSet
without held x = set.remove held (number_of x)

abbrev pub is_nowhere : PlaceSet → Bool
is_nowhere held = set.is_subset held set.empty

-- the place, where there is one, is among these
abbrev pub has_temp : PlaceSet → Option ℕ → Bool
has_temp held None = false
has_temp held (Some d) = has held (places.Temp d)

-- without n temps from depth d on
unfoldable pub without_temps : PlaceSet → ℕ → ℕ → PlaceSet
without_temps held d zero = held
without_temps held d (suc n) = without_temps (without held (places.Temp d)) (d + 1) n

-- without those of n variables from number i on that a scope drops
unfoldable pub without_variables : Body → Scope → PlaceSet → ℕ → ℕ → PlaceSet
without_variables b s held i zero = held
without_variables b s held i (suc n) = without_variables b s (if drops_variable b s i then without held (places.Var i) else held) (i + 1) n

-- without the places that are emptied together
abbrev pub without_scope : Body → Scope → PlaceSet → PlaceSet
without_scope b (scopes.Declared s) held = without_variables b (scopes.Declared s) held 0 160
without_scope b (scopes.Variable x) held = without held (places.Var x)
without_scope b (scopes.Temp d) held = without held (places.Temp d)
without_scope b (scopes.TempsAbove d) held = without_temps held (d + 1) (63 - d)

-- one of n owning fields from number k on is among these
unfoldable pub has_field_from : PlaceSet → ℕ → ℕ → Bool
has_field_from held k zero = false
has_field_from held k (suc n) = has held (places.Field k) || has_field_from held (k + 1) n

-- a place of a field of `this`
abbrev pub has_field : PlaceSet → Bool
has_field held = has_field_from held 0 16

unfoldable pub without_fields_from : PlaceSet → ℕ → ℕ → PlaceSet
without_fields_from held k zero = held
without_fields_from held k (suc n) = without_fields_from (without held (places.Field k)) (k + 1) n

abbrev pub without_fields : PlaceSet → PlaceSet
without_fields held = without_fields_from held 0 16

-- a place of a field of `this`, or the part of the super class
abbrev pub has_part : PlaceSet → Bool
has_part held = has_field held || has held places.Super

-- without the places of fields of `this` and the part of the super class
abbrev pub without_parts : PlaceSet → PlaceSet
without_parts held = without (without_fields held) places.Super

-- ---- needs

-- what must be called: the full set of the origin once its obligation was created anew, and else its first set
abbrev pub need : Origin → Fact → Names
need o f = cond f.full o.full o.first

abbrev pub is_met : Origin → Fact → Bool
is_met o f = set.is_subset (need o f) f.called

-- what must be called and was not
abbrev pub missing : Origin → Fact → Names
missing o f = set.difference (need o f) f.called

-- ---- modes

abbrev pub is_own : Mode → Bool
is_own modes.Own = true
is_own modes.None = false
is_own modes.Held = false
is_own modes.Lent = false
is_own modes.Alias = false

abbrev pub is_held : Mode → Bool
is_held modes.Own = false
is_held modes.None = false
is_held modes.Held = true
is_held modes.Lent = false
is_held modes.Alias = false

abbrev pub is_lent : Mode → Bool
is_lent modes.Own = false
is_lent modes.None = false
is_lent modes.Held = false
is_lent modes.Lent = true
is_lent modes.Alias = false

abbrev pub is_alias : Mode → Bool
is_alias modes.Own = false
is_alias modes.None = false
is_alias modes.Held = false
is_alias modes.Lent = false
is_alias modes.Alias = true

-- the frame owns the object, and its obligation is open
abbrev pub owes : Origin → Fact → Bool
owes o f = is_own f.mode && not (is_met o f)

-- ---- origins

-- the position of the body's signature that an origin is: a parameter, or the receiver
abbrev pub position_of : OriginKind → Option ℕ
position_of (kinds.Param x) = Some (x + 1)
position_of kinds.ThisRef = Some 0
position_of _ = None

abbrev pub are_position : Option ℕ → Option ℕ → Bool
are_position (Some j) (Some k) = nat_eq j k
are_position _ _ = false

-- the origin is the parameter or receiver at the position, where there is one
abbrev pub is_origin_at : OriginKind → Option ℕ → Bool
is_origin_at kind k = are_position (position_of kind) k

abbrev pub is_this_origin : OriginKind → Bool
is_this_origin kind = is_origin_at kind (Some 0)

-- ---- leaving places

-- what is held in `this` stays so while `this`, its super class's part or one of its fields holds it
abbrev pub mode_at : Mode → PlaceSet → Mode
mode_at modes.Held held = if has held places.This || has_part held then modes.Held else modes.None
mode_at mode held = mode

-- The object is held at these places from now on. Where there is none, an open obligation of the frame is lost.
abbrev pub leave : Origin → Fact → PlaceSet → Outcome
leave o f held =
    if is_nowhere held then (if owes o f then Fault rules.Lost (missing o f) else Gone)
    else Next (record f { places = held; mode = mode_at f.mode held })
