-- The store into an owning field of `this` (Checker Framework manual, Resource Leak Checker, "Owning fields").
use Rattle.std.specs.Prelude.{ℕ, Bool, ◌&&◌, ◌||◌, not, if◌then◌else◌}
use Rattle.program_model.specs.declared.kinds.BodyId.{BodyId}
use Rattle.program_model.specs.declared.kinds.FieldId.{FieldId}
use Rattle.program_model.specs.declared.program.Program.{Program}
use Rattle.control_actions.specs.declared.action.Action.{Action}
use Rattle.control_actions.specs.declared.action.Action.TheVariants as actions
use Rattle.control_actions.specs.declared.fact.Fact.{Fact}
use Rattle.control_actions.specs.declared.fact.Mode.{Mode}
use Rattle.control_actions.specs.declared.fact.Mode.TheVariants as modes
use Rattle.control_actions.specs.declared.fact.Origin.{Origin}
use Rattle.control_actions.specs.declared.fact.Outcome.{Outcome}
use Rattle.control_actions.specs.declared.fact.Outcome.TheVariants.{Next, Fault}
use Rattle.control_actions.specs.declared.fact.Rule.TheVariants as rules
use Rattle.control_actions.specs.declared.place.Place.TheVariants as places
use Rattle.control_actions.specs.Owned.{place_of_field}
use Rattle.obligation_facts.specs.Facts.{has, with_place, without, is_own, is_held, is_alias, is_met, missing, leave, is_origin_at}
use Rattle.must_call_sets.specs.MustCallSets.{must_of, must_of_optional, is_empty, is_heavy_class, is_heavy_as, fits_type, beyond_type}
use Rattle.must_call_sets.specs.Signatures.{field_type}
use Rattle.must_call_sets.specs.Bodies.{is_constructor, is_alias_constructor, alias_position, resets_this}

-- some method must be called on objects of the field's type
abbrev pub has_heavy_type : Program → FieldId → Bool
has_heavy_type p g = not (is_empty (must_of_optional p (field_type p g)))

-- A store outside a constructor asks for a method that creates the obligation of `this` anew, and for a field whose type has an obligation: then the class of `this` has one too,
-- so whoever has `this` in hand knows of it.
abbrev pub lacks_reset : Program → BodyId → FieldId → Fact → Bool
lacks_reset p b g f = has f.places places.This && not (is_constructor p b || resets_this p b && has_heavy_type p g)

-- the object has an obligation by its class, or may have one by the field's type
abbrev pub is_heavy_store : Program → Origin → FieldId → Bool
is_heavy_store p o g = is_heavy_as p o.class (field_type p g)

-- in an alias constructor only the aliased argument may be stored
abbrev pub keeps_other : Program → BodyId → Origin → Bool
keeps_other p b o = is_alias_constructor p b && not (is_origin_at o.kind (alias_position p b))

-- the frame owns the object, or in an alias constructor it is the aliased argument; an object that has an obligation only
-- by the field's type is not owned
abbrev pub may_store : Program → BodyId → Origin → Fact → Bool
may_store p b o f = is_heavy_class p o.class && (is_own f.mode || is_alias_constructor p b && is_alias f.mode)

-- the field holds the object as well
abbrev pub with_field : Program → FieldId → Mode → Fact → Fact
with_field p g mode f = record f { places = with_place f.places (place_of_field p g); mode = mode }

-- an object with an obligation is stored
abbrev pub heavy_stored : Program → BodyId → Origin → FieldId → Fact → Outcome
heavy_stored p b o g f =
    if keeps_other p b o then Fault rules.AliasKept (must_of p o.class)
    else (if not (may_store p b o f) then Fault rules.NotOwned (must_of p o.class)
    else (if not (fits_type p o.class (field_type p g)) then Fault rules.Narrow (beyond_type p o.class (field_type p g))
    else Next (with_field p g modes.Held f)))

-- the object is stored
abbrev pub object_stored : Program → BodyId → Origin → FieldId → Fact → Outcome
object_stored p b o g f =
    if has f.places (place_of_field p g) then Next f
    else (if is_heavy_store p o g then heavy_stored p b o g f else Next (with_field p g f.mode f))

-- another value is stored over the object that the field holds
abbrev pub overwritten : Program → Origin → FieldId → Fact → Outcome
overwritten p o g f =
    if is_held f.mode && not (is_met o f) then Fault rules.Overwritten (missing o f)
    else leave o f (without f.places (place_of_field p g))

abbrev pub stored_over : Program → Origin → FieldId → Fact → Outcome
stored_over p o g f = if has f.places (place_of_field p g) then overwritten p o g f else Next f

-- the store of t(d) into the field g of `this`
abbrev pub stored : Program → BodyId → Origin → FieldId → ℕ → Fact → Outcome
stored p b o g d f =
    if lacks_reset p b g f then Fault rules.ResetMissing (must_of p o.class)
    else (if has f.places (places.Temp d) then object_stored p b o g f else stored_over p o g f)

abbrev pub field_outcome : Program → BodyId → Origin → Action → Fact → Outcome
field_outcome p b o (actions.PutOwn g d) f = stored p b o g d f
field_outcome p b o a f = Next f
