-- What a step makes of a fact in any mode, where it leaves the fact a place: what goes on, and what is known of it.
use Rattle.std.specs.Prelude.{◌≡◌, ◌⊎◌, ℕ, Bool, true, false, ◌||◌}
use Rattle.std.specs.FinSet as set
use Rattle.program_model.specs.declared.kinds.BodyId.{BodyId}
use Rattle.program_model.specs.declared.kinds.FieldId.{FieldId}
use Rattle.program_model.specs.declared.program.Program.{Program}
use Rattle.ownership_rules.specs.Bodies.{alias_position, is_alias_constructor}
use Rattle.ownership_rules.specs.MustCallSets.{Names, fits_type, is_heavy_class}
use Rattle.ownership_rules.specs.Signatures.{field_type}
use Rattle.java_control.specs.Owned.{place_of_field}
use Rattle.control_actions.specs.declared.fact.Fact.{Fact}
use Rattle.control_actions.specs.declared.fact.Mode.{Mode}
use Rattle.control_actions.specs.declared.fact.Mode.TheVariants as modes
use Rattle.control_actions.specs.declared.fact.Origin.{Origin}
use Rattle.control_actions.specs.declared.place.Place.TheVariants as places
use Rattle.ownership_rules.specs.Facts.{PlaceSet, has, has_part, is_held, is_met, is_origin_at, is_own}
use Rattle.place_laws.specs.OwningFieldsStores.{is_heavy_store, lacks_reset}

-- the two sets of places are the same
abbrev pub ArePlaces : PlaceSet → PlaceSet → Type 0
ArePlaces s t = (n : ℕ) → set.contains s n ≡ set.contains t n

-- the frame owns the object, or a field of `this` does
abbrev pub is_owned_in : Mode → Bool
is_owned_in m = is_own m || is_held m

-- `this`, a field of it or its super class's part holds the object
abbrev pub is_in_this : PlaceSet → Bool
is_in_this held = has held places.This || has_part held

-- The fact `f` goes on as `g` at these places, with these called names, or fewer; what its first set asks for is needed still, or all that its class asks for.
-- Where `g` says that the object is owned, so did `f`, in the same way; where it says that it is lent, so did `f`. What is held in `this` stays so while
-- `this`, its super class's part or one of its fields holds it.
pub record GoesAs (f : Fact) (kept : PlaceSet) (names : Names) (g : Fact) : Type 0 where
  pub places : ArePlaces g.places kept
  pub full : (g.full ≡ f.full) ⊎ (g.full ≡ true)
  pub mode : is_owned_in g.mode ≡ true → g.mode ≡ f.mode
  pub lent : g.mode ≡ modes.Lent → f.mode ≡ modes.Lent
  pub known : set.is_subset g.called names ≡ true
  pub held : f.mode ≡ modes.Held → is_in_this kept ≡ true → g.mode ≡ modes.Held

-- The object in t(d), of a class or for a field's type that has an obligation, is stored into the field, which did not hold it: the
-- frame owned it, or in an alias constructor it is the aliased argument, and the field's type bounds its obligation. Now the field holds it.
pub record IsTaken (p : Program) (b : BodyId) (o : Origin) (x : FieldId) (d : ℕ) (f g : Fact) : Type 0 where
  pub there : has f.places (places.Temp d) ≡ true
  pub absent : has f.places (place_of_field p x) ≡ false
  pub heavy : is_heavy_class p o.class ≡ true
  pub may : (f.mode ≡ modes.Own) ⊎ ((is_alias_constructor p b ≡ true) × (f.mode ≡ modes.Alias))
  pub alias : is_alias_constructor p b ≡ true → is_origin_at o.kind (alias_position p b) ≡ true
  pub fits : fits_type p o.class (field_type p x) ≡ true
  pub mode : g.mode ≡ modes.Held

-- The fact stays in its mode. Where the field held the object and t(d) does not, it is no longer held there, and in `this` only where another place of it holds the object;
-- where t(d) does, the field held it already, or neither the object's class nor the field's type has an obligation.
pub record IsLeft (p : Program) (o : Origin) (x : FieldId) (d : ℕ) (f g : Fact) : Type 0 where
  pub mode : is_owned_in g.mode ≡ true → g.mode ≡ f.mode
  pub lent : g.mode ≡ modes.Lent → f.mode ≡ modes.Lent
  pub held : f.mode ≡ modes.Held → is_in_this g.places ≡ true → g.mode ≡ modes.Held
  pub met : has f.places (places.Temp d) ≡ false → has f.places (place_of_field p x) ≡ true → f.mode ≡ modes.Held → is_met o f ≡ true
  pub within : has f.places (places.Temp d) ≡ false → has f.places (place_of_field p x) ≡ true → g.mode ≡ modes.Held → is_in_this g.places ≡ true
  pub light : has f.places (places.Temp d) ≡ true → has f.places (place_of_field p x) ≡ false → is_heavy_store p o x ≡ false

-- what the store of t(d) into the field makes of a fact
pub data StoresAs (p : Program) (b : BodyId) (o : Origin) (x : FieldId) (d : ℕ) (f g : Fact) : Type 0 where
  taken : lacks_reset p b x f ≡ false → g.called ≡ f.called → g.full ≡ f.full → IsTaken p b o x d f g → StoresAs p b o x d f g
  left : lacks_reset p b x f ≡ false → g.called ≡ f.called → g.full ≡ f.full → IsLeft p o x d f g → StoresAs p b o x d f g
