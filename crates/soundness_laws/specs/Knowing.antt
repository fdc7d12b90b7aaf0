-- What frames of methods know of their arguments: where `this`, or an aliased argument, is an object, a fact of it is at the control, and what its places hold are objects. So a run never goes where `this` was found to be null.
use Rattle.std.specs.Prelude.{◌≡◌, ℕ, zero, suc, true, Some, List, [], ◌∷◌}
use Rattle.program_model.specs.declared.kinds.BodyId.{BodyId}
use Rattle.program_model.specs.declared.program.Program.{Program}
use Rattle.program_model.specs.Lookups.{method_at}
use Rattle.java_control.specs.PlaceNumbers.{IsSmall}
use Rattle.control_actions.specs.declared.fact.Fact.{Fact}
use Rattle.control_actions.specs.declared.fact.Origin.{Origin}
use Rattle.control_actions.specs.declared.place.Place.{Place}
use Rattle.control_actions.specs.declared.place.Place.TheVariants as places
use Rattle.ownership_rules.specs.Facts.{has, is_origin_at}
use Rattle.ledger_state.specs.Locals.{temp_value, variable_value}
use Rattle.ledger_state.specs.declared.locals.Locals.{Locals}
use Rattle.ledger_state.specs.declared.value.Value.{Value}
use Rattle.ledger_state.specs.declared.value.Value.TheVariants as values
use Rattle.content_laws.specs.Choosing.{body_id}
use Rattle.content_laws.specs.Configuration.{Frame}
use Rattle.content_laws.specs.Paths.{Reach, relation_of}
use Rattle.content_laws.specs.Positions.{is_lasting}

-- the value is an object
abbrev pub IsObject : Value → Type 0
IsObject v = (k : ℕ) × (v ≡ values.Object k)

-- the argument of the position: `this`, or that of a parameter, whose variable holds it
abbrev pub argument_of : Locals → ℕ → Value
argument_of l zero = l.this
argument_of l (suc v) = variable_value l v

-- The place is `this`, a variable or a temp, and what it holds is an object.
abbrev pub HoldsObject : Locals → Place → Type 0
HoldsObject l (places.Var v) = IsObject (variable_value l v)
HoldsObject l (places.Temp d) = IsObject (temp_value l d)
HoldsObject l places.This = IsObject l.this
HoldsObject l (places.Field k) = ⊥
HoldsObject l places.Super = ⊥

-- a path brings the fact of the argument of this position to the frame's control, and what its places hold are objects
pub record IsKnown (p : Program) (fr : Frame) (n : ℕ) : Type 0 where
  pub body : BodyId
  pub id : body_id p fr.method ≡ Some body
  pub origin : Origin
  pub fact : Fact
  pub reached : Reach p body (relation_of p body) origin fr.control fact
  pub at : is_origin_at origin.kind (Some n) ≡ true
  pub objects : (q : Place) → IsSmall q → has fact.places q ≡ true → HoldsObject fr.locals q

-- so it is with each such argument that is an object
abbrev pub KnowsArguments : Program → Frame → Type 0
KnowsArguments p fr = (n : ℕ) → is_lasting (method_at p fr.method) n ≡ true → IsObject (argument_of fr.locals n) → IsKnown p fr n

abbrev pub AllKnowArguments : Program → List Frame → Type 0
AllKnowArguments p [] = Unit {0}
AllKnowArguments p (fr ∷ frs) = KnowsArguments p fr × AllKnowArguments p frs
