-- Of which arguments a method's body has a fact that goes with it to its end: of `this`, and of an aliased argument.
use Rattle.std.specs.Prelude.{ℕ, zero, suc, Bool, false, ◌&&◌, not, Option, Some, None}
use Rattle.program_model.specs.declared.program.Method.{Method}
use Rattle.control_actions.specs.declared.place.Place.{Place}
use Rattle.control_actions.specs.declared.place.Place.TheVariants as places
use Rattle.ownership_rules.specs.Bodies.{is_constructor_kind, is_instance_kind}
use Rattle.ownership_rules.specs.Signatures.{is_position}

-- The argument of this position (0 is `this`, the parameters follow from 1) of a method that is no constructor: `this`, or the aliased argument (`@MustCallAlias`).
-- (A constructor may store `this` into a field of its own.)
abbrev pub is_lasting_in : Method → ℕ → Bool
is_lasting_in m zero = is_instance_kind m.kind
is_lasting_in m (suc v) = not (is_constructor_kind m.kind) && is_position m.sig.alias (suc v)

abbrev pub is_lasting : Option Method → ℕ → Bool
is_lasting None n = false
is_lasting (Some m) n = is_lasting_in m n

-- the place in which an argument is: `this`, or the variable of the parameter
abbrev pub argument_place : ℕ → Place
argument_place zero = places.This
argument_place (suc v) = places.Var v
