-- What a call makes of the obligations of its arguments (Checker Framework manual, Resource Leak Checker, "Ownership").
use Rattle.std.specs.Prelude.{ℕ, zero, suc, ◌+◌, Bool, false, ◌&&◌, ◌||◌, not, nat_lt, Option, Some, None, List, [], ◌∷◌, length, slice_get, if◌then◌else◌}
use Rattle.std.specs.List.{list_any}
use Rattle.program_model.specs.declared.kinds.ClassId.{ClassId}
use Rattle.program_model.specs.declared.kinds.VType.{VType}
use Rattle.program_model.specs.declared.program.Program.{Program}
use Rattle.program_model.specs.declared.program.Method.{Method}
use Rattle.program_model.specs.declared.program.ParamSig.{ParamSig}
use Rattle.control_actions.specs.declared.action.Action.{Action}
use Rattle.control_actions.specs.declared.action.Edge.{Edge}
use Rattle.control_actions.specs.declared.fact.Fact.{Fact}
use Rattle.control_actions.specs.declared.fact.Origin.{Origin}
use Rattle.control_actions.specs.declared.fact.Rule.TheVariants as rules
use Rattle.obligation_facts.specs.Callees.{callee, holds_operand, may_be_null_target}
use Rattle.obligation_facts.specs.Facts.{PlaceSet, is_met}
use Rattle.must_call_sets.specs.MustCallSets.{is_heavy_as, fits_type}
use Rattle.must_call_sets.specs.Signatures.{is_present, owning_in, type_at}
use Rattle.ownership_rules.specs.Heavy.{is_owned}
use Rattle.ownership_rules.specs.declared.moved.Moved.{Moved}
use Rattle.ownership_rules.specs.declared.moved.Moved.TheVariants.{Stays, Moves, Bad}

-- ---- the owning parameters that take the object

-- the parameter of index k is owning, and its operand is among these places
abbrev pub takes : Action → PlaceSet → ℕ → ParamSig → Bool
takes a held k x = x.owning && holds_operand a held (k + 1)

-- the declared types of those from index k on that take it
abbrev pub owners_from : Action → PlaceSet → ℕ → List ParamSig → List VType
owners_from a held k [] = []
owners_from a held k (x ∷ xs) = if takes a held k x then x.vtype ∷ owners_from a held (k + 1) xs else owners_from a held (k + 1) xs

abbrev pub owners_in : Action → PlaceSet → Option Method → List VType
owners_in a held None = []
owners_in a held (Some m) = owners_from a held 0 m.sig.params.items

-- the declared types of all that take it
abbrev pub owners : Program → Action → PlaceSet → List VType
owners p a held = owners_in a held (callee p a)

abbrev pub first_of : List VType → Option VType
first_of [] = None
first_of (t ∷ ts) = Some t

-- ---- the target of the reset

-- a declared parameter stands at the position, and it is owning
abbrev pub moves_at : Method → ℕ → Bool
moves_at m zero = false
moves_at m (suc k) = owning_in (slice_get m.sig.params.items k)

-- the declared type of the target at this position, where the object is the target and does not move there
abbrev pub target_at : Action → PlaceSet → Method → Option ℕ → Option (Option VType)
target_at a held m None = None
target_at a held m (Some k) = if holds_operand a held k && not (moves_at m k) then Some (type_at m.sig k) else None

abbrev pub target_in : Action → PlaceSet → Option Method → Option (Option VType)
target_in a held None = None
target_in a held (Some m) = target_at a held m m.sig.reset

abbrev pub target : Program → Action → PlaceSet → Option (Option VType)
target p a held = target_in a held (callee p a)

-- ---- one object for two owners

-- two parameters take the object, or one does and the call creates its obligation anew at another position
abbrev pub are_two : ℕ → Option (Option VType) → Bool
are_two count t = nat_lt 1 count || (nat_lt 0 count && is_present t)

abbrev pub is_heavy_owner : Program → ClassId → List VType → Bool
is_heavy_owner p c types = list_any (λ t. is_heavy_as p c (Some t)) types

abbrev pub is_heavy_target : Program → ClassId → Option (Option VType) → Bool
is_heavy_target p c None = false
is_heavy_target p c (Some t) = is_heavy_as p c t

abbrev pub has_two_owners : Program → ClassId → Action → PlaceSet → Bool
has_two_owners p c a held =
    are_two (length (owners p a held)) (target p a held)
    && (is_heavy_owner p c (owners p a held) || is_heavy_target p c (target p a held))

-- ---- an owned object moves to a parameter

-- the exception of a null target leaves all arguments unmoved
abbrev pub moved_to : Program → Origin → Action → Edge → Fact → VType → Moved
moved_to p o a e f t =
    if not (is_heavy_as p o.class (Some t)) then Stays
    else (if not (is_owned p o f) then Bad rules.NotOwned
    else (if not (fits_type p o.class (Some t)) then Bad rules.Narrow
    else (if may_be_null_target p a e && not (is_met o f) then Bad rules.Throw else Moves)))

abbrev pub moved_to_first : Program → Origin → Action → Edge → Fact → Option VType → Moved
moved_to_first p o a e f None = Stays
moved_to_first p o a e f (Some t) = moved_to p o a e f t

-- where two parameters take the object and it is not heavy, it is heavy for none of them
abbrev pub moved_at_call : Program → Origin → Action → Edge → Fact → Moved
moved_at_call p o a e f =
    if has_two_owners p o.class a f.places then Bad rules.Twice
    else moved_to_first p o a e f (first_of (owners p a f.places))
