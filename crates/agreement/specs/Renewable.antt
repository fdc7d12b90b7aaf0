-- Of which classes the objects are whose obligation calls may create anew, by static types (Checker Framework manual, Resource Leak Checker,
-- "Creating obligations").
use Rattle.std.specs.Prelude.{◌≡◌, ◌⊎◌, Bool, true, false, Option, Some}
use Rattle.std.specs.List.{list_any}
use Rattle.program_model.specs.declared.kinds.ClassId.{ClassId}
use Rattle.program_model.specs.declared.kinds.VType.{VType}
use Rattle.program_model.specs.declared.kinds.VType.TheVariants as types
use Rattle.program_model.specs.declared.program.Class.{Class}
use Rattle.program_model.specs.declared.program.Method.{Method}
use Rattle.program_model.specs.declared.program.Program.{Program}
use Rattle.program_model.specs.Lookups.{class_at}
use Rattle.program_model.specs.SuperTests.{is_class}
use Rattle.must_call_sets.specs.OwningCases.{may_be_reset, type_at_some}
use Rattle.ownership_rules.specs.MustCallSets.{is_heavy_class}

-- a position of this type takes each object of the class as such: the type is `Object`, or it is `String` and the class, too
abbrev pub takes_each : Program → ClassId → Option VType → Bool
takes_each p e (Some (types.Obj c)) = is_class c p.core.object
takes_each p e (Some types.Str) = is_class e p.core.string
takes_each p e t = false

-- the method creates anew the obligation of what stands at such a position
abbrev pub renews_each : Program → ClassId → Method → Bool
renews_each p e m = takes_each p e (type_at_some m.sig m.sig.reset)

-- some method may create the obligation of objects of the class anew, by themselves or through an alias
abbrev pub IsRenewable : Program → ClassId → Type 0
IsRenewable p e = ((k : Class) × (class_at p e ≡ Some k) × (may_be_reset p k ≡ true)) ⊎ (list_any (renews_each p e) p.methods.items ≡ true)

-- where some method may create the obligation of objects of the class anew, they have one, by which the rules of bodies follow them
abbrev pub IsFollowed : Program → ClassId → Type 0
IsFollowed p e = IsRenewable p e → is_heavy_class p e ≡ true
