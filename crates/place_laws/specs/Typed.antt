-- What a step of a typed body takes and gives, beyond what it names.
use Rattle.std.specs.Prelude.{◌≡◌, true, Some}
use Rattle.program_model.specs.declared.kinds.FieldId.{FieldId}
use Rattle.program_model.specs.declared.kinds.MethodId.{MethodId}
use Rattle.program_model.specs.declared.kinds.MethodKind.TheVariants as methods
use Rattle.program_model.specs.declared.kinds.VType.{VType}
use Rattle.program_model.specs.declared.program.Field.{Field}
use Rattle.program_model.specs.declared.program.Method.{Method}
use Rattle.program_model.specs.declared.program.Program.{Program}
use Rattle.program_model.specs.declared.tree.Body.{Body}
use Rattle.program_model.specs.Hierarchy.{IsUnder}
use Rattle.program_model.specs.Lookups.{field_at, method_at}
use Rattle.control_actions.specs.declared.action.Action.{Action}
use Rattle.control_actions.specs.declared.action.Action.TheVariants as actions
use Rattle.control_actions.specs.declared.action.Completion.{Completion}
use Rattle.control_actions.specs.declared.action.Completion.TheVariants as completions
use Rattle.control_actions.specs.declared.action.PlainValue.TheVariants as plain
use Rattle.control_actions.specs.declared.action.TargetForm.TheVariants as forms
use Rattle.place_laws.specs.Places.{is_local}

-- a copy or a move gives to a variable or temp, and so does what calls nothing and reads no place; and a move empties one
abbrev pub MovesLocals : Action → Type 0
MovesLocals (actions.Copy x y) = is_local x ≡ true
MovesLocals (actions.Move x y) = (is_local x ≡ true) × (is_local y ≡ true)
MovesLocals (actions.Plain x v) = is_local x ≡ true
MovesLocals a = Unit {0}

-- a constant of a stub (its result is of a class type)
abbrev pub IsLibraryConstant : Program → MethodId → Type 0
IsLibraryConstant p m = (x : Method) × (method_at p m ≡ Some x) × (x.kind ≡ methods.Constant)

abbrev pub HasField : Program → FieldId → Type 0
HasField p f = (x : Field) × (field_at p f ≡ Some x)

-- the class of the body's method is not the one that declares the method
abbrev pub IsDeclaredElsewhere : Program → Body → MethodId → Type 0
IsDeclaredElsewhere p b m = (x n : Method) → method_at p b.method ≡ Some x → method_at p m ≡ Some n → n.class ≡ x.class → ⊥

-- it is the one that declares the method, or under it
abbrev pub IsDeclaredAbove : Program → Body → MethodId → Type 0
IsDeclaredAbove p b m = (x n : Method) → method_at p b.method ≡ Some x → method_at p m ≡ Some n → IsUnder p x.class n.class

-- a value is returned where the body's method has a result alone (JLS 14.17)
abbrev pub GivesResult : Program → Body → Completion → Type 0
GivesResult p b (completions.ReturnValue d pos) = (x : Method) × (method_at p b.method ≡ Some x) × (t : VType) × (x.sig.result ≡ Some t)
GivesResult p b c = Unit {0}

-- a field that is read is there (JLS 15.11.1), what is read as a library's constant is one, a call on `this`, written or implied, names a method that the class of `this` has, and one by `super` a method
-- of another class (JLS 15.12.1, 15.12.3)
abbrev pub NamesMembers : Program → Body → Action → Type 0
NamesMembers p b (actions.Get f d this) = HasField p f
NamesMembers p b (actions.Plain x (plain.LibraryConstant m)) = IsLibraryConstant p m
NamesMembers p b (actions.End c) = GivesResult p b c
NamesMembers p b (actions.Call m d n forms.This) = IsDeclaredAbove p b m
NamesMembers p b (actions.Call m d n forms.Super) = IsDeclaredElsewhere p b m × IsDeclaredAbove p b m
NamesMembers p b a = Unit {0}
