-- What is asked of the declarations of a program as a whole.
use Rattle.std.specs.Prelude.{◌≡◌, true, Some}
use Rattle.program_model.specs.declared.kinds.ClassId.{ClassId}
use Rattle.program_model.specs.declared.kinds.MethodId.{MethodId}
use Rattle.program_model.specs.declared.program.Method.{Method}
use Rattle.program_model.specs.declared.program.Program.{Program}
use Rattle.program_model.specs.Hierarchy.{IsUnder}
use Rattle.program_model.specs.Lookups.{method_at}
use Rattle.program_model.specs.Overrides.{are_alike, is_library}

-- no class declares two methods of one name and one parameter list (JLS 8.4.2)
abbrev pub DeclaresOnce : Program → Type 0
DeclaresOnce p = (a b : MethodId) (x y : Method) → method_at p a ≡ Some x → method_at p b ≡ Some y → x.class ≡ y.class → are_alike x y ≡ true → a ≡ b

-- all classes above one of the library are the library's
abbrev pub HasWholeLibrary : Program → Type 0
HasWholeLibrary p = (c d : ClassId) → IsUnder p c d → is_library p c ≡ true → is_library p d ≡ true
