-- The `main` of a program (JLS 12.1.4).
use Rattle.std.specs.Prelude.{ℕ, Bool, true, false, not, ◌&&◌, Option, Some, None, List, [], ◌∷◌, codes}
use Rattle.std.specs.List.{find}
use Rattle.std.specs.Str.{bytes_eq}
use Rattle.program_model.specs.declared.kinds.ElementType.TheVariants as elements
use Rattle.program_model.specs.declared.kinds.MethodId.{MethodId}
use Rattle.program_model.specs.declared.kinds.MethodKind.{MethodKind}
use Rattle.program_model.specs.declared.kinds.MethodKind.TheVariants as kinds
use Rattle.program_model.specs.declared.kinds.VType.{VType}
use Rattle.program_model.specs.declared.kinds.VType.TheVariants as types
use Rattle.program_model.specs.declared.program.Class.{Class}
use Rattle.program_model.specs.declared.program.Method.{Method}
use Rattle.program_model.specs.declared.program.ParamSig.{ParamSig}
use Rattle.program_model.specs.declared.program.Program.{Program}
use Rattle.program_model.specs.Lookups.{method_at}

abbrev pub is_static : MethodKind → Bool
is_static kinds.Static = true
is_static kinds.Instance = false
is_static kinds.Ctor = false
is_static kinds.Constant = false

-- `void`
abbrev pub has_no_result : Option VType → Bool
has_no_result None = true
has_no_result (Some t) = false

-- the type `String[]`
abbrev pub is_texts : VType → Bool
is_texts (types.Arr elements.Str) = true
is_texts (types.Arr (elements.Primitive t)) = false
is_texts (types.Primitive t) = false
is_texts types.Str = false
is_texts (types.Obj c) = false
is_texts types.NullType = false

-- one parameter, of type `String[]`
abbrev pub takes_texts : List ParamSig → Bool
takes_texts [] = false
takes_texts (x ∷ []) = is_texts x.vtype
takes_texts (x ∷ y ∷ xs) = false

-- a static `void` method, named `main`, with one parameter of type `String[]`
abbrev pub is_main : Method → Bool
is_main m = is_static m.kind && has_no_result m.sig.result && bytes_eq m.name (codes "main") && takes_texts m.sig.params.items

abbrev pub is_main_in : Option Method → Bool
is_main_in None = false
is_main_in (Some m) = is_main m

-- the `main` that a class declares
abbrev pub main_in : Program → Option Class → Option MethodId
main_in p None = None
main_in p (Some c) = find (λ m. is_main_in (method_at p m)) c.methods.items

-- no class of a stub
abbrev pub is_program_class_named : List ℕ → Class → Bool
is_program_class_named name c = not c.library && bytes_eq c.name name

-- the class of the program with this qualified name (JLS 6.7), of which there is one at most
abbrev pub class_named : Program → List ℕ → Option Class
class_named p name = find (is_program_class_named name) p.classes.items

-- the `main` of the class of the program with this qualified name
abbrev pub main_of : Program → List ℕ → Option MethodId
main_of p name = main_in p (class_named p name)
