-- What a throws clause may not name (JLS 8.4.6), and what the classes of the core library are (JLS 4.3.3, 11.1.1, 15.6).
use Rattle.std.specs.Prelude.{◌≡◌, ◌&&◌, Bool, true, false, not, is_some, Option, Some, None, List, [], ◌∷◌, ◌++◌, flat_map, slice_get}
use Rattle.std.specs.List.{All}
use Rattle.rlc_base.specs.declared.code.Code.TheVariants as refused
use Rattle.rlc_base.specs.declared.faults.Refusal.{Refusal}
use Rattle.java_syntax.specs.declared.names.Name.{Name}
use Rattle.program_model.specs.declared.kinds.ClassId.{ClassId}
use Rattle.program_model.specs.declared.program.CoreClasses.{CoreClasses}
use Rattle.refusal_order.specs.Refusals.{refused_at, where_true}
use Rattle.class_names.specs.declared.class_name.ClassName.{ClassName}
use Rattle.class_names.specs.Meanings.{CompilationUnit}
use Rattle.class_order.specs.Cases.{IsAmong}
use Rattle.class_order.specs.Declarations.{Declaration, class_names, place_of}
use Rattle.class_headers.specs.Cases.{bad_super_cases, is_final}
use Rattle.class_headers.specs.SuperTypes.{IsUnder, SuperTypes, all_direct, all_supers, class_named}
use Rattle.class_declarations.specs.Members.{Written, throws_of, written_in}

-- the super types of all classes, and what stands right above each
abbrev pub supers_in : List Declaration → CoreClasses → List SuperTypes
supers_in order core = all_supers (class_names order) core.object order

abbrev pub direct_in : List Declaration → CoreClasses → List (List ClassId)
direct_in order core = all_direct core.object (supers_in order core)

-- ---- super types of a wrong kind (JLS 8.1.4, 8.1.5, 9.1.3)

-- an interface extends a class
abbrev pub class_above_interface : Declaration → List Refusal
class_above_interface d = where_true (d.class_tree.is_interface && is_some d.class_tree.superclass) refused.BadSuper (place_of d)

abbrev pub classes_above_interfaces : List Declaration → List Refusal
classes_above_interfaces order = flat_map class_above_interface order

abbrev pub kind_cases_by : List Declaration → List SuperTypes → List Refusal
kind_cases_by order supers = bad_super_cases order supers ++ classes_above_interfaces order

abbrev pub kind_cases : List Declaration → CoreClasses → List Refusal
kind_cases order core = kind_cases_by order (supers_in order core)

-- ---- throws clauses

-- what a name of a throws clause means is not under Throwable: the refusal is at the name
abbrev pub IsUnfit : List (List ClassId) → ClassId → Name → Option ClassId → Refusal → Type 0
IsUnfit direct throwable name None r = ⊥
IsUnfit direct throwable name (Some thrown) r = (IsUnder direct thrown throwable → ⊥) × (r ≡ refused_at refused.BadSuper name.pos)

abbrev pub IsThrowsAt : List ClassName → List (List ClassId) → ClassId → CompilationUnit → Name → Refusal → Type 0
IsThrowsAt classes direct throwable u name r = IsUnfit direct throwable name (class_named classes u name) r

-- one of the names of the clause of a method or constructor
abbrev pub IsThrowsIn : List ClassName → List (List ClassId) → ClassId → CompilationUnit → Written → Refusal → Type 0
IsThrowsIn classes direct throwable u w r = IsAmong (IsThrowsAt classes direct throwable u) (throws_of w) r

-- of one of the methods and constructors of a class
abbrev pub IsThrowsOf : List ClassName → List (List ClassId) → ClassId → Declaration → Refusal → Type 0
IsThrowsOf classes direct throwable d r = IsAmong (IsThrowsIn classes direct throwable d.unit) (written_in classes d) r

-- a throws clause names a class that is not under Throwable: the refusal is at the name
abbrev pub IsThrowsCase : List Declaration → CoreClasses → Refusal → Type 0
IsThrowsCase order core r = IsAmong (IsThrowsOf (class_names order) (direct_in order core) core.throwable) order r

-- ---- the core library

-- errors and unchecked exceptions are Throwables, and the exceptions that operators throw are unchecked
pub record HasExceptions (direct : List (List ClassId)) (core : CoreClasses) : Type 0 where
  pub error : IsUnder direct core.error core.throwable
  pub runtime_exception : IsUnder direct core.runtime_exception core.throwable
  pub arithmetic_exception : IsUnder direct core.arithmetic_exception core.runtime_exception
  pub array_index_exception : IsUnder direct core.array_index_exception core.runtime_exception
  pub class_cast_exception : IsUnder direct core.class_cast_exception core.runtime_exception
  pub negative_array_size_exception : IsUnder direct core.negative_array_size_exception core.runtime_exception
  pub null_pointer_exception : IsUnder direct core.null_pointer_exception core.runtime_exception

-- a final class of the library
abbrev pub is_final_in_library : Declaration → Bool
is_final_in_library d = d.unit.library && (not d.class_tree.is_interface && is_final d.class_tree)

abbrev pub is_final_at : Option Declaration → Bool
is_final_at None = false
is_final_at (Some d) = is_final_in_library d

-- a class of the library
abbrev pub is_library_at : Option Declaration → Bool
is_library_at None = false
is_library_at (Some d) = d.unit.library

-- all these classes are of the library
abbrev pub AreOfLibrary : List Declaration → List ClassId → Type 0
AreOfLibrary order classes = All (λ (c : ClassId). is_library_at (slice_get order c.0) ≡ true) classes

-- the roots of the exceptions that any call may throw (JLS 11.1.1), and the exceptions that operators throw (JLS 15.6)
abbrev pub language_exceptions : CoreClasses → List ClassId
language_exceptions k =
    k.error ∷ k.runtime_exception ∷ k.arithmetic_exception ∷ k.array_index_exception ∷ k.class_cast_exception ∷ k.negative_array_size_exception
    ∷ k.null_pointer_exception ∷ []

-- String is a final class of the library (JLS 4.3.3, 8.1.1.2), and no class of exceptions (JLS 11.1.1)
pub record HasStringClass (order : List Declaration) (direct : List (List ClassId)) (core : CoreClasses) : Type 0 where
  pub final : is_final_at (slice_get order core.string.0) ≡ true
  pub no_exception : IsUnder direct core.string core.throwable → ⊥

-- the classes of the core library are as the language says
pub record IsCoreLibrary (order : List Declaration) (direct : List (List ClassId)) (core : CoreClasses) : Type 0 where
  pub exceptions : HasExceptions direct core
  -- the exceptions that the language itself throws are classes of the library
  pub language : AreOfLibrary order (language_exceptions core)
  -- Object, which stands above all classes, is one of the library (JLS 4.3.2)
  pub object : is_library_at (slice_get order core.object.0) ≡ true
  pub string : HasStringClass order direct core

-- the refusal of another core library: it has no place in its file
abbrev pub core_misplaced : Refusal
core_misplaced = refused_at refused.BadSuper (record { file = 0; line = 0; col = 0 })

abbrev pub IsCoreCase : List Declaration → CoreClasses → Refusal → Type 0
IsCoreCase order core r = (IsCoreLibrary order (direct_in order core) core → ⊥) × (r ≡ core_misplaced)
