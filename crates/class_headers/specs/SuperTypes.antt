-- The direct super types of classes (JLS 8.1.4, 8.1.5, 9.1.3), and what stands above a class.
use Rattle.std.specs.Prelude.{◌<◌, ◌+◌, ℕ, Bool, true, false, Option, Some, None, List, [], ◌∷◌, ◌++◌, map, flat_map, length, slice_get, Contains, if◌then◌else◌}
use Rattle.java_syntax.specs.declared.names.Name.{Name}
use Rattle.program_model.specs.declared.kinds.ClassId.{ClassId}
use Rattle.program_model.specs.SuperTests.{is_class}
use Rattle.program_model.specs.Lookups.{optional}
use Rattle.class_names.specs.declared.class_name.ClassName.{ClassName}
use Rattle.class_names.specs.declared.meaning.Meaning.{Meaning}
use Rattle.class_names.specs.declared.meaning.Meaning.TheVariants.{Named, NoClass, TwoClasses}
use Rattle.class_names.specs.Meanings.{CompilationUnit, meaning_of}
use Rattle.class_order.specs.Declarations.{Declaration}
use Rattle.class_headers.specs.declared.supers.Supers.{Supers}

abbrev pub named_class : Meaning → Option ClassId
named_class (Named c) = Some c
named_class NoClass = None
named_class TwoClasses = None

-- the class that a name means
abbrev pub class_named : List ClassName → CompilationUnit → Name → Option ClassId
class_named classes u n = named_class (meaning_of classes u n.text)

-- a class that names no super class has `Object`, except `Object` itself and an interface (JLS 8.1.4, 9.1.3)
abbrev pub implied_class : ClassId → ClassId → Bool → Option ClassId
implied_class object c true = None
implied_class object c false = if is_class c object then None else Some object

abbrev pub super_class : List ClassName → ClassId → ClassId → Declaration → Option Name → Option ClassId
super_class classes object c d None = implied_class object c d.class_tree.is_interface
super_class classes object c d (Some n) = class_named classes d.unit n

abbrev pub super_interfaces : List ClassName → CompilationUnit → List Name → List ClassId
super_interfaces classes u names = flat_map (λ n. optional (class_named classes u n)) names

-- the super types that a class names or that are implied
pub record SuperTypes : Type 0 where
  pub super_class : Option ClassId
  pub interfaces : List ClassId
  pub is_interface : Bool

abbrev pub supers_of : Supers → SuperTypes
supers_of s = record { super_class = s.super_class; interfaces = s.interfaces.items; is_interface = s.is_interface }

-- those of the class with this number
abbrev pub declared_supers : List ClassName → ClassId → ClassId → Declaration → SuperTypes
declared_supers classes object c d = record { super_class = super_class classes object c d d.class_tree.superclass; interfaces = super_interfaces classes d.unit d.class_tree.interfaces.items; is_interface = d.class_tree.is_interface }

-- `Object` is right above each interface (JLS 4.10.2)
abbrev pub object_above : ClassId → Bool → List ClassId
object_above object true = object ∷ []
object_above object false = []

abbrev pub direct_of : ClassId → SuperTypes → List ClassId
direct_of object s = optional s.super_class ++ s.interfaces ++ object_above object s.is_interface

abbrev pub listed_at : Option (List ClassId) → List ClassId
listed_at None = []
listed_at (Some cs) = cs

-- what stands right above a class, where `direct` lists that of each class in class order
abbrev pub right_above : List (List ClassId) → ClassId → List ClassId
right_above direct c = listed_at (slice_get direct c.0)

-- `c` is `d` or stands under it: a chain of direct super types leads to `d`
pub data IsUnder (direct : List (List ClassId)) : ClassId → ClassId → Type 0 where
  itself : (c : ClassId) → IsUnder direct c c
  above : (c e d : ClassId) → Contains (right_above direct c) e → IsUnder direct e d → IsUnder direct c d

-- a chain of direct super types leads from the class to itself
abbrev pub IsAboveItself : List (List ClassId) → ClassId → Type 0
IsAboveItself direct c = (e : ClassId) × Contains (right_above direct c) e × IsUnder direct e c

-- all that stands right above a class is a class too
abbrev pub AreKnown : List (List ClassId) → Type 0
AreKnown direct = (c d : ClassId) → Contains (right_above direct c) d → d.0 < length direct

-- the super types of the classes, the first of which has the number `first`
abbrev pub supers_from : ℕ → List ClassName → ClassId → List Declaration → List SuperTypes
supers_from first classes object [] = []
supers_from first classes object (d ∷ ds) = declared_supers classes object (record { 0 = first }) d ∷ supers_from (first + 1) classes object ds

abbrev pub all_supers : List ClassName → ClassId → List Declaration → List SuperTypes
all_supers classes object order = supers_from 0 classes object order

-- what stands right above each class
abbrev pub all_direct : ClassId → List SuperTypes → List (List ClassId)
all_direct object supers = map (direct_of object) supers
