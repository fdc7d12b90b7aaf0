-- The table of classes by their headers: what each is, extends and implements, and what stands above it. Members come later.
use Rattle.std.specs.Prelude.{◌≡◌, ◌↔◌, ℕ, Bool, ◌||◌, Option, List, [], ◌∷◌, map, flat_map, Contains, slice_get, Some}
use Rattle.std.specs.List.Sorted.{IsStrictlyIncreasing}
use Rattle.rlc_base.specs.declared.place.Pos.{Pos}
use Rattle.program_model.specs.declared.kinds.ClassId.{ClassId}
use Rattle.program_model.specs.declared.program.Class.{Class}
use Rattle.program_model.specs.Hierarchy as hierarchy
use Rattle.program_model.specs.Lookups.{optional}
use Rattle.class_names.specs.declared.class_name.ClassName.{ClassName}
use Rattle.class_names.specs.ClassNames.{class_of_name}
use Rattle.class_headers.specs.Cases.{is_abstract, is_final}
use Rattle.class_order.specs.Declarations.{Declaration, name_of, place_of}
use Rattle.class_headers.specs.SuperTypes.{IsUnder, SuperTypes}

-- what a class is
pub record Header : Type 0 where
  pub name : List ℕ
  pub pos : Pos
  pub library : Bool
  pub is_interface : Bool
  pub is_abstract : Bool
  pub is_final : Bool
  pub super_class : Option ClassId
  pub interfaces : List ClassId

abbrev pub header_of : Class → Header
header_of k = record { name = k.name; pos = k.pos; library = k.library; is_interface = k.interface; is_abstract = k.is_abstract; is_final = k.is_final; super_class = k.sup; interfaces = k.faces.items }

-- what a class is by its declaration; an interface is abstract (JLS 9.1.1.1)
abbrev pub declared_header : Declaration → SuperTypes → Header
declared_header d s = record { name = name_of d; pos = place_of d; library = d.unit.library; is_interface = d.class_tree.is_interface; is_abstract = d.class_tree.is_interface || is_abstract d.class_tree; is_final = is_final d.class_tree; super_class = s.super_class; interfaces = s.interfaces }

-- the classes are these declarations with these super types
abbrev pub declared_headers : List Declaration → List SuperTypes → List Header
declared_headers [] ss = []
declared_headers (d ∷ ds) [] = []
declared_headers (d ∷ ds) (s ∷ ss) = declared_header d s ∷ declared_headers ds ss

-- these are the class and all that stands above it, each once, in class order
pub record ListsAbove (direct : List (List ClassId)) (class' : ClassId) (classes : List ClassId) : Type 0 where
  pub ordered : IsStrictlyIncreasing (map hierarchy.class_number classes)
  pub exact : (d : ClassId) → Contains classes d ↔ IsUnder direct class' d

-- each class of a table lists what stands above it
abbrev pub AllList : List (List ClassId) → List Class → Type 0
AllList direct classes = (c : ClassId) (k : Class) → slice_get classes c.0 ≡ Some k → ListsAbove direct c k.above.items

-- the classes that names mean; a name that is no class has no effect
abbrev pub classes_of_names : List ClassName → List (List ℕ) → List ClassId
classes_of_names classes names = flat_map (λ n. optional (class_of_name classes n)) names
