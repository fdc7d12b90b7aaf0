-- Names of classes outside of bodies that mean no class, or two.
use Rattle.std.specs.Prelude.{List, [], ◌∷◌, ◌++◌, flat_map}
use Rattle.rlc_base.specs.declared.code.Code.TheVariants as refused
use Rattle.rlc_base.specs.declared.faults.Refusal.{Refusal}
use Rattle.rlc_base.specs.declared.place.Pos.{Pos}
use Rattle.java_syntax.specs.declared.names.Name.{Name}
use Rattle.program_model.specs.Lookups.{optional}
use Rattle.refusal_order.specs.Refusals.{refused_at}
use Rattle.class_names.specs.declared.class_name.ClassName.{ClassName}
use Rattle.class_names.specs.declared.meaning.Meaning.{Meaning}
use Rattle.class_names.specs.declared.meaning.Meaning.TheVariants.{Named, NoClass, TwoClasses}
use Rattle.class_names.specs.Meanings.{CompilationUnit, meaning_of}
use Rattle.class_order.specs.Declarations.{Declaration}

abbrev pub unknown_at : Pos → Meaning → List Refusal
unknown_at pos (Named c) = []
unknown_at pos NoClass = refused_at refused.UnknownType pos ∷ []
unknown_at pos TwoClasses = refused_at refused.UnknownType pos ∷ []

-- the refusal of a name, at the name
abbrev pub unknown_name : List ClassName → CompilationUnit → Name → List Refusal
unknown_name classes u n = unknown_at n.pos (meaning_of classes u n.text)

abbrev pub unknown_names : List ClassName → CompilationUnit → List Name → List Refusal
unknown_names classes u names = flat_map (unknown_name classes u) names

-- what a class extends and implements (JLS 8.1.4, 8.1.5, 9.1.3)
abbrev pub header_names : Declaration → List Name
header_names d = optional d.class_tree.superclass ++ d.class_tree.interfaces.items

abbrev pub unknown_supers : List ClassName → Declaration → List Refusal
unknown_supers classes d = unknown_names classes d.unit (header_names d)

-- the refusals of the names of super types of all classes
abbrev pub unknown_cases : List ClassName → List Declaration → List Refusal
unknown_cases classes order = flat_map (unknown_supers classes) order
