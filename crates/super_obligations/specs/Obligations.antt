-- A super class of the library whose must-call set is not empty (Checker Framework manual, Must Call Checker).
use Rattle.std.specs.Prelude.{◌≡◌, ℕ, Bool, true, false, not, ◌&&◌, Option, Some, None, List, [], ◌∷◌, ◌++◌, length, map, slice_get}
use Rattle.std.specs.List.{range_with_len}
use Rattle.rlc_base.specs.declared.code.Code.TheVariants as refused
use Rattle.rlc_base.specs.declared.faults.Refusal.{Refusal}
use Rattle.program_model.specs.declared.kinds.ClassId.{ClassId}
use Rattle.program_model.specs.declared.program.CoreClasses.{CoreClasses}
use Rattle.program_model.specs.Lookups.{optional}
use Rattle.annotation_kinds.specs.declared.annotation.AnnotationKind.TheVariants as annotations
use Rattle.java_annotations.specs.Annotations.{Annotation, annotations_of, first_of_kind, texts_in}
use Rattle.refusal_order.specs.Refusals.{refused_at}
use Rattle.class_order.specs.Cases.{IsAmong}
use Rattle.class_order.specs.Declarations.{Declaration, place_of}
use Rattle.class_headers.specs.SuperTypes.{IsUnder, SuperTypes}
use Rattle.super_checks.specs.SuperCases.{supers_in}

-- ---- the sets that classes say themselves

-- the annotation by which a class says its own set; of several the first counts
abbrev pub own_annotation : Declaration → Option Annotation
own_annotation d = first_of_kind annotations.InheritableMustCall (annotations_of d.class_tree.modifiers.items)

abbrev pub has_text : List (List ℕ) → Bool
has_text [] = false
has_text (text ∷ more) = true

-- whether the set that an annotation says has a name. An annotation of another form than belongs to it lists none
abbrev pub own_set_by : Option Annotation → Option Bool
own_set_by None = None
own_set_by (Some a) = Some (has_text (texts_in a))

-- none where a class says no set of its own, and else whether its own set has a name
abbrev pub own_set : Declaration → Option Bool
own_set d = own_set_by (own_annotation d)

abbrev pub own_sets : List Declaration → List (Option Bool)
own_sets order = map own_set order

-- ---- the sets that make up another

-- those of the super class and of the interfaces, and no other's where a class says its own
abbrev pub sources_by : Option Bool → SuperTypes → List ClassId
sources_by None s = optional s.super_class ++ s.interfaces
sources_by (Some has_name) s = []

-- the same of all classes, in class order
abbrev pub set_sources : List (Option Bool) → List SuperTypes → List (List ClassId)
set_sources [] ss = []
set_sources (o ∷ os) [] = []
set_sources (o ∷ os) (s ∷ ss) = sources_by o s ∷ set_sources os ss

abbrev pub has_name : Option Bool → Bool
has_name None = false
has_name (Some b) = b

abbrev pub says_name_at : Option (Option Bool) → Bool
says_name_at None = false
says_name_at (Some o) = has_name o

-- the class says a set of its own that has a name
abbrev pub says_name : List (Option Bool) → ClassId → Bool
says_name owns c = says_name_at (slice_get owns c.0)

-- the must-call set of the class has a name: the class says one itself, or one of those whose sets make up its own does
pub record HasObligation (owns : List (Option Bool)) (supers : List SuperTypes) (c : ClassId) : Type 0 where
  pub source : ClassId
  pub inherited : IsUnder (set_sources owns supers) c source
  pub said : says_name owns source ≡ true

-- ---- the refusal

abbrev pub is_library_at : Option Declaration → Bool
is_library_at None = false
is_library_at (Some d) = d.unit.library

abbrev pub is_library : List Declaration → ClassId → Bool
is_library order c = is_library_at (slice_get order c.0)

-- a program class with a super class of the library
abbrev pub is_candidate : List Declaration → Declaration → ClassId → Bool
is_candidate order d extended = not d.unit.library && is_library order extended

-- a program class extends a class of the library whose set is not empty
pub record IsBurdened (order : List Declaration) (owns : List (Option Bool)) (supers : List SuperTypes) (d : Declaration) (extended : ClassId) : Type 0 where
  pub candidate : is_candidate order d extended ≡ true
  pub obligation : HasObligation owns supers extended

abbrev pub IsObligationOf : List Declaration → List (Option Bool) → List SuperTypes → Declaration → Option ClassId → Refusal → Type 0
IsObligationOf order owns supers d None r = ⊥
IsObligationOf order owns supers d (Some extended) r = IsBurdened order owns supers d extended × (r ≡ refused_at refused.BadSuper (place_of d))

abbrev pub IsObligationWith : List Declaration → List (Option Bool) → List SuperTypes → Declaration → Option SuperTypes → Refusal → Type 0
IsObligationWith order owns supers d None r = ⊥
IsObligationWith order owns supers d (Some s) r = IsObligationOf order owns supers d s.super_class r

abbrev pub IsObligationIn : List Declaration → List (Option Bool) → List SuperTypes → Option SuperTypes → Option Declaration → Refusal → Type 0
IsObligationIn order owns supers s None r = ⊥
IsObligationIn order owns supers s (Some d) r = IsObligationWith order owns supers d s r

-- of the class with this number
abbrev pub IsObligationAt : List Declaration → List (Option Bool) → List SuperTypes → ℕ → Refusal → Type 0
IsObligationAt order owns supers n r = IsObligationIn order owns supers (slice_get supers n) (slice_get order n) r

-- a program class extends a class of the library whose set is not empty: the refusal is at the class
abbrev pub IsObligationCase : List Declaration → CoreClasses → Refusal → Type 0
IsObligationCase order core r = IsAmong (IsObligationAt order (own_sets order) (supers_in order core)) (range_with_len 0 (length order)) r
