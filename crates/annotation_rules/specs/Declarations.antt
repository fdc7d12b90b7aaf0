-- Where each annotation may stand, and what may stand there once.
use Rattle.std.specs.Prelude.{ℕ, ◌+◌, Bool, ◌&&◌, ◌||◌, not, Option, Some, None, List, [], ◌∷◌, ◌++◌, drop, position}
use Rattle.std.specs.List.{flat_map, list_any}
use Rattle.rlc_base.specs.declared.code.Code.TheVariants as refused
use Rattle.rlc_base.specs.declared.faults.Refusal.{Refusal}
use Rattle.program_model.specs.declared.program.RawAnno.{RawAnno}
use Rattle.refusal_order.specs.Refusals.{where_true}
use Rattle.annotation_kinds.specs.declared.annotation.AnnotationKind.{AnnotationKind}
use Rattle.annotation_kinds.specs.declared.annotation.AnnotationKind.TheVariants as annotations
use Rattle.annotation_rules.specs.declared.declaration.Declaration.{Declaration}
use Rattle.annotation_rules.specs.declared.declaration.Declaration.TheVariants as declarations
use Rattle.annotation_kinds.specs.Annotations.{is_of, is_read, kinds}

-- the annotations that may stand on a declaration
abbrev pub allowed : Declaration → List AnnotationKind
allowed declarations.Class = annotations.InheritableMustCall ∷ []
allowed declarations.InstanceField = annotations.Owning ∷ annotations.NotOwning ∷ []
allowed declarations.StaticField = []
allowed declarations.Method =
    annotations.Owning ∷ annotations.NotOwning ∷ annotations.MustCallAlias ∷ annotations.CreatesMustCallFor ∷ annotations.EnsuresCalledMethods
    ∷ annotations.EnsuresCalledMethodsOnException ∷ []
allowed declarations.LibraryFactory =
    annotations.Owning ∷ annotations.NotOwning ∷ annotations.MustCallAlias ∷ annotations.CreatesMustCallFor ∷ annotations.EnsuresCalledMethods
    ∷ annotations.EnsuresCalledMethodsOnException ∷ annotations.MustCall ∷ []
allowed declarations.Constructor = annotations.MustCallAlias ∷ annotations.EnsuresCalledMethods ∷ annotations.EnsuresCalledMethodsOnException ∷ []
allowed declarations.LibraryConstructor =
    annotations.MustCallAlias ∷ annotations.EnsuresCalledMethods ∷ annotations.EnsuresCalledMethodsOnException ∷ annotations.MustCall ∷ []
allowed declarations.Parameter = annotations.Owning ∷ annotations.NotOwning ∷ annotations.MustCallAlias ∷ annotations.CalledMethods ∷ []
allowed declarations.Receiver = annotations.MustCallAlias ∷ []
allowed declarations.Variable = []

abbrev pub is_allowed : Declaration → RawAnno → Bool
is_allowed d a = list_any (λ kind. is_of kind a) (allowed d)

-- the annotation is one that is read, and stands where it may not, or with another value
abbrev pub is_wrong : Declaration → RawAnno → Bool
is_wrong d a = is_read a && not (is_allowed d a && a.shaped)

-- it speaks of who has the obligation
abbrev pub speaks_of_owning : RawAnno → Bool
speaks_of_owning a = is_of annotations.Owning a || is_of annotations.NotOwning a

-- the refusal of an annotation, where its case holds
abbrev pub bad_annotation : Bool → RawAnno → List Refusal
bad_annotation holds a = where_true holds refused.BadAnno a.pos

abbrev pub behind : Option ℕ → List RawAnno → List RawAnno
behind None annos = []
behind (Some i) annos = drop (i + 1) annos

-- those that pass the test behind the first that does
abbrev pub repeats : (RawAnno → Bool) → List RawAnno → List Refusal
repeats test annos = flat_map (λ a. bad_annotation (test a) a) (behind (position test annos) annos)

-- the annotations of a declaration that are refused: one in a wrong place or with another value, one that stands there twice,
-- and `@Owning` with `@NotOwning`
abbrev pub declaration_cases : Declaration → List RawAnno → List Refusal
declaration_cases d annos =
    flat_map (λ a. bad_annotation (is_wrong d a) a) annos
    ++ flat_map (λ kind. repeats (is_of kind) annos) kinds
    ++ repeats speaks_of_owning annos
