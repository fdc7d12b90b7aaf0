-- The annotations that are read (Checker Framework manual, chapters Must Call Checker, Called Methods Checker and Resource Leak
-- Checker), each known by the last identifier of its name, and the texts that they hold.
use Rattle.std.specs.Prelude.{ℕ, Bool, ◌||◌, Option, Some, None, List, [], ◌∷◌, filter, codes, if◌then◌else◌}
use Rattle.std.specs.List.{find, list_any}
use Rattle.std.specs.Str.{bytes_eq}
use Rattle.program_model.specs.declared.program.RawAnno.{RawAnno}
use Rattle.program_model.specs.declared.program.RawArg.{RawArg}
use Rattle.annotation_kinds.specs.declared.annotation.AnnotationKind.{AnnotationKind}
use Rattle.annotation_kinds.specs.declared.annotation.AnnotationKind.TheVariants as annotations

abbrev pub name_of : AnnotationKind → List ℕ
name_of annotations.InheritableMustCall = codes "InheritableMustCall"
name_of annotations.MustCall = codes "MustCall"
name_of annotations.Owning = codes "Owning"
name_of annotations.NotOwning = codes "NotOwning"
name_of annotations.MustCallAlias = codes "MustCallAlias"
name_of annotations.CreatesMustCallFor = codes "CreatesMustCallFor"
name_of annotations.EnsuresCalledMethods = codes "EnsuresCalledMethods"
name_of annotations.EnsuresCalledMethodsOnException = codes "EnsuresCalledMethodsOnException"
name_of annotations.CalledMethods = codes "CalledMethods"

-- all that are read
abbrev pub kinds : List AnnotationKind
kinds =
    annotations.InheritableMustCall ∷ annotations.MustCall ∷ annotations.Owning ∷ annotations.NotOwning ∷ annotations.MustCallAlias
    ∷ annotations.CreatesMustCallFor ∷ annotations.EnsuresCalledMethods ∷ annotations.EnsuresCalledMethodsOnException ∷ annotations.CalledMethods ∷ []

abbrev pub first_named : List AnnotationKind → List ℕ → Option AnnotationKind
first_named all name = find (λ kind. bytes_eq name (name_of kind)) all

-- the kind of this name
abbrev pub kind_named : List ℕ → Option AnnotationKind
kind_named name = first_named kinds name

abbrev pub is_of : AnnotationKind → RawAnno → Bool
is_of kind a = bytes_eq a.name (name_of kind)

abbrev pub is_read : RawAnno → Bool
is_read a = list_any (λ kind. is_of kind a) kinds

-- the annotations of one kind
abbrev pub of_kind : AnnotationKind → List RawAnno → List RawAnno
of_kind kind annos = filter (is_of kind) annos

-- one of the kind stands there
abbrev pub is_marked : AnnotationKind → List RawAnno → Bool
is_marked kind annos = list_any (is_of kind) annos

abbrev pub first_of : AnnotationKind → List RawAnno → Option RawAnno
first_of kind annos = find (is_of kind) annos

abbrev pub argument_at : List RawArg → List ℕ → Option RawArg
argument_at arguments key = find (λ (x : RawArg). bytes_eq x.key key) arguments

abbrev pub values_in : Option RawArg → List (List ℕ)
values_in None = []
values_in (Some x) = x.values.items

-- the texts at a key: none where the annotation has not the form that belongs to its name
abbrev pub texts_at : RawAnno → List ℕ → List (List ℕ)
texts_at a key = if a.shaped then values_in (argument_at a.args.items key) else []

abbrev pub lists_by_value : RawAnno → Bool
lists_by_value a = is_of annotations.InheritableMustCall a || is_of annotations.MustCall a || is_of annotations.CalledMethods a

abbrev pub lists_by_methods : RawAnno → Bool
lists_by_methods a = is_of annotations.EnsuresCalledMethods a || is_of annotations.EnsuresCalledMethodsOnException a

-- the names of methods that an annotation lists, from left to right
abbrev pub names_listed : RawAnno → List (List ℕ)
names_listed a = if lists_by_value a then texts_at a (codes "value") else (if lists_by_methods a then texts_at a (codes "methods") else [])
