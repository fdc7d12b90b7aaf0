-- Annotations as the table keeps them (JLS 9.7). Each is known by the last identifier of its name, and kept with the texts that
-- stand in it, if its arguments have the form that belongs to its name.
use Rattle.std.specs.Prelude.{ℕ, Bool, ◌==◌, Option, List, [], ◌∷◌, map, flat_map, if◌then◌else◌}
use Rattle.std.specs.List.{after_last, find, list_any}
use Rattle.std.specs.Str.{bytes_eq}
use Rattle.rlc_base.specs.declared.place.Pos.{Pos}
use Rattle.java_syntax.specs.declared.annotation_trees.Modifier.{Modifier}
use Rattle.java_syntax.specs.declared.annotation_trees.Modifier.TheVariants as modifiers
use Rattle.java_syntax.specs.AnnotationTrees as trees
use Rattle.java_syntax.specs.AnnotationTrees.{AnnoTree, ArgumentTree, anno_of}
use Rattle.program_model.specs.declared.program.RawAnno.{RawAnno}
use Rattle.program_model.specs.declared.program.RawArg.{RawArg}
use Rattle.annotation_kinds.specs.declared.annotation.AnnotationKind.{AnnotationKind}
use Rattle.annotation_kinds.specs.Annotations.{name_of}
use Rattle.java_annotations.specs.Forms.{argument_form, argument_list, is_shaped, key_text, texts_of}

pub record Argument : Type 0 where
  pub key : List ℕ
  pub texts : List (List ℕ)

pub record Annotation : Type 0 where
  pub name : List ℕ
  pub arguments : List Argument
  pub shaped : Bool
  pub pos : Pos

-- ---- what the table has

abbrev pub argument_in : RawArg → Argument
argument_in x = record { key = x.key; texts = x.values.items }

abbrev pub annotation_in : RawAnno → Annotation
annotation_in a = record { name = a.name; arguments = map argument_in a.args.items; shaped = a.shaped; pos = a.pos }

-- ---- what is written

abbrev pub argument_of : ArgumentTree → Argument
argument_of a = record { key = key_text a.key; texts = texts_of a.value }

-- the last identifier of a name; the code of `.` is 46
abbrev pub last_identifier : List ℕ → List ℕ
last_identifier name = after_last (λ b. b == 46) name

abbrev pub annotation_with : List ℕ → Bool → List ArgumentTree → Pos → Annotation
annotation_with name shaped all pos = record { name = name; arguments = (if shaped then map argument_of all else []); shaped = shaped; pos = pos }

abbrev pub annotation_of : AnnoTree → Annotation
annotation_of (trees.Annotation name all pos) =
    annotation_with (last_identifier name.text) (is_shaped (last_identifier name.text) (map argument_form (argument_list all))) (argument_list all) pos

abbrev pub annotations_of_modifier : Modifier → List Annotation
annotations_of_modifier (modifiers.Annotation a) = annotation_of (anno_of a) ∷ []
annotations_of_modifier modifiers.Public = []
annotations_of_modifier modifiers.Protected = []
annotations_of_modifier modifiers.Private = []
annotations_of_modifier modifiers.Static = []
annotations_of_modifier modifiers.Final = []
annotations_of_modifier modifiers.Abstract = []

-- the annotations that stand before a declaration, in order
abbrev pub annotations_of : List Modifier → List Annotation
annotations_of all = flat_map annotations_of_modifier all

-- one of this kind stands there
abbrev pub is_annotated : AnnotationKind → List Annotation → Bool
is_annotated kind all = list_any (λ (a : Annotation). bytes_eq a.name (name_of kind)) all

abbrev pub first_of_kind : AnnotationKind → List Annotation → Option Annotation
first_of_kind kind all = find (λ (a : Annotation). bytes_eq a.name (name_of kind)) all

-- all texts of an annotation
abbrev pub texts_in : Annotation → List (List ℕ)
texts_in a = flat_map (λ (x : Argument). x.texts) a.arguments
