-- A variable as the table of a body keeps it.
use Rattle.std.specs.Prelude.{ℕ, Option, Some, None, List, [], ◌∷◌, map}
use Rattle.std.specs.List.{flat_map}
use Rattle.rlc_base.specs.declared.place.Pos.{Pos}
use Rattle.program_model.specs.declared.kinds.VType.{VType}
use Rattle.program_model.specs.declared.tree.Var.{Var}
use Rattle.java_syntax.specs.declared.names.Name.{Name}
use Rattle.java_syntax.specs.AnnotationTrees.{ModifierTree}
use Rattle.java_syntax.specs.AnnotationTrees as words
use Rattle.java_annotations.specs.Annotations.{Annotation, annotation_in, annotation_of}

pub record BodyVariable : Type 0 where
  pub name : List ℕ
  pub vtype : VType
  -- those that stand before its declaration, in order
  pub annotations : List Annotation
  -- the place of the declared name
  pub pos : Pos

-- what the table has
abbrev pub variable_in : Var → BodyVariable
variable_in x = record { name = x.name; vtype = x.vtype; annotations = map annotation_in x.annos.items; pos = x.pos }

-- what is written
abbrev pub annotation_among : ModifierTree → List Annotation
annotation_among (words.Annotated a) = annotation_of a ∷ []
annotation_among words.Public = []
annotation_among words.Protected = []
annotation_among words.Private = []
annotation_among words.Static = []
annotation_among words.Final = []
annotation_among words.Abstract = []

abbrev pub annotations_among : List ModifierTree → List Annotation
annotations_among modifiers = flat_map annotation_among modifiers

abbrev pub variable_with : List ModifierTree → Name → VType → BodyVariable
variable_with modifiers name t = record { name = name.text; vtype = t; annotations = annotations_among modifiers; pos = name.pos }

-- the variable, where its type is not refused
abbrev pub declared : List ModifierTree → Name → Option VType → List BodyVariable
declared modifiers name None = []
declared modifiers name (Some t) = variable_with modifiers name t ∷ []
