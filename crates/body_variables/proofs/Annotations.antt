-- The annotations among modifiers, as values in memory and as trees.
use Rattle.std.proofs.Common.{◌≡◌, ◌∙◌, ◌++◌, List, [], ◌∷◌, map, ap, refl}
use Rattle.java_syntax.specs.declared.annotation_trees.Modifier.{Modifier}
use Rattle.java_syntax.specs.declared.annotation_trees.Modifier.TheVariants as modifiers
use Rattle.java_syntax.specs.AnnotationTrees.{modifier_of}
use Rattle.java_annotations.specs.Annotations.{Annotation, annotations_of, annotations_of_modifier}
use Rattle.body_variables.specs.Declarations.{annotation_among, annotations_among}

one_modifier : (m : Modifier) → annotations_of_modifier m ≡ annotation_among (modifier_of m)
one_modifier (modifiers.Annotation a) = refl
one_modifier modifiers.Public = refl
one_modifier modifiers.Protected = refl
one_modifier modifiers.Private = refl
one_modifier modifiers.Static = refl
one_modifier modifiers.Final = refl
one_modifier modifiers.Abstract = refl

pub annotations_are_among : (ms : List Modifier) → annotations_of ms ≡ annotations_among (map modifier_of ms)
annotations_are_among [] = refl
annotations_are_among (m ∷ ms) = ap (λ (found : List Annotation). found ++ annotations_of ms) (one_modifier m) ∙ ap (λ (found : List Annotation). annotation_among (modifier_of m) ++ found) (annotations_are_among ms)
