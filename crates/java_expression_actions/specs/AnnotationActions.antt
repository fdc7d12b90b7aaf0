-- The actions of annotations and modifiers: the kinds of the values that each takes, the top first, those that it leaves, and what it makes.
use Rattle.std.specs.Prelude.{ℕ, Bool, true, false, List, [], ◌∷◌, Some, None}
use Rattle.java_syntax.specs.AnnotationTrees.{ArgumentTree, AnnoValueTree, ModifierTree, Public, Protected, Private, Static, Final, Abstract}
use Rattle.java_syntax.specs.declared.actions.AnnotationAction.{AnnotationAction}
use Rattle.java_syntax.specs.declared.actions.AnnotationAction.TheVariants as action
use Rattle.java_values.specs.Values as kinds
use Rattle.java_values.specs.Values.{Kind, ValueTree}
use Rattle.java_values.specs.Kinds.{Values, ◌▷◌, bottom, taken, resume}
use Rattle.java_values.specs.Outcomes.{Outcome, Made, ◌>>=◌}
use Rattle.java_values.specs.Lists.{none_of, added}
use Rattle.java_nodes.specs.StatementParts.{annotation_node, argument_node, expression_value_node, annotation_value_node, list_value_node, modifier_node, place_of_annotation, word_node}

abbrev pub takes_annotation : AnnotationAction → List Kind
takes_annotation action.NoArguments = []
takes_annotation action.Annotation = kinds.arguments ∷ kinds.name ∷ kinds.place ∷ []
takes_annotation action.Pair = kinds.annotation_value ∷ kinds.name ∷ kinds.arguments ∷ []
takes_annotation action.SingleValue = kinds.annotation_value ∷ kinds.arguments ∷ []
takes_annotation action.ExpressionValue = kinds.expression ∷ []
takes_annotation action.AnnotationValue = kinds.annotation ∷ []
takes_annotation action.NoValues = []
takes_annotation action.AndValue = kinds.annotation_value ∷ kinds.annotation_values ∷ []
takes_annotation action.ListValue = kinds.annotation_values ∷ kinds.place ∷ []
takes_annotation action.AndAnnotation = kinds.annotation ∷ kinds.annotations ∷ []
takes_annotation action.NoModifiers = []
takes_annotation action.AnnotationModifier = kinds.annotation ∷ kinds.modifiers ∷ []
takes_annotation action.FirstAnnotation = kinds.annotation ∷ []
takes_annotation action.Public = kinds.modifiers ∷ []
takes_annotation action.Protected = kinds.modifiers ∷ []
takes_annotation action.Private = kinds.modifiers ∷ []
takes_annotation action.Static = kinds.modifiers ∷ []
takes_annotation action.Final = kinds.modifiers ∷ []
takes_annotation action.Abstract = kinds.modifiers ∷ []

abbrev pub leaves_annotation : AnnotationAction → List Kind
leaves_annotation action.NoArguments = kinds.arguments ∷ []
leaves_annotation action.Annotation = kinds.annotation ∷ []
leaves_annotation action.Pair = kinds.arguments ∷ []
leaves_annotation action.SingleValue = kinds.arguments ∷ []
leaves_annotation action.ExpressionValue = kinds.annotation_value ∷ []
leaves_annotation action.AnnotationValue = kinds.annotation_value ∷ []
leaves_annotation action.NoValues = kinds.annotation_values ∷ []
leaves_annotation action.AndValue = kinds.annotation_values ∷ []
leaves_annotation action.ListValue = kinds.annotation_value ∷ []
leaves_annotation action.AndAnnotation = kinds.annotations ∷ []
leaves_annotation action.NoModifiers = kinds.modifiers ∷ []
leaves_annotation action.AnnotationModifier = kinds.modifiers ∷ []
leaves_annotation action.FirstAnnotation = kinds.modifiers ∷ kinds.place ∷ []
leaves_annotation action.Public = kinds.modifiers ∷ []
leaves_annotation action.Protected = kinds.modifiers ∷ []
leaves_annotation action.Private = kinds.modifiers ∷ []
leaves_annotation action.Static = kinds.modifiers ∷ []
leaves_annotation action.Final = kinds.modifiers ∷ []
leaves_annotation action.Abstract = kinds.modifiers ∷ []

abbrev pub act_annotation : ℕ → (a : AnnotationAction) → Values (takes_annotation a) → Outcome (Values (leaves_annotation a))
act_annotation limit action.NoArguments bottom = Made ((none_of ArgumentTree) ▷ bottom)
act_annotation limit action.Annotation (arguments ▷ name ▷ sign ▷ bottom) = do
  e ← annotation_node limit name arguments sign
  Made (e ▷ bottom)
act_annotation limit action.Pair (value ▷ key ▷ all ▷ bottom) = Made ((added all (argument_node (Some key) value)) ▷ bottom)
act_annotation limit action.SingleValue (value ▷ all ▷ bottom) = Made ((added all (argument_node None value)) ▷ bottom)
act_annotation limit action.ExpressionValue (e ▷ bottom) = do
  e ← expression_value_node limit e
  Made (e ▷ bottom)
act_annotation limit action.AnnotationValue (a ▷ bottom) = do
  e ← annotation_value_node limit a
  Made (e ▷ bottom)
act_annotation limit action.NoValues bottom = Made ((none_of AnnoValueTree) ▷ bottom)
act_annotation limit action.AndValue (one ▷ all ▷ bottom) = Made ((added all one) ▷ bottom)
act_annotation limit action.ListValue (all ▷ opened ▷ bottom) = do
  e ← list_value_node limit all opened
  Made (e ▷ bottom)
act_annotation limit action.AndAnnotation (one ▷ all ▷ bottom) = Made ((added all one) ▷ bottom)
act_annotation limit action.NoModifiers bottom = Made ((none_of ModifierTree) ▷ bottom)
act_annotation limit action.AnnotationModifier (one ▷ all ▷ bottom) = Made ((added all (modifier_node one)) ▷ bottom)
act_annotation limit action.FirstAnnotation (one ▷ bottom) = Made ((added (none_of ModifierTree) (modifier_node one)) ▷ (place_of_annotation one.tree) ▷ bottom)
act_annotation limit action.Public (all ▷ bottom) = Made ((added all (word_node Public)) ▷ bottom)
act_annotation limit action.Protected (all ▷ bottom) = Made ((added all (word_node Protected)) ▷ bottom)
act_annotation limit action.Private (all ▷ bottom) = Made ((added all (word_node Private)) ▷ bottom)
act_annotation limit action.Static (all ▷ bottom) = Made ((added all (word_node Static)) ▷ bottom)
act_annotation limit action.Final (all ▷ bottom) = Made ((added all (word_node Final)) ▷ bottom)
act_annotation limit action.Abstract (all ▷ bottom) = Made ((added all (word_node Abstract)) ▷ bottom)

-- what an action does on a stack
unfoldable pub perform_annotation : ℕ → AnnotationAction → List ValueTree → Outcome (List ValueTree)
perform_annotation limit a s = resume (takes_annotation a) (leaves_annotation a) (act_annotation limit a) (taken (takes_annotation a) s)

-- the actions of an annotation, its arguments and their values
abbrev pub is_of_arguments : AnnotationAction → Bool
is_of_arguments action.NoArguments = true
is_of_arguments action.Annotation = true
is_of_arguments action.Pair = true
is_of_arguments action.SingleValue = true
is_of_arguments action.ExpressionValue = true
is_of_arguments action.AnnotationValue = true
is_of_arguments _ = false

-- the actions of lists of values and of annotations
abbrev pub is_of_values : AnnotationAction → Bool
is_of_values action.NoValues = true
is_of_values action.AndValue = true
is_of_values action.ListValue = true
is_of_values action.AndAnnotation = true
is_of_values action.FirstAnnotation = true
is_of_values _ = false

-- the actions of modifiers
abbrev pub is_of_modifiers : AnnotationAction → Bool
is_of_modifiers action.NoModifiers = true
is_of_modifiers action.AnnotationModifier = true
is_of_modifiers action.Public = true
is_of_modifiers action.Protected = true
is_of_modifiers action.Private = true
is_of_modifiers action.Static = true
is_of_modifiers action.Final = true
is_of_modifiers action.Abstract = true
is_of_modifiers _ = false
