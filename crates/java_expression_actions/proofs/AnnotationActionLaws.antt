-- What each action makes of a stack that begins with values of the kinds that it takes.
use Rattle.std.specs.Prelude.{◌≡◌, ℕ, List, ◌∷◌}
use Rattle.std.proofs.Common.{refl}
use Rattle.std.proofs.lemmas.List.{map-append}
use Rattle.java_syntax.specs.declared.actions.AnnotationAction.{AnnotationAction}
use Rattle.java_syntax.specs.declared.actions.AnnotationAction.TheVariants as action
use Rattle.java_values.specs.Values as kinds
use Rattle.java_values.specs.Values.{Value_of, ValueTree}
use Rattle.java_values.specs.Kinds.{◌▷◌, bottom, put, Fits}
use Rattle.java_values.specs.Outcomes.{Made, ◌>>=◌, IsNoMisfit}
use Rattle.java_values.proofs.Stacks.{meant_fits}
use Rattle.java_expression_actions.specs.AnnotationActions.{takes_annotation, leaves_annotation, act_annotation, perform_annotation}

pub at_no_arguments : (limit : ℕ) (rest : List ValueTree) → perform_annotation limit action.NoArguments rest ≡ (act_annotation limit action.NoArguments bottom >>= (λ ys. Made (put (leaves_annotation action.NoArguments) ys rest)))
unfolding perform_annotation
at_no_arguments limit rest = refl

pub at_annotation : (limit : ℕ) (arguments : Value_of kinds.arguments) (name : Value_of kinds.name) (sign : Value_of kinds.place) (rest : List ValueTree) → perform_annotation limit action.Annotation (kinds.AArguments arguments ∷ kinds.AName name ∷ kinds.APlace sign ∷ rest) ≡ (act_annotation limit action.Annotation (arguments ▷ name ▷ sign ▷ bottom) >>= (λ ys. Made (put (leaves_annotation action.Annotation) ys rest)))
unfolding perform_annotation
at_annotation limit arguments name sign rest = refl

pub at_pair : (limit : ℕ) (value : Value_of kinds.annotation_value) (key : Value_of kinds.name) (all : Value_of kinds.arguments) (rest : List ValueTree) → perform_annotation limit action.Pair (kinds.AAnnotationValue value ∷ kinds.AName key ∷ kinds.AArguments all ∷ rest) ≡ (act_annotation limit action.Pair (value ▷ key ▷ all ▷ bottom) >>= (λ ys. Made (put (leaves_annotation action.Pair) ys rest)))
unfolding perform_annotation
at_pair limit value key all rest = refl

pub at_single_value : (limit : ℕ) (value : Value_of kinds.annotation_value) (all : Value_of kinds.arguments) (rest : List ValueTree) → perform_annotation limit action.SingleValue (kinds.AAnnotationValue value ∷ kinds.AArguments all ∷ rest) ≡ (act_annotation limit action.SingleValue (value ▷ all ▷ bottom) >>= (λ ys. Made (put (leaves_annotation action.SingleValue) ys rest)))
unfolding perform_annotation
at_single_value limit value all rest = refl

pub at_expression_value : (limit : ℕ) (e : Value_of kinds.expression) (rest : List ValueTree) → perform_annotation limit action.ExpressionValue (kinds.AExpression e ∷ rest) ≡ (act_annotation limit action.ExpressionValue (e ▷ bottom) >>= (λ ys. Made (put (leaves_annotation action.ExpressionValue) ys rest)))
unfolding perform_annotation
at_expression_value limit e rest = refl

pub at_annotation_value : (limit : ℕ) (a : Value_of kinds.annotation) (rest : List ValueTree) → perform_annotation limit action.AnnotationValue (kinds.AAnnotation a ∷ rest) ≡ (act_annotation limit action.AnnotationValue (a ▷ bottom) >>= (λ ys. Made (put (leaves_annotation action.AnnotationValue) ys rest)))
unfolding perform_annotation
at_annotation_value limit a rest = refl

pub at_no_values : (limit : ℕ) (rest : List ValueTree) → perform_annotation limit action.NoValues rest ≡ (act_annotation limit action.NoValues bottom >>= (λ ys. Made (put (leaves_annotation action.NoValues) ys rest)))
unfolding perform_annotation
at_no_values limit rest = refl

pub at_and_value : (limit : ℕ) (one : Value_of kinds.annotation_value) (all : Value_of kinds.annotation_values) (rest : List ValueTree) → perform_annotation limit action.AndValue (kinds.AAnnotationValue one ∷ kinds.AAnnotationValues all ∷ rest) ≡ (act_annotation limit action.AndValue (one ▷ all ▷ bottom) >>= (λ ys. Made (put (leaves_annotation action.AndValue) ys rest)))
unfolding perform_annotation
at_and_value limit one all rest = refl

pub at_list_value : (limit : ℕ) (all : Value_of kinds.annotation_values) (opened : Value_of kinds.place) (rest : List ValueTree) → perform_annotation limit action.ListValue (kinds.AAnnotationValues all ∷ kinds.APlace opened ∷ rest) ≡ (act_annotation limit action.ListValue (all ▷ opened ▷ bottom) >>= (λ ys. Made (put (leaves_annotation action.ListValue) ys rest)))
unfolding perform_annotation
at_list_value limit all opened rest = refl

pub at_and_annotation : (limit : ℕ) (one : Value_of kinds.annotation) (all : Value_of kinds.annotations) (rest : List ValueTree) → perform_annotation limit action.AndAnnotation (kinds.AAnnotation one ∷ kinds.AAnnotations all ∷ rest) ≡ (act_annotation limit action.AndAnnotation (one ▷ all ▷ bottom) >>= (λ ys. Made (put (leaves_annotation action.AndAnnotation) ys rest)))
unfolding perform_annotation
at_and_annotation limit one all rest = refl

pub at_no_modifiers : (limit : ℕ) (rest : List ValueTree) → perform_annotation limit action.NoModifiers rest ≡ (act_annotation limit action.NoModifiers bottom >>= (λ ys. Made (put (leaves_annotation action.NoModifiers) ys rest)))
unfolding perform_annotation
at_no_modifiers limit rest = refl

pub at_annotation_modifier : (limit : ℕ) (one : Value_of kinds.annotation) (all : Value_of kinds.modifiers) (rest : List ValueTree) → perform_annotation limit action.AnnotationModifier (kinds.AAnnotation one ∷ kinds.AModifiers all ∷ rest) ≡ (act_annotation limit action.AnnotationModifier (one ▷ all ▷ bottom) >>= (λ ys. Made (put (leaves_annotation action.AnnotationModifier) ys rest)))
unfolding perform_annotation
at_annotation_modifier limit one all rest = refl

pub at_first_annotation : (limit : ℕ) (one : Value_of kinds.annotation) (rest : List ValueTree) → perform_annotation limit action.FirstAnnotation (kinds.AAnnotation one ∷ rest) ≡ (act_annotation limit action.FirstAnnotation (one ▷ bottom) >>= (λ ys. Made (put (leaves_annotation action.FirstAnnotation) ys rest)))
unfolding perform_annotation
at_first_annotation limit one rest = refl

pub at_public : (limit : ℕ) (all : Value_of kinds.modifiers) (rest : List ValueTree) → perform_annotation limit action.Public (kinds.AModifiers all ∷ rest) ≡ (act_annotation limit action.Public (all ▷ bottom) >>= (λ ys. Made (put (leaves_annotation action.Public) ys rest)))
unfolding perform_annotation
at_public limit all rest = refl

pub at_protected : (limit : ℕ) (all : Value_of kinds.modifiers) (rest : List ValueTree) → perform_annotation limit action.Protected (kinds.AModifiers all ∷ rest) ≡ (act_annotation limit action.Protected (all ▷ bottom) >>= (λ ys. Made (put (leaves_annotation action.Protected) ys rest)))
unfolding perform_annotation
at_protected limit all rest = refl

pub at_private : (limit : ℕ) (all : Value_of kinds.modifiers) (rest : List ValueTree) → perform_annotation limit action.Private (kinds.AModifiers all ∷ rest) ≡ (act_annotation limit action.Private (all ▷ bottom) >>= (λ ys. Made (put (leaves_annotation action.Private) ys rest)))
unfolding perform_annotation
at_private limit all rest = refl

pub at_static : (limit : ℕ) (all : Value_of kinds.modifiers) (rest : List ValueTree) → perform_annotation limit action.Static (kinds.AModifiers all ∷ rest) ≡ (act_annotation limit action.Static (all ▷ bottom) >>= (λ ys. Made (put (leaves_annotation action.Static) ys rest)))
unfolding perform_annotation
at_static limit all rest = refl

pub at_final : (limit : ℕ) (all : Value_of kinds.modifiers) (rest : List ValueTree) → perform_annotation limit action.Final (kinds.AModifiers all ∷ rest) ≡ (act_annotation limit action.Final (all ▷ bottom) >>= (λ ys. Made (put (leaves_annotation action.Final) ys rest)))
unfolding perform_annotation
at_final limit all rest = refl

pub at_abstract : (limit : ℕ) (all : Value_of kinds.modifiers) (rest : List ValueTree) → perform_annotation limit action.Abstract (kinds.AModifiers all ∷ rest) ≡ (act_annotation limit action.Abstract (all ▷ bottom) >>= (λ ys. Made (put (leaves_annotation action.Abstract) ys rest)))
unfolding perform_annotation
at_abstract limit all rest = refl

-- An action that makes something finds values of the kinds that it takes.
pub annotation_fits : (limit : ℕ) (a : AnnotationAction) (s : List ValueTree) → IsNoMisfit (perform_annotation limit a s) → Fits (takes_annotation a) s
unfolding perform_annotation
annotation_fits limit a s h = meant_fits (takes_annotation a) (leaves_annotation a) (act_annotation limit a) s h

pub ruleset argument_laws = (at_no_arguments, at_annotation, at_pair, at_single_value, at_expression_value, at_annotation_value, map-append)

pub ruleset value_laws = (at_no_values, at_and_value, at_list_value, at_and_annotation, at_first_annotation, map-append)

pub ruleset modifier_laws = (at_no_modifiers, at_annotation_modifier, at_public, at_protected, at_private, at_static, at_final, at_abstract)
