-- The actions of annotations and modifiers.
use Rattle.std.specs.Prelude.{List, [], ◌∷◌, ◌++◌, None}
use Rattle.std.proofs.Common.{refl, sym, ◌∙◌, ap, append_assoc}
use Rattle.java_syntax.specs.declared.words.Word.{Word}
use Rattle.java_syntax.specs.declared.words.Word.TheVariants as word
use Rattle.java_syntax.specs.declared.actions.Action.{Action}
use Rattle.java_syntax.specs.declared.actions.Action.TheVariants as action
use Rattle.java_syntax.specs.declared.actions.AnnotationAction.{AnnotationAction}
use Rattle.java_syntax.specs.declared.actions.AnnotationAction.TheVariants as annotates
use Rattle.java_syntax.specs.Derives.{Lexeme}
use Rattle.java_syntax.specs.AnnotationTrees as tree
use Rattle.java_syntax.specs.AnnotationTrees.{AnnoTree}
use Rattle.java_nodes.specs.StatementParts.{place_of_annotation}
use Rattle.java_expression_actions.specs.AnnotationActions.{perform_annotation}
use Rattle.reading_laws.specs.Names as names
use Rattle.reading_laws.specs.Names.{Is, BeginAt}
use Rattle.reading_laws.specs.Annotations as annotations
use Rattle.reading_laws.specs.Annotations.{IsAnnotation, IsAnnotationValue, IsModifier}
use Rattle.reading_laws.proofs.Cells as cell
use Rattle.reading_laws.proofs.Cells.{Cell, word', start, value, plain, none, next, some, Holds, a_word, a_start, a_value, by_plain, is_none, is_first, is_next, is_some, graded, is_graded}
use Rattle.reading_laws.proofs.Outcomes.{made, node_twice}
use Rattle.reading_laws.proofs.Moves.{moved, Acts, at_place}
use Rattle.reading_laws.proofs.Tables.{a, annotation_takes, annotation_leaves, no_modifier_takes, no_modifier_leaves}

abbrev pub the : AnnotationAction → Action
the x = action.Annotate x

no_arguments : Acts [] (the annotates.NoArguments) (value (none cell.pairs) ∷ [])
unfolding perform_annotation
no_arguments file ns vs l to limit h = made _ (a_value _ (is_none (cell.pairs_empty 0)) h)

annotation : Acts (a cell.annotation_arguments ∷ a cell.name ∷ word' word.At ∷ start ∷ []) (the annotates.Annotation) (a cell.annotation ∷ [])
unfolding perform_annotation
annotation file ns vs l to limit (a_value x (by_plain (cell.are_annotation_arguments all {ts = us} g)) (a_value y (by_plain (cell.is_name n {ts = ts} k)) (a_word t q (a_start p b h)))) =
    node_twice limit _ _ _ _ (λ d. made _ (a_value _ (by_plain (cell.is_annotation _ (at_place t p b (λ p. IsAnnotation (tree.Annotation n (tree.arguments all.tree) p) (t ∷ ts ++ us)) (annotations.annotation t q k g)))) (moved h (ap (λ xs. t ∷ xs) (sym (append_assoc ts us to))))))

pair : Acts (a cell.annotation_value ∷ word' word.Assign ∷ a cell.identifier ∷ value (next cell.pairs word.Comma) ∷ []) (the annotates.Pair) (value (some cell.pairs word.Comma) ∷ [])
unfolding perform_annotation
pair file ns vs l to limit (a_value x (by_plain (cell.is_annotation_value v g)) (a_word e q (a_value y (by_plain (cell.is_identifier n r)) (a_value z (is_first (cell.pairs_empty d)) h)))) =
    made _ (a_value _ (is_some (cell.pairs_listed _ (annotations.first_pair n e r q g))) h)
pair file ns vs l to limit (a_value x (by_plain (cell.is_annotation_value v {ts = us} g)) (a_word e q (a_value y (by_plain (cell.is_identifier n r)) (a_value z (is_next c (cell.pairs_listed all {ts = ts} k) s) h)))) =
    made _ (a_value _ (is_some (cell.pairs_listed _ (annotations.further_pair c n e k s r q g))) (moved h (append_assoc ts (c ∷ []) (n ∷ e ∷ us ++ to) ∙ sym (append_assoc ts (c ∷ n ∷ e ∷ us) to))))

single_value : Acts (a cell.annotation_value ∷ value (none cell.pairs) ∷ []) (the annotates.SingleValue) (a cell.one_value ∷ [])
unfolding perform_annotation
single_value file ns vs l to limit (a_value x (by_plain (cell.is_annotation_value v g)) (a_value z (is_none (cell.pairs_empty d)) h)) = made _ (a_value _ (by_plain (cell.is_one_value v.tree _ g)) h)

expression_value : Acts (value (graded cell.conditional) ∷ []) (the annotates.ExpressionValue) (a cell.annotation_value ∷ [])
unfolding perform_annotation
expression_value file ns vs l to limit (a_value x (is_graded e g) h) = node_twice limit _ _ _ _ (λ d. made _ (a_value _ (by_plain (cell.is_annotation_value _ (annotations.expression g))) h))

annotation_value : Acts (a cell.annotation ∷ []) (the annotates.AnnotationValue) (a cell.annotation_value ∷ [])
unfolding perform_annotation
annotation_value file ns vs l to limit (a_value x (by_plain (cell.is_annotation e g)) h) = node_twice limit _ _ _ _ (λ d. made _ (a_value _ (by_plain (cell.is_annotation_value _ (annotations.nested g))) h))

no_values : Acts [] (the annotates.NoValues) (value (none cell.values) ∷ [])
unfolding perform_annotation
no_values file ns vs l to limit h = made _ (a_value _ (is_none (cell.values_empty 0)) h)

and_value : Acts (a cell.annotation_value ∷ value (next cell.values word.Comma) ∷ []) (the annotates.AndValue) (value (some cell.values word.Comma) ∷ [])
unfolding perform_annotation
and_value file ns vs l to limit (a_value x (by_plain (cell.is_annotation_value v g)) (a_value z (is_first (cell.values_empty d)) h)) = made _ (a_value _ (is_some (cell.values_listed _ (annotations.first_value v.tree g))) h)
and_value file ns vs l to limit (a_value x (by_plain (cell.is_annotation_value v {ts = us} g)) (a_value z (is_next c (cell.values_listed all {ts = ts} k) s) h)) =
    made _ (a_value _ (is_some (cell.values_listed _ (annotations.further_value c v.tree k s g))) (moved h (append_assoc ts (c ∷ []) (us ++ to) ∙ sym (append_assoc ts (c ∷ us) to))))

list_value : Acts (word' word.CloseBrace ∷ a cell.values_in_braces ∷ word' word.OpenBrace ∷ start ∷ []) (the annotates.ListValue) (a cell.annotation_value ∷ [])
unfolding perform_annotation
list_value file ns vs l to limit (a_word c q (a_value x (by_plain (cell.are_values_in_braces all {ts = ts} g)) (a_word o r (a_start p b h)))) =
    node_twice limit _ _ _ _ (λ d. made _ (a_value _ (by_plain (cell.is_annotation_value _ (at_place o p b (λ p. IsAnnotationValue (tree.ListValue (tree.values all.tree) p) (o ∷ ts ++ c ∷ [])) (annotations.braces o c r g q)))) (moved h (ap (λ xs. o ∷ xs) (sym (append_assoc ts (c ∷ []) to))))))

and_annotation : Acts (a cell.annotation ∷ a cell.annotations ∷ []) (the annotates.AndAnnotation) (a cell.annotations ∷ [])
unfolding perform_annotation
and_annotation file ns vs l to limit (a_value x (by_plain (cell.is_annotation e {ts = us} g)) (a_value y (by_plain (cell.are_annotations all {ts = ts} k)) h)) =
    made _ (a_value _ (by_plain (cell.are_annotations _ (names.further e.tree k g))) (moved h (sym (append_assoc ts us to))))

no_modifiers : Acts [] (the annotates.NoModifiers) (a cell.modifiers ∷ [])
unfolding perform_annotation
no_modifiers file ns vs l to limit h = made _ (a_value _ (by_plain (cell.are_modifiers _ names.nothing)) h)

no_modifiers_final : Acts (word' word.Final ∷ []) (the annotates.NoModifiers) (word' word.Final ∷ a cell.modifiers ∷ [])
unfolding perform_annotation
no_modifiers_final file ns vs l to limit (a_word t q h) = made _ (a_word {l = None} t q (a_value _ (by_plain (cell.are_modifiers _ names.nothing)) h))

annotation_modifier : Acts (a cell.annotation ∷ a cell.modifiers ∷ []) (the annotates.AnnotationModifier) (a cell.modifiers ∷ [])
unfolding perform_annotation
annotation_modifier file ns vs l to limit (a_value x (by_plain (cell.is_annotation e {ts = us} g)) (a_value y (by_plain (cell.are_modifiers all {ts = ts} k)) h)) =
    made _ (a_value _ (by_plain (cell.are_modifiers _ (names.further _ k (annotations.annotated g)))) (moved h (sym (append_assoc ts us to))))

-- an annotation begins at its place
annotation_begins : (x : AnnoTree) {ts : List Lexeme} (to : List Lexeme) → IsAnnotation x ts → BeginAt (place_of_annotation x) (ts ++ to)
annotation_begins x to (annotations.annotation at q n r) = refl

first_annotation : Acts (a cell.annotation ∷ []) (the annotates.FirstAnnotation) (a cell.modifiers ∷ start ∷ [])
unfolding perform_annotation
first_annotation file ns vs l to limit (a_value x (by_plain (cell.is_annotation e {ts = us} g)) h) =
    made _ (a_value {l = None} _ (by_plain (cell.are_modifiers _ (names.further _ names.nothing (annotations.annotated g)))) (a_start _ (annotation_begins e.tree to g) h))

public' : Acts (word' word.Public ∷ a cell.modifiers ∷ []) (the annotates.Public) (a cell.modifiers ∷ [])
unfolding perform_annotation
public' file ns vs l to limit (a_word t q (a_value y (by_plain (cell.are_modifiers all {ts = ts} k)) h)) =
    made _ (a_value _ (by_plain (cell.are_modifiers _ (names.further _ k (annotations.«public» t q)))) (moved h (sym (append_assoc ts (t ∷ []) to))))

protected' : Acts (word' word.Protected ∷ a cell.modifiers ∷ []) (the annotates.Protected) (a cell.modifiers ∷ [])
unfolding perform_annotation
protected' file ns vs l to limit (a_word t q (a_value y (by_plain (cell.are_modifiers all {ts = ts} k)) h)) =
    made _ (a_value _ (by_plain (cell.are_modifiers _ (names.further _ k (annotations.protected t q)))) (moved h (sym (append_assoc ts (t ∷ []) to))))

private' : Acts (word' word.Private ∷ a cell.modifiers ∷ []) (the annotates.Private) (a cell.modifiers ∷ [])
unfolding perform_annotation
private' file ns vs l to limit (a_word t q (a_value y (by_plain (cell.are_modifiers all {ts = ts} k)) h)) =
    made _ (a_value _ (by_plain (cell.are_modifiers _ (names.further _ k (annotations.private t q)))) (moved h (sym (append_assoc ts (t ∷ []) to))))

static' : Acts (word' word.Static ∷ a cell.modifiers ∷ []) (the annotates.Static) (a cell.modifiers ∷ [])
unfolding perform_annotation
static' file ns vs l to limit (a_word t q (a_value y (by_plain (cell.are_modifiers all {ts = ts} k)) h)) =
    made _ (a_value _ (by_plain (cell.are_modifiers _ (names.further _ k (annotations.static t q)))) (moved h (sym (append_assoc ts (t ∷ []) to))))

final' : Acts (word' word.Final ∷ a cell.modifiers ∷ []) (the annotates.Final) (a cell.modifiers ∷ [])
unfolding perform_annotation
final' file ns vs l to limit (a_word t q (a_value y (by_plain (cell.are_modifiers all {ts = ts} k)) h)) =
    made _ (a_value _ (by_plain (cell.are_modifiers _ (names.further _ k (annotations.final t q)))) (moved h (sym (append_assoc ts (t ∷ []) to))))

abstract' : Acts (word' word.Abstract ∷ a cell.modifiers ∷ []) (the annotates.Abstract) (a cell.modifiers ∷ [])
unfolding perform_annotation
abstract' file ns vs l to limit (a_word t q (a_value y (by_plain (cell.are_modifiers all {ts = ts} k)) h)) =
    made _ (a_value _ (by_plain (cell.are_modifiers _ (names.further _ k (annotations.abstract t q)))) (moved h (sym (append_assoc ts (t ∷ []) to))))

no_modifier_acts : (w : Word) → Acts (no_modifier_takes w) (the annotates.NoModifiers) (no_modifier_leaves w)
no_modifier_acts word.Final = no_modifiers_final
no_modifier_acts _ = no_modifiers

pub annotation_acts : (x : AnnotationAction) (w : Word) → Acts (annotation_takes x w) (action.Annotate x) (annotation_leaves x w)
annotation_acts annotates.NoArguments w = no_arguments
annotation_acts annotates.Annotation w = annotation
annotation_acts annotates.Pair w = pair
annotation_acts annotates.SingleValue w = single_value
annotation_acts annotates.ExpressionValue w = expression_value
annotation_acts annotates.AnnotationValue w = annotation_value
annotation_acts annotates.NoValues w = no_values
annotation_acts annotates.AndValue w = and_value
annotation_acts annotates.ListValue w = list_value
annotation_acts annotates.AndAnnotation w = and_annotation
annotation_acts annotates.NoModifiers w = no_modifier_acts w
annotation_acts annotates.AnnotationModifier w = annotation_modifier
annotation_acts annotates.FirstAnnotation w = first_annotation
annotation_acts annotates.Public w = public'
annotation_acts annotates.Protected w = protected'
annotation_acts annotates.Private w = private'
annotation_acts annotates.Static w = static'
annotation_acts annotates.Final w = final'
annotation_acts annotates.Abstract w = abstract'
