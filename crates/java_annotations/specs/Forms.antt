-- The forms that the arguments of annotations have (JLS 9.7; Checker Framework manual, chapters Must Call Checker, Called Methods
-- Checker and Resource Leak Checker).
use Rattle.std.specs.Prelude.{ℕ, Bool, true, false, ◌&&◌, ◌||◌, Option, Some, None, is_some, List, [], ◌∷◌, flat_map, codes, if◌then◌else◌}
use Rattle.std.specs.List.{list_all}
use Rattle.std.specs.Str.{bytes_eq}
use Rattle.java_syntax.specs.declared.names.Name.{Name}
use Rattle.java_syntax.specs.ExpressionTrees.{ExprTree}
use Rattle.java_syntax.specs.ExpressionTrees as expressions
use Rattle.java_syntax.specs.AnnotationTrees as trees
use Rattle.java_syntax.specs.AnnotationTrees.{AnnoArguments, AnnoValues, AnnoValueTree, ArgumentTree}
use Rattle.java_literals.specs.Texts.{text_of_literal}
use Rattle.annotation_kinds.specs.declared.annotation.AnnotationKind.{AnnotationKind}
use Rattle.annotation_kinds.specs.declared.annotation.AnnotationKind.TheVariants as annotations
use Rattle.annotation_kinds.specs.Annotations.{kind_named}
use Rattle.annotation_kinds.specs.Positions.{is_position}
use Rattle.program_model.specs.Lookups.{optional}
use Rattle.java_annotations.specs.declared.forms.ArgumentForm.{ArgumentForm}
use Rattle.java_annotations.specs.declared.forms.Form.{Form}
use Rattle.java_annotations.specs.declared.forms.Form.TheVariants as forms
use Rattle.java_annotations.specs.declared.forms.Key.{Key}
use Rattle.java_annotations.specs.declared.forms.Key.TheVariants as keys

-- ---- values

-- the text of a string literal; an expression of another form is none, a concatenation of two of them too
abbrev pub text_of_expression : ExprTree → Option (List ℕ)
text_of_expression (expressions.Literal literal pos) = text_of_literal literal
text_of_expression e = None

abbrev pub text_of : AnnoValueTree → Option (List ℕ)
text_of (trees.ExpressionValue e) = text_of_expression e
text_of (trees.AnnotationValue a) = None
text_of (trees.ListValue vs pos) = None

abbrev pub is_text : AnnoValueTree → Bool
is_text v = is_some (text_of v)

abbrev pub value_list : AnnoValues → List AnnoValueTree
value_list trees.no_value = []
value_list (trees.and_value v more) = v ∷ value_list more

abbrev pub are_texts : List AnnoValueTree → Bool
are_texts vs = list_all is_text vs

abbrev pub texts_among : List AnnoValueTree → List (List ℕ)
texts_among vs = flat_map (λ v. optional (text_of v)) vs

-- the texts of a value: the one that it is, or those that stand in its braces
abbrev pub texts_of : AnnoValueTree → List (List ℕ)
texts_of (trees.ExpressionValue e) = optional (text_of_expression e)
texts_of (trees.AnnotationValue a) = []
texts_of (trees.ListValue vs pos) = texts_among (value_list vs)

-- ---- the forms of values

abbrev pub form_of_text : Option (List ℕ) → Form
form_of_text None = forms.Other
form_of_text (Some text) = if is_position text then forms.Position else forms.Text

abbrev pub form_of_list : List AnnoValueTree → Form
form_of_list vs = if are_texts vs then forms.Texts else forms.Other

abbrev pub form_of : AnnoValueTree → Form
form_of (trees.ExpressionValue e) = form_of_text (text_of_expression e)
form_of (trees.AnnotationValue a) = forms.Other
form_of (trees.ListValue vs pos) = form_of_list (value_list vs)

-- ---- the forms of arguments

abbrev pub argument_list : AnnoArguments → List ArgumentTree
argument_list trees.no_argument = []
argument_list (trees.and_argument key v more) = record { key = key; value = v } ∷ argument_list more

-- a value without a key is that of `value` (JLS 9.7.3)
abbrev pub key_text : Option Name → List ℕ
key_text None = codes "value"
key_text (Some n) = n.text

abbrev pub key_of : List ℕ → Key
key_of text = if bytes_eq text (codes "value") then keys.Value else (if bytes_eq text (codes "methods") then keys.Methods else keys.Other)

abbrev pub argument_form : ArgumentTree → ArgumentForm
argument_form a = record { key = key_of (key_text a.key); form = form_of a.value }

-- ---- the forms that belong to the kinds

abbrev pub is_list : Form → Bool
is_list forms.Position = false
is_list forms.Text = false
is_list forms.Texts = true
is_list forms.Other = false

abbrev pub is_text_or_list : Form → Bool
is_text_or_list forms.Position = true
is_text_or_list forms.Text = true
is_text_or_list forms.Texts = true
is_text_or_list forms.Other = false

abbrev pub names_position : Form → Bool
names_position forms.Position = true
names_position forms.Text = false
names_position forms.Texts = false
names_position forms.Other = false

abbrev pub form_at_value : Key → Form → Form
form_at_value keys.Value form = form
form_at_value keys.Methods form = forms.Other
form_at_value keys.Other form = forms.Other

abbrev pub form_at_methods : Key → Form → Form
form_at_methods keys.Value form = forms.Other
form_at_methods keys.Methods form = form
form_at_methods keys.Other form = forms.Other

abbrev pub has_value : ArgumentForm → Bool
has_value a = is_text_or_list (form_at_value a.key a.form)

abbrev pub has_methods : ArgumentForm → Bool
has_methods a = is_text_or_list (form_at_methods a.key a.form)

abbrev pub has_no_argument : List ArgumentForm → Bool
has_no_argument [] = true
has_no_argument (a ∷ more) = false

-- the form of a `value` that stands alone
abbrev pub only_value : List ArgumentForm → Form
only_value [] = forms.Other
only_value (a ∷ []) = form_at_value a.key a.form
only_value (a ∷ b ∷ more) = forms.Other

-- `value` and `methods`, each once, in either order
abbrev pub is_promise : List ArgumentForm → Bool
is_promise [] = false
is_promise (a ∷ []) = false
is_promise (a ∷ b ∷ []) = (has_value a && has_methods b) || (has_methods a && has_value b)
is_promise (a ∷ b ∷ d ∷ more) = false

-- the arguments have the form that belongs to the annotation
abbrev pub has_form : AnnotationKind → List ArgumentForm → Bool
has_form annotations.InheritableMustCall all = is_text_or_list (only_value all)
has_form annotations.CalledMethods all = is_text_or_list (only_value all)
has_form annotations.MustCall all = is_list (only_value all)
has_form annotations.Owning all = has_no_argument all
has_form annotations.NotOwning all = has_no_argument all
has_form annotations.MustCallAlias all = has_no_argument all
has_form annotations.CreatesMustCallFor all = has_no_argument all || names_position (only_value all)
has_form annotations.EnsuresCalledMethods all = is_promise all
has_form annotations.EnsuresCalledMethodsOnException all = is_promise all

-- under a name that is not read every argument has the right form
abbrev pub has_form_of : Option AnnotationKind → List ArgumentForm → Bool
has_form_of None all = true
has_form_of (Some kind) all = has_form kind all

abbrev pub is_shaped : List ℕ → List ArgumentForm → Bool
is_shaped name all = has_form_of (kind_named name) all
