-- An annotation in memory as the table keeps it.
use Rattle.std.proofs.Common.{◌≡◌, ◌∙◌, rules, ℕ, Bool, List, [], map, ap, ap₂, sym}
use Rattle.std.specs.Prelude.{if◌then◌else◌}
use Rattle.std.proofs.lemmas.Simd.{map-map}
use Rattle.rlc_base.specs.declared.place.Pos.{Pos}
use Rattle.java_syntax.specs.declared.names.Name.{Name}
use Rattle.java_syntax.specs.declared.annotation_trees.Anno as anno
use Rattle.java_syntax.specs.declared.annotation_trees.Anno.{out-Anno, the_lemmas}
use Rattle.java_syntax.specs.declared.annotation_trees.AnnoArgument.{AnnoArgument}
use Rattle.java_syntax.specs.AnnotationTrees as trees
use Rattle.java_syntax.specs.AnnotationTrees.{ArgumentTree, anno_of, arguments}
use Rattle.java_syntax.proofs.Rows.{arguments_are_items}
use Rattle.java_annotations.specs.declared.forms.ArgumentForm.{ArgumentForm}
use Rattle.java_annotations.specs.Forms.{argument_form, is_shaped}
use Rattle.java_annotations.specs.Annotations.{Annotation, Argument, annotation_of, annotation_with, argument_of, last_identifier}
use Rattle.java_annotations.proofs.Trees.{arguments_listed}

anno_is_node : (a : anno.Anno) → anno_of a ≡ trees.Annotation (out-Anno a).name (arguments (map trees.argument_of (out-Anno a).arguments.items)) (out-Anno a).pos
anno_is_node (anno.Anno' name shape all pos) = search (rules, the_lemmas, arguments_are_items)

abbrev pub form_of_argument : AnnoArgument → ArgumentForm
form_of_argument a = argument_form (trees.argument_of a)

abbrev pub kept_argument : AnnoArgument → Argument
kept_argument a = argument_of (trees.argument_of a)

abbrev pub with_parts : List ℕ → List Argument → Bool → Pos → Annotation
with_parts name all shaped pos = record { name = name; arguments = all; shaped = shaped; pos = pos }

abbrev pub kept_if : Bool → List AnnoArgument → List Argument
kept_if shaped items = if shaped then map kept_argument items else []

abbrev kept_with : List ℕ → Bool → List Argument → Pos → Annotation
kept_with name shaped all pos = with_parts name (if shaped then all else []) shaped pos

node_kept : (name : Name) (items : List AnnoArgument) (pos : Pos)
    → annotation_of (trees.Annotation name (arguments (map trees.argument_of items)) pos)
    ≡ with_parts (last_identifier name.text) (kept_if (is_shaped (last_identifier name.text) (map form_of_argument items)) items) (is_shaped (last_identifier name.text) (map form_of_argument items)) pos
node_kept name items pos =
    ap (λ (l : List ArgumentTree). annotation_with (last_identifier name.text) (is_shaped (last_identifier name.text) (map argument_form l)) l pos) (arguments_listed (map trees.argument_of items))
    ∙ ap₂ (λ (forms : List ArgumentForm) (all : List Argument). kept_with (last_identifier name.text) (is_shaped (last_identifier name.text) forms) all pos)
    (map-map argument_form trees.argument_of items) (map-map argument_of trees.argument_of items)

-- an annotation made of these parts is that of the node
pub node_made : (a : anno.Anno) (name last bytes : List ℕ) (shaped : Bool) (all : List Argument) (items items' : List AnnoArgument)
    → name ≡ last → last ≡ last_identifier bytes → bytes ≡ (out-Anno a).name.text
    → shaped ≡ is_shaped last (map form_of_argument items) → all ≡ kept_if shaped items'
    → items ≡ (out-Anno a).arguments.items → items' ≡ (out-Anno a).arguments.items
    → with_parts name all shaped (out-Anno a).pos ≡ annotation_of (anno_of a)
node_made a name last bytes shaped all items items' named is_last read formed kept same same' =
    let written = (out-Anno a).name in
    let identifier : last ≡ last_identifier written.text = is_last ∙ ap last_identifier read in
    let shape : shaped ≡ is_shaped (last_identifier written.text) (map form_of_argument (out-Anno a).arguments.items) =
    formed ∙ ap₂ is_shaped identifier (ap (map form_of_argument) same) in
    let parts : all ≡ kept_if (is_shaped (last_identifier written.text) (map form_of_argument (out-Anno a).arguments.items)) (out-Anno a).arguments.items =
    kept ∙ ap₂ kept_if shape same' in
    ap (λ (n : List ℕ). with_parts n all shaped (out-Anno a).pos) (named ∙ identifier)
    ∙ ap₂ (λ (l : List Argument) (b : Bool). with_parts (last_identifier written.text) l b (out-Anno a).pos) parts shape
    ∙ sym (ap annotation_of (anno_is_node a) ∙ node_kept written (out-Anno a).arguments.items (out-Anno a).pos)
