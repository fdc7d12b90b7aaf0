-- The words before a declaration (JLS 8.1.1, 8.3.1, 8.4.3).
use Rattle.std.specs.Prelude.{Bool, true, false, List}
use Rattle.std.specs.List.{list_any}
use Rattle.java_syntax.specs.declared.annotation_trees.Modifier.{Modifier}
use Rattle.java_syntax.specs.declared.annotation_trees.Modifier.TheVariants as modifiers

abbrev pub is_static_word : Modifier → Bool
is_static_word modifiers.Static = true
is_static_word m = false

abbrev pub is_private_word : Modifier → Bool
is_private_word modifiers.Private = true
is_private_word m = false

abbrev pub is_final_word : Modifier → Bool
is_final_word modifiers.Final = true
is_final_word m = false

abbrev pub is_abstract_word : Modifier → Bool
is_abstract_word modifiers.Abstract = true
is_abstract_word m = false

abbrev pub has_static : List Modifier → Bool
has_static all = list_any is_static_word all

abbrev pub has_private : List Modifier → Bool
has_private all = list_any is_private_word all

abbrev pub has_final : List Modifier → Bool
has_final all = list_any is_final_word all

abbrev pub has_abstract : List Modifier → Bool
has_abstract all = list_any is_abstract_word all
