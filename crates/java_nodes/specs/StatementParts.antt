-- How annotations, modifiers, statements and files are put together: their nodes are one level deeper than the deepest of their parts.
use Rattle.std.specs.Prelude.{ℕ, max, List, [], Option, Some, None}
use Rattle.rlc_base.specs.declared.place.Pos.{Pos}
use Rattle.java_syntax.specs.declared.names.Name.{Name}
use Rattle.java_syntax.specs.declared.names.Typ.{Typ}
use Rattle.java_syntax.specs.declared.declaration_trees.Import.{Import}
use Rattle.java_syntax.specs.ExpressionTrees.{ExprTree}
use Rattle.java_syntax.specs.AnnotationTrees as annotation
use Rattle.java_syntax.specs.AnnotationTrees.{AnnoTree, ArgumentTree, AnnoValueTree, ModifierTree}
use Rattle.java_syntax.specs.StatementTrees as tree
use Rattle.java_syntax.specs.StatementTrees.{VariableTree, LocalTree, ResourceTree, StmtTree, BlockTree, CatchTree}
use Rattle.java_syntax.specs.DeclarationTrees.{ClassTree, UnitTree}
use Rattle.java_values.specs.NestedTrees.{Nested}
use Rattle.java_values.specs.Outcomes.{Outcome, Made, ◌>>=◌, deeper, node}

-- annotations

abbrev pub annotation_node : ℕ → Name → Nested (List ArgumentTree) → Pos → Outcome (Nested AnnoTree)
annotation_node limit name arguments pos = node limit arguments.depth (annotation.Annotation name (annotation.arguments arguments.tree) pos)

abbrev pub argument_node : Option Name → Nested AnnoValueTree → Nested ArgumentTree
argument_node key v = record { tree = record { key = key; value = v.tree }; depth = v.depth }

abbrev pub expression_value_node : ℕ → Nested ExprTree → Outcome (Nested AnnoValueTree)
expression_value_node limit e = node limit e.depth (annotation.ExpressionValue e.tree)

abbrev pub annotation_value_node : ℕ → Nested AnnoTree → Outcome (Nested AnnoValueTree)
annotation_value_node limit a = node limit a.depth (annotation.AnnotationValue a.tree)

abbrev pub list_value_node : ℕ → Nested (List AnnoValueTree) → Pos → Outcome (Nested AnnoValueTree)
list_value_node limit values pos = node limit values.depth (annotation.ListValue (annotation.values values.tree) pos)

abbrev pub modifier_node : Nested AnnoTree → Nested ModifierTree
modifier_node a = record { tree = annotation.Annotated a.tree; depth = a.depth }

abbrev pub place_of_annotation : AnnoTree → Pos
place_of_annotation (annotation.Annotation name arguments pos) = pos

-- a modifier word has no level
abbrev pub word_node : ModifierTree → Nested ModifierTree
word_node m = record { tree = m; depth = 0 }

-- statements

abbrev pub variable_node : Name → Nested ExprTree → Nested VariableTree
variable_node name value = record { tree = record { name = name; initializer = Some value.tree }; depth = value.depth }

abbrev pub plain_variable_node : Name → Nested VariableTree
plain_variable_node name = record { tree = record { name = name; initializer = None }; depth = 0 }

abbrev pub local_node : Nested (List ModifierTree) → Typ → Nested (List VariableTree) → Nested LocalTree
local_node modifiers typ all = record { tree = record { modifiers = modifiers.tree; typ = typ; variables = all.tree }; depth = max modifiers.depth all.depth }

abbrev pub resource_node : Nested (List ModifierTree) → Name → Name → Nested ExprTree → Nested ResourceTree
resource_node modifiers class' name value = record { tree = record { modifiers = modifiers.tree; class' = class'; name = name; value = value.tree }; depth = max modifiers.depth value.depth }

-- the block of a catch clause, of a `try` and of a `finally` is a statement, and so one level
abbrev pub catch_node : ℕ → Nested (List ModifierTree) → List Name → Name → Nested BlockTree → Outcome (Nested CatchTree)
catch_node limit modifiers classes name block = deeper limit block.depth >>= (λ d. Made (record { tree = record { modifiers = modifiers.tree; classes = classes; name = name; block = block.tree }; depth = max modifiers.depth d }))

abbrev pub try_node : ℕ → Nested (List ResourceTree) → Nested BlockTree → Nested (List CatchTree) → Pos → Outcome (Nested StmtTree)
try_node limit resources block all pos = deeper limit block.depth >>= (λ d. node limit (max resources.depth (max d all.depth)) (tree.Try resources.tree block.tree (tree.catches all.tree) tree.no_finally pos))

abbrev pub try_finally_node : ℕ → Nested (List ResourceTree) → Nested BlockTree → Nested (List CatchTree) → Nested BlockTree → Pos → Outcome (Nested StmtTree)
try_finally_node limit resources block all last pos = deeper limit block.depth >>= (λ d. deeper limit last.depth >>= (λ f. node limit (max resources.depth (max d (max all.depth f))) (tree.Try resources.tree block.tree (tree.catches all.tree) (tree.some_finally last.tree) pos)))

-- files

abbrev pub package_name : Option Name → List ℕ
package_name None = []
package_name (Some name) = name.text

abbrev pub unit_node : Option Name → List Import → List ClassTree → UnitTree
unit_node package' imports types = record { package_name = package_name package'; imports = imports; types = types }
