-- Annotations and modifiers as trees without addresses, and the tree that a value in memory is.
use Rattle.std.specs.Prelude.{List, [], ◌∷◌, Option, map}
use Rattle.rlc_base.specs.declared.place.Pos.{Pos}
use Rattle.java_syntax.specs.declared.names.Name.{Name}
use Rattle.java_syntax.specs.declared.annotation_trees.Anno as anno
use Rattle.java_syntax.specs.declared.annotation_trees.AnnoArgument.{AnnoArgument}
use Rattle.java_syntax.specs.declared.annotation_trees.AnnoValue as value
use Rattle.java_syntax.specs.declared.annotation_trees.Modifier.{Modifier}
use Rattle.java_syntax.specs.declared.annotation_trees.Modifier.TheVariants as modifiers
use Rattle.java_syntax.specs.ExpressionTrees.{ExprTree, expr_of}

mutual
  pub data AnnoTree : Type 0 where
    Annotation : (name : Name) (arguments : AnnoArguments) (pos : Pos) → AnnoTree

  pub data AnnoArguments : Type 0 where
    no_argument : AnnoArguments
    and_argument : (key : Option Name) (value : AnnoValueTree) (more : AnnoArguments) → AnnoArguments

  pub data AnnoValueTree : Type 0 where
    ExpressionValue : (e : ExprTree) → AnnoValueTree
    AnnotationValue : (a : AnnoTree) → AnnoValueTree
    ListValue : (values : AnnoValues) (pos : Pos) → AnnoValueTree

  pub data AnnoValues : Type 0 where
    no_value : AnnoValues
    and_value : (first : AnnoValueTree) (more : AnnoValues) → AnnoValues

abbrev pub values : List AnnoValueTree → AnnoValues
values [] = no_value
values (v ∷ vs) = and_value v (values vs)

-- an argument of an annotation
pub record ArgumentTree : Type 0 where
  pub key : Option Name
  pub value : AnnoValueTree

abbrev pub arguments : List ArgumentTree → AnnoArguments
arguments [] = no_argument
arguments (a ∷ more) = and_argument a.key a.value (arguments more)

pub data ModifierTree : Type 0 where
  Annotated : (a : AnnoTree) → ModifierTree
  Public : ModifierTree
  Protected : ModifierTree
  Private : ModifierTree
  Static : ModifierTree
  Final : ModifierTree
  Abstract : ModifierTree

abbrev mutual
  pub anno_of : anno.Anno → AnnoTree
  anno_of (anno.Anno' name shape all pos) = Annotation name (anno_arguments_of all) pos

  pub anno_value_of : value.AnnoValue → AnnoValueTree
  anno_value_of (value.Expression e) = ExpressionValue (expr_of e)
  anno_value_of (value.Annotation a) = AnnotationValue (anno_of a)
  anno_value_of (value.List' shape all pos) = ListValue (anno_values_of all) pos

  pub anno_arguments_of : {m : _} → anno.Row_of-AnnoArgument m → AnnoArguments
  anno_arguments_of anno.end_of-AnnoArgument = no_argument
  anno_arguments_of (anno.more_of-AnnoArgument key v rest) = and_argument key (anno_value_of v) (anno_arguments_of rest)

  pub anno_values_of : {m : _} → value.Row_of-AnnoValue m → AnnoValues
  anno_values_of value.end_of-AnnoValue = no_value
  anno_values_of (value.more_of-AnnoValue v rest) = and_value (anno_value_of v) (anno_values_of rest)

abbrev pub argument_of : AnnoArgument → ArgumentTree
argument_of a = record { key = a.key; value = anno_value_of a.value }

abbrev pub modifier_of : Modifier → ModifierTree
modifier_of (modifiers.Annotation a) = Annotated (anno_of a)
modifier_of modifiers.Public = Public
modifier_of modifiers.Protected = Protected
modifier_of modifiers.Private = Private
modifier_of modifiers.Static = Static
modifier_of modifiers.Final = Final
modifier_of modifiers.Abstract = Abstract
