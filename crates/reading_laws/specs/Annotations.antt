-- The tokens that annotations and modifiers are written with, read off their trees in order, and the place of each node.
use Rattle.std.specs.Prelude.{List, [], ◌∷◌, ◌++◌, Some, None}
use Rattle.java_syntax.specs.declared.words.Word.TheVariants as word
use Rattle.java_syntax.specs.declared.names.Name.{Name}
use Rattle.java_syntax.specs.Derives.{Lexeme}
use Rattle.java_syntax.specs.ExpressionTrees.{ExprTree}
use Rattle.java_syntax.specs.AnnotationTrees as tree
use Rattle.java_syntax.specs.AnnotationTrees.{AnnoTree, ArgumentTree, AnnoValueTree, ModifierTree}
use Rattle.reading_laws.specs.Names.{Is, IsName, identifier_at, AreInOrder}
use Rattle.reading_laws.specs.Expressions.{IsOperand, conditional_level}

mutual
  -- `@`, which is its place, a name and maybe arguments (JLS 9.7)
  pub data IsAnnotation : AnnoTree → List Lexeme → Type 0 where
    annotation : {name : Name} {ts : List Lexeme} {all : List ArgumentTree} {us : List Lexeme} (at : Lexeme) → Is word.At at → IsName name ts → AreAnnotationArguments all us
        → IsAnnotation (tree.Annotation name (tree.arguments all) at.pos) (at ∷ ts ++ us)

  -- the arguments with their parentheses, where these are written
  pub data AreAnnotationArguments : List ArgumentTree → List Lexeme → Type 0 where
    no_parentheses : AreAnnotationArguments [] []
    no_arguments : (open' close : Lexeme) → Is word.OpenParen open' → Is word.CloseParen close → AreAnnotationArguments [] (open' ∷ close ∷ [])
    one_value : {value : AnnoValueTree} {ts : List Lexeme} (open' close : Lexeme) → Is word.OpenParen open' → IsAnnotationValue value ts → Is word.CloseParen close
        → AreAnnotationArguments (record { key = None; value = value } ∷ []) (open' ∷ ts ++ close ∷ [])
    pairs : {all : List ArgumentTree} {ts : List Lexeme} (open' close : Lexeme) → Is word.OpenParen open' → ArePairs all ts → Is word.CloseParen close → AreAnnotationArguments all (open' ∷ ts ++ close ∷ [])

  -- names with values (JLS 9.7.1), with commas between them
  pub data ArePairs : List ArgumentTree → List Lexeme → Type 0 where
    first_pair : {value : AnnoValueTree} {ts : List Lexeme} (name equals : Lexeme) → Is word.Ident name → Is word.Assign equals → IsAnnotationValue value ts
        → ArePairs (record { key = Some (identifier_at name); value = value } ∷ []) (name ∷ equals ∷ ts)
    further_pair : {all : List ArgumentTree} {ts : List Lexeme} {value : AnnoValueTree} {us : List Lexeme} (comma name equals : Lexeme) → ArePairs all ts → Is word.Comma comma → Is word.Ident name → Is word.Assign equals → IsAnnotationValue value us
        → ArePairs (all ++ record { key = Some (identifier_at name); value = value } ∷ []) (ts ++ comma ∷ name ∷ equals ∷ us)

  -- an expression that is no assignment, an annotation, or values in braces, whose place is that of `{` (JLS 9.7.1)
  pub data IsAnnotationValue : AnnoValueTree → List Lexeme → Type 0 where
    expression : {e : ExprTree} {ts : List Lexeme} → IsOperand conditional_level e ts → IsAnnotationValue (tree.ExpressionValue e) ts
    nested : {a : AnnoTree} {ts : List Lexeme} → IsAnnotation a ts → IsAnnotationValue (tree.AnnotationValue a) ts
    braces : {all : List AnnoValueTree} {ts : List Lexeme} (open' close : Lexeme) → Is word.OpenBrace open' → AreInBraces all ts → Is word.CloseBrace close
        → IsAnnotationValue (tree.ListValue (tree.values all) open'.pos) (open' ∷ ts ++ close ∷ [])

  -- values, with commas between them
  pub data AreValues : List AnnoValueTree → List Lexeme → Type 0 where
    first_value : (value : AnnoValueTree) {ts : List Lexeme} → IsAnnotationValue value ts → AreValues (value ∷ []) ts
    further_value : {all : List AnnoValueTree} {ts : List Lexeme} (comma : Lexeme) (value : AnnoValueTree) {us : List Lexeme} → AreValues all ts → Is word.Comma comma → IsAnnotationValue value us
        → AreValues (all ++ value ∷ []) (ts ++ comma ∷ us)

  -- such values or none, and maybe a comma behind them
  pub data AreInBraces : List AnnoValueTree → List Lexeme → Type 0 where
    no_value : AreInBraces [] []
    only_comma : (comma : Lexeme) → Is word.Comma comma → AreInBraces [] (comma ∷ [])
    some_values : {all : List AnnoValueTree} {ts : List Lexeme} → AreValues all ts → AreInBraces all ts
    comma_behind : {all : List AnnoValueTree} {ts : List Lexeme} (comma : Lexeme) → AreValues all ts → Is word.Comma comma → AreInBraces all (ts ++ comma ∷ [])

-- an annotation, or a modifier word
pub data IsModifier : ModifierTree → List Lexeme → Type 0 where
  annotated : {a : AnnoTree} {ts : List Lexeme} → IsAnnotation a ts → IsModifier (tree.Annotated a) ts
  «public» : (t : Lexeme) → Is word.Public t → IsModifier tree.Public (t ∷ [])
  protected : (t : Lexeme) → Is word.Protected t → IsModifier tree.Protected (t ∷ [])
  private : (t : Lexeme) → Is word.Private t → IsModifier tree.Private (t ∷ [])
  static : (t : Lexeme) → Is word.Static t → IsModifier tree.Static (t ∷ [])
  final : (t : Lexeme) → Is word.Final t → IsModifier tree.Final (t ∷ [])
  abstract : (t : Lexeme) → Is word.Abstract t → IsModifier tree.Abstract (t ∷ [])

abbrev pub AreModifiers : List ModifierTree → List Lexeme → Type 0
AreModifiers = AreInOrder ModifierTree IsModifier

abbrev pub AreAnnotations : List AnnoTree → List Lexeme → Type 0
AreAnnotations = AreInOrder AnnoTree IsAnnotation
