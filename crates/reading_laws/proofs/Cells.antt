-- What lies on the stack of values and between them while a file is read: cells, each written with some of the tokens.
use Rattle.std.specs.Prelude.{◌≡◌, ℕ, ◌<◌, ◌≤◌, true, List, [], ◌∷◌, ◌++◌, Option, Some, None, false}
use Rattle.std.specs.List.{AllByRecursion}
use Rattle.rlc_base.specs.declared.place.Pos.{Pos}
use Rattle.java_syntax.specs.declared.words.Word.{Word}
use Rattle.java_syntax.specs.declared.words.Word.TheVariants as word
use Rattle.java_syntax.specs.declared.names.Name.{Name}
use Rattle.java_syntax.specs.declared.names.Typ.{Typ}
use Rattle.java_syntax.specs.declared.declaration_trees.Import.{Import}
use Rattle.java_syntax.specs.Derives.{Lexeme, first_word}
use Rattle.java_syntax.specs.ExpressionTrees.{ExprTree}
use Rattle.java_syntax.specs.AnnotationTrees.{AnnoTree, ArgumentTree, AnnoValueTree, ModifierTree}
use Rattle.java_syntax.specs.StatementTrees.{VariableTree, LocalTree, ResourceTree, ForStartTree, StmtTree, BlockTree, CatchTree}
use Rattle.java_syntax.specs.DeclarationTrees.{SuperCallTree, ConstructorBodyTree, MemberTree, ClassTree, UnitTree}
use Rattle.java_values.specs.NestedTrees.{Nested, IdentifiersTree, OpenOperationTree, ParenthesizedTree, NamesInside, ArrayInside, ExpressionInside}
use Rattle.java_values.specs.Values.{ParametersTree, ValueTree, APlace, AToken, AName, AOptionalName, AIdentifiers, ANames, AType, AOptionalType, AExpression, AOptionalExpression, AExpressions, ACall, AOperations, AParenthesized, AAnnotation, AAnnotations, AArguments, AAnnotationValue, AAnnotationValues, AModifiers, AVariables, ALocal, AStatement, AStatements, ABlock, AForStart, AResources, ACatches, AParameters, ASuperCall, AConstructorBody, AMembers, ATypes, AImports, AUnit, AUnits}
use Rattle.java_nodes.specs.Operators.{infix_operator}
use Rattle.java_nodes.specs.Parts.{level_of, comparison, loosest}
use Rattle.java_nodes.specs.StatementParts.{package_name}
use Rattle.reading_laws.specs.Names.{Is, BeginAt, IsName, IsPrimitiveType, IsElementType, IsReferenceType, IsType, identifier_at, AreInOrder, AreSeparated}
use Rattle.reading_laws.specs.Expressions.{IsOperand, IsExpression, HasLooseOperator, no_array_level, primary_level, postfix_level, unsigned_level, unary_level, infix_level, right_level, conditional_level, assignment_level, AreExpressions, AreArguments, is_infix}
use Rattle.reading_laws.specs.Annotations.{IsAnnotation, AreAnnotationArguments, ArePairs, IsAnnotationValue, AreValues, AreInBraces, AreModifiers}
use Rattle.reading_laws.specs.Statements.{AreVariables, IsLocal, IsResource, AreResources, IsOptionalExpression, IsForStart, ends_in_short_if, IsStatement, IsBlock, AreStatements, AreCatches}
use Rattle.reading_laws.specs.Declarations.{AreSomeParameters, AreParameters, IsClause, IsResult, IsSuperCall, IsConstructorBody, AreMembers, IsSuperclass, AreClasses, IsImport, IsPackage, IsUnit, AreUnits}

-- lists with separators
pub data Listing : Type 0 where
  names : Listing
  expressions : Listing
  pairs : Listing
  values : Listing
  variables : Listing
  resources : Listing
  parameters : Listing

-- a kind of value that is written in one way
pub data Plain : Type 0 where
  receiver : Plain
  identifier : Plain
  name : Plain
  no_name : Plain
  package' : Plain
  superclass : Plain
  identifiers : Plain
  one_name : Plain
  primitive : Plain
  closed_primitive : Plain
  element : Plain
  array_type : Plain
  typ : Plain
  closed_type : Plain
  result : Plain
  optional_expression : Plain
  call_arguments : Plain
  call : Plain
  operations : Plain
  parenthesized : Plain
  annotation : Plain
  annotations : Plain
  one_value : Plain
  inner_arguments : Plain
  annotation_arguments : Plain
  annotation_value : Plain
  values_in_braces : Plain
  modifiers : Plain
  local : Plain
  open_statement : Plain
  statements : Plain
  block : Plain
  for_start : Plain
  resources_inside : Plain
  catches : Plain
  formal_parameters : Plain
  open_super_call : Plain
  super_call : Plain
  constructor_body : Plain
  members : Plain
  types : Plain
  open_imports : Plain
  imports : Plain
  unit : Plain
  units : Plain

-- how tight an expression binds
pub data Grade : Type 0 where
  access : Grade
  primary : Grade
  postfix : Grade
  unsigned : Grade
  unary : Grade
  binary : Grade
  conditional : Grade
  full : Grade

abbrev pub level : Grade → ℕ
level access = no_array_level
level primary = primary_level
level postfix = postfix_level
level unsigned = unsigned_level
level unary = unary_level
level binary = infix_level loosest
level conditional = conditional_level
level full = assignment_level

-- a value: of a list, whether it is empty, has its separator behind it, or may take a further item
pub data Part : Type 0 where
  plain : (p : Plain) → Part
  graded : (g : Grade) → Part
  none : (l : Listing) → Part
  behind : (l : Listing) (w : Word) → Part
  next : (l : Listing) (w : Word) → Part
  some : (l : Listing) (w : Word) → Part
  any : (l : Listing) (w : Word) → Part
  clause : (w : Word) → Part

-- a token that is in no value yet; the place of the token behind; an operand behind operators with their left operands, the same where a comparison may be its left operand; a token that is a value; another value; the word `try` with its resources; a statement, which an `else` behind it does not belong to; that no `else` stands behind
pub data Cell : Type 0 where
  word' : (w : Word) → Cell
  start : Cell
  kept : (w : Word) → Cell
  value : (p : Part) → Cell
  pending : Cell
  compared : Cell
  try_head : Cell
  statement' : Cell
  no_else : Cell
  never : Cell

-- identifiers with dots between them, which may be a type or an expression
pub data AreIdentifiers : IdentifiersTree → List Lexeme → Type 0 where
  first_identifier : (t : Lexeme) → Is word.Ident t → AreIdentifiers (record { first = identifier_at t; more = [] }) (t ∷ [])
  next_identifier : (names : IdentifiersTree) {ts : List Lexeme} (dot t : Lexeme) → AreIdentifiers names ts → Is word.Dot dot → Is word.Ident t
      → AreIdentifiers (record { first = names.first; more = names.more ++ identifier_at t ∷ [] }) (ts ++ dot ∷ t ∷ [])

-- the first operator binds looser than this
abbrev pub IsAbove : ℕ → List OpenOperationTree → Type 0
IsAbove n [] = Unit {0}
IsAbove n (o ∷ os) = n < level_of o.operator

-- an expression of this level may be the first operator's right operand
abbrev pub Suits : ℕ → List OpenOperationTree → Type 0
Suits n [] = Unit {0}
Suits n (o ∷ os) = n ≤ right_level (level_of o.operator)

-- operators with their left operands, the last one first; each binds tighter than those before it
pub data AreOperations : List OpenOperationTree → List Lexeme → Type 0 where
  no_operation : AreOperations [] []
  further_operation : {os : List OpenOperationTree} {ts : List Lexeme} (left : Nested ExprTree) {us : List Lexeme} (t : Lexeme) → AreOperations os ts → IsOperand (infix_level (level_of (infix_operator t.text))) left.tree us → is_infix t.word ≡ true
      → IsAbove (level_of (infix_operator t.text)) os → AreOperations (record { left = left; operator = infix_operator t.text; pos = t.pos } ∷ os) (ts ++ us ++ t ∷ [])

-- what parentheses hold
pub data IsInside : ParenthesizedTree → List Lexeme → Type 0 where
  names_inside : (ns : IdentifiersTree) {ts : List Lexeme} → AreIdentifiers ns ts → IsInside (NamesInside ns) ts
  array_inside : (t : Typ) {ts : List Lexeme} → IsReferenceType t ts → IsInside (ArrayInside t) ts
  expression_inside : (e : Nested ExprTree) {ts : List Lexeme} → IsExpression e.tree ts → IsInside (ExpressionInside e) ts

pub data AreInnerArguments : List ArgumentTree → List Lexeme → Type 0 where
  no_inner : AreInnerArguments [] []
  one_inner : {v : AnnoValueTree} {ts : List Lexeme} → IsAnnotationValue v ts → AreInnerArguments (record { key = None; value = v } ∷ []) ts
  pairs_inner : {all : List ArgumentTree} {ts : List Lexeme} → ArePairs all ts → AreInnerArguments all ts

pub data AreResourcesInside : List ResourceTree → List Lexeme → Type 0 where
  last_resource : {all : List ResourceTree} {ts : List Lexeme} → AreSeparated ResourceTree IsResource word.Semicolon all ts → AreResourcesInside all ts
  semicolon_last : {all : List ResourceTree} {ts : List Lexeme} (t : Lexeme) → AreSeparated ResourceTree IsResource word.Semicolon all ts → Is word.Semicolon t → AreResourcesInside all (ts ++ t ∷ [])

-- one item at least
pub data IsListed : Listing → Word → ValueTree → List Lexeme → Type 0 where
  names_listed : {w : Word} (ns : List Name) {ts : List Lexeme} → AreSeparated Name IsName w ns ts → IsListed names w (ANames ns) ts
  expressions_listed : (e : Nested (List ExprTree)) {ts : List Lexeme} → AreExpressions e.tree ts → IsListed expressions word.Comma (AExpressions e) ts
  pairs_listed : (e : Nested (List ArgumentTree)) {ts : List Lexeme} → ArePairs e.tree ts → IsListed pairs word.Comma (AArguments e) ts
  values_listed : (e : Nested (List AnnoValueTree)) {ts : List Lexeme} → AreValues e.tree ts → IsListed values word.Comma (AAnnotationValues e) ts
  variables_listed : (e : Nested (List VariableTree)) {ts : List Lexeme} → AreVariables e.tree ts → IsListed variables word.Comma (AVariables e) ts
  resources_listed : (e : Nested (List ResourceTree)) {ts : List Lexeme} → AreSeparated ResourceTree IsResource word.Semicolon e.tree ts → IsListed resources word.Semicolon (AResources e) ts
  parameters_listed : (p : ParametersTree) {ts : List Lexeme} → AreSomeParameters p.receiver p.declared ts → IsListed parameters word.Comma (AParameters p) ts

pub data IsEmptyList : Listing → ValueTree → Type 0 where
  names_empty : IsEmptyList names (ANames [])
  expressions_empty : (d : ℕ) → IsEmptyList expressions (AExpressions (record { tree = []; depth = d }))
  pairs_empty : (d : ℕ) → IsEmptyList pairs (AArguments (record { tree = []; depth = d }))
  values_empty : (d : ℕ) → IsEmptyList values (AAnnotationValues (record { tree = []; depth = d }))
  variables_empty : (d : ℕ) → IsEmptyList variables (AVariables (record { tree = []; depth = d }))
  resources_empty : (d : ℕ) → IsEmptyList resources (AResources (record { tree = []; depth = d }))
  parameters_empty : IsEmptyList parameters (AParameters (record { receiver = None; declared = [] }))

-- a value of one kind, and the tokens that it is written with
pub data IsPlain : Plain → ValueTree → List Lexeme → Type 0 where
  is_receiver : (t : Lexeme) → Is word.This t → IsPlain receiver (AName (identifier_at t)) (t ∷ [])
  is_identifier : (t : Lexeme) → Is word.Ident t → IsPlain identifier (AName (identifier_at t)) (t ∷ [])
  is_name : (n : Name) {ts : List Lexeme} → IsName n ts → IsPlain name (AName n) ts
  is_no_name : IsPlain no_name (AOptionalName None) []
  is_package : (o : Option Name) {ts : List Lexeme} → IsPackage (package_name o) ts → IsPlain package' (AOptionalName o) ts
  is_superclass : (o : Option Name) {ts : List Lexeme} → IsSuperclass o ts → IsPlain superclass (AOptionalName o) ts
  is_identifiers : (ns : IdentifiersTree) {ts : List Lexeme} → AreIdentifiers ns ts → IsPlain identifiers (AIdentifiers ns) ts
  is_one_name : (n : Name) {ts : List Lexeme} → IsName n ts → IsPlain one_name (ANames (n ∷ [])) ts
  is_primitive : (t : Typ) {ts : List Lexeme} → IsPrimitiveType t ts → IsPlain primitive (AType t) ts
  is_closed_primitive : (t : Typ) {ts : List Lexeme} (close : Lexeme) → IsPrimitiveType t ts → Is word.CloseParen close → IsPlain closed_primitive (AType t) (ts ++ close ∷ [])
  is_element : (t : Typ) {ts : List Lexeme} → IsElementType t ts → IsPlain element (AType t) ts
  is_array_type : (t : Typ) {ts : List Lexeme} (open' close : Lexeme) → IsElementType t ts → Is word.OpenBracket open' → Is word.CloseBracket close → IsPlain array_type (AType (record t { is_array = true })) (ts ++ open' ∷ close ∷ [])
  is_type : (t : Typ) {ts : List Lexeme} → IsType t ts → IsPlain typ (AType t) ts
  is_closed_type : (t : Typ) {ts : List Lexeme} (close : Lexeme) → IsReferenceType t ts → Is word.CloseParen close → IsPlain closed_type (AType t) (ts ++ close ∷ [])
  is_result : (o : Option Typ) {ts : List Lexeme} → IsResult o ts → IsPlain result (AOptionalType o) ts
  is_optional_expression : (e : Nested (Option ExprTree)) {ts : List Lexeme} → IsOptionalExpression e.tree ts → IsPlain optional_expression (AOptionalExpression e) ts
  is_call_arguments : (e : Nested (List ExprTree)) {ts : List Lexeme} → AreArguments e.tree ts → IsPlain call_arguments (AExpressions e) ts
  is_no_call : IsPlain call (ACall None) []
  is_call : (e : Nested (List ExprTree)) {ts : List Lexeme} → AreArguments e.tree ts → IsPlain call (ACall (Some e)) ts
  are_operations : (os : List OpenOperationTree) {ts : List Lexeme} → AreOperations os ts → IsPlain operations (AOperations os) ts
  is_parenthesized : (x : ParenthesizedTree) {ts : List Lexeme} (close : Lexeme) → IsInside x ts → Is word.CloseParen close → IsPlain parenthesized (AParenthesized x) (ts ++ close ∷ [])
  is_annotation : (a : Nested AnnoTree) {ts : List Lexeme} → IsAnnotation a.tree ts → IsPlain annotation (AAnnotation a) ts
  are_annotations : (a : Nested (List AnnoTree)) {ts : List Lexeme} → AreInOrder AnnoTree IsAnnotation a.tree ts → IsPlain annotations (AAnnotations a) ts
  is_one_value : (v : AnnoValueTree) (d : ℕ) {ts : List Lexeme} → IsAnnotationValue v ts → IsPlain one_value (AArguments (record { tree = record { key = None; value = v } ∷ []; depth = d })) ts
  are_inner_arguments : (a : Nested (List ArgumentTree)) {ts : List Lexeme} → AreInnerArguments a.tree ts → IsPlain inner_arguments (AArguments a) ts
  are_annotation_arguments : (a : Nested (List ArgumentTree)) {ts : List Lexeme} → AreAnnotationArguments a.tree ts → IsPlain annotation_arguments (AArguments a) ts
  is_annotation_value : (v : Nested AnnoValueTree) {ts : List Lexeme} → IsAnnotationValue v.tree ts → IsPlain annotation_value (AAnnotationValue v) ts
  are_values_in_braces : (v : Nested (List AnnoValueTree)) {ts : List Lexeme} → AreInBraces v.tree ts → IsPlain values_in_braces (AAnnotationValues v) ts
  are_modifiers : (m : Nested (List ModifierTree)) {ts : List Lexeme} → AreModifiers m.tree ts → IsPlain modifiers (AModifiers m) ts
  is_local : (l : Nested LocalTree) {ts : List Lexeme} → IsLocal l.tree ts → IsPlain local (ALocal l) ts
  is_open_statement : (s : Nested StmtTree) {ts : List Lexeme} → ((t : Lexeme) → Is word.Semicolon t → IsStatement s.tree (ts ++ t ∷ [])) → ends_in_short_if s.tree ≡ false → IsPlain open_statement (AStatement s) ts
  are_statements : (s : Nested (List StmtTree)) {ts : List Lexeme} → AreStatements s.tree ts → IsPlain statements (AStatements s) ts
  is_block : (b : Nested BlockTree) {ts : List Lexeme} → IsBlock b.tree ts → IsPlain block (ABlock b) ts
  is_for_start : (s : Nested ForStartTree) {ts : List Lexeme} → IsForStart s.tree ts → IsPlain for_start (AForStart s) ts
  are_resources_inside : (r : Nested (List ResourceTree)) {ts : List Lexeme} → AreResourcesInside r.tree ts → IsPlain resources_inside (AResources r) ts
  are_catches : (c : Nested (List CatchTree)) {ts : List Lexeme} → AreCatches c.tree ts → IsPlain catches (ACatches c) ts
  are_formal_parameters : (p : ParametersTree) {ts : List Lexeme} → AreParameters p.receiver p.declared ts → IsPlain formal_parameters (AParameters p) ts
  is_open_super_call : (c : Option SuperCallTree) {ts : List Lexeme} → ((t : Lexeme) → Is word.Semicolon t → IsSuperCall c (ts ++ t ∷ [])) → IsPlain open_super_call (ASuperCall c) ts
  is_super_call : (c : Option SuperCallTree) {ts : List Lexeme} → IsSuperCall c ts → IsPlain super_call (ASuperCall c) ts
  is_constructor_body : (b : ConstructorBodyTree) {ts : List Lexeme} → IsConstructorBody (Some b) ts → IsPlain constructor_body (AConstructorBody b) ts
  are_members : (m : List MemberTree) {ts : List Lexeme} → AreMembers m ts → IsPlain members (AMembers m) ts
  are_types : (c : List ClassTree) {ts : List Lexeme} → AreClasses c ts → IsPlain types (ATypes c) ts
  are_open_imports : (i : List Import) {ts : List Lexeme} → ((t : Lexeme) → Is word.Semicolon t → AreInOrder Import IsImport i (ts ++ t ∷ [])) → IsPlain open_imports (AImports i) ts
  are_imports : (i : List Import) {ts : List Lexeme} → AreInOrder Import IsImport i ts → IsPlain imports (AImports i) ts
  is_unit : (u : UnitTree) {ts : List Lexeme} → IsUnit u ts → IsPlain unit (AUnit u) ts
  are_units : (u : List UnitTree) {ts : List Lexeme} → AreUnits u ts → IsPlain units (AUnits u) ts

-- a value with the tokens that it is written with
pub data IsWritten : Part → ValueTree → List Lexeme → Type 0 where
  by_plain : {p : Plain} {v : ValueTree} {ts : List Lexeme} → IsPlain p v ts → IsWritten (plain p) v ts
  is_graded : {g : Grade} (e : Nested ExprTree) {ts : List Lexeme} → IsOperand (level g) e.tree ts → IsWritten (graded g) (AExpression e) ts
  is_none : {l : Listing} {v : ValueTree} → IsEmptyList l v → IsWritten (none l) v []
  is_behind : {l : Listing} {w : Word} {v : ValueTree} {ts : List Lexeme} (t : Lexeme) → IsListed l w v ts → Is w t → IsWritten (behind l w) v (ts ++ t ∷ [])
  is_first : {l : Listing} {w : Word} {v : ValueTree} → IsEmptyList l v → IsWritten (next l w) v []
  is_next : {l : Listing} {w : Word} {v : ValueTree} {ts : List Lexeme} (t : Lexeme) → IsListed l w v ts → Is w t → IsWritten (next l w) v (ts ++ t ∷ [])
  is_some : {l : Listing} {w : Word} {v : ValueTree} {ts : List Lexeme} → IsListed l w v ts → IsWritten (some l w) v ts
  is_empty : {l : Listing} {w : Word} {v : ValueTree} → IsEmptyList l v → IsWritten (any l w) v []
  is_any : {l : Listing} {w : Word} {v : ValueTree} {ts : List Lexeme} → IsListed l w v ts → IsWritten (any l w) v ts
  is_clause : {w : Word} (ns : List Name) {ts : List Lexeme} → IsClause w ns ts → IsWritten (clause w) (ANames ns) ts

-- The tokens of a file; those of loose classes are loose operators.
pub record File : Type 0 where
  pub tokens : List Lexeme
  pub graded : AllByRecursion HasLooseOperator tokens

-- The cells, the top first, hold these values, the top first, and are written with the tokens of the file before these; the last token is this, where it is in no value yet.
pub data Holds (file : File) : List Cell → List ValueTree → Option Lexeme → List Lexeme → Type 0 where
  empty : (from : List Lexeme) → from ≡ file.tokens → Holds file [] [] None from
  a_word : {w : Word} {cs : List Cell} {vs : List ValueTree} {l : Option Lexeme} {to : List Lexeme} (t : Lexeme) → Is w t → Holds file cs vs l (t ∷ to) → Holds file (word' w ∷ cs) vs (Some t) to
  a_start : {cs : List Cell} {vs : List ValueTree} {l m : Option Lexeme} {to : List Lexeme} (p : Pos) → BeginAt p to → Holds file cs vs l to → Holds file (start ∷ cs) (APlace p ∷ vs) m to
  a_kept : {w : Word} {cs : List Cell} {vs : List ValueTree} {l m : Option Lexeme} {to : List Lexeme} (t : Lexeme) → Is w t → Holds file cs vs l (t ∷ to) → Holds file (kept w ∷ cs) (AToken t ∷ vs) m to
  a_value : {p : Part} {cs : List Cell} {vs : List ValueTree} {l m : Option Lexeme} {to : List Lexeme} (v : ValueTree) {ts : List Lexeme} → IsWritten p v ts → Holds file cs vs l (ts ++ to) → Holds file (value p ∷ cs) (v ∷ vs) m to
  a_pending : {cs : List Cell} {vs : List ValueTree} {l m : Option Lexeme} {to : List Lexeme} (e : Nested ExprTree) (os : List OpenOperationTree) (n : ℕ) {ts us : List Lexeme} → AreOperations os ts → IsOperand n e.tree us → Suits n os → n ≤ infix_level comparison → Holds file cs vs l (ts ++ (us ++ to))
      → Holds file (pending ∷ cs) (AExpression e ∷ AOperations os ∷ vs) m to
  a_compared : {cs : List Cell} {vs : List ValueTree} {l m : Option Lexeme} {to : List Lexeme} (e : Nested ExprTree) (os : List OpenOperationTree) {ts us : List Lexeme} → AreOperations os ts → IsOperand (infix_level comparison) e.tree us → Suits (infix_level comparison) os → Holds file cs vs l (ts ++ (us ++ to))
      → Holds file (compared ∷ cs) (AExpression e ∷ AOperations os ∷ vs) m to
  a_statement : {cs : List Cell} {vs : List ValueTree} {l m : Option Lexeme} {to : List Lexeme} (s : Nested StmtTree) {ts : List Lexeme} → IsStatement s.tree ts → (first_word to ≡ Some word.Else → ends_in_short_if s.tree ≡ false) → Holds file cs vs l (ts ++ to)
      → Holds file (statement' ∷ cs) (AStatement s ∷ vs) m to
  a_no_else : {cs : List Cell} {vs : List ValueTree} {l m : Option Lexeme} {to : List Lexeme} → (first_word to ≡ Some word.Else → ⊥) → Holds file cs vs l to → Holds file (no_else ∷ cs) vs m to
  a_try : {cs : List Cell} {vs : List ValueTree} {l m : Option Lexeme} {to : List Lexeme} (r : Nested (List ResourceTree)) (t : Lexeme) (p : Pos) {ts : List Lexeme} → BeginAt p (t ∷ []) → Is word.Try t → AreResources r.tree ts → Holds file cs vs l (t ∷ ts ++ to)
      → Holds file (try_head ∷ cs) (AResources r ∷ APlace p ∷ vs) m to
