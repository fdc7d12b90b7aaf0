-- The tokens that a file is written with, read off its tree in order, and the places of its declarations.
use Rattle.std.specs.Prelude.{ℕ, List, [], ◌∷◌, ◌++◌, Option, Some, None, true, false}
use Rattle.java_syntax.specs.declared.words.Word.{Word}
use Rattle.java_syntax.specs.declared.words.Word.TheVariants as word
use Rattle.java_syntax.specs.declared.names.Name.{Name}
use Rattle.java_syntax.specs.declared.names.Typ.{Typ}
use Rattle.java_syntax.specs.declared.declaration_trees.Import.{Import}
use Rattle.java_syntax.specs.Derives.{Lexeme}
use Rattle.java_syntax.specs.ExpressionTrees.{ExprTree}
use Rattle.java_syntax.specs.AnnotationTrees.{ModifierTree}
use Rattle.java_syntax.specs.StatementTrees.{VariableTree, StmtTree, BlockTree, Braces, statements}
use Rattle.java_syntax.specs.DeclarationTrees as tree
use Rattle.java_syntax.specs.DeclarationTrees.{ParamTree, SuperCallTree, ConstructorBodyTree, MemberTree, ClassTree, UnitTree}
use Rattle.reading_laws.specs.Names.{Is, IsName, IsType, identifier_at, AreInOrder, AreSeparated}
use Rattle.reading_laws.specs.Expressions.{AreArguments}
use Rattle.reading_laws.specs.Annotations.{AreModifiers}
use Rattle.reading_laws.specs.Statements.{AreVariables, AreStatements, IsBlock}

-- a parameter whose name is a token of this class, an identifier or the `this` of a receiver parameter (JLS 8.4)
pub data IsParameter (kind : Word) : ParamTree → List Lexeme → Type 0 where
  parameter : {modifiers : List ModifierTree} {ts : List Lexeme} {typ : Typ} {us : List Lexeme} (name : Lexeme) → AreModifiers modifiers ts → IsType typ us → Is kind name
      → IsParameter kind (record { modifiers = modifiers; typ = typ; name = identifier_at name }) (ts ++ us ++ name ∷ [])

-- a receiver parameter, which stands first, and declared parameters, with commas between them; one at least
pub data AreSomeParameters : Option ParamTree → List ParamTree → List Lexeme → Type 0 where
  receiver : (p : ParamTree) {ts : List Lexeme} → IsParameter word.This p ts → AreSomeParameters (Some p) [] ts
  first_parameter : (p : ParamTree) {ts : List Lexeme} → IsParameter word.Ident p ts → AreSomeParameters None (p ∷ []) ts
  further_parameter : {first : Option ParamTree} {all : List ParamTree} {ts : List Lexeme} (comma : Lexeme) (p : ParamTree) {us : List Lexeme} → AreSomeParameters first all ts → Is word.Comma comma → IsParameter word.Ident p us
      → AreSomeParameters first (all ++ p ∷ []) (ts ++ comma ∷ us)

-- the parameters with their parentheses (JLS 8.4.1)
pub data AreParameters : Option ParamTree → List ParamTree → List Lexeme → Type 0 where
  no_parameters : (open' close : Lexeme) → Is word.OpenParen open' → Is word.CloseParen close → AreParameters None [] (open' ∷ close ∷ [])
  some_parameters : {first : Option ParamTree} {all : List ParamTree} {ts : List Lexeme} (open' close : Lexeme) → Is word.OpenParen open' → AreSomeParameters first all ts → Is word.CloseParen close
      → AreParameters first all (open' ∷ ts ++ close ∷ [])

-- names behind a word, with commas between them, or nothing: what a class implements or an interface extends, or a throws clause
pub data IsClause (kind : Word) : List Name → List Lexeme → Type 0 where
  no_clause : IsClause kind [] []
  some_clause : {names : List Name} {ts : List Lexeme} (t : Lexeme) → Is kind t → AreSeparated Name IsName word.Comma names ts → IsClause kind names (t ∷ ts)

-- the type of a method's result, or `void` (JLS 8.4.5)
pub data IsResult : Option Typ → List Lexeme → Type 0 where
  void : (t : Lexeme) → Is word.Void t → IsResult None (t ∷ [])
  result : {typ : Typ} {ts : List Lexeme} → IsType typ ts → IsResult (Some typ) ts

-- a method's block, or `;` (JLS 8.4.7)
pub data IsMethodBody : Option BlockTree → List Lexeme → Type 0 where
  no_body : (semicolon : Lexeme) → Is word.Semicolon semicolon → IsMethodBody None (semicolon ∷ [])
  body : {b : BlockTree} {ts : List Lexeme} → IsBlock b ts → IsMethodBody (Some b) ts

-- `super` with arguments and `;` (JLS 8.8.7.1), where it is written
pub data IsSuperCall : Option SuperCallTree → List Lexeme → Type 0 where
  no_super_call : IsSuperCall None []
  super_call : {all : List ExprTree} {ts : List Lexeme} (t semicolon : Lexeme) → Is word.Super t → AreArguments all ts → Is word.Semicolon semicolon
      → IsSuperCall (Some (record { arguments = all; pos = t.pos })) (t ∷ ts ++ semicolon ∷ [])

-- such a call and statements, with the places of `{` and `}` (JLS 8.8.7); or `;`
pub data IsConstructorBody : Option ConstructorBodyTree → List Lexeme → Type 0 where
  no_constructor_body : (semicolon : Lexeme) → Is word.Semicolon semicolon → IsConstructorBody None (semicolon ∷ [])
  constructor_body : {call : Option SuperCallTree} {ts : List Lexeme} {all : List StmtTree} {us : List Lexeme} (open' close : Lexeme) → Is word.OpenBrace open' → IsSuperCall call ts → AreStatements all us → Is word.CloseBrace close
      → IsConstructorBody (Some (record { super_call = call; block = Braces (statements all) open'.pos close.pos })) (open' ∷ ts ++ us ++ close ∷ [])

-- A field, method or constructor has the place of its name (JLS 8.3, 8.4, 8.8).
pub data IsMember : MemberTree → List Lexeme → Type 0 where
  field : {modifiers : List ModifierTree} {ts : List Lexeme} {typ : Typ} {us : List Lexeme} {all : List VariableTree} {vs : List Lexeme} (semicolon : Lexeme) → AreModifiers modifiers ts → IsType typ us → AreVariables all vs → Is word.Semicolon semicolon
      → IsMember (tree.FieldOf (record { modifiers = modifiers; typ = typ; variables = all })) (ts ++ us ++ vs ++ semicolon ∷ [])
  method : {modifiers : List ModifierTree} {ts : List Lexeme} {typ : Option Typ} {us : List Lexeme} {first : Option ParamTree} {all : List ParamTree} {vs : List Lexeme} {throws : List Name} {ws : List Lexeme} {body : Option BlockTree} {xs : List Lexeme} (name : Lexeme)
      → AreModifiers modifiers ts → IsResult typ us → Is word.Ident name → AreParameters first all vs → IsClause word.Throws throws ws → IsMethodBody body xs
      → IsMember (tree.MethodOf (record { modifiers = modifiers; result = typ; name = identifier_at name; receiver = first; parameters = all; throws = throws; body = body })) (ts ++ us ++ name ∷ vs ++ ws ++ xs)
  constructor : {modifiers : List ModifierTree} {ts : List Lexeme} {first : Option ParamTree} {all : List ParamTree} {us : List Lexeme} {throws : List Name} {vs : List Lexeme} {body : Option ConstructorBodyTree} {ws : List Lexeme} (name : Lexeme)
      → AreModifiers modifiers ts → Is word.Ident name → AreParameters first all us → IsClause word.Throws throws vs → IsConstructorBody body ws
      → IsMember (tree.ConstructorOf (record { modifiers = modifiers; name = identifier_at name; receiver = first; parameters = all; throws = throws; body = body })) (ts ++ name ∷ us ++ vs ++ ws)

-- items that stand one behind the other, with semicolons among them that leave no node (JLS 7.6, 8.1.7)
pub data AreAmongSemicolons (A : Type 0) (IsItem : A → List Lexeme → Type 0) : List A → List Lexeme → Type 0 where
  nothing : AreAmongSemicolons A IsItem [] []
  further : {all : List A} {ts : List Lexeme} (one : A) {us : List Lexeme} → AreAmongSemicolons A IsItem all ts → IsItem one us → AreAmongSemicolons A IsItem (all ++ one ∷ []) (ts ++ us)
  semicolon : {all : List A} {ts : List Lexeme} (t : Lexeme) → AreAmongSemicolons A IsItem all ts → Is word.Semicolon t → AreAmongSemicolons A IsItem all (ts ++ t ∷ [])

abbrev pub AreMembers : List MemberTree → List Lexeme → Type 0
AreMembers = AreAmongSemicolons MemberTree IsMember

-- what a class extends, where it is written
pub data IsSuperclass : Option Name → List Lexeme → Type 0 where
  no_superclass : IsSuperclass None []
  superclass : {name : Name} {ts : List Lexeme} (t : Lexeme) → Is word.Extends t → IsName name ts → IsSuperclass (Some name) (t ∷ ts)

-- a class (JLS 8.1) or an interface (JLS 9.1), whose place is that of its name
pub data IsClass : ClassTree → List Lexeme → Type 0 where
  «class» : {modifiers : List ModifierTree} {ts : List Lexeme} {superclass : Option Name} {us : List Lexeme} {interfaces : List Name} {vs : List Lexeme} {members : List MemberTree} {ws : List Lexeme} (t name open' close : Lexeme)
      → AreModifiers modifiers ts → Is word.Class t → Is word.Ident name → IsSuperclass superclass us → IsClause word.Implements interfaces vs → Is word.OpenBrace open' → AreMembers members ws → Is word.CloseBrace close
      → IsClass (record { modifiers = modifiers; is_interface = false; name = identifier_at name; superclass = superclass; interfaces = interfaces; members = members }) (ts ++ t ∷ name ∷ us ++ vs ++ open' ∷ ws ++ close ∷ [])
  interface : {modifiers : List ModifierTree} {ts : List Lexeme} {interfaces : List Name} {us : List Lexeme} {members : List MemberTree} {vs : List Lexeme} (t name open' close : Lexeme)
      → AreModifiers modifiers ts → Is word.Interface t → Is word.Ident name → IsClause word.Extends interfaces us → Is word.OpenBrace open' → AreMembers members vs → Is word.CloseBrace close
      → IsClass (record { modifiers = modifiers; is_interface = true; name = identifier_at name; superclass = None; interfaces = interfaces; members = members }) (ts ++ t ∷ name ∷ us ++ open' ∷ vs ++ close ∷ [])

abbrev pub AreClasses : List ClassTree → List Lexeme → Type 0
AreClasses = AreAmongSemicolons ClassTree IsClass

-- an import, whose place is that of its word (JLS 7.5)
pub data IsImport : Import → List Lexeme → Type 0 where
  one_type : {name : Name} {ts : List Lexeme} (t semicolon : Lexeme) → Is word.Import t → IsName name ts → Is word.Semicolon semicolon
      → IsImport (record { name = name.text; star = false; pos = t.pos }) (t ∷ ts ++ semicolon ∷ [])
  all_types : {name : Name} {ts : List Lexeme} (t dot star semicolon : Lexeme) → Is word.Import t → IsName name ts → Is word.Dot dot → Is word.Star star → Is word.Semicolon semicolon
      → IsImport (record { name = name.text; star = true; pos = t.pos }) (t ∷ ts ++ dot ∷ star ∷ semicolon ∷ [])

-- the name of a package (JLS 7.4), where it is written
pub data IsPackage : List ℕ → List Lexeme → Type 0 where
  no_package : IsPackage [] []
  package' : {name : Name} {ts : List Lexeme} (t semicolon : Lexeme) → Is word.Package t → IsName name ts → Is word.Semicolon semicolon → IsPackage name.text (t ∷ ts ++ semicolon ∷ [])

-- a source file (JLS 7.3), or a section of a stub file
pub data IsUnit : UnitTree → List Lexeme → Type 0 where
  unit : {name : List ℕ} {ts : List Lexeme} {imports : List Import} {us : List Lexeme} {types : List ClassTree} {vs : List Lexeme} → IsPackage name ts → AreInOrder Import IsImport imports us → AreClasses types vs
      → IsUnit (record { package_name = name; imports = imports; types = types }) (ts ++ us ++ vs)

-- the sections of a stub file
abbrev pub AreUnits : List UnitTree → List Lexeme → Type 0
AreUnits = AreInOrder UnitTree IsUnit
