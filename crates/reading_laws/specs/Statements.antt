-- The tokens that a statement is written with, read off its tree in order, and the place of each node.
use Rattle.std.specs.Prelude.{List, [], ◌∷◌, ◌++◌, Option, Some, None, ◌≡◌, Bool, true, false}
use Rattle.rlc_base.specs.declared.place.Pos.{Pos}
use Rattle.java_syntax.specs.declared.words.Word.TheVariants as word
use Rattle.java_syntax.specs.declared.names.Name.{Name}
use Rattle.java_syntax.specs.declared.names.Typ.{Typ}
use Rattle.java_syntax.specs.Derives.{Lexeme}
use Rattle.java_syntax.specs.ExpressionTrees.{ExprTree}
use Rattle.java_syntax.specs.AnnotationTrees.{ModifierTree}
use Rattle.java_syntax.specs.StatementTrees as tree
use Rattle.java_syntax.specs.StatementTrees.{VariableTree, LocalTree, ResourceTree, ForStartTree, StmtTree, BlockTree, CatchTree, MaybeBlock}
use Rattle.reading_laws.specs.Names.{Is, BeginAt, IsName, IsType, identifier_at, AreSeparated}
use Rattle.reading_laws.specs.Expressions.{IsExpression, AreExpressions}
use Rattle.reading_laws.specs.Annotations.{AreModifiers}

-- a declared name and maybe its initializer (JLS 8.3, 14.4)
pub data IsVariable : VariableTree → List Lexeme → Type 0 where
  without_initializer : (name : Lexeme) → Is word.Ident name → IsVariable (record { name = identifier_at name; initializer = None }) (name ∷ [])
  with_initializer : {e : ExprTree} {ts : List Lexeme} (name equals : Lexeme) → Is word.Ident name → Is word.Assign equals → IsExpression e ts
      → IsVariable (record { name = identifier_at name; initializer = Some e }) (name ∷ equals ∷ ts)

abbrev pub AreVariables : List VariableTree → List Lexeme → Type 0
AreVariables = AreSeparated VariableTree IsVariable word.Comma

-- a declaration of local variables (JLS 14.4)
pub data IsLocal : LocalTree → List Lexeme → Type 0 where
  local : {modifiers : List ModifierTree} {ts : List Lexeme} {typ : Typ} {us : List Lexeme} {all : List VariableTree} {vs : List Lexeme} → AreModifiers modifiers ts → IsType typ us → AreVariables all vs
      → IsLocal (record { modifiers = modifiers; typ = typ; variables = all }) (ts ++ us ++ vs)

-- a resource of a `try` (JLS 14.20.3)
pub data IsResource : ResourceTree → List Lexeme → Type 0 where
  resource : {modifiers : List ModifierTree} {ts : List Lexeme} {class' : Name} {us : List Lexeme} {e : ExprTree} {vs : List Lexeme} (name equals : Lexeme) → AreModifiers modifiers ts → IsName class' us → Is word.Ident name → Is word.Assign equals → IsExpression e vs
      → IsResource (record { modifiers = modifiers; class' = class'; name = identifier_at name; value = e }) (ts ++ us ++ name ∷ equals ∷ vs)

-- the resources of a `try` with their parentheses, where there are some, and maybe a semicolon behind the last
pub data AreResources : List ResourceTree → List Lexeme → Type 0 where
  no_resource : AreResources [] []
  some_resources : {all : List ResourceTree} {ts : List Lexeme} (open' close : Lexeme) → Is word.OpenParen open' → AreSeparated ResourceTree IsResource word.Semicolon all ts → Is word.CloseParen close
      → AreResources all (open' ∷ ts ++ close ∷ [])
  semicolon_behind : {all : List ResourceTree} {ts : List Lexeme} (open' semicolon close : Lexeme) → Is word.OpenParen open' → AreSeparated ResourceTree IsResource word.Semicolon all ts → Is word.Semicolon semicolon → Is word.CloseParen close
      → AreResources all (open' ∷ ts ++ semicolon ∷ close ∷ [])

-- an expression that may be absent
pub data IsOptionalExpression : Option ExprTree → List Lexeme → Type 0 where
  absent : IsOptionalExpression None []
  present : {e : ExprTree} {ts : List Lexeme} → IsExpression e ts → IsOptionalExpression (Some e) ts

-- expressions with commas between them, or none
pub data AreOptionalExpressions : List ExprTree → List Lexeme → Type 0 where
  no_expressions : AreOptionalExpressions [] []
  some_expressions : {all : List ExprTree} {ts : List Lexeme} → AreExpressions all ts → AreOptionalExpressions all ts

-- what a `for` begins with (JLS 14.14.1)
pub data IsForStart : ForStartTree → List Lexeme → Type 0 where
  declaration : {l : LocalTree} {ts : List Lexeme} → IsLocal l ts → IsForStart (tree.Declaration l) ts
  expressions : {all : List ExprTree} {ts : List Lexeme} → AreOptionalExpressions all ts → IsForStart (tree.Expressions all) ts

-- It ends in an `if` without an `else`, so that an `else` behind it would belong to that `if` (JLS 14.5).
abbrev pub ends_in_short_if : StmtTree → Bool
ends_in_short_if (tree.If c s tree.no_else pos) = true
ends_in_short_if (tree.If c s (tree.some_else otherwise) pos) = ends_in_short_if otherwise
ends_in_short_if (tree.While c s pos) = ends_in_short_if s
ends_in_short_if (tree.For start c updates s pos) = ends_in_short_if s
ends_in_short_if _ = false

mutual
  -- The place of a statement is that of its first token.
  pub data IsStatement : StmtTree → List Lexeme → Type 0 where
    block : {b : BlockTree} {ts : List Lexeme} → IsBlock b ts → IsStatement (tree.BlockOf b) ts
    empty : (semicolon : Lexeme) → Is word.Semicolon semicolon → IsStatement (tree.Empty semicolon.pos) (semicolon ∷ [])
    local_declaration : {l : LocalTree} {ts : List Lexeme} (pos : Pos) (semicolon : Lexeme) → IsLocal l ts → Is word.Semicolon semicolon → BeginAt pos (ts ++ semicolon ∷ [])
        → IsStatement (tree.LocalOf l pos) (ts ++ semicolon ∷ [])
    expression : {e : ExprTree} {ts : List Lexeme} (pos : Pos) (semicolon : Lexeme) → IsExpression e ts → Is word.Semicolon semicolon → BeginAt pos (ts ++ semicolon ∷ [])
        → IsStatement (tree.ExpressionOf e pos) (ts ++ semicolon ∷ [])
    if_then : {c : ExprTree} {ts : List Lexeme} {s : StmtTree} {us : List Lexeme} (t open' close : Lexeme) → Is word.If t → Is word.OpenParen open' → IsExpression c ts → Is word.CloseParen close → IsStatement s us
        → IsStatement (tree.If c s tree.no_else t.pos) (t ∷ open' ∷ ts ++ close ∷ us)
    if_else : {c : ExprTree} {ts : List Lexeme} {s : StmtTree} {us : List Lexeme} {o : StmtTree} {vs : List Lexeme} (t open' close otherwise : Lexeme) → Is word.If t → Is word.OpenParen open' → IsExpression c ts → Is word.CloseParen close
        → IsStatement s us → ends_in_short_if s ≡ false → Is word.Else otherwise → IsStatement o vs → IsStatement (tree.If c s (tree.some_else o) t.pos) (t ∷ open' ∷ ts ++ close ∷ us ++ otherwise ∷ vs)
    while : {c : ExprTree} {ts : List Lexeme} {s : StmtTree} {us : List Lexeme} (t open' close : Lexeme) → Is word.While t → Is word.OpenParen open' → IsExpression c ts → Is word.CloseParen close → IsStatement s us
        → IsStatement (tree.While c s t.pos) (t ∷ open' ∷ ts ++ close ∷ us)
    do_while : {s : StmtTree} {ts : List Lexeme} {c : ExprTree} {us : List Lexeme} (t again open' close semicolon : Lexeme) → Is word.Do t → IsStatement s ts → Is word.While again → Is word.OpenParen open' → IsExpression c us → Is word.CloseParen close
        → Is word.Semicolon semicolon → IsStatement (tree.DoWhile s c t.pos) (t ∷ ts ++ again ∷ open' ∷ us ++ close ∷ semicolon ∷ [])
    for : {start : ForStartTree} {ts : List Lexeme} {c : Option ExprTree} {us : List Lexeme} {updates : List ExprTree} {vs : List Lexeme} {s : StmtTree} {ws : List Lexeme} (t open' first second close : Lexeme) → Is word.For t → Is word.OpenParen open'
        → IsForStart start ts → Is word.Semicolon first → IsOptionalExpression c us → Is word.Semicolon second → AreOptionalExpressions updates vs → Is word.CloseParen close → IsStatement s ws
        → IsStatement (tree.For start c updates s t.pos) (t ∷ open' ∷ ts ++ first ∷ us ++ second ∷ vs ++ close ∷ ws)
    try : {resources : List ResourceTree} {ts : List Lexeme} {b : BlockTree} {us : List Lexeme} {all : List CatchTree} {vs : List Lexeme} {finally : MaybeBlock} {ws : List Lexeme} (t : Lexeme) → Is word.Try t → AreResources resources ts → IsBlock b us
        → AreCatches all vs → IsFinally finally ws → IsStatement (tree.Try resources b (tree.catches all) finally t.pos) (t ∷ ts ++ us ++ vs ++ ws)
    return : {value : Option ExprTree} {ts : List Lexeme} (t semicolon : Lexeme) → Is word.Return t → IsOptionalExpression value ts → Is word.Semicolon semicolon → IsStatement (tree.Return value t.pos) (t ∷ ts ++ semicolon ∷ [])
    throw : {e : ExprTree} {ts : List Lexeme} (t semicolon : Lexeme) → Is word.Throw t → IsExpression e ts → Is word.Semicolon semicolon → IsStatement (tree.Throw e t.pos) (t ∷ ts ++ semicolon ∷ [])
    break : (t semicolon : Lexeme) → Is word.Break t → Is word.Semicolon semicolon → IsStatement (tree.Break t.pos) (t ∷ semicolon ∷ [])
    continue : (t semicolon : Lexeme) → Is word.Continue t → Is word.Semicolon semicolon → IsStatement (tree.Continue t.pos) (t ∷ semicolon ∷ [])

  -- with the places of `{` and `}` (JLS 14.2)
  pub data IsBlock : BlockTree → List Lexeme → Type 0 where
    braces : {all : List StmtTree} {ts : List Lexeme} (open' close : Lexeme) → Is word.OpenBrace open' → AreStatements all ts → Is word.CloseBrace close
        → IsBlock (tree.Braces (tree.statements all) open'.pos close.pos) (open' ∷ ts ++ close ∷ [])

  pub data AreStatements : List StmtTree → List Lexeme → Type 0 where
    no_statement : AreStatements [] []
    further_statement : {all : List StmtTree} {ts : List Lexeme} (s : StmtTree) {us : List Lexeme} → AreStatements all ts → IsStatement s us → AreStatements (all ++ s ∷ []) (ts ++ us)

  -- catch clauses (JLS 14.20)
  pub data AreCatches : List CatchTree → List Lexeme → Type 0 where
    no_catch : AreCatches [] []
    further_catch : {all : List CatchTree} {ts : List Lexeme} {modifiers : List ModifierTree} {us : List Lexeme} {classes : List Name} {vs : List Lexeme} {b : BlockTree} {ws : List Lexeme} (t open' name close : Lexeme) → AreCatches all ts
        → Is word.Catch t → Is word.OpenParen open' → AreModifiers modifiers us → AreSeparated Name IsName word.Bar classes vs → Is word.Ident name → Is word.CloseParen close → IsBlock b ws
        → AreCatches (all ++ record { modifiers = modifiers; classes = classes; name = identifier_at name; block = b } ∷ []) (ts ++ t ∷ open' ∷ us ++ vs ++ name ∷ close ∷ ws)

  pub data IsFinally : MaybeBlock → List Lexeme → Type 0 where
    no_finally : IsFinally tree.no_finally []
    some_finally : {b : BlockTree} {ts : List Lexeme} (t : Lexeme) → Is word.Finally t → IsBlock b ts → IsFinally (tree.some_finally b) (t ∷ ts)
