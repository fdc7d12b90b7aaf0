-- The tokens that an expression is written with, read off its tree in order, and the place of each node.
use Rattle.std.specs.Prelude.{◌≡◌, ℕ, ◌+◌, ◌≤◌, Bool, List, [], ◌∷◌, ◌++◌, true, false}
use Rattle.java_syntax.specs.declared.words.Word.{Word}
use Rattle.java_syntax.specs.declared.words.Word.TheVariants as word
use Rattle.java_syntax.specs.declared.names.Name.{Name}
use Rattle.java_syntax.specs.declared.names.Typ.{Typ}
use Rattle.java_syntax.specs.Derives.{Lexeme}
use Rattle.java_syntax.specs.ExpressionTrees as tree
use Rattle.java_syntax.specs.ExpressionTrees.{ExprTree, expressions}
use Rattle.java_nodes.specs.Operators.{infix_operator, prefix_operator, step_operator, compound_operator}
use Rattle.java_nodes.specs.Parts.{level_of, comparison, loosest}
use Rattle.reading_laws.specs.Names.{Is, IsName, IsPrimitiveType, IsElementType, IsReferenceType, IsType}

-- the classes of the operators between two operands (JLS 15.17 to 15.24), but `instanceof`
abbrev pub is_infix : Word → Bool
is_infix word.Sign = true
is_infix word.Star = true
is_infix word.Tight = true
is_infix word.Loose = true
is_infix word.Bar = true
is_infix _ = false

-- How tight an expression binds, the tightest first (JLS 15.8 to 15.27): a primary expression that creates no array, a primary expression, a postfix one, a unary one without and with a sign, that of an operator between two operands, a
-- conditional expression, an assignment.
abbrev pub no_array_level : ℕ
no_array_level = 0

abbrev pub primary_level : ℕ
primary_level = 1

abbrev pub postfix_level : ℕ
postfix_level = 2

abbrev pub unsigned_level : ℕ
unsigned_level = 3

abbrev pub unary_level : ℕ
unary_level = 4

-- of an operator that is so tight (JLS 15.17 to 15.24), and of its right operand
abbrev pub infix_level : ℕ → ℕ
infix_level n = 5 + n

abbrev pub right_level : ℕ → ℕ
right_level n = 4 + n

abbrev pub conditional_level : ℕ
conditional_level = 15

abbrev pub assignment_level : ℕ
assignment_level = 16

mutual
  -- An expression that binds at least as tight as the level. Operators of one level associate to the left, assignments and conditional expressions to the right.
  -- Parentheses round an expression leave no node. A call has the place of the method's name, a field access that of the field's name, a binary, assignment or postfix expression that of its operator, a conditional that of `?`,
  -- an index that of `[`, and every other that of its first token.
  pub data IsOperand : ℕ → ExprTree → List Lexeme → Type 0 where
    looser : {m n : ℕ} {e : ExprTree} {ts : List Lexeme} → m ≤ n → IsOperand m e ts → IsOperand n e ts
    parentheses : {e : ExprTree} {ts : List Lexeme} (open' close : Lexeme) → Is word.OpenParen open' → IsOperand assignment_level e ts → Is word.CloseParen close → IsOperand no_array_level e (open' ∷ ts ++ close ∷ [])
    literal : (t : Lexeme) → Is word.Literal t → IsOperand no_array_level (tree.Literal t.text t.pos) (t ∷ [])
    identifier : (t : Lexeme) → Is word.Ident t → IsOperand no_array_level (tree.Identifier t.text t.pos) (t ∷ [])
    this : (t : Lexeme) → Is word.This t → IsOperand no_array_level (tree.This t.pos) (t ∷ [])
    call : {all : List ExprTree} {us : List Lexeme} (t : Lexeme) → Is word.Ident t → AreArguments all us → IsOperand no_array_level (tree.Call t.text (expressions all) t.pos) (t ∷ us)
    super_call : {all : List ExprTree} {us : List Lexeme} (s dot t : Lexeme) → Is word.Super s → Is word.Dot dot → Is word.Ident t → AreArguments all us
        → IsOperand no_array_level (tree.SuperCall t.text (expressions all) t.pos) (s ∷ dot ∷ t ∷ us)
    method_call : {e : ExprTree} {ts : List Lexeme} {all : List ExprTree} {us : List Lexeme} (dot t : Lexeme) → IsOperand primary_level e ts → Is word.Dot dot → Is word.Ident t → AreArguments all us
        → IsOperand no_array_level (tree.MethodCall e t.text (expressions all) t.pos) (ts ++ dot ∷ t ∷ us)
    field_access : {e : ExprTree} {ts : List Lexeme} (dot t : Lexeme) → IsOperand primary_level e ts → Is word.Dot dot → Is word.Ident t → IsOperand no_array_level (tree.FieldAccess e t.text t.pos) (ts ++ dot ∷ t ∷ [])
    index : {e i : ExprTree} {ts us : List Lexeme} (open' close : Lexeme) → IsOperand no_array_level e ts → Is word.OpenBracket open' → IsOperand assignment_level i us → Is word.CloseBracket close
        → IsOperand no_array_level (tree.Index e i open'.pos) (ts ++ open' ∷ us ++ close ∷ [])
    new_object : {class' : Name} {ts : List Lexeme} {all : List ExprTree} {us : List Lexeme} (new : Lexeme) → Is word.New new → IsName class' ts → AreArguments all us
        → IsOperand no_array_level (tree.NewObject class' (expressions all) new.pos) (new ∷ ts ++ us)
    new_array : {typ : Typ} {ts : List Lexeme} {e : ExprTree} {us : List Lexeme} (new open' close : Lexeme) → Is word.New new → IsElementType typ ts → Is word.OpenBracket open' → IsOperand assignment_level e us → Is word.CloseBracket close
        → IsOperand primary_level (tree.NewArray typ e new.pos) (new ∷ ts ++ open' ∷ us ++ close ∷ [])
    postfix_step : {e : ExprTree} {ts : List Lexeme} (t : Lexeme) → IsOperand postfix_level e ts → Is word.Step t → IsOperand postfix_level (tree.PostfixStep (step_operator t.text) e t.pos) (ts ++ t ∷ [])
    prefix_not : {e : ExprTree} {ts : List Lexeme} (t : Lexeme) → Is word.Not t → IsOperand unary_level e ts → IsOperand unsigned_level (tree.Prefix (prefix_operator t.text) e t.pos) (t ∷ ts)
    cast : {typ : Typ} {ts : List Lexeme} {e : ExprTree} {us : List Lexeme} (open' close : Lexeme) → Is word.OpenParen open' → IsReferenceType typ ts → Is word.CloseParen close → IsOperand unsigned_level e us
        → IsOperand unsigned_level (tree.Cast typ e open'.pos) (open' ∷ ts ++ close ∷ us)
    primitive_cast : {typ : Typ} {ts : List Lexeme} {e : ExprTree} {us : List Lexeme} (open' close : Lexeme) → Is word.OpenParen open' → IsPrimitiveType typ ts → Is word.CloseParen close → IsOperand unary_level e us
        → IsOperand unary_level (tree.Cast typ e open'.pos) (open' ∷ ts ++ close ∷ us)
    prefix_sign : {e : ExprTree} {ts : List Lexeme} (t : Lexeme) → Is word.Sign t → IsOperand unary_level e ts → IsOperand unary_level (tree.Prefix (prefix_operator t.text) e t.pos) (t ∷ ts)
    prefix_step : {e : ExprTree} {ts : List Lexeme} (t : Lexeme) → Is word.Step t → IsOperand unary_level e ts → IsOperand unary_level (tree.PrefixStep (step_operator t.text) e t.pos) (t ∷ ts)
    infix' : {a b : ExprTree} {ts us : List Lexeme} (t : Lexeme) → IsOperand (infix_level (level_of (infix_operator t.text))) a ts → is_infix t.word ≡ true → IsOperand (right_level (level_of (infix_operator t.text))) b us
        → IsOperand (infix_level (level_of (infix_operator t.text))) (tree.Infix (infix_operator t.text) a b t.pos) (ts ++ t ∷ us)
    instance_of : {e : ExprTree} {ts : List Lexeme} {typ : Typ} {us : List Lexeme} (t : Lexeme) → IsOperand (infix_level comparison) e ts → Is word.Instanceof t → IsType typ us
        → IsOperand (infix_level comparison) (tree.InstanceOf e typ t.pos) (ts ++ t ∷ us)
    conditional : {c a b : ExprTree} {ts us vs : List Lexeme} (question colon : Lexeme) → IsOperand (infix_level loosest) c ts → Is word.Question question → IsOperand assignment_level a us → Is word.Colon colon → IsOperand conditional_level b vs
        → IsOperand conditional_level (tree.Conditional c a b question.pos) (ts ++ question ∷ us ++ colon ∷ vs)
    assignment : {a b : ExprTree} {ts us : List Lexeme} (t : Lexeme) → IsOperand primary_level a ts → Is word.Assign t → IsOperand assignment_level b us → IsOperand assignment_level (tree.Assignment a b t.pos) (ts ++ t ∷ us)
    compound_assignment : {a b : ExprTree} {ts us : List Lexeme} (t : Lexeme) → IsOperand primary_level a ts → Is word.Compound t → IsOperand assignment_level b us
        → IsOperand assignment_level (tree.CompoundAssignment (compound_operator t.text) a b t.pos) (ts ++ t ∷ us)

  -- expressions, one at least, with commas between them
  pub data AreExpressions : List ExprTree → List Lexeme → Type 0 where
    first_expression : (e : ExprTree) {ts : List Lexeme} → IsOperand assignment_level e ts → AreExpressions (e ∷ []) ts
    further_expression : {all : List ExprTree} {ts : List Lexeme} (comma : Lexeme) (e : ExprTree) {us : List Lexeme} → AreExpressions all ts → Is word.Comma comma → IsOperand assignment_level e us
        → AreExpressions (all ++ e ∷ []) (ts ++ comma ∷ us)

  -- arguments in their parentheses (JLS 15.12)
  pub data AreArguments : List ExprTree → List Lexeme → Type 0 where
    no_arguments : (open' close : Lexeme) → Is word.OpenParen open' → Is word.CloseParen close → AreArguments [] (open' ∷ close ∷ [])
    some_arguments : {all : List ExprTree} {ts : List Lexeme} (open' close : Lexeme) → Is word.OpenParen open' → AreExpressions all ts → Is word.CloseParen close → AreArguments all (open' ∷ ts ++ close ∷ [])

-- an expression (JLS 15)
abbrev pub IsExpression : ExprTree → List Lexeme → Type 0
IsExpression = IsOperand assignment_level

-- the classes of the operators that bind no tighter than a comparison
abbrev pub is_loose : Word → Bool
is_loose word.Loose = true
is_loose word.Bar = true
is_loose _ = false

-- The text of a token of such a class is such an operator.
abbrev pub HasLooseOperator : Lexeme → Type 0
HasLooseOperator t = is_loose t.word ≡ true → comparison ≤ level_of (infix_operator t.text)
