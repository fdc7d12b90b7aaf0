-- No action makes a misfit of values of its kinds, but for the two that look at what parentheses hold.
use Rattle.std.specs.Prelude.{ℕ, ◌+◌, nat_lt, Bool, true, false, if◌then◌else◌, List, [], ◌∷◌, reverse, Option, Some, None}
use Rattle.rlc_base.specs.declared.place.Pos.{Pos}
use Rattle.java_syntax.specs.declared.names.Name.{Name}
use Rattle.java_syntax.specs.Derives.{Lexeme}
use Rattle.java_syntax.specs.ExpressionTrees.{ExprTree}
use Rattle.java_syntax.specs.AnnotationTrees.{ModifierTree}
use Rattle.java_syntax.specs.StatementTrees.{BlockTree, ResourceTree, CatchTree, StmtTree}
use Rattle.java_values.specs.NestedTrees.{Nested, IdentifiersTree, OpenOperationTree}
use Rattle.java_values.specs.Kinds.{Values, ◌▷◌, bottom}
use Rattle.java_values.specs.Outcomes.{Outcome, Made, TooDeep, Misfit, ◌>>=◌, IsNoMisfit, deeper, node}
use Rattle.java_nodes.specs.Nodes.{infix_node, field_access_node, identifier_node, method_call_node}
use Rattle.java_nodes.specs.Operators.{infix_operator}
use Rattle.java_nodes.specs.Parts.{fields_of, name_expression, called, head_node, selector_node, level_of, comparison, loosest, ClosedTree, closed}
use Rattle.java_nodes.specs.StatementParts.{catch_node, try_node, try_finally_node}
use Rattle.java_syntax.specs.declared.actions.TokenAction.{TokenAction}
use Rattle.java_syntax.specs.declared.actions.TokenAction.TheVariants as token
use Rattle.java_expression_actions.specs.TokenActions.{takes_token, leaves_token, act_token}
use Rattle.java_syntax.specs.declared.actions.ExpressionAction.{ExpressionAction}
use Rattle.java_syntax.specs.declared.actions.ExpressionAction.TheVariants as expression
use Rattle.java_expression_actions.specs.ExpressionActions.{takes_expression, leaves_expression, act_expression}
use Rattle.java_syntax.specs.declared.actions.AnnotationAction.{AnnotationAction}
use Rattle.java_syntax.specs.declared.actions.AnnotationAction.TheVariants as annotation
use Rattle.java_expression_actions.specs.AnnotationActions.{takes_annotation, leaves_annotation, act_annotation}
use Rattle.java_syntax.specs.declared.actions.StatementAction.{StatementAction}
use Rattle.java_syntax.specs.declared.actions.StatementAction.TheVariants as statement
use Rattle.java_statement_actions.specs.StatementActions.{takes_statement, leaves_statement, act_statement}
use Rattle.java_syntax.specs.declared.actions.DeclarationAction.{DeclarationAction}
use Rattle.java_syntax.specs.declared.actions.DeclarationAction.TheVariants as declaration
use Rattle.java_statement_actions.specs.DeclarationActions.{takes_declaration, leaves_declaration, act_declaration}

-- the outcome is no misfit
pub data IsMeant (A : Type 0) : Outcome A → Type 0 where
  made : (a : A) → IsMeant A (Made a)
  deep : IsMeant A TooDeep

pub no_misfit : {A : Type 0} (o : Outcome A) → IsMeant A o → IsNoMisfit o
no_misfit (Made a) h = tt
no_misfit TooDeep h = tt
no_misfit Misfit h = elim h [ ]

pub then_meant : {A B : Type 0} (o : Outcome A) (g : A → Outcome B) → IsMeant A o → ((a : A) → IsMeant B (g a)) → IsMeant B (o >>= g)
then_meant (Made a) g h k = k a
then_meant TooDeep g h k = deep
then_meant Misfit g h k = elim h [ ]

chosen_meant : (b : Bool) (d : ℕ) → IsMeant ℕ (if b then Made d else TooDeep)
chosen_meant true d = made d
chosen_meant false d = deep

deeper_meant : (limit depth : ℕ) → IsMeant ℕ (deeper limit depth)
deeper_meant limit depth = chosen_meant (nat_lt depth limit) (depth + 1)

pub node_meant : {A : Type 0} (limit depth : ℕ) (tree : A) → IsMeant (Nested A) (node limit depth tree)
node_meant limit depth tree = then_meant (deeper limit depth) (λ d. Made (record { tree = tree; depth = d })) (deeper_meant limit depth) (λ d. made _)

fields_meant : (limit : ℕ) (e : Nested ExprTree) (names : List Name) → IsMeant (Nested ExprTree) (fields_of limit e names)
fields_meant limit e [] = made e
fields_meant limit e (name ∷ names) = then_meant (field_access_node limit e name.text name.pos) (λ x. fields_of limit x names) (node_meant _ _ _) (λ x. fields_meant limit x names)

pub names_meant : (limit : ℕ) (names : IdentifiersTree) → IsMeant (Nested ExprTree) (name_expression limit names)
names_meant limit names = then_meant (identifier_node limit names.first.text names.first.pos) (λ e. fields_of limit e names.more) (node_meant _ _ _) (λ e. fields_meant limit e names.more)

called_meant : (limit : ℕ) (first : Name) (names : List Name) (arguments : Nested (List ExprTree)) → IsMeant (Nested ExprTree) (called limit first names arguments)
called_meant limit first [] arguments = node_meant _ _ _
called_meant limit first (last ∷ before) arguments = then_meant (name_expression limit (record { first = first; more = reverse before })) (λ target. method_call_node limit target last.text arguments last.pos) (names_meant limit _) (λ target. node_meant _ _ _)

head_meant : (limit : ℕ) (name : Name) (o : Option (Nested (List ExprTree))) → IsMeant (Nested ExprTree) (head_node limit name o)
head_meant limit name None = node_meant _ _ _
head_meant limit name (Some arguments) = node_meant _ _ _

selector_meant : (limit : ℕ) (target : Nested ExprTree) (name : Name) (o : Option (Nested (List ExprTree))) → IsMeant (Nested ExprTree) (selector_node limit target name o)
selector_meant limit target name None = node_meant _ _ _
selector_meant limit target name (Some arguments) = node_meant _ _ _

closed_meant : (limit level : ℕ) (e : Nested ExprTree) (os : List OpenOperationTree) → IsMeant ClosedTree (closed limit level e os)
closed_meant limit level e [] = made _
closed_meant limit level e (o ∷ os) = go (nat_lt level (level_of o.operator)) (then_meant (infix_node limit o.operator o.left e o.pos) (λ x. closed limit level x os) (node_meant _ _ _) (λ x. closed_meant limit level x os))
  where
    go : (b : Bool) → IsMeant ClosedTree (infix_node limit o.operator o.left e o.pos >>= (λ x. closed limit level x os))
        → IsMeant ClosedTree (if b then Made (record { operand = e; waiting = o ∷ os }) else (infix_node limit o.operator o.left e o.pos >>= (λ x. closed limit level x os)))
    go true h = made _
    go false h = h

catch_meant : (limit : ℕ) (modifiers : Nested (List ModifierTree)) (classes : List Name) (name : Name) (block : Nested BlockTree) → IsMeant (Nested CatchTree) (catch_node limit modifiers classes name block)
catch_meant limit modifiers classes name block = then_meant (deeper limit block.depth) _ (deeper_meant limit block.depth) (λ d. made _)

try_meant : (limit : ℕ) (resources : Nested (List ResourceTree)) (block : Nested BlockTree) (all : Nested (List CatchTree)) (pos : Pos) → IsMeant (Nested StmtTree) (try_node limit resources block all pos)
try_meant limit resources block all pos = then_meant (deeper limit block.depth) _ (deeper_meant limit block.depth) (λ d. node_meant _ _ _)

try_finally_meant : (limit : ℕ) (resources : Nested (List ResourceTree)) (block : Nested BlockTree) (all : Nested (List CatchTree)) (last : Nested BlockTree) (pos : Pos) → IsMeant (Nested StmtTree) (try_finally_node limit resources block all last pos)
try_finally_meant limit resources block all last pos = then_meant (deeper limit block.depth) _ (deeper_meant limit block.depth) (λ d. then_meant (deeper limit last.depth) _ (deeper_meant limit last.depth) (λ f. node_meant _ _ _))

-- the two actions that look at what parentheses hold
abbrev pub IsPlain : ExpressionAction → Type 0
IsPlain expression.CastType = ⊥
IsPlain expression.ParenthesizedExpression = ⊥
IsPlain _ = Unit {0}

pub token_meant : (limit : ℕ) (t : Lexeme) (a : TokenAction) (xs : Values (takes_token a)) → IsMeant (Values (leaves_token a)) (act_token limit t a xs)
token_meant limit t token.Place bottom = made _
token_meant limit t token.Keep bottom = made _
token_meant limit t token.Name bottom = made _
token_meant limit t token.ExtendName (x0 ▷ bottom) = made _
token_meant limit t token.FirstIdentifier bottom = made _
token_meant limit t token.NextIdentifier (x0 ▷ bottom) = made _
token_meant limit t token.PrimitiveType bottom = made _
token_meant limit t token.Literal bottom = then_meant _ _ (node_meant _ _ _) (λ e. made _)
token_meant limit t token.This bottom = then_meant _ _ (node_meant _ _ _) (λ e. made _)
token_meant limit t token.Increment (x0 ▷ bottom) = then_meant _ _ (node_meant _ _ _) (λ e. made _)
token_meant limit t token.Operator (x0 ▷ x1 ▷ bottom) = then_meant _ _ (closed_meant limit (level_of (infix_operator t.text)) x0 x1) (λ e. made _)
token_meant limit t token.InstanceOperator (x0 ▷ x1 ▷ bottom) = then_meant _ _ (closed_meant limit comparison x0 x1) (λ e. made _)
token_meant limit t token.EmptyStatement bottom = then_meant _ _ (node_meant _ _ _) (λ e. made _)
token_meant limit t token.Break bottom = then_meant _ _ (node_meant _ _ _) (λ e. made _)
token_meant limit t token.Continue bottom = then_meant _ _ (node_meant _ _ _) (λ e. made _)
token_meant limit t token.Block (x0 ▷ x1 ▷ bottom) = made _
token_meant limit t token.ConstructorBody (x0 ▷ x1 ▷ x2 ▷ bottom) = made _

pub expression_meant : (limit : ℕ) (a : ExpressionAction) (xs : Values (takes_expression a)) → IsPlain a → IsMeant (Values (leaves_expression a)) (act_expression limit a xs)
expression_meant limit expression.NoExpressions bottom p = made _
expression_meant limit expression.AndExpression (x0 ▷ x1 ▷ bottom) p = made _
expression_meant limit expression.SomeCall (x0 ▷ bottom) p = made _
expression_meant limit expression.NoCall bottom p = made _
expression_meant limit expression.Head (x0 ▷ x1 ▷ bottom) p = then_meant _ _ (head_meant limit x1 x0) (λ e. made _)
expression_meant limit expression.Selector (x0 ▷ x1 ▷ x2 ▷ bottom) p = then_meant _ _ (selector_meant limit x2 x1 x0) (λ e. made _)
expression_meant limit expression.SuperMethodCall (x0 ▷ x1 ▷ bottom) p = then_meant _ _ (node_meant _ _ _) (λ e. made _)
expression_meant limit expression.NamedCall (x0 ▷ x1 ▷ bottom) p = then_meant _ _ (called_meant limit x1.first (reverse x1.more) x0) (λ e. made _)
expression_meant limit expression.NameExpression (x0 ▷ bottom) p = then_meant _ _ (names_meant limit x0) (λ e. made _)
expression_meant limit expression.Index (x0 ▷ x1 ▷ x2 ▷ bottom) p = then_meant _ _ (node_meant _ _ _) (λ e. made _)
expression_meant limit expression.NamedIndex (x0 ▷ x1 ▷ x2 ▷ bottom) p = then_meant _ _ (names_meant limit x2) (λ e. then_meant _ _ (node_meant _ _ _) (λ d. made _))
expression_meant limit expression.NewObject (x0 ▷ x1 ▷ x2 ▷ bottom) p = then_meant _ _ (node_meant _ _ _) (λ e. made _)
expression_meant limit expression.NewArray (x0 ▷ x1 ▷ x2 ▷ bottom) p = then_meant _ _ (node_meant _ _ _) (λ e. made _)
expression_meant limit expression.NamedType (x0 ▷ bottom) p = made _
expression_meant limit expression.IdentifiersType (x0 ▷ bottom) p = made _
expression_meant limit expression.ArrayType (x0 ▷ x1 ▷ bottom) p = made _
expression_meant limit expression.ArrayOf (x0 ▷ bottom) p = made _
expression_meant limit expression.Prefix (x0 ▷ x1 ▷ bottom) p = then_meant _ _ (node_meant _ _ _) (λ e. made _)
expression_meant limit expression.PrefixIncrement (x0 ▷ x1 ▷ bottom) p = then_meant _ _ (node_meant _ _ _) (λ e. made _)
expression_meant limit expression.Cast (x0 ▷ x1 ▷ x2 ▷ bottom) p = then_meant _ _ (node_meant _ _ _) (λ e. made _)
expression_meant limit expression.Parentheses (x0 ▷ bottom) p = then_meant _ _ (node_meant _ _ _) (λ e. made _)
expression_meant limit expression.NamesInside (x0 ▷ bottom) p = made _
expression_meant limit expression.ArrayInside (x0 ▷ bottom) p = made _
expression_meant limit expression.ExpressionInside (x0 ▷ bottom) p = made _
expression_meant limit expression.CastType (x0 ▷ bottom) p = absurd p
expression_meant limit expression.ParenthesizedExpression (x0 ▷ x1 ▷ bottom) p = absurd p
expression_meant limit expression.BeginOperations (x0 ▷ bottom) p = made _
expression_meant limit expression.EndOperations (x0 ▷ x1 ▷ bottom) p = then_meant _ _ (closed_meant limit loosest x0 x1) (λ e. made _)
expression_meant limit expression.InstanceOf (x0 ▷ x1 ▷ x2 ▷ bottom) p = then_meant _ _ (node_meant _ _ _) (λ e. made _)
expression_meant limit expression.Conditional (x0 ▷ x1 ▷ x2 ▷ x3 ▷ bottom) p = then_meant _ _ (node_meant _ _ _) (λ e. made _)
expression_meant limit expression.Assignment (x0 ▷ x1 ▷ x2 ▷ bottom) p = then_meant _ _ (node_meant _ _ _) (λ e. made _)
expression_meant limit expression.CompoundAssignment (x0 ▷ x1 ▷ x2 ▷ bottom) p = then_meant _ _ (node_meant _ _ _) (λ e. made _)
expression_meant limit expression.LeavePlace (x0 ▷ x1 ▷ bottom) p = made _

pub annotation_meant : (limit : ℕ) (a : AnnotationAction) (xs : Values (takes_annotation a)) → IsMeant (Values (leaves_annotation a)) (act_annotation limit a xs)
annotation_meant limit annotation.NoArguments bottom = made _
annotation_meant limit annotation.Annotation (x0 ▷ x1 ▷ x2 ▷ bottom) = then_meant _ _ (node_meant _ _ _) (λ e. made _)
annotation_meant limit annotation.Pair (x0 ▷ x1 ▷ x2 ▷ bottom) = made _
annotation_meant limit annotation.SingleValue (x0 ▷ x1 ▷ bottom) = made _
annotation_meant limit annotation.ExpressionValue (x0 ▷ bottom) = then_meant _ _ (node_meant _ _ _) (λ e. made _)
annotation_meant limit annotation.AnnotationValue (x0 ▷ bottom) = then_meant _ _ (node_meant _ _ _) (λ e. made _)
annotation_meant limit annotation.NoValues bottom = made _
annotation_meant limit annotation.AndValue (x0 ▷ x1 ▷ bottom) = made _
annotation_meant limit annotation.ListValue (x0 ▷ x1 ▷ bottom) = then_meant _ _ (node_meant _ _ _) (λ e. made _)
annotation_meant limit annotation.AndAnnotation (x0 ▷ x1 ▷ bottom) = made _
annotation_meant limit annotation.NoModifiers bottom = made _
annotation_meant limit annotation.AnnotationModifier (x0 ▷ x1 ▷ bottom) = made _
annotation_meant limit annotation.FirstAnnotation (x0 ▷ bottom) = made _
annotation_meant limit annotation.Public (x0 ▷ bottom) = made _
annotation_meant limit annotation.Protected (x0 ▷ bottom) = made _
annotation_meant limit annotation.Private (x0 ▷ bottom) = made _
annotation_meant limit annotation.Static (x0 ▷ bottom) = made _
annotation_meant limit annotation.Final (x0 ▷ bottom) = made _
annotation_meant limit annotation.Abstract (x0 ▷ bottom) = made _

pub statement_meant : (limit : ℕ) (a : StatementAction) (xs : Values (takes_statement a)) → IsMeant (Values (leaves_statement a)) (act_statement limit a xs)
statement_meant limit statement.FirstVariable (x0 ▷ bottom) = made _
statement_meant limit statement.Variable (x0 ▷ x1 ▷ x2 ▷ bottom) = made _
statement_meant limit statement.PlainVariable (x0 ▷ x1 ▷ bottom) = made _
statement_meant limit statement.PlainLocal (x0 ▷ x1 ▷ bottom) = made _
statement_meant limit statement.ModifiedLocal (x0 ▷ x1 ▷ x2 ▷ bottom) = made _
statement_meant limit statement.LocalStatement (x0 ▷ x1 ▷ bottom) = then_meant _ _ (node_meant _ _ _) (λ e. made _)
statement_meant limit statement.ExpressionStatement (x0 ▷ x1 ▷ bottom) = then_meant _ _ (node_meant _ _ _) (λ e. made _)
statement_meant limit statement.NoStatements bottom = made _
statement_meant limit statement.AndStatement (x0 ▷ x1 ▷ bottom) = made _
statement_meant limit statement.BlockStatement (x0 ▷ bottom) = then_meant _ _ (node_meant _ _ _) (λ e. made _)
statement_meant limit statement.If (x0 ▷ x1 ▷ x2 ▷ bottom) = then_meant _ _ (node_meant _ _ _) (λ e. made _)
statement_meant limit statement.IfElse (x0 ▷ x1 ▷ x2 ▷ x3 ▷ bottom) = then_meant _ _ (node_meant _ _ _) (λ e. made _)
statement_meant limit statement.While (x0 ▷ x1 ▷ x2 ▷ bottom) = then_meant _ _ (node_meant _ _ _) (λ e. made _)
statement_meant limit statement.Do (x0 ▷ x1 ▷ x2 ▷ bottom) = then_meant _ _ (node_meant _ _ _) (λ e. made _)
statement_meant limit statement.For (x0 ▷ x1 ▷ x2 ▷ x3 ▷ x4 ▷ bottom) = then_meant _ _ (node_meant _ _ _) (λ e. made _)
statement_meant limit statement.ForLocal (x0 ▷ x1 ▷ bottom) = made _
statement_meant limit statement.ForExpressions (x0 ▷ bottom) = made _
statement_meant limit statement.FirstExpression (x0 ▷ x1 ▷ bottom) = made _
statement_meant limit statement.SomeExpression (x0 ▷ bottom) = made _
statement_meant limit statement.NoExpression bottom = made _
statement_meant limit statement.NoResources bottom = made _
statement_meant limit statement.Resource (x0 ▷ x1 ▷ x2 ▷ x3 ▷ x4 ▷ bottom) = made _
statement_meant limit statement.NoCatches bottom = made _
statement_meant limit statement.Catch (x0 ▷ x1 ▷ x2 ▷ x3 ▷ x4 ▷ bottom) = then_meant _ _ (catch_meant limit x3 x2 x1 x0) (λ e. made _)
statement_meant limit statement.Try (x0 ▷ x1 ▷ x2 ▷ x3 ▷ bottom) = then_meant _ _ (try_meant limit x2 x1 x0 x3) (λ e. made _)
statement_meant limit statement.TryFinally (x0 ▷ x1 ▷ x2 ▷ x3 ▷ x4 ▷ bottom) = then_meant _ _ (try_finally_meant limit x3 x2 x1 x0 x4) (λ e. made _)
statement_meant limit statement.Return (x0 ▷ x1 ▷ bottom) = then_meant _ _ (node_meant _ _ _) (λ e. made _)
statement_meant limit statement.Throw (x0 ▷ x1 ▷ bottom) = then_meant _ _ (node_meant _ _ _) (λ e. made _)
statement_meant limit statement.NoNames bottom = made _
statement_meant limit statement.AndName (x0 ▷ x1 ▷ bottom) = made _

pub declaration_meant : (limit : ℕ) (a : DeclarationAction) (xs : Values (takes_declaration a)) → IsMeant (Values (leaves_declaration a)) (act_declaration limit a xs)
declaration_meant limit declaration.NoName bottom = made _
declaration_meant limit declaration.SomeName (x0 ▷ bottom) = made _
declaration_meant limit declaration.NoImports bottom = made _
declaration_meant limit declaration.Import (x0 ▷ x1 ▷ x2 ▷ bottom) = made _
declaration_meant limit declaration.ImportAll (x0 ▷ x1 ▷ x2 ▷ bottom) = made _
declaration_meant limit declaration.NoTypes bottom = made _
declaration_meant limit declaration.Unit (x0 ▷ x1 ▷ x2 ▷ bottom) = made _
declaration_meant limit declaration.NoUnits bottom = made _
declaration_meant limit declaration.AndUnit (x0 ▷ x1 ▷ bottom) = made _
declaration_meant limit declaration.NoMembers bottom = made _
declaration_meant limit declaration.Class (x0 ▷ x1 ▷ x2 ▷ x3 ▷ x4 ▷ x5 ▷ bottom) = made _
declaration_meant limit declaration.Interface (x0 ▷ x1 ▷ x2 ▷ x3 ▷ x4 ▷ bottom) = made _
declaration_meant limit declaration.NoResult bottom = made _
declaration_meant limit declaration.SomeResult (x0 ▷ bottom) = made _
declaration_meant limit declaration.Method (x0 ▷ x1 ▷ bottom) = made _
declaration_meant limit declaration.Field (x0 ▷ x1 ▷ x2 ▷ x3 ▷ bottom) = made _
declaration_meant limit declaration.NoParameters bottom = made _
declaration_meant limit declaration.Parameter (x0 ▷ x1 ▷ x2 ▷ x3 ▷ bottom) = made _
declaration_meant limit declaration.Receiver (x0 ▷ x1 ▷ x2 ▷ x3 ▷ bottom) = made _
declaration_meant limit declaration.MethodBody (x0 ▷ x1 ▷ x2 ▷ x3 ▷ x4 ▷ x5 ▷ x6 ▷ bottom) = made _
declaration_meant limit declaration.MethodHead (x0 ▷ x1 ▷ x2 ▷ x3 ▷ x4 ▷ x5 ▷ bottom) = made _
declaration_meant limit declaration.Constructor (x0 ▷ x1 ▷ x2 ▷ x3 ▷ x4 ▷ x5 ▷ bottom) = made _
declaration_meant limit declaration.ConstructorHead (x0 ▷ x1 ▷ x2 ▷ x3 ▷ x4 ▷ bottom) = made _
declaration_meant limit declaration.NoSuperCall bottom = made _
declaration_meant limit declaration.SuperCall (x0 ▷ x1 ▷ bottom) = made _
declaration_meant limit declaration.FirstStatement (x0 ▷ bottom) = made _
