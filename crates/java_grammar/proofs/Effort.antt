-- How many productions can be used before a token is taken.
use Rattle.std.specs.Prelude.{◌≡◌, ℕ, ◌+◌, ◌<◌, ◌≤◌, Bool, true, false, ◌&&◌, if◌then◌else◌, List, [], ◌∷◌, ◌++◌, is_some}
use Rattle.std.proofs.Common.{refl, arith}
use Rattle.java_syntax.specs.declared.symbols.Symbol.{Symbol}
use Rattle.java_syntax.specs.declared.symbols.Symbol.TheVariants as symbol
use Rattle.java_syntax.specs.declared.symbols.Item.{Item}
use Rattle.java_syntax.specs.declared.symbols.Item.TheVariants.{Take, Read, Do}
use Rattle.java_syntax.specs.declared.productions.Production.{Production}
use Rattle.java_syntax.specs.declared.productions.Production.TheVariants.{Declare, State, Compute}
use Rattle.java_syntax.specs.declared.productions.DeclarationProduction.TheVariants as declaration
use Rattle.java_syntax.specs.declared.productions.StatementProduction.TheVariants as statement
use Rattle.java_syntax.specs.declared.productions.ExpressionProduction.TheVariants as expression
use Rattle.java_syntax.specs.Table.{body_of, head_of}
use Rattle.java_grammar.specs.Choices.{default_production}
use Rattle.java_grammar.specs.Reached.{empty}
use Rattle.java_grammar.proofs.ChoiceTests.{default_at}

abbrev pub weight : Symbol → ℕ
weight symbol.CompilationUnit = 8
weight symbol.StubFile = 2
weight symbol.Sections = 1
weight symbol.Imports = 1
weight symbol.Names = 1
weight symbol.Types = 4
weight symbol.TypeDeclaration = 3
weight symbol.Modifiers = 1
weight symbol.VariableModifiers = 1
weight symbol.FinalModifiers = 1
weight symbol.Members = 4
weight symbol.Member = 3
weight symbol.AfterMemberName = 1
weight symbol.FieldOrMethod = 2
weight symbol.MethodRest = 1
weight symbol.MethodBody = 1
weight symbol.ConstructorStart = 4
weight symbol.AfterSuper = 1
weight symbol.FirstParameter = 4
weight symbol.Type = 1
weight symbol.InterfaceMembers = 6
weight symbol.InterfaceMember = 5
weight symbol.ResultType = 2
weight symbol.Annotations = 1
weight symbol.AnnotationValues = 4
weight symbol.AfterAnnotationName = 8
weight symbol.Value = 4
weight symbol.OtherValue = 3
weight symbol.ValueList = 5
weight symbol.AfterComma = 5
weight symbol.Statements = 5
weight symbol.Statement = 4
weight symbol.PlainStatement = 3
weight symbol.PlainLocal = 1
weight symbol.AfterStatementName = 1
weight symbol.AfterStatementBracket = 4
weight symbol.Substatement = 3
weight symbol.OtherStatement = 2
weight symbol.OptionalExpression = 4
weight symbol.ForStart = 2
weight symbol.AfterForName = 1
weight symbol.AfterForBracket = 4
weight symbol.ForUpdate = 3
weight symbol.TryRest = 1
weight symbol.Handlers = 1
weight symbol.Catches = 1
weight symbol.OptionalFinally = 1
weight symbol.Resource = 3
weight symbol.AfterResource = 4
weight symbol.Action = 2
weight symbol.OtherAction = 1
weight symbol.StatementTail = 1
weight symbol.Expression = 3
weight symbol.OtherExpression = 2
weight symbol.AfterOpenExpression = 4
weight symbol.AfterInsideExpression = 4
weight symbol.ExpressionTail = 2
weight symbol.SomeTail = 1
weight symbol.Choice = 1
weight symbol.Condition = 4
weight symbol.Operations = 1
weight symbol.AfterInstance = 1
weight symbol.Unary = 3
weight symbol.OtherUnary = 2
weight symbol.AfterOpenUnary = 4
weight symbol.Unsigned = 2
weight symbol.AfterOpenUnsigned = 4
weight symbol.Inside = 3
weight symbol.AfterInsideName = 2
weight symbol.AfterInsideBracket = 4
weight symbol.AfterInside = 3
weight symbol.Call = 1
weight symbol.ArgumentList = 4
weight symbol.OtherPrimary = 1
weight symbol.Creator = 1
weight symbol.CreatorRest = 1
weight _ = 0

abbrev pub effort : List Item → ℕ
effort [] = 0
effort (Take w e ∷ is) = 0
effort (Do a ∷ is) = effort is
effort (Read s ∷ is) = weight s + 1 + (if is_some (default_production s) then effort is else 0)

effort_append : (xs ys : List Item) → effort (xs ++ ys) ≤ effort xs + (if empty xs then effort ys else 0)
effort_append [] ys = omega arith
effort_append (Take w e ∷ xs) ys = omega arith
effort_append (Do a ∷ xs) ys = effort_append xs ys
effort_append (Read s ∷ xs) ys = go (is_some (default_production s)) (effort_append xs ys)
  where
    go : (b : Bool) → effort (xs ++ ys) ≤ effort xs + (if empty xs then effort ys else 0)
        → weight s + 1 + (if b then effort (xs ++ ys) else 0) ≤ weight s + 1 + (if b then effort xs else 0) + (if b && empty xs then effort ys else 0)
    go true h = omega (arith, h)
    go false h = omega arith

light : (a : Production) → effort (body_of a) ≤ weight (head_of a)
light (Declare declaration.UnitOf) = omega arith
light (Declare _) = omega arith
light (State statement.BlockOf) = omega arith
light (State _) = omega arith
light (Compute expression.NameExpression) = omega arith
light (Compute _) = omega arith

pub less_effort : (a : Production) (is : List Item) → effort (body_of a ++ is) < effort (Read (head_of a) ∷ is)
less_effort a is = go (empty (body_of a)) refl
  where
    go : (b : Bool) → empty (body_of a) ≡ b → effort (body_of a ++ is) < effort (Read (head_of a) ∷ is)
    go true q = let h = effort_append (body_of a) is in let l = light a in rw (default_at a q) (omega (arith, rw q at h, l))
    go false q = let h = effort_append (body_of a) is in let l = light a in omega (arith, rw q at h, l)
