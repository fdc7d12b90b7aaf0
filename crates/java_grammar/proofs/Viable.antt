-- Whatever is still to come, some tokens end it.
use Rattle.std.specs.Prelude.{◌≡◌, ℕ, ◌+◌, ◌*◌, ◌≤◌, Bool, true, false, not, ◌&&◌, ◌||◌, if◌then◌else◌, List, [], ◌∷◌, ◌++◌, Option}
use Rattle.std.proofs.Common.{refl, arith, zero, suc}
use Rattle.rlc_base.specs.declared.place.Pos.{Pos}
use Rattle.java_syntax.specs.declared.words.Effect.{Effect}
use Rattle.java_syntax.specs.declared.words.Effect.TheVariants as effect
use Rattle.java_syntax.specs.declared.words.Word.{Word}
use Rattle.java_syntax.specs.declared.symbols.Symbol.{Symbol}
use Rattle.java_syntax.specs.declared.symbols.Symbol.TheVariants as symbol
use Rattle.java_syntax.specs.declared.symbols.Item.{Item}
use Rattle.java_syntax.specs.declared.symbols.Item.TheVariants.{Take, Read, Do}
use Rattle.java_syntax.specs.declared.productions.Production.{Production}
use Rattle.java_syntax.specs.declared.productions.Production.TheVariants.{Declare, State, Compute}
use Rattle.java_syntax.specs.declared.productions.DeclarationProduction.TheVariants as declaration
use Rattle.java_syntax.specs.declared.productions.StatementProduction.TheVariants as statement
use Rattle.java_syntax.specs.declared.productions.ExpressionProduction.TheVariants as expression
use Rattle.java_syntax.specs.Table.{body_of, head_of}
use Rattle.java_syntax.specs.Derives.{Lexeme, Surroundings, Step, Took, Used, Did, after, enters, allowed, may_cast, is_array_type, first_word, leaves_no_else, Derives, ended, took, used, did}

-- a production of each symbol that may be used there, and by which it comes to an end
abbrev pub short : Symbol → Surroundings → Production
short symbol.CompilationUnit s = Declare declaration.UnitOf
short symbol.StubFile s = Declare declaration.StubOf
short symbol.Sections s = Declare declaration.NoSection
short symbol.Section s = Declare declaration.SectionOf
short symbol.OptionalPackage s = Declare declaration.NoPackage
short symbol.Imports s = Declare declaration.NoImport
short symbol.Import s = Declare declaration.ImportOf
short symbol.ImportTail s = Declare declaration.ImportEnd
short symbol.ImportStep s = Declare declaration.ImportAll
short symbol.Name s = Declare declaration.NameOf
short symbol.NameTail s = Declare declaration.NameEnd
short symbol.Names s = Declare declaration.NamesOf
short symbol.MoreNames s = Declare declaration.LastName
short symbol.Types s = Declare declaration.NoType
short symbol.TypeDeclaration s = Declare declaration.LoneSemicolon
short symbol.TypeKind s = Declare declaration.InterfaceOf
short symbol.Superclass s = Declare declaration.NoSuperclass
short symbol.Superinterfaces s = Declare declaration.NoSuperinterface
short symbol.Interfaces s = Declare declaration.NoInterface
short symbol.Modifiers s = Declare declaration.NoModifier
short symbol.VariableModifiers s = Declare declaration.NoVariableModifier
short symbol.FinalModifiers s = Declare declaration.NoFinalModifier
short symbol.Members s = Declare declaration.NoMember
short symbol.Member s = Declare declaration.LoneMember
short symbol.MemberRest s = Declare declaration.VoidMember
short symbol.AfterMemberName s = Declare declaration.PlainMember
short symbol.FieldOrMethod s = Declare declaration.MethodOf
short symbol.MethodRest s = Declare declaration.MethodRestOf
short symbol.MethodBody s = (if s.is_stub || s.modifiers.is_abstract then Declare declaration.NoMethodBody else Declare declaration.SomeMethodBody)
short symbol.ConstructorBody s = (if s.is_stub then Declare declaration.NoConstructorBody else Declare declaration.SomeConstructorBody)
short symbol.ConstructorStart s = Declare declaration.EmptyStart
short symbol.AfterSuper s = Declare declaration.SuperCall
short symbol.Throws s = Declare declaration.NoThrows
short symbol.Parameters s = Declare declaration.ParametersOf
short symbol.FirstParameter s = Declare declaration.NoParameter
short symbol.ParameterName s = Declare declaration.DeclaredName
short symbol.MoreParameters s = Declare declaration.LastParameter
short symbol.Type s = Declare declaration.PrimitiveType
short symbol.Brackets s = Declare declaration.NoBrackets
short symbol.Initializer s = Declare declaration.NoInitializer
short symbol.MoreVariables s = Declare declaration.LastVariable
short symbol.Variables s = Declare declaration.VariablesOf
short symbol.InterfaceMembers s = Declare declaration.NoInterfaceMember
short symbol.InterfaceMember s = Declare declaration.LoneInterfaceMember
short symbol.ResultType s = Declare declaration.VoidResult
short symbol.Annotations s = Declare declaration.NoAnnotations
short symbol.Annotation s = Declare declaration.AnnotationOf
short symbol.AnnotationArguments s = Declare declaration.NoAnnotationArguments
short symbol.AnnotationValues s = Declare declaration.NoValues
short symbol.AfterAnnotationName s = Declare declaration.NameValue
short symbol.MorePairs s = Declare declaration.LastPair
short symbol.Value s = Declare declaration.ValueOf
short symbol.OtherValue s = Declare declaration.ListValue
short symbol.ValueList s = Declare declaration.EmptyList
short symbol.MoreValues s = Declare declaration.LastValue
short symbol.AfterComma s = Declare declaration.TrailingComma
short symbol.Block s = State statement.BlockOf
short symbol.Statements s = State statement.NoStatement
short symbol.Statement s = State statement.StatementOf
short symbol.PlainStatement s = State statement.OtherStatementOf
short symbol.PlainLocal s = State statement.PrimitiveLocal
short symbol.AfterStatementName s = State statement.StatementAction
short symbol.AfterStatementBracket s = State statement.ArrayLocal
short symbol.Substatement s = State statement.OtherSubstatement
short symbol.OtherStatement s = State statement.EmptyStatement
short symbol.ElsePart s = State statement.SomeElse
short symbol.OptionalExpression s = State statement.NoExpression
short symbol.ForStart s = State statement.NoForStart
short symbol.AfterForName s = State statement.ForNamed
short symbol.AfterForBracket s = State statement.ForArray
short symbol.ForUpdate s = State statement.NoUpdate
short symbol.MoreActions s = State statement.LastAction
short symbol.TryRest s = State statement.PlainTry
short symbol.Handlers s = State statement.OnlyFinally
short symbol.Catches s = State statement.NoCatch
short symbol.OptionalFinally s = State statement.NoFinally
short symbol.Finally s = State statement.FinallyOf
short symbol.Catch s = State statement.CatchOf
short symbol.CatchNames s = State statement.LastCatchName
short symbol.Resource s = State statement.ResourceOf
short symbol.MoreResources s = State statement.LastResource
short symbol.AfterResource s = State statement.TrailingSemicolon
short symbol.Action s = State statement.ActionOf
short symbol.OtherAction s = State statement.StepAction
short symbol.StatementTail s = State statement.ActionTail
short symbol.SomeAction s = State statement.StepsAction
short symbol.Expression s = Compute expression.NameExpression
short symbol.OtherExpression s = Compute expression.PrimaryExpression
short symbol.AfterOpenExpression s = Compute expression.PrimitiveCastExpression
short symbol.AfterInsideExpression s = (if is_array_type s.ended then Compute expression.CastExpression else Compute expression.ParenthesesExpression)
short symbol.ExpressionTail s = Compute expression.NoTail
short symbol.SomeTail s = Compute expression.StepsTail
short symbol.Choice s = Compute expression.NoChoice
short symbol.SomeChoice s = Compute expression.Conditional
short symbol.Condition s = Compute expression.ConditionOf
short symbol.Operations s = Compute expression.NoOperation
short symbol.TightOperation s = Compute expression.SignOperation
short symbol.LooseOperations s = Compute expression.InstanceTest
short symbol.AfterInstance s = Compute expression.NoLoose
short symbol.Unary s = Compute expression.NameUnary
short symbol.OtherUnary s = Compute expression.PrimaryUnary
short symbol.Prefixed s = Compute expression.NotPrefix
short symbol.AfterOpenUnary s = Compute expression.PrimitiveCastUnary
short symbol.Unsigned s = Compute expression.NameUnsigned
short symbol.AfterOpenUnsigned s = Compute expression.PrimitiveArrayCast
short symbol.PrimitiveCast s = Compute expression.ValueCast
short symbol.Inside s = Compute expression.InsideName
short symbol.AfterInsideName s = Compute expression.BareName
short symbol.AfterInsideBracket s = Compute expression.ArrayTypeInside
short symbol.AfterInside s = (if is_array_type s.ended then Compute expression.CastOf else Compute expression.ParenthesesOf)
short symbol.Steps s = Compute expression.NoStep
short symbol.Suffixes s = Compute expression.NoSuffix
short symbol.Call s = Compute expression.NoCall
short symbol.Arguments s = Compute expression.ArgumentsOf
short symbol.ArgumentList s = Compute expression.NoArgument
short symbol.MoreArguments s = Compute expression.LastArgument
short symbol.OtherPrimary s = Compute expression.OtherPrimaryOf
short symbol.PlainPrimary s = Compute expression.LiteralPrimary
short symbol.Creator s = Compute expression.PrimitiveArray
short symbol.CreatorRest s = Compute expression.NewObject
short symbol.AfterArray s = Compute expression.NoArrayField

abbrev pub size : Symbol → ℕ
size symbol.CompilationUnit = 3
size symbol.Sections = 0
size symbol.Section = 7
size symbol.OptionalPackage = 0
size symbol.Imports = 0
size symbol.Import = 4
size symbol.ImportTail = 0
size symbol.Name = 2
size symbol.NameTail = 0
size symbol.Names = 4
size symbol.MoreNames = 0
size symbol.Types = 0
size symbol.TypeKind = 6
size symbol.Superclass = 0
size symbol.Superinterfaces = 0
size symbol.Interfaces = 0
size symbol.Modifiers = 0
size symbol.VariableModifiers = 0
size symbol.FinalModifiers = 0
size symbol.Members = 0
size symbol.MemberRest = 13
size symbol.AfterMemberName = 13
size symbol.FieldOrMethod = 11
size symbol.MethodRest = 10
size symbol.MethodBody = 4
size symbol.ConstructorBody = 3
size symbol.ConstructorStart = 0
size symbol.AfterSuper = 6
size symbol.Throws = 0
size symbol.Parameters = 3
size symbol.FirstParameter = 0
size symbol.MoreParameters = 0
size symbol.Type = 2
size symbol.Brackets = 0
size symbol.Initializer = 0
size symbol.MoreVariables = 0
size symbol.Variables = 3
size symbol.InterfaceMembers = 0
size symbol.Annotations = 0
size symbol.Annotation = 5
size symbol.AnnotationArguments = 0
size symbol.AnnotationValues = 0
size symbol.AfterAnnotationName = 5
size symbol.MorePairs = 0
size symbol.Value = 4
size symbol.OtherValue = 3
size symbol.ValueList = 0
size symbol.MoreValues = 0
size symbol.AfterComma = 0
size symbol.Block = 3
size symbol.Statements = 0
size symbol.Statement = 3
size symbol.PlainStatement = 2
size symbol.PlainLocal = 6
size symbol.AfterStatementName = 3
size symbol.AfterStatementBracket = 5
size symbol.Substatement = 2
size symbol.ElsePart = 4
size symbol.OptionalExpression = 0
size symbol.ForStart = 0
size symbol.AfterForName = 4
size symbol.AfterForBracket = 5
size symbol.ForUpdate = 0
size symbol.MoreActions = 0
size symbol.TryRest = 11
size symbol.Handlers = 6
size symbol.Catches = 0
size symbol.OptionalFinally = 0
size symbol.Finally = 5
size symbol.Catch = 13
size symbol.CatchNames = 0
size symbol.Resource = 11
size symbol.MoreResources = 0
size symbol.AfterResource = 0
size symbol.Action = 7
size symbol.OtherAction = 6
size symbol.StatementTail = 3
size symbol.SomeAction = 2
size symbol.Expression = 4
size symbol.OtherExpression = 5
size symbol.AfterOpenExpression = 10
size symbol.AfterInsideExpression = 7
size symbol.ExpressionTail = 0
size symbol.SomeTail = 4
size symbol.Choice = 0
size symbol.SomeChoice = 15
size symbol.Condition = 7
size symbol.Operations = 0
size symbol.TightOperation = 6
size symbol.LooseOperations = 5
size symbol.AfterInstance = 0
size symbol.Unary = 4
size symbol.OtherUnary = 5
size symbol.Prefixed = 6
size symbol.AfterOpenUnary = 8
size symbol.Unsigned = 4
size symbol.AfterOpenUnsigned = 9
size symbol.PrimitiveCast = 6
size symbol.Inside = 3
size symbol.AfterInsideBracket = 2
size symbol.AfterInside = 5
size symbol.Steps = 0
size symbol.Suffixes = 0
size symbol.Call = 0
size symbol.Arguments = 3
size symbol.ArgumentList = 0
size symbol.MoreArguments = 0
size symbol.OtherPrimary = 3
size symbol.PlainPrimary = 2
size symbol.Creator = 9
size symbol.CreatorRest = 5
size symbol.AfterArray = 0
size _ = 1

-- an action counts less than a token: a production has no more than eleven actions
abbrev pub total : List Item → ℕ
total [] = 0
total (Take w e ∷ is) = 12 + total is
total (Read x ∷ is) = 12 + 12 * size x + total is
total (Do a ∷ is) = 1 + total is

total_append : (xs ys : List Item) → total (xs ++ ys) ≡ total xs + total ys
total_append [] ys = omega arith
total_append (Take w e ∷ xs) ys = let h = total_append xs ys in omega (arith, h)
total_append (Read x ∷ xs) ys = let h = total_append xs ys in omega (arith, h)
total_append (Do a ∷ xs) ys = let h = total_append xs ys in omega (arith, h)

-- The production ends its symbol.
abbrev IsShort : Production → Symbol → Surroundings → Type 0
IsShort a x s = (head_of a ≡ x) × (total (body_of a) ≤ 12 * size x + 11) × (allowed a s ≡ true) × ((next : Option Word) → leaves_no_else a next ≡ true)

pick : (a b : Production) (x : Symbol) (s : Surroundings) (c : Bool) → (c ≡ true → IsShort a x s) → (c ≡ false → IsShort b x s) → IsShort (if c then a else b) x s
pick a b x s true f g = f refl
pick a b x s false f g = g refl

neither : (a b : Bool) → (a || b) ≡ false → (not a && not b) ≡ true
neither true b h = grind arith
neither false true h = grind arith
neither false false h = refl

not_false : (a : Bool) → a ≡ false → not a ≡ true
not_false true h = grind arith
not_false false h = refl

array_casts : (e : Effect) → is_array_type e ≡ true → may_cast e ≡ true
array_casts effect.ClosesArray h = refl
array_casts effect.ClosesName h = refl
array_casts effect.Passes h = grind arith
array_casts _ h = grind arith

pub is_short : (x : Symbol) (s : Surroundings) → IsShort (short x s) x s
is_short symbol.MethodBody s = pick _ _ symbol.MethodBody s (s.is_stub || s.modifiers.is_abstract) (λ h. (refl, omega arith, h, λ n. refl)) (λ h. (refl, omega arith, neither _ _ h, λ n. refl))
is_short symbol.ConstructorBody s = pick _ _ symbol.ConstructorBody s s.is_stub (λ h. (refl, omega arith, h, λ n. refl)) (λ h. (refl, omega arith, not_false _ h, λ n. refl))
is_short symbol.AfterInside s = pick _ _ symbol.AfterInside s (is_array_type s.ended) (λ h. (refl, omega arith, array_casts s.ended h, λ n. refl)) (λ h. (refl, omega arith, not_false _ h, λ n. refl))
is_short symbol.AfterInsideExpression s = pick _ _ symbol.AfterInsideExpression s (is_array_type s.ended) (λ h. (refl, omega arith, array_casts s.ended h, λ n. refl)) (λ h. (refl, omega arith, not_false _ h, λ n. refl))
is_short _ s = (refl, omega arith, refl, λ n. refl)

abbrev pub Ended : Surroundings → List Item → Type 0
Ended s is = (ts : List Lexeme) × (es : List Step) × Derives s is ts es

within : (xs is : List Item) (k n : ℕ) → total xs ≤ k → 1 + k + total is ≤ suc n → total (xs ++ is) ≤ n
within xs is k n h l = let e = total_append xs is in omega (arith, e, h, l)

may : (a : Production) (s : Surroundings) (next : Option Word) → allowed a s ≡ true → leaves_no_else a next ≡ true → (allowed a s && leaves_no_else a next) ≡ true
may a s next h k = rw (h, k) refl

nowhere : Pos
nowhere = record { file = 0; line = 0; col = 0 }

pub ended_by : (n : ℕ) (s : Surroundings) (is : List Item) → total is ≤ n → Ended s is
ended_by n s [] h = ([], [], ended s)
ended_by zero s (Take w e ∷ is) h = let e : ⊥ = omega (arith, h) in absurd e
ended_by zero s (Read x ∷ is) h = let e : ⊥ = omega (arith, h) in absurd e
ended_by zero s (Do a ∷ is) h = let e : ⊥ = omega (arith, h) in absurd e
ended_by (suc n) s (Take w e ∷ is) h =
    let t : Lexeme = record { word = w; text = []; pos = nowhere } in
    let r = ended_by n (after e t s) is (omega (arith, h)) in
    (t ∷ r.0, Took t ∷ r.1, took s w e t refl r.2)
ended_by (suc n) s (Do a ∷ is) h =
    let r = ended_by n s is (omega (arith, h)) in
    (r.0, Did a ∷ r.1, did s a r.2)
ended_by (suc n) s (Read x ∷ is) h =
    let a = short x s in
    let f = is_short x s in
    let r = ended_by n (enters a s) (body_of a ++ is) (within (body_of a) is (12 * size x + 11) n f.1 (omega (arith, h))) in
    (r.0, Used a ∷ r.1, used s x a f.0 (may a s (first_word r.0) f.2 (f.3 (first_word r.0))) r.2)

pub ends_some_way : (s : Surroundings) (is : List Item) → Ended s is
ends_some_way s is = ended_by (total is) s is (omega arith)
