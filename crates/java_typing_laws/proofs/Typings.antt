-- The typing of an expression whose tree is typed, and the arguments of a call in the contexts of their parameters.
use Rattle.std.proofs.Common.{◌≡◌, ◌∙◌, Bool, true, false, cond, Option, Some, None, List, [], ◌∷◌, ◌++◌, map, length, refl, subst, ap, arith}
use Rattle.std.specs.List.{list_all}
use Rattle.std.specs.Option.{IsSomeAnd, is_some}
use Rattle.std.proofs.lemmas.Bool.{and_from, and_parts}
use Rattle.rlc_base.specs.declared.place.Pos.{Pos}
use Rattle.program_model.specs.declared.kinds.VType.{VType}
use Rattle.program_model.specs.declared.program.Program.{Program}
use Rattle.program_model.specs.declared.program.ParamSig.{ParamSig}
use Rattle.program_model.specs.Hierarchy.{IsHierarchy}
use Rattle.program_model.specs.Typing.{IsAssignable}
use Rattle.java_conversions.specs.Conversions.{fits}
use Rattle.java_conversions.specs.Types.{is_reference}
use Rattle.java_typed_trees.specs.declared.facts.Answer.{Answer}
use Rattle.java_typed_trees.specs.declared.facts.Answer.TheVariants as answers
use Rattle.java_typed_trees.specs.declared.facts.StaticType.{StaticType}
use Rattle.java_typed_trees.specs.declared.facts.StaticType.TheVariants as static_types
use Rattle.java_typed_trees.specs.declared.shapes.Shape.{Shape}
use Rattle.java_typed_trees.specs.declared.shapes.Shape.TheVariants as shapes
use Rattle.java_typed_trees.specs.Answers.{type_in, type_of, value_type}
use Rattle.java_typed_trees.specs.ExpressionTrees.{ExprTree, ExprTrees, Node, and_expression, expressions, no_expression}
use Rattle.java_call_rules.specs.Arguments.{argument_types, each_value_fits, in_context, in_contexts, operands_in_context, value_types}
use Rattle.java_call_rules.specs.TypedParts.{Typing, facts_of, has_type, have_types, operand, shape_of, trees_in, typing_by}
use Rattle.java_typing_laws.specs.TypingContexts.{TypingContext}
use Rattle.java_typing_laws.specs.TypedTrees.{AreArguments, AreTypedTrees, FitsIn, IsTypedTree, part_of, parts_in}
use Rattle.java_typing_laws.proofs.Conversions.{assignable_to_itself, fits_law, no_test}
use Rattle.java_typing_laws.proofs.Members.{each_some}
use Rattle.java_typing_laws.proofs.OperatorRules.{IfPlain, IsTypedAnswer}

-- ---- typings

pub record IsTyped (c : TypingContext) (t : Typing) : Type 0 where
  pub typed : IsTypedTree c t.tree
  pub agreed : (part_of t.tree).vtype ≡ type_of (facts_of t)
  pub shaped : (part_of t.tree).shape ≡ shape_of t
  pub plain : IfPlain c.program (type_of (facts_of t))

pub typed_by : (c : TypingContext) (a : Answer) (ts : ExprTrees) → IsTypedAnswer c a (parts_in ts) → AreTypedTrees c ts → IsTyped c (typing_by a ts)
typed_by c (answers.Is shape facts) ts h g = record { typed = (h.0, g); agreed = refl; shaped = refl; plain = h.1 }
typed_by c (answers.Wrong code place) ts h g = record { typed = (tt, g); agreed = refl; shaped = refl; plain = tt }
typed_by c (answers.Silent place) ts h g = record { typed = (tt, g); agreed = refl; shaped = refl; plain = tt }

same_type : (t : StaticType) → type_in t ≡ type_in (value_type t)
same_type (static_types.Value v) = refl
same_type static_types.Void = refl
same_type static_types.Erroneous = refl

-- the part has the type that the rule of the whole looks at
pub part_type : (c : TypingContext) (t : Typing) → IsTyped c t → (part_of t.tree).vtype ≡ type_of (operand t)
part_type c t h = h.agreed ∙ same_type (facts_of t).static_type

pub plain_operand : (c : TypingContext) (t : Typing) → IsTyped c t → IfPlain c.program (type_of (operand t))
plain_operand c t h = subst (IfPlain c.program) (same_type (facts_of t).static_type) h.plain

-- ---- an argument in the context of its parameter

abbrev pub HasSomeType : ExprTree → Type 0
HasSomeType t = IsSomeAnd (part_of t).vtype (λ u. Unit {0})

-- the argument is typed there, and fits
pub record IsPassed (c : TypingContext) (w : VType) (t : ExprTree) : Type 0 where
  pub typed : IsTypedTree c t
  pub passed : FitsIn c.program (part_of t).vtype w

abbrev AllFit : Program → VType → List VType → Type 0
AllFit p w ts = list_all (λ u. fits p u w) ts ≡ true

all_of_both : (p : Program) (w : VType) (xs ys : List VType) → AllFit p w (xs ++ ys) → AllFit p w xs × AllFit p w ys
all_of_both p w [] ys h = (refl, h)
all_of_both p w (x ∷ xs) ys h =
    let both = and_parts (fits p x w) (list_all (λ u. fits p u w) (xs ++ ys)) h in
    let rest = all_of_both p w xs ys both.1 in
    (and_from (fits p x w) (list_all (λ u. fits p u w) xs) both.0 rest.0, rest.1)

unchanged : (c : TypingContext) → IsHierarchy c.program → (w : VType) (shape : Shape) (u : VType) (place : Pos) (parts : ExprTrees) → IsTypedTree c (Node shape (Some u) place parts) → AllFit c.program w (u ∷ []) → IsPassed c w (Node shape (Some u) place parts)
unchanged c hierarchy w shape u place parts h fit = record { typed = h; passed = fits_law c.program hierarchy u w (and_parts (fits c.program u w) true fit).0 }

-- a conditional, where its two values are passed
conditional_passed : (c : TypingContext) → IsHierarchy c.program → (w u : VType) (place : Pos) (d x y : ExprTree) → IsTypedTree c (Node shapes.Conditional (Some u) place (and_expression d (and_expression x (and_expression y no_expression)))) → (AllFit c.program w (value_types x) → IsPassed c w (in_context w x)) → (AllFit c.program w (value_types y) → IsPassed c w (in_context w y)) → (b : Bool) → AllFit c.program w (cond b (value_types x ++ value_types y) (u ∷ [])) → IsPassed c w (cond b (Node shapes.Conditional (Some w) place (operands_in_context w (and_expression d (and_expression x (and_expression y no_expression))))) (Node shapes.Conditional (Some u) place (and_expression d (and_expression x (and_expression y no_expression)))))
conditional_passed c hierarchy w u place d x y h hx hy true fit =
    let both = all_of_both c.program w (value_types x) (value_types y) fit in
    let px = hx both.0 in
    let py = hy both.1 in
    record { typed = ((h.0.0, px.passed, py.passed), (h.1.0, (px.typed, (py.typed, tt)))); passed = assignable_to_itself c.program w }
conditional_passed c hierarchy w u place d x y h hx hy false fit = unchanged c hierarchy w shapes.Conditional u place (and_expression d (and_expression x (and_expression y no_expression))) h fit

typed_value : (p : Program) (t : ExprTree) (u : VType) → FitsIn p (part_of t).vtype u → HasSomeType t
typed_value p t u h = each_some (part_of t).vtype (λ v. IsAssignable p v u) (λ v. Unit {0}) (λ v g. tt) h

pub argument_passed : (c : TypingContext) → IsHierarchy c.program → (w : VType) (t : ExprTree) → IsTypedTree c t → HasSomeType t → list_all (λ u. fits c.program u w) (value_types t) ≡ true → IsPassed c w (in_context w t)
argument_passed c hierarchy w (Node shape None place parts) h some fit = absurd some
argument_passed c hierarchy w (Node shapes.Conditional (Some u) place no_expression) h some fit = absurd h.0
argument_passed c hierarchy w (Node shapes.Conditional (Some u) place (and_expression d no_expression)) h some fit = absurd h.0
argument_passed c hierarchy w (Node shapes.Conditional (Some u) place (and_expression d (and_expression x no_expression))) h some fit = absurd h.0
argument_passed c hierarchy w (Node shapes.Conditional (Some u) place (and_expression d (and_expression x (and_expression y (and_expression z more))))) h some fit = absurd h.0
argument_passed c hierarchy w (Node shapes.Conditional (Some u) place (and_expression d (and_expression x (and_expression y no_expression)))) h some fit =
    conditional_passed c hierarchy w u place d x y h
    (λ fx. argument_passed c hierarchy w x h.1.1.0 (typed_value c.program x u h.0.1) fx)
    (λ fy. argument_passed c hierarchy w y h.1.1.1.0 (typed_value c.program y u h.0.2) fy)
    (is_reference u) fit
argument_passed c hierarchy w (Node (shapes.Literal l) (Some u) place parts) h some fit = unchanged c hierarchy w (shapes.Literal l) u place parts h fit
argument_passed c hierarchy w (Node (shapes.Local x) (Some u) place parts) h some fit = unchanged c hierarchy w (shapes.Local x) u place parts h fit
argument_passed c hierarchy w (Node (shapes.This written) (Some u) place parts) h some fit = unchanged c hierarchy w (shapes.This written) u place parts h fit
argument_passed c hierarchy w (Node (shapes.Field f) (Some u) place parts) h some fit = unchanged c hierarchy w (shapes.Field f) u place parts h fit
argument_passed c hierarchy w (Node (shapes.StaticField f) (Some u) place parts) h some fit = unchanged c hierarchy w (shapes.StaticField f) u place parts h fit
argument_passed c hierarchy w (Node (shapes.LibraryConstant m) (Some u) place parts) h some fit = unchanged c hierarchy w (shapes.LibraryConstant m) u place parts h fit
argument_passed c hierarchy w (Node (shapes.Unary o) (Some u) place parts) h some fit = unchanged c hierarchy w (shapes.Unary o) u place parts h fit
argument_passed c hierarchy w (Node (shapes.Binary o v) (Some u) place parts) h some fit = unchanged c hierarchy w (shapes.Binary o v) u place parts h fit
argument_passed c hierarchy w (Node (shapes.InstanceOf v) (Some u) place parts) h some fit = unchanged c hierarchy w (shapes.InstanceOf v) u place parts h fit
argument_passed c hierarchy w (Node shapes.PrimitiveCast (Some u) place parts) h some fit = unchanged c hierarchy w shapes.PrimitiveCast u place parts h fit
argument_passed c hierarchy w (Node shapes.ReferenceCast (Some u) place parts) h some fit = unchanged c hierarchy w shapes.ReferenceCast u place parts h fit
argument_passed c hierarchy w (Node (shapes.Assignment x) (Some u) place parts) h some fit = unchanged c hierarchy w (shapes.Assignment x) u place parts h fit
argument_passed c hierarchy w (Node (shapes.OperatorAssignment o v) (Some u) place parts) h some fit = unchanged c hierarchy w (shapes.OperatorAssignment o v) u place parts h fit
argument_passed c hierarchy w (Node (shapes.PostfixStep o v) (Some u) place parts) h some fit = unchanged c hierarchy w (shapes.PostfixStep o v) u place parts h fit
argument_passed c hierarchy w (Node (shapes.Call form m) (Some u) place parts) h some fit = unchanged c hierarchy w (shapes.Call form m) u place parts h fit
argument_passed c hierarchy w (Node (shapes.NewObject d m) (Some u) place parts) h some fit = unchanged c hierarchy w (shapes.NewObject d m) u place parts h fit
argument_passed c hierarchy w (Node shapes.NewArray (Some u) place parts) h some fit = unchanged c hierarchy w shapes.NewArray u place parts h fit
argument_passed c hierarchy w (Node shapes.Element (Some u) place parts) h some fit = unchanged c hierarchy w shapes.Element u place parts h fit
argument_passed c hierarchy w (Node shapes.Length (Some u) place parts) h some fit = unchanged c hierarchy w shapes.Length u place parts h fit
argument_passed c hierarchy w (Node shapes.Erroneous (Some u) place parts) h some fit = unchanged c hierarchy w shapes.Erroneous u place parts h fit

-- ---- the arguments of a call

abbrev pub AreTyped : TypingContext → List Typing → Type 0
AreTyped c [] = Unit {0}
AreTyped c (t ∷ ts) = IsTyped c t × AreTyped c ts

pub trees_typed : (c : TypingContext) (ts : List Typing) → AreTyped c ts → AreTypedTrees c (expressions (trees_in ts))
trees_typed c [] h = tt
trees_typed c (t ∷ ts) h = (h.0.typed, trees_typed c ts h.1)

some_type : (o : Option VType) → is_some o ≡ true → IsSomeAnd o (λ u. Unit {0})
some_type None h = no_test h
some_type (Some t) h = tt

tree_has_type : (c : TypingContext) (t : Typing) → IsTyped c t → has_type t ≡ true → HasSomeType t.tree
tree_has_type c t h typed = some_type (part_of t.tree).vtype (ap is_some h.agreed ∙ typed)

-- they fit the parameters, and are typed
pub record ArePassed (c : TypingContext) (params : List ParamSig) (ts : ExprTrees) : Type 0 where
  pub passed : AreArguments c.program (parts_in ts) params
  pub typed : AreTypedTrees c ts

pub arguments_passed : (c : TypingContext) → IsHierarchy c.program → (params : List ParamSig) (arguments : List Typing) → AreTyped c arguments → have_types arguments ≡ true → length arguments ≡ length params → each_value_fits c.program (argument_types arguments) params ≡ true → ArePassed c params (expressions (in_contexts (map (λ x. x.vtype) params) (trees_in arguments)))
arguments_passed c hierarchy [] [] h some long fit = record { passed = tt; typed = tt }
arguments_passed c hierarchy [] (t ∷ ts) h some long fit = absurd (omega arith)
arguments_passed c hierarchy (x ∷ xs) [] h some long fit = absurd (omega arith)
arguments_passed c hierarchy (x ∷ xs) (t ∷ ts) h some long fit =
    let types = and_parts (has_type t) (have_types ts) some in
    let both = and_parts (list_all (λ u. fits c.program u x.vtype) (value_types t.tree)) (each_value_fits c.program (argument_types ts) xs) fit in
    let shorter : length ts ≡ length xs = omega arith in
    let first = argument_passed c hierarchy x.vtype t.tree h.0.typed (tree_has_type c t h.0 types.0) both.0 in
    let rest = arguments_passed c hierarchy xs ts h.1 types.1 shorter both.1 in
    record { passed = (first.passed, rest.passed); typed = (first.typed, rest.typed) }
