-- The super call with which the body of a constructor begins is typed.
use Rattle.std.proofs.Common.{◌≡◌, Bool, true, false, cond, Option, Some, None, List, [], refl, sym, subst}
use Rattle.std.specs.Option.{IsSomeAnd}
use Rattle.rlc_base.specs.declared.place.Pos.{Pos}
use Rattle.program_model.specs.declared.kinds.ClassId.{ClassId}
use Rattle.program_model.specs.declared.kinds.MethodId.{MethodId}
use Rattle.program_model.specs.declared.kinds.MethodKind.TheVariants as methods
use Rattle.program_model.specs.declared.kinds.VType.TheVariants as types
use Rattle.program_model.specs.declared.program.Class.{Class}
use Rattle.program_model.specs.declared.program.Method.{Method}
use Rattle.program_model.specs.declared.program.Program.{Program}
use Rattle.program_model.specs.declared.tree.Var.{Var}
use Rattle.program_model.specs.Lookups.{class_at, method_at}
use Rattle.program_model.specs.Overrides.{super_in}
use Rattle.java_syntax.specs.ExpressionTrees as syntax
use Rattle.java_call_rules.specs.Members.{constructors_of}
use Rattle.java_typed_trees.specs.declared.facts.Answer.{Answer}
use Rattle.java_typed_trees.specs.declared.facts.Answer.TheVariants as answers
use Rattle.java_typed_trees.specs.declared.shapes.Shape.TheVariants as shapes
use Rattle.java_typed_trees.specs.Answers.{value_at}
use Rattle.java_typed_trees.specs.StatementTrees.{statements}
use Rattle.java_call_rules.specs.Arguments.{argument_types, takes_values}
use Rattle.java_call_rules.specs.CallParts.{method_in, trees_for}
use Rattle.java_call_rules.specs.Calls.{super_class}
use Rattle.java_call_rules.specs.Surroundings.{Surroundings}
use Rattle.java_typing_laws.specs.Typings.{typings}
use Rattle.java_typing_laws.specs.TypingContexts.{TypingContext}
use Rattle.java_typing_laws.specs.TypedTrees.{AreArguments, AreTypedTrees, IsConstruction, parts_in}
use Rattle.java_typing_laws.proofs.Conversions.{none_is_some, same_in}
use Rattle.java_typing_laws.proofs.Methods.{constructor_law, method_rule}
use Rattle.java_typing_laws.proofs.OperatorRules.{has}
use Rattle.java_typing_laws.proofs.TypedExpressions.{passed_to_method}
use Rattle.java_typing_laws.specs.TypedForms.{IsSuperCall}
use Rattle.java_typing_laws.specs.TypedStatements.{AreTypedStatementTrees}
use Rattle.java_typing_laws.proofs.Values.{IsHere, context_of}
use Rattle.java_typing_laws.specs.SuperCalls.{SuperCall, is_made, statement_of_call, super_call_by, super_call_of, super_call_statements}

module _ (variables : List Var) (owner : Option ClassId) (m : Method) (s : Surroundings) (h : IsHere variables owner m s) (constructor : m.kind ≡ methods.Ctor) (own : m.class ≡ s.context.class') where
  abbrev scope : TypingContext
  scope = context_of variables owner m s

  abbrev p : Program
  p = s.context.program

  -- the constructor that the answer means, if it means one, is one of the super class and takes the arguments
  record IsCalled (es : syntax.ExprTrees) (n : MethodId) : Type 0 where
    form : IsSuperCall scope m n (parts_in (trees_for p (Some n) (typings s es)))
    typed : AreTypedTrees scope (trees_for p (Some n) (typings s es))

  abbrev AreCalled : syntax.ExprTrees → Answer → Type 0
  AreCalled es a = (n : MethodId) → method_in a ≡ Some n → IsCalled es n

  none_called : (es : syntax.ExprTrees) (n : MethodId) → ◌≡◌ {A = Option MethodId} None (Some n) → IsCalled es n
  none_called es n e = absurd (none_is_some n e)

  -- the super class of the constructor's class
  super_is : (d : ClassId) (n : MethodId) (es : syntax.ExprTrees) → (k : Option Class) → class_at p s.context.class' ≡ k → super_in k ≡ Some d → IsConstruction p d n (parts_in (trees_for p (Some n) (typings s es))) → IsSomeAnd k (λ c. IsSomeAnd c.sup (λ x. IsConstruction p x n (parts_in (trees_for p (Some n) (typings s es)))))
  super_is d n es None at is g = absurd (none_is_some d is)
  super_is d n es (Some k) at is g = has k.sup d (λ x. IsConstruction p x n (parts_in (trees_for p (Some n) (typings s es)))) is g

  called : (place : Pos) (es : syntax.ExprTrees) (d : ClassId) → super_class s ≡ Some d → AreCalled es (super_call_of s place (Some d) (typings s es))
  called place es d is =
      method_rule (AreCalled es) p place (constructors_of p s.context.class' d) (typings s es) (λ n. answers.Is (shapes.NewObject d n) (value_at place (types.Obj d)))
      (λ n e. none_called es n e) (λ k n e. none_called es n e)
      (λ n meant k e.
      let x = constructor_law p h.scope.members s.context.class' d n meant.candidate in
      let takes = subst (λ (o : Option Method). takes_values p (argument_types (typings s es)) o ≡ true) x.is meant.taken in
      let args = passed_to_method s variables owner h.scope n x.method x.is es meant.typed takes in
      let parts = parts_in (trees_for p (Some n) (typings s es)) in
      let construction : IsConstruction p d n parts = has (method_at p n) x.method (λ y. (y.kind ≡ methods.Ctor) × (y.class ≡ d) × AreArguments p parts y.sig.params.items) x.is (x.kind, x.own, args.passed) in
      let found = super_is d n es (class_at p s.context.class') refl is construction in
      let there : IsSomeAnd (class_at p m.class) (λ c. IsSomeAnd c.sup (λ y. IsConstruction p y n parts)) = subst (λ (c : ClassId). IsSomeAnd (class_at p c) (λ j. IsSomeAnd j.sup (λ y. IsConstruction p y n parts))) (sym own) found in
      subst (IsCalled es) (same_in n k e) (record { form = (constructor, there); typed = args.typed }))

  by_super : (place : Pos) (es : syntax.ExprTrees) (o : Option ClassId) → super_class s ≡ o → AreCalled es (super_call_of s place o (typings s es))
  by_super place es None is = λ n e. none_called es n e
  by_super place es (Some d) is = called place es d is

  statement_typed : (place : Pos) (written : Bool) (es : syntax.ExprTrees) (o : Option MethodId) → ((n : MethodId) → o ≡ Some n → IsCalled es n) → AreTypedStatementTrees scope m (statements (statement_of_call p place written o (typings s es)))
  statement_typed place written es None g = tt
  statement_typed place written es (Some n) g = let c = g n refl in ((c.form, c.typed, tt), tt)

  where_made : (place : Pos) (written : Bool) (es : syntax.ExprTrees) (made : Bool) → AreTypedStatementTrees scope m (statements (cond made (statement_of_call p place written (method_in (super_call_by s place (typings s es))) (typings s es)) []))
  where_made place written es true = statement_typed place written es (method_in (super_call_by s place (typings s es))) (by_super place es (super_class s) refl)
  where_made place written es false = tt

  pub super_call_typed : (call : SuperCall) → AreTypedStatementTrees scope m (statements (super_call_statements s call))
  super_call_typed call = where_made call.pos call.written call.arguments (is_made s)
