-- The super call of a constructor, where nothing of it is refused, gives one statement where it is made, and else none.
use Rattle.std.proofs.Common.{◌≡◌, ap, refl, subst, Bool, true, false, ◌||◌, cond, Option, Some, None, List, [], ◌∷◌}
use Rattle.rlc_base.specs.declared.place.Pos.{Pos}
use Rattle.program_model.specs.declared.kinds.ClassId.{ClassId}
use Rattle.program_model.specs.declared.kinds.MethodId.{MethodId}
use Rattle.program_model.specs.declared.kinds.VType.TheVariants as types
use Rattle.program_model.specs.declared.program.Program.{Program}
use Rattle.java_call_rules.specs.Members.{constructors_of}
use Rattle.java_overloads.specs.declared.choices.Choice.{Choice}
use Rattle.java_overloads.specs.declared.choices.Choice.TheVariants as choices
use Rattle.java_typed_trees.specs.declared.facts.Answer.{Answer}
use Rattle.java_typed_trees.specs.declared.facts.Answer.TheVariants as answers
use Rattle.java_typed_trees.specs.declared.shapes.Shape.TheVariants as shapes
use Rattle.java_typed_trees.specs.Answers.{value_at}
use Rattle.java_typed_trees.specs.ExpressionTrees.{ExprTrees}
use Rattle.java_typed_trees.specs.Settling.{own_cases}
use Rattle.java_typed_trees.specs.StatementTrees.{Statement, StmtTree, no_statement}
use Rattle.java_typed_trees.specs.StatementTrees as forms
use Rattle.java_call_rules.specs.declared.overloads.MethodResolution.TheVariants as resolutions
use Rattle.java_call_rules.specs.Arguments.{argument_types}
use Rattle.java_call_rules.specs.Calls.{choice_for, by_resolution, resolution_in, super_class}
use Rattle.java_call_rules.specs.CallParts.{method_in, trees_for}
use Rattle.java_call_rules.specs.Surroundings.{Surroundings}
use Rattle.java_call_rules.specs.TypedParts.{Typing, have_types}
use Rattle.java_variable_rules.proofs.VariableLaws.{AreTyped}
use Rattle.java_typing_laws.specs.Cases.{argument_cases}
use Rattle.java_typing_laws.specs.Typings.{typings}
use Rattle.java_typing_laws.proofs.Goodness.{cons_is_nil, nil_left, nil_right, values_have_types}
use Rattle.java_typing_laws.proofs.WellTyped.{goods}
use Rattle.java_typing_laws.specs.SuperCalls.{SuperCall, call_cases, is_made, is_other, statement_of_call, super_call_by, super_call_cases, super_call_of, super_call_statements, typed_call_cases}

no_truth : ◌≡◌ {A = Bool} false true → ⊥
no_truth h = cc

-- ---- its constructor

record HasMethod (a : Answer) : Type 0 where
  pub method : MethodId
  pub is : method_in a ≡ Some method

abbrev constructing : Pos → ClassId → MethodId → Answer
constructing place d m = answers.Is (shapes.NewObject d m) (value_at place (types.Obj d))

resolved : (p : Program) (covered : List ClassId) (place : Pos) (d : ClassId) (c : Choice) → own_cases p covered (by_resolution (resolution_in place c) (constructing place d)) ≡ [] → HasMethod (by_resolution (resolution_in place c) (constructing place d))
resolved p covered place d choices.NotApplicable none = absurd (cons_is_nil _ _ none)
resolved p covered place d choices.NotSpecific none = absurd (cons_is_nil _ _ none)
resolved p covered place d (choices.Chosen m) none = record { method = m; is = refl }

abbrev chosen : Pos → ClassId → Choice → Bool → Answer
chosen place d c typed = by_resolution (cond typed (resolution_in place c) (resolutions.NoMethod (answers.Silent place))) (constructing place d)

where_typed : (p : Program) (covered : List ClassId) (place : Pos) (d : ClassId) (c : Choice) (typed : Bool) → typed ≡ true → own_cases p covered (chosen place d c typed) ≡ [] → HasMethod (chosen place d c typed)
where_typed p covered place d c true is none = resolved p covered place d c none
where_typed p covered place d c false is none = absurd (no_truth is)

called : (s : Surroundings) (place : Pos) (above : Option ClassId) (arguments : List Typing) → is_other s.context.program above ≡ true → have_types arguments ≡ true → own_cases s.context.program s.context.covered (super_call_of s place above arguments) ≡ [] → HasMethod (super_call_of s place above arguments)
called s place None arguments other typed none = absurd (no_truth other)
called s place (Some d) arguments other typed none = where_typed s.context.program s.context.covered place d (choice_for s.context.program (constructors_of s.context.program s.context.class' d) (argument_types arguments)) (have_types arguments) typed none

-- ---- its statement

-- one super call, where one is made, and else nothing
abbrev pub IsCall : Bool → List StmtTree → Type 0
IsCall true calls = (m : MethodId) × (written : Bool) × (place : Pos) × (es : ExprTrees) × (calls ≡ Statement (forms.SuperCall m written) place es no_statement ∷ [])
IsCall false calls = calls ≡ []

also_true : (b c : Bool) → c ≡ true → (b || c) ≡ true
also_true true c is = refl
also_true false c is = is

abbrev statement_made : Surroundings → SuperCall → Bool → List StmtTree
statement_made s call made = cond made (statement_of_call s.context.program call.pos call.written (method_in (super_call_by s call.pos (typings s call.arguments))) (typings s call.arguments)) []

made_is_call : (s : Surroundings) → AreTyped s.context.locals → (call : SuperCall) (made : Bool) → is_made s ≡ made → super_call_cases s call ≡ [] → IsCall made (statement_made s call made)
made_is_call s typed call false is none = refl
made_is_call s typed call true is none =
    let arguments : List Typing = typings s call.arguments in
    let cases = subst (λ b. cond b (typed_call_cases s call) [] ≡ []) (also_true call.written (is_made s) is) none in
    let values = goods s typed call.arguments (nil_left (argument_cases s call.arguments) (call_cases s call.pos arguments) cases) in
    let found = called s call.pos (super_class s) arguments is (values_have_types arguments values) (nil_right (argument_cases s call.arguments) (call_cases s call.pos arguments) cases) in
    (found.method, call.written, call.pos, trees_for s.context.program (Some found.method) arguments, ap (λ m. statement_of_call s.context.program call.pos call.written m arguments) found.is)

pub super_call_is : (s : Surroundings) → AreTyped s.context.locals → (call : SuperCall) → super_call_cases s call ≡ [] → IsCall (is_made s) (super_call_statements s call)
super_call_is s typed call none = made_is_call s typed call (is_made s) refl none
