-- The call of a constructor of the super class with which the body of a constructor begins (JLS 8.8.7.1).
use Rattle.std.specs.Prelude.{Bool, true, false, not, cond, ◌||◌, Option, Some, None, List, [], ◌∷◌, ◌++◌, map}
use Rattle.rlc_base.specs.declared.place.Pos.{Pos}
use Rattle.rlc_base.specs.declared.faults.Refusal.{Refusal}
use Rattle.program_model.specs.declared.kinds.ClassId.{ClassId}
use Rattle.program_model.specs.declared.kinds.MethodId.{MethodId}
use Rattle.program_model.specs.declared.kinds.VType.TheVariants as types
use Rattle.program_model.specs.declared.program.Program.{Program}
use Rattle.program_model.specs.SuperTests.{is_class}
use Rattle.java_syntax.specs.DeclarationTrees.{SuperCallTree}
use Rattle.java_syntax.specs.ExpressionTrees.{expr_of}
use Rattle.java_syntax.specs.ExpressionTrees as syntax
use Rattle.class_members.specs.Members.{constructors_of}
use Rattle.java_typed_trees.specs.declared.facts.Answer.{Answer}
use Rattle.java_typed_trees.specs.declared.facts.Answer.TheVariants as answers
use Rattle.java_typed_trees.specs.declared.shapes.Shape.TheVariants as shapes
use Rattle.java_typed_trees.specs.Answers.{value_at}
use Rattle.java_typed_trees.specs.Settling.{own_cases}
use Rattle.java_typed_trees.specs.StatementTrees.{Statement, StmtTree, no_statement}
use Rattle.java_typed_trees.specs.StatementTrees as forms
use Rattle.java_call_rules.specs.CallParts.{method_in, trees_for}
use Rattle.java_call_rules.specs.Calls.{of_method, super_class}
use Rattle.java_call_rules.specs.Surroundings.{Surroundings}
use Rattle.java_call_rules.specs.TypedParts.{Typing}
use Rattle.field_initializers.specs.Cases.{argument_cases}
use Rattle.field_initializers.specs.Typings.{typings}
use Rattle.declared_bodies.specs.declared.super_calls.ConstructorCall.{ConstructorCall}

-- the call as it is written, or as it is implied
pub record SuperCall : Type 0 where
  pub arguments : syntax.ExprTrees
  pub pos : Pos
  pub written : Bool

-- an implied one has no arguments, and the constructor's place (JLS 8.8.7)
abbrev pub super_call_at : Pos → Option SuperCallTree → SuperCall
super_call_at place None = record { arguments = syntax.no_expression; pos = place; written = false }
super_call_at place (Some c) = record { arguments = syntax.expressions c.arguments; pos = c.pos; written = true }

-- the call, as the code has it
abbrev pub super_call_in : ConstructorCall → SuperCall
super_call_in c = record { arguments = syntax.expressions (map expr_of c.arguments.now); pos = c.pos; written = c.written }

-- ---- its constructor. The arguments stand in `s`, where there is no `this` (JLS 8.8.7.1)

-- the constructor that is meant, as an instance creation of the super class names it (JLS 15.12.2); an abstract class has
-- constructors too
abbrev pub super_call_of : Surroundings → Pos → Option ClassId → List Typing → Answer
super_call_of s place None arguments = answers.Silent place
super_call_of s place (Some d) arguments = of_method s.context.program place (constructors_of s.context.program s.context.class' d) arguments (λ m. answers.Is (shapes.NewObject d m) (value_at place (types.Obj d)))

abbrev pub super_call_by : Surroundings → Pos → List Typing → Answer
super_call_by s place arguments = super_call_of s place (super_class s) arguments

-- ---- whether it is made

abbrev pub is_other : Program → Option ClassId → Bool
is_other p None = false
is_other p (Some d) = not (is_class d p.core.object)

-- the super class is not `Object`
abbrev pub is_made : Surroundings → Bool
is_made s = is_other s.context.program (super_class s)

-- an implied call of the constructor of `Object` is none
abbrev pub is_typed : Surroundings → SuperCall → Bool
is_typed s call = call.written || is_made s

-- ---- its refusals and its statement, over the typings of its arguments

-- no constructor that is applicable or most specific, and what the constructor throws: both at the call's place
abbrev pub call_cases : Surroundings → Pos → List Typing → List Refusal
call_cases s place arguments = own_cases s.context.program s.context.covered (super_call_by s place arguments)

abbrev pub statement_of_call : Program → Pos → Bool → Option MethodId → List Typing → List StmtTree
statement_of_call p place written None arguments = []
statement_of_call p place written (Some m) arguments = Statement (forms.SuperCall m written) place (trees_for p (Some m) arguments) no_statement ∷ []

-- a constructor whose super class is `Object` makes no call, also where one is written
abbrev pub call_statements : Surroundings → Pos → Bool → List Typing → List StmtTree
call_statements s place written arguments = cond (is_made s) (statement_of_call s.context.program place written (method_in (super_call_by s place arguments)) arguments) []

-- ---- the whole call

abbrev pub typed_call_cases : Surroundings → SuperCall → List Refusal
typed_call_cases s call = argument_cases s call.arguments ++ call_cases s call.pos (typings s call.arguments)

abbrev pub super_call_cases : Surroundings → SuperCall → List Refusal
super_call_cases s call = cond (is_typed s call) (typed_call_cases s call) []

abbrev pub super_call_statements : Surroundings → SuperCall → List StmtTree
super_call_statements s call = call_statements s call.pos call.written (typings s call.arguments)
