-- What the rules of calls and instance creations keep: where all parts have types, an answer is a node whose shape takes its
-- parts, or a refusal.
use Rattle.std.proofs.Common.{◌≡◌, ℕ, ◌+◌, ◌≤◌, Bool, true, false, cond, Option, Some, None, List, sym, subst, arith}
use Rattle.std.specs.Option.{is_some}
use Rattle.rlc_base.specs.declared.place.Pos.{Pos}
use Rattle.rlc_base.specs.declared.code.Code.{Code}
use Rattle.rlc_base.specs.declared.code.Code.TheVariants as codes_of
use Rattle.program_model.specs.declared.kinds.ClassId.{ClassId}
use Rattle.program_model.specs.declared.kinds.MethodId.{MethodId}
use Rattle.program_model.specs.declared.kinds.VType.{VType}
use Rattle.program_model.specs.declared.program.Program.{Program}
use Rattle.program_model.specs.Lookups.{class_at, method_at}
use Rattle.program_model.specs.Typing.{class_of}
use Rattle.java_conversions.specs.Types.{type_of_class}
use Rattle.java_syntax.specs.declared.names.Name.{Name}
use Rattle.java_typed_trees.specs.declared.facts.Answer.{Answer}
use Rattle.java_typed_trees.specs.declared.facts.Answer.TheVariants as answers
use Rattle.java_typed_trees.specs.declared.facts.Facts.{Facts}
use Rattle.java_typed_trees.specs.declared.shapes.CallShape.{CallShape}
use Rattle.java_typed_trees.specs.declared.shapes.CallShape.TheVariants as calls
use Rattle.java_typed_trees.specs.declared.shapes.Shape.TheVariants as shapes
use Rattle.java_typed_trees.specs.AnswerParts.{IsSettled}
use Rattle.class_members.specs.Members.{constructors_of}
use Rattle.java_overloads.specs.declared.choices.Choice.{Choice}
use Rattle.java_overloads.specs.declared.choices.Choice.TheVariants as choices
use Rattle.java_typed_trees.specs.Answers.{mismatch, type_of, value_at}
use Rattle.java_typed_trees.specs.ExpressionTrees.{ExprTrees}
use Rattle.java_typed_trees.specs.WellFormed.{TakesArguments, count}
use Rattle.java_member_rules.specs.Calls.{call_as, class_call_by, is_abstract_class, is_static_method, new_object_by, object_call_by, object_call_of, result_type, super_call_by, super_call_of, target_form, unqualified_call_by}
use Rattle.java_member_rules.specs.Names.{result_in}
use Rattle.java_call_rules.specs.declared.overloads.MethodResolution.TheVariants as resolutions
use Rattle.java_expression_parts.specs.Arguments.{argument_types}
use Rattle.java_call_rules.specs.Calls.{choice_for, by_resolution, call_by, class_call, is_bodied, members_named, new_by, new_of, object_call, of_method, resolution_in, super_by, super_class}
use Rattle.java_expression_parts.specs.CallParts.{with_implied_this}
use Rattle.java_expression_parts.specs.WrittenTypes.{class_of_name}
use Rattle.java_expression_parts.specs.Surroundings.{Surroundings}
use Rattle.java_expression_parts.specs.TypedParts.{Typing, have_types}
use Rattle.java_expression_parts.proofs.Whole.{IsWhole, whole_refusal, of_both, of_one_holds, wrong_is_whole}

-- ---- calls

settled_result : (t : Option VType) → IsSettled (result_type t)
settled_result None = tt
settled_result (Some t) = tt

call_is_whole : (p : Program) (place : Pos) (form : CallShape) (m : MethodId) (n : ℕ) → TakesArguments form n → IsWhole n (call_as p place form m)
call_is_whole p place form m n h = record { takes = h; decided = settled_result (result_in (method_at p m)) }

-- the answer is whole over the arguments, and the implied `this` where it implies it
abbrev IsCall : Surroundings → Pos → ExprTrees → Answer → Type 0
IsCall s place ts a = IsWhole (count (with_implied_this s place a ts)) a

one_or_more : (n : ℕ) → 1 ≤ 1 + n
one_or_more n = omega arith

static_call : (s : Surroundings) (place : Pos) (ts : ExprTrees) (m : MethodId) → IsCall s place ts (call_as s.context.program place calls.Static m)
static_call s place ts m = call_is_whole s.context.program place calls.Static m (count ts) tt

this_call : (s : Surroundings) (place : Pos) (ts : ExprTrees) (m : MethodId) → IsCall s place ts (call_as s.context.program place calls.This m)
this_call s place ts m = call_is_whole s.context.program place calls.This m (1 + count ts) (one_or_more (count ts))

super_call : (s : Surroundings) (place : Pos) (ts : ExprTrees) (m : MethodId) → IsCall s place ts (call_as s.context.program place calls.Super m)
super_call s place ts m = call_is_whole s.context.program place calls.Super m (1 + count ts) (one_or_more (count ts))

refused_call : (s : Surroundings) (place : Pos) (ts : ExprTrees) → IsCall s place ts (mismatch place)
refused_call s place ts = record { takes = tt; decided = tt }

unqualified_is_whole : (s : Surroundings) (place : Pos) (ts : ExprTrees) (m : MethodId) → IsCall s place ts (unqualified_call_by s.context.program s.context.has_this place m)
unqualified_is_whole s place ts m = of_both (IsCall s place ts) (is_static_method (method_at s.context.program m)) (call_as s.context.program place calls.Static m) (cond s.context.has_this (call_as s.context.program place calls.This m) (mismatch place)) (static_call s place ts m) (of_both (IsCall s place ts) s.context.has_this (call_as s.context.program place calls.This m) (mismatch place) (this_call s place ts m) (refused_call s place ts))

super_call_is_whole : (s : Surroundings) (place : Pos) (ts : ExprTrees) (has_body : Bool) (m : MethodId) → IsCall s place ts (super_call_by s.context.program s.context.has_this has_body place m)
super_call_is_whole s place ts has_body m =
    of_both (IsCall s place ts) (is_static_method (method_at s.context.program m)) (mismatch place) (super_call_of s.context.program s.context.has_this has_body place m) (refused_call s place ts)
    (of_both (IsCall s place ts) s.context.has_this (cond has_body (call_as s.context.program place calls.Super m) (answers.Wrong codes_of.NotAbstract place)) (mismatch place)
    (of_both (IsCall s place ts) has_body (call_as s.context.program place calls.Super m) (answers.Wrong codes_of.NotAbstract place) (super_call s place ts m) (record { takes = tt; decided = tt }))
    (refused_call s place ts))

class_call_is_whole : (p : Program) (place : Pos) (n : ℕ) (m : MethodId) → IsWhole n (class_call_by p place m)
class_call_is_whole p place n m = of_both (IsWhole n) (is_static_method (method_at p m)) (call_as p place calls.Static m) (mismatch place) (call_is_whole p place calls.Static m n tt) (whole_refusal n place)

form_takes : (is_this : Bool) (n : ℕ) → TakesArguments (target_form is_this) (1 + n)
form_takes true n = one_or_more n
form_takes false n = one_or_more n

object_call_is_whole : (p : Program) (is_this : Bool) (place : Pos) (n : ℕ) (m : MethodId) (e : Facts) (t : VType) → type_of e ≡ Some t → IsWhole (1 + n) (object_call_by p is_this place m e)
object_call_is_whole p is_this place n m e t typed = of_one_holds (IsWhole (1 + n)) place (type_of e) (λ u. object_call_of p is_this place m) t typed (of_both (IsWhole (1 + n)) (is_static_method (method_at p m)) (mismatch place) (call_as p place (target_form is_this) m) (whole_refusal (1 + n) place) (call_is_whole p place (target_form is_this) m (1 + n) (form_takes is_this n)))

-- the answer where each argument has a type: that of the method that is meant, or a refusal
resolved : (P : Answer → Type 0) (place : Pos) (c : Choice) (rule : MethodId → Answer) → ((m : MethodId) → P (rule m)) → ((k : Code) → P (answers.Wrong k place)) → P (by_resolution (resolution_in place c) rule)
resolved P place choices.NotApplicable rule h g = g codes_of.NoSuchMethod
resolved P place choices.NotSpecific rule h g = g codes_of.Ambiguous
resolved P place (choices.Chosen m) rule h g = h m

of_method_holds : (P : Answer → Type 0) (p : Program) (place : Pos) (candidates : List MethodId) (arguments : List Typing) (rule : MethodId → Answer) → have_types arguments ≡ true → ((m : MethodId) → P (rule m)) → ((k : Code) → P (answers.Wrong k place)) → P (of_method p place candidates arguments rule)
of_method_holds P p place candidates arguments rule typed h g = subst (λ b. P (by_resolution (cond b (resolution_in place (choice_for p candidates (argument_types arguments))) (resolutions.NoMethod (answers.Silent place))) rule)) (sym typed) (resolved P place (choice_for p candidates (argument_types arguments)) rule h g)

-- `m(..)`, `super.m(..)`, `C.m(..)`, `e.m(..)` and `new C(..)`
pub call_by_is_whole : (s : Surroundings) (place : Pos) (name : List ℕ) (arguments : List Typing) (ts : ExprTrees) → have_types arguments ≡ true → IsWhole (count (with_implied_this s place (call_by s place name arguments) ts)) (call_by s place name arguments)
call_by_is_whole s place name arguments ts typed = of_method_holds (IsCall s place ts) s.context.program place (members_named s name (Some s.context.class')) arguments (unqualified_call_by s.context.program s.context.has_this place) typed (unqualified_is_whole s place ts) (λ k. record { takes = tt; decided = tt })

pub super_by_is_whole : (s : Surroundings) (place : Pos) (name : List ℕ) (arguments : List Typing) (ts : ExprTrees) → have_types arguments ≡ true → IsWhole (count (with_implied_this s place (super_by s place name arguments) ts)) (super_by s place name arguments)
super_by_is_whole s place name arguments ts typed = of_method_holds (IsCall s place ts) s.context.program place (members_named s name (super_class s)) arguments (λ m. super_call_by s.context.program s.context.has_this (is_bodied s.context.program (method_at s.context.program m)) place m) typed (λ m. super_call_is_whole s place ts (is_bodied s.context.program (method_at s.context.program m)) m) (λ k. record { takes = tt; decided = tt })

pub class_call_by_is_whole : (s : Surroundings) (place : Pos) (name : List ℕ) (c : ClassId) (arguments : List Typing) (n : ℕ) → have_types arguments ≡ true → IsWhole n (class_call s place name c arguments)
class_call_by_is_whole s place name c arguments n typed = of_method_holds (IsWhole n) s.context.program place (members_named s name (Some c)) arguments (class_call_by s.context.program place) typed (class_call_is_whole s.context.program place n) (λ k. wrong_is_whole n k place)

pub object_call_by_is_whole : (s : Surroundings) (is_this : Bool) (place : Pos) (name : List ℕ) (e : Facts) (t : VType) (arguments : List Typing) (n : ℕ) → type_of e ≡ Some t → have_types arguments ≡ true → IsWhole (1 + n) (object_call s is_this place name e arguments)
object_call_by_is_whole s is_this place name e t arguments n known typed = of_one_holds (IsWhole (1 + n)) place (type_of e) (λ u. of_method s.context.program place (members_named s name (class_of s.context.program u)) arguments (λ m. object_call_by s.context.program is_this place m e)) t known (of_method_holds (IsWhole (1 + n)) s.context.program place (members_named s name (class_of s.context.program t)) arguments (λ m. object_call_by s.context.program is_this place m e) typed (λ m. object_call_is_whole s.context.program is_this place n m e t known) (λ k. wrong_is_whole (1 + n) k place))

new_object_is_whole : (p : Program) (place : Pos) (c : ClassId) (n : ℕ) (m : MethodId) → IsWhole n (new_object_by p place c m)
new_object_is_whole p place c n m = of_both (IsWhole n) (is_abstract_class (class_at p c)) (answers.Wrong codes_of.NotAbstract place) (answers.Is (shapes.NewObject c m) (value_at place (type_of_class p c))) (wrong_is_whole n codes_of.NotAbstract place) (record { takes = tt; decided = tt })

pub new_by_is_whole : (s : Surroundings) (place : Pos) (name : Name) (arguments : List Typing) (n : ℕ) → is_some (class_of_name s name.text) ≡ true → have_types arguments ≡ true → IsWhole n (new_by s place name arguments)
new_by_is_whole s place name arguments n known typed = by (class_of_name s name.text) known
  where
    by : (c : Option ClassId) → is_some c ≡ true → IsWhole n (new_of s place c arguments)
    by None h = absurd cc
    by (Some c) h =
        of_both (IsWhole n) (is_abstract_class (class_at s.context.program c)) (answers.Wrong codes_of.NotAbstract place) (of_method s.context.program place (constructors_of s.context.program s.context.class' c) arguments (new_object_by s.context.program place c)) (wrong_is_whole n codes_of.NotAbstract place)
        (of_method_holds (IsWhole n) s.context.program place (constructors_of s.context.program s.context.class' c) arguments (new_object_by s.context.program place c) typed (new_object_is_whole s.context.program place c n) (λ k. wrong_is_whole n k place))
