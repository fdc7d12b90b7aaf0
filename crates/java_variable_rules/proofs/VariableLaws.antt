-- What the rules of names, field accesses and assignments keep: where all parts have types, an answer is a node whose shape
-- takes its parts, or a refusal.
use Rattle.std.proofs.Common.{◌≡◌, ℕ, ◌+◌, Bool, true, false, cond, Option, Some, None, ℤ, List, [], ◌∷◌, All, refl, ap, find}
use Rattle.std.specs.Str.{bytes_eq}
use Rattle.std.proofs.lemmas.List.Elements.{All-head, All-tail}
use Rattle.rlc_base.specs.declared.place.Pos.{Pos}
use Rattle.rlc_base.specs.declared.code.Code.TheVariants as codes_of
use Rattle.program_model.specs.declared.kinds.ClassId.{ClassId}
use Rattle.program_model.specs.declared.kinds.FieldId.{FieldId}
use Rattle.program_model.specs.declared.kinds.MethodId.{MethodId}
use Rattle.program_model.specs.declared.kinds.VType.{VType}
use Rattle.program_model.specs.declared.program.Field.{Field}
use Rattle.program_model.specs.declared.program.Program.{Program}
use Rattle.program_model.specs.declared.kinds.BinaryOperator.{BinaryOperator}
use Rattle.program_model.specs.Lookups.{field_at, method_at}
use Rattle.java_conversions.specs.Conversions.{is_assignable}
use Rattle.java_syntax.specs.ExpressionTrees as syntax
use Rattle.java_typed_trees.specs.declared.facts.Answer.{Answer}
use Rattle.java_typed_trees.specs.declared.facts.Answer.TheVariants as answers
use Rattle.java_typed_trees.specs.declared.facts.Facts.{Facts}
use Rattle.java_typed_trees.specs.declared.facts.StaticType.{StaticType}
use Rattle.java_typed_trees.specs.declared.facts.StaticType.TheVariants as static_types
use Rattle.java_typed_trees.specs.declared.scope.Local.{Local}
use Rattle.java_typed_trees.specs.declared.scope.NameMeaning.{NameMeaning}
use Rattle.java_typed_trees.specs.declared.scope.NameMeaning.TheVariants as meanings
use Rattle.java_typed_trees.specs.declared.scope.Variable.{Variable}
use Rattle.java_typed_trees.specs.declared.shapes.Shape.{Shape}
use Rattle.java_typed_trees.specs.declared.shapes.Shape.TheVariants as shapes
use Rattle.java_typed_trees.specs.declared.shapes.TargetShape.{TargetShape}
use Rattle.class_members.specs.declared.fields.FieldMember.{FieldMember}
use Rattle.class_members.specs.declared.fields.FieldMember.TheVariants as members
use Rattle.class_members.specs.Members.{field_named}
use Rattle.java_typed_trees.specs.Answers.{constant_at, mismatch, typed_as, type_in, type_of, value_at}
use Rattle.java_typed_trees.specs.ExpressionTrees.{no_expression}
use Rattle.java_typed_trees.specs.Names.{local_named, meaning_among}
use Rattle.java_typed_trees.specs.WellFormed.{Takes, count, parts_of_target}
use Rattle.java_operator_rules.specs.Arrays.{length_at}
use Rattle.java_operator_rules.specs.Operators.{operator_assignment_by, postfix_step_by, prefix_step_by}
use Rattle.java_operator_rules.proofs.RuleLaws.{operator_assignment_decided, operator_assignment_takes, postfix_step_decided, postfix_step_takes, prefix_step_decided, prefix_step_takes}
use Rattle.java_member_rules.specs.Assignments.{assignment_by, assignment_of, target_in}
use Rattle.java_member_rules.specs.Fields.{class_field_by, field_access_by, instance_field, member_access, static_field}
use Rattle.java_member_rules.specs.Names.{field_of, name_by, own_field, result_in, this_by, variable_of}
use Rattle.java_variable_rules.specs.Assignments.{assigned_target, compound_by, is_through_this, may_assign, postfix_by, prefix_by}
use Rattle.java_expression_parts.specs.CallParts.{with_implied_this}
use Rattle.java_variable_rules.specs.Fields.{access_of, class_access, field_of_type, is_length, object_access}
use Rattle.java_variable_rules.specs.Names.{field_constant, field_meaning, identifier_by, member_meaning, name_meaning}
use Rattle.java_expression_parts.specs.Surroundings.{Surroundings}
use Rattle.java_expression_parts.proofs.Whole.{IsWhole, whole_refusal, of_both, of_one_holds, of_two_holds, wrong_is_whole}

-- ---- names

-- each variable of the body has a type
abbrev pub IsTyped : StaticType → Type 0
IsTyped (static_types.Value t) = Unit {0}
IsTyped static_types.Void = ⊥
IsTyped static_types.Erroneous = ⊥

abbrev pub AreTyped : List Local → Type 0
AreTyped locals = All (λ x. IsTyped x.variable.static_type) locals

-- the answer is whole over its parts: the implied `this`, where it implies it
abbrev IsName : Surroundings → Pos → Answer → Type 0
IsName s place a = IsWhole (count (with_implied_this s place a no_expression)) a

variable_is_whole : (s : Surroundings) (place : Pos) (x : Variable) (t : StaticType) → IsTyped t → IsName s place (variable_of place x (type_in t))
variable_is_whole s place x (static_types.Value t) h = record { takes = refl; decided = tt }
variable_is_whole s place x static_types.Void h = absurd h
variable_is_whole s place x static_types.Erroneous h = absurd h

constant_is_whole : (s : Surroundings) (place : Pos) (m : MethodId) (t : Option VType) → IsName s place (typed_as (shapes.LibraryConstant m) place t)
constant_is_whole s place m None = record { takes = tt; decided = tt }
constant_is_whole s place m (Some t) = record { takes = refl; decided = tt }

own_field_is_whole : (s : Surroundings) (has_this : Bool) (place : Pos) (n : Option ℤ) (f : FieldId) (t : VType) → IsName s place (own_field has_this place n f t)
own_field_is_whole s true place n f t = record { takes = refl; decided = tt }
own_field_is_whole s false place n f t = record { takes = tt; decided = tt }

field_is_whole : (s : Surroundings) (has_this : Bool) (place : Pos) (n : Option ℤ) (f : FieldId) (x : Option Field) → IsName s place (field_of has_this place n f x)
field_is_whole s has_this place n f None = record { takes = tt; decided = tt }
field_is_whole s has_this place n f (Some x) = of_both (IsName s place) x.is_static (answers.Is (shapes.StaticField f) (constant_at place x.vtype n)) (own_field has_this place n f x.vtype) (record { takes = refl; decided = tt }) (own_field_is_whole s has_this place n f x.vtype)

abbrev HasType : NameMeaning → Type 0
HasType (meanings.Variable x) = IsTyped x.static_type
HasType (meanings.Field f) = Unit {0}
HasType (meanings.LibraryConstant m) = Unit {0}
HasType meanings.NoVariable = Unit {0}

name_is_whole : (s : Surroundings) (p : Program) (has_this : Bool) (place : Pos) (n : Option ℤ) (m : NameMeaning) → HasType m → IsName s place (name_by p has_this place n m)
name_is_whole s p has_this place n (meanings.Variable x) h = variable_is_whole s place x x.static_type h
name_is_whole s p has_this place n (meanings.Field f) h = field_is_whole s has_this place n f (field_at p f)
name_is_whole s p has_this place n (meanings.LibraryConstant m) h = constant_is_whole s place m (result_in (method_at p m))
name_is_whole s p has_this place n meanings.NoVariable h = record { takes = tt; decided = tt }

abbrev IsFoundTyped : Option Local → Type 0
IsFoundTyped None = Unit {0}
IsFoundTyped (Some x) = IsTyped x.variable.static_type

found_is_typed : (test : Local → Bool) (locals : List Local) → AreTyped locals → IsFoundTyped (find test locals)
found_is_typed test [] h = tt
found_is_typed test (x ∷ xs) h = by (test x) (found_is_typed test xs (All-tail (λ y. IsTyped y.variable.static_type) x xs h))
  where
    by : (b : Bool) → IsFoundTyped (find test xs) → IsFoundTyped (cond b (Some x) (find test xs))
    by true rest = All-head (λ y. IsTyped y.variable.static_type) x xs h
    by false rest = rest

meaning_has_type : (x : Option Local) (member : NameMeaning) → IsFoundTyped x → HasType member → HasType (meaning_among x member)
meaning_has_type None member h g = g
meaning_has_type (Some x) member h g = h

member_has_type : (m : Option FieldMember) → HasType (member_meaning m)
member_has_type None = tt
member_has_type (Some (members.Field f)) = tt
member_has_type (Some (members.Constant m)) = tt

-- an identifier as a value
pub identifier_is_whole : (s : Surroundings) (name : List ℕ) (place : Pos) → AreTyped s.context.locals → IsWhole (count (with_implied_this s place (identifier_by s name place) no_expression)) (identifier_by s name place)
identifier_is_whole s name place typed = name_is_whole s s.context.program s.context.has_this place (field_constant s (name_meaning s name)) (name_meaning s name) (meaning_has_type (local_named s.context.locals name) (field_meaning s name s.context.class') (found_is_typed (λ x. bytes_eq x.name name) s.context.locals typed) (member_has_type (field_named s.context.program s.context.class' s.context.class' name)))

pub this_is_whole : (has_this : Bool) (c : ClassId) (place : Pos) → IsWhole 0 (this_by has_this c place)
this_is_whole true c place = record { takes = refl; decided = tt }
this_is_whole false c place = record { takes = tt; decided = tt }

-- ---- fields

instance_field_is_whole : (place : Pos) (f : FieldId) (x : Option Field) → IsWhole 1 (instance_field place f x)
instance_field_is_whole place f None = wrong_is_whole 1 codes_of.NoSuchName place
instance_field_is_whole place f (Some x) = of_both (IsWhole 1) x.is_static (mismatch place) (answers.Is (shapes.Field f) (value_at place x.vtype)) (whole_refusal 1 place) (record { takes = refl; decided = tt })

access_is_whole : (p : Program) (place : Pos) (m : NameMeaning) → IsWhole 1 (member_access p place m)
access_is_whole p place (meanings.Variable x) = wrong_is_whole 1 codes_of.NoSuchName place
access_is_whole p place (meanings.Field f) = instance_field_is_whole place f (field_at p f)
access_is_whole p place (meanings.LibraryConstant m) = whole_refusal 1 place
access_is_whole p place meanings.NoVariable = wrong_is_whole 1 codes_of.NoSuchName place

pub object_access_is_whole : (s : Surroundings) (place : Pos) (name : List ℕ) (e : Facts) (t : VType) → type_of e ≡ Some t → IsWhole 1 (object_access s place name e)
object_access_is_whole s place name e t known =
    let of_field : IsWhole 1 (field_access_by s.context.program place (field_of_type s name t) e) = of_one_holds (IsWhole 1) place (type_of e) (λ u. member_access s.context.program place (field_of_type s name t)) t known (access_is_whole s.context.program place (field_of_type s name t)) in
    of_one_holds (IsWhole 1) place (type_of e) (access_of s place name e) t known (of_both (IsWhole 1) (is_length name t) (length_at place) (field_access_by s.context.program place (field_of_type s name t) e) (record { takes = refl; decided = tt }) of_field)

static_field_is_whole : (place : Pos) (n : Option ℤ) (f : FieldId) (x : Option Field) → IsWhole 0 (static_field place n f x)
static_field_is_whole place n f None = wrong_is_whole 0 codes_of.NoSuchName place
static_field_is_whole place n f (Some x) = of_both (IsWhole 0) x.is_static (answers.Is (shapes.StaticField f) (constant_at place x.vtype n)) (mismatch place) (record { takes = refl; decided = tt }) (whole_refusal 0 place)

library_constant_is_whole : (place : Pos) (m : MethodId) (t : Option VType) → IsWhole 0 (typed_as (shapes.LibraryConstant m) place t)
library_constant_is_whole place m None = whole_refusal 0 place
library_constant_is_whole place m (Some t) = record { takes = refl; decided = tt }

class_field_is_whole : (p : Program) (place : Pos) (n : Option ℤ) (m : NameMeaning) → IsWhole 0 (class_field_by p place n m)
class_field_is_whole p place n (meanings.Variable x) = wrong_is_whole 0 codes_of.NoSuchName place
class_field_is_whole p place n (meanings.Field f) = static_field_is_whole place n f (field_at p f)
class_field_is_whole p place n (meanings.LibraryConstant m) = library_constant_is_whole place m (result_in (method_at p m))
class_field_is_whole p place n meanings.NoVariable = wrong_is_whole 0 codes_of.NoSuchName place

pub class_access_is_whole : (s : Surroundings) (place : Pos) (name : List ℕ) (c : ClassId) → IsWhole 0 (class_access s place name c)
class_access_is_whole s place name c = class_field_is_whole s.context.program place (field_constant s (field_meaning s name c)) (field_meaning s name c)

-- ---- assignments

-- the left-hand side has its parts in the assignment
abbrev FitsTarget : ℕ → Option TargetShape → Type 0
FitsTarget n None = Unit {0}
FitsTarget n (Some x) = n ≡ parts_of_target x

target_fits : (n : ℕ) (shape : Shape) → Takes shape n → FitsTarget n (target_in shape)
target_fits n (shapes.Literal l) h = tt
target_fits n (shapes.Local x) h = h
target_fits n (shapes.This written) h = tt
target_fits n (shapes.Field f) h = h
target_fits n (shapes.StaticField f) h = h
target_fits n (shapes.LibraryConstant m) h = tt
target_fits n (shapes.Unary o) h = tt
target_fits n (shapes.Binary o t) h = tt
target_fits n shapes.Conditional h = tt
target_fits n (shapes.InstanceOf t) h = tt
target_fits n shapes.PrimitiveCast h = tt
target_fits n shapes.ReferenceCast h = tt
target_fits n (shapes.Assignment x) h = tt
target_fits n (shapes.OperatorAssignment o t) h = tt
target_fits n (shapes.PostfixStep o t) h = tt
target_fits n (shapes.Call form m) h = tt
target_fits n (shapes.NewObject c m) h = tt
target_fits n shapes.NewArray h = tt
target_fits n shapes.Element h = h
target_fits n shapes.Length h = tt
target_fits n shapes.Erroneous h = tt

assigned_fits : (n : ℕ) (b : Bool) (t : Option TargetShape) → FitsTarget n t → FitsTarget n (cond b t None)
assigned_fits n true t h = h
assigned_fits n false t h = tt

assignment_of_is_whole : (p : Program) (place : Pos) (n : ℕ) (target : Option TargetShape) (e : Facts) (to from : VType) → FitsTarget n target → IsWhole (n + 1) (assignment_of p place target e to from)
assignment_of_is_whole p place n None e to from h = whole_refusal (n + 1) place
assignment_of_is_whole p place n (Some x) e to from h = of_both (IsWhole (n + 1)) (is_assignable p e.constant from to) (answers.Is (shapes.Assignment x) (value_at place to)) (mismatch place) (record { takes = ap (λ k. k + 1) h; decided = tt }) (whole_refusal (n + 1) place)

pub assignment_is_whole : (s : Surroundings) (place : Pos) (left : syntax.ExprTree) (shape : Shape) (n : ℕ) (x e : Facts) (to from : VType) → Takes shape n → type_of x ≡ Some to → type_of e ≡ Some from → IsWhole (n + 1) (assignment_by s.context.program place (assigned_target s left shape) x e)
assignment_is_whole s place left shape n x e to from takes has_to has_from = of_two_holds (IsWhole (n + 1)) place (type_of x) (type_of e) (assignment_of s.context.program place (assigned_target s left shape) e) to from has_to has_from (assignment_of_is_whole s.context.program place n (assigned_target s left shape) e to from (assigned_fits n (may_assign s (is_through_this left) shape) (target_in shape) (target_fits n shape takes)))

pub compound_is_whole : (p : Program) (allowed : Bool) (o : BinaryOperator) (place : Pos) (x e : Facts) (to from : VType) → type_of x ≡ Some to → type_of e ≡ Some from → IsWhole 2 (compound_by p allowed o place x e)
compound_is_whole p allowed o place x e to from has_to has_from =
    let done : IsWhole 2 (operator_assignment_by p o place x e) = record { takes = operator_assignment_takes p o place x e; decided = operator_assignment_decided p o place x e to from has_to has_from } in
    of_two_holds (IsWhole 2) place (type_of x) (type_of e) (λ t u. cond allowed (operator_assignment_by p o place x e) (mismatch place)) to from has_to has_from (of_both (IsWhole 2) allowed (operator_assignment_by p o place x e) (mismatch place) done (whole_refusal 2 place))

pub prefix_is_whole : (allowed : Bool) (o : BinaryOperator) (place : Pos) (x : Facts) (t : VType) → type_of x ≡ Some t → IsWhole 2 (prefix_by allowed o place x)
prefix_is_whole allowed o place x t known =
    let done : IsWhole 2 (prefix_step_by o place x) = record { takes = prefix_step_takes o place x; decided = prefix_step_decided o place x t known } in
    of_one_holds (IsWhole 2) place (type_of x) (λ u. cond allowed (prefix_step_by o place x) (mismatch place)) t known (of_both (IsWhole 2) allowed (prefix_step_by o place x) (mismatch place) done (whole_refusal 2 place))

pub postfix_is_whole : (allowed : Bool) (o : BinaryOperator) (place : Pos) (x : Facts) (t : VType) → type_of x ≡ Some t → IsWhole 2 (postfix_by allowed o place x)
postfix_is_whole allowed o place x t known =
    let done : IsWhole 2 (postfix_step_by o place x) = record { takes = postfix_step_takes o place x; decided = postfix_step_decided o place x t known } in
    of_one_holds (IsWhole 2) place (type_of x) (λ u. cond allowed (postfix_step_by o place x) (mismatch place)) t known (of_both (IsWhole 2) allowed (postfix_step_by o place x) (mismatch place) done (whole_refusal 2 place))
