-- An expression in which nothing is refused has a type, or is the call of a method without a result, and its typed tree is
-- well-formed.
use Rattle.std.proofs.Common.{◌≡◌, ℕ, ◌+◌, Bool, true, Option, Some, None, List, [], ◌++◌, refl, sym, subst, ap, ◌∙◌, arith}
use Rattle.std.specs.Option.{is_some}
use Rattle.rlc_base.specs.declared.place.Pos.{Pos}
use Rattle.rlc_base.specs.declared.faults.Refusal.{Refusal}
use Rattle.program_model.specs.declared.kinds.ClassId.{ClassId}
use Rattle.program_model.specs.declared.kinds.VType.{VType}
use Rattle.java_syntax.specs.declared.names.Name.{Name}
use Rattle.java_syntax.specs.declared.operators.PrefixOperator.{PrefixOperator}
use Rattle.java_syntax.specs.declared.operators.PrefixOperator.TheVariants as prefixes
use Rattle.java_syntax.specs.ExpressionTrees as syntax
use Rattle.java_literals.specs.declared.values.LiteralValue.{LiteralValue}
use Rattle.java_literals.specs.Values.{literal_value}
use Rattle.java_typed_trees.specs.declared.facts.Answer.{Answer}
use Rattle.java_typed_trees.specs.Answers.{type_of}
use Rattle.java_typed_trees.specs.ExpressionTrees.{ExprTree, ExprTrees, Node, and_expression, expressions, no_expression}
use Rattle.java_typed_trees.specs.Settling.{own_cases}
use Rattle.java_typed_trees.specs.WellFormed.{AreWellFormed, IsWellFormed, Takes, count}
use Rattle.java_operator_expressions.specs.Arrays.{element_by, new_array_by}
use Rattle.java_operator_expressions.specs.Casts.{cast_by, instance_of_by}
use Rattle.java_operator_expressions.specs.Conditionals.{conditional_by}
use Rattle.java_operator_expressions.specs.Literals.{literal_as, literal_by, literal_under_minus_by, type_of_literal}
use Rattle.java_operator_expressions.specs.Operators.{binary_by, unary_by, operator_of, step_operator_of, unary_operator_of}
use Rattle.java_operator_expressions.proofs.RuleLaws as laws
use Rattle.java_member_rules.specs.Assignments.{assignment_by}
use Rattle.java_member_rules.specs.Names.{this_by}
use Rattle.java_variable_rules.specs.Assignments.{assigned_target, assignment_typing, compound_by, implied_one, may_update, postfix_by, prefix_by, is_written_this}
use Rattle.java_call_rules.specs.CallParts.{argument_trees, method_in, parameters_of, with_implied_this}
use Rattle.java_call_rules.specs.Calls.{call_by, class_call, new_by, new_typing, object_call, super_by, super_call_typing, unqualified_call_typing}
use Rattle.java_variable_rules.specs.Fields.{class_access, object_access}
use Rattle.java_call_rules.specs.WrittenTypes.{cast_type, class_of_name, element_type, tested_type, unknown_name_cases}
use Rattle.java_variable_rules.specs.Names.{class_meant, identifier_by}
use Rattle.java_call_rules.specs.Surroundings.{Surroundings}
use Rattle.java_call_rules.specs.Arguments.{in_contexts}
use Rattle.java_call_rules.specs.TypedParts.{Typing, one, operand, own_refusals, parts_of, shape_of, trees_in, two, typing_by, value_refusals, with_last}
use Rattle.java_variable_rules.proofs.VariableLaws.{AreTyped, assignment_is_whole, class_access_is_whole, compound_is_whole, identifier_is_whole, object_access_is_whole, postfix_is_whole, prefix_is_whole, this_is_whole}
use Rattle.java_call_rules.proofs.Whole.{IsWhole}
use Rattle.java_call_rules.proofs.CallLaws.{call_by_is_whole, class_call_by_is_whole, new_by_is_whole, object_call_by_is_whole, super_by_is_whole}
use Rattle.java_typed_expressions.specs.Cases.{argument_cases, cases, class_cases, operand_cases, target_cases, value_cases}
use Rattle.java_typed_expressions.specs.Targets.{call_on, field_on, target_typing}
use Rattle.java_typed_expressions.specs.Typings.{answer_under, answer_under_minus, cast_typing, instance_of_typing, new_array_typing, operand_typing, tree, typing, typings, unary_typing}
use Rattle.java_typed_expressions.proofs.Goodness.{AreValues, IsGood, IsValue, argument_trees_well, cons_is_nil, good_typing, good_value, known_type, nil_first, nil_left, nil_rest, nil_right, nil_second, one_good, three_good, two_good, values_have_types, well_formed, with_this_well}

-- ---- calls over values

abbrev trees : Surroundings → Answer → List Typing → ExprTrees
trees s given arguments = argument_trees s.context.program given arguments

trees_well : (s : Surroundings) (given : Answer) (arguments : List Typing) → AreValues arguments → AreWellFormed (trees s given arguments)
trees_well s given arguments vs = argument_trees_well (parameters_of s.context.program (method_in given)) arguments vs

good_call : (s : Surroundings) (place : Pos) (name : List ℕ) (those : List Refusal) (arguments : List Typing) → (those ≡ [] → AreValues arguments) → those ++ own_refusals s (unqualified_call_typing s place name arguments) ≡ [] → IsGood (unqualified_call_typing s place name arguments)
good_call s place name those arguments values none =
    let last = own_refusals s (unqualified_call_typing s place name arguments) in
    let vs = values (nil_left those last none) in
    let given = call_by s place name arguments in
    let ts = trees s given arguments in
    good_typing s given (with_implied_this s place given ts) (call_by_is_whole s place name arguments ts (values_have_types arguments vs)) (nil_right those last none) (with_this_well s place given ts (trees_well s given arguments vs))

good_super : (s : Surroundings) (place : Pos) (name : List ℕ) (those : List Refusal) (arguments : List Typing) → (those ≡ [] → AreValues arguments) → those ++ own_refusals s (super_call_typing s place name arguments) ≡ [] → IsGood (super_call_typing s place name arguments)
good_super s place name those arguments values none =
    let last = own_refusals s (super_call_typing s place name arguments) in
    let vs = values (nil_left those last none) in
    let given = super_by s place name arguments in
    let ts = trees s given arguments in
    good_typing s given (with_implied_this s place given ts) (super_by_is_whole s place name arguments ts (values_have_types arguments vs)) (nil_right those last none) (with_this_well s place given ts (trees_well s given arguments vs))

good_method_call : (s : Surroundings) (is_this : Bool) (place : Pos) (name : List ℕ) (c : Option ClassId) (ct those : List Refusal) (t : Typing) (arguments : List Typing) → (ct ≡ [] → IsGood t) → (those ≡ [] → AreValues arguments) → target_cases c (value_refusals ct t) ++ those ++ own_refusals s (call_on s is_this place name (target_typing c t) arguments) ≡ [] → IsGood (call_on s is_this place name (target_typing c t) arguments)
good_method_call s is_this place name None ct those t arguments gt values none =
    let last = own_refusals s (call_on s is_this place name (target_typing None t) arguments) in
    let v = good_value ct t gt (nil_first (value_refusals ct t) those last none) in
    let vs = values (nil_second (value_refusals ct t) those last none) in
    let given = object_call s is_this place name (operand t) arguments in
    let ts = trees s given arguments in
    good_typing s given (and_expression t.tree ts) (object_call_by_is_whole s is_this place name (operand t) v.vtype arguments (count ts) v.has (values_have_types arguments vs)) (nil_right (value_refusals ct t ++ those) last none) (well_formed t v.good, trees_well s given arguments vs)
good_method_call s is_this place name (Some c) ct those t arguments gt values none =
    let last = own_refusals s (call_on s is_this place name (target_typing (Some c) t) arguments) in
    let vs = values (nil_left those last none) in
    let given = class_call s place name c arguments in
    let ts = trees s given arguments in
    good_typing s given ts (class_call_by_is_whole s place name c arguments (count ts) (values_have_types arguments vs)) (nil_right those last none) (trees_well s given arguments vs)

known_class : (c : Option ClassId) (place : Pos) → unknown_name_cases (is_some c) place ≡ [] → is_some c ≡ true
known_class None place none = absurd (cons_is_nil _ _ none)
known_class (Some c) place none = refl

good_new : (s : Surroundings) (place : Pos) (name : Name) (those : List Refusal) (arguments : List Typing) → (those ≡ [] → AreValues arguments) → class_cases s name ++ those ++ own_refusals s (new_typing s place name arguments) ≡ [] → IsGood (new_typing s place name arguments)
good_new s place name those arguments values none =
    let last = own_refusals s (new_typing s place name arguments) in
    let known = known_class (class_of_name s name.text) name.pos (nil_first (class_cases s name) those last none) in
    let vs = values (nil_second (class_cases s name) those last none) in
    let given = new_by s place name arguments in
    let ts = trees s given arguments in
    good_typing s given ts (new_by_is_whole s place name arguments (count ts) known (values_have_types arguments vs)) (nil_right (class_cases s name ++ those) last none) (trees_well s given arguments vs)

-- ---- field accesses

good_access : (s : Surroundings) (place : Pos) (name : List ℕ) (c : Option ClassId) (ct : List Refusal) (t : Typing) → (ct ≡ [] → IsGood t) → target_cases c (value_refusals ct t) ++ own_refusals s (field_on s place name (target_typing c t)) ≡ [] → IsGood (field_on s place name (target_typing c t))
good_access s place name None ct t gt none = one_good s ct t (object_access s place name (operand t)) gt (λ v has. object_access_is_whole s place name (operand t) v has) none
good_access s place name (Some c) ct t gt none = good_typing s (class_access s place name c) no_expression (class_access_is_whole s place name c) none tt

-- ---- types that are written, and one value

abbrev unknown_type : Option VType → Pos → List Refusal
unknown_type t place = unknown_name_cases (is_some t) place

good_cast : (s : Surroundings) (place : Pos) (to : Option VType) (named : Pos) (ca : List Refusal) (a : Typing) → (ca ≡ [] → IsGood a) → unknown_type to named ++ value_refusals ca a ++ own_refusals s (cast_typing s place to a) ≡ [] → IsGood (cast_typing s place to a)
good_cast s place to named ca a ga none =
    let last = own_refusals s (cast_typing s place to a) in
    let k = known_type to named (nil_first (unknown_type to named) (value_refusals ca a) last none) in
    one_good s ca a (cast_by s.context.program place to (operand a)) ga (λ t has. record { takes = laws.cast_takes s.context.program place to (operand a); decided = laws.cast_decided s.context.program place to (operand a) k.vtype t k.is has }) (nil_rest (unknown_type to named) (value_refusals ca a) last none)

good_new_array : (s : Surroundings) (place : Pos) (element : Option VType) (named : Pos) (ca : List Refusal) (a : Typing) → (ca ≡ [] → IsGood a) → unknown_type element named ++ value_refusals ca a ++ own_refusals s (new_array_typing place element a) ≡ [] → IsGood (new_array_typing place element a)
good_new_array s place element named ca a ga none =
    let last = own_refusals s (new_array_typing place element a) in
    let k = known_type element named (nil_first (unknown_type element named) (value_refusals ca a) last none) in
    one_good s ca a (new_array_by place element (operand a)) ga (λ t has. record { takes = laws.new_array_takes place element (operand a); decided = laws.new_array_decided place element (operand a) k.vtype t k.is has }) (nil_rest (unknown_type element named) (value_refusals ca a) last none)

good_instance_of : (s : Surroundings) (place : Pos) (tested : Option VType) (named : Pos) (ca : List Refusal) (a : Typing) → (ca ≡ [] → IsGood a) → value_refusals ca a ++ unknown_type tested named ++ own_refusals s (instance_of_typing s place tested a) ≡ [] → IsGood (instance_of_typing s place tested a)
good_instance_of s place tested named ca a ga none =
    let last = own_refusals s (instance_of_typing s place tested a) in
    let k = known_type tested named (nil_second (value_refusals ca a) (unknown_type tested named) last none) in
    let v = good_value ca a ga (nil_first (value_refusals ca a) (unknown_type tested named) last none) in
    good_typing s (instance_of_by s.context.program place tested (operand a)) (one a.tree) (record { takes = laws.instance_of_takes s.context.program place tested (operand a); decided = laws.instance_of_decided s.context.program place tested (operand a) k.vtype v.vtype k.is v.has }) (nil_right (value_refusals ca a ++ unknown_type tested named) last none) (well_formed a v.good, tt)

-- ---- unary expressions

literal_under_minus : (s : Surroundings) (place : Pos) (v : Option LiteralValue) → own_cases s.context.program s.context.covered (literal_under_minus_by place v) ≡ [] → IsValue (typing_by (literal_under_minus_by place v) no_expression)
literal_under_minus s place None none = absurd (cons_is_nil _ _ none)
literal_under_minus s place (Some l) none = record { good = good_typing s (literal_as place l) no_expression (record { takes = refl; decided = tt }) none tt; vtype = type_of_literal l; has = refl }

operand_under_minus : (s : Surroundings) (e : syntax.ExprTree) (ca : List Refusal) (a : Typing) → (ca ≡ [] → IsGood a) → operand_cases s (answer_under_minus e) (value_refusals ca a) ≡ [] → IsValue (operand_typing (answer_under_minus e) a)
operand_under_minus s (syntax.Literal text place) ca a ga none = literal_under_minus s place (literal_value text) none
operand_under_minus s (syntax.Identifier name place) ca a ga none = good_value ca a ga none
operand_under_minus s (syntax.This place) ca a ga none = good_value ca a ga none
operand_under_minus s (syntax.Call name arguments place) ca a ga none = good_value ca a ga none
operand_under_minus s (syntax.SuperCall name arguments place) ca a ga none = good_value ca a ga none
operand_under_minus s (syntax.MethodCall target name arguments place) ca a ga none = good_value ca a ga none
operand_under_minus s (syntax.FieldAccess target name place) ca a ga none = good_value ca a ga none
operand_under_minus s (syntax.Index array index place) ca a ga none = good_value ca a ga none
operand_under_minus s (syntax.NewObject c arguments place) ca a ga none = good_value ca a ga none
operand_under_minus s (syntax.NewArray element size place) ca a ga none = good_value ca a ga none
operand_under_minus s (syntax.Prefix o d place) ca a ga none = good_value ca a ga none
operand_under_minus s (syntax.PrefixStep o x place) ca a ga none = good_value ca a ga none
operand_under_minus s (syntax.PostfixStep o x place) ca a ga none = good_value ca a ga none
operand_under_minus s (syntax.Cast to d place) ca a ga none = good_value ca a ga none
operand_under_minus s (syntax.Infix o d b place) ca a ga none = good_value ca a ga none
operand_under_minus s (syntax.InstanceOf d tested place) ca a ga none = good_value ca a ga none
operand_under_minus s (syntax.Conditional c d b place) ca a ga none = good_value ca a ga none
operand_under_minus s (syntax.Assignment x f place) ca a ga none = good_value ca a ga none
operand_under_minus s (syntax.CompoundAssignment o x f place) ca a ga none = good_value ca a ga none

operand_value : (s : Surroundings) (o : PrefixOperator) (e : syntax.ExprTree) (ca : List Refusal) (a : Typing) → (ca ≡ [] → IsGood a) → operand_cases s (answer_under o e) (value_refusals ca a) ≡ [] → IsValue (operand_typing (answer_under o e) a)
operand_value s prefixes.Plus e ca a ga none = good_value ca a ga none
operand_value s prefixes.Minus e ca a ga none = operand_under_minus s e ca a ga none
operand_value s prefixes.Not e ca a ga none = good_value ca a ga none
operand_value s prefixes.Complement e ca a ga none = good_value ca a ga none

good_prefix : (s : Surroundings) (o : PrefixOperator) (place : Pos) (e : syntax.ExprTree) (ca : List Refusal) (a : Typing) → (ca ≡ [] → IsGood a) → operand_cases s (answer_under o e) (value_refusals ca a) ++ own_refusals s (unary_typing (unary_operator_of o) place (operand_typing (answer_under o e) a)) ≡ [] → IsGood (unary_typing (unary_operator_of o) place (operand_typing (answer_under o e) a))
good_prefix s o place e ca a ga none =
    let those = operand_cases s (answer_under o e) (value_refusals ca a) in
    let t = operand_typing (answer_under o e) a in
    let last = own_refusals s (unary_typing (unary_operator_of o) place t) in
    let v = operand_value s o e ca a ga (nil_left those last none) in
    good_typing s (unary_by (unary_operator_of o) place (operand t)) (one t.tree) (record { takes = laws.unary_takes (unary_operator_of o) place (operand t); decided = laws.unary_decided (unary_operator_of o) place (operand t) v.vtype v.has }) (nil_right those last none) (well_formed t v.good, tt)

-- ---- assignments and steps

takes_parts : (t : Typing) → IsGood t → Takes (shape_of t) (count (parts_of t.tree))
takes_parts t g = subst (λ (u : Typing). Takes (shape_of u) (count (parts_of u.tree))) (sym g.is) g.takes

parts_well : (t : ExprTree) → IsWellFormed t → AreWellFormed (parts_of t)
parts_well (Node shape t place parts) h = h.1

count_last : (ts : ExprTrees) (t : ExprTree) → count (with_last ts t) ≡ count ts + 1
count_last no_expression t = refl
count_last (and_expression u ts) t = ap (λ n. 1 + n) (count_last ts t) ∙ omega arith

last_well : (ts : ExprTrees) (t : ExprTree) → AreWellFormed ts → IsWellFormed t → AreWellFormed (with_last ts t)
last_well no_expression t h g = (g, tt)
last_well (and_expression u ts) t h g = (h.0, last_well ts t h.1 g)

good_assignment : (s : Surroundings) (place : Pos) (left : syntax.ExprTree) (cx ce : List Refusal) (x e : Typing) → (cx ≡ [] → IsGood x) → (ce ≡ [] → IsGood e) → value_refusals cx x ++ value_refusals ce e ++ own_refusals s (assignment_typing s place left x e) ≡ [] → IsGood (assignment_typing s place left x e)
good_assignment s place left cx ce x e gx ge none =
    let last = own_refusals s (assignment_typing s place left x e) in
    let vx = good_value cx x gx (nil_first (value_refusals cx x) (value_refusals ce e) last none) in
    let ve = good_value ce e ge (nil_second (value_refusals cx x) (value_refusals ce e) last none) in
    let given = assignment_by s.context.program place (assigned_target s left (shape_of x)) (operand x) (operand e) in
    let parts = parts_of x.tree in
    let whole = assignment_is_whole s place left (shape_of x) (count parts) (operand x) (operand e) vx.vtype ve.vtype (takes_parts x vx.good) vx.has ve.has in
    good_typing s given (with_last parts e.tree) (subst (λ n. IsWhole n given) (sym (count_last parts e.tree)) whole) (nil_right (value_refusals cx x ++ value_refusals ce e) last none) (last_well parts e.tree (parts_well x.tree (well_formed x vx.good)) (well_formed e ve.good))

good_step : (s : Surroundings) (place : Pos) (cx : List Refusal) (x : Typing) (given : Answer) → (cx ≡ [] → IsGood x) → ((t : VType) → type_of (operand x) ≡ Some t → IsWhole 2 given) → value_refusals cx x ++ own_refusals s (typing_by given (two x.tree (implied_one place))) ≡ [] → IsGood (typing_by given (two x.tree (implied_one place)))
good_step s place cx x given gx whole none =
    let last = own_refusals s (typing_by given (two x.tree (implied_one place))) in
    let v = good_value cx x gx (nil_left (value_refusals cx x) last none) in
    good_typing s given (two x.tree (implied_one place)) (whole v.vtype v.has) (nil_right (value_refusals cx x) last none) (well_formed x v.good, ((refl, tt), tt))

-- ---- all expressions

mutual
  pub good : (s : Surroundings) → AreTyped s.context.locals → (wanted : Option VType) (e : syntax.ExprTree) → cases s wanted e ≡ [] → IsGood (typing s wanted e)
  good s typed wanted (syntax.Literal text place) none = good_typing s (literal_by place (literal_value text)) no_expression (record { takes = laws.literal_takes place (literal_value text); decided = laws.literal_decided place (literal_value text) }) none tt
  good s typed wanted (syntax.Identifier name place) none = good_typing s (identifier_by s name place) (with_implied_this s place (identifier_by s name place) no_expression) (identifier_is_whole s name place typed) none (with_this_well s place (identifier_by s name place) no_expression tt)
  good s typed wanted (syntax.This place) none = good_typing s (this_by s.context.has_this s.context.class' place) no_expression (this_is_whole s.context.has_this s.context.class' place) none tt
  good s typed wanted (syntax.Call name arguments place) none = good_call s place name (argument_cases s arguments) (typings s arguments) (goods s typed arguments) none
  good s typed wanted (syntax.SuperCall name arguments place) none = good_super s place name (argument_cases s arguments) (typings s arguments) (goods s typed arguments) none
  good s typed wanted (syntax.MethodCall target name arguments place) none = good_method_call s (is_written_this target) place name (class_meant s target) (cases s None target) (argument_cases s arguments) (typing s None target) (typings s arguments) (good s typed None target) (goods s typed arguments) none
  good s typed wanted (syntax.FieldAccess target name place) none = good_access s place name (class_meant s target) (cases s None target) (typing s None target) (good s typed None target) none
  good s typed wanted (syntax.Index array index place) none = two_good s (cases s None array) (cases s None index) (typing s None array) (typing s None index) (element_by place (operand (typing s None array)) (operand (typing s None index))) (good s typed None array) (good s typed None index) (λ t u ht hu. record { takes = laws.element_takes place (operand (typing s None array)) (operand (typing s None index)); decided = laws.element_decided place (operand (typing s None array)) (operand (typing s None index)) t u ht hu }) none
  good s typed wanted (syntax.NewObject c arguments place) none = good_new s place c (argument_cases s arguments) (typings s arguments) (goods s typed arguments) none
  good s typed wanted (syntax.NewArray element size place) none = good_new_array s place (element_type s element) element.pos (cases s None size) (typing s None size) (good s typed None size) none
  good s typed wanted (syntax.Prefix o a place) none = good_prefix s o place a (cases s None a) (typing s None a) (good s typed None a) none
  good s typed wanted (syntax.PrefixStep o x place) none = good_step s place (cases s None x) (typing s None x) (prefix_by (may_update s x (shape_of (typing s None x))) (step_operator_of o) place (operand (typing s None x))) (good s typed None x) (λ t h. prefix_is_whole (may_update s x (shape_of (typing s None x))) (step_operator_of o) place (operand (typing s None x)) t h) none
  good s typed wanted (syntax.PostfixStep o x place) none = good_step s place (cases s None x) (typing s None x) (postfix_by (may_update s x (shape_of (typing s None x))) (step_operator_of o) place (operand (typing s None x))) (good s typed None x) (λ t h. postfix_is_whole (may_update s x (shape_of (typing s None x))) (step_operator_of o) place (operand (typing s None x)) t h) none
  good s typed wanted (syntax.Cast to a place) none = good_cast s place (cast_type s to) to.pos (cases s None a) (typing s None a) (good s typed None a) none
  good s typed wanted (syntax.Infix o a b place) none = two_good s (cases s None a) (cases s None b) (typing s None a) (typing s None b) (binary_by s.context.program (operator_of o) place (operand (typing s None a)) (operand (typing s None b))) (good s typed None a) (good s typed None b) (λ t u ht hu. record { takes = laws.binary_takes s.context.program (operator_of o) place (operand (typing s None a)) (operand (typing s None b)); decided = laws.binary_decided s.context.program (operator_of o) place (operand (typing s None a)) (operand (typing s None b)) t u ht hu }) none
  good s typed wanted (syntax.InstanceOf a tested place) none = good_instance_of s place (tested_type s tested) tested.pos (cases s None a) (typing s None a) (good s typed None a) none
  good s typed wanted (syntax.Conditional c a b place) none = three_good s (cases s None c) (cases s wanted a) (cases s wanted b) (typing s None c) (typing s wanted a) (typing s wanted b) (conditional_by s.context.program wanted place (operand (typing s None c)) (operand (typing s wanted a)) (operand (typing s wanted b))) (good s typed None c) (good s typed wanted a) (good s typed wanted b) (λ t u v ht hu hv. record { takes = laws.conditional_takes s.context.program wanted place (operand (typing s None c)) (operand (typing s wanted a)) (operand (typing s wanted b)); decided = laws.conditional_decided s.context.program wanted place (operand (typing s None c)) (operand (typing s wanted a)) (operand (typing s wanted b)) t u v ht hu hv }) none
  good s typed wanted (syntax.Assignment x e place) none = good_assignment s place x (cases s None x) (cases s (type_of (operand (typing s None x))) e) (typing s None x) (typing s (type_of (operand (typing s None x))) e) (good s typed None x) (good s typed (type_of (operand (typing s None x))) e) none
  good s typed wanted (syntax.CompoundAssignment o x e place) none = two_good s (cases s None x) (cases s None e) (typing s None x) (typing s None e) (compound_by s.context.program (may_update s x (shape_of (typing s None x))) (operator_of o) place (operand (typing s None x)) (operand (typing s None e))) (good s typed None x) (good s typed None e) (λ t u ht hu. compound_is_whole s.context.program (may_update s x (shape_of (typing s None x))) (operator_of o) place (operand (typing s None x)) (operand (typing s None e)) t u ht hu) none

  pub goods : (s : Surroundings) → AreTyped s.context.locals → (es : syntax.ExprTrees) → argument_cases s es ≡ [] → AreValues (typings s es)
  goods s typed syntax.no_expression none = tt
  goods s typed (syntax.and_expression e es) none = (good_value (cases s None e) (typing s None e) (good s typed None e) (nil_left (value_refusals (cases s None e) (typing s None e)) (argument_cases s es) none), goods s typed es (nil_right (value_refusals (cases s None e) (typing s None e)) (argument_cases s es) none))

-- its typed tree is well-formed
pub well_typed : (s : Surroundings) → AreTyped s.context.locals → (wanted : Option VType) (e : syntax.ExprTree) → cases s wanted e ≡ [] → IsWellFormed (tree s wanted e)
well_typed s typed wanted e none = well_formed (typing s wanted e) (good s typed wanted e none)

-- where a value is needed it has a type
pub has_type : (s : Surroundings) → AreTyped s.context.locals → (wanted : Option VType) (e : syntax.ExprTree) → value_cases s wanted e ≡ [] → IsValue (typing s wanted e)
has_type s typed wanted e none = good_value (cases s wanted e) (typing s wanted e) (good s typed wanted e) none

-- the arguments of a call, each in the context of its parameter
pub arguments_well_formed : (s : Surroundings) → AreTyped s.context.locals → (es : syntax.ExprTrees) (wanted : List VType) → argument_cases s es ≡ [] → AreWellFormed (expressions (in_contexts wanted (trees_in (typings s es))))
arguments_well_formed s typed es wanted none = argument_trees_well wanted (typings s es) (goods s typed es none)
