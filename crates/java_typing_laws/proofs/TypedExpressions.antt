-- The typed tree of each expression is typed, by induction on the expression.
use Rattle.java_typing_laws.proofs.Methods.{taken_law}
use Rattle.java_typing_laws.specs.LaidParts.{ArePassedTo}
use Rattle.java_call_rules.specs.Arguments.{argument_types, in_contexts, takes_values}
use Rattle.program_model.specs.Lookups.{method_at}
use Rattle.program_model.specs.declared.program.Method.{Method}
use Rattle.program_model.specs.declared.kinds.MethodId.{MethodId}
use Rattle.std.proofs.Common.{◌≡◌, inl, ℕ, Bool, true, false, cond, Option, Some, None, List, [], refl, sym, subst, ap}
use Rattle.rlc_base.specs.declared.place.Pos.{Pos}
use Rattle.program_model.specs.declared.kinds.ClassId.{ClassId}
use Rattle.program_model.specs.declared.kinds.VType.{VType}
use Rattle.program_model.specs.declared.program.Program.{Program}
use Rattle.program_model.specs.declared.tree.Var.{Var}
use Rattle.program_model.specs.Typing.{IsDeclarable, IsStepOperator}
use Rattle.java_syntax.specs.declared.names.Typ.{Typ}
use Rattle.java_syntax.specs.declared.operators.PrefixOperator.{PrefixOperator}
use Rattle.java_syntax.specs.declared.operators.PrefixOperator.TheVariants as prefixes
use Rattle.java_syntax.specs.declared.operators.StepOperator.{StepOperator}
use Rattle.java_syntax.specs.declared.operators.StepOperator.TheVariants as steps
use Rattle.java_syntax.specs.ExpressionTrees as syntax
use Rattle.java_literals.specs.Values.{literal_value}
use Rattle.class_names.specs.WrittenTypes.{written_type}
use Rattle.java_typed_trees.specs.Answers.{type_of}
use Rattle.java_typed_trees.specs.ExpressionTrees.{and_expression, no_expression, expressions}
use Rattle.java_operator_expressions.specs.Arrays.{element_by, new_array_by}
use Rattle.java_operator_expressions.specs.Casts.{cast_by, instance_of_by}
use Rattle.java_operator_expressions.specs.Conditionals.{conditional_by}
use Rattle.java_operator_expressions.specs.Literals.{literal_by, literal_under_minus_by}
use Rattle.java_operator_expressions.specs.JavaOperatorRulesOperators.{binary_by, unary_by}
use Rattle.java_variable_rules.specs.JavaMemberRulesAssignments.{assignment_by}
use Rattle.java_variable_rules.specs.JavaMemberRulesNames.{this_by}
use Rattle.java_variable_rules.specs.Assignments.{assigned_target, compound_by, implied_one, is_through_this, may_assign, may_update, postfix_by, prefix_by, is_written_this}
use Rattle.java_call_rules.specs.CallParts.{argument_trees, with_implied_this, parameters_in, trees_for}
use Rattle.java_call_rules.specs.Calls.{call_by, class_call, new_by, object_call, super_by}
use Rattle.java_variable_rules.specs.Fields.{class_access, object_access}
use Rattle.java_call_rules.specs.WrittenTypes.{cast_type, element_type, is_qualified, tested_type}
use Rattle.java_variable_rules.specs.Names.{class_meant, identifier_by}
use Rattle.java_operator_expressions.specs.Operators.{operator_of, step_operator_of, unary_operator_of}
use Rattle.java_call_rules.specs.Surroundings.{Surroundings}
use Rattle.java_call_rules.specs.TypedParts.{Typing, one, operand, parts_of, shape_of, three, two, typing_by, with_last, have_types, trees_in}
use Rattle.java_statement_parts.specs.Targets.{call_on, field_on, target_typing}
use Rattle.java_statement_parts.specs.Typings.{answer_under, answer_under_minus, operand_typing, tree, typing, typings, value_facts}
use Rattle.java_typing_laws.specs.TypingContexts.{IfDeclarable, IsInBody, TypingContext, context_with}
use Rattle.java_typing_laws.specs.TypedTrees.{IsTypedTree, is_this_shape, part_of, parts_in}
use Rattle.java_typing_laws.proofs.AssignmentRules.{assignment_rule, compound_rule, last_typed, parts_typed, postfix_rule, prefix_rule, updated_law}
use Rattle.java_typing_laws.proofs.CallRules.{call_rule, class_call_rule, new_rule, object_rule, super_rule}
use Rattle.java_typing_laws.proofs.ConditionalRules.{conditional_rule}
use Rattle.java_typing_laws.proofs.Conversions.{none_is_some}
use Rattle.java_typing_laws.proofs.NameRules.{class_access_rule, identifier_rule, object_access_rule, this_rule}
use Rattle.java_typing_laws.proofs.OperatorRules.{IfPlain, binary_rule, cast_rule, declarable_is_plain, element_rule, instance_of_rule, literal_rule, literal_under_minus_rule, new_array_rule, unary_rule}
use Rattle.java_typing_laws.proofs.Targets.{this_law, through_law}
use Rattle.java_typing_laws.proofs.Typings.{AreTyped, IsTyped, part_type, plain_operand, typed_by, arguments_passed}

step_operator_law : (o : StepOperator) → IsStepOperator (step_operator_of o)
step_operator_law steps.Increment = tt
step_operator_law steps.Decrement = tt

under_minus : (c : TypingContext) (e : syntax.ExprTree) (t : Typing) → IsTyped c t → IsTyped c (operand_typing (answer_under_minus e) t)
under_minus c (syntax.Literal text place) t h = typed_by c (literal_under_minus_by place (literal_value text)) no_expression (literal_under_minus_rule c place (literal_value text) []) tt
under_minus c (syntax.Identifier name place) t h = h
under_minus c (syntax.This place) t h = h
under_minus c (syntax.Call name arguments place) t h = h
under_minus c (syntax.SuperCall name arguments place) t h = h
under_minus c (syntax.MethodCall target name arguments place) t h = h
under_minus c (syntax.FieldAccess target name place) t h = h
under_minus c (syntax.Index array index place) t h = h
under_minus c (syntax.NewObject d arguments place) t h = h
under_minus c (syntax.NewArray element size place) t h = h
under_minus c (syntax.Prefix o a place) t h = h
under_minus c (syntax.PrefixStep o x place) t h = h
under_minus c (syntax.PostfixStep o x place) t h = h
under_minus c (syntax.Cast to a place) t h = h
under_minus c (syntax.Infix o a b place) t h = h
under_minus c (syntax.InstanceOf a tested place) t h = h
under_minus c (syntax.Conditional q a b place) t h = h
under_minus c (syntax.Assignment x v place) t h = h
under_minus c (syntax.CompoundAssignment o x v place) t h = h

operand_typed : (c : TypingContext) (o : PrefixOperator) (e : syntax.ExprTree) (t : Typing) → IsTyped c t → IsTyped c (operand_typing (answer_under o e) t)
operand_typed c prefixes.Plus e t h = h
operand_typed c prefixes.Minus e t h = under_minus c e t h
operand_typed c prefixes.Not e t h = h
operand_typed c prefixes.Complement e t h = h

module _ (s : Surroundings) (variables : List Var) (owner : Option ClassId) (is : IsInBody s variables owner) where
  abbrev c : TypingContext
  c = context_with s variables owner

  abbrev p : Program
  p = s.context.program

  tested_declarable : (b : Bool) (written : Typ) (t : VType) → cond b None (written_type s.classes s.unit written) ≡ Some t → IsDeclarable p t
  tested_declarable true written t h = absurd (none_is_some t h)
  tested_declarable false written t h = is.written written t h

  method_call_typed : (is_this : Bool) (place : Pos) (name : List ℕ) (d : Option ClassId) (t : Typing) (arguments : List Typing) → IsTyped c t → AreTyped c arguments → ((v : VType) → type_of (operand t) ≡ Some v → is_this_shape (part_of t.tree).shape ≡ is_this) → IsTyped c (call_on s is_this place name (target_typing d t) arguments)
  method_call_typed is_this place name None t arguments h g this =
      let r = object_rule s variables owner is is_this place name (operand t) t.tree arguments g this (part_type c t h) in
      typed_by c (object_call s is_this place name (operand t) arguments) (and_expression t.tree (argument_trees p (object_call s is_this place name (operand t) arguments) arguments)) r.typed (h.typed, r.parts)
  method_call_typed is_this place name (Some d) t arguments h g this =
      let r = class_call_rule s variables owner is place name d arguments g in
      typed_by c (class_call s place name d arguments) (argument_trees p (class_call s place name d arguments) arguments) r.typed r.parts

  field_access_typed : (place : Pos) (name : List ℕ) (d : Option ClassId) (t : Typing) → IsTyped c t → IsTyped c (field_on s place name (target_typing d t))
  field_access_typed place name None t h = typed_by c (object_access s place name (operand t)) (one t.tree) (object_access_rule s variables owner is place name (operand t) (part_of t.tree) (part_type c t h)) (h.typed, tt)
  field_access_typed place name (Some d) t h = typed_by c (class_access s place name d) no_expression (class_access_rule s variables owner is place name d) tt

  assignment_typed : (place : Pos) (left : syntax.ExprTree) (x v : Typing) → IsTyped c x → IsTyped c v → IsTyped c (typing_by (assignment_by p place (assigned_target s left (shape_of x)) (operand x) (operand v)) (with_last (parts_of x.tree) v.tree))
  assignment_typed place left x v h g =
      typed_by c (assignment_by p place (assigned_target s left (shape_of x)) (operand x) (operand v)) (with_last (parts_of x.tree) v.tree)
      (assignment_rule c is.members.hierarchy place (may_assign s (is_through_this left) (shape_of x)) (shape_of x) x.tree v.tree (operand x) (operand v) h.typed h.shaped (part_type c x h) (part_type c v g) (plain_operand c x h))
      (last_typed c (parts_of x.tree) v.tree (parts_typed c x.tree h.typed) g.typed)

  mutual
    pub typed : (wanted : Option VType) (e : syntax.ExprTree) → IfPlain p wanted → IsTyped c (typing s wanted e)
    typed wanted (syntax.Literal text place) w = typed_by c (literal_by place (literal_value text)) no_expression (literal_rule c place (literal_value text) []) tt
    typed wanted (syntax.Identifier name place) w =
        let r = identifier_rule s variables owner is place name in
        typed_by c (identifier_by s name place) (with_implied_this s place (identifier_by s name place) no_expression) r.typed r.parts
    typed wanted (syntax.This place) w = typed_by c (this_by s.context.has_this s.context.class' place) no_expression (this_rule s variables owner is place) tt
    typed wanted (syntax.Call name arguments place) w =
        let ts : List Typing = typings s arguments in
        let r = call_rule s variables owner is place name ts (all_typed arguments) in
        typed_by c (call_by s place name ts) (with_implied_this s place (call_by s place name ts) (argument_trees p (call_by s place name ts) ts)) r.typed r.parts
    typed wanted (syntax.SuperCall name arguments place) w =
        let ts : List Typing = typings s arguments in
        let r = super_rule s variables owner is place name ts (all_typed arguments) in
        typed_by c (super_by s place name ts) (with_implied_this s place (super_by s place name ts) (argument_trees p (super_by s place name ts) ts)) r.typed r.parts
    typed wanted (syntax.MethodCall target name arguments place) w = method_call_typed (is_written_this target) place name (class_meant s target) (typing s None target) (typings s arguments) (typed None target tt) (all_typed arguments) (this_law s target)
    typed wanted (syntax.FieldAccess target name place) w = field_access_typed place name (class_meant s target) (typing s None target) (typed None target tt)
    typed wanted (syntax.Index array index place) w =
        let a : Typing = typing s None array in
        let i : Typing = typing s None index in
        let ha = typed None array tt in
        let hi = typed None index tt in
        typed_by c (element_by place (operand a) (operand i)) (two a.tree i.tree) (element_rule c place (operand a) (operand i) (part_of a.tree) (part_of i.tree) (part_type c a ha) (part_type c i hi)) (ha.typed, (hi.typed, tt))
    typed wanted (syntax.NewObject d arguments place) w =
        let ts : List Typing = typings s arguments in
        let r = new_rule s variables owner is place d ts (all_typed arguments) in
        typed_by c (new_by s place d ts) (argument_trees p (new_by s place d ts) ts) r.typed r.parts
    typed wanted (syntax.NewArray element size place) w =
        let a : Typing = typing s None size in
        let h = typed None size tt in
        typed_by c (new_array_by place (element_type s element) (operand a)) (one a.tree) (new_array_rule c place (element_type s element) (operand a) (parts_in (one a.tree)) (part_type c a h)) (h.typed, tt)
    typed wanted (syntax.Prefix o a place) w =
        let t : Typing = operand_typing (answer_under o a) (typing s None a) in
        let h = operand_typed c o a (typing s None a) (typed None a tt) in
        typed_by c (unary_by (unary_operator_of o) place (operand t)) (one t.tree) (unary_rule c (unary_operator_of o) place (operand t) (parts_in (one t.tree)) (part_type c t h)) (h.typed, tt)
    typed wanted (syntax.PrefixStep o x place) w =
        let t : Typing = typing s None x in
        let h = typed None x tt in
        let updated = updated_law c (is_through_this x) (may_assign s (is_through_this x) (shape_of t)) (shape_of t) t.tree (operand t) h.typed h.shaped (part_type c t h) (plain_operand c t h) (through_law s x) in
        typed_by c (prefix_by (may_update s x (shape_of t)) (step_operator_of o) place (operand t)) (two t.tree (implied_one place)) (prefix_rule c (may_update s x (shape_of t)) (step_operator_of o) place t.tree (implied_one place) (operand t) (step_operator_law o) updated refl) (h.typed, ((inl refl, tt), tt))
    typed wanted (syntax.PostfixStep o x place) w =
        let t : Typing = typing s None x in
        let h = typed None x tt in
        let updated = updated_law c (is_through_this x) (may_assign s (is_through_this x) (shape_of t)) (shape_of t) t.tree (operand t) h.typed h.shaped (part_type c t h) (plain_operand c t h) (through_law s x) in
        typed_by c (postfix_by (may_update s x (shape_of t)) (step_operator_of o) place (operand t)) (two t.tree (implied_one place)) (postfix_rule c (may_update s x (shape_of t)) (step_operator_of o) place t.tree (implied_one place) (operand t) (step_operator_law o) updated refl) (h.typed, ((inl refl, tt), tt))
    typed wanted (syntax.Cast to a place) w =
        let t : Typing = typing s None a in
        let h = typed None a tt in
        typed_by c (cast_by p place (cast_type s to) (operand t)) (one t.tree) (cast_rule c place (cast_type s to) (operand t) (parts_in (one t.tree)) (part_type c t h) (is.written to)) (h.typed, tt)
    typed wanted (syntax.Infix o a b place) w =
        let t : Typing = typing s None a in
        let u : Typing = typing s None b in
        let h = typed None a tt in
        let g = typed None b tt in
        typed_by c (binary_by p (operator_of o) place (operand t) (operand u)) (two t.tree u.tree) (binary_rule c (operator_of o) place (operand t) (operand u) (parts_in (two t.tree u.tree)) (part_type c t h) (part_type c u g)) (h.typed, (g.typed, tt))
    typed wanted (syntax.InstanceOf a tested place) w =
        let t : Typing = typing s None a in
        let h = typed None a tt in
        typed_by c (instance_of_by p place (tested_type s tested) (operand t)) (one t.tree) (instance_of_rule c place (tested_type s tested) (operand t) (parts_in (one t.tree)) (part_type c t h) (tested_declarable (is_qualified tested.name) tested)) (h.typed, tt)
    typed wanted (syntax.Conditional q a b place) w =
        let r : Typing = typing s None q in
        let t : Typing = typing s wanted a in
        let u : Typing = typing s wanted b in
        let k = typed None q tt in
        let h = typed wanted a w in
        let g = typed wanted b w in
        typed_by c (conditional_by p wanted place (operand r) (operand t) (operand u)) (three r.tree t.tree u.tree) (conditional_rule c is.members wanted place (operand r) (operand t) (operand u) (part_of r.tree) (part_of t.tree) (part_of u.tree) w (plain_operand c t h) (plain_operand c u g) (part_type c r k) (part_type c t h) (part_type c u g)) (k.typed, (h.typed, (g.typed, tt)))
    typed wanted (syntax.Assignment x v place) w =
        let h = typed None x tt in
        assignment_typed place x (typing s None x) (typing s (type_of (operand (typing s None x))) v) h (typed (type_of (operand (typing s None x))) v (plain_operand c (typing s None x) h))
    typed wanted (syntax.CompoundAssignment o x v place) w =
        let t : Typing = typing s None x in
        let u : Typing = typing s None v in
        let h = typed None x tt in
        let g = typed None v tt in
        let updated = updated_law c (is_through_this x) (may_assign s (is_through_this x) (shape_of t)) (shape_of t) t.tree (operand t) h.typed h.shaped (part_type c t h) (plain_operand c t h) (through_law s x) in
        typed_by c (compound_by p (may_update s x (shape_of t)) (operator_of o) place (operand t) (operand u)) (two t.tree u.tree) (compound_rule c (may_update s x (shape_of t)) (operator_of o) place t.tree u.tree (operand t) (operand u) updated (part_type c u g)) (h.typed, (g.typed, tt))

    pub all_typed : (es : syntax.ExprTrees) → AreTyped c (typings s es)
    all_typed syntax.no_expression = tt
    all_typed (syntax.and_expression e es) = (typed None e tt, all_typed es)

if_plain : (p : Program) (t : Option VType) → IfDeclarable p t → IfPlain p t
if_plain p None h = tt
if_plain p (Some t) h = declarable_is_plain p t h

pub tree_is_typed : (s : Surroundings) (variables : List Var) (owner : Option ClassId) → IsInBody s variables owner → (wanted : Option VType) → IfDeclarable s.context.program wanted → (e : syntax.ExprTree) → IsTypedTree (context_with s variables owner) (tree s wanted e)
tree_is_typed s variables owner is wanted declarable e = (typed s variables owner is wanted e (if_plain s.context.program wanted declarable)).typed

pub gives_its_type : (s : Surroundings) (variables : List Var) (owner : Option ClassId) → IsInBody s variables owner → (wanted : Option VType) → IfDeclarable s.context.program wanted → (e : syntax.ExprTree) → (part_of (tree s wanted e)).vtype ≡ type_of (value_facts s wanted e)
gives_its_type s variables owner is wanted declarable e = part_type (context_with s variables owner) (typing s wanted e) (typed s variables owner is wanted e (if_plain s.context.program wanted declarable))

pub passed_to_method : (s : Surroundings) (variables : List Var) (owner : Option ClassId) → IsInBody s variables owner → (m : MethodId) (x : Method) → method_at s.context.program m ≡ Some x → (es : syntax.ExprTrees) → have_types (typings s es) ≡ true → takes_values s.context.program (argument_types (typings s es)) (Some x) ≡ true → ArePassedTo (context_with s variables owner) x.sig.params.items (trees_for s.context.program (Some m) (typings s es))
passed_to_method s variables owner is m x at es some takes =
    let c : TypingContext = context_with s variables owner in
    let ts : List Typing = typings s es in
    let taken = taken_law s.context.program ts (Some x) x refl takes in
    let args = arguments_passed c is.members.hierarchy x.sig.params.items ts (all_typed s variables owner is es) some taken.long taken.fit in
    subst (λ (ws : List VType). ArePassedTo c x.sig.params.items (expressions (in_contexts ws (trees_in ts)))) (sym (ap parameters_in at)) (record { typed = args.typed; passed = args.passed })
