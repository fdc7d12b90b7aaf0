-- Where nothing is refused in an expression, its typed tree throws no checked exception that is neither caught nor declared.
use Rattle.std.proofs.Common.{◌≡◌, ◌∙◌, ◌++◌, ◌∷◌, [], ℕ, List, Bool, true, false, Option, Some, None, refl, ap}
use Rattle.std.specs.Prelude.{cond}
use Rattle.std.specs.List.{list_any}
use Rattle.rlc_base.specs.declared.place.Pos.{Pos}
use Rattle.rlc_base.specs.declared.code.Code.TheVariants as codes_of
use Rattle.rlc_base.specs.declared.faults.Refusal.{Refusal}
use Rattle.program_model.specs.declared.kinds.ClassId.{ClassId}
use Rattle.program_model.specs.declared.kinds.VType.{VType}
use Rattle.program_model.specs.declared.program.Program.{Program}
use Rattle.java_syntax.specs.ExpressionTrees as syntax
use Rattle.java_typed_trees.specs.declared.facts.Answer.{Answer}
use Rattle.java_typed_trees.specs.declared.facts.Answer.TheVariants as answers
use Rattle.java_typed_trees.specs.declared.shapes.Shape.{Shape}
use Rattle.java_typed_trees.specs.Exceptions.{classes_thrown, is_undeclared, undeclared_cases}
use Rattle.java_typed_trees.specs.Answers.{refused, type_of, void_cases}
use Rattle.java_typed_trees.specs.ExpressionTrees.{ExprTree, ExprTrees, Node, and_expression, expressions, no_expression}
use Rattle.java_typed_trees.specs.Settling.{own_cases, tree_in}
use Rattle.java_variable_rules.specs.JavaMemberRulesNames.{implied_this}
use Rattle.java_call_rules.specs.Arguments.{all_in_context, in_context, in_contexts, operands_in_context, takes_context}
use Rattle.java_variable_rules.specs.Assignments.{implied_one, is_written_this}
use Rattle.java_call_rules.specs.CallParts.{argument_trees, is_implied, method_in, parameters_of, with_implied_this}
use Rattle.java_call_rules.specs.WrittenTypes.{cast_type, element_type, tested_type, type_cases}
use Rattle.java_variable_rules.specs.Names.{class_meant}
use Rattle.java_call_rules.specs.Surroundings.{Surroundings}
use Rattle.java_call_rules.specs.TypedParts.{Typing, facts_of, one, operand, own_refusals, parts_of, trees_in, two, three, value_refusals, with_last}
use Rattle.java_statement_parts.specs.Cases.{argument_cases, cases, class_cases, operand_cases, target_cases}
use Rattle.java_statement_parts.specs.Targets.{call_on, field_on, target_typing}
use Rattle.java_statement_parts.specs.Typings.{answer_under, operand_typing, tree, typing, typings}
use Rattle.acceptance_laws.proofs.ThrownTrees.{value_thrown, values_thrown}
use Rattle.program_reading.proofs.Goodness.{nil_left, nil_right}
use Rattle.accepted_programs.proofs.Lists.{None', join, left, right}

-- a checked exception that is neither caught nor declared here
abbrev pub undeclared_in : Surroundings → ClassId → Bool
undeclared_in s = λ c. is_undeclared s.context.program s.context.covered c

-- ---- refusals

pub some_refused : {X Y : Type 0} (x : X) (xs : List X) → x ∷ xs ≡ [] → Y
some_refused x xs h = absurd (let no : x ∷ xs ≡ [] = h in cc)

pub none_undeclared : (p : Program) (covered thrown : List ClassId) (place : Pos) → undeclared_cases p covered thrown place ≡ [] → None' (λ c. is_undeclared p covered c) thrown
none_undeclared p covered thrown place h = step (list_any (λ c. is_undeclared p covered c) thrown) h
  where
    step : (a : Bool) → cond a (refused codes_of.UndeclaredException place) [] ≡ [] → a ≡ false
    step true h = some_refused (record { code = codes_of.UndeclaredException; pos = place }) [] h
    step false h = refl

-- ---- trees in contexts throw the same

chosen : (p : Program) (shape : Shape) (wanted : VType) (t : Option VType) (place : Pos) (parts : ExprTrees) (b : Bool) → values_thrown p (operands_in_context wanted parts) ≡ values_thrown p parts → value_thrown p (cond b (Node shape (Some wanted) place (operands_in_context wanted parts)) (Node shape t place parts)) ≡ value_thrown p (Node shape t place parts)
chosen p shape wanted t place parts true same = ap (λ xs. classes_thrown p shape ++ xs) same
chosen p shape wanted t place parts false same = refl

mutual
  context_same : (p : Program) (wanted : VType) (t : ExprTree) → value_thrown p (in_context wanted t) ≡ value_thrown p t
  context_same p wanted (Node shape t place parts) = chosen p shape wanted t place parts (takes_context shape t) (operands_same p wanted parts)

  operands_same : (p : Program) (wanted : VType) (ts : ExprTrees) → values_thrown p (operands_in_context wanted ts) ≡ values_thrown p ts
  operands_same p wanted no_expression = refl
  operands_same p wanted (and_expression t ts) = ap (λ xs. value_thrown p t ++ xs) (all_same p wanted ts)

  all_same : (p : Program) (wanted : VType) (ts : ExprTrees) → values_thrown p (all_in_context wanted ts) ≡ values_thrown p ts
  all_same p wanted no_expression = refl
  all_same p wanted (and_expression t ts) = ap (λ xs. xs ++ values_thrown p (all_in_context wanted ts)) (context_same p wanted t) ∙ ap (λ xs. value_thrown p t ++ xs) (all_same p wanted ts)

pub contexts_same : (p : Program) (ws : List VType) (v : ClassId → Bool) (ts : List ExprTree) → None' v (values_thrown p (expressions ts)) → None' v (values_thrown p (expressions (in_contexts ws ts)))
contexts_same p [] v ts h = h
contexts_same p (w ∷ ws) v [] h = refl
contexts_same p (w ∷ ws) v (t ∷ ts) h =
    let rest : List ClassId = values_thrown p (expressions ts) in
    join v (value_thrown p (in_context w t)) (values_thrown p (expressions (in_contexts ws ts))) (ap (list_any v) (context_same p w t) ∙ left v (value_thrown p t) rest h) (contexts_same p ws v ts (right v (value_thrown p t) rest h))

last_thrown : (p : Program) (v : ClassId → Bool) (ts : ExprTrees) (t : ExprTree) → None' v (values_thrown p ts) → None' v (value_thrown p t) → None' v (values_thrown p (with_last ts t))
last_thrown p v no_expression t h h' = join v (value_thrown p t) [] h' refl
last_thrown p v (and_expression x xs) t h h' = join v (value_thrown p x) (values_thrown p (with_last xs t)) (left v (value_thrown p x) (values_thrown p xs) h) (last_thrown p v xs t (right v (value_thrown p x) (values_thrown p xs) h) h')

parts_thrown : (p : Program) (v : ClassId → Bool) (t : ExprTree) → None' v (value_thrown p t) → None' v (values_thrown p (parts_of t))
parts_thrown p v (Node shape t place parts) h = right v (classes_thrown p shape) (values_thrown p parts) h

module _ (s : Surroundings) where
  abbrev p : Program
  p = s.context.program

  abbrev u : ClassId → Bool
  u = undeclared_in s

  abbrev Quiet : ExprTree → Type 0
  Quiet t = None' u (value_thrown p t)

  abbrev AreQuiet : ExprTrees → Type 0
  AreQuiet ts = None' u (values_thrown p ts)

  abbrev Silent : Answer → Type 0
  Silent given = own_cases p s.context.covered given ≡ []

  -- ---- nodes

  pub by_answer : (given : Answer) (parts : ExprTrees) → Silent given → AreQuiet parts → Quiet (tree_in given parts)
  by_answer (answers.Is shape facts) parts none h = join u (classes_thrown p shape) (values_thrown p parts) (none_undeclared p s.context.covered (classes_thrown p shape) facts.pos none) h
  by_answer (answers.Wrong code place) parts none h = some_refused (record { code = code; pos = place }) [] none
  by_answer (answers.Silent place) parts none h = h

  of_one : (t : ExprTree) → Quiet t → AreQuiet (one t)
  of_one t h = join u (value_thrown p t) [] h refl

  of_two : (a b : ExprTree) → Quiet a → Quiet b → AreQuiet (two a b)
  of_two a b h g = join u (value_thrown p a) (values_thrown p (one b)) h (of_one b g)

  of_three : (a b c : ExprTree) → Quiet a → Quiet b → Quiet c → AreQuiet (three a b c)
  of_three a b c h g k = join u (value_thrown p a) (values_thrown p (two b c)) h (of_two b c g k)

  -- the arguments of a call, each in its context
  of_arguments : (given : Answer) (all : List Typing) → AreQuiet (expressions (trees_in all)) → AreQuiet (argument_trees p given all)
  of_arguments given all h = contexts_same p (parameters_of p (method_in given)) u (trees_in all) h

  with_this : (place : Pos) (given : Answer) (ts : ExprTrees) → AreQuiet ts → AreQuiet (with_implied_this s place given ts)
  with_this place given ts h = step (is_implied given)
    where
      step : (a : Bool) → AreQuiet (cond a (and_expression (implied_this s.context.class' place) ts) ts)
      step true = h
      step false = h

  -- ---- calls and field accesses behind a dot, and operands under a sign

  of_call : (o : Option ClassId) (is_this : Bool) (place : Pos) (name : List ℕ) (t : Typing) (all : List Typing) (those of_all : List Refusal) → target_cases o those ++ of_all ++ own_refusals s (call_on s is_this place name (target_typing o t) all) ≡ [] → (those ≡ [] → Quiet t.tree) → (of_all ≡ [] → AreQuiet (expressions (trees_in all))) → Quiet (call_on s is_this place name (target_typing o t) all).tree
  of_call None is_this place name t all those of_all none h g =
      let x : Typing = call_on s is_this place name (target_typing None t) all in
      let front : those ++ of_all ≡ [] = nil_left (those ++ of_all) (own_refusals s x) none in
      by_answer x.answer (and_expression t.tree (argument_trees p x.answer all)) (nil_right (those ++ of_all) (own_refusals s x) none) (join u (value_thrown p t.tree) (values_thrown p (argument_trees p x.answer all)) (h (nil_left those of_all front)) (of_arguments x.answer all (g (nil_right those of_all front))))
  of_call (Some c) is_this place name t all those of_all none h g =
      let x : Typing = call_on s is_this place name (target_typing (Some c) t) all in
      by_answer x.answer (argument_trees p x.answer all) (nil_right of_all (own_refusals s x) none) (of_arguments x.answer all (g (nil_left of_all (own_refusals s x) none)))

  of_access : (o : Option ClassId) (place : Pos) (name : List ℕ) (t : Typing) (those : List Refusal) → target_cases o those ++ own_refusals s (field_on s place name (target_typing o t)) ≡ [] → (those ≡ [] → Quiet t.tree) → Quiet (field_on s place name (target_typing o t)).tree
  of_access None place name t those none h =
      let x : Typing = field_on s place name (target_typing None t) in
      by_answer x.answer (one t.tree) (nil_right those (own_refusals s x) none) (of_one t.tree (h (nil_left those (own_refusals s x) none)))
  of_access (Some c) place name t those none h =
      let x : Typing = field_on s place name (target_typing (Some c) t) in
      by_answer x.answer no_expression none refl

  of_operand : (o : Option Answer) (t : Typing) (those : List Refusal) → operand_cases s o those ≡ [] → (those ≡ [] → Quiet t.tree) → Quiet (operand_typing o t).tree
  of_operand None t those none h = h none
  of_operand (Some given) t those none h = by_answer given no_expression none refl

  -- ---- all expressions

  abbrev answer_of : Option VType → syntax.ExprTree → Answer
  answer_of wanted e = (typing s wanted e).answer

  -- without the refusal of a call that has no result
  plain : (wanted : Option VType) (e : syntax.ExprTree) → value_refusals (cases s wanted e) (typing s wanted e) ≡ [] → cases s wanted e ≡ []
  plain wanted e none = nil_left (cases s wanted e) (void_cases (facts_of (typing s wanted e))) none

  mutual
    pub value_quiet : (wanted : Option VType) (e : syntax.ExprTree) → cases s wanted e ≡ [] → Quiet (tree s wanted e)
    value_quiet wanted (syntax.Literal text place) none = by_answer (answer_of wanted (syntax.Literal text place)) no_expression none refl
    value_quiet wanted (syntax.Identifier name place) none = by_answer (answer_of wanted (syntax.Identifier name place)) (with_implied_this s place (answer_of wanted (syntax.Identifier name place)) no_expression) none (with_this place (answer_of wanted (syntax.Identifier name place)) no_expression refl)
    value_quiet wanted (syntax.This place) none = by_answer (answer_of wanted (syntax.This place)) no_expression none refl
    value_quiet wanted (syntax.Call name arguments place) none =
        let given : Answer = answer_of wanted (syntax.Call name arguments place) in
        let own = own_refusals s (typing s wanted (syntax.Call name arguments place)) in
        let all : ExprTrees = argument_trees p given (typings s arguments) in
        by_answer given (with_implied_this s place given all) (nil_right (argument_cases s arguments) own none) (with_this place given all (of_arguments given (typings s arguments) (arguments_quiet arguments (nil_left (argument_cases s arguments) own none))))
    value_quiet wanted (syntax.SuperCall name arguments place) none =
        let given : Answer = answer_of wanted (syntax.SuperCall name arguments place) in
        let own = own_refusals s (typing s wanted (syntax.SuperCall name arguments place)) in
        let all : ExprTrees = argument_trees p given (typings s arguments) in
        by_answer given (with_implied_this s place given all) (nil_right (argument_cases s arguments) own none) (with_this place given all (of_arguments given (typings s arguments) (arguments_quiet arguments (nil_left (argument_cases s arguments) own none))))
    value_quiet wanted (syntax.MethodCall target name arguments place) none =
        of_call (class_meant s target) (is_written_this target) place name (typing s None target) (typings s arguments) (value_refusals (cases s None target) (typing s None target)) (argument_cases s arguments) none (λ h. value_quiet None target (plain None target h)) (λ h. arguments_quiet arguments h)
    value_quiet wanted (syntax.FieldAccess target name place) none = of_access (class_meant s target) place name (typing s None target) (value_refusals (cases s None target) (typing s None target)) none (λ h. value_quiet None target (plain None target h))
    value_quiet wanted (syntax.Index array index place) none =
        let own = own_refusals s (typing s wanted (syntax.Index array index place)) in
        let a = value_refusals (cases s None array) (typing s None array) in
        let i = value_refusals (cases s None index) (typing s None index) in
        let front : a ++ i ≡ [] = nil_left (a ++ i) own none in
        by_answer (answer_of wanted (syntax.Index array index place)) (two (tree s None array) (tree s None index)) (nil_right (a ++ i) own none) (of_two (tree s None array) (tree s None index) (value_quiet None array (plain None array (nil_left a i front))) (value_quiet None index (plain None index (nil_right a i front))))
    value_quiet wanted (syntax.NewObject c arguments place) none =
        let given : Answer = answer_of wanted (syntax.NewObject c arguments place) in
        let own = own_refusals s (typing s wanted (syntax.NewObject c arguments place)) in
        let front = nil_left (class_cases s c ++ argument_cases s arguments) own none in
        by_answer given (argument_trees p given (typings s arguments)) (nil_right (class_cases s c ++ argument_cases s arguments) own none) (of_arguments given (typings s arguments) (arguments_quiet arguments (nil_right (class_cases s c) (argument_cases s arguments) front)))
    value_quiet wanted (syntax.NewArray element size place) none =
        let own = own_refusals s (typing s wanted (syntax.NewArray element size place)) in
        let t = type_cases (element_type s element) element in
        let n = value_refusals (cases s None size) (typing s None size) in
        by_answer (answer_of wanted (syntax.NewArray element size place)) (one (tree s None size)) (nil_right (t ++ n) own none) (of_one (tree s None size) (value_quiet None size (plain None size (nil_right t n (nil_left (t ++ n) own none)))))
    value_quiet wanted (syntax.Prefix o a place) none =
        let own = own_refusals s (typing s wanted (syntax.Prefix o a place)) in
        let those = value_refusals (cases s None a) (typing s None a) in
        let x : Typing = operand_typing (answer_under o a) (typing s None a) in
        by_answer (answer_of wanted (syntax.Prefix o a place)) (one x.tree) (nil_right (operand_cases s (answer_under o a) those) own none) (of_one x.tree (of_operand (answer_under o a) (typing s None a) those (nil_left (operand_cases s (answer_under o a) those) own none) (λ h. value_quiet None a (plain None a h))))
    value_quiet wanted (syntax.PrefixStep o x place) none =
        let own = own_refusals s (typing s wanted (syntax.PrefixStep o x place)) in
        let those = value_refusals (cases s None x) (typing s None x) in
        by_answer (answer_of wanted (syntax.PrefixStep o x place)) (two (tree s None x) (implied_one place)) (nil_right those own none) (of_two (tree s None x) (implied_one place) (value_quiet None x (plain None x (nil_left those own none))) refl)
    value_quiet wanted (syntax.PostfixStep o x place) none =
        let own = own_refusals s (typing s wanted (syntax.PostfixStep o x place)) in
        let those = value_refusals (cases s None x) (typing s None x) in
        by_answer (answer_of wanted (syntax.PostfixStep o x place)) (two (tree s None x) (implied_one place)) (nil_right those own none) (of_two (tree s None x) (implied_one place) (value_quiet None x (plain None x (nil_left those own none))) refl)
    value_quiet wanted (syntax.Cast to a place) none =
        let own = own_refusals s (typing s wanted (syntax.Cast to a place)) in
        let t = type_cases (cast_type s to) to in
        let those = value_refusals (cases s None a) (typing s None a) in
        by_answer (answer_of wanted (syntax.Cast to a place)) (one (tree s None a)) (nil_right (t ++ those) own none) (of_one (tree s None a) (value_quiet None a (plain None a (nil_right t those (nil_left (t ++ those) own none)))))
    value_quiet wanted (syntax.Infix o a b place) none =
        let own = own_refusals s (typing s wanted (syntax.Infix o a b place)) in
        let x = value_refusals (cases s None a) (typing s None a) in
        let y = value_refusals (cases s None b) (typing s None b) in
        let front : x ++ y ≡ [] = nil_left (x ++ y) own none in
        by_answer (answer_of wanted (syntax.Infix o a b place)) (two (tree s None a) (tree s None b)) (nil_right (x ++ y) own none) (of_two (tree s None a) (tree s None b) (value_quiet None a (plain None a (nil_left x y front))) (value_quiet None b (plain None b (nil_right x y front))))
    value_quiet wanted (syntax.InstanceOf a tested place) none =
        let own = own_refusals s (typing s wanted (syntax.InstanceOf a tested place)) in
        let x = value_refusals (cases s None a) (typing s None a) in
        let t = type_cases (tested_type s tested) tested in
        by_answer (answer_of wanted (syntax.InstanceOf a tested place)) (one (tree s None a)) (nil_right (x ++ t) own none) (of_one (tree s None a) (value_quiet None a (plain None a (nil_left x t (nil_left (x ++ t) own none)))))
    value_quiet wanted (syntax.Conditional c a b place) none =
        let own = own_refusals s (typing s wanted (syntax.Conditional c a b place)) in
        let z = value_refusals (cases s None c) (typing s None c) in
        let x = value_refusals (cases s wanted a) (typing s wanted a) in
        let y = value_refusals (cases s wanted b) (typing s wanted b) in
        let front = nil_left (z ++ x ++ y) own none in
        let two' = nil_left (z ++ x) y front in
        by_answer (answer_of wanted (syntax.Conditional c a b place)) (three (tree s None c) (tree s wanted a) (tree s wanted b)) (nil_right (z ++ x ++ y) own none) (of_three (tree s None c) (tree s wanted a) (tree s wanted b) (value_quiet None c (plain None c (nil_left z x two'))) (value_quiet wanted a (plain wanted a (nil_right z x two'))) (value_quiet wanted b (plain wanted b (nil_right (z ++ x) y front))))
    value_quiet wanted (syntax.Assignment x e place) none =
        let own = own_refusals s (typing s wanted (syntax.Assignment x e place)) in
        let t : Option VType = type_of (operand (typing s None x)) in
        let a = value_refusals (cases s None x) (typing s None x) in
        let b = value_refusals (cases s t e) (typing s t e) in
        let front : a ++ b ≡ [] = nil_left (a ++ b) own none in
        by_answer (answer_of wanted (syntax.Assignment x e place)) (with_last (parts_of (tree s None x)) (tree s t e)) (nil_right (a ++ b) own none) (last_thrown p u (parts_of (tree s None x)) (tree s t e) (parts_thrown p u (tree s None x) (value_quiet None x (plain None x (nil_left a b front)))) (value_quiet t e (plain t e (nil_right a b front))))
    value_quiet wanted (syntax.CompoundAssignment o x e place) none =
        let own = own_refusals s (typing s wanted (syntax.CompoundAssignment o x e place)) in
        let a = value_refusals (cases s None x) (typing s None x) in
        let b = value_refusals (cases s None e) (typing s None e) in
        let front : a ++ b ≡ [] = nil_left (a ++ b) own none in
        by_answer (answer_of wanted (syntax.CompoundAssignment o x e place)) (two (tree s None x) (tree s None e)) (nil_right (a ++ b) own none) (of_two (tree s None x) (tree s None e) (value_quiet None x (plain None x (nil_left a b front))) (value_quiet None e (plain None e (nil_right a b front))))

    pub arguments_quiet : (es : syntax.ExprTrees) → argument_cases s es ≡ [] → AreQuiet (expressions (trees_in (typings s es)))
    arguments_quiet syntax.no_expression none = refl
    arguments_quiet (syntax.and_expression e es) none =
        let first = value_refusals (cases s None e) (typing s None e) in
        join u (value_thrown p (tree s None e)) (values_thrown p (expressions (trees_in (typings s es)))) (value_quiet None e (plain None e (nil_left first (argument_cases s es) none))) (arguments_quiet es (nil_right first (argument_cases s es) none))

  -- an expression where a value is needed
  pub needed_quiet : (wanted : Option VType) (e : syntax.ExprTree) → value_refusals (cases s wanted e) (typing s wanted e) ≡ [] → Quiet (tree s wanted e)
  needed_quiet wanted e none = value_quiet wanted e (plain wanted e none)
