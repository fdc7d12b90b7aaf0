-- What the typing of an expression keeps where nothing in it is refused.
use Rattle.std.proofs.Common.{◌≡◌, ◌+◌, Bool, true, false, cond, Option, Some, None, List, [], ◌∷◌, ◌++◌, ◌&&◌, refl, sym, subst, ap, ◌∙◌}
use Rattle.std.specs.Option.{is_some}
use Rattle.rlc_base.specs.declared.place.Pos.{Pos}
use Rattle.rlc_base.specs.declared.faults.Refusal.{Refusal}
use Rattle.program_model.specs.declared.kinds.VType.{VType}
use Rattle.java_typed_trees.specs.declared.facts.Answer.{Answer}
use Rattle.java_typed_trees.specs.declared.facts.Answer.TheVariants as answers
use Rattle.java_typed_trees.specs.declared.facts.Facts.{Facts}
use Rattle.java_typed_trees.specs.declared.facts.StaticType.{StaticType}
use Rattle.java_typed_trees.specs.declared.facts.StaticType.TheVariants as static_types
use Rattle.java_typed_trees.specs.declared.shapes.Shape.{Shape}
use Rattle.java_typed_trees.specs.AnswerParts.{IsSettled}
use Rattle.java_typed_trees.specs.Answers.{type_in, type_of, value_type, void_cases, void_cases_of}
use Rattle.java_typed_trees.specs.ExpressionTrees.{ExprTree, ExprTrees, Node, and_expression, expressions, no_expression}
use Rattle.java_typed_trees.specs.WellFormed.{AreWellFormed, IsWellFormed, Takes, count}
use Rattle.java_call_rules.specs.Arguments.{all_in_context, in_context, in_contexts, operands_in_context, takes_context}
use Rattle.java_call_rules.specs.CallParts.{is_implied, with_implied_this}
use Rattle.java_call_rules.specs.WrittenTypes.{unknown_name_cases}
use Rattle.java_call_rules.specs.Surroundings.{Surroundings}
use Rattle.java_call_rules.specs.TypedParts.{Typing, facts_of, has_type, have_types, one, operand, own_refusals, three, trees_in, two, typing_by, value_refusals}
use Rattle.java_member_rules.specs.Names.{implied_this}
use Rattle.java_call_rules.proofs.Whole.{IsWhole}

-- ---- lists without elements

pub cons_is_nil : {X : Type 0} (x : X) (xs : List X) → ◌≡◌ {A = List X} (x ∷ xs) [] → ⊥
cons_is_nil x xs h = cc

pub nil_left : {X : Type 0} (xs ys : List X) → xs ++ ys ≡ [] → xs ≡ []
nil_left [] ys h = refl
nil_left (x ∷ xs) ys h = absurd (cons_is_nil x (xs ++ ys) h)

pub nil_right : {X : Type 0} (xs ys : List X) → xs ++ ys ≡ [] → ys ≡ []
nil_right [] ys h = h
nil_right (x ∷ xs) ys h = absurd (cons_is_nil x (xs ++ ys) h)

pub nil_first : {X : Type 0} (xs ys zs : List X) → xs ++ ys ++ zs ≡ [] → xs ≡ []
nil_first xs ys zs h = nil_left xs ys (nil_left (xs ++ ys) zs h)

pub nil_second : {X : Type 0} (xs ys zs : List X) → xs ++ ys ++ zs ≡ [] → ys ≡ []
nil_second xs ys zs h = nil_right xs ys (nil_left (xs ++ ys) zs h)

pub nil_rest : {X : Type 0} (xs ys zs : List X) → xs ++ ys ++ zs ≡ [] → ys ++ zs ≡ []
nil_rest [] ys zs h = h
nil_rest (x ∷ xs) ys zs h = absurd (cons_is_nil x (xs ++ ys ++ zs) h)

-- ---- an expression that is not refused

pub record IsGood (t : Typing) : Type 0 where
  pub shape : Shape
  pub facts : Facts
  pub parts : ExprTrees
  pub is : t ≡ typing_by (answers.Is shape facts) parts
  pub settled : IsSettled facts.static_type
  pub takes : Takes shape (count parts)
  pub well : AreWellFormed parts

pub good_typing : (s : Surroundings) (a : Answer) (parts : ExprTrees) → IsWhole (count parts) a → own_refusals s (typing_by a parts) ≡ [] → AreWellFormed parts → IsGood (typing_by a parts)
good_typing s (answers.Is shape facts) parts w none well = record { shape = shape; facts = facts; parts = parts; is = refl; settled = w.decided; takes = w.takes; well = well }
good_typing s (answers.Wrong code place) parts w none well = absurd (cons_is_nil _ _ none)
good_typing s (answers.Silent place) parts w none well = absurd w.decided

pub well_formed : (t : Typing) → IsGood t → IsWellFormed t.tree
well_formed t g = subst (λ (u : Typing). IsWellFormed u.tree) (sym g.is) (g.takes, g.well)

-- one that gives a value
pub record IsValue (t : Typing) : Type 0 where
  pub good : IsGood t
  pub vtype : VType
  pub has : type_of (operand t) ≡ Some vtype

pub record HasTypeIn (t : StaticType) : Type 0 where
  pub vtype : VType
  pub has : type_in (value_type t) ≡ Some vtype

settled_type : (t : StaticType) (place : Pos) → IsSettled t → void_cases_of t place ≡ [] → HasTypeIn t
settled_type (static_types.Value v) place h none = record { vtype = v; has = refl }
settled_type static_types.Void place h none = absurd (cons_is_nil _ _ none)
settled_type static_types.Erroneous place h none = absurd h

type_of_good : (t : Typing) (shape : Shape) (facts : Facts) (parts : ExprTrees) → t ≡ typing_by (answers.Is shape facts) parts → IsSettled facts.static_type → void_cases (facts_of t) ≡ [] → HasTypeIn (facts_of t).static_type
type_of_good t shape facts parts is settled none = subst (λ (u : Typing). void_cases (facts_of u) ≡ [] → HasTypeIn (facts_of u).static_type) (sym is) (λ h. settled_type facts.static_type facts.pos settled h) none

pub good_value : (those : List Refusal) (t : Typing) → (those ≡ [] → IsGood t) → value_refusals those t ≡ [] → IsValue t
good_value those t good none =
    let g = good (nil_left those (void_cases (facts_of t)) none) in
    let found = type_of_good t g.shape g.facts g.parts g.is g.settled (nil_right those (void_cases (facts_of t)) none) in
    record { good = g; vtype = found.vtype; has = found.has }

-- ---- arguments

abbrev pub AreValues : List Typing → Type 0
AreValues [] = Unit {0}
AreValues (t ∷ ts) = IsValue t × AreValues ts

same_type : (t : StaticType) → type_in (value_type t) ≡ type_in t
same_type (static_types.Value v) = refl
same_type static_types.Void = refl
same_type static_types.Erroneous = refl

value_has_type : (t : Typing) → IsValue t → has_type t ≡ true
value_has_type t v = ap is_some (sym (same_type (facts_of t).static_type) ∙ v.has)

pub values_have_types : (ts : List Typing) → AreValues ts → have_types ts ≡ true
values_have_types [] h = refl
values_have_types (t ∷ ts) h = ap (λ b. b && have_types ts) (value_has_type t h.0) ∙ values_have_types ts h.1

count_all : (w : VType) (ts : ExprTrees) → count (all_in_context w ts) ≡ count ts
count_all w no_expression = refl
count_all w (and_expression t ts) = ap (λ n. 1 + n) (count_all w ts)

count_operands : (w : VType) (ts : ExprTrees) → count (operands_in_context w ts) ≡ count ts
count_operands w no_expression = refl
count_operands w (and_expression t ts) = ap (λ n. 1 + n) (count_all w ts)

either_well : (b : Bool) (x y : ExprTree) → IsWellFormed x → IsWellFormed y → IsWellFormed (cond b x y)
either_well true x y h g = h
either_well false x y h g = g

mutual
  pub context_well : (w : VType) (t : ExprTree) → IsWellFormed t → IsWellFormed (in_context w t)
  context_well w (Node shape t place parts) h = either_well (takes_context shape t) (Node shape (Some w) place (operands_in_context w parts)) (Node shape t place parts) (subst (Takes shape) (sym (count_operands w parts)) h.0, operands_well w parts h.1) h

  operands_well : (w : VType) (ts : ExprTrees) → AreWellFormed ts → AreWellFormed (operands_in_context w ts)
  operands_well w no_expression h = tt
  operands_well w (and_expression t ts) h = (h.0, all_well w ts h.1)

  all_well : (w : VType) (ts : ExprTrees) → AreWellFormed ts → AreWellFormed (all_in_context w ts)
  all_well w no_expression h = tt
  all_well w (and_expression t ts) h = (context_well w t h.0, all_well w ts h.1)

pub argument_trees_well : (ws : List VType) (ts : List Typing) → AreValues ts → AreWellFormed (expressions (in_contexts ws (trees_in ts)))
argument_trees_well [] [] h = tt
argument_trees_well [] (t ∷ ts) h = (well_formed t h.0.good, argument_trees_well [] ts h.1)
argument_trees_well (w ∷ ws) [] h = tt
argument_trees_well (w ∷ ws) (t ∷ ts) h = (context_well w t.tree (well_formed t h.0.good), argument_trees_well ws ts h.1)

either_all_well : (b : Bool) (x y : ExprTrees) → AreWellFormed x → AreWellFormed y → AreWellFormed (cond b x y)
either_all_well true x y h g = h
either_all_well false x y h g = g

pub with_this_well : (s : Surroundings) (place : Pos) (a : Answer) (ts : ExprTrees) → AreWellFormed ts → AreWellFormed (with_implied_this s place a ts)
with_this_well s place a ts h = either_all_well (is_implied a) (and_expression (implied_this s.context.class' place) ts) ts ((refl, tt), h) h

-- ---- rules over one, two or three values

pub one_good : (s : Surroundings) (ca : List Refusal) (a : Typing) (given : Answer) → (ca ≡ [] → IsGood a) → ((t : VType) → type_of (operand a) ≡ Some t → IsWhole 1 given) → value_refusals ca a ++ own_refusals s (typing_by given (one a.tree)) ≡ [] → IsGood (typing_by given (one a.tree))
one_good s ca a given ga whole none =
    let last = own_refusals s (typing_by given (one a.tree)) in
    let va = good_value ca a ga (nil_left (value_refusals ca a) last none) in
    good_typing s given (one a.tree) (whole va.vtype va.has) (nil_right (value_refusals ca a) last none) (well_formed a va.good, tt)

pub two_good : (s : Surroundings) (ca cb : List Refusal) (a b : Typing) (given : Answer) → (ca ≡ [] → IsGood a) → (cb ≡ [] → IsGood b) → ((t u : VType) → type_of (operand a) ≡ Some t → type_of (operand b) ≡ Some u → IsWhole 2 given) → value_refusals ca a ++ value_refusals cb b ++ own_refusals s (typing_by given (two a.tree b.tree)) ≡ [] → IsGood (typing_by given (two a.tree b.tree))
two_good s ca cb a b given ga gb whole none =
    let last = own_refusals s (typing_by given (two a.tree b.tree)) in
    let va = good_value ca a ga (nil_first (value_refusals ca a) (value_refusals cb b) last none) in
    let vb = good_value cb b gb (nil_second (value_refusals ca a) (value_refusals cb b) last none) in
    good_typing s given (two a.tree b.tree) (whole va.vtype vb.vtype va.has vb.has) (nil_right (value_refusals ca a ++ value_refusals cb b) last none) (well_formed a va.good, (well_formed b vb.good, tt))

pub three_good : (s : Surroundings) (ca cb cd : List Refusal) (a b c : Typing) (given : Answer) → (ca ≡ [] → IsGood a) → (cb ≡ [] → IsGood b) → (cd ≡ [] → IsGood c) → ((t u v : VType) → type_of (operand a) ≡ Some t → type_of (operand b) ≡ Some u → type_of (operand c) ≡ Some v → IsWhole 3 given) → value_refusals ca a ++ value_refusals cb b ++ value_refusals cd c ++ own_refusals s (typing_by given (three a.tree b.tree c.tree)) ≡ [] → IsGood (typing_by given (three a.tree b.tree c.tree))
three_good s ca cb cd a b c given ga gb gc whole none =
    let last = own_refusals s (typing_by given (three a.tree b.tree c.tree)) in
    let those = value_refusals ca a ++ value_refusals cb b ++ value_refusals cd c in
    let front = nil_left those last none in
    let va = good_value ca a ga (nil_first (value_refusals ca a) (value_refusals cb b) (value_refusals cd c) front) in
    let vb = good_value cb b gb (nil_second (value_refusals ca a) (value_refusals cb b) (value_refusals cd c) front) in
    let vc = good_value cd c gc (nil_right (value_refusals ca a ++ value_refusals cb b) (value_refusals cd c) front) in
    good_typing s given (three a.tree b.tree c.tree) (whole va.vtype vb.vtype vc.vtype va.has vb.has vc.has) (nil_right those last none) (well_formed a va.good, (well_formed b vb.good, (well_formed c vc.good, tt)))

-- a type that is written and known
pub record IsKnown (t : Option VType) : Type 0 where
  pub vtype : VType
  pub is : t ≡ Some vtype

pub known_type : (t : Option VType) (place : Pos) → unknown_name_cases (is_some t) place ≡ [] → IsKnown t
known_type None place none = absurd (cons_is_nil _ _ none)
known_type (Some t) place none = record { vtype = t; is = refl }
