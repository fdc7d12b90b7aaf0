-- The rules of literals and operators give an expression the type that its parts give it.
use Rattle.std.proofs.Common.{◌≡◌, ◌⊎◌, ◌∙◌, inl, inr, Bool, true, false, cond, not, Option, Some, None, ℤ, List, [], ◌∷◌, refl, sym, subst}
use Rattle.std.specs.Option.{IsSomeAnd}
use Rattle.std.proofs.lemmas.Bool.{and_parts}
use Rattle.rlc_base.specs.declared.place.Pos.{Pos}
use Rattle.program_model.specs.declared.kinds.Primitive.{Primitive}
use Rattle.program_model.specs.declared.kinds.Primitive.TheVariants as primitives
use Rattle.program_model.specs.declared.kinds.ElementType.{ElementType}
use Rattle.program_model.specs.declared.kinds.ElementType.TheVariants as elements
use Rattle.program_model.specs.declared.kinds.VType.{VType}
use Rattle.program_model.specs.declared.kinds.VType.TheVariants as types
use Rattle.program_model.specs.declared.kinds.UnaryOperator.{UnaryOperator}
use Rattle.program_model.specs.declared.kinds.UnaryOperator.TheVariants as unary
use Rattle.program_model.specs.declared.kinds.BinaryOperator.{BinaryOperator}
use Rattle.program_model.specs.declared.kinds.OperandType.{OperandType}
use Rattle.program_model.specs.declared.program.Program.{Program}
use Rattle.program_model.specs.Typing.{IsArray, IsArrayOf, IsAssignable, IsDeclarable, IsLiteral, IsNumeric, IsOperand, IsReference, binary_result, boolean, element_type, int, is_array, long}
use Rattle.java_conversions.specs.declared.casts.Cast.TheVariants as casts
use Rattle.java_conversions.specs.Casts.{cast_of, is_tested, primitive_casts, primitives_cast, reference_casts}
use Rattle.java_conversions.specs.Operators.{operands_of, unary_result}
use Rattle.java_conversions.specs.Types.{is_index, is_null_type}
use Rattle.java_literals.specs.declared.values.LiteralValue.{LiteralValue}
use Rattle.java_literals.specs.declared.values.LiteralValue.TheVariants as values
use Rattle.java_typed_trees.specs.declared.facts.Answer.{Answer}
use Rattle.java_typed_trees.specs.declared.facts.Answer.TheVariants as answers
use Rattle.java_typed_trees.specs.declared.facts.Facts.{Facts}
use Rattle.java_typed_trees.specs.declared.shapes.Shape.{Shape}
use Rattle.java_typed_trees.specs.declared.shapes.Shape.TheVariants as shapes
use Rattle.java_typed_trees.specs.Answers.{mismatch, of_one, of_three, of_two, type_of, value_at}
use Rattle.java_operator_expressions.specs.Arrays.{array_of, element_by, element_of, length_at, new_array_by, new_array_of}
use Rattle.java_operator_expressions.specs.Casts.{cast_as, cast_by, instance_of, instance_of_by}
use Rattle.java_operator_expressions.specs.Literals.{is_past_limit, literal_as, literal_by, literal_in, literal_under_minus_by, type_of_literal}
use Rattle.java_operator_expressions.specs.JavaOperatorRulesOperators.{binary_by, binary_of, constant_as, unary_by, unary_of}
use Rattle.java_typing_laws.specs.TypingContexts.{TypingContext}
use Rattle.java_typing_laws.specs.TypedTrees.{IsOfType, IsTypedNode, IsUnary, Part, first_type, second_type}
use Rattle.java_typing_laws.proofs.Conversions.{is_index_law, no_test, none_is_some, same_in}
use Rattle.java_typing_laws.proofs.Operators.{AreOperands, IsResult, of_boolean, of_int, of_long, of_text, operands_law, result_law, unary_law}

-- ---- answers

-- the type is not that of the class String, which has a type of its own
abbrev pub IsPlain : Program → VType → Type 0
IsPlain p (types.Obj c) = c ≡ p.core.string → ⊥
IsPlain p t = Unit {0}

abbrev pub IfPlain : Program → Option VType → Type 0
IfPlain p None = Unit {0}
IfPlain p (Some t) = IsPlain p t

pub declarable_is_plain : (p : Program) (t : VType) → IsDeclarable p t → IsPlain p t
declarable_is_plain p (types.Primitive k) h = tt
declarable_is_plain p types.Str h = tt
declarable_is_plain p (types.Arr k) h = tt
declarable_is_plain p (types.Obj c) h = h.1
declarable_is_plain p types.NullType h = tt

-- where the answer is a node, it has its type over parts of these types
abbrev pub IsTypedAnswer : TypingContext → Answer → List Part → Type 0
IsTypedAnswer c (answers.Is shape facts) parts = IsTypedNode c shape (type_of facts) parts × IfPlain c.program (type_of facts)
IsTypedAnswer c (answers.Wrong code place) parts = Unit {0}
IsTypedAnswer c (answers.Silent place) parts = Unit {0}

pub chosen : (c : TypingContext) (b : Bool) (x y : Answer) (parts : List Part) → (b ≡ true → IsTypedAnswer c x parts) → (b ≡ false → IsTypedAnswer c y parts) → IsTypedAnswer c (cond b x y) parts
chosen c true x y parts h g = h refl
chosen c false x y parts h g = g refl

pub one_rule : (c : TypingContext) (place : Pos) (a : Option VType) (rule : VType → Answer) (parts : List Part) → ((t : VType) → a ≡ Some t → IsTypedAnswer c (rule t) parts) → IsTypedAnswer c (of_one place a rule) parts
one_rule c place None rule parts h = tt
one_rule c place (Some t) rule parts h = h t refl

pub two_rule : (c : TypingContext) (place : Pos) (a b : Option VType) (rule : VType → VType → Answer) (parts : List Part) → ((s t : VType) → a ≡ Some s → b ≡ Some t → IsTypedAnswer c (rule s t) parts) → IsTypedAnswer c (of_two place a b rule) parts
two_rule c place None b rule parts h = tt
two_rule c place (Some s) None rule parts h = tt
two_rule c place (Some s) (Some t) rule parts h = h s t refl refl

pub three_rule : (c : TypingContext) (place : Pos) (a b d : Option VType) (rule : VType → VType → VType → Answer) (parts : List Part) → ((r s t : VType) → a ≡ Some r → b ≡ Some s → d ≡ Some t → IsTypedAnswer c (rule r s t) parts) → IsTypedAnswer c (of_three place a b d rule) parts
three_rule c place None b d rule parts h = tt
three_rule c place (Some r) None d rule parts h = tt
three_rule c place (Some r) (Some s) None rule parts h = tt
three_rule c place (Some r) (Some s) (Some t) rule parts h = h r s t refl refl refl

pub constant_rule : (c : TypingContext) (shape : Shape) (place : Pos) (t : Option VType) (n : Option ℤ) (parts : List Part) → ((u : VType) → t ≡ Some u → IsOfType c shape parts u × IsPlain c.program u) → IsTypedAnswer c (constant_as shape place t n) parts
constant_rule c shape place None n parts h = tt
constant_rule c shape place (Some t) n parts h = h t refl

pub has : {X : Type 0} (x : Option X) (t : X) (P : X → Type 0) → x ≡ Some t → P t → IsSomeAnd x P
has x t P e h = subst (λ y. IsSomeAnd y P) (sym e) h

-- ---- literals

literal_typed : (v : LiteralValue) → IsLiteral (literal_in v) (type_of_literal v)
literal_typed (values.Int n) = inl refl
literal_typed (values.Long n) = inr refl
literal_typed values.IntLimit = inl refl
literal_typed values.LongLimit = inr refl
literal_typed (values.Character c) = refl
literal_typed (values.Boolean b) = refl
literal_typed values.Text = refl
literal_typed values.Null = refl

literal_plain : (p : Program) (v : LiteralValue) → IsPlain p (type_of_literal v)
literal_plain p (values.Int n) = tt
literal_plain p (values.Long n) = tt
literal_plain p values.IntLimit = tt
literal_plain p values.LongLimit = tt
literal_plain p (values.Character c) = tt
literal_plain p (values.Boolean b) = tt
literal_plain p values.Text = tt
literal_plain p values.Null = tt

pub literal_rule : (c : TypingContext) (place : Pos) (v : Option LiteralValue) (parts : List Part) → IsTypedAnswer c (literal_by place v) parts
literal_rule c place None parts = tt
literal_rule c place (Some v) parts = chosen c (is_past_limit v) (mismatch place) (literal_as place v) parts (λ yes. tt) (λ no. (literal_typed v, literal_plain c.program v))

pub literal_under_minus_rule : (c : TypingContext) (place : Pos) (v : Option LiteralValue) (parts : List Part) → IsTypedAnswer c (literal_under_minus_by place v) parts
literal_under_minus_rule c place None parts = tt
literal_under_minus_rule c place (Some v) parts = (literal_typed v, literal_plain c.program v)

-- ---- unary and binary operators

int_or_long_is_plain : (p : Program) (t : VType) → (t ≡ int) ⊎ (t ≡ long) → IsPlain p t
int_or_long_is_plain p t h = elim h [ inl e ↦ subst (IsPlain p) (sym e) tt | inr e ↦ subst (IsPlain p) (sym e) tt ]

unary_is_plain : (p : Program) (o : UnaryOperator) (x : Option VType) (t : VType) → IsUnary o x t → IsPlain p t
unary_is_plain p unary.Plus x t h = int_or_long_is_plain p t h.1
unary_is_plain p unary.Minus x t h = int_or_long_is_plain p t h.1
unary_is_plain p unary.Complement x t h = int_or_long_is_plain p t h.1
unary_is_plain p unary.Not x t h = subst (IsPlain p) (sym h.1) tt

pub unary_rule : (c : TypingContext) (o : UnaryOperator) (place : Pos) (a : Facts) (parts : List Part) → first_type parts ≡ type_of a → IsTypedAnswer c (unary_by o place a) parts
unary_rule c o place a parts first =
    one_rule c place (type_of a) (unary_of o place a.constant) parts
    (λ t e. constant_rule c (shapes.Unary o) place (unary_result o t) _ parts
    (λ u g. let typed : IsUnary o (first_type parts) u = subst (λ x. IsUnary o x u) (sym (first ∙ e)) (unary_law o t u g) in (typed, unary_is_plain c.program o (first_type parts) u typed)))

result_is_plain : (p : Program) (u : OperandType) (t : VType) → IsResult u t → IsPlain p t
result_is_plain p u _ (of_boolean _) = tt
result_is_plain p u _ (of_int _) = tt
result_is_plain p u _ (of_long _) = tt
result_is_plain p _ _ of_text = tt

binary_of_rule : (c : TypingContext) (o : BinaryOperator) (place : Pos) (m n : Option ℤ) (u : Option OperandType) (s t : VType) (parts : List Part) → first_type parts ≡ Some s → second_type parts ≡ Some t → ((v : OperandType) → u ≡ Some v → AreOperands v s t) → IsTypedAnswer c (binary_of o place m n u) parts
binary_of_rule c o place m n None s t parts first second suit = tt
binary_of_rule c o place m n (Some v) s t parts first second suit =
    constant_rule c (shapes.Binary o v) place (binary_result o v) _ parts
    (λ r g. let both = suit v refl in ((g, has (first_type parts) s (IsOperand v) first both.0, has (second_type parts) t (IsOperand v) second both.1), result_is_plain c.program v r (result_law o v r g)))

pub binary_rule : (c : TypingContext) (o : BinaryOperator) (place : Pos) (a b : Facts) (parts : List Part) → first_type parts ≡ type_of a → second_type parts ≡ type_of b → IsTypedAnswer c (binary_by c.program o place a b) parts
binary_rule c o place a b parts first second =
    two_rule c place (type_of a) (type_of b) (λ s t. binary_of o place a.constant b.constant (operands_of c.program o s t)) parts
    (λ s t e d. binary_of_rule c o place a.constant b.constant (operands_of c.program o s t) s t parts (first ∙ e) (second ∙ d) (λ v g. operands_law c.program o s t v g))

-- ---- casts

primitive_assignable : (p : Program) (a b : Primitive) → primitives_cast a b ≡ true → IsAssignable p (types.Primitive a) (types.Primitive b)
primitive_assignable p primitives.Boolean primitives.Boolean h = refl
primitive_assignable p primitives.Boolean primitives.Byte h = no_test h
primitive_assignable p primitives.Boolean primitives.Char h = no_test h
primitive_assignable p primitives.Boolean primitives.Int h = no_test h
primitive_assignable p primitives.Boolean primitives.Long h = no_test h
primitive_assignable p primitives.Byte primitives.Boolean h = no_test h
primitive_assignable p primitives.Byte primitives.Byte h = tt
primitive_assignable p primitives.Byte primitives.Char h = tt
primitive_assignable p primitives.Byte primitives.Int h = tt
primitive_assignable p primitives.Byte primitives.Long h = tt
primitive_assignable p primitives.Char primitives.Boolean h = no_test h
primitive_assignable p primitives.Char primitives.Byte h = tt
primitive_assignable p primitives.Char primitives.Char h = tt
primitive_assignable p primitives.Char primitives.Int h = tt
primitive_assignable p primitives.Char primitives.Long h = tt
primitive_assignable p primitives.Int primitives.Boolean h = no_test h
primitive_assignable p primitives.Int primitives.Byte h = tt
primitive_assignable p primitives.Int primitives.Char h = tt
primitive_assignable p primitives.Int primitives.Int h = tt
primitive_assignable p primitives.Int primitives.Long h = tt
primitive_assignable p primitives.Long primitives.Boolean h = no_test h
primitive_assignable p primitives.Long primitives.Byte h = tt
primitive_assignable p primitives.Long primitives.Char h = tt
primitive_assignable p primitives.Long primitives.Int h = tt
primitive_assignable p primitives.Long primitives.Long h = tt

primitive_casts_law : (p : Program) (from : VType) (k : Primitive) → primitive_casts from k ≡ true → IsAssignable p from (types.Primitive k)
primitive_casts_law p (types.Primitive a) k h = primitive_assignable p a k h
primitive_casts_law p types.Str k h = no_test h
primitive_casts_law p (types.Arr a) k h = no_test h
primitive_casts_law p (types.Obj c) k h = no_test h
primitive_casts_law p types.NullType k h = no_test h

-- a cast of a reference is one to a reference type
reference_casts_from : (p : Program) (from to : VType) → reference_casts p from to ≡ true → IsReference from
reference_casts_from p (types.Primitive a) to h = no_test h
reference_casts_from p types.Str to h = tt
reference_casts_from p (types.Arr a) to h = tt
reference_casts_from p (types.Obj c) to h = tt
reference_casts_from p types.NullType to h = tt

no_primitive : (p : Program) (from : VType) (k : Primitive) → reference_casts p from (types.Primitive k) ≡ true → ⊥
no_primitive p (types.Primitive a) k h = no_test h
no_primitive p types.Str k h = no_test h
no_primitive p (types.Arr a) k h = no_test h
no_primitive p (types.Obj c) k h = no_test h
no_primitive p types.NullType k h = no_test h

reference_casts_to : (p : Program) (from to : VType) → reference_casts p from to ≡ true → IsReference to
reference_casts_to p from (types.Primitive k) h = absurd (no_primitive p from k h)
reference_casts_to p from types.Str h = tt
reference_casts_to p from (types.Arr a) h = tt
reference_casts_to p from (types.Obj c) h = tt
reference_casts_to p from types.NullType h = tt

-- the answer for each kind of cast
primitive_cast : (c : TypingContext) (place : Pos) (from : VType) (k : Primitive) (n : Option ℤ) (parts : List Part) → first_type parts ≡ Some from → (b : Bool) → primitive_casts from k ≡ b → IsTypedAnswer c (cast_as place (types.Primitive k) n (cond b casts.Primitive casts.Illegal)) parts
primitive_cast c place from k n parts first true e = ((tt, has (first_type parts) from (λ u. IsAssignable c.program u (types.Primitive k)) first (primitive_casts_law c.program from k e)), tt)
primitive_cast c place from k n parts first false e = tt

reference_cast : (c : TypingContext) (place : Pos) (from to : VType) (n : Option ℤ) (parts : List Part) → first_type parts ≡ Some from → IsReference to → IsDeclarable c.program to → (b : Bool) → reference_casts c.program from to ≡ b → IsTypedAnswer c (cast_as place to n (cond b casts.Reference casts.Illegal)) parts
reference_cast c place from to n parts first r d true e = ((r, d, has (first_type parts) from IsReference first (reference_casts_from c.program from to e)), declarable_is_plain c.program to d)
reference_cast c place from to n parts first r d false e = tt

cast_of_rule : (c : TypingContext) (place : Pos) (from to : VType) (n : Option ℤ) (parts : List Part) → first_type parts ≡ Some from → IsDeclarable c.program to → IsTypedAnswer c (cast_as place to n (cast_of c.program from to)) parts
cast_of_rule c place from (types.Primitive k) n parts first d = primitive_cast c place from k n parts first (primitive_casts from k) refl
cast_of_rule c place from types.Str n parts first d = reference_cast c place from types.Str n parts first tt d (reference_casts c.program from types.Str) refl
cast_of_rule c place from (types.Arr k) n parts first d = reference_cast c place from (types.Arr k) n parts first tt d (reference_casts c.program from (types.Arr k)) refl
cast_of_rule c place from (types.Obj q) n parts first d = reference_cast c place from (types.Obj q) n parts first tt d (reference_casts c.program from (types.Obj q)) refl
cast_of_rule c place from types.NullType n parts first d = absurd d

pub cast_rule : (c : TypingContext) (place : Pos) (written : Option VType) (a : Facts) (parts : List Part) → first_type parts ≡ type_of a → ((t : VType) → written ≡ Some t → IsDeclarable c.program t) → IsTypedAnswer c (cast_by c.program place written a) parts
cast_rule c place written a parts first declarable = two_rule c place written (type_of a) (λ to from. cast_as place to a.constant (cast_of c.program from to)) parts (λ to from e d. cast_of_rule c place from to a.constant parts (first ∙ d) (declarable to e))

pub instance_of_rule : (c : TypingContext) (place : Pos) (written : Option VType) (a : Facts) (parts : List Part) → first_type parts ≡ type_of a → ((t : VType) → written ≡ Some t → IsDeclarable c.program t) → IsTypedAnswer c (instance_of_by c.program place written a) parts
instance_of_rule c place written a parts first declarable =
    two_rule c place written (type_of a) (λ tested t. instance_of place tested (is_tested c.program t tested)) parts
    (λ tested t e d. chosen c (is_tested c.program t tested) (answers.Is (shapes.InstanceOf tested) (value_at place boolean)) (mismatch place) parts
    (λ yes.
    let casts_to = (and_parts (not (is_null_type tested)) (reference_casts c.program t tested) yes).1 in
    ((refl, has (first_type parts) t IsReference (first ∙ d) (reference_casts_from c.program t tested casts_to), reference_casts_to c.program t tested casts_to, declarable tested e), tt))
    (λ no. tt))

-- ---- arrays

array_of_is_array : (t u : VType) → array_of t ≡ Some u → IsArray u × ((p : Program) → IsPlain p u)
array_of_is_array (types.Primitive k) u h = subst (λ x. IsArray x × ((p : Program) → IsPlain p x)) (same_in _ u h) (refl, λ p. tt)
array_of_is_array types.Str u h = subst (λ x. IsArray x × ((p : Program) → IsPlain p x)) (same_in _ u h) (refl, λ p. tt)
array_of_is_array (types.Arr k) u h = absurd (none_is_some u h)
array_of_is_array (types.Obj c) u h = absurd (none_is_some u h)
array_of_is_array types.NullType u h = absurd (none_is_some u h)

new_array_of_rule : (c : TypingContext) (place : Pos) (size : VType) (t : Option VType) (parts : List Part) → first_type parts ≡ Some size → ((u : VType) → t ≡ Some u → IsArray u × ((p : Program) → IsPlain p u)) → IsTypedAnswer c (new_array_of place size t) parts
new_array_of_rule c place size None parts first h = tt
new_array_of_rule c place size (Some u) parts first h =
    chosen c (is_index size) (answers.Is shapes.NewArray (value_at place u)) (mismatch place) parts
    (λ yes. (((h u refl).0, has (first_type parts) size IsNumeric first (is_index_law size yes)), (h u refl).1 c.program))
    (λ no. tt)

pub new_array_rule : (c : TypingContext) (place : Pos) (element : Option VType) (a : Facts) (parts : List Part) → first_type parts ≡ type_of a → IsTypedAnswer c (new_array_by place element a) parts
new_array_rule c place element a parts first = two_rule c place element (type_of a) (λ t size. new_array_of place size (array_of t)) parts (λ t size e d. new_array_of_rule c place size (array_of t) parts (first ∙ d) (λ u g. array_of_is_array t u g))

element_is_plain : (p : Program) (k : ElementType) → IsPlain p (element_type k)
element_is_plain p (elements.Primitive k) = tt
element_is_plain p elements.Str = tt

element_of_rule : (c : TypingContext) (place : Pos) (a i : VType) (x y : Part) → x.vtype ≡ Some a → y.vtype ≡ Some i → IsTypedAnswer c (element_of place a i) (x ∷ y ∷ [])
element_of_rule c place (types.Arr k) i x y first second =
    chosen c (is_index i) (answers.Is shapes.Element (value_at place (element_type k))) (mismatch place) (x ∷ y ∷ [])
    (λ yes. ((has x.vtype (types.Arr k) (IsArrayOf (element_type k)) first refl, has y.vtype i IsNumeric second (is_index_law i yes)), element_is_plain c.program k))
    (λ no. tt)
element_of_rule c place (types.Primitive k) i x y first second = tt
element_of_rule c place types.Str i x y first second = tt
element_of_rule c place (types.Obj d) i x y first second = tt
element_of_rule c place types.NullType i x y first second = tt

pub element_rule : (c : TypingContext) (place : Pos) (a i : Facts) (x y : Part) → x.vtype ≡ type_of a → y.vtype ≡ type_of i → IsTypedAnswer c (element_by place a i) (x ∷ y ∷ [])
element_rule c place a i x y first second = two_rule c place (type_of a) (type_of i) (element_of place) (x ∷ y ∷ []) (λ s t e d. element_of_rule c place s t x y (first ∙ e) (second ∙ d))

pub length_rule : (c : TypingContext) (place : Pos) (t : VType) (parts : List Part) → first_type parts ≡ Some t → is_array t ≡ true → IsTypedAnswer c (length_at place) parts
length_rule c place t parts first array = ((has (first_type parts) t IsArray first array, refl), tt)
