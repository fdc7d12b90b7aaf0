-- The rule of conditional expressions gives them a type in which both operands fit (JLS 15.25).
use Rattle.std.proofs.Common.{◌≡◌, ◌⊎◌, ◌∙◌, inl, inr, Bool, true, false, cond, not, ◌&&◌, Option, Some, None, ℤ, List, [], ◌∷◌, refl, sym, subst, ap, eq-eqb, true≢false, find, option_map}
use Rattle.std.proofs.lemmas.Bool.{and_parts}
use Rattle.rlc_base.specs.declared.place.Pos.{Pos}
use Rattle.program_model.specs.declared.kinds.ClassId.{ClassId}
use Rattle.program_model.specs.declared.kinds.Primitive.TheVariants as primitives
use Rattle.program_model.specs.declared.kinds.VType.{VType}
use Rattle.program_model.specs.declared.kinds.VType.TheVariants as types
use Rattle.program_model.specs.declared.kinds.OperandType.{OperandType}
use Rattle.program_model.specs.declared.program.Program.{Program}
use Rattle.program_model.specs.Hierarchy.{IsUnder}
use Rattle.program_model.specs.SuperTests.{is_class, is_under}
use Rattle.program_model.specs.Typing.{IsAssignable, IsNumeric, IsReference, boolean, class_of, int, long}
use Rattle.program_model.proofs.HierarchyLaws.{is_under_law}
use Rattle.java_conversions.specs.Conditionals.{are_same_arrays, is_int, is_minimal, is_minimal_class, is_narrowed, is_reference_conditional, is_same_number, is_shared, least_among, least_class, least_of_classes, least_of_two, least_upper_bound, numeric_conditional, or_else, reference_of, standalone_conditional}
use Rattle.java_conversions.specs.Casts.{is_interface}
use Rattle.java_conversions.specs.Conversions.{fits, is_narrow_value}
use Rattle.java_conversions.specs.Operators.{binary_promoted, promoted_result}
use Rattle.java_conversions.specs.Types.{is_boolean, is_null_type, is_reference, type_of_class}
use Rattle.class_members.proofs.Elements.{find-among}
use Rattle.java_typed_trees.specs.declared.facts.Facts.{Facts}
use Rattle.java_typed_trees.specs.declared.shapes.Shape.TheVariants as shapes
use Rattle.java_typed_trees.specs.Answers.{mismatch, type_of}
use Rattle.java_operator_expressions.specs.Folding.{folded_conditional}
use Rattle.java_operator_expressions.specs.Conditionals.{conditional_by, conditional_of, suit_context, type_in_context}
use Rattle.java_operator_expressions.specs.JavaOperatorRulesOperators.{constant_as}
use Rattle.java_typing_laws.specs.TypingContexts.{HasTypedMembers, TypingContext}
use Rattle.java_typing_laws.specs.TypedTrees.{Part}
use Rattle.java_typing_laws.proofs.Conversions.{assignable_to_itself, binary_promoted_law, fits_law, from_branch, is_boolean_law, is_class_law, is_reference_law, is_same_element_law, is_same_primitive_law, narrow_is_numeric, no_test, none_is_some, null_is_assignable, number_is_assignable, number_result_law, same_in}
use Rattle.java_typing_laws.proofs.OperatorRules.{IfPlain, IsPlain, IsTypedAnswer, chosen, constant_rule, has, three_rule}

-- both operands may be stored where the type is declared
pub record AreBoth (p : Program) (a b t : VType) : Type 0 where
  pub first : IsAssignable p a t
  pub second : IsAssignable p b t
  pub plain : IsPlain p t

one_of_both : (p : Program) (t : VType) → IsPlain p t → AreBoth p t t t
one_of_both p t h = record { first = assignable_to_itself p t; second = assignable_to_itself p t; plain = h }

-- ---- numbers

same_number_law : (a b : VType) → is_same_number a b ≡ true → a ≡ b
same_number_law (types.Primitive a) (types.Primitive b) h = ap (λ k. types.Primitive k) (is_same_primitive_law a b h)
same_number_law (types.Primitive a) types.Str h = no_test h
same_number_law (types.Primitive a) (types.Arr k) h = no_test h
same_number_law (types.Primitive a) (types.Obj c) h = no_test h
same_number_law (types.Primitive a) types.NullType h = no_test h
same_number_law types.Str b h = no_test h
same_number_law (types.Arr k) b h = no_test h
same_number_law (types.Obj c) b h = no_test h
same_number_law types.NullType b h = no_test h

number_is_plain : (p : Program) (t : VType) → IsNumeric t → IsPlain p t
number_is_plain p (types.Primitive k) h = tt
number_is_plain p types.Str h = tt
number_is_plain p (types.Arr k) h = tt
number_is_plain p (types.Obj c) h = absurd h
number_is_plain p types.NullType h = tt

is_int_law : (t : VType) → is_int t ≡ true → t ≡ int
is_int_law (types.Primitive primitives.Boolean) h = no_test h
is_int_law (types.Primitive primitives.Byte) h = no_test h
is_int_law (types.Primitive primitives.Char) h = no_test h
is_int_law (types.Primitive primitives.Int) h = refl
is_int_law (types.Primitive primitives.Long) h = no_test h
is_int_law types.Str h = no_test h
is_int_law (types.Arr k) h = no_test h
is_int_law (types.Obj c) h = no_test h
is_int_law types.NullType h = no_test h

-- the operand is an `int`, and the other a number
narrowed_law : (n : Option ℤ) (from to : VType) → is_narrowed n from to ≡ true → IsNumeric from × IsNumeric to
narrowed_law None from to h = no_test h
narrowed_law (Some n) from to h =
    let both = and_parts (is_int from) (is_narrow_value n to) h in
    (subst IsNumeric (sym (is_int_law from both.0)) tt, narrow_is_numeric n to both.1)

int_or_long : (t : VType) → (t ≡ int) ⊎ (t ≡ long) → IsNumeric t
int_or_long t h = elim h [ inl e ↦ subst IsNumeric (sym e) tt | inr e ↦ subst IsNumeric (sym e) tt ]

promoted_both : (p : Program) (a b : VType) (u : Option OperandType) (t : VType) → binary_promoted a b ≡ u → promoted_result u ≡ Some t → AreBoth p a b t
promoted_both p a b None t e h = absurd (none_is_some t h)
promoted_both p a b (Some u) t e h =
    let x = binary_promoted_law a b u e in
    let number = int_or_long t (number_result_law u t h) in
    record { first = number_is_assignable p a t x.first number; second = number_is_assignable p b t x.second number; plain = number_is_plain p t number }

numbers_law : (p : Program) (m n : Option ℤ) (a b t : VType) → IsPlain p a → numeric_conditional m a n b ≡ Some t → AreBoth p a b t
numbers_law p m n a b t plain h =
    from_branch (is_same_number a b) (Some a) (cond (is_narrowed n b a) (Some a) (cond (is_narrowed m a b) (Some b) (promoted_result (binary_promoted a b)))) t
    (λ yes g. subst (λ x. AreBoth p a x t) (same_number_law a b yes) (subst (λ x. AreBoth p a a x) (same_in a t g) (one_of_both p a plain)))
    (λ no g.
    from_branch (is_narrowed n b a) (Some a) (cond (is_narrowed m a b) (Some b) (promoted_result (binary_promoted a b))) t
    (λ yes k. let x = narrowed_law n b a yes in subst (λ y. AreBoth p a b y) (same_in a t k) (record { first = assignable_to_itself p a; second = number_is_assignable p b a x.0 x.1; plain = plain }))
    (λ no k.
    from_branch (is_narrowed m a b) (Some b) (promoted_result (binary_promoted a b)) t
    (λ yes l. let x = narrowed_law m a b yes in subst (λ y. AreBoth p a b y) (same_in b t l) (record { first = number_is_assignable p a b x.0 x.1; second = assignable_to_itself p b; plain = number_is_plain p b x.1 }))
    (λ no l. promoted_both p a b (binary_promoted a b) t refl l)
    k)
    g)
    h

-- ---- references

null_law : (t : VType) → is_null_type t ≡ true → t ≡ types.NullType
null_law (types.Primitive k) h = no_test h
null_law types.Str h = no_test h
null_law (types.Arr k) h = no_test h
null_law (types.Obj c) h = no_test h
null_law types.NullType h = refl

reference_of_law : (t u : VType) (b : Bool) → is_reference t ≡ b → cond b (Some t) None ≡ Some u → IsReference t × (t ≡ u)
reference_of_law t u true e h = (is_reference_law t e, same_in t u h)
reference_of_law t u false e h = absurd (none_is_some u h)

same_arrays_law : (a b : VType) → are_same_arrays a b ≡ true → a ≡ b
same_arrays_law (types.Arr j) (types.Arr k) h = ap (λ x. types.Arr x) (is_same_element_law j k h)
same_arrays_law (types.Arr j) (types.Primitive k) h = no_test h
same_arrays_law (types.Arr j) types.Str h = no_test h
same_arrays_law (types.Arr j) (types.Obj c) h = no_test h
same_arrays_law (types.Arr j) types.NullType h = no_test h
same_arrays_law (types.Primitive k) b h = no_test h
same_arrays_law types.Str b h = no_test h
same_arrays_law (types.Obj c) b h = no_test h
same_arrays_law types.NullType b h = no_test h

-- the class that is found is above both
either_found : (p : Program) (a b : ClassId) (x y : Option ClassId) (c : ClassId) → (x ≡ Some c → is_shared p a b c ≡ true) → (y ≡ Some c → is_shared p a b c ≡ true) → or_else x y ≡ Some c → is_shared p a b c ≡ true
either_found p a b None y c h g e = g e
either_found p a b (Some d) y c h g e = h e

minimal_is_shared : (p : Program) (a b : ClassId) (above : List ClassId) (c : ClassId) → is_minimal p a b above c ≡ true → is_shared p a b c ≡ true
minimal_is_shared p a b above c h = (and_parts (is_shared p a b c) _ h).0

least_is_shared : (p : Program) (a b : ClassId) (above : List ClassId) (c : ClassId) → least_among p a b above ≡ Some c → is_shared p a b c ≡ true
least_is_shared p a b above c h =
    either_found p a b (find (λ d. is_minimal_class p a b above d) above) (find (λ d. is_minimal p a b above d) above) c
    (λ e. minimal_is_shared p a b above c (and_parts (not (is_interface p c)) (is_minimal p a b above c) (find-among (λ d. is_minimal_class p a b above d) above c e).1).1)
    (λ e. minimal_is_shared p a b above c (find-among (λ d. is_minimal p a b above d) above c e).1)
    h

-- a type whose class is String is that of strings
is_string : (p : Program) → HasTypedMembers p → (a : VType) → IsPlain p a → class_of p a ≡ Some p.core.string → a ≡ types.Str
is_string p members (types.Primitive k) plain h = absurd (none_is_some p.core.string h)
is_string p members types.Str plain h = refl
is_string p members (types.Arr k) plain h = absurd (members.object_is_not_string (same_in p.core.object p.core.string h))
is_string p members (types.Obj c) plain h = absurd (plain (same_in c p.core.string h))
is_string p members types.NullType plain h = absurd (none_is_some p.core.string h)

class_is_assignable : (p : Program) → HasTypedMembers p → (a : VType) (c e : ClassId) → IsPlain p a → class_of p a ≡ Some c → IsUnder p c e → (b : Bool) → is_class e p.core.string ≡ b → IsAssignable p a (cond b types.Str (types.Obj e))
class_is_assignable p members a c e plain of under true h =
    let string : e ≡ p.core.string = is_class_law e p.core.string h in
    let last : c ≡ p.core.string = members.final_string c (subst (IsUnder p c) string under) in
    inl (is_string p members a plain (of ∙ ap (λ (x : ClassId). let y : Option ClassId = Some x in y) last))
class_is_assignable p members a c e plain of under false h = inr (has (class_of p a) c (λ d. IsUnder p d e) of under)

class_is_plain : (p : Program) (e : ClassId) (b : Bool) → is_class e p.core.string ≡ b → IsPlain p (cond b types.Str (types.Obj e))
class_is_plain p e true h = tt
class_is_plain p e false h = λ same. true≢false (sym (eq-eqb e.0 p.core.string.0 (ap (λ (x : ClassId). x.0) same)) ∙ h)

pub type_of_class_is_plain : (p : Program) (e : ClassId) → IsPlain p (type_of_class p e)
type_of_class_is_plain p e = class_is_plain p e (is_class e p.core.string) refl

of_least : (p : Program) → HasTypedMembers p → (a b : VType) (c d : ClassId) (l : Option ClassId) (t : VType) → IsPlain p a → IsPlain p b → class_of p a ≡ Some c → class_of p b ≡ Some d → least_class p c d ≡ l → option_map (type_of_class p) l ≡ Some t → AreBoth p a b t
of_least p members a b c d None t pa pb ca cb e h = absurd (none_is_some t h)
of_least p members a b c d (Some l) t pa pb ca cb e h =
    let both = and_parts (is_under p c l) (is_under p d l) (least_is_shared p c d _ l e) in
    subst (λ x. AreBoth p a b x) (same_in (type_of_class p l) t h) (record {
      first = class_is_assignable p members a c l pa ca ((is_under_law p members.hierarchy c l).0 both.0) (is_class l p.core.string) refl;
      second = class_is_assignable p members b d l pb cb ((is_under_law p members.hierarchy d l).0 both.1) (is_class l p.core.string) refl;
      plain = type_of_class_is_plain p l;
    })

of_classes : (p : Program) → HasTypedMembers p → (a b : VType) (x y : Option ClassId) (t : VType) → IsPlain p a → IsPlain p b → class_of p a ≡ x → class_of p b ≡ y → least_of_classes p x y ≡ Some t → AreBoth p a b t
of_classes p members a b None y t pa pb ca cb h = absurd (none_is_some t h)
of_classes p members a b (Some c) None t pa pb ca cb h = absurd (none_is_some t h)
of_classes p members a b (Some c) (Some d) t pa pb ca cb h = of_least p members a b c d (least_class p c d) t pa pb ca cb refl h

two_law : (p : Program) → HasTypedMembers p → (a b t : VType) → IsPlain p a → IsPlain p b → least_of_two p a b ≡ Some t → AreBoth p a b t
two_law p members a b t pa pb h =
    from_branch (are_same_arrays a b) (Some a) (least_of_classes p (class_of p a) (class_of p b)) t
    (λ yes g. subst (λ x. AreBoth p a x t) (same_arrays_law a b yes) (subst (λ x. AreBoth p a a x) (same_in a t g) (one_of_both p a pa)))
    (λ no g. of_classes p members a b (class_of p a) (class_of p b) t pa pb refl refl g)
    h

references_law : (p : Program) → HasTypedMembers p → (a b t : VType) → IsPlain p a → IsPlain p b → least_upper_bound p a b ≡ Some t → AreBoth p a b t
references_law p members a b t pa pb h =
    from_branch (is_null_type a) (reference_of b) (cond (is_null_type b) (reference_of a) (least_of_two p a b)) t
    (λ yes g.
    let x = reference_of_law b t (is_reference b) refl g in
    subst (λ y. AreBoth p a b y) x.1 (record { first = subst (λ y. IsAssignable p y b) (sym (null_law a yes)) (null_is_assignable p b x.0); second = assignable_to_itself p b; plain = pb }))
    (λ no g.
    from_branch (is_null_type b) (reference_of a) (least_of_two p a b) t
    (λ yes k.
    let x = reference_of_law a t (is_reference a) refl k in
    subst (λ y. AreBoth p a b y) x.1 (record { first = assignable_to_itself p a; second = subst (λ y. IsAssignable p y a) (sym (null_law b yes)) (null_is_assignable p a x.0); plain = pa }))
    (λ no k. two_law p members a b t pa pb k)
    g)
    h

-- ---- the rule

standalone_law : (p : Program) → HasTypedMembers p → (m n : Option ℤ) (a b t : VType) → IsPlain p a → IsPlain p b → standalone_conditional p m a n b ≡ Some t → AreBoth p a b t
standalone_law p members m n a b t pa pb h =
    from_branch (is_boolean a && is_boolean b) (Some boolean) (cond (is_reference_conditional a b) (least_upper_bound p a b) (numeric_conditional m a n b)) t
    (λ yes g.
    let both = and_parts (is_boolean a) (is_boolean b) yes in
    subst (λ x. AreBoth p a b x) (same_in boolean t g) (record { first = is_boolean_law a both.0; second = is_boolean_law b both.1; plain = tt }))
    (λ no g.
    from_branch (is_reference_conditional a b) (least_upper_bound p a b) (numeric_conditional m a n b) t
    (λ yes k. references_law p members a b t pa pb k)
    (λ no k. numbers_law p m n a b t pa k)
    g)
    h

in_context_law : (p : Program) → HasTypedMembers p → (wanted : Option VType) (m n : Option ℤ) (a b t : VType) → IfPlain p wanted → IsPlain p a → IsPlain p b → type_in_context p wanted m a n b ≡ Some t → AreBoth p a b t
in_context_law p members None m n a b t pw pa pb h = standalone_law p members m n a b t pa pb h
in_context_law p members (Some wanted) m n a b t pw pa pb h =
    from_branch (suit_context p wanted a b) (Some wanted) (standalone_conditional p m a n b) t
    (λ yes g.
    let both = and_parts (fits p a wanted) (fits p b wanted) (and_parts (is_reference_conditional a b) (fits p a wanted && fits p b wanted) yes).1 in
    subst (λ x. AreBoth p a b x) (same_in wanted t g) (record { first = fits_law p members.hierarchy a wanted both.0; second = fits_law p members.hierarchy b wanted both.1; plain = pw }))
    (λ no g. standalone_law p members m n a b t pa pb g)
    h

abbrev of_some : (p : Program) (x : Option VType) (t : VType) → x ≡ Some t → IfPlain p x → IsPlain p t
of_some p x t e h = subst (IfPlain p) e h

pub conditional_rule : (c : TypingContext) → HasTypedMembers c.program → (wanted : Option VType) (place : Pos) (d a b : Facts) (x y z : Part) → IfPlain c.program wanted → IfPlain c.program (type_of a) → IfPlain c.program (type_of b) → x.vtype ≡ type_of d → y.vtype ≡ type_of a → z.vtype ≡ type_of b → IsTypedAnswer c (conditional_by c.program wanted place d a b) (x ∷ y ∷ z ∷ [])
conditional_rule c members wanted place d a b x y z pw pa pb first second third =
    let parts : List Part = x ∷ y ∷ z ∷ [] in
    three_rule c place (type_of d) (type_of a) (type_of b) (λ r s t. conditional_of place r (type_in_context c.program wanted a.constant s b.constant t) (folded_conditional d.constant a.constant b.constant)) parts
    (λ r s t er es et.
    let found : Option VType = type_in_context c.program wanted a.constant s b.constant t in
    chosen c (is_boolean r) (constant_as shapes.Conditional place found _) (mismatch place) parts
    (λ yes. constant_rule c shapes.Conditional place found _ parts
    (λ u g.
    let both = in_context_law c.program members wanted a.constant b.constant s t u pw (of_some c.program (type_of a) s es pa) (of_some c.program (type_of b) t et pb) g in
    let truth : r ≡ boolean = is_boolean_law r yes in
    ((first ∙ er ∙ ap (λ (q : VType). let o : Option VType = Some q in o) truth, has y.vtype s (λ q. IsAssignable c.program q u) (second ∙ es) both.first, has z.vtype t (λ q. IsAssignable c.program q u) (third ∙ et) both.second), both.plain)))
    (λ no. tt))
