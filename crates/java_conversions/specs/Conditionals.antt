-- The type of a conditional expression that no context gives a type (JLS 15.25).
use Rattle.std.specs.Prelude.{Bool, true, false, cond, not, ◌&&◌, ◌||◌, Option, Some, None, List, [], ◌∷◌, ℤ}
use Rattle.std.specs.List.{find, list_any}
use Rattle.std.specs.Option.{option_map}
use Rattle.program_model.specs.declared.kinds.ClassId.{ClassId}
use Rattle.program_model.specs.declared.kinds.Primitive.{Primitive}
use Rattle.program_model.specs.declared.kinds.Primitive.TheVariants as primitives
use Rattle.program_model.specs.declared.kinds.VType.{VType}
use Rattle.program_model.specs.declared.kinds.VType.TheVariants as types
use Rattle.program_model.specs.declared.program.Program.{Program}
use Rattle.program_model.specs.Lookups.{class_at}
use Rattle.program_model.specs.SuperTests.{classes_above, is_class, is_under}
use Rattle.program_model.specs.Typing.{boolean, class_of}
use Rattle.java_conversions.specs.Types.{is_boolean, is_null_type, is_reference, is_same_primitive, is_same_element, type_of_class}
use Rattle.java_conversions.specs.Casts.{is_interface}
use Rattle.java_conversions.specs.Conversions.{is_narrow_value}
use Rattle.java_conversions.specs.Operators.{binary_promoted, promoted_result}

-- the class is above both
abbrev pub is_shared : Program → ClassId → ClassId → ClassId → Bool
is_shared p a b c = is_under p a c && is_under p b c

-- another class above both is under this one
abbrev pub is_nearer : Program → ClassId → ClassId → ClassId → ClassId → Bool
is_nearer p a b c d = is_shared p a b d && is_under p d c && not (is_class d c)

-- one of the minimal classes above both (JLS 4.10.4): `above` are those above the first
abbrev pub is_minimal : Program → ClassId → ClassId → List ClassId → ClassId → Bool
is_minimal p a b above c = is_shared p a b c && not (list_any (λ d. is_nearer p a b c d) above)

abbrev pub is_minimal_class : Program → ClassId → ClassId → List ClassId → ClassId → Bool
is_minimal_class p a b above c = not (is_interface p c) && is_minimal p a b above c

abbrev pub or_else : Option ClassId → Option ClassId → Option ClassId
or_else (Some c) d = Some c
or_else None d = d

abbrev pub least_among : Program → ClassId → ClassId → List ClassId → Option ClassId
least_among p a b above = or_else (find (λ c. is_minimal_class p a b above c) above) (find (λ c. is_minimal p a b above c) above)

-- the class that stands for the least upper bound of two classes (JLS 4.10.4): of an intersection its class, else its
-- first interface in class order
abbrev pub least_class : Program → ClassId → ClassId → Option ClassId
least_class p a b = least_among p a b (classes_above a (class_at p a))

abbrev pub least_of_classes : Program → Option ClassId → Option ClassId → Option VType
least_of_classes p (Some a) (Some b) = option_map (type_of_class p) (least_class p a b)
least_of_classes p a b = None

-- both are arrays of one type
abbrev pub are_same_arrays : VType → VType → Bool
are_same_arrays (types.Arr a) (types.Arr b) = is_same_element a b
are_same_arrays a b = false

abbrev pub least_of_two : Program → VType → VType → Option VType
least_of_two p a b = cond (are_same_arrays a b) (Some a) (least_of_classes p (class_of p a) (class_of p b))

abbrev pub reference_of : VType → Option VType
reference_of t = cond (is_reference t) (Some t) None

-- the least upper bound of two reference types (JLS 4.10.4); the type of `null` is under each
abbrev pub least_upper_bound : Program → VType → VType → Option VType
least_upper_bound p a b = cond (is_null_type a) (reference_of b) (cond (is_null_type b) (reference_of a) (least_of_two p a b))

-- both operands are references: a conditional that takes the type of its context, where it has one (JLS 15.25)
abbrev pub is_reference_conditional : VType → VType → Bool
is_reference_conditional a b = is_reference a && is_reference b

abbrev pub is_int : VType → Bool
is_int (types.Primitive primitives.Int) = true
is_int t = false

-- the constant is an `int` that the other operand's narrower type has
abbrev pub is_narrowed : Option ℤ → VType → VType → Bool
is_narrowed None from to = false
is_narrowed (Some n) from to = is_int from && is_narrow_value n to

abbrev pub is_same_number : VType → VType → Bool
is_same_number (types.Primitive a) (types.Primitive b) = is_same_primitive a b
is_same_number a b = false

-- two numbers (JLS 15.25.2): one type; or the narrower one, where the other is an `int` constant of it; or the promoted
abbrev pub numeric_conditional : Option ℤ → VType → Option ℤ → VType → Option VType
numeric_conditional m a n b = cond (is_same_number a b) (Some a) (cond (is_narrowed n b a) (Some a) (cond (is_narrowed m a b) (Some b) (promoted_result (binary_promoted a b))))

-- the type of `c ? a : b` where no context gives one (JLS 15.25.1 to 15.25.3): `m` and `n` are the values of constant
-- operands. A truth value or number beside another kind of operand would be boxed, which is left out
abbrev pub standalone_conditional : Program → Option ℤ → VType → Option ℤ → VType → Option VType
standalone_conditional p m a n b = cond (is_boolean a && is_boolean b) (Some boolean) (cond (is_reference_conditional a b) (least_upper_bound p a b) (numeric_conditional m a n b))
