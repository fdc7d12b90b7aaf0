-- The members of a class or interface by name, as the body of a class finds them (JLS 6.6.1, 8.2, 8.3, 8.4.8, 8.8, 9.4.1).
-- A private member is found only in the bodies of its own class, and in that class itself. All others are public here.
use Rattle.std.specs.Prelude.{ℕ, Bool, true, false, ◌&&◌, ◌||◌, not, Option, Some, None, List, [], filter, if◌then◌else◌}
use Rattle.std.specs.List.{find, flat_map, list_any}
use Rattle.std.specs.Option.{is_some}
use Rattle.std.specs.Str.{bytes_eq}
use Rattle.program_model.specs.declared.kinds.ClassId.{ClassId}
use Rattle.program_model.specs.declared.kinds.FieldId.{FieldId}
use Rattle.program_model.specs.declared.kinds.MethodId.{MethodId}
use Rattle.program_model.specs.declared.kinds.MethodKind.{MethodKind}
use Rattle.program_model.specs.declared.kinds.MethodKind.TheVariants as methods
use Rattle.program_model.specs.declared.program.Program.{Program}
use Rattle.program_model.specs.declared.program.Class.{Class}
use Rattle.program_model.specs.declared.program.Field.{Field}
use Rattle.program_model.specs.declared.program.Method.{Method}
use Rattle.program_model.specs.Lookups.{class_at, field_at, method_at}
use Rattle.program_model.specs.SuperTests.{classes_above, is_class, is_under}
use Rattle.program_model.specs.Overrides.{is_interface, is_method_kind, methods_of, super_classes}
use Rattle.class_members.specs.declared.fields.FieldMember.{FieldMember}
use Rattle.class_members.specs.declared.fields.FieldMember.TheVariants as found
use Rattle.class_members.specs.Signatures.{have_one_signature}
use Rattle.class_members.specs.Bodies.{goes_before}

-- ---- methods

-- in `c`, the bodies of the class `from` have access to what `d` declares (JLS 6.6.1)
abbrev pub is_accessible : ClassId → ClassId → ClassId → Bool → Bool
is_accessible from c d is_private = not is_private || (is_class d c && is_class d from)

abbrev pub is_named_by : ClassId → ClassId → List ℕ → Option Method → Bool
is_named_by from c name None = false
is_named_by from c name (Some m) = is_method_kind m.kind && bytes_eq m.name name && is_accessible from c m.class m.is_private

-- a method of the name
abbrev pub is_named : Program → ClassId → ClassId → List ℕ → MethodId → Bool
is_named p from c name m = is_named_by from c name (method_at p m)

abbrev pub declared_methods : Program → ClassId → ClassId → List ℕ → ClassId → List MethodId
declared_methods p from c name d = filter (is_named p from c name) (methods_of p d)

-- the methods of the name that the class and all above it declare, in class order
abbrev pub methods_above : Program → ClassId → ClassId → List ℕ → List MethodId
methods_above p from c name = flat_map (declared_methods p from c name) (classes_above c (class_at p c))

-- `d` is another class than `e`, and under it
abbrev pub is_below : Program → ClassId → ClassId → Bool
is_below p d e = is_under p d e && not (is_class d e)

-- a class takes no method of an interface for one whose body goes before it (JLS 8.4.8)
abbrev pub keeps : Program → ClassId → Method → Method → Bool
keeps p c m n = not (is_interface p c) && is_interface p n.class && goes_before p c m n

-- in `c`, `n` overrides or hides `m` (JLS 8.4.8.1, 8.4.8.2, 9.4.1.1)
abbrev pub replaces : Program → ClassId → Method → Method → Bool
replaces p c m n = have_one_signature m n && is_below p n.class m.class && not (keeps p c m n)

-- in `c`, `n` is the body for `m`: the class does not inherit `m` (JLS 8.4.8)
abbrev pub implements : Program → ClassId → Method → Method → Bool
implements p c m n = have_one_signature m n && goes_before p c n m

abbrev pub is_so : (Method → Bool) → Option Method → Bool
is_so test None = false
is_so test (Some n) = test n

-- one of the methods passes the test beside `m`
abbrev pub has_one : Program → (Method → Method → Bool) → List MethodId → Option Method → Bool
has_one p test all None = false
has_one p test all (Some m) = list_any (λ n. is_so (test m) (method_at p n)) all

-- those that no other of them overrides or hides
abbrev pub not_replaced : Program → ClassId → List MethodId → List MethodId
not_replaced p c all = filter (λ m. not (has_one p (replaces p c) all (method_at p m))) all

-- those for which no other of them is the body
abbrev pub not_implemented : Program → ClassId → List MethodId → List MethodId
not_implemented p c all = filter (λ m. not (has_one p (implements p c) all (method_at p m))) all

-- the methods of the name that are members of the class or interface `c` (JLS 8.2, 9.2), as the bodies of `from` find
-- them, in class order
abbrev pub methods_named : Program → ClassId → ClassId → List ℕ → List MethodId
methods_named p from c name = not_implemented p c (not_replaced p c (methods_above p from c name))

-- ---- constructors

abbrev pub is_constructor_kind : MethodKind → Bool
is_constructor_kind methods.Ctor = true
is_constructor_kind _ = false

abbrev pub is_constructor_by : ClassId → ClassId → Option Method → Bool
is_constructor_by from c None = false
is_constructor_by from c (Some m) = is_constructor_kind m.kind && is_accessible from c m.class m.is_private

-- the constructors of a class, which are not inherited (JLS 8.8), as the bodies of `from` find them
abbrev pub constructors_of : Program → ClassId → ClassId → List MethodId
constructors_of p from c = filter (λ m. is_constructor_by from c (method_at p m)) (methods_of p c)

-- ---- fields

abbrev pub fields_in : Option Class → List FieldId
fields_in None = []
fields_in (Some k) = k.fields.items

abbrev pub is_field_by : List ℕ → Option Field → Bool
is_field_by name None = false
is_field_by name (Some x) = bytes_eq x.name name

-- the field of the name that the class declares
abbrev pub declared_field : Program → List ℕ → ClassId → Option FieldId
declared_field p name d = find (λ f. is_field_by name (field_at p f)) (fields_in (class_at p d))

abbrev pub is_constant_kind : MethodKind → Bool
is_constant_kind methods.Constant = true
is_constant_kind _ = false

abbrev pub is_constant_by : List ℕ → Option Method → Bool
is_constant_by name None = false
is_constant_by name (Some m) = is_constant_kind m.kind && bytes_eq m.name name

-- the library constant of the name that the class declares
abbrev pub declared_constant : Program → List ℕ → ClassId → Option MethodId
declared_constant p name d = find (λ m. is_constant_by name (method_at p m)) (methods_of p d)

abbrev pub declares_field : Program → List ℕ → ClassId → Bool
declares_field p name d = is_some (declared_field p name d) || is_some (declared_constant p name d)

abbrev pub is_private_field : Option Field → Bool
is_private_field None = false
is_private_field (Some x) = x.is_private

abbrev pub is_private_method : Option Method → Bool
is_private_method None = false
is_private_method (Some m) = m.is_private

abbrev pub field_from : Program → ClassId → ClassId → ClassId → Option FieldId → Option FieldMember
field_from p from c d None = None
field_from p from c d (Some f) = if is_accessible from c d (is_private_field (field_at p f)) then Some (found.Field f) else None

abbrev pub constant_from : Program → ClassId → ClassId → ClassId → Option MethodId → Option FieldMember
constant_from p from c d None = None
constant_from p from c d (Some m) = if is_accessible from c d (is_private_method (method_at p m)) then Some (found.Constant m) else None

abbrev pub declared_member : Program → ClassId → ClassId → ClassId → Option FieldId → Option MethodId → Option FieldMember
declared_member p from c d None m = constant_from p from c d m
declared_member p from c d (Some f) m = field_from p from c d (Some f)

abbrev pub member_of_nearest : Program → ClassId → ClassId → List ℕ → Option ClassId → Option FieldMember
member_of_nearest p from c name None = None
member_of_nearest p from c name (Some d) = declared_member p from c d (declared_field p name d) (declared_constant p name d)

-- the field of the name that is a member of the class `c` (JLS 8.2, 8.3), as the bodies of `from` find it: that of the
-- nearest class which declares one, and none where `from` has no access to it
abbrev pub field_named : Program → ClassId → ClassId → List ℕ → Option FieldMember
field_named p from c name = member_of_nearest p from c name (find (declares_field p name) (super_classes p c))
