-- The program is valid.
use Rattle.std.proofs.Common.{◌≡◌, ℕ, refl, sym, true, false, true≢false, is_some, ◌∙◌, Some, None, [], ◌∷◌, IsSomeAnd, lit<, lit≤}
use Rattle.program_model.specs.declared.kinds.ClassId.{ClassId}
use Rattle.program_model.specs.declared.kinds.FieldId.{FieldId}
use Rattle.program_model.specs.declared.kinds.MethodId.{MethodId}
use Rattle.program_model.specs.declared.program.Class.{Class}
use Rattle.program_model.specs.declared.program.Field.{Field}
use Rattle.program_model.specs.declared.program.Method.{Method}
use Rattle.program_model.specs.declared.program.ParamSig.{ParamSig}
use Rattle.program_model.specs.declared.program.Promise.{Promise}
use Rattle.program_model.specs.declared.program.Sig.{Sig}
use Rattle.program_model.specs.Hierarchy.{HasClass, IsHierarchy, IsUnder}
use Rattle.program_model.specs.Lookups.{class_at, field_at, method_at}
use Rattle.program_model.specs.SuperTests.{is_under}
use Rattle.program_model.specs.Typing.{IsDeclarable}
use Rattle.program_model.specs.Validity.{HasBodies, HasCoreClasses, HasExceptionClasses, HasMembers, IsFieldOf, IsMethodOf, IsNumbered, IsPromised, IsTypedProgram, IsValid, IsValidClass, IsValidField, IsValidMethod, IsValidSig, RunsBody, has_super_class}
use Rattle.safety_examples.specs.CarefulPrograms.{class_number, close_signature, constructor_signature, error, io_exception, main_parameter, method_number, runtime_exception, socket, socket_close, socket_constructor, throwable}
use Rattle.safety_examples.specs.OwnerPrograms.{parameter_closed}
use Rattle.safety_examples.specs.ThrowingPrograms.{main_class, main_method, main_signature, shut, shut_signature, socket_parameter, throwing}
use Rattle.safety_examples.proofs.Hierarchy.{IsPlaced, hierarchy, increasing, is_under_listed}
use Rattle.safety_examples.proofs.Tests.{all_none, all_of, holds_at}
use Rattle.safety_examples.proofs.ThrowingBodies.{ordered_bodies, socket_declarable, same_initializers, valid_bodies}

placed : IsPlaced throwing
placed = record { before = refl; own = refl; supers = refl; due = refl; order = refl }

throwing_hierarchy : IsHierarchy throwing
throwing_hierarchy = hierarchy throwing placed

numbered : IsNumbered throwing
numbered = record { classes = lit< tt; methods = lit< tt; fields = lit< tt; bodies = lit< tt }

core : HasCoreClasses throwing
core = record {
  object = refl;
  string = refl;
  throwable = refl;
  error = refl;
  runtime_exception = refl;
  arithmetic_exception = refl;
  array_index_exception = refl;
  class_cast_exception = refl;
  negative_array_size_exception = refl;
  null_pointer_exception = refl;
}

under : (c d : ℕ) → is_under throwing (class_number c) (class_number d) ≡ true → IsUnder throwing (class_number c) (class_number d)
under c d listed = is_under_listed throwing placed (class_number c) (class_number d) listed

exceptions : HasExceptionClasses throwing
exceptions = record {
  error = under 3 2 refl;
  runtime_exception = under 5 2 refl;
  arithmetic_exception = under 6 5 refl;
  array_index_exception = under 7 5 refl;
  class_cast_exception = under 8 5 refl;
  negative_array_size_exception = under 9 5 refl;
  null_pointer_exception = under 10 5 refl;
}

-- ---- classes and members

-- a class that is no interface
valid : (i : ℕ) (k : Class) → k.interface ≡ false → is_some k.sup ≡ has_super_class throwing (class_number i) k → IsValidClass throwing (class_number i) k
valid i k class same = record { super_class = same; abstract = λ interface. absurd (true≢false (sym interface ∙ class)) }

valid_classes : (c : ClassId) (k : Class) → class_at throwing c ≡ Some k → IsValidClass throwing c k
valid_classes c k at =
    holds_at (λ i (x : Class). IsValidClass throwing (class_number i) x) throwing.classes.items c.0 k
    (valid 0 _ refl refl, (valid 1 _ refl refl, (valid 2 _ refl refl, (valid 3 _ refl refl, (valid 4 _ refl refl, (valid 5 _ refl refl, (valid 6 _ refl refl, (valid 7 _ refl refl, (valid 8 _ refl refl, (valid 9 _ refl refl, (valid 10 _ refl refl, (valid 11 _ refl refl, (valid 12 _ refl refl, (valid 13 _ refl refl, tt)))))))))))))) at

no_members : (c : ClassId) → HasMembers throwing c [] []
no_members c = record {
  field_order = increasing [] refl;
  fields = all_none (IsFieldOf throwing c);
  method_order = increasing [] refl;
  methods = all_none (IsMethodOf throwing c);
}

socket_members : HasMembers throwing socket [] (socket_constructor ∷ socket_close ∷ [])
socket_members = record {
  field_order = increasing [] refl;
  fields = all_none (IsFieldOf throwing socket);
  method_order = increasing (0 ∷ 1 ∷ []) refl;
  methods = all_of (IsMethodOf throwing socket) (socket_constructor ∷ socket_close ∷ []) (refl, (refl, tt));
}

main_members : HasMembers throwing main_class [] (shut ∷ main_method ∷ [])
main_members = record {
  field_order = increasing [] refl;
  fields = all_none (IsFieldOf throwing main_class);
  method_order = increasing (2 ∷ 3 ∷ []) refl;
  methods = all_of (IsMethodOf throwing main_class) (shut ∷ main_method ∷ []) (refl, (refl, tt));
}

members : (c : ClassId) (k : Class) → class_at throwing c ≡ Some k → HasMembers throwing c k.fields.items k.methods.items
members c k at =
    holds_at (λ i (x : Class). HasMembers throwing (class_number i) x.fields.items x.methods.items) throwing.classes.items c.0 k
    (no_members (class_number 0), (no_members (class_number 1), (no_members (class_number 2), (no_members (class_number 3), (no_members (class_number 4), (no_members (class_number 5), (no_members (class_number 6), (no_members (class_number 7), (no_members (class_number 8), (no_members (class_number 9), (no_members (class_number 10), (no_members (class_number 11), (socket_members, (main_members, tt)))))))))))))) at

valid_fields : (f : FieldId) (x : Field) → field_at throwing f ≡ Some x → IsValidField throwing f x
valid_fields f x at = absurd (let never : None ≡ Some x = at in cc)

-- ---- methods

abbrev HasThrown : ClassId → Type 0
HasThrown c = HasClass throwing c × IsUnder throwing c throwable

io_thrown : HasThrown io_exception
io_thrown = (lit< tt, under 11 2 refl)

abbrev HasType : ParamSig → Type 0
HasType x = IsDeclarable throwing x.vtype

abbrev Promises : Sig → Promise → Type 0
Promises s x = IsPromised throwing s x.target

constructor_valid : IsValidSig throwing constructor_signature
constructor_valid = record {
  params = all_none HasType;
  result = tt;
  throws = all_none HasThrown;
  alias = tt;
  reset = tt;
  promises = all_none (Promises constructor_signature);
  on_throw = all_none (Promises constructor_signature);
}

close_valid : IsValidSig throwing close_signature
close_valid = record {
  params = all_none HasType;
  result = tt;
  throws = all_of HasThrown (io_exception ∷ []) (io_thrown, tt);
  alias = tt;
  reset = tt;
  promises = all_none (Promises close_signature);
  on_throw = all_none (Promises close_signature);
}

shut_valid : IsValidSig throwing shut_signature
shut_valid = record {
  params = all_of HasType (socket_parameter ∷ []) (socket_declarable, tt);
  result = tt;
  throws = all_of HasThrown (io_exception ∷ []) (io_thrown, tt);
  alias = tt;
  reset = tt;
  promises = all_of (Promises shut_signature) (parameter_closed ∷ []) (lit≤ tt, tt);
  on_throw = all_of (Promises shut_signature) (parameter_closed ∷ []) (lit≤ tt, tt);
}

main_valid : IsValidSig throwing main_signature
main_valid = record {
  params = all_of HasType (main_parameter ∷ []) (tt, tt);
  result = tt;
  throws = all_of HasThrown (io_exception ∷ []) (io_thrown, tt);
  alias = tt;
  reset = tt;
  promises = all_none (Promises main_signature);
  on_throw = all_none (Promises main_signature);
}

valid_methods : (m : MethodId) (x : Method) → method_at throwing m ≡ Some x → IsValidMethod throwing m x
valid_methods m x at =
    holds_at (λ i (y : Method). IsValidMethod throwing (method_number i) y) throwing.methods.items m.0 x
    (record { listed = (0, lit< tt, refl); signature = constructor_valid; receiver = refl; kind = refl; body = tt; bodiless = tt }, (record { listed = (1, lit< tt, refl); signature = close_valid; receiver = refl; kind = tt; body = tt; bodiless = tt }, (record { listed = (0, lit< tt, refl); signature = shut_valid; receiver = refl; kind = tt; body = refl; bodiless = (refl, refl, refl) }, (record { listed = (1, lit< tt, refl); signature = main_valid; receiver = refl; kind = tt; body = refl; bodiless = (refl, refl, refl) }, tt)))) at

typed : IsTypedProgram throwing
typed = record {
  numbered = numbered;
  core = core;
  hierarchy = throwing_hierarchy;
  exceptions = exceptions;
  classes = valid_classes;
  members = members;
  fields = valid_fields;
  methods = valid_methods;
  bodies = valid_bodies;
  ignored = all_of (HasClass throwing) (runtime_exception ∷ error ∷ []) (lit< tt, (lit< tt, tt));
  exact = all_none (HasClass throwing);
}

pub valid_program : IsValid throwing
valid_program = record { typed = typed; ordered = ordered_bodies; same_initializers = same_initializers }

pub has_bodies : HasBodies throwing
has_bodies m x at =
    holds_at (λ i (y : Method). RunsBody throwing y → IsSomeAnd y.body (λ b. Unit {0})) throwing.methods.items m.0 x
    (λ runs. absurd (true≢false runs.2), (λ runs. absurd (true≢false runs.2), (λ runs. tt, (λ runs. tt, tt)))) at
