-- The program is valid.
use Rattle.std.proofs.Common.{◌≡◌, ℕ, refl, sym, true, false, true≢false, is_some, ◌∙◌, Some, [], ◌∷◌, IsSomeAnd, lit<, lit≤}
use Rattle.program_model.specs.declared.kinds.ClassId.{ClassId}
use Rattle.program_model.specs.declared.kinds.FieldId.{FieldId}
use Rattle.program_model.specs.declared.kinds.MethodId.{MethodId}
use Rattle.program_model.specs.declared.program.Class.{Class}
use Rattle.program_model.specs.declared.program.Field.{Field}
use Rattle.program_model.specs.declared.program.Method.{Method}
use Rattle.program_model.specs.declared.program.ParamSig.{ParamSig}
use Rattle.program_model.specs.declared.program.Promise.{Promise}
use Rattle.program_model.specs.declared.program.Sig.{Sig}
use Rattle.program_model.specs.Hierarchy.{HasClass, IsHierarchy, IsUnder}
use Rattle.program_model.specs.Lookups.{class_at, field_at, method_at}
use Rattle.program_model.specs.SuperTests.{is_under}
use Rattle.program_model.specs.Typing.{IsDeclarable}
use Rattle.program_model.specs.Validity.{HasBodies, HasCoreClasses, HasExceptionClasses, HasMembers, IsFieldOf, IsMethodOf, IsNumbered, IsPromised, IsTypedProgram, IsValid, IsValidClass, IsValidField, IsValidMethod, IsValidSig, RunsBody, has_super_class}
use Rattle.safety_examples.specs.CarefulPrograms.{class_number, error, main_parameter, method_number, runtime_exception, throwable}
use Rattle.safety_examples.specs.OpeningPrograms.{opening}
use Rattle.safety_examples.specs.ReplacingPrograms.{holder_close, holder_constructor, holder_constructor_signature, holder_reopen, holder_reopen_signature, main_method}
use Rattle.safety_examples.specs.OwnerPrograms.{field_closed, held, holder, holder_close_signature, main_signature, resource, resource_close, resource_close_signature, resource_constructor, resource_constructor_signature}
use Rattle.safety_examples.proofs.Hierarchy.{IsPlaced, hierarchy, increasing, is_under_listed}
use Rattle.safety_examples.proofs.Tests.{all_none, all_of, holds_at}
use Rattle.safety_examples.proofs.OpeningBodies.{ordered_bodies, resource_declarable, same_initializers, valid_bodies}

placed : IsPlaced opening
placed = record { before = refl; own = refl; supers = refl; due = refl; order = refl }

opening_hierarchy : IsHierarchy opening
opening_hierarchy = hierarchy opening placed

numbered : IsNumbered opening
numbered = record { classes = lit< tt; methods = lit< tt; fields = lit< tt; bodies = lit< tt }

core : HasCoreClasses opening
core = record {
  object = refl;
  string = refl;
  throwable = refl;
  error = refl;
  runtime_exception = refl;
  arithmetic_exception = refl;
  array_index_exception = refl;
  class_cast_exception = refl;
  negative_array_size_exception = refl;
  null_pointer_exception = refl;
}

under : (c d : ℕ) → is_under opening (class_number c) (class_number d) ≡ true → IsUnder opening (class_number c) (class_number d)
under c d listed = is_under_listed opening placed (class_number c) (class_number d) listed

exceptions : HasExceptionClasses opening
exceptions = record {
  error = under 3 2 refl;
  runtime_exception = under 5 2 refl;
  arithmetic_exception = under 6 5 refl;
  array_index_exception = under 7 5 refl;
  class_cast_exception = under 8 5 refl;
  negative_array_size_exception = under 9 5 refl;
  null_pointer_exception = under 10 5 refl;
}

-- ---- classes and members

-- a class that is no interface
valid : (i : ℕ) (k : Class) → k.interface ≡ false → is_some k.sup ≡ has_super_class opening (class_number i) k → IsValidClass opening (class_number i) k
valid i k class same = record { super_class = same; abstract = λ interface. absurd (true≢false (sym interface ∙ class)) }

valid_classes : (c : ClassId) (k : Class) → class_at opening c ≡ Some k → IsValidClass opening c k
valid_classes c k at =
    holds_at (λ i (x : Class). IsValidClass opening (class_number i) x) opening.classes.items c.0 k
    (valid 0 _ refl refl, (valid 1 _ refl refl, (valid 2 _ refl refl, (valid 3 _ refl refl, (valid 4 _ refl refl, (valid 5 _ refl refl, (valid 6 _ refl refl, (valid 7 _ refl refl, (valid 8 _ refl refl, (valid 9 _ refl refl, (valid 10 _ refl refl, (valid 11 _ refl refl, (valid 12 _ refl refl, tt))))))))))))) at

no_members : (c : ClassId) → HasMembers opening c [] []
no_members c = record {
  field_order = increasing [] refl;
  fields = all_none (IsFieldOf opening c);
  method_order = increasing [] refl;
  methods = all_none (IsMethodOf opening c);
}

resource_members : HasMembers opening resource [] (resource_constructor ∷ resource_close ∷ [])
resource_members = record {
  field_order = increasing [] refl;
  fields = all_none (IsFieldOf opening resource);
  method_order = increasing (0 ∷ 1 ∷ []) refl;
  methods = all_of (IsMethodOf opening resource) (resource_constructor ∷ resource_close ∷ []) (refl, (refl, tt));
}

holder_members : HasMembers opening holder (held ∷ []) (holder_constructor ∷ holder_reopen ∷ holder_close ∷ main_method ∷ [])
holder_members = record {
  field_order = increasing (0 ∷ []) refl;
  fields = all_of (IsFieldOf opening holder) (held ∷ []) (refl, tt);
  method_order = increasing (2 ∷ 3 ∷ 4 ∷ 5 ∷ []) refl;
  methods = all_of (IsMethodOf opening holder) (holder_constructor ∷ holder_reopen ∷ holder_close ∷ main_method ∷ []) (refl, (refl, (refl, (refl, tt))));
}

members : (c : ClassId) (k : Class) → class_at opening c ≡ Some k → HasMembers opening c k.fields.items k.methods.items
members c k at =
    holds_at (λ i (x : Class). HasMembers opening (class_number i) x.fields.items x.methods.items) opening.classes.items c.0 k
    (no_members (class_number 0), (no_members (class_number 1), (no_members (class_number 2), (no_members (class_number 3), (no_members (class_number 4), (no_members (class_number 5), (no_members (class_number 6), (no_members (class_number 7), (no_members (class_number 8), (no_members (class_number 9), (no_members (class_number 10), (resource_members, (holder_members, tt))))))))))))) at

valid_fields : (f : FieldId) (x : Field) → field_at opening f ≡ Some x → IsValidField opening f x
valid_fields f x at =
    holds_at (λ i (y : Field). IsValidField opening (record { 0 = i }) y) opening.fields.items f.0 x
    (record { listed = (0, lit< tt, refl); declarable = resource_declarable; kind = refl }, tt) at

-- ---- methods

abbrev HasThrown : ClassId → Type 0
HasThrown c = HasClass opening c × IsUnder opening c throwable

abbrev HasType : ParamSig → Type 0
HasType x = IsDeclarable opening x.vtype

abbrev Promises : Sig → Promise → Type 0
Promises s x = IsPromised opening s x.target

resource_constructor_valid : IsValidSig opening resource_constructor_signature
resource_constructor_valid = record {
  params = all_none HasType;
  result = tt;
  throws = all_none HasThrown;
  alias = tt;
  reset = tt;
  promises = all_none (Promises resource_constructor_signature);
  on_throw = all_none (Promises resource_constructor_signature);
}

resource_close_valid : IsValidSig opening resource_close_signature
resource_close_valid = record {
  params = all_none HasType;
  result = tt;
  throws = all_none HasThrown;
  alias = tt;
  reset = tt;
  promises = all_none (Promises resource_close_signature);
  on_throw = all_none (Promises resource_close_signature);
}

holder_constructor_valid : IsValidSig opening holder_constructor_signature
holder_constructor_valid = record {
  params = all_none HasType;
  result = tt;
  throws = all_none HasThrown;
  alias = tt;
  reset = tt;
  promises = all_none (Promises holder_constructor_signature);
  on_throw = all_none (Promises holder_constructor_signature);
}

holder_reopen_valid : IsValidSig opening holder_reopen_signature
holder_reopen_valid = record {
  params = all_none HasType;
  result = tt;
  throws = all_none HasThrown;
  alias = tt;
  reset = lit≤ tt;
  promises = all_none (Promises holder_reopen_signature);
  on_throw = all_none (Promises holder_reopen_signature);
}

holder_close_valid : IsValidSig opening holder_close_signature
holder_close_valid = record {
  params = all_none HasType;
  result = tt;
  throws = all_none HasThrown;
  alias = tt;
  reset = tt;
  promises = all_of (Promises holder_close_signature) (field_closed ∷ []) (lit< tt, tt);
  on_throw = all_none (Promises holder_close_signature);
}

main_valid : IsValidSig opening main_signature
main_valid = record {
  params = all_of HasType (main_parameter ∷ []) (tt, tt);
  result = tt;
  throws = all_none HasThrown;
  alias = tt;
  reset = tt;
  promises = all_none (Promises main_signature);
  on_throw = all_none (Promises main_signature);
}

valid_methods : (m : MethodId) (x : Method) → method_at opening m ≡ Some x → IsValidMethod opening m x
valid_methods m x at =
    holds_at (λ i (y : Method). IsValidMethod opening (method_number i) y) opening.methods.items m.0 x
    (record { listed = (0, lit< tt, refl); signature = resource_constructor_valid; receiver = refl; kind = refl; body = tt; bodiless = tt }, (record { listed = (1, lit< tt, refl); signature = resource_close_valid; receiver = refl; kind = tt; body = tt; bodiless = tt }, (record { listed = (0, lit< tt, refl); signature = holder_constructor_valid; receiver = refl; kind = refl; body = refl; bodiless = (refl, refl, refl) }, (record { listed = (1, lit< tt, refl); signature = holder_reopen_valid; receiver = refl; kind = tt; body = refl; bodiless = (refl, refl, refl) }, (record { listed = (2, lit< tt, refl); signature = holder_close_valid; receiver = refl; kind = tt; body = refl; bodiless = (refl, refl, refl) }, (record { listed = (3, lit< tt, refl); signature = main_valid; receiver = refl; kind = tt; body = refl; bodiless = (refl, refl, refl) }, tt)))))) at

typed : IsTypedProgram opening
typed = record {
  numbered = numbered;
  core = core;
  hierarchy = opening_hierarchy;
  exceptions = exceptions;
  classes = valid_classes;
  members = members;
  fields = valid_fields;
  methods = valid_methods;
  bodies = valid_bodies;
  ignored = all_of (HasClass opening) (runtime_exception ∷ error ∷ []) (lit< tt, (lit< tt, tt));
  exact = all_none (HasClass opening);
}

pub valid_program : IsValid opening
valid_program = record { typed = typed; ordered = ordered_bodies; same_initializers = same_initializers }

pub has_bodies : HasBodies opening
has_bodies m x at =
    holds_at (λ i (y : Method). RunsBody opening y → IsSomeAnd y.body (λ b. Unit {0})) opening.methods.items m.0 x
    (λ runs. absurd (true≢false runs.2), (λ runs. absurd (true≢false runs.2), (λ runs. tt, (λ runs. tt, (λ runs. tt, (λ runs. tt, tt)))))) at
