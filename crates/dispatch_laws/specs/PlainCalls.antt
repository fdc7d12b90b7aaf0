-- What calls need beside the rules on overriding, so that what callers are told by the signature that a call names holds of whatever runs.
use Rattle.std.specs.Prelude.{◌≡◌, true, Some}
use Rattle.program_model.specs.declared.kinds.ClassId.{ClassId}
use Rattle.program_model.specs.declared.kinds.MethodId.{MethodId}
use Rattle.program_model.specs.declared.program.Method.{Method}
use Rattle.program_model.specs.declared.program.Program.{Program}
use Rattle.program_model.specs.Lookups.{method_at}
use Rattle.program_model.specs.SuperTests.{is_under}
use Rattle.agreement.specs.OverrideCases.{promises_on_field}

-- What promises on a field is a method of a class that has no class under it but itself.
abbrev pub FieldsPromisedAlone : Program → Type 0
FieldsPromisedAlone p = (m : MethodId) (n : Method) (c : ClassId) → method_at p m ≡ Some n → promises_on_field n.sig.promises.items ≡ true → is_under p c n.class ≡ true → c ≡ n.class
