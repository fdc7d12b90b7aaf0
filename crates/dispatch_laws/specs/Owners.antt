-- Classes with owning fields, and the must-call methods that they declare.
use Rattle.std.specs.Prelude.{◌≡◌, true, false, Some}
use Rattle.std.specs.FinSet as set
use Rattle.rlc_base.specs.declared.name_id.NameId.{NameId}
use Rattle.program_model.specs.declared.kinds.FieldId.{FieldId}
use Rattle.program_model.specs.declared.kinds.MethodId.{MethodId}
use Rattle.program_model.specs.declared.program.Field.{Field}
use Rattle.program_model.specs.declared.program.Method.{Method}
use Rattle.program_model.specs.declared.program.Program.{Program}
use Rattle.program_model.specs.Lookups.{field_at, method_at}
use Rattle.program_model.specs.Overrides.{is_abstract, is_library}
use Rattle.program_model.specs.SuperTests.{is_under}
use Rattle.annotation_rules.specs.MustCallSets.{must_of}
use Rattle.agreement.specs.LedgerCallsCalls.{overriding_in}

-- the must-call method that a class with owning fields declares, which is no abstract class of the program, is the one that its objects run,
-- whichever method of this name a call names
abbrev pub RunsOwnMethods : Program → Type 0
RunsOwnMethods p = (named m : MethodId) (n d : Method) (f : FieldId) (x : Field) (i : NameId) → method_at p named ≡ Some n → method_at p m ≡ Some d
    → (is_library p d.class ≡ false → is_abstract p d.class ≡ false) → field_at p f ≡ Some x → x.owning ≡ true → x.class ≡ d.class → n.sig.interest ≡ Some i → d.sig.interest ≡ Some i
    → set.contains (must_of p d.class) i.0 ≡ true → is_under p d.class n.class ≡ true → overriding_in p named (method_at p named) d.class ≡ m
