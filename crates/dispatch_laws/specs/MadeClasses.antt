-- Of which class the object is that a call of the library makes.
use Rattle.std.specs.Prelude.{◌≡◌, true}
use Rattle.program_model.specs.declared.program.Program.{Program}
use Rattle.agreement.specs.PlainForms.{may_be_made}
use Rattle.stub_conduct.specs.declared.choice.Conduct.{Conduct}
use Rattle.stub_conduct.specs.declared.choice.Conduct.TheVariants as conducts

-- what the call makes, a result or an exception, is of a class of which there may be objects
abbrev pub HasMadeClass : Program → Conduct → Type 0
HasMadeClass p (conducts.Throws e) = may_be_made p e ≡ true
HasMadeClass p (conducts.Fresh e) = may_be_made p e ≡ true
HasMadeClass p d = Unit {0}
