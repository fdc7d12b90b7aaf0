-- Whether the object that a call of the library makes is what the signature declares.
use Rattle.std.specs.Prelude.{◌≡◌, true, Option, Some, None, MatchBool}
use Rattle.program_model.specs.declared.kinds.ClassId.{ClassId}
use Rattle.program_model.specs.declared.kinds.MethodKind.{MethodKind}
use Rattle.program_model.specs.declared.kinds.VType.TheVariants as types
use Rattle.program_model.specs.declared.program.Method.{Method}
use Rattle.program_model.specs.declared.program.Program.{Program}
use Rattle.ledger_obligations.specs.Bodies.{is_constructor_kind}
use Rattle.ledger_obligations.specs.MustCallSets.{fits}
use Rattle.stub_conduct.specs.declared.choice.Conduct.{Conduct}
use Rattle.stub_conduct.specs.declared.choice.Conduct.TheVariants as conducts

-- a constructor makes its own class; another method makes an object of whose class no more must be called than of its result's
abbrev pub FitsKind : Program → MethodKind → Method → Conduct → Type 0
FitsKind p k m (conducts.Fresh e) = MatchBool (is_constructor_kind k) (m.class ≡ e) ((c : ClassId) × (m.sig.result ≡ Some (types.Obj c)) × (fits p e c ≡ true))
FitsKind p k m d = Unit {0}

-- the same of a method by its number; one that is not there makes nothing
abbrev pub FitsMethod : Program → Option Method → Conduct → Type 0
FitsMethod p None (conducts.Fresh e) = ⊥
FitsMethod p None d = Unit {0}
FitsMethod p (Some m) d = FitsKind p m.kind m d
