-- A well formed program: it is valid, its bodies are all there, and no rule on signatures refuses it.
--
-- Some of it is still owed, until the layers that define it stand below: that no class has two members of one signature or name
-- (JLS 8.3, 8.4); that each super type is of a right kind and may be extended (JLS 8.1.1.2, 8.1.4, 8.1.5); that no exception is
-- undeclared; that overriding methods and classes with abstract methods are as Java asks, and that no call by `super` names a
-- method without a body (JLS 8.4.8, 8.1.1.1, 15.12.3); that annotations stand where they may, with values that they may have; and
-- that sets, signatures, owning fields and the table of names, of at most 128, are what the annotations, with their defaults, say.
use Rattle.std.specs.Prelude.{◌≡◌, ◌<◌, Bool, false, ◌&&◌, nat_eq, nat_lt, Option, Some, None, [], length, if◌then◌else◌}
use Rattle.rlc_base.specs.declared.name_id.NameId.{NameId}
use Rattle.rlc_base.specs.Names.{place_of}
use Rattle.program_model.specs.declared.kinds.MethodId.{MethodId}
use Rattle.program_model.specs.declared.kinds.BodyId.{BodyId}
use Rattle.program_model.specs.declared.program.Program.{Program}
use Rattle.program_model.specs.declared.program.Method.{Method}
use Rattle.program_model.specs.declared.tree.Body.{Body}
use Rattle.program_model.specs.Lookups.{method_at, body_at}
use Rattle.program_model.specs.Validity.{IsValid, HasBodies}
use Rattle.must_call_sets.specs.AliasCases.{alias_cases}
use Rattle.must_call_sets.specs.Assigned.{assigns_spoken}
use Rattle.must_call_sets.specs.Bodies.{is_instance_kind}
use Rattle.must_call_sets.specs.OverrideCases.{override_cases}
use Rattle.must_call_sets.specs.OwningCases.{owning_cases}
use Rattle.must_call_sets.specs.ResetCases.{reset_cases}

-- an instance method without parameters
abbrev pub is_plain : Method → Bool
is_plain m = is_instance_kind m.kind && nat_eq (length m.sig.params.items) 0

-- the name by which a call of the method counts: that of an instance method without parameters, where the table of names
-- holds it
abbrev pub interest_of : Program → Method → Option NameId
interest_of p m = if is_plain m && nat_lt (place_of p.names m.name) (length p.names) then Some (record { 0 = place_of p.names m.name }) else None

-- each name of interest is one that sets of names have room for, as all names of the table are
abbrev pub HasSmallInterests : Program → Type 0
HasSmallInterests p = (m : MethodId) (x : Method) (n : NameId) → method_at p m ≡ Some x → x.sig.interest ≡ Some n → n.0 < 128

pub record IsWellFormed (p : Program) : Type 0 where
  pub valid : IsValid p
  pub bodies : HasBodies p
  pub interests : (m : MethodId) (x : Method) → method_at p m ≡ Some x → x.sig.interest ≡ interest_of p x
  pub unassigned : (b : BodyId) (x : Body) → body_at p b ≡ Some x → assigns_spoken p x ≡ false
  pub aliases : alias_cases p ≡ []
  pub overrides : override_cases p ≡ []
  pub owning : owning_cases p ≡ []
  pub resets : reset_cases p ≡ []
