-- A method that has a body is the program's.
use Rattle.std.proofs.Common.{◌≡◌, false, Option, Some, None, IsSomeAnd, sym, ap, ◌∙◌, subst}
use Rattle.program_model.specs.declared.kinds.BodyId.{BodyId}
use Rattle.program_model.specs.declared.kinds.MethodId.{MethodId}
use Rattle.program_model.specs.declared.program.Class.{Class}
use Rattle.program_model.specs.declared.program.Method.{Method}
use Rattle.program_model.specs.declared.program.Program.{Program}
use Rattle.program_model.specs.Lookups.{class_at, method_at}
use Rattle.program_model.specs.Overrides.{is_library, is_library_in}
use Rattle.program_model.specs.Validity.{MayHaveBody}
use Rattle.content_laws.specs.Accept.{Accept}
use Rattle.ledger_steps.specs.LedgerCallsCalls.{body_of}
use Rattle.content_laws.specs.Choosing.{body_id}

not_library : (k : Option Class) → IsSomeAnd k (λ x. x.library ≡ false) → is_library_in k ≡ false
not_library None is = absurd is
not_library (Some k) is = is

pub is_programs : (p : Program) (ac : Accept p) (m : MethodId) (x : Method) (b : BodyId) → method_at p m ≡ Some x → body_id p m ≡ Some b → is_library p x.class ≡ false
is_programs p ac m x b at id = not_library (class_at p x.class) (subst (MayHaveBody p x) (sym (ap body_of at) ∙ id) (ac.well_formed.valid.typed.methods m x at).bodiless).2
