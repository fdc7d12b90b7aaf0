-- In an accepted program an exception that ends a body leaves each call at which the body's method may run.
use Rattle.std.proofs.Common.{◌≡◌, refl, subst, false, Option, Some, None}
use Rattle.std.specs.Option.{IsSomeAnd}
use Rattle.program_model.specs.declared.kinds.BodyId.{BodyId}
use Rattle.program_model.specs.declared.kinds.ClassId.{ClassId}
use Rattle.program_model.specs.declared.kinds.MethodId.{MethodId}
use Rattle.program_model.specs.declared.program.Class.{Class}
use Rattle.program_model.specs.declared.program.Method.{Method}
use Rattle.program_model.specs.declared.program.Program.{Program}
use Rattle.program_model.specs.declared.tree.Body.{Body}
use Rattle.program_model.specs.Hierarchy.{IsUnder}
use Rattle.program_model.specs.Lookups.{body_at, class_at, method_at}
use Rattle.program_model.specs.Overrides.{is_library, is_library_in}
use Rattle.program_model.specs.Validity.{IsBodyOf, IsTypedProgram, MayHaveBody, RunsBody}
use Rattle.accepted_programs.specs.Accept.{Accept}
use Rattle.accepted_programs.specs.Conditions.{HasWholeLibrary}
use Rattle.dispatch_laws.specs.PlainForms.{MayRun}
use Rattle.dispatch_laws.proofs.Calls.{keeps_signature}
use Rattle.exception_laws.specs.Ends.{EndsBy, LeavesCall}
use Rattle.exception_laws.proofs.LeavingCalls.{leaves_call}

not_of_library : (o : Option Class) → IsSomeAnd o (λ k. k.library ≡ false) → is_library_in o ≡ false
not_of_library None h = absurd h
not_of_library (Some k) h = h

-- a method that has a body is one of the program
own_method : (p : Program) → IsTypedProgram p → (b : BodyId) (m : MethodId) (x : Method) → method_at p m ≡ Some x → x.body ≡ Some b → is_library p x.class ≡ false
own_method p typed b m x at is =
    let runs : RunsBody p x = subst (λ (o : Option BodyId). MayHaveBody p x o) is (typed.methods m x at).bodiless in
    not_of_library (class_at p x.class) runs.2

pub accepted_leaves_call : (p : Program) → Accept p → HasWholeLibrary p → (n : BodyId) (b : Body) → body_at p n ≡ Some b → (m : MethodId) (named : Method) → MayRun p m b.method → method_at p m ≡ Some named → (c : ClassId) → EndsBy p n c → (e : ClassId) → IsUnder p e c → LeavesCall p named e
accepted_leaves_call p accepted whole n b here m named may at_named c ends e below = step (method_at p b.method) refl (typed.bodies n b here).method
  where
    typed : IsTypedProgram p
    typed = accepted.well_formed.valid.typed

    step : (o : Option Method) → method_at p b.method ≡ o → IsSomeAnd o (IsBodyOf n b) → LeavesCall p named e
    step None at is = absurd is
    step (Some x) at is =
        let own = own_method p typed n b.method x at is.0 in
        leaves_call p typed accepted.covers n b here x named at (keeps_signature p accepted whole m b.method named x may at_named at own).throws c ends e below
