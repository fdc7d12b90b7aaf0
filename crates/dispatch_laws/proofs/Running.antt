-- Which methods may run at a call.
use Rattle.std.proofs.Common.{◌≡◌, ◌∙◌, ◌⊎◌, inl, inr, ap, refl, sym, subst, true≢false, Bool, true, false, ◌||◌, not, None, Some}
use Rattle.program_model.specs.declared.kinds.ClassId.{ClassId}
use Rattle.program_model.specs.declared.kinds.MethodId.{MethodId}
use Rattle.program_model.specs.declared.program.Method.{Method}
use Rattle.program_model.specs.declared.program.Program.{Program}
use Rattle.program_model.specs.Lookups.{method_at}
use Rattle.program_model.specs.Overrides.{is_abstract, is_library}
use Rattle.agreement.specs.AcceptedProgramsConditions.{HasWholeLibrary}
use Rattle.agreement.specs.Accept.{Accept}
use Rattle.agreement.specs.PlainForms.{MayRun, by_class, by_name, may_be_made, run_by}
use Rattle.agreement.specs.LedgerCallsCalls.{overriding, overriding_in}
use Rattle.program_model.specs.Validity.{IsTypedProgram}
use Rattle.program_model.proofs.HierarchyLaws.{is_under_law}
use Rattle.dispatch_laws.proofs.OverridingRuns.{dispatched}
use Rattle.dispatch_laws.specs.Dispatch.{IsOverriding}
use Rattle.dispatch_laws.proofs.Lists.{some_is}
use Rattle.dispatch_laws.proofs.Overriding.{library_runs, named_or_overriding}

-- an object of an abstract class of the library runs the method, which is one of the library
pub record RunsAbstractly (p : Program) (m : MethodId) (x : Method) : Type 0 where
  pub class : ClassId
  pub library : is_library p class ≡ true
  pub abstract : is_abstract p class ≡ true
  pub at : method_at p (run_by p m class) ≡ Some x
  pub declared : is_library p x.class ≡ true

-- the method that runs is the named one, or overrides it, or an object of an abstract class of the library runs it
pub data RunsAs (p : Program) (m r : MethodId) (n x : Method) : Type 0 where
  the_named : r ≡ m → x ≡ n → RunsAs p m r n x
  overriding_one : IsOverriding p x n → RunsAs p m r n x
  of_abstract : RunsAbstractly p m x → RunsAs p m r n x

module _ (p : Program) (ac : Accept p) (whole : HasWholeLibrary p) (m : MethodId) (n x : Method) (at_n : method_at p m ≡ Some n) where
  itself : (r : MethodId) → r ≡ m → method_at p r ≡ Some x → RunsAs p m r n x
  itself r same at_x = the_named same (some_is x n (sym at_x ∙ ap (method_at p) same ∙ at_n))

  concrete : (c : ClassId) → is_abstract p c ≡ false → method_at p (overriding_in p m (Some n) c) ≡ Some x → RunsAs p m (overriding_in p m (Some n) c) n x
  concrete c is at =
      elim (named_or_overriding p ac.well_formed.valid.typed ac.overriding ac.declares_once m n x c at_n is at) [
        | inl same ↦ itself (overriding_in p m (Some n) c) same at
        | inr over ↦ overriding_one over
      ]

  abstract_one : (c : ClassId) → is_library p c ≡ true → is_abstract p c ≡ true → method_at p (run_by p m c) ≡ Some x → RunsAs p m (run_by p m c) n x
  unfolding run_by
  abstract_one c library is at =
      let at' : method_at p (overriding_in p m (Some n) c) ≡ Some x = ap (λ o. method_at p (overriding_in p m o c)) (sym at_n) ∙ at in
      elim (library_runs p ac.well_formed.valid.typed whole m n x c at_n library at') [
        | inl same ↦ itself (overriding_in p m (method_at p m) c) (ap (λ o. overriding_in p m o c) at_n ∙ same) at
        | inr declared ↦ of_abstract (record { class = c; library = library; abstract = is; at = at; declared = declared })
      ]

  of_class : (c : ClassId) → may_be_made p c ≡ true → (library abstract : Bool) → is_library p c ≡ library → is_abstract p c ≡ abstract → method_at p (run_by p m c) ≡ Some x → RunsAs p m (run_by p m c) n x
  unfolding run_by
  of_class c made library false is_l is_a at =
      subst (λ o. RunsAs p m (overriding_in p m o c) n x) (sym at_n) (concrete c is_a (ap (λ o. method_at p (overriding_in p m o c)) (sym at_n) ∙ at))
  of_class c made true true is_l is_a at = abstract_one c is_l is_a at
  of_class c made false true is_l is_a at = absurd (true≢false (sym made ∙ ap (λ b. b || not (is_abstract p c)) is_l ∙ ap not is_a))

  pub runs_as : (r : MethodId) → MayRun p m r → method_at p r ≡ Some x → RunsAs p m r n x
  runs_as _ by_name at = itself m refl at
  runs_as _ (by_class c made) at = of_class c made (is_library p c) (is_abstract p c) refl refl at

-- an object of an abstract class of the library runs the named method itself, or that is one of the library too
pub abstract_above : (p : Program) → IsTypedProgram p → HasWholeLibrary p → (m : MethodId) (n x : Method) → method_at p m ≡ Some n → RunsAbstractly p m x → (x ≡ n) ⊎ (is_library p n.class ≡ true)
unfolding run_by
abstract_above p typed whole m n x at_n runs =
    let at : method_at p (overriding p m n runs.class) ≡ Some x = ap (λ o. method_at p (overriding_in p m o runs.class)) (sym at_n) ∙ runs.at in
    elim (dispatched p m n runs.class) [
      | inl same ↦ inl (some_is x n (sym at ∙ ap (method_at p) same ∙ at_n))
      | inr other ↦ inr (whole runs.class n.class ((is_under_law p typed.hierarchy runs.class n.class).0 other.1) runs.library)
    ]

-- what names no method runs none
pub none_runs : (p : Program) (m r : MethodId) → MayRun p m r → method_at p m ≡ None → method_at p r ≡ None
unfolding run_by
none_runs p m _ by_name at = at
none_runs p m _ (by_class c made) at = rw at at
