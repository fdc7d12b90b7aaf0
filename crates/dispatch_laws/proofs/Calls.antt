-- Calls are plain ones.
use Rattle.std.proofs.Common.{◌≡◌, ◌∙◌, ◌⊎◌, inl, inr, ap, refl, sym, subst, true≢false, Bool, true, false, Option, Some, None, Contains}
use Rattle.program_model.specs.declared.kinds.ClassId.{ClassId}
use Rattle.program_model.specs.declared.kinds.MethodId.{MethodId}
use Rattle.program_model.specs.declared.kinds.MethodKind.TheVariants as methods
use Rattle.program_model.specs.declared.program.Method.{Method}
use Rattle.program_model.specs.declared.program.Program.{Program}
use Rattle.program_model.specs.Lookups.{method_at}
use Rattle.program_model.specs.Overrides.{are_alike, is_library, is_static_kind, method_run, methods_of}
use Rattle.agreement.specs.AcceptedProgramsConditions.{HasWholeLibrary}
use Rattle.annotation_rules.specs.MustCallSets.{is_empty, must_of_optional}
use Rattle.agreement.specs.ClassOperands.{IsNotAboveString, OfClass}
use Rattle.agreement.specs.Conditions.{KeepsObligations}
use Rattle.agreement.specs.Accept.{Accept}
use Rattle.agreement.specs.LedgerCallsCalls.{overriding, overriding_in}
use Rattle.agreement.specs.OverrideCases.{promises_on_field}
use Rattle.agreement.specs.Obligations.{is_library_method}
use Rattle.agreement.specs.PlainForms.{IsPlainCall, KeepsPromises, LibraryRunsFor, MayRun, RunsFor, all_owe_nothing, by_class, by_name, run_by}
use Rattle.agreement.proofs.Alike.{alike_at, alike_itself}
use Rattle.dispatch_laws.specs.Dispatch.{IsOverriding, IsRightOverriding, KeepsSignature}
use Rattle.dispatch_laws.proofs.Lists.{some_is}
use Rattle.dispatch_laws.proofs.Overriding.{right_overriding}
use Rattle.dispatch_laws.proofs.OverridingRuns.{class_of_declared, declared_there, declaring_class, dispatched, own_first}
use Rattle.dispatch_laws.proofs.OverridingSignatures.{own_signature}
use Rattle.dispatch_laws.proofs.PairClasses.{stand_together}
use Rattle.dispatch_laws.specs.PlainCalls.{FieldsPromisedAlone}
use Rattle.dispatch_laws.proofs.Results.{class_result, no_result}
use Rattle.dispatch_laws.proofs.Running.{RunsAs, abstract_above, none_runs, of_abstract, overriding_one, runs_as, the_named}
use Rattle.dispatch_laws.proofs.DispatchSignatures.{library_runs_for, named_runs_for, overriding_keeps, overriding_runs_for}

-- what promises on a field is overridden by none: an object that runs it is of its class, which runs its own methods first
runs_itself : (p : Program) → Accept p → FieldsPromisedAlone p → (m : MethodId) (n x : Method) → method_at p m ≡ Some n → promises_on_field n.sig.promises.items ≡ true → are_alike x n ≡ true → n.kind ≡ methods.Instance
    → (r : MethodId) → MayRun p m r → method_at p r ≡ Some x → r ≡ m
unfolding run_by
runs_itself p ac alone m n x at_n on_field alike kind _ by_name at = refl
runs_itself p ac alone m n x at_n on_field alike kind _ (by_class c made) at =
    ap (λ o. overriding_in p m o c) at_n ∙ of_class (ap (λ o. method_at p (overriding_in p m o c)) (sym at_n) ∙ at)
  where
    of_class : method_at p (overriding p m n c) ≡ Some x → overriding p m n c ≡ m
    of_class at_x =
        elim (dispatched p m n c) [
          | inl same ↦ same
          | inr other ↦ of_run other.0 (alone m n c at_n on_field other.1) other.2 other.3 (sym (ap (method_at p) other.3) ∙ at_x)
        ]
      where
        of_run : (r : MethodId) → c ≡ n.class → method_run p n c ≡ Some r → overriding p m n c ≡ r → method_at p r ≡ Some x → overriding p m n c ≡ m
        of_run r here run runs at_r =
            let typed = ac.well_formed.valid.typed in
            let declared : Contains (methods_of p n.class) m = declared_there p typed m n at_n in
            let known = declaring_class p n.class m declared in
            let itself : are_alike n n ≡ true = alike_itself x n alike (ap is_static_kind kind) in
            let run' : method_run p n n.class ≡ Some r = ap (method_run p n) (sym here) ∙ run in
            let own : Contains (methods_of p n.class) r = own_first p n n.class known.0 m r known.1 declared (alike_at p n n m at_n itself) run' in
            runs ∙ ac.declares_once r m x n at_r at_n (class_of_declared p typed n.class r x own at_r) alike

module _ (p : Program) (ac : Accept p) (whole : HasWholeLibrary p) (m r : MethodId) (n x : Method) (may : MayRun p m r) (at_n : method_at p m ≡ Some n) (at_x : method_at p r ≡ Some x) where
  how : RunsAs p m r n x
  how = runs_as p ac whole m n x at_n r may at_x

  -- what promises on a field runs alone
  alone_runs : IsOverriding p x n → promises_on_field n.sig.promises.items ≡ true → FieldsPromisedAlone p → r ≡ m
  alone_runs over on_field alone =
      let right = right_overriding p ac.well_formed ac.overriding x n over in
      runs_itself p ac alone m n x at_n on_field right.alike right.named_kind r may at_x

  -- ---- methods of the program that may run

  module _ (own : is_library p x.class ≡ false) where
    named_or : RunsAs p m r n x → ((r ≡ m) × (x ≡ n)) ⊎ IsOverriding p x n
    named_or (the_named same one) = inl (same, one)
    named_or (overriding_one over) = inr over
    named_or (of_abstract runs) = absurd (true≢false (sym runs.declared ∙ own))

    pub named_or_overriding_runs : (r ≡ m) ⊎ IsOverriding p x n
    named_or_overriding_runs = elim (named_or how) [ inl same ↦ inl same.0 | inr over ↦ inr over ]

    pub runs_for : RunsFor p n x
    runs_for = elim (named_or how) [ inl same ↦ named_runs_for p ac m r n x at_n at_x same.1 own | inr over ↦ overriding_runs_for p ac m r n x at_n at_x over own ]

    -- it keeps the signature, its kind, and what its results may be
    pub keeps_signature : KeepsSignature p x n
    keeps_signature =
        elim (named_or how) [
          | inl same ↦ subst (λ (z : Method). KeepsSignature p z n) (sym same.1) (own_signature p ac.well_formed.valid.typed.hierarchy n)
          | inr over ↦ (right_overriding p ac.well_formed ac.overriding x n over).signature
        ]

    pub instance_runs : n.kind ≡ methods.Instance → x.kind ≡ methods.Instance
    instance_runs kind =
        elim (named_or how) [ inl same ↦ ap (λ (z : Method). z.kind) same.1 ∙ kind | inr over ↦ (right_overriding p ac.well_formed ac.overriding x n over).kind ]

    pub no_result_runs : n.sig.result ≡ None → x.sig.result ≡ None
    no_result_runs none = no_result p x.sig.result n.sig.result keeps_signature.result_type none

    pub class_runs : (bound : ClassId) → IsNotAboveString p bound → OfClass p bound n.sig.result → OfClass p bound x.sig.result
    class_runs bound texts to =
        class_result p bound ac.well_formed.valid.typed texts x.sig.result n.sig.result
        (ac.well_formed.valid.typed.methods r x at_x).signature.result (ac.well_formed.valid.typed.methods m n at_n).signature.result keeps_signature.result_type to

    module _ (alone : FieldsPromisedAlone p) where
      overriding_promises : IsOverriding p x n → (b : Bool) → promises_on_field n.sig.promises.items ≡ b → KeepsPromises n x ⊎ (r ≡ m)
      overriding_promises over true on_field = inr (alone_runs over on_field alone)
      overriding_promises over false none = inl (overriding_keeps p ac n x over none)

      pub keeps_promises : KeepsPromises n x ⊎ (r ≡ m)
      keeps_promises = elim (named_or how) [ inl same ↦ inr same.0 | inr over ↦ overriding_promises over (promises_on_field n.sig.promises.items) refl ]

    module _ (keeps : KeepsObligations p) where
      together : IsOverriding p x n → n.sig.owning_result ≡ true → is_empty (must_of_optional p x.sig.result) ≡ true → (is_empty (must_of_optional p n.sig.result) ≡ true) ⊎ (all_owe_nothing p x.sig.result ≡ true)
      together over owning light =
          let both = stand_together p ac.well_formed.valid.typed x n over in
          let right = right_overriding p ac.well_formed ac.overriding x n over in
          keeps both.number both.class' m r n x both.at both.named both.other at_n at_x right.alike right.named_kind owning light

      pub light_runs : n.sig.owning_result ≡ true → is_empty (must_of_optional p x.sig.result) ≡ true → (is_empty (must_of_optional p n.sig.result) ≡ true) ⊎ (all_owe_nothing p x.sig.result ≡ true)
      light_runs owning light =
          elim (named_or how) [
            | inl same ↦ inl (subst (λ (z : Method). is_empty (must_of_optional p z.sig.result) ≡ true) same.1 light)
            | inr over ↦ together over owning light
          ]

  -- ---- methods of the library that may run

  module _ (library : is_library p x.class ≡ true) where
    abbrev Answers : Type 0
    Answers = (is_library_method p (method_at p m) ≡ true) ⊎ LibraryRunsFor p m r

    of_library : is_library p n.class ≡ true → Answers
    of_library declared = inl (ap (is_library_method p) at_n ∙ declared)

    -- it overrides a method of the program
    overriding_answers : is_library p n.class ≡ false → IsOverriding p x n → promises_on_field n.sig.promises.items ≡ false → Answers
    overriding_answers own over no_field =
        let right : IsRightOverriding p x n = right_overriding p ac.well_formed ac.overriding x n over in
        inr (record {
          method = n;
          named_at = at_n;
          running = x;
          running_at = at_x;
          kind = right.named_kind;
          fit = library_runs_for p ac m r n x at_n at_x over own;
          result = right.signature.result_type;
          keeps = overriding_keeps p ac n x over no_field;
        })

    -- what promises on a field would run itself, and is the program's
    no_field : FieldsPromisedAlone p → is_library p n.class ≡ false → IsOverriding p x n → promises_on_field n.sig.promises.items ≡ false
    no_field alone own over = go (promises_on_field n.sig.promises.items) refl
      where
        go : (b : Bool) → promises_on_field n.sig.promises.items ≡ b → promises_on_field n.sig.promises.items ≡ false
        go false none = none
        go true on_field =
            let one : x ≡ n = some_is x n (sym at_x ∙ ap (method_at p) (alone_runs over on_field alone) ∙ at_n) in
            absurd (true≢false (sym library ∙ ap (λ (z : Method). is_library p z.class) one ∙ own))

    by_declared : FieldsPromisedAlone p → (b : Bool) → is_library p n.class ≡ b → RunsAs p m r n x → Answers
    by_declared alone true declared way = of_library declared
    by_declared alone false own (the_named same one) = absurd (true≢false (sym library ∙ ap (λ (z : Method). is_library p z.class) one ∙ own))
    by_declared alone false own (overriding_one over) = overriding_answers own over (no_field alone own over)
    by_declared alone false own (of_abstract runs) = absurd (elim (abstract_above p ac.well_formed.valid.typed whole m n x at_n runs) [
      | inl one ↦ true≢false (sym library ∙ ap (λ (z : Method). is_library p z.class) one ∙ own)
      | inr declared ↦ true≢false (sym declared ∙ own)
    ])

    pub library_answers : FieldsPromisedAlone p → Answers
    library_answers alone = by_declared alone (is_library p n.class) refl how

-- what the library runs at a call that names the method
library_runs_plainly : (p : Program) → Accept p → HasWholeLibrary p → FieldsPromisedAlone p → (m r : MethodId) → MayRun p m r → is_library_method p (method_at p r) ≡ true
    → (is_library_method p (method_at p m) ≡ true) ⊎ LibraryRunsFor p m r
library_runs_plainly p ac whole alone m r may library = by (method_at p m) refl (method_at p r) refl library
  where
    by : (n : Option Method) → method_at p m ≡ n → (x : Option Method) → method_at p r ≡ x → is_library_method p x ≡ true → (is_library_method p (method_at p m) ≡ true) ⊎ LibraryRunsFor p m r
    by n at_n None at_x is = absurd (true≢false (sym is))
    by None at_n (Some x) at_x is = absurd (let never : None ≡ Some x = sym (none_runs p m r may at_n) ∙ at_x in cc)
    by (Some n) at_n (Some x) at_x is = library_answers p ac whole m r n x may at_n at_x is alone

pub plain_call : (p : Program) → Accept p → HasWholeLibrary p → FieldsPromisedAlone p → (m : MethodId) → IsPlainCall p m
plain_call p ac whole alone m = record {
  library = λ r may is. library_runs_plainly p ac whole alone m r may is;
  program = λ r n x may at_n at_x own. runs_for p ac whole m r n x may at_n at_x own;
  keeps = λ r n x may at_n at_x own. keeps_promises p ac whole m r n x may at_n at_x own alone;
}
