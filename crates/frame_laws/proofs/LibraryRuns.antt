-- What runs of the library at a call that names a method of the library itself, or one of the program.
use Rattle.std.proofs.Common.{◌≡◌, ◌∙◌, inl, inr, ap, refl, sym, subst, true≢false, Bool, true, false, ◌&&◌, Option, Some, None}
use Rattle.std.specs.List.{All}
use Rattle.std.specs.Prelude.{not}
use Rattle.std.specs.FinSet as set
use Rattle.std.proofs.lemmas.Bool.{and_from}
use Rattle.program_model.specs.declared.kinds.ClassId.{ClassId}
use Rattle.program_model.specs.declared.kinds.MethodId.{MethodId}
use Rattle.program_model.specs.declared.kinds.MethodKind.{MethodKind}
use Rattle.program_model.specs.declared.kinds.MethodKind.TheVariants as methods
use Rattle.program_model.specs.declared.kinds.VType.{VType}
use Rattle.program_model.specs.declared.kinds.VType.TheVariants as types
use Rattle.program_model.specs.declared.program.Method.{Method}
use Rattle.program_model.specs.declared.program.Program.{Program}
use Rattle.program_model.specs.declared.program.Promise.{Promise}
use Rattle.program_model.specs.Lookups.{method_at}
use Rattle.program_model.specs.Validity.{is_class_type}
use Rattle.ownership_rules.specs.Bodies.{constructs, is_constructor_kind}
use Rattle.ownership_rules.specs.MustCallSets.{must_of, must_of_optional}
use Rattle.ownership_rules.specs.OverrideCases.{differ}
use Rattle.ownership_rules.specs.Signatures.{is_present}
use Rattle.stub_conduct.specs.declared.choice.Conduct.{Conduct}
use Rattle.stub_conduct.specs.declared.choice.Conduct.TheVariants as conducts
use Rattle.ledger_steps.specs.LedgerCallsCalls.{alias_position}
use Rattle.ledger_steps.specs.Conducts.{promises_by}
use Rattle.agreement.specs.Results.{is_result_under}
use Rattle.agreement.specs.PlainForms.{IsAnsweredBy, IsKeptBy, LibraryRunsFor}

module _ (p : Program) (named m : MethodId) where
  -- ---- the named method

  pub runs_no_constructor : LibraryRunsFor p named m → constructs (method_at p named) ≡ true → ⊥
  runs_no_constructor runs new = true≢false (sym new ∙ ap constructs runs.named_at ∙ ap is_constructor_kind runs.kind)

  constant_is_none : (k : MethodKind) → k ≡ methods.Constant → k ≡ methods.Instance → ⊥
  constant_is_none k constant instance = let never : methods.Constant ≡ methods.Instance = sym constant ∙ instance in cc

  pub runs_no_constant : LibraryRunsFor p named m → (x : Method) → method_at p named ≡ Some x → x.kind ≡ methods.Constant → ⊥
  runs_no_constant runs x at kind =
      let one : x ≡ runs.method = (let both : Some x ≡ Some runs.method = sym at ∙ runs.named_at in cc) in
      constant_is_none runs.method.kind (ap (λ (z : Method). z.kind) (sym one) ∙ kind) runs.kind

  -- a constructor runs itself
  pub constructor_itself : IsAnsweredBy p named m → constructs (method_at p named) ≡ true → m ≡ named
  constructor_itself (inl same) new = same
  constructor_itself (inr runs) new = absurd (runs_no_constructor runs new)

  -- it gives an alias of the same argument
  pub one_alias : IsAnsweredBy p named m → alias_position (method_at p m) ≡ alias_position (method_at p named)
  one_alias (inl same) = ap (λ (z : MethodId). alias_position (method_at p z)) same
  one_alias (inr runs) = ap alias_position runs.running_at ∙ runs.fit.alias ∙ sym (ap alias_position runs.named_at)

  module _ (runs : LibraryRunsFor p named m) where
    -- ---- results

    result_of_class : (o : Option VType) → runs.method.sig.result ≡ o → (c : ClassId) → runs.running.sig.result ≡ Some (types.Obj c) → (r : ClassId) × (runs.method.sig.result ≡ Some (types.Obj r))
    result_of_class None is c gives =
        absurd (true≢false (sym runs.result ∙ ap (λ (o : Option VType). is_result_under p o runs.method.sig.result) gives ∙ ap (is_result_under p (Some (types.Obj c))) is))
    result_of_class (Some t) is c gives = by (is_class_type t) refl
      where
        of_class : (u : VType) → t ≡ u → is_class_type u ≡ true → (r : ClassId) × (runs.method.sig.result ≡ Some (types.Obj r))
        of_class (types.Obj r) same wide = (r, is ∙ ap Some same)
        of_class (types.Primitive k) same wide = absurd (true≢false (sym wide))
        of_class types.Str same wide = absurd (true≢false (sym wide))
        of_class (types.Arr e) same wide = absurd (true≢false (sym wide))
        of_class types.NullType same wide = absurd (true≢false (sym wide))

        by : (b : Bool) → is_class_type t ≡ b → (r : ClassId) × (runs.method.sig.result ≡ Some (types.Obj r))
        by true wide = of_class t refl wide
        by false light =
            let same : t ≡ types.Obj c = (let both : Some t ≡ Some (types.Obj c) = sym (runs.fit.kind t is light) ∙ gives in cc) in
            absurd (true≢false (sym (ap is_class_type same) ∙ light))

    -- where it gives an object, the named method gives one
    pub named_result : (c : ClassId) → runs.running.sig.result ≡ Some (types.Obj c) → (r : ClassId) × (runs.method.sig.result ≡ Some (types.Obj r))
    named_result c gives = result_of_class runs.method.sig.result refl c gives

    same_mark : (a b : Bool) → differ a b ≡ false → a ≡ b
    same_mark true true is = refl
    same_mark true false is = absurd (true≢false is)
    same_mark false true is = absurd (true≢false is)
    same_mark false false is = refl

    -- and as an owning result where the named one does
    pub one_owning : (t : VType) → runs.running.sig.result ≡ Some t → runs.running.sig.owning_result ≡ runs.method.sig.owning_result
    one_owning t gives =
        same_mark runs.running.sig.owning_result runs.method.sig.owning_result
        (ap (λ (o : Option VType). is_present o && differ runs.running.sig.owning_result runs.method.sig.owning_result) (sym gives) ∙ runs.fit.result)

    -- what must be called on an owning result must be called on the named one's
    pub result_within : (c r : ClassId) → runs.running.sig.result ≡ Some (types.Obj c) → runs.method.sig.result ≡ Some (types.Obj r) → runs.method.sig.owning_result ≡ true
        → set.is_subset (must_of p c) (must_of p r) ≡ true
    result_within c r gives named' owning = go (set.is_subset (must_of p c) (must_of p r)) refl
      where
        go : (b : Bool) → set.is_subset (must_of p c) (must_of p r) ≡ b → set.is_subset (must_of p c) (must_of p r) ≡ true
        go true is = is
        go false is = absurd (true≢false (
            sym (and_from runs.running.sig.owning_result (not (set.is_subset (must_of_optional p runs.running.sig.result) (must_of_optional p runs.method.sig.result))) (one_owning (types.Obj c) gives ∙ owning)
            (ap not (ap (λ (o : Option VType). set.is_subset (must_of_optional p o) (must_of_optional p runs.method.sig.result)) gives
            ∙ ap (λ (o : Option VType). set.is_subset (must_of p c) (must_of_optional p o)) named' ∙ is)))
            ∙ runs.fit.wider))

    -- ---- promises

    -- what the named method promises of this way to end, it promises as well
    pub promises_answered : (d : Conduct) → All (λ (q : Promise). IsKeptBy (promises_by (method_at p m) d) q.target q.names) (promises_by (method_at p named) d)
    promises_answered d =
        subst (λ (o : Option Method). All (λ (q : Promise). IsKeptBy (promises_by (method_at p m) d) q.target q.names) (promises_by o d)) (sym runs.named_at)
        (subst (λ (o : Option Method). All (λ (q : Promise). IsKeptBy (promises_by o d) q.target q.names) (promises_by (Some runs.method) d)) (sym runs.running_at) (by d))
      where
        by : (d : Conduct) → All (λ (q : Promise). IsKeptBy (promises_by (Some runs.running) d) q.target q.names) (promises_by (Some runs.method) d)
        by (conducts.Throws e) = runs.keeps.throwing
        by (conducts.Fresh e) = runs.keeps.returning
        by conducts.Null = runs.keeps.returning
        by (conducts.Existing k) = runs.keeps.returning
        by conducts.Argument = runs.keeps.returning
        by (conducts.Value z) = runs.keeps.returning
        by conducts.Nothing = runs.keeps.returning
