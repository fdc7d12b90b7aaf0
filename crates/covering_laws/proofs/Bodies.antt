-- A method that runs is one of the program's.
use Rattle.std.proofs.Common.{◌≡◌, ◌∙◌, ℕ, zero, suc, ◌+◌, true, false, true≢false, ◌||◌, Option, Some, None, IsSomeAnd, refl, sym, ap, subst, arith, slice_get, get_or, eqb-true}
use Rattle.std.proofs.lemmas.Bool.{and_parts, or_parts}
use Rattle.std.proofs.lemmas.Option.{slice_get-get_or}
use Rattle.program_model.specs.declared.kinds.BodyId.{BodyId}
use Rattle.program_model.specs.declared.kinds.MethodId.{MethodId}
use Rattle.program_model.specs.declared.program.Class.{Class}
use Rattle.program_model.specs.declared.program.Method.{Method}
use Rattle.program_model.specs.declared.program.ParamSig.{ParamSig}
use Rattle.program_model.specs.declared.program.Program.{Program}
use Rattle.program_model.specs.Lookups.{class_at, method_at}
use Rattle.program_model.specs.Overrides.{is_library, is_library_in}
use Rattle.program_model.specs.Validity.{IfPosition, MayHaveBody}
use Rattle.ledger_obligations.specs.AliasCases.{calls_alias, gives_exception, has_bad_alias_form, has_owning_alias, has_unequal_sets, is_half_marked}
use Rattle.ledger_obligations.specs.Bodies.{alias_in, alias_position, is_alias_constructor, is_constructor, method_of}
use Rattle.ownership_rules.specs.Signatures.{is_owning_at, is_present, owning_in}
use Rattle.control_actions.specs.declared.fact.OriginKind.{OriginKind}
use Rattle.control_actions.specs.declared.fact.OriginKind.TheVariants as kinds
use Rattle.ownership_rules.specs.Facts.{is_origin_at}
use Rattle.value_laws.specs.Accept.{Accept}
use Rattle.ledger_steps.specs.LedgerCallsCalls.{body_of}
use Rattle.value_laws.specs.Configuration.{Frame}
use Rattle.value_laws.specs.Moves.{has_body}
use Rattle.value_laws.specs.Agreement.{Stands}
use Rattle.value_laws.specs.PlainForms.{is_lent_parameter}
use Rattle.value_laws.specs.PlaceFacts.{is_lent}
use Rattle.covering_laws.proofs.Following.{method_here}
use Rattle.value_laws.proofs.KeptFacts.{own_position}
use Rattle.value_laws.proofs.AliasConducts.{no_refusal}

pub body_is_of_program : (p : Program) (ac : Accept p) (m : MethodId) (x : Method) → method_at p m ≡ Some x → has_body x.body ≡ true → is_library p x.class ≡ false
body_is_of_program p ac m x at has = by_body x.body refl has (ac.well_formed.valid.typed.methods m x at).bodiless
  where
    by_class : (k : Option Class) → IsSomeAnd k (λ c. c.library ≡ false) → is_library_in k ≡ false
    by_class None some = absurd some
    by_class (Some k) is = is

    by_body : (b : Option BodyId) → x.body ≡ b → has_body b ≡ true → MayHaveBody p x b → is_library p x.class ≡ false
    by_body None own some may = absurd (true≢false (sym some))
    by_body (Some b) own some may = by_class (class_at p x.class) may.2

-- the method that a frame runs is one of the program
pub running_method : (p : Program) (ac : Accept p) (fr : Frame) (st : Stands p fr) → (x : Method) × (method_at p fr.method ≡ Some x) × (is_library p x.class ≡ false)
running_method p ac fr st = go (method_at p fr.method) refl st.id
  where
    go : (x : Option Method) → method_at p fr.method ≡ x → body_of x ≡ Some st.number → (y : Method) × (method_at p fr.method ≡ Some y) × (is_library p y.class ≡ false)
    go None at' own = absurd (let never : None ≡ Some st.number = own in cc)
    go (Some x) at' own = (x, at', body_is_of_program p ac fr.method x at' (ap has_body own))

-- ---- the aliased argument of a constructor

zero_position : (kind : OriginKind) → is_origin_at kind (Some 0) ≡ true → kind ≡ kinds.ThisRef
zero_position (kinds.Param k) is = absurd (let same : k + 1 ≡ 0 = eqb-true (k + 1) 0 is in omega (arith, same))
zero_position kinds.ThisRef is = refl
zero_position kind is = absurd (true≢false (sym is))

-- it is not owning
alias_not_owning : (p : Program) (ac : Accept p) (m : MethodId) (x : Method) (k : ℕ) → method_at p m ≡ Some x → x.sig.alias ≡ Some k → is_owning_at x.sig k ≡ false
alias_not_owning p ac m x k at alias =
    let form = or_parts (has_bad_alias_form p x) (gives_exception p x) (no_refusal p ac.well_formed m x at k alias) in
    let three = or_parts (is_half_marked x || has_unequal_sets p x x.sig.alias || has_owning_alias x x.sig.alias) (calls_alias p x) form.0 in
    let two = or_parts (is_half_marked x || has_unequal_sets p x x.sig.alias) (has_owning_alias x x.sig.alias) three.0 in
    sym (ap (has_owning_alias x) alias) ∙ two.1

-- the aliased argument is lent
pub argument_is_lent : (p : Program) (ac : Accept p) (fr : Frame) (st : Stands p fr) → is_alias_constructor p st.number ≡ true → (kind : OriginKind) → is_origin_at kind (alias_position p st.number) ≡ true
    → is_lent p (method_at p fr.method) kind ≡ true
argument_is_lent p ac fr st aliased kind at = of_some (alias_position p st.number) refl (and_parts (is_constructor p st.number) (is_present (alias_position p st.number)) aliased).1
  where
    run : (x : Method) × (method_at p fr.method ≡ Some x) × (is_library p x.class ≡ false)
    run = running_method p ac fr st

    body_method : method_of p st.number ≡ Some run.0
    body_method = method_here p fr st ∙ run.1

    -- the parameter at the position
    at_parameter : (k : ℕ) → (run.0).sig.alias ≡ Some (suc k) → (x : Option ParamSig) → slice_get (run.0).sig.params.items k ≡ x → is_lent_parameter p x ≡ true
    at_parameter k alias (Some x) param = rw (sym (ap owning_in param) ∙ alias_not_owning p ac fr.method run.0 (suc k) run.1 alias) refl
    at_parameter k alias None none =
        let few = subst (IfPosition (run.0).sig) alias (ac.well_formed.valid.typed.methods fr.method run.0 run.1).signature.alias in
        let there = slice_get-get_or (run.0).sig.params.items k (run.0).sig.receiver (omega (arith, few)) in
        absurd (let never : None ≡ Some (get_or (run.0).sig.params.items k (run.0).sig.receiver) = sym none ∙ there in cc)

    at_position : (k : ℕ) → (run.0).sig.alias ≡ Some k → is_origin_at kind (Some k) ≡ true → is_lent p (method_at p fr.method) kind ≡ true
    at_position zero alias here = ap (is_lent p (method_at p fr.method)) (zero_position kind here) ∙ ap (λ (m : Option Method). is_lent p m kinds.ThisRef) run.1
    at_position (suc k) alias here =
        ap (is_lent p (method_at p fr.method)) (own_position k kind (ap (is_origin_at kind) (ap Some (let next : k + 1 ≡ suc k = omega arith in next)) ∙ here))
        ∙ ap (λ (m : Option Method). is_lent p m (kinds.Param k)) run.1 ∙ at_parameter k alias (slice_get (run.0).sig.params.items k) refl

    of_some : (a : Option ℕ) → alias_position p st.number ≡ a → is_present a ≡ true → is_lent p (method_at p fr.method) kind ≡ true
    of_some None none some = absurd (true≢false (sym some))
    of_some (Some k) is some = at_position k (sym (ap alias_in body_method) ∙ is) (ap (is_origin_at kind) (sym is) ∙ at)
