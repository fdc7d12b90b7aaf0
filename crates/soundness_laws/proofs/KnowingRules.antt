-- The next step of each frame is as the rules ask, since it knows its arguments: a fact of `this` is at the control of an instance method, so that an owning field is stored there only where the method
-- creates the obligation of `this` anew, and the field's type has an obligation.
use Rattle.std.proofs.Common.{◌≡◌, ◌⊎◌, inl, inr, ℕ, true, false, true≢false, not, Option, Some, None, List, [], ◌∷◌, slice_get, refl, sym, ap, ◌∙◌, subst}
use Rattle.std.proofs.lemmas.Bool.{and_from, and_parts}
use Rattle.std.specs.FinSet as set
use Rattle.rlc_base.proofs.SetLaws.{within_self}
use Rattle.program_model.specs.declared.kinds.BodyId.{BodyId}
use Rattle.program_model.specs.declared.kinds.ClassId.{ClassId}
use Rattle.program_model.specs.declared.kinds.FieldId.{FieldId}
use Rattle.program_model.specs.declared.kinds.MethodKind.{MethodKind}
use Rattle.program_model.specs.declared.kinds.MethodKind.TheVariants as methods
use Rattle.program_model.specs.declared.kinds.VType.{VType}
use Rattle.program_model.specs.declared.kinds.VType.TheVariants as types
use Rattle.program_model.specs.declared.program.Field.{Field}
use Rattle.program_model.specs.declared.program.Method.{Method}
use Rattle.program_model.specs.declared.program.Program.{Program}
use Rattle.program_model.specs.Lookups.{field_at, method_at}
use Rattle.program_model.specs.Overrides.{is_library}
use Rattle.ledger_obligations.specs.Bodies.{constructs, is_class_of, is_constructor, is_constructor_kind, is_field_in, is_instance_kind, method_in, method_of, reset_in}
use Rattle.ledger_obligations.specs.MustCallSets.{is_empty, is_heavy_class, must_of, must_of_optional, must_of_type, no_names}
use Rattle.ownership_rules.specs.Signatures.{field_type, is_position, type_of_field}
use Rattle.java_control.specs.Control.{Step}
use Rattle.control_actions.specs.declared.action.Action.TheVariants as actions
use Rattle.content_laws.specs.Accept.{Accept}
use Rattle.content_laws.specs.Agreement.{AllStand, Stands}
use Rattle.content_laws.specs.Choosing.{body_id, frame_steps}
use Rattle.content_laws.specs.Configuration.{Frame}
use Rattle.content_laws.specs.Constructors.{StoresOwnField}
use Rattle.content_laws.specs.Paths.{Reach, move_of, relation_of}
use Rattle.content_laws.specs.PlainForms.{HasPlainForms, StoresPlainly}
use Rattle.content_laws.specs.Positions.{is_lasting}
use Rattle.content_laws.specs.Renewing.{is_of_heavy_class, reopens}
use Rattle.content_laws.specs.Sight.{AllActByRules, IsOnObject, RunOnObjects}
use Rattle.content_laws.specs.StepTargets.{HasThis}
use Rattle.content_laws.proofs.Bodies.{running_method}
use Rattle.content_laws.proofs.Cases.{same_class}
use Rattle.content_laws.proofs.ConstructorReached.{has_its_place}
use Rattle.content_laws.proofs.ContentHolders.{field_class_is_heavy}
use Rattle.content_laws.proofs.Following.{same_body}
use Rattle.content_laws.proofs.KeptFacts.{this_stays}
use Rattle.content_laws.proofs.Ready.{step_there}
use Rattle.content_laws.proofs.StoresOutside.{store_is_plain}
use Rattle.soundness_laws.specs.Knowing.{AllKnowArguments, IsKnown, KnowsArguments}

-- a type with an obligation is that of a class with one
heavy_type : (p : Program) (t : VType) → not (is_empty (must_of_type p t)) ≡ true → (c : ClassId) × (t ≡ types.Obj c) × (is_heavy_class p c ≡ true)
heavy_type p (types.Obj c) heavy = (c, refl, heavy)
heavy_type p (types.Primitive k) heavy = absurd (true≢false (sym heavy ∙ ap not (within_self no_names)))
heavy_type p types.Str heavy = absurd (true≢false (sym heavy ∙ ap not (within_self no_names)))
heavy_type p (types.Arr k) heavy = absurd (true≢false (sym heavy ∙ ap not (within_self no_names)))
heavy_type p types.NullType heavy = absurd (true≢false (sym heavy ∙ ap not (within_self no_names)))

module _ (p : Program) (ac : Accept p) (forms : HasPlainForms p) (fr : Frame) (st : Stands p fr) (on : IsOnObject p fr) (knows : KnowsArguments p fr) where
  run : (m : Method) × (method_at p fr.method ≡ Some m) × (is_library p m.class ≡ false)
  run = running_method p ac fr st

  of : method_at p st.body.method ≡ Some run.0
  of = ap (method_at p) st.method ∙ run.1

  of_body : method_of p st.number ≡ Some run.0
  of_body = ap (method_in p) st.at ∙ of

  module _ (i : ℕ) (s : Step) (f : FieldId) (d : ℕ) (here : slice_get (frame_steps p fr) i ≡ Some s) (is : s.action ≡ actions.PutOwn f d) where
    -- the class of the method declares the field
    declared : (x : Field) × (field_at p f ≡ Some x) × (x.owning ≡ true) × (x.class ≡ run.0.class)
    declared = go (field_at p f) refl (forms.stores st.number i (move_of s) f d st.control (step_there p fr st i s here) is)
      where
        go : (y : Option Field) → field_at p f ≡ y → is_field_in p st.number y ≡ true → (x : Field) × (field_at p f ≡ Some x) × (x.owning ≡ true) × (x.class ≡ run.0.class)
        go None at has' = absurd (true≢false (sym has'))
        go (Some x) at has' =
            let parts = and_parts x.owning (is_class_of x.class (method_of p st.number)) has' in
            (x, at, parts.0, same_class x.class run.0.class (ap (is_class_of x.class) (sym of_body) ∙ parts.1))

    -- so this has an obligation, where the field's type has one
    class_heavy : not (is_empty (must_of_optional p (field_type p f))) ≡ true → is_heavy_class p run.0.class ≡ true
    class_heavy heavy =
        let x = declared in
        let type = heavy_type p x.0.vtype (ap (λ (y : Option Field). not (is_empty (must_of_optional p (type_of_field y)))) (sym x.1) ∙ heavy) in
        ap (is_heavy_class p) (sym x.3)
        ∙ field_class_is_heavy p ac type.0 f x.0 x.1 x.2 (ap (λ (t : VType). set.is_subset (must_of p type.0) (must_of_type p t)) type.1 ∙ within_self (must_of p type.0)) type.2

    -- in an instance method a fact of `this` is there
    by_method : run.0.kind ≡ methods.Instance → StoresPlainly p (method_at p fr.method) f
    by_method instance =
        elim (store_is_plain p ac st.number known.origin i (move_of s) known.fact f d reached (step_there p fr st i s here) is (this_stays p ac st.number st.body run.0 st.at of known.origin fr.control known.fact reached known.at)) [
          | inl made ↦ absurd (true≢false (sym made ∙ made_not))
          | inr anew ↦ inr (
            ap reopens run.1 ∙ and_from (not (is_constructor_kind run.0.kind)) (is_position run.0.sig.reset 0) (ap (λ (k : MethodKind). not (is_constructor_kind k)) instance) (ap (λ (m : Option Method). is_position (reset_in m) 0) (sym of_body) ∙ anew.0),
            ap (is_of_heavy_class p) run.1 ∙ class_heavy anew.1,
            anew.1,
          )
        ]
      where
        known : IsKnown p fr 0
        known = knows 0 (ap (λ (m : Option Method). is_lasting m 0) run.1 ∙ ap is_instance_kind instance) (on (subst HasThis (sym run.1) (inl instance)))

        reached : Reach p st.number (relation_of p st.number) known.origin fr.control known.fact
        reached = subst (λ (b : BodyId). Reach p b (relation_of p b) known.origin fr.control known.fact) (same_body known.body st.number (body_id p fr.method) known.id st.id) known.reached

        made_not : is_constructor p st.number ≡ false
        made_not = ap constructs of_body ∙ ap is_constructor_kind instance

    stored_plainly : StoresPlainly p (method_at p fr.method) f
    stored_plainly = go (subst HasThis of (subst (StoresOwnField p st.body) is (has_its_place p ac.well_formed.valid.typed st.number st.body fr.control i (move_of s) st.at st.control (step_there p fr st i s here)).1).2)
      where
        go : (run.0.kind ≡ methods.Instance) ⊎ (run.0.kind ≡ methods.Ctor) → StoresPlainly p (method_at p fr.method) f
        go (inl instance) = by_method instance
        go (inr constructor) = inl (ap constructs run.1 ∙ ap is_constructor_kind constructor)

pub all_by_rules : (p : Program) → Accept p → HasPlainForms p → (frs : List Frame) → AllStand p frs → RunOnObjects p frs → AllKnowArguments p frs → AllActByRules p frs
all_by_rules p ac forms [] stand on know = tt
all_by_rules p ac forms (fr ∷ frs) stand on know = (
  record { stores = λ i s f d here is. stored_plainly p ac forms fr stand.0 on.0 know.0 i s f d here is },
  all_by_rules p ac forms frs stand.1 on.1 know.1,
)
