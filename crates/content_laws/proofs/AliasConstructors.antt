-- The class of a constructor of the program with an aliased argument has one name that must be called, which its own method of the name calls on what the
-- field holds that keeps the argument.
use Rattle.std.specs.FinSet as set
use Rattle.std.proofs.Common.{◌≡◌, inl, inr, ℕ, Bool, true, false, true≢false, Some, refl, sym, ap, ◌∙◌, subst, if◌then◌else◌}
use Rattle.std.proofs.lemmas.Bool.{and_parts}
use Rattle.rlc_base.proofs.SetLaws.{Decides-is_same, either_member, member_of-empty, within_at, within_trans}
use Rattle.rlc_base.specs.declared.name_id.NameId.{NameId}
use Rattle.program_model.specs.NameSets.{Names}
use Rattle.program_model.specs.declared.kinds.ClassId.{ClassId}
use Rattle.program_model.specs.declared.kinds.FieldId.{FieldId}
use Rattle.program_model.specs.declared.kinds.MethodId.{MethodId}
use Rattle.program_model.specs.declared.program.Field.{Field}
use Rattle.program_model.specs.declared.program.Method.{Method}
use Rattle.program_model.specs.declared.program.Program.{Program}
use Rattle.program_model.specs.Lookups.{field_at, method_at}
use Rattle.program_model.specs.Overrides.{is_library}
use Rattle.must_call_sets.specs.AliasCases.{result_set}
use Rattle.must_call_sets.specs.Bodies.{is_constructor_kind}
use Rattle.must_call_sets.specs.MustCallSets.{is_empty, is_heavy_class, must_of, must_of_optional, must_of_type, no_names}
use Rattle.must_call_sets.specs.OwningCases.{finalized}
use Rattle.must_call_sets.specs.Signatures.{is_of_field, promised_names, type_at}
use Rattle.covering_laws.specs.Accept.{Accept}
use Rattle.ledger_obligations.specs.Obligations.{is_the_one, own_promises}
use Rattle.covering_laws.specs.Leading.{CallsOnField}
use Rattle.covering_laws.proofs.AliasConducts.{argument_has_names, gives_object, one_name}
use Rattle.content_laws.proofs.Ends.{same_name}
use Rattle.covering_laws.proofs.Finalizers.{is_promised, owned_names}
use Rattle.content_laws.proofs.Promised.{promises_its_own}

module _ (p : Program) (ac : Accept p) (m : MethodId) (d : Method) (k : ℕ) (at : method_at p m ≡ Some d) (alias : d.sig.alias ≡ Some k) (new : is_constructor_kind d.kind ≡ true) where
  pub alias_class_is_heavy : is_heavy_class p d.class ≡ true
  alias_class_is_heavy = elim (gives_object p ac.well_formed m d at k alias) [
    | inl is ↦ is.1
    | inr other ↦ absurd (true≢false (sym new ∙ other.0))
  ]

  -- the argument's type asks for what the class asks for
  same_names : must_of_optional p (type_at d.sig k) ≡ must_of p d.class
  same_names =
      (Decides-is_same (must_of_optional p (type_at d.sig k)) (result_set p d)).0 (one_name p ac.well_formed m d at k alias).0
      ∙ ap (λ (b : Bool). if b then must_of p d.class else must_of_optional p d.sig.result) new

  module _ (f : FieldId) (field : Field) (declared : field_at p f ≡ Some field) (owning : field.owning ≡ true) (class : field.class ≡ d.class)
      (bounded : set.is_subset (must_of_optional p (type_at d.sig k)) (must_of_type p field.vtype) ≡ true) (program : is_library p d.class ≡ false) where
    heavy_type : (b : Bool) → is_empty (must_of_type p field.vtype) ≡ b → is_empty (must_of_type p field.vtype) ≡ false
    heavy_type false some = some
    heavy_type true none = absurd (true≢false (
        sym (within_trans (must_of_optional p (type_at d.sig k)) (must_of_type p field.vtype) no_names bounded none) ∙ argument_has_names p ac.well_formed m d at k alias))

    is_declared : (x : Field) → field_at p f ≡ Some x → (x.class ≡ d.class) × (is_empty (must_of_type p x.vtype) ≡ false)
    is_declared x at' =
        let same : field ≡ x = (let both : Some field ≡ Some x = sym declared ∙ at' in cc) in
        (ap (λ (y : Field). y.class) (sym same) ∙ class, ap (λ (y : Field). is_empty (must_of_type p y.vtype)) (sym same) ∙ heavy_type (is_empty (must_of_type p field.vtype)) refl)

    is_called : (n : NameId) → is_the_one (must_of p d.class) n ≡ true → set.contains (promised_names (λ t. is_of_field t f) (own_promises p d.class n)) n.0 ≡ true
    is_called n one =
        let parts = and_parts (set.contains (must_of p d.class) n.0) (set.is_subset (must_of p d.class) (set.insert set.empty n.0)) one in
        let of_argument : set.contains (must_of_optional p (type_at d.sig k)) n.0 ≡ true = ap (λ (s : Names). set.contains s n.0) same_names ∙ parts.0 in
        let of_type = within_at (must_of_optional p (type_at d.sig k)) (must_of_type p field.vtype) bounded n.0 of_argument in
        let q = is_promised p ac field.class f n.0 (within_at (must_of_type p field.vtype) (finalized p field.class f) (owned_names p ac f field declared owning) n.0 of_type) in
        let needed : set.contains (must_of p d.class) q.name.0 ≡ true = ap (λ (c : ClassId). set.contains (must_of p c) q.name.0) (sym class) ∙ q.needed in
        let name : q.name ≡ n = same_name q.name n (the_one q.name.0 n.0 (within_at (must_of p d.class) (set.insert set.empty n.0) parts.1 q.name.0 needed)) in
        let its_class : q.declared.class ≡ d.class = q.class ∙ class in
        let interest : q.declared.sig.interest ≡ Some n = q.interest ∙ ap Some name in
        let its_own = promises_its_own p ac q.method q.declared n f n.0 q.at interest (ap (λ (c : ClassId). set.contains (must_of p c) n.0) its_class ∙ parts.0)
        (ap (is_library p) its_class ∙ program) q.promised in
        subst (λ (c : ClassId). set.contains (promised_names (λ t. is_of_field t f) (own_promises p c n)) n.0 ≡ true) its_class its_own.0
      where
        the_one : (i j : ℕ) → set.contains (set.insert no_names j) i ≡ true → i ≡ j
        the_one i j has = elim (either_member no_names j i has) [
          | inl same ↦ same
          | inr none ↦ absurd (true≢false (sym none ∙ member_of-empty i))
        ]

    pub calls_on_field : CallsOnField p d.class f
    calls_on_field = (is_declared, is_called)
