-- What an owning field holds of an object that is finished and linked to none, where the field's type has an obligation: the field owns it; and a fact that is born of the field's type, and needs all, is true of what the field owns.
use Rattle.std.proofs.Common.{◌≡◌, inl, inr, ℕ, Bool, true, false, true≢false, Some, None, List, refl, sym, ap, ◌∙◌}
use Rattle.std.specs.FinSet as set
use Rattle.std.proofs.lemmas.Bool.{or_right}
use Rattle.rlc_base.proofs.SetLaws.{empty_within, within_trans}
use Rattle.program_model.specs.declared.kinds.ClassId.{ClassId}
use Rattle.program_model.specs.declared.kinds.FieldId.{FieldId}
use Rattle.program_model.specs.declared.kinds.VType.{VType}
use Rattle.program_model.specs.declared.kinds.VType.TheVariants as types
use Rattle.program_model.specs.declared.program.Field.{Field}
use Rattle.program_model.specs.declared.program.Program.{Program}
use Rattle.program_model.specs.Lookups.{field_at}
use Rattle.ledger_obligations.specs.MustCallSets.{is_heavy_class, must_of, must_of_type}
use Rattle.ledger_obligations.specs.Obligations.{is_library_owner, is_unmet}
use Rattle.java_control.specs.Owned.{is_owning}
use Rattle.ledger_state.specs.Contents.{HeapContents}
use Rattle.ledger_state.specs.Fields.{field_value}
use Rattle.ledger_state.specs.Heaps.{object_at, root_of}
use Rattle.ledger_state.specs.declared.entry.Owner.TheVariants as owners
use Rattle.ledger_state.specs.declared.object.Object.{Object}
use Rattle.rlc_base.specs.declared.place.Pos.{Pos}
use Rattle.value_laws.specs.Chains.{HaveEnds}
use Rattle.value_laws.specs.Configuration.{Frame}
use Rattle.value_laws.specs.FieldContents.{FieldsOwn, HaveContents, IsContent}
use Rattle.value_laws.specs.PlaceFacts.{IsTrueOf, OwesOrHolds, is_heavy_in}
use Rattle.covering_laws.proofs.FieldBirths.{field_fact, field_origin}

module _ (p : Program) (h : HeapContents) (frs : List Frame) (owned : FieldsOwn p h) (contents : HaveContents p frs h) (have : HaveEnds h) (w : ℕ) (y : Object) (there : object_at h w ≡ Some y) (done : y.finished ≡ true) (none : y.link ≡ None)
    (kept : is_library_owner y.owner ≡ false) (f : FieldId) (owning : is_owning p f ≡ true) (heavy : is_heavy_in p (Some f) ≡ true) (o : ℕ) (x : Object) (held : root_of h (field_value p h w f) ≡ Some o) (at : object_at h o ≡ Some x)
    (wide : is_heavy_class p x.class ≡ true) (owes : OwesOrHolds p h o x) where
  -- the field owns it
  pub field_owned : x.owner ≡ owners.Field w f
  field_owned = elim ((owned w y f o x there owning heavy held at wide).1 done owes) [
    | inl mine ↦ mine
    | inr linked ↦ absurd (true≢false (sym (linked.1 none) ∙ kept))
  ]

-- What a field owns: so the birth of the field's type is true of it.
module _ (p : Program) (h : HeapContents) (frs : List Frame) (contents : HaveContents p frs h) (have : HaveEnds h) (w : ℕ) (f : FieldId) (o : ℕ) (x : Object) (at : object_at h o ≡ Some x) (wide : is_heavy_class p x.class ≡ true) (owns : x.owner ≡ owners.Field w f) where
  content : IsContent p frs h o x w f
  content = contents o x w f at (or_right (is_unmet x) (is_heavy_class p x.class) wide) owns

  its_finished : x.finished ≡ true
  its_finished = go x.finished refl
    where
      go : (b : Bool) → x.finished ≡ b → b ≡ true
      go true is = refl
      go false open' = absurd (let never : owners.Unowned ≡ owners.Field w f = sym (have.unfinished o x at open') ∙ owns in cc)

  pub owned_true : (pos : Pos) (z : Field) (c : ClassId) → field_at p f ≡ Some z → z.vtype ≡ types.Obj c → IsTrueOf p x (field_origin p f pos c) (field_fact p f)
  owned_true pos z c declared type = record {
    finished = its_finished;
    class = class;
    bounded = content.own;
    need = within_trans x.must (must_of p x.class) (must_of p c) content.own class;
    called = empty_within _;
  }
    where
      class : set.is_subset (must_of p x.class) (must_of p c) ≡ true
      class =
          let same : content.field ≡ z = (let both : Some content.field ≡ Some z = sym content.declared ∙ declared in cc) in
          sym (ap (λ (t : VType). set.is_subset (must_of p x.class) (must_of_type p t)) (ap (λ (g : Field). g.vtype) same ∙ type)) ∙ content.bounded

-- so it is with what an owning field of such an object holds
pub field_true : (p : Program) (h : HeapContents) (frs : List Frame) (owned : FieldsOwn p h) (contents : HaveContents p frs h) (have : HaveEnds h) (w : ℕ) (y : Object) (there : object_at h w ≡ Some y) (done : y.finished ≡ true) (none : y.link ≡ None)
    (kept : is_library_owner y.owner ≡ false) (f : FieldId) (owning : is_owning p f ≡ true) (heavy : is_heavy_in p (Some f) ≡ true) (o : ℕ) (x : Object) (held : root_of h (field_value p h w f) ≡ Some o) (at : object_at h o ≡ Some x)
    (wide : is_heavy_class p x.class ≡ true) (owes : OwesOrHolds p h o x) (pos : Pos) (z : Field) (c : ClassId) → field_at p f ≡ Some z → z.vtype ≡ types.Obj c → IsTrueOf p x (field_origin p f pos c) (field_fact p f)
field_true p h frs owned contents have w y there done none kept f owning heavy o x held at wide owes =
    owned_true p h frs contents have w f o x at wide (field_owned p h frs owned contents have w y there done none kept f owning heavy o x held at wide owes)
