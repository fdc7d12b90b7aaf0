-- Calls lead where they led, as the heap goes on, and where an object that is not linked is linked.
use Rattle.std.proofs.Common.{◌≡◌, ℕ, true, Some, None, sym, ap, ◌∙◌, subst}
use Rattle.program_model.specs.declared.kinds.ClassId.{ClassId}
use Rattle.program_model.specs.declared.kinds.FieldId.{FieldId}
use Rattle.program_model.specs.declared.program.Field.{Field}
use Rattle.program_model.specs.declared.program.Program.{Program}
use Rattle.program_model.specs.Lookups.{field_at}
use Rattle.java_control.specs.Owned.{is_owning_field}
use Rattle.ledger_state.specs.Contents.{HeapContents}
use Rattle.ledger_state.specs.Fields.{field_value}
use Rattle.ledger_state.specs.Heaps.{object_at}
use Rattle.ledger_state.specs.declared.object.Link.{Link}
use Rattle.ledger_state.specs.declared.object.Object.{Object}
use Rattle.covering_laws.specs.Heaps.{Evolves}
use Rattle.covering_laws.specs.Leading.{CallsOnField, Leads, by_library, by_program, here}
use Rattle.content_laws.specs.Going.{Goes}

-- Each object but object `w`, which is not linked, keeps its class and its link, and what is linked holds in its owning fields what it held.
pub record KeepsLeading (p : Program) (h k : HeapContents) (w : ℕ) : Type 0 where
  pub objects : (n : ℕ) (x : Object) → object_at h n ≡ Some x → (n ≡ w → ⊥) → (y : Object) × (object_at k n ≡ Some y) × (y.link ≡ x.link) × (y.class ≡ x.class)
  pub fields : (n : ℕ) (x : Object) (l : Link) (f : FieldId) (field : Field) → object_at h n ≡ Some x → x.link ≡ Some l → field_at p f ≡ Some field → field.owning ≡ true
      → field_value p k n f ≡ field_value p h n f
  pub free : (x : Object) → object_at h w ≡ Some x → x.link ≡ None

-- calls lead to an object that is not linked
pub led_to : (p : Program) (h : HeapContents) (n r : ℕ) → Leads p h n r → (x : Object) × (object_at h r ≡ Some x) × (x.link ≡ None)
led_to p h _ _ (here n x at free) = (x, at, free)
led_to p h _ _ (by_library n r x l at link library rest) = led_to p h l.to r rest
led_to p h _ _ (by_program n c r x l f field at link declared owning calls held rest more) = led_to p h l.to r rest

module _ (p : Program) (h k : HeapContents) (w : ℕ) (keeps : KeepsLeading p h k w) where
  other : (n : ℕ) (x : Object) (l : Link) → object_at h n ≡ Some x → x.link ≡ Some l → n ≡ w → ⊥
  other n x l at link same = let never : None ≡ Some l = sym (keeps.free x (ap (object_at h) (sym same) ∙ at)) ∙ link in cc

  -- where they led to another object than `w`, they lead there
  pub leads_elsewhere : (n r : ℕ) → Leads p h n r → (r ≡ w → ⊥) → Leads p k n r
  leads_elsewhere _ _ (here n x at free) apart = let y = keeps.objects n x at apart in here n y.0 y.1 (y.2 ∙ free)
  leads_elsewhere _ _ (by_library n r x l at link library rest) apart =
      let y = keeps.objects n x at (other n x l at link) in by_library n r y.0 l y.1 (y.2 ∙ link) library (leads_elsewhere l.to r rest apart)
  leads_elsewhere _ _ (by_program n c r x l f field at link declared owning calls held rest more) apart =
      let y = keeps.objects n x at (other n x l at link) in
      by_program n c r y.0 l f field y.1 (y.2 ∙ link) declared owning (subst (λ (d : ClassId). CallsOnField p d f) (sym y.3) calls) (keeps.fields n x l f field at link declared owning ∙ held)
      (leads_elsewhere l.to r rest apart) (leads_elsewhere c r more apart)

  -- where they led to `w`, they lead where those on `w` do now
  pub leads_through : (o : ℕ) → Leads p k w o → (n r : ℕ) → Leads p h n r → r ≡ w → Leads p k n o
  leads_through o new _ _ (here n x at free) same = subst (λ (m : ℕ). Leads p k m o) (sym same) new
  leads_through o new _ _ (by_library n r x l at link library rest) same =
      let y = keeps.objects n x at (other n x l at link) in by_library n o y.0 l y.1 (y.2 ∙ link) library (leads_through o new l.to r rest same)
  leads_through o new _ _ (by_program n c r x l f field at link declared owning calls held rest more) same =
      let y = keeps.objects n x at (other n x l at link) in
      by_program n c o y.0 l f field y.1 (y.2 ∙ link) declared owning (subst (λ (d : ClassId). CallsOnField p d f) (sym y.3) calls) (keeps.fields n x l f field at link declared owning ∙ held)
      (leads_through o new l.to r rest same) (leads_through o new c r more same)

-- ---- as the heap goes on

no_object : (h : HeapContents) (x : Object) → object_at h 0 ≡ Some x → ⊥
no_object h x at = let never : None ≡ Some x = at in cc

-- what is linked holds in its owning fields what it held
abbrev pub HoldsOn : Program → HeapContents → HeapContents → Type 0
HoldsOn p h k = (n : ℕ) (x : Object) (l : Link) (f : FieldId) (field : Field) → object_at h n ≡ Some x → x.link ≡ Some l → field_at p f ≡ Some field → field.owning ≡ true
    → field_value p k n f ≡ field_value p h n f

-- all objects keep their links
pub leads_forth : (p : Program) (h k : HeapContents) → Evolves h k → HoldsOn p h k → (n r : ℕ) → Leads p h n r → Leads p k n r
leads_forth p h k forth fields n r leads = leads_elsewhere p h k 0 keeps n r leads (λ zero. (let x = led_to p h n r leads in no_object h x.0 (ap (object_at h) (sym zero) ∙ x.1)))
  where
    keeps : KeepsLeading p h k 0
    keeps = record {
      objects = λ n x at apart. (let y = forth n x at in (y.0, y.1, y.2.link, y.2.class));
      fields = fields;
      free = λ x at. absurd (no_object h x at);
    }

pub goes_hold : (p : Program) (h k : HeapContents) (noted : ℕ → ℕ → Type 0) → Goes p h k noted → HoldsOn p h k
goes_hold p h k noted goes n x l f field at link declared owning = goes.fields n f (ap is_owning_field declared ∙ owning)
