-- The `this` of a frame that stores into one of its owning fields: a constructor makes it, and it is not finished; or the frame's method creates its obligation anew, and it is finished, linked to none, and lent.
use Rattle.std.proofs.Common.{◌≡◌, ◌⊎◌, inl, inr, ℕ, Bool, true, false, not, Option, Some, None, List, ◌∷◌, slice_get, refl, sym, ap, ◌∙◌, true≢false, eqb-true}
use Rattle.std.proofs.lemmas.Bool.{and_parts, or_right}
use Rattle.program_model.specs.declared.kinds.ClassId.{ClassId}
use Rattle.program_model.specs.declared.kinds.FieldId.{FieldId}
use Rattle.program_model.specs.declared.program.Field.{Field}
use Rattle.program_model.specs.declared.program.Method.{Method}
use Rattle.program_model.specs.declared.program.Program.{Program}
use Rattle.program_model.specs.Lookups.{field_at, method_at}
use Rattle.program_model.specs.Overrides.{is_library}
use Rattle.program_model.specs.SuperTests.{is_class, is_under}
use Rattle.java_control.specs.Control.{Step}
use Rattle.control_actions.specs.declared.action.Action.TheVariants as actions
use Rattle.ledger_obligations.specs.Bodies.{constructs, has_field_place, is_class_of, is_field_in, method_of, reset_in}
use Rattle.ledger_obligations.specs.MustCallSets.{is_heavy_class}
use Rattle.ownership_rules.specs.Signatures.{is_position}
use Rattle.ledger_state.specs.Contents.{HeapContents}
use Rattle.ledger_state.specs.Heaps.{object_at, root_of}
use Rattle.ledger_state.specs.declared.object.Object.{Object}
use Rattle.ledger_state.specs.declared.value.Value.TheVariants as values
use Rattle.value_laws.specs.Accept.{Accept}
use Rattle.value_laws.specs.Agreement.{Stands}
use Rattle.value_laws.specs.Choosing.{frame_steps}
use Rattle.value_laws.specs.Configuration.{Frame}
use Rattle.value_laws.specs.FieldContents.{AreUnfinished, FieldsOwn}
use Rattle.value_laws.specs.Frames.{KeepsTargets}
use Rattle.value_laws.specs.Heaps.{HasEarlierLinks}
use Rattle.value_laws.specs.Paths.{move_of}
use Rattle.value_laws.specs.PlaceFacts.{IsCovered, MakesNoAlias, MayStore, gives_none, renews_none}
use Rattle.value_laws.specs.PlainForms.{HasPlainForms, StoresPlainly}
use Rattle.value_laws.specs.Ranges.{LocalsInRange}
use Rattle.value_laws.specs.Renewing.{HasOwningField, IsLentFrom, IsWholeObject, is_of_heavy_class, makes_alone, reopens}
use Rattle.value_laws.proofs.HeapLaws.{roots_of_links-itself}
use Rattle.covering_laws.proofs.Bodies.{running_method}
use Rattle.covering_laws.proofs.Following.{method_here, step_there}
use Rattle.covering_laws.proofs.ThisLent.{lent_this}

-- the frame's method creates the obligation of this object anew, which is its `this`
pub record IsReopened (p : Program) (h : HeapContents) (frs : List Frame) (fr : Frame) (w : ℕ) (self : Object) : Type 0 where
  pub opens : reopens (method_at p fr.method) ≡ true
  pub heavy : IsWholeObject p self
  pub single : self.link ≡ None
  pub stores : MayStore p self.class
  pub lent : IsLentFrom p h frs w self.owner

one_class : (c d : ClassId) → is_class c d ≡ true → c ≡ d
one_class c d is = ap (λ (n : ℕ). (let z : ClassId = record { 0 = n } in z)) (eqb-true c.0 d.0 is)

module _ (p : Program) (ac : Accept p) (forms : HasPlainForms p) (h : HeapContents) (links : HasEarlierLinks h) (own : FieldsOwn p h) (fr : Frame) (mine : LocalsInRange h fr.locals) (st : Stands p fr) (old : ℕ → Bool) (frs : List Frame)
    (targets : KeepsTargets p fr) (covered : IsCovered p h gives_none renews_none old frs fr) (unfinished : AreUnfinished p h (fr ∷ frs)) (i : ℕ) (s : Step) (here : slice_get (frame_steps p fr) i ≡ Some s) (f : FieldId) (d : ℕ)
    (is : s.action ≡ actions.PutOwn f d) (plainly : StoresPlainly p (method_at p fr.method) f) (w : ℕ) (this : fr.locals.this ≡ values.Object w) (self : Object) (at : object_at h w ≡ Some self)
    (under : (m : Method) → method_at p fr.method ≡ Some m → is_under p self.class m.class ≡ true)
    (unlinked : reopens (method_at p fr.method) ≡ true → (self.link ≡ None) × MakesNoAlias p self.class) where
  form : has_field_place p st.number f ≡ true
  form = forms.stores st.number i (move_of s) f d st.control (step_there p fr st i s here) is

  pub run : (m : Method) × (method_at p fr.method ≡ Some m) × (is_library p m.class ≡ false)
  run = running_method p ac fr st

  abbrev pub method : Method
  method = run.0

  -- the field is one of the class of the body
  pub record IsItsField : Type 0 where
    pub field : Field
    pub known : field_at p f ≡ Some field
    pub owning : field.owning ≡ true
    pub class : field.class ≡ method.class
    pub among : is_class_of field.class (method_at p fr.method) ≡ true

  pub its_field : IsItsField
  its_field = by (field_at p f) refl form
    where
      by : (x : Option Field) → field_at p f ≡ x → is_field_in p st.number x ≡ true → IsItsField
      by None none never = absurd (true≢false (sym never))
      by (Some x) known both =
          let parts = and_parts x.owning (is_class_of x.class (method_of p st.number)) both in
          record {
            field = x;
            known = known;
            owning = parts.0;
            class = one_class x.class method.class (sym (ap (is_class_of x.class) (method_here p fr st ∙ run.1)) ∙ parts.1);
            among = sym (ap (is_class_of x.class) (method_here p fr st)) ∙ parts.1;
          }

  -- `this` is of its class
  pub its_class : self.class ≡ its_field.field.class
  its_class = forms.alone self.class f its_field.field its_field.known its_field.owning (ap (is_under p self.class) its_field.class ∙ under method run.1)

  has_field : HasOwningField p self.class
  has_field = (f, its_field.field, its_field.known, its_field.owning, sym its_class)

  reopened : reopens (method_at p fr.method) ≡ true → is_of_heavy_class p (method_at p fr.method) ≡ true → IsReopened p h frs fr w self
  reopened opens wide' = record { opens = opens; heavy = (inr has_field, wide); single = (unlinked opens).0; stores = stores; lent = lent }
    where
      not_true : (b : Bool) → not b ≡ true → b ≡ false
      not_true true never = absurd (true≢false (sym never))
      not_true false is' = refl

      plain : constructs (method_at p fr.method) ≡ false
      plain = not_true (constructs (method_at p fr.method)) (and_parts (not (constructs (method_at p fr.method))) (is_position (reset_in (method_at p fr.method)) 0) opens).0

      wide : is_heavy_class p self.class ≡ true
      wide = ap (is_heavy_class p) (its_class ∙ its_field.class) ∙ sym (ap (is_of_heavy_class p) run.1) ∙ wide'

      stores : MayStore p self.class
      stores = (ap (is_library p) (its_class ∙ its_field.class) ∙ run.2, has_field, (unlinked opens).1)

      lent : IsLentFrom p h frs w self.owner
      lent = lent_this p ac h fr st old frs (or_right (makes_alone (method_at p fr.method)) (reopens (method_at p fr.method)) opens) gives_none renews_none covered plain w self
          (ap (root_of h) this ∙ ap Some (roots_of_links-itself h w self at (unlinked opens).0)) at wide (inr (inr stores)) (inr has_field)

  pub storing_this : ((self.finished ≡ false) × (constructs (method_at p fr.method) ≡ true)) ⊎ IsReopened p h frs fr w self
  storing_this = elim plainly [
    | inl makes ↦ inl (unfinished.0 w self (f, its_field.field, its_field.known, its_field.owning, its_field.among) makes this at, makes)
    | inr opens ↦ inr (reopened opens.0 opens.1)
  ]
