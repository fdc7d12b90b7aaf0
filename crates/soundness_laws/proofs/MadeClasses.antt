-- Of which classes the objects are that a step leaves.
use Rattle.std.proofs.Common.{◌≡◌, ◌⊎◌, inl, inr, ℕ, Bool, true, false, not, ◌||◌, Option, Some, None, refl, sym, ap, ◌∙◌, subst, true≢false}
use Rattle.std.proofs.lemmas.Bool.{not_from_false, or_left, or_right}
use Rattle.program_model.specs.declared.kinds.ClassId.{ClassId}
use Rattle.program_model.specs.declared.program.Program.{Program}
use Rattle.program_model.specs.Overrides.{is_abstract, is_library}
use Rattle.ledger_state.specs.Classes.{class_in}
use Rattle.ledger_state.specs.Contents.{HeapContents}
use Rattle.ledger_state.specs.Heaps.{object_at}
use Rattle.ledger_state.specs.declared.object.Object.{Object}
use Rattle.ledger_state.specs.declared.value.Value.TheVariants as values
use Rattle.content_laws.specs.Agreement.{HasMadeClasses}
use Rattle.content_laws.specs.PlainForms.{may_be_made}

pub library_may : (p : Program) (c : ClassId) → is_library p c ≡ true → may_be_made p c ≡ true
library_may p c is = or_left (is_library p c) (not (is_abstract p c)) is

pub concrete_may : (p : Program) (c : ClassId) → is_abstract p c ≡ false → may_be_made p c ≡ true
concrete_may p c is = or_right (is_library p c) (not (is_abstract p c)) (not_from_false (is_abstract p c) is)

pub concrete_by : (p : Program) (c : ClassId) → may_be_made p c ≡ true → is_library p c ≡ false → is_abstract p c ≡ false
concrete_by p c made program = one (is_library p c) (is_abstract p c) made program
  where
    one : (a b : Bool) → (a || not b) ≡ true → a ≡ false → b ≡ false
    one true b made' program' = absurd (true≢false program')
    one false true made' program' = sym made'
    one false false made' program' = refl

-- each object is of the class of one that was there, or of one of which there may be objects
pub classes_on : (p : Program) (h k : HeapContents) → HasMadeClasses p h
    → ((o : ℕ) (y : Object) → object_at k o ≡ Some y → ((x : Object) × (object_at h o ≡ Some x) × (y.class ≡ x.class)) ⊎ (may_be_made p y.class ≡ true)) → HasMadeClasses p k
classes_on p h k made from values.Text c is = made values.Text c is
classes_on p h k made from (values.Array a) c is = made (values.Array a) c is
classes_on p h k made from values.Nothing c is = made values.Nothing c is
classes_on p h k made from values.Null c is = made values.Null c is
classes_on p h k made from (values.Number z) c is = made (values.Number z) c is
classes_on p h k made from (values.Object o) c is = go (object_at k o) refl is
  where
    of_object : (y : Object) → ((x : Object) × (object_at h o ≡ Some x) × (y.class ≡ x.class)) ⊎ (may_be_made p y.class ≡ true) → may_be_made p y.class ≡ true
    of_object y (inl old) = ap (may_be_made p) old.2 ∙ made (values.Object o) old.0.class (ap class_in old.1)
    of_object y (inr new) = new

    go : (y : Option Object) → object_at k o ≡ y → class_in y ≡ Some c → may_be_made p c ≡ true
    go None at same = absurd (let never : None ≡ Some c = same in cc)
    go (Some y) at same = subst (λ (d : ClassId). may_be_made p d ≡ true) (let both : Some y.class ≡ Some c = same in (let one : y.class ≡ c = cc in one)) (of_object y (from o y at))
