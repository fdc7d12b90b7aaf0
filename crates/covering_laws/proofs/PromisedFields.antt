-- What a method promises on a field it promises on an owning field of its own class.
use Rattle.std.specs.Prelude.{if◌then◌else◌, length}
use Rattle.std.specs.List.{All, find}
use Rattle.std.proofs.Common.{◌≡◌, ℕ, Bool, true, false, Option, Some, None, List, [], ◌∷◌, option_map, slice_get, refl, sym, ap, ◌∙◌, subst, IsSomeAnd}
use Rattle.std.proofs.lemmas.List.Elements.{All-head, All-nil, All-tail}
use Rattle.std.proofs.lemmas.Bool.{and_parts}
use Rattle.program_model.specs.declared.kinds.FieldId.{FieldId}
use Rattle.program_model.specs.declared.kinds.MethodId.{MethodId}
use Rattle.program_model.specs.declared.kinds.Target.TheVariants as promised
use Rattle.program_model.specs.declared.program.Class.{Class}
use Rattle.program_model.specs.declared.program.Field.{Field}
use Rattle.program_model.specs.declared.program.Method.{Method}
use Rattle.program_model.specs.declared.program.Program.{Program}
use Rattle.program_model.specs.declared.program.Promise.{Promise}
use Rattle.program_model.specs.Lookups.{class_at, field_at, method_at}
use Rattle.program_model.specs.Validity.{IsFieldOf}
use Rattle.value_laws.specs.EffectiveSignaturesTargets.{fields_in, field_name, is_owning_named, is_position_text, own_fields, owning_field, position_of, target_of}
use Rattle.value_laws.specs.Accept.{Accept}
use Rattle.value_laws.proofs.SignedPromises.{Promises, written}

-- ---- targets

found_is : {X : Type 0} (P : X → Type 0) (f : X → Bool) (xs : List X) (x : X) → All P xs → find f xs ≡ Some x → (f x ≡ true) × P x
found_is P f [] x all is = absurd (let never : None ≡ Some x = is in cc)
found_is P f (y ∷ ys) x all is = go (f y) refl is (found_is P f ys x (All-tail P y ys all))
  where
    go : (b : Bool) → f y ≡ b → (if b then Some y else find f ys) ≡ Some x → (find f ys ≡ Some x → (f x ≡ true) × P x) → (f x ≡ true) × P x
    go true e same rest = let one : y ≡ x = (let both : Some y ≡ Some x = same in cc) in (ap f (sym one) ∙ e, subst P one (All-head P y ys all))
    go false e same rest = rest same

position_no_field : (x : Option ℕ) (f : FieldId) → option_map promised.At x ≡ Some (promised.OfField f) → ⊥
position_no_field None f is = cc
position_no_field (Some k) f is = cc

mapped_field : (x : Option FieldId) (f : FieldId) → option_map promised.OfField x ≡ Some (promised.OfField f) → x ≡ Some f
mapped_field None f is = absurd (let never : None ≡ Some (promised.OfField f) = is in cc)
mapped_field (Some g) f is = ap Some (let both : Some (promised.OfField g) ≡ Some (promised.OfField f) = is in (let one : g ≡ f = cc in one))

target_field : (with_object : Bool) (count : ℕ) (fields : List Field) (own : List FieldId) (text : List ℕ) (f : FieldId) → target_of with_object count fields own text ≡ Some (promised.OfField f)
    → owning_field fields own (field_name text) ≡ Some f
target_field with_object count fields own text f is = go (is_position_text text) with_object is
  where
    go : (a b : Bool) → (if a then option_map promised.At (position_of with_object count text) else (if b then option_map promised.OfField (owning_field fields own (field_name text)) else None)) ≡ Some (promised.OfField f)
        → owning_field fields own (field_name text) ≡ Some f
    go true b same = absurd (position_no_field (position_of with_object count text) f same)
    go false true same = mapped_field (owning_field fields own (field_name text)) f same
    go false false same = absurd (let never : None ≡ Some (promised.OfField f) = same in cc)

-- ---- signatures

pub record IsOwnField (p : Program) (x : Method) (f : FieldId) : Type 0 where
  pub field : Field
  pub at : field_at p f ≡ Some field
  pub owning : field.owning ≡ true
  pub class : field.class ≡ x.class

module _ (p : Program) (ac : Accept p) (x : Method) (f : FieldId) where
  own_listed : All (IsFieldOf p x.class) (own_fields p.classes.items x.class)
  own_listed = go (class_at p x.class) refl
    where
      go : (k : Option Class) → class_at p x.class ≡ k → All (IsFieldOf p x.class) (fields_in k)
      go None at = All-nil (IsFieldOf p x.class)
      go (Some k) at = (ac.well_formed.valid.typed.members x.class k at).fields

  named_field : (name : List ℕ) → owning_field p.fields.items (own_fields p.classes.items x.class) name ≡ Some f → IsOwnField p x f
  named_field name is =
      let found = found_is (IsFieldOf p x.class) (λ g. is_owning_named name (slice_get p.fields.items g.0)) (own_fields p.classes.items x.class) f own_listed is in
      go (field_at p f) refl found.0 found.1
    where
      go : (y : Option Field) → field_at p f ≡ y → is_owning_named name y ≡ true → IsSomeAnd y (λ z. z.class ≡ x.class) → IsOwnField p x f
      go None at named class = absurd class
      go (Some y) at named class = record { field = y; at = at; owning = (and_parts y.owning _ named).0; class = class }

pub promised_field : (p : Program) (ac : Accept p) (m : MethodId) (x : Method) (q : Promise) → method_at p m ≡ Some x → Promises x q → (f : FieldId) → q.target ≡ promised.OfField f → IsOwnField p x f
promised_field p ac m x q at promises f target =
    let is = written p ac m x q at promises in
    named_field p ac x f (field_name is.text) (target_field is.with_object (length x.sig.params.items) p.fields.items (own_fields p.classes.items x.class) is.text f (is.target ∙ ap Some target))
