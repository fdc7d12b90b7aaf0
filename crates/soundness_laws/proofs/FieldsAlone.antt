-- What promises on a field is a method of a class that has no class under it but itself: the field is an owning one of that class.
use Rattle.std.specs.List.{list_any}
use Rattle.std.proofs.Common.{◌≡◌, ℕ, suc, Bool, true, false, not, ◌&&◌, ◌||◌, Option, Some, None, IsSomeAnd, List, [], ◌∷◌, Contains, slice_get, inl, refl, sym, ap, ◌∙◌, subst, eqb-true, true≢false}
use Rattle.std.proofs.lemmas.Bool.{or_left, or_right}
use Rattle.program_model.specs.declared.kinds.ClassId.{ClassId}
use Rattle.program_model.specs.declared.kinds.FieldId.{FieldId}
use Rattle.program_model.specs.declared.kinds.Target.{Target}
use Rattle.program_model.specs.declared.kinds.Target.TheVariants as promised
use Rattle.program_model.specs.declared.program.Class.{Class}
use Rattle.program_model.specs.declared.program.Field.{Field}
use Rattle.program_model.specs.declared.program.Program.{Program}
use Rattle.program_model.specs.declared.program.Promise.{Promise}
use Rattle.program_model.specs.Lookups.{class_at, field_at}
use Rattle.program_model.specs.SuperTests.{classes_above, has_class, is_class, is_under}
use Rattle.content_laws.specs.Accept.{Accept}
use Rattle.content_laws.specs.AgreementConditions.{MeetsFileConditions, declares_owning}
use Rattle.content_laws.specs.AliasCases.{is_owning_in}
use Rattle.content_laws.proofs.PromisedFields.{promised_field}
use Rattle.dispatch_laws.specs.PlainCalls.{FieldsPromisedAlone}
use Rattle.ledger_obligations.specs.Bodies.{fields_in}
use Rattle.ledger_obligations.specs.OverrideCases.{is_field_target, promises_on_field}
use Rattle.ledger_steps.proofs.Elements.{none-has}

-- a promise on a field, with its place
record OnField (xs : List Promise) : Type 0 where
  place : ℕ
  promise : Promise
  field : FieldId
  at : slice_get xs place ≡ Some promise
  target : promise.target ≡ promised.OfField field

on_field : (xs : List Promise) → promises_on_field xs ≡ true → OnField xs
on_field [] is = absurd (true≢false (sym is))
on_field (x ∷ xs) is = by x.target refl is (on_field xs)
  where
    by : (t : Target) → x.target ≡ t → (is_field_target t || promises_on_field xs) ≡ true → (promises_on_field xs ≡ true → OnField xs) → OnField (x ∷ xs)
    by (promised.OfField f) target here more = record { place = 0; promise = x; field = f; at = refl; target = target }
    by (promised.At k) target later more =
        let rest = more later in
        record { place = suc rest.place; promise = rest.promise; field = rest.field; at = rest.at; target = rest.target }

any_there : {X : Type 0} (test : X → Bool) (xs : List X) (x : X) → Contains xs x → test x ≡ true → list_any test xs ≡ true
any_there test xs x among passes = by (list_any test xs) refl
  where
    by : (b : Bool) → list_any test xs ≡ b → list_any test xs ≡ true
    by true some = some
    by false none = absurd (true≢false (sym passes ∙ none-has test xs none x among))

one_class : (c d : ClassId) → is_class c d ≡ true → c ≡ d
one_class c d is = let number : c.0 ≡ d.0 = eqb-true c.0 d.0 is in λ i. record { 0 = number i }

any_class : (test : ClassId → Bool) (es : List ClassId) (d : ClassId) → has_class es d ≡ true → test d ≡ true → list_any test es ≡ true
any_class test [] d is passes = absurd (true≢false (sym is))
any_class test (e ∷ es) d is passes = by (is_class e d) refl is (λ found. any_class test es d found passes)
  where
    by : (b : Bool) → is_class e d ≡ b → (b || has_class es d) ≡ true → (has_class es d ≡ true → list_any test es ≡ true) → list_any test (e ∷ es) ≡ true
    by true same found more = or_left (test e) (list_any test es) (ap test (one_class e d same) ∙ passes)
    by false other found more = or_right (test e) (list_any test es) (more found)

module _ (p : Program) (ac : Accept p) (files : MeetsFileConditions p) where
  -- the class of a field lists it
  declares : (d : ClassId) (f : FieldId) (x : Field) → field_at p f ≡ Some x → x.owning ≡ true → x.class ≡ d → declares_owning p d ≡ true
  declares d f x at owning class = subst (λ (e : ClassId). declares_owning p e ≡ true) class (by (class_at p x.class) (ac.well_formed.valid.typed.fields f x at).listed)
    where
      by : (o : Option Class) → IsSomeAnd o (λ k. Contains k.fields.items f) → list_any (λ g. is_owning_in (field_at p g)) (fields_in o) ≡ true
      by None listed = absurd listed
      by (Some k) listed = any_there (λ g. is_owning_in (field_at p g)) k.fields.items f listed (ap is_owning_in at ∙ owning)

  -- a class that declares owning fields has none under it but itself
  alone_under : (c d : ClassId) → declares_owning p d ≡ true → is_under p c d ≡ true → c ≡ d
  alone_under c d declared under = by (class_at p c) refl under
    where
      by : (o : Option Class) → class_at p c ≡ o → has_class (classes_above c o) d ≡ true → c ≡ d
      by None at is = one_class c d (alone (is_class c d) is)
        where
          alone : (b : Bool) → (b || false) ≡ true → b ≡ true
          alone true is' = refl
          alone false is' = is'
      by (Some k) at is = go (is_class d c) refl
        where
          go : (b : Bool) → is_class d c ≡ b → c ≡ d
          go true same = sym (one_class d c same)
          go false other =
              let passes : (not (is_class d c) && declares_owning p d) ≡ true = rw (other, declared) refl in
              absurd (true≢false (sym (any_class (λ e. not (is_class e c) && declares_owning p e) k.above.items d is passes) ∙ files.owners c k at))

  -- so it is with the class of an owning field
  pub owners_alone : (c : ClassId) (f : FieldId) (x : Field) → field_at p f ≡ Some x → x.owning ≡ true → is_under p c x.class ≡ true → c ≡ x.class
  owners_alone c f x at owning under = alone_under c x.class (declares x.class f x at owning refl) under

  pub fields_promised_alone : FieldsPromisedAlone p
  fields_promised_alone m n c at promises under =
      let x = on_field n.sig.promises.items promises in
      let own = promised_field p ac m n x.promise at (x.place, inl x.at) x.field x.target in
      alone_under c n.class (declares n.class x.field own.field own.at own.owning own.class) under
