-- The method that a class with owning fields has of its own for a name that a constructor's link does not pass on.
use Rattle.std.proofs.Common.{◌≡◌, ◌∙◌, ap, refl, sym, inl, ℕ, Bool, true, false, true≢false, not, eqb-true, Option, Some, None, List, [], ◌∷◌, slice_get}
use Rattle.std.specs.Prelude.{if◌then◌else◌}
use Rattle.std.specs.FinSet as set
use Rattle.std.specs.List.{find, flat_map}
use Rattle.std.proofs.lemmas.Bool.{and_parts}
use Rattle.rlc_base.proofs.SetLaws.{member_of-empty}
use Rattle.rlc_base.specs.declared.name_id.NameId.{NameId}
use Rattle.program_model.specs.NameSets.{when}
use Rattle.program_model.specs.declared.kinds.ClassId.{ClassId}
use Rattle.program_model.specs.declared.kinds.FieldId.{FieldId}
use Rattle.program_model.specs.declared.kinds.MethodId.{MethodId}
use Rattle.program_model.specs.declared.kinds.Target.{Target}
use Rattle.program_model.specs.declared.kinds.Target.TheVariants as promised
use Rattle.program_model.specs.declared.program.Field.{Field}
use Rattle.program_model.specs.declared.program.Method.{Method}
use Rattle.program_model.specs.declared.program.Program.{Program}
use Rattle.program_model.specs.declared.program.Promise.{Promise}
use Rattle.program_model.specs.Lookups.{field_at, method_at}
use Rattle.program_model.specs.Overrides.{is_library, methods_of, super_classes}
use Rattle.program_model.specs.SuperTests.{is_under}
use Rattle.ledger_obligations.specs.MustCallSets.{must_of}
use Rattle.ownership_rules.specs.Signatures.{is_of_field, promised_names}
use Rattle.value_laws.specs.Accept.{Accept}
use Rattle.ledger_obligations.specs.Obligations.{is_name, is_named, is_named_in, is_the_one, method_by, method_named, own_promises, promises_written}
use Rattle.value_laws.specs.Leading.{CallsOnField}
use Rattle.value_laws.proofs.NoteLists.{name_from_all, name_where}
use Rattle.value_laws.specs.PlainForms.{HasPlainForms, may_be_made, run_by}
use Rattle.covering_laws.proofs.PromisedFields.{IsOwnField, promised_field}

found_passes : {X : Type 0} (test : X → Bool) (xs : List X) (x : X) → find test xs ≡ Some x → test x ≡ true
found_passes test [] x is = absurd (let never : None ≡ Some x = is in cc)
found_passes test (y ∷ ys) x is = go (test y) refl is (found_passes test ys x)
  where
    go : (b : Bool) → test y ≡ b → (if b then Some y else find test ys) ≡ Some x → (find test ys ≡ Some x → test x ≡ true) → test x ≡ true
    go true passes found rest = ap test (sym (let both : Some y ≡ Some x = found in (let one : y ≡ x = cc in one))) ∙ passes
    go false fails found rest = rest found

name_is : (i : NameId) (x : Option NameId) → is_name i x ≡ true → x ≡ Some i
name_is i None is = absurd (true≢false (sym is))
name_is i (Some j) is = ap (λ (k : ℕ). (let z : Option NameId = Some (record { 0 = k }) in z)) (eqb-true j.0 i.0 is)

-- the class has a method of its own of the name, which the program declares
pub record IsOwn (p : Program) (c : ClassId) (i : NameId) : Type 0 where
  pub number : MethodId
  pub method : Method
  pub at : method_at p number ≡ Some method
  pub program : is_library p method.class ≡ false
  pub interest : method.sig.interest ≡ Some i
  pub promises : own_promises p c i ≡ method.sig.promises.items

no_promise : (test : Target → Bool) (j : ℕ) (qs : List Promise) → qs ≡ [] → set.contains (promised_names test qs) j ≡ true → ⊥
no_promise test j qs none has = true≢false (sym (ap (λ (xs : List Promise). set.contains (promised_names test xs) j) (sym none) ∙ has) ∙ member_of-empty j)

-- it is there where it promises something
pub own_method : (p : Program) (c : ClassId) (i : NameId) (test : Target → Bool) (j : ℕ) → set.contains (promised_names test (own_promises p c i)) j ≡ true → IsOwn p c i
own_method p c i test j has = by (method_named p c i) refl
  where
    written : (m : MethodId) (d : Method) → method_named p c i ≡ Some m → method_at p m ≡ Some d → (b : Bool) → is_library p d.class ≡ b → IsOwn p c i
    written m d found at true library = absurd (no_promise test j (own_promises p c i) (ap (λ (x : Option MethodId). promises_written p (method_by p x)) found ∙ ap (promises_written p) at ∙ rw library refl) has)
    written m d found at false program = record {
      number = m;
      method = d;
      at = at;
      program = program;
      interest = name_is i d.sig.interest (and_parts (not d.is_private) (is_name i d.sig.interest)
          (sym (ap (is_named_in i) at) ∙ found_passes (is_named p i) (flat_map (methods_of p) (super_classes p c)) m found)).1;
      promises = ap (λ (x : Option MethodId). promises_written p (method_by p x)) found ∙ ap (promises_written p) at ∙ rw program refl;
    }

    by_method : (m : MethodId) → method_named p c i ≡ Some m → (d : Option Method) → method_at p m ≡ d → IsOwn p c i
    by_method m found None none = absurd (no_promise test j (own_promises p c i) (ap (λ (x : Option MethodId). promises_written p (method_by p x)) found ∙ ap (promises_written p) none) has)
    by_method m found (Some d) at = written m d found at (is_library p d.class) refl

    by : (m : Option MethodId) → method_named p c i ≡ m → IsOwn p c i
    by None none = absurd (no_promise test j (own_promises p c i) (ap (λ (x : Option MethodId). promises_written p (method_by p x)) none) has)
    by (Some m) found = by_method m found (method_at p m) refl

-- the field of a promise on a field
field_target : (t : Target) (f : FieldId) → is_of_field t f ≡ true → t ≡ promised.OfField f
field_target (promised.At k) f is = absurd (true≢false (sym is))
field_target (promised.OfField g) f is = ap promised.OfField (ap (λ (n : ℕ). (let z : FieldId = record { 0 = n } in z)) (eqb-true g.0 f.0 is))

module _ (p : Program) (ac : Accept p) (forms' : HasPlainForms p) (c : ClassId) (f : FieldId) (field : Field) (declared : field_at p f ≡ Some field) (owning : field.owning ≡ true)
    (calls : CallsOnField p c f) (name : NameId) (one : is_the_one (must_of p c) name ≡ true) where
  pub promised_own : set.contains (promised_names (λ u. is_of_field u f) (own_promises p c name)) name.0 ≡ true
  promised_own = calls.1 name one

  pub own : IsOwn p c name
  own = own_method p c name (λ u. is_of_field u f) name.0 promised_own

  promise : (u : Promise) × (v : ℕ) × (slice_get own.method.sig.promises.items v ≡ Some u) × (u.target ≡ promised.OfField f)
  promise =
      let from = name_from_all (λ (u : Promise). when (is_of_field u.target f) u.names) own.method.sig.promises.items name.0
      (ap (λ (us : List Promise). set.contains (promised_names (λ u. is_of_field u f) us) name.0) (sym own.promises) ∙ promised_own) in
      (from.0, from.1, from.2, field_target from.0.target f (name_where (is_of_field from.0.target f) from.0.names name.0 from.3).0)

  mine : IsOwnField p own.method f
  mine = promised_field p ac own.number own.method promise.0 own.at (promise.1, inl promise.2) f promise.3

  -- the class declares it
  pub own_class : own.method.class ≡ c
  own_class = sym mine.class ∙ ap (λ (z : Field). z.class) (let both : Some mine.field ≡ Some field = sym mine.at ∙ declared in (let same : mine.field ≡ field = cc in same)) ∙ (calls.0 field declared).0

  pub own_must : set.contains (must_of p own.method.class) name.0 ≡ true
  own_must = ap (λ (z : ClassId). set.contains (must_of p z) name.0) own_class ∙ (and_parts (set.contains (must_of p c) name.0) (set.is_subset (must_of p c) (set.insert set.empty name.0)) one).0

  -- objects of the class run it, whichever method of the name a call names
  pub own_runs : may_be_made p c ≡ true → (named : MethodId) (n : Method) → method_at p named ≡ Some n → n.sig.interest ≡ Some name → is_under p c n.class ≡ true → run_by p named c ≡ own.number
  own_runs made named n named_at interest under =
      ap (run_by p named) (sym own_class)
      ∙ forms'.own named own.number n own.method f field name named_at own.at (ap (may_be_made p) own_class ∙ made) declared owning ((calls.0 field declared).0 ∙ sym own_class) interest own.interest own_must
      (ap (λ (z : ClassId). is_under p z n.class) own_class ∙ under)
