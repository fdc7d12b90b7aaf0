-- What a method promises: each promise is that of one text of an annotation, and its names are of the table of names.
use Rattle.std.specs.Prelude.{◌<◌, ◌-◌, ◌&&◌, codes, drop, if◌then◌else◌, length, nat_eq, nat_le}
use Rattle.std.specs.FinSet as set
use Rattle.std.specs.Char.{is_ascii_digit}
use Rattle.std.specs.List.{filter_map, list_all, starts_with}
use Rattle.std.proofs.Common.{◌≡◌, ◌⊎◌, ℕ, zero, suc, Bool, true, false, true≢false, Option, Some, None, List, [], ◌∷◌, fold, nat_lt, slice_get, refl, sym, ap, ◌∙◌, subst, inl, inr, arith}
use Rattle.std.proofs.lemmas.Bool.{and_parts, ltb-true}
use Rattle.rlc_base.specs.Names.{place_of}
use Rattle.rlc_base.proofs.SetLaws.{either_member, member_of-empty}
use Rattle.program_model.specs.NameSets.{Names, no_names}
use Rattle.program_model.specs.declared.kinds.MethodId.{MethodId}
use Rattle.program_model.specs.declared.kinds.Target.{Target}
use Rattle.program_model.specs.declared.program.Method.{Method}
use Rattle.program_model.specs.declared.program.Program.{Program}
use Rattle.program_model.specs.declared.program.Promise.{Promise}
use Rattle.program_model.specs.declared.program.RawAnno.{RawAnno}
use Rattle.program_model.specs.Lookups.{method_at}
use Rattle.annotation_kinds.specs.Annotations.{first_of, texts_at}
use Rattle.annotation_kinds.specs.Positions.{is_decimal}
use Rattle.annotation_kinds.specs.declared.annotation.AnnotationKind.TheVariants as annotations
use Rattle.fact_laws.specs.Effective.{promise, promises_by, reset_in, reset_text}
use Rattle.fact_laws.specs.Sets.{numbers_of, with_number}
use Rattle.fact_laws.specs.SignedMethods.{IsSignedMethod}
use Rattle.fact_laws.specs.EffectiveSignaturesTargets.{decimal_value, has_object, keeps_object, next_digit, number_up_to, own_fields, position_of, target_of}
use Rattle.fact_laws.proofs.SignedTables.{before}
use Rattle.fact_laws.specs.Accept.{Accept}
use Rattle.frame_laws.proofs.NameCounts.{table_few}

-- ---- lists

no_element : {X : Type 0} (i : ℕ) (x : X) → slice_get [] i ≡ Some x → ⊥
no_element zero x is = let never : None ≡ Some x = is in cc
no_element (suc i) x is = let never : None ≡ Some x = is in cc

mapped_from : {X Y : Type 0} (f : X → Option Y) (xs : List X) (j : ℕ) (y : Y) → slice_get (filter_map f xs) j ≡ Some y → (x : X) × (f x ≡ Some y)
mapped_from f [] j y at = absurd (no_element j y at)
mapped_from {Y = Y} f (x ∷ xs) j y at = go (f x) refl (λ k is. mapped_from f xs k y is)
  where
    split : (z : Y) → f x ≡ Some z → (n : ℕ) → slice_get (z ∷ filter_map f xs) n ≡ Some y → ((k : ℕ) → slice_get (filter_map f xs) k ≡ Some y → (u : _) × (f u ≡ Some y)) → (u : _) × (f u ≡ Some y)
    split z e zero is rest = (x, e ∙ is)
    split z e (suc n) is rest = rest n is

    go : (o : Option Y) → f x ≡ o → ((k : ℕ) → slice_get (filter_map f xs) k ≡ Some y → (u : _) × (f u ≡ Some y)) → (u : _) × (f u ≡ Some y)
    go None e rest = rest j (rw e at at)
    go (Some z) e rest = split z e j (rw e at at) rest

-- ---- texts of annotations

-- the method promises this, on normal or on exceptional exits
abbrev pub Promises : Method → Promise → Type 0
Promises x q = (j : ℕ) × ((slice_get x.sig.promises.items j ≡ Some q) ⊎ (slice_get x.sig.on_throw.items j ≡ Some q))

-- the promise is that of a text of an annotation, which lists its names
pub record IsWritten (p : Program) (x : Method) (q : Promise) : Type 0 where
  pub annotation : RawAnno
  pub text : List ℕ
  pub with_object : Bool
  pub names : q.names ≡ numbers_of p.names (texts_at annotation (codes "methods"))
  pub target : target_of with_object (length x.sig.params.items) p.fields.items (own_fields p.classes.items x.class) text ≡ Some q.target

promise_is : (names : Names) (t : Option Target) (q : Promise) → promise names t ≡ Some q → (t ≡ Some q.target) × (q.names ≡ names)
promise_is names None q is = absurd (let never : None ≡ Some q = is in cc)
promise_is names (Some t) q is = (ap (λ (x : Promise). Some x.target) one, sym (ap (λ (x : Promise). x.names) one))
  where
    made : Promise
    made = record { target = t; names = names }

    one : made ≡ q
    one = let both : Some made ≡ Some q = is in (let same : made ≡ q = cc in same)

module _ (p : Program) (x : Method) where
  written_by : (with_object : Bool) (a : Option RawAnno) (j : ℕ) (q : Promise)
      → slice_get (promises_by p.names p.fields.items (own_fields p.classes.items x.class) (length x.sig.params.items) with_object a) j ≡ Some q → IsWritten p x q
  written_by with_object None j q at = absurd (no_element j q at)
  written_by with_object (Some a) j q at =
      let text = mapped_from (λ (t : List ℕ). promise (numbers_of p.names (texts_at a (codes "methods"))) (target_of with_object (length x.sig.params.items) p.fields.items (own_fields p.classes.items x.class) t)) (texts_at a (codes "value")) j q at in
      let is = promise_is (numbers_of p.names (texts_at a (codes "methods"))) (target_of with_object (length x.sig.params.items) p.fields.items (own_fields p.classes.items x.class) text.0) q text.1 in
      record { annotation = a; text = text.0; with_object = with_object; names = is.1; target = is.0 }

-- the method is one whose annotations were read, as its own
signed_itself : (p : Program) → Accept p → (m : MethodId) (x : Method) → method_at p m ≡ Some x → IsSignedMethod p.names p.fields.items p.classes.items x x
signed_itself p ac m x at =
    let was = before (IsSignedMethod p.names p.fields.items p.classes.items) p.methods.items p.methods.items m.0 x ac.signatures.methods at in
    let same : was.0 ≡ x = (let both : Some was.0 ≡ Some x = sym was.1 ∙ at in (let one : was.0 ≡ x = cc in one)) in
    subst (λ (y : Method). IsSignedMethod p.names p.fields.items p.classes.items y x) same was.2

pub written : (p : Program) → Accept p → (m : MethodId) (x : Method) (q : Promise) → method_at p m ≡ Some x → Promises x q → IsWritten p x q
written p ac m x q at promised = elim promised.1 [
  | inl normal ↦
      written_by p x (has_object x.kind) (first_of annotations.EnsuresCalledMethods x.annos.items) promised.0 q (ap (λ (ps : List Promise). slice_get ps promised.0) (sym signed.signature.promises) ∙ normal)
  | inr thrown ↦
      written_by p x (keeps_object x.kind) (first_of annotations.EnsuresCalledMethodsOnException x.annos.items) promised.0 q
      (ap (λ (ps : List Promise). slice_get ps promised.0) (sym signed.signature.on_throw) ∙ thrown)
]
  where
    signed : IsSignedMethod p.names p.fields.items p.classes.items x x
    signed = signed_itself p ac m x at

-- ---- a method that creates the obligation of `this` anew has a `this`

digits_grow : (n : ℕ) (digits : List ℕ) → 0 < n → 0 < fold next_digit n digits
digits_grow n [] some = some
digits_grow n (d ∷ ds) some = digits_grow (next_digit n d) ds (let rest : ℕ = d - 48 in omega (arith, some))

-- a decimal is not zero
decimal_some : (digits : List ℕ) → is_decimal digits ≡ true → 0 < decimal_value digits
decimal_some [] is = absurd (true≢false (sym is))
decimal_some (d ∷ ds) is = digits_grow (next_digit 0 d) ds (let first = ltb-true 48 d (and_parts (list_all is_ascii_digit (d ∷ ds)) (nat_lt 48 d) is).1 in omega (arith, first))

no_position : (count : ℕ) (digits : List ℕ) → number_up_to count digits ≡ Some 0 → ⊥
no_position count digits is = go (is_decimal digits) refl (nat_le (decimal_value digits) count) is
  where
    go : (b : Bool) → is_decimal digits ≡ b → (c : Bool) → (if b && c then Some (decimal_value digits) else None) ≡ Some 0 → ⊥
    go true decimal true is' = let zero : decimal_value digits ≡ 0 = (let both : Some (decimal_value digits) ≡ Some 0 = is' in cc) in let some = decimal_some digits decimal in omega (arith, zero, some)
    go true decimal false is' = let never : ◌≡◌ {A = Option ℕ} None (Some 0) = is' in cc
    go false decimal c is' = let never : ◌≡◌ {A = Option ℕ} None (Some 0) = is' in cc

object_by : (with_object : Bool) (count : ℕ) (text : List ℕ) → position_of with_object count text ≡ Some 0 → with_object ≡ true
object_by true count text is = refl
object_by false count text is = go (starts_with nat_eq text (codes "#")) is
  where
    go : (b : Bool) → (if b then number_up_to count (drop 1 text) else None) ≡ Some 0 → false ≡ true
    go true is' = absurd (no_position count (drop 1 text) is')
    go false is' = absurd (let never : ◌≡◌ {A = Option ℕ} None (Some 0) = is' in cc)

pub resets_object : (p : Program) → Accept p → (m : MethodId) (x : Method) → method_at p m ≡ Some x → x.sig.reset ≡ Some 0 → has_object x.kind ≡ true
resets_object p ac m x at resets = go (first_of annotations.CreatesMustCallFor x.annos.items) (sym (signed_itself p ac m x at).signature.reset ∙ resets)
  where
    go : (a : Option RawAnno) → reset_in x a ≡ Some 0 → has_object x.kind ≡ true
    go None is = absurd (let never : ◌≡◌ {A = Option ℕ} None (Some 0) = is in cc)
    go (Some a) is = object_by (has_object x.kind) (length x.sig.params.items) (reset_text (texts_at a (codes "value"))) is

-- ---- names of the table

-- the names have numbers below the bound
abbrev AreBelow : ℕ → Names → Type 0
AreBelow count names = (k : ℕ) → set.contains names k ≡ true → k < count

more_below : (table : List (List ℕ)) (names : Names) (text : List ℕ) → AreBelow (length table) names → AreBelow (length table) (with_number table names text)
more_below table names text below = go (nat_lt (place_of table text) (length table)) refl
  where
    go : (b : Bool) → nat_lt (place_of table text) (length table) ≡ b → AreBelow (length table) (if b then set.insert names (place_of table text) else names)
    go true inside k has = elim (either_member names (place_of table text) k has) [
      | inl same ↦ (let small = ltb-true (place_of table text) (length table) inside in omega (arith, same, small))
      | inr old ↦ below k old
    ]
    go false outside k has = below k has

all_below : (table : List (List ℕ)) (names : Names) (texts : List (List ℕ)) → AreBelow (length table) names → AreBelow (length table) (fold (with_number table) names texts)
all_below table names [] below = below
all_below table names (text ∷ texts) below = all_below table (with_number table names text) texts (more_below table names text below)

-- a name that a method promises has a number below 128
pub promised_name_is_small : (p : Program) → Accept p → (m : MethodId) (x : Method) (q : Promise) (n : ℕ) → method_at p m ≡ Some x → Promises x q → set.contains q.names n ≡ true → n < 128
promised_name_is_small p ac m x q n at promised has =
    let is = written p ac m x q at promised in
    let below = all_below p.names no_names (texts_at is.annotation (codes "methods")) (λ k none. absurd (true≢false (sym none ∙ member_of-empty k))) n
    (ap (λ (s : Names). set.contains s n) (sym is.names) ∙ has) in
    let few = table_few p p.names ac.signatures.names in
    omega (arith, few, below)
