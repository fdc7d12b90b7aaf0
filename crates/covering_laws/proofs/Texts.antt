-- Objects of class `String` owe no calls, and lead to no other object.
use Rattle.std.proofs.Common.{◌≡◌, ◌⊎◌, inl, inr, ℕ, zero, suc, Bool, true, false, ◌&&◌, ◌||◌, not, Option, Some, None, List, [], ◌∷◌, slice_get, refl, sym, ap, ◌∙◌, subst, true≢false}
use Rattle.std.specs.List.{list_any}
use Rattle.std.proofs.lemmas.Bool.{eq-eqb, or_parts}
use Rattle.program_model.specs.declared.kinds.ClassId.{ClassId}
use Rattle.program_model.specs.declared.program.Program.{Program}
use Rattle.program_model.specs.Lookups.{class_at}
use Rattle.program_model.specs.SuperTests.{classes_above, has_class, is_class, is_under}
use Rattle.ledger_obligations.specs.Bodies.{is_constructor_kind}
use Rattle.ledger_obligations.specs.MustCallSets.{is_heavy_class}
use Rattle.ownership_rules.specs.Signatures.{is_present}
use Rattle.value_laws.specs.Accept.{Accept}
use Rattle.ledger_state.specs.Contents.{HeapContents}
use Rattle.ledger_state.specs.Heaps.{object_at, root, root_of}
use Rattle.ledger_state.specs.declared.object.Link.{Link}
use Rattle.ledger_state.specs.declared.object.Object.{Object}
use Rattle.ledger_state.specs.declared.value.Value.{Value}
use Rattle.ledger_state.specs.declared.value.Value.TheVariants as values
use Rattle.ledger_state.specs.Classes.{class_in}
use Rattle.value_laws.specs.Types.{IsNoObjectButText, is_text, is_text_class}
use Rattle.value_laws.proofs.Cases.{same_class}
use Rattle.value_laws.proofs.HeapLaws.{roots_of_links-itself}
use Rattle.covering_laws.specs.Linking.{GivesClass, IsGivenAsAlias, LinkedAreAliases}
use Rattle.covering_laws.specs.Texts.{TextsAreLight}
use Rattle.value_laws.specs.LibraryClasses.{HasLightTexts, is_no_text_class, makes_alias_text}
use Rattle.covering_laws.proofs.LightExceptions.{under_itself}

no_element : {X : Type 0} (i : ℕ) (x : X) → slice_get [] i ≡ Some x → ⊥
no_element zero x is = let never : None ≡ Some x = is in cc
no_element (suc i) x is = let never : None ≡ Some x = is in cc

none_passes : {X : Type 0} (f : X → Bool) (xs : List X) (i : ℕ) (x : X) → list_any f xs ≡ false → slice_get xs i ≡ Some x → f x ≡ false
none_passes f [] i x none at = absurd (no_element i x at)
none_passes f (y ∷ ys) zero x none at = ap f (sym (let both : Some y ≡ Some x = at in (let one : y ≡ x = cc in one))) ∙ (or_parts (f y) (list_any f ys) none).0
none_passes f (y ∷ ys) (suc i) x none at = none_passes f ys i x (or_parts (f y) (list_any f ys) none).1 at

-- none of the classes passes the test, and so neither does one that is among them
none_among : (f : ClassId → Bool) (cs : List ClassId) (c : ClassId) → list_any f cs ≡ false → has_class cs c ≡ true → f c ≡ false
none_among f [] c none is = absurd (true≢false (sym is))
none_among f (d ∷ ds) c none is = go (is_class d c) refl is (none_among f ds c (or_parts (f d) (list_any f ds) none).1)
  where
    go : (b : Bool) → is_class d c ≡ b → (b || has_class ds c) ≡ true → (has_class ds c ≡ true → f c ≡ false) → f c ≡ false
    go true here is further = ap f (sym (same_class d c here)) ∙ (or_parts (f d) (list_any f ds) none).0
    go false other is further = further is

all_three : (a b c : Bool) → a ≡ true → b ≡ true → c ≡ true → (a && b && c) ≡ true
all_three true true true first second third = refl
all_three true true false first second third = absurd (true≢false (sym third))
all_three true false c first second third = absurd (true≢false (sym second))
all_three false b c first second third = absurd (true≢false (sym first))

module _ (p : Program) (ac : Accept p) (light : HasLightTexts p) where
  pub above_light : (c : ClassId) → is_under p p.core.string c ≡ true → is_heavy_class p c ≡ false
  above_light c under = none_among (is_heavy_class p) (classes_above p.core.string (class_at p p.core.string)) c light.classes under

  -- `Object` alone stands above `String`
  pub above_object : (c : ClassId) → (c ≡ p.core.string → ⊥) → is_under p p.core.string c ≡ true → c ≡ p.core.object
  above_object c other under = go (is_class c p.core.string) (is_class c p.core.object) refl refl (none_among (is_no_text_class p) (classes_above p.core.string (class_at p p.core.string)) c light.above under)
    where
      go : (a b : Bool) → is_class c p.core.string ≡ a → is_class c p.core.object ≡ b → not (is_class c p.core.string || is_class c p.core.object) ≡ false → c ≡ p.core.object
      go true b string object none = absurd (other (same_class c p.core.string string))
      go false true string object none = same_class c p.core.object object
      go false false string object none = absurd (true≢false (sym (ap not (ap (λ (d : Bool). d || is_class c p.core.object) string ∙ object)) ∙ none))

  text_light : is_heavy_class p p.core.string ≡ false
  text_light = above_light p.core.string (under_itself p ac p.core.string)

  no_alias : IsGivenAsAlias p p.core.string → ⊥
  no_alias given = by given.class
    where
      by : GivesClass p given.method p.core.string → ⊥
      by (inl (makes, same)) =
          true≢false (sym (all_three (is_constructor_kind given.method.kind) (is_class given.method.class p.core.string) (is_present given.method.sig.alias) makes
          (eq-eqb given.method.class.0 p.core.string.0 (ap (λ (k : ClassId). k.0) (sym same))) (ap is_present given.alias))
          ∙ none_passes (makes_alias_text p) p.methods.items given.number.0 given.method light.constructors given.at)
      by (inr (c, result, heavy, under, library)) = true≢false (sym heavy ∙ above_light c (above under))
        where
          above : (p.core.string ≡ c) ⊎ (is_under p p.core.string c ≡ true) → is_under p p.core.string c ≡ true
          above (inl same) = ap (is_under p p.core.string) (sym same) ∙ under_itself p ac p.core.string
          above (inr over) = over

  -- so is an object of the class, and it is linked to none
  pub text_is_light : (h : HeapContents) → LinkedAreAliases p h → (n : ℕ) (x : Object) → is_text p h n ≡ true → object_at h n ≡ Some x → (is_heavy_class p x.class ≡ false) × (x.link ≡ None)
  text_is_light h aliases n x text at = (ap (is_heavy_class p) class ∙ text_light, by_link x.link refl)
    where
      class : x.class ≡ p.core.string
      class = same_class x.class p.core.string (sym (ap (λ (z : Option Object). is_text_class p (class_in z)) at) ∙ text)

      by_link : (l : Option Link) → x.link ≡ l → x.link ≡ None
      by_link None free = free
      by_link (Some l) link = absurd (no_alias (subst (IsGivenAsAlias p) class (aliases n x l at link)))

  -- what stands where the static type is no class type leads to no object but of class `String`
  pub texts_lead_to_texts : (h : HeapContents) → LinkedAreAliases p h → (v : Value) (o : ℕ) (y : Object) → IsNoObjectButText p h v → root_of h v ≡ Some o → object_at h o ≡ Some y → y.class ≡ p.core.string
  texts_lead_to_texts h aliases (values.Object n) o y text found at = go (object_at h n) refl text
    where
      go : (z : Option Object) → object_at h n ≡ z → IsNoObjectButText p h (values.Object n) → y.class ≡ p.core.string
      go None there text = absurd (true≢false (sym (let never : false ≡ true = rw there at text in never)))
      go (Some x) there text = by_link x.link refl
        where
          class : x.class ≡ p.core.string
          class = same_class x.class p.core.string (let is : is_class x.class p.core.string ≡ true = rw there at text in is)

          by_link : (l : Option Link) → x.link ≡ l → y.class ≡ p.core.string
          by_link (Some l) link = absurd (no_alias (subst (IsGivenAsAlias p) class (aliases n x l there link)))
          by_link None link =
              let itself : n ≡ o = sym (roots_of_links-itself h n x there link) ∙ (let both : Some (root h n) ≡ Some o = found in (let one : root h n ≡ o = cc in one)) in
              let both : Some x ≡ Some y = sym there ∙ ap (object_at h) itself ∙ at in
              let same : x ≡ y = cc in
              ap (λ (u : Object). u.class) (sym same) ∙ class
  texts_lead_to_texts h aliases values.Nothing o y text found at = absurd (let never : None ≡ Some o = found in cc)
  texts_lead_to_texts h aliases v o y text found at = absurd (let never : None ≡ Some o = found in cc)

  pub texts_are_light : (h : HeapContents) → LinkedAreAliases p h → TextsAreLight p h
  texts_are_light h aliases v o y text found at = ap (is_heavy_class p) (texts_lead_to_texts h aliases v o y text found at) ∙ text_light
