-- A store within a frame, other than by `=` into an owning field of `this`: of what has an obligation it changes nothing.
use Rattle.std.proofs.Common.{◌≡◌, ◌⊎◌, inl, inr, ℕ, ◌+◌, Bool, true, false, true≢false, Option, Some, None, nat_eq, refl, sym, ap, ◌∙◌, subst, arith, eqb-true, if◌then◌else◌}
use Rattle.std.specs.Option.{option_map}
use Rattle.program_model.specs.declared.kinds.ClassId.{ClassId}
use Rattle.program_model.specs.declared.kinds.FieldId.{FieldId}
use Rattle.program_model.specs.declared.program.Method.{Method}
use Rattle.program_model.specs.declared.program.Program.{Program}
use Rattle.program_model.specs.Lookups.{field_at}
use Rattle.ledger_obligations.specs.MustCallSets.{is_heavy_class}
use Rattle.java_control.specs.Owned.{is_owning}
use Rattle.control_actions.specs.declared.action.Action.{Action}
use Rattle.control_actions.specs.declared.action.Action.TheVariants as actions
use Rattle.ledger_state.specs.Contents.{HeapContents}
use Rattle.ledger_state.specs.Fields.{field_of, field_value}
use Rattle.ledger_state.specs.Heaps.{next_number, object_at, put_field, root, root_of}
use Rattle.ledger_state.specs.Locals.{temp_value}
use Rattle.ledger_state.specs.Values.{number_of}
use Rattle.ledger_state.specs.declared.entry.Owner.TheVariants as owners
use Rattle.ledger_state.specs.declared.locals.Locals.{Locals}
use Rattle.ledger_state.specs.declared.object.Link.{Link}
use Rattle.ledger_state.specs.declared.object.Object.{Object}
use Rattle.ledger_state.specs.declared.value.Value.{Value}
use Rattle.ledger_state.specs.declared.value.Value.TheVariants as values
use Rattle.ledger_obligations.specs.Obligations.{holder_roots, is_library_owner, may_move_root, moved_in, reset_in, resets_holder, stored_owning, type_of_field}
use Rattle.ledger_steps.specs.declared.store.Store.{Store}
use Rattle.ledger_steps.specs.InnerSteps.{heap_stored, is_bound, store_into, store_of, store_unless, thrown_heap}
use Rattle.value_laws.specs.Heaps.{GoesOn, HasEarlierLinks, IsEarlierLink}
use Rattle.value_laws.specs.Outcomes.{IsCallRow, IsPlainRow}
use Rattle.value_laws.specs.Stores.{IsStored}
use Rattle.value_laws.proofs.Fields.{holds_here, holds_other, plain_holds, same_field}
use Rattle.value_laws.proofs.HeapLaws.{changed_object_at-object, roots_of_links-absent, roots_of_links-itself}
use Rattle.value_laws.proofs.EndLaws.{given_up_goes_on}
use Rattle.value_laws.proofs.ObjectLaws.{goes_on_self}
use Rattle.value_laws.proofs.Renewed.{reset_keeps}
use Rattle.value_laws.proofs.StoredObjects.{moved_back, still_stays, stored_back, stored_count, stored_forward, stored_goes_on}
use Rattle.covering_laws.proofs.LinkedExceptions.{LinkedWere}
use Rattle.covering_laws.specs.TextUpdates.{HoldsOrTakesText, IsLeftByText, IsLight, IsLightStore, StoresText}

-- ---- values

pub no_root : (h : HeapContents) (v : Value) → number_of v ≡ None → root_of h v ≡ None
no_root h (values.Object n) none = absurd (let never : Some n ≡ None = none in cc)
no_root h values.Nothing none = refl
no_root h v none = refl

-- the root of a light value is the object itself, of a class that has no obligation
pub light_root : (p : Program) (h : HeapContents) (v : Value) (n : ℕ) (x : Object) → IsLight p h v → root_of h v ≡ Some n → object_at h n ≡ Some x → is_heavy_class p x.class ≡ false
light_root p h (values.Object c) n x light found at = go (object_at h c) refl
  where
    go : (z : Option Object) → object_at h c ≡ z → is_heavy_class p x.class ≡ false
    go None there = absurd (let never : None ≡ Some x = sym there ∙ ap (object_at h) (let itself : c ≡ n = sym (roots_of_links-absent h c there) ∙ one in itself) ∙ at in cc)
      where
        one : root h c ≡ n
        one = let both : Some (root h c) ≡ Some n = found in cc
    go (Some z) there =
        let its = light c z refl there in
        let itself : c ≡ n = sym (roots_of_links-itself h c z there its.1) ∙ (let both : Some (root h c) ≡ Some n = found in (let one : root h c ≡ n = cc in one)) in
        let both : Some z ≡ Some x = sym there ∙ ap (object_at h) itself ∙ at in
        let same : z ≡ x = cc in
        ap (λ (u : Object). is_heavy_class p u.class) (sym same) ∙ its.0
light_root p h values.Nothing n x light found at = absurd (let never : None ≡ Some n = found in cc)
light_root p h v n x light found at = absurd (let never : None ≡ Some n = found in cc)

-- ---- a text into an owning field

module _ (p : Program) (h : HeapContents) (w : ℕ) (f : FieldId) (bound : Bool) (v : Value) (text : StoresText p h w f v) where
  pub text_resets_none : (old : Value) → resets_holder p h w f bound old v ≡ false
  text_resets_none old = still_stays p h w f v bound old (ap (may_move_root p h (type_of_field (field_at p f))) (no_root h v text.0))

  left : (n : ℕ) (x y : Object) → object_at h n ≡ Some x → IsStored p h w f v n x y → IsLeftByText p x y
  left n x y at (inl same) = inl same
  left n x y at (inr (inl gone)) = inr (gone.1, light_root p h (field_value p h w f) n x text.1 gone.0.held at, (w, f, gone.0.owner))
  left n x y at (inr (inr moved)) = absurd (let never : None ≡ Some n = sym (no_root h v text.0) ∙ moved.0.root in cc)

  text_back : (n : ℕ) (y : Object) → object_at (stored_owning p h w f bound v) n ≡ Some y → (x : Object) × (object_at h n ≡ Some x) × IsLeftByText p x y
  text_back n y now = let x = stored_back p h w f v bound n y (text_resets_none (field_of p h (values.Object w) f)) now in (x.0, x.1, left n x.0 y x.1 x.2)

  text_forward : (n : ℕ) (x : Object) → object_at h n ≡ Some x → (y : Object) × (object_at (stored_owning p h w f bound v) n ≡ Some y) × IsLeftByText p x y
  text_forward n x at = let y = stored_forward p h w f v bound n x (text_resets_none (field_of p h (values.Object w) f)) at in (y.0, y.1, left n x y.0 at y.2)

-- ---- any store

same_or_not : (u : ℕ) (g : FieldId) (w : ℕ) (f : FieldId) → ((u ≡ w) × (g ≡ f)) ⊎ ((u ≡ w) × (g ≡ f) → ⊥)
same_or_not u g w f = go (nat_eq u w) (nat_eq g.0 f.0) refl refl
  where
    itself : (n : ℕ) → nat_eq n n ≡ true
    itself n = grind (arith)

    go : (b c : Bool) → nat_eq u w ≡ b → nat_eq g.0 f.0 ≡ c → ((u ≡ w) × (g ≡ f)) ⊎ ((u ≡ w) × (g ≡ f) → ⊥)
    go true true here there = inl (eqb-true u w here, same_field g f 0 (eqb-true g.0 f.0 there))
    go true false here there = inr (λ both. true≢false (sym (ap (λ (k : FieldId). nat_eq g.0 k.0) (sym both.1) ∙ itself g.0) ∙ there))
    go false c here there = inr (λ both. true≢false (sym (ap (nat_eq u) (sym both.0) ∙ itself u) ∙ here))

-- no store links anything
module _ (p : Program) (h : HeapContents) where
  same_links : (w : ℕ) (f : FieldId) (v : Value) (n : ℕ) (x y : Object) (l : Link) → IsStored p h w f v n x y → y.link ≡ Some l → (x.link ≡ Some l) × (y.class ≡ x.class)
  same_links w f v n x y l stored link = let goes = stored_goes_on p h w f v n x y stored in (sym goes.link ∙ link, goes.class)

  owning_linked : (w : ℕ) (f : FieldId) (bound : Bool) (v : Value) → LinkedWere h (stored_owning p h w f bound v)
  owning_linked w f bound v n y l now link = go (object_at (moved_in p h w f bound v) n) refl (sym (changed_object_at-object (reset_in p (moved_in p h w f bound v) (holder_roots p h w f bound v)) (moved_in p h w f bound v) n) ∙ now)
    where
      go : (z : Option Object) → object_at (moved_in p h w f bound v) n ≡ z → option_map (reset_in p (moved_in p h w f bound v) (holder_roots p h w f bound v) n) z ≡ Some y
          → (x : Object) × (object_at h n ≡ Some x) × (x.link ≡ Some l) × (y.class ≡ x.class)
      go None before same = absurd (let never : None ≡ Some y = same in cc)
      go (Some z) before same =
          let one : reset_in p (moved_in p h w f bound v) (holder_roots p h w f bound v) n z ≡ y = cc in
          let keeps = reset_keeps p (moved_in p h w f bound v) (holder_roots p h w f bound v) n z in
          let x = moved_back p h w f v bound n z before in
          let its = same_links w f v n x.0 z l x.2 (sym (ap (λ (u : Object). u.link) (sym one) ∙ keeps.1) ∙ link) in
          (x.0, x.1, its.0, ap (λ (u : Object). u.class) (sym one) ∙ keeps.0 ∙ its.1)

  pub store_linked : (m : Option Method) (l : Locals) (s : Option Store) → LinkedWere h (heap_stored p m l s h)
  store_linked m l None n y k now link = (y, now, link, refl)
  store_linked m l (Some s) n y k now link = go (is_owning p s.field) now
    where
      go : (b : Bool) → object_at (if b then stored_owning p h s.holder s.field (is_bound h m l s.value) s.value else put_field s.holder s.field s.value h) n ≡ Some y
          → (x : Object) × (object_at h n ≡ Some x) × (x.link ≡ Some k) × (y.class ≡ x.class)
      go true at = owning_linked s.holder s.field (is_bound h m l s.value) s.value n y k at link
      go false at = (y, at, link, refl)

-- ---- a store of a plain row

-- where it is into an owning field, it is that of a text
pub is_text_store : (p : Program) (h : HeapContents) (s : Store) → IsLightStore p h (Some s) → is_owning p s.field ≡ true → StoresText p h s.holder s.field s.value
is_text_store p h s (inl plain) own = absurd (true≢false (sym own ∙ plain))
is_text_store p h s (inr text) own = text

module _ (p : Program) (m : Option Method) (l : Locals) (h : HeapContents) where
  pub light_back : (s : Option Store) → IsLightStore p h s → (n : ℕ) (y : Object) → object_at (heap_stored p m l s h) n ≡ Some y → (x : Object) × (object_at h n ≡ Some x) × IsLeftByText p x y
  light_back None light n y now = (y, now, inl refl)
  light_back (Some s) light n y now = go (is_owning p s.field) refl now
    where
      go : (b : Bool) → is_owning p s.field ≡ b → object_at (if b then stored_owning p h s.holder s.field (is_bound h m l s.value) s.value else put_field s.holder s.field s.value h) n ≡ Some y
          → (x : Object) × (object_at h n ≡ Some x) × IsLeftByText p x y
      go true own at = text_back p h s.holder s.field (is_bound h m l s.value) s.value (is_text_store p h s light own) n y at
      go false none at = (y, at, inl refl)

  pub light_forward : (s : Option Store) → IsLightStore p h s → (n : ℕ) (x : Object) → object_at h n ≡ Some x → (y : Object) × (object_at (heap_stored p m l s h) n ≡ Some y) × IsLeftByText p x y
  light_forward None light n x at = (x, at, inl refl)
  light_forward (Some s) light n x at = go (is_owning p s.field) refl
    where
      go : (b : Bool) → is_owning p s.field ≡ b
          → (y : Object) × (object_at (if b then stored_owning p h s.holder s.field (is_bound h m l s.value) s.value else put_field s.holder s.field s.value h) n ≡ Some y) × IsLeftByText p x y
      go true own = text_forward p h s.holder s.field (is_bound h m l s.value) s.value (is_text_store p h s light own) n x at
      go false none = (x, at, inl refl)

  pub store_count : (s : Option Store) → next_number (heap_stored p m l s h) ≡ next_number h
  store_count None = refl
  store_count (Some s) = go (is_owning p s.field)
    where
      go : (b : Bool) → next_number (if b then stored_owning p h s.holder s.field (is_bound h m l s.value) s.value else put_field s.holder s.field s.value h) ≡ next_number h
      go true = stored_count p h s.holder s.field s.value (is_bound h m l s.value)
      go false = refl

  -- owning fields hold what they held, or a text in the place of one
  pub light_fields : (s : Option Store) → IsLightStore p h s → (u : ℕ) (g : FieldId) → is_owning p g ≡ true → HoldsOrTakesText p h (heap_stored p m l s h) u g
  light_fields None light u g own = inl refl
  light_fields (Some s) light u g own = go (is_owning p s.field) refl
    where
      go : (b : Bool) → is_owning p s.field ≡ b → HoldsOrTakesText p h (if b then stored_owning p h s.holder s.field (is_bound h m l s.value) s.value else put_field s.holder s.field s.value h) u g
      go true is =
          let text = is_text_store p h s light is in
          elim (same_or_not u g s.holder s.field) [
            | inl same ↦ inr (
              subst (λ (n : ℕ). IsLight p h (field_value p h n g)) (sym same.0) (subst (λ (k : FieldId). IsLight p h (field_value p h s.holder k)) (sym same.1) text.1),
              ap number_of (ap (λ (n : ℕ). field_value p (stored_owning p h s.holder s.field (is_bound h m l s.value) s.value) n g) same.0
                  ∙ ap (field_value p (stored_owning p h s.holder s.field (is_bound h m l s.value) s.value) s.holder) same.1 ∙ holds_here p h s.holder s.field (is_bound h m l s.value) s.value) ∙ text.0,
            )
            | inr apart ↦ inl (holds_other p h s.holder s.field (is_bound h m l s.value) s.value u g apart)
          ]
      go false is = elim (plain_holds p h s.holder u s.field g s.value) [
        | inl same ↦ inl same
        | inr other ↦ absurd (true≢false (sym own ∙ ap (is_owning p) other.1 ∙ is))
      ]

-- ---- the store of an action

light_into : (p : Program) (h : HeapContents) (f : FieldId) (w : Option ℕ) (v : Value) → (is_owning p f ≡ true → (u : ℕ) → w ≡ Some u → StoresText p h u f v) → IsLightStore p h (store_into w f v)
light_into p h f None v text = tt
light_into p h f (Some w) v text = go (is_owning p f) refl
  where
    go : (b : Bool) → is_owning p f ≡ b → IsLightStore p h (store_into (Some w) f v)
    go true own = inr (text own w refl)
    go false none = inl none

pub row_light : (p : Program) (h : HeapContents) (l : Locals) (a : Action) → IsPlainRow a
    → ((f : FieldId) (d w : ℕ) (this : Bool) → a ≡ actions.Put f d this → is_owning p f ≡ true → number_of (temp_value l d) ≡ Some w → StoresText p h w f (temp_value l (d + 1))) → IsLightStore p h (store_of l a)
row_light p h l actions.Skip row texts = tt
row_light p h l (actions.Put f d this) row texts = light_into p h f (number_of (temp_value l d)) (temp_value l (d + 1)) (λ own w is. texts f d w this refl own is)
row_light p h l (actions.PutOwn f d) row texts = absurd row
row_light p h l a row texts = tt

pub call_light : (p : Program) (h : HeapContents) (l : Locals) (a : Action) → IsCallRow a → IsLightStore p h (store_of l a)
call_light p h l actions.Skip row = tt
call_light p h l (actions.Put f d this) row = absurd row
call_light p h l (actions.PutOwn f d) row = absurd row
call_light p h l a row = tt

-- where the step throws, nothing is stored
pub light_unless : (p : Program) (h : HeapContents) (e : Option ClassId) (s : Option Store) → IsLightStore p h s → IsLightStore p (thrown_heap p e h) (store_unless e s)
light_unless p h None s light = light
light_unless p h (Some e) s light = tt

pub unless_fields : (p : Program) (m : Option Method) (l : Locals) (h : HeapContents) (e : Option ClassId) (s : Option Store) → IsLightStore p (thrown_heap p e h) (store_unless e s) → (u : ℕ) (g : FieldId) → is_owning p g ≡ true
    → HoldsOrTakesText p h (heap_stored p m l (store_unless e s) (thrown_heap p e h)) u g
unless_fields p m l h None s light u g own = light_fields p m l h s light u g own
unless_fields p m l h (Some e) s light u g own = inl refl

-- ---- objects after such a store

pub left_goes_on : (p : Program) (x y : Object) → IsLeftByText p x y → GoesOn x y
left_goes_on p x y (inl same) = subst (GoesOn x) (sym same) (goes_on_self x)
left_goes_on p x y (inr gone) = subst (GoesOn x) (sym gone.0) (given_up_goes_on x)

pub left_to_library : (p : Program) (x y : Object) → IsLeftByText p x y → is_library_owner x.owner ≡ true → is_library_owner y.owner ≡ true
left_to_library p x y (inl same) library = ap (λ (z : Object). is_library_owner z.owner) same ∙ library
left_to_library p x y (inr gone) library = absurd (true≢false (sym library ∙ ap is_library_owner gone.2.2))

-- what is linked nobody owns, so it is as it was
pub light_links : (p : Program) (m : Option Method) (l : Locals) (h : HeapContents) (s : Option Store) → IsLightStore p h s → HasEarlierLinks h → HasEarlierLinks (heap_stored p m l s h)
light_links p m l h s light links n y k at link = by (light_back p m l h s light n y at)
  where
    by : (x : Object) × (object_at h n ≡ Some x) × IsLeftByText p x y → IsEarlierLink n y k
    by (x, before, inl same) = subst (λ (u : Object). IsEarlierLink n u k) (sym same) (links n x k before (ap (λ (u : Object). u.link) (sym same) ∙ link))
    by (x, before, inr gone) =
        let was = links n x k before (sym (left_goes_on p x y (inr gone)).link ∙ link) in
        absurd (let never : owners.Unowned ≡ owners.Field gone.2.0 gone.2.1 = sym was.owner ∙ gone.2.2 in cc)
