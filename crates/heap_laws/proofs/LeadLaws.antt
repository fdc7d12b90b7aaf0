-- Which objects calls reach, and the ends of links, as heaps change: one object can be linked.
use Rattle.std.proofs.Common.{◌≡◌, ◌⊎◌, inl, inr, ℕ, zero, suc, ◌<◌, ◌≤◌, Bool, true, false, Option, Some, None, List, length, nat_eq, refl, sym, ap, ◌∙◌, subst, arith, eqb-true, eq-eqb, true≢false}
use Rattle.std.specs.List.{find}
use Rattle.std.specs.Option.{unwrap_or}
use Rattle.program_model.specs.declared.kinds.ClassId.{ClassId}
use Rattle.program_model.specs.Lookups.{field_at}
use Rattle.program_model.specs.declared.program.Program.{Program}
use Rattle.ledger_state.specs.Contents.{HeapContents}
use Rattle.ledger_state.specs.Fields.{default_in}
use Rattle.ledger_state.specs.Heaps.{is_field_of, object_at, root, root_of, root_within, value_stored}
use Rattle.ledger_state.specs.declared.object.StoredField.{StoredField}
use Rattle.ledger_state.specs.declared.object.Link.{Link}
use Rattle.ledger_state.specs.declared.object.Object.{Object}
use Rattle.ledger_state.specs.declared.value.Value.{Value}
use Rattle.ledger_state.specs.declared.value.Value.TheVariants as values
use Rattle.heap_laws.specs.Heaps.{Evolves, HasEarlierLinks}
use Rattle.heap_laws.specs.Leading.{CallsOnField, KeepsContents, Leads, LinksOne, by_library, by_program, here}
use Rattle.heap_laws.proofs.ObjectLaws.{in_range}
use Rattle.heap_laws.proofs.RootLaws.{end_here, further, has_object, linked_to_object, none_here, object_of_number, one_object, root_itself, root_linked}

pub leads_root : (p : Program) (h : HeapContents) (k r : ℕ) → HasEarlierLinks h → Leads p h k r → root h k ≡ r
leads_root p h _ _ links (here k x at none) = root_itself h k x at none
leads_root p h _ _ links (by_library k r x l at some library rest) = root_linked h k x l links at some ∙ leads_root p h l.to r links rest
leads_root p h _ _ links (by_program k c r x l f field at some declared owning calls held rest inner) = root_linked h k x l links at some ∙ leads_root p h l.to r links rest

pub leads_end : (p : Program) (h : HeapContents) (k r : ℕ) → Leads p h k r → (y : Object) × (object_at h r ≡ Some y) × (y.link ≡ None)
leads_end p h _ _ (here k x at none) = (x, at, none)
leads_end p h _ _ (by_library k r x l at some library rest) = leads_end p h l.to r rest
leads_end p h _ _ (by_program k c r x l f field at some declared owning calls held rest inner) = leads_end p h l.to r rest

-- an object that is linked to none leads to itself
pub leads_itself : (p : Program) (h : HeapContents) (k r : ℕ) (x : Object) → root h k ≡ r → object_at h k ≡ Some x → x.link ≡ None → Leads p h k r
leads_itself p h k r x is at none = subst (Leads p h k) (sym (root_itself h k x at none) ∙ is) (here k x at none)

-- ---- objects that go on

pub leads_go_on : (p : Program) (h j : HeapContents) (k r : ℕ) → HasEarlierLinks h → Evolves h j → KeepsContents p h j → Leads p h k r → Leads p j k r
leads_go_on p h j _ _ links evolves keeps (here k x at none) =
    let y = evolves k x at in
    here k y.0 y.1 (y.2.link ∙ none)
leads_go_on p h j _ _ links evolves keeps (by_library k r x l at some library rest) =
    let y = evolves k x at in
    by_library k r y.0 l y.1 (y.2.link ∙ some) library (leads_go_on p h j l.to r links evolves keeps rest)
leads_go_on p h j _ _ links evolves keeps (by_program k c r x l f field at some declared owning calls held rest inner) =
    let y = evolves k x at in
    by_program k c r y.0 l f field y.1 (y.2.link ∙ some) declared owning (subst (λ (d : ClassId). CallsOnField p d f) (sym y.2.class) calls)
    (keeps k x f field at (links k x l at some).finished declared owning ∙ held) (leads_go_on p h j l.to r links evolves keeps rest) (leads_go_on p h j c r links evolves keeps inner)

pub fields_keep : (p : Program) (h j : HeapContents) → j.fields ≡ h.fields → KeepsContents p h j
fields_keep p h j same w x f field at finished declared owning =
    ap (λ (fs : List StoredField). unwrap_or (value_stored (find (is_field_of w f) fs)) (default_in (field_at p f))) same

-- ---- one object is linked

module _ (h j : HeapContents) (w : ℕ) (l : Link) (links : HasEarlierLinks h) (one : LinksOne w l h j) where
  -- one that is linked is another
  linked_is_other : (k : ℕ) (x : Object) (m : Link) → object_at h k ≡ Some x → x.link ≡ Some m → k ≡ w → ⊥
  linked_is_other k x m at some same =
      let is : one.old ≡ x = one_object one.old x (object_at h w) one.at (ap (object_at h) (sym same) ∙ at) in
      let never : None ≡ Some m = sym one.free ∙ ap (λ (z : Object). z.link) is ∙ some in
      cc

  module _ (p : Program) (keeps : KeepsContents p h j) (o : ℕ) (leads : Leads p j w o) where
    pub leads_over : (k r : ℕ) → Leads p h k r → (r ≡ w → Leads p j k o) × ((r ≡ w → ⊥) → Leads p j k r)
    leads_over _ _ (here k x at none) = (λ same. subst (λ (n : ℕ). Leads p j n o) (sym same) leads, λ other. (let y = one.others k x other at in here k y.0 y.1 (y.3 ∙ none)))
    leads_over _ _ (by_library k r x m at some library rest) =
        let y = one.others k x (linked_is_other k x m at some) at in
        let further' = leads_over m.to r rest in
        (λ same. by_library k o y.0 m y.1 (y.3 ∙ some) library (further'.0 same), λ other. by_library k r y.0 m y.1 (y.3 ∙ some) library (further'.1 other))
    leads_over _ _ (by_program k c r x m f field at some declared owning calls held rest inner) =
        let y = one.others k x (linked_is_other k x m at some) at in
        let further' = leads_over m.to r rest in
        let inside = leads_over c r inner in
        let calls' : CallsOnField p y.0.class f = subst (λ (d : ClassId). CallsOnField p d f) (sym y.2) calls in
        let held' = keeps k x f field at (links k x m at some).finished declared owning ∙ held in (
          λ same. by_program k c o y.0 m f field y.1 (y.3 ∙ some) declared owning calls' held' (further'.0 same) (inside.0 same),
          λ other. by_program k c r y.0 m f field y.1 (y.3 ∙ some) declared owning calls' held' (further'.1 other) (inside.1 other),
        )

  -- ---- roots

  -- the ways from objects that were made before stay
  before_stays : (n k : ℕ) (x : Object) → k < w → object_at h k ≡ Some x → root_within n j k ≡ root_within n h k
  before_stays zero k x below at = refl
  before_stays (suc n) k x below at = go x.link refl (λ i y near there. before_stays n i y near there)
    where
      y : (z : Object) × (object_at j k ≡ Some z) × (z.class ≡ x.class) × (z.link ≡ x.link)
      y = one.others k x (λ same. omega (arith, same, below)) at

      go : (m : Option Link) → x.link ≡ m → ((i : ℕ) (z : Object) → i < w → object_at h i ≡ Some z → root_within n j i ≡ root_within n h i) → root_within (suc n) j k ≡ root_within (suc n) h k
      go None none on = end_here j (suc n) k (none_here j k y.0 y.1 (y.3 ∙ none)) ∙ sym (end_here h (suc n) k (none_here h k x at none))
      go (Some m) some on =
          let next = linked_to_object h k x m links at some in
          let near = (links k x m at some).before in
          further j n k y.0 m y.1 (y.3 ∙ some) ∙ on m.to next.0 (omega (arith, near, below)) next.1 ∙ sym (further h n k x m at some)

  same_count : length j.objects ≡ length h.objects
  same_count = let same = one.count in omega (arith, same)

  module _ (later : HasEarlierLinks j) where
    -- the root of the object that is linked
    pub linked_root : root j w ≡ root h l.to
    linked_root =
        let range = in_range h w one.old one.at in
        let above = range.0 in
        let below = range.1 in
        let there = one.there in
        let before = one.before in
        let to = object_of_number h l.to there (omega (arith, before, below)) in
        root_linked j w one.new l later one.now one.linked
        ∙ ap (λ (n : ℕ). root_within n j l.to) same_count ∙ before_stays (length h.objects) l.to to.0 before to.1

    pub root_over : (n k : ℕ) (x : Object) → k ≤ n → object_at h k ≡ Some x → (root h k ≡ w → root j k ≡ root h l.to) × ((root h k ≡ w → ⊥) → root j k ≡ root h k)
    root_over zero k x below at = absurd (let above = (in_range h k x at).0 in omega (arith, above, below))
    root_over (suc n) k x below at = go x.link refl (λ i y near there. root_over n i y (omega (arith, near, below)) there)
      where
        go : (m : Option Link) → x.link ≡ m
            → ((i : ℕ) (y : Object) → i < k → object_at h i ≡ Some y → (root h i ≡ w → root j i ≡ root h l.to) × ((root h i ≡ w → ⊥) → root j i ≡ root h i))
            → (root h k ≡ w → root j k ≡ root h l.to) × ((root h k ≡ w → ⊥) → root j k ≡ root h k)
        go None none on = (
          λ is. ap (root j) (sym (root_itself h k x at none) ∙ is) ∙ linked_root,
          λ other. (let y = one.others k x (λ same. other (root_itself h k x at none ∙ same)) at in root_itself j k y.0 y.1 (y.3 ∙ none) ∙ sym (root_itself h k x at none)),
        )
        go (Some m) some on =
            let next = linked_to_object h k x m links at some in
            let y = one.others k x (linked_is_other k x m at some) at in
            let rest = on m.to next.0 (links k x m at some).before next.1 in
            let step = root_linked h k x m links at some in
            let step' = root_linked j k y.0 m later y.1 (y.3 ∙ some) in
            (λ is. step' ∙ rest.0 (sym step ∙ is), λ other. step' ∙ rest.1 (λ same. other (step ∙ same)) ∙ sym step)

    pub number_over : (k : ℕ) (x : Object) → object_at h k ≡ Some x → (root h k ≡ w → root j k ≡ root h l.to) × ((root h k ≡ w → ⊥) → root j k ≡ root h k)
    number_over k x at = root_over k k x (omega arith) at

    -- what a value's root was
    pub value_before : (v : Value) (o : ℕ) (y : Object) → root_of j v ≡ Some o → object_at j o ≡ Some y → (root_of h v ≡ Some o) ⊎ ((root_of h v ≡ Some w) × (root h l.to ≡ o))
    value_before values.Nothing o y is at = absurd (let never : None ≡ Some o = is in cc)
    value_before (values.Object k) o y is at =
        let now : root j k ≡ o = (let both : Some (root j k) ≡ Some o = is in cc) in
        let z = has_object j k o y now at in
        let range = in_range j k z.0 z.1 in
        let below = range.1 in
        let same = one.count in
        let x = object_of_number h k range.0 (omega (arith, below, same)) in
        let over = number_over k x.0 x.1 in
        go (nat_eq (root h k) w) refl now over
      where
        go : (b : Bool) → nat_eq (root h k) w ≡ b → root j k ≡ o → (root h k ≡ w → root j k ≡ root h l.to) × ((root h k ≡ w → ⊥) → root j k ≡ root h k)
            → (Some (root h k) ≡ Some o) ⊎ ((Some (root h k) ≡ Some w) × (root h l.to ≡ o))
        go true same now over = let here' = eqb-true (root h k) w same in inr (ap Some here', sym (over.0 here') ∙ now)
        go false other now over = inl (ap Some (sym (over.1 (λ same. true≢false (sym (eq-eqb (root h k) w same) ∙ other))) ∙ now))
    value_before v o y is at = absurd (let never : None ≡ Some o = is in cc)

    pub value_over : (v : Value) (r : ℕ) (x : Object) → root_of h v ≡ Some r → object_at h r ≡ Some x → (r ≡ w → root_of j v ≡ Some (root h l.to)) × ((r ≡ w → ⊥) → root_of j v ≡ Some r)
    value_over values.Nothing r x is at = absurd (let never : None ≡ Some r = is in cc)
    value_over (values.Object k) r x is at =
        let was : root h k ≡ r = (let both : Some (root h k) ≡ Some r = is in cc) in
        let z = has_object h k r x was at in
        let over = number_over k z.0 z.1 in
        (λ same. ap Some (over.0 (was ∙ same)), λ other. ap Some (over.1 (λ same. other (sym was ∙ same)) ∙ was))
    value_over v r x is at = absurd (let never : None ≡ Some r = is in cc)
