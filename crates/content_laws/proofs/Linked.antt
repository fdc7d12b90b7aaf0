-- Calls on each object reach its root, where the object of a `new` is finished, and linked where it is an alias.
use Rattle.program_model.specs.declared.kinds.FieldId.{FieldId}
use Rattle.covering_laws.proofs.OlderHolders.{field_of_owner}
use Rattle.covering_laws.proofs.ResetCovers.{bears_before}
use Rattle.covering_laws.proofs.Owners.{HoldersStay}
use Rattle.std.specs.Prelude.{◌<◌, ◌&&◌, not}
use Rattle.std.proofs.Common.{◌≡◌, ◌⊎◌, ℕ, Bool, true, false, true≢false, Some, None, nat_eq, refl, sym, ap, ◌∙◌, subst, inl, inr, if◌then◌else◌, eqb-true, eq-eqb, arith}
use Rattle.program_model.specs.declared.program.Program.{Program}
use Rattle.must_call_sets.specs.MustCallSets.{is_heavy_class}
use Rattle.ledger_obligations.specs.Obligations.{is_library_owner}
use Rattle.ledger_state.specs.Contents.{HeapContents}
use Rattle.ledger_state.specs.Heaps.{change_one, object_at, only_at, root, root_of}
use Rattle.ledger_state.specs.declared.object.Link.{Link}
use Rattle.ledger_state.specs.declared.entry.Owner.TheVariants as owners
use Rattle.ledger_state.specs.declared.object.Object.{Object}
use Rattle.ledger_state.specs.declared.value.Value.{Value}
use Rattle.ledger_state.specs.declared.value.Value.TheVariants as values
use Rattle.covering_laws.specs.Heaps.{HasEarlierLinks}
use Rattle.covering_laws.specs.Leading.{Leads, LinksOne, by_program, here}
use Rattle.covering_laws.proofs.HeapLaws.{root_of_changed, roots_of_links-there, roots_over_a_link-number, roots_over_a_link-value}
use Rattle.covering_laws.proofs.ObjectLaws.{changed_count, in_range}
use Rattle.covering_laws.specs.FieldContents.{LinksLead}
use Rattle.covering_laws.specs.PlaceFacts.{may_owe, OwesOrHolds}
use Rattle.content_laws.proofs.Finished.{one_back, one_here, one_other}
use Rattle.content_laws.proofs.Goes.{there}
use Rattle.content_laws.proofs.Leading.{KeepsLeading, leads_elsewhere, leads_through}
use Rattle.content_laws.specs.Going.{KeepsArgument, linked}

-- what is not finished may owe a call
unfinished_owes : (x : Object) → x.finished ≡ false → may_owe x ≡ true
unfinished_owes x is = ap (λ (b : Bool). not (b && is_library_owner x.owner)) is

-- where one object changes, and no field owns it then, fields own what they owned
pub holders_but_one : (p : Program) (j : HeapContents) (w : ℕ) (change : Object → Object) → ((x : Object) (u : ℕ) (f : FieldId) → object_at j w ≡ Some x → (change x).owner ≡ owners.Field u f → ⊥) → HoldersStay p j (change_one w change j)
holders_but_one p j w change unowned u (c, y, now, done, heavy, held) =
    let own = field_of_owner y.owner u held in
    let z = one_back p j w change c y now in
    elim z.2 [
      | inl here' ↦ absurd (unowned z.0 u own.0 (ap (object_at j) (sym here'.0) ∙ z.1) (ap (λ (x : Object). x.owner) (sym here'.1) ∙ own.1))
      | inr other ↦ (c, y, z.1 ∙ ap Some (sym other.1), done, heavy, held)
    ]

module _ (p : Program) (j : HeapContents) (w : ℕ) (change : Object → Object) (free : (x : Object) → object_at j w ≡ Some x → x.link ≡ None) where
  keeps : KeepsLeading p j (change_one w change j) w
  keeps = record {
    objects = λ n x at apart. (x, one_other p j w change n x apart at, refl, refl);
    fields = λ n x l f field at link declared owning. refl;
    free = free;
  }

-- ---- the object is not linked

module _ (p : Program) (j : HeapContents) (w : ℕ) (change : Object → Object) (free : (x : Object) → object_at j w ≡ Some x → x.link ≡ None)
    (unfinished : (x : Object) → object_at j w ≡ Some x → x.finished ≡ false) (kept : (x : Object) → (change x).link ≡ x.link) (class : (x : Object) → is_heavy_class p (change x).class ≡ is_heavy_class p x.class)
    (stay : HoldersStay p j (change_one w change j)) (led : LinksLead p j) where
  abbrev k : HeapContents
  k = change_one w change j

  same_link : (n : ℕ) (x : Object) → (only_at w change n x).link ≡ x.link
  same_link n x = go (nat_eq n w)
    where
      go : (b : Bool) → (if b then change x else x).link ≡ x.link
      go true = kept x
      go false = refl

  same_root : (n : ℕ) → root k n ≡ root j n
  same_root n = root_of_changed (only_at w change) j n same_link

  -- the root of a value stays
  pub finished_root : (v : Value) → root_of k v ≡ root_of j v
  finished_root values.Nothing = refl
  finished_root (values.Object n) = ap Some (same_root n)
  finished_root v = refl

  pub finished_leads : LinksLead p k
  finished_leads n o x y at root' at' heavy owes =
      let x' = one_back p j w change n x at in
      let y' = one_back p j w change o y at' in
      let before : root j n ≡ o = sym (same_root n) ∙ root' in
      elim y'.2 [
        | inl here' ↦
            (let there' : object_at j w ≡ Some y'.0 = ap (object_at j) (sym here'.0) ∙ y'.1 in
            let old = led n o x'.0 y'.0 x'.1 before y'.1 (sym (class y'.0) ∙ ap (λ (u : Object). is_heavy_class p u.class) (sym here'.1) ∙ heavy) (inl (unfinished_owes y'.0 (unfinished y'.0 there'))) in
            let new : Leads p k w w = here w (change y'.0) (one_here p j w change y'.0 there') (kept y'.0 ∙ free y'.0 there') in
            subst (Leads p k n) (sym here'.0) (leads_through p j k w (keeps p j w change free) w new n o old here'.0))
        | inr other ↦
            leads_elsewhere p j k w (keeps p j w change free) n o
            (led n o x'.0 y'.0 x'.1 before y'.1 (ap (λ (u : Object). is_heavy_class p u.class) (sym other.1) ∙ heavy) (bears_before p j k stay o y'.0 y (ap (λ (u : Object). u.class) other.1) (ap (λ (u : Object). u.finished) other.1) (ap (λ (u : Object). u.owner) other.1) owes)) other.0
      ]

-- ---- the object is linked to the argument

module _ (p : Program) (j : HeapContents) (w a : ℕ) (earlier : (0 < a) × (a < w)) (object : Object) (present : object_at j w ≡ Some object) (free : object.link ≡ None) (unfinished : object.finished ≡ false)
    (heavy_object : is_heavy_class p object.class ≡ true) (links : HasEarlierLinks j) (now : HasEarlierLinks (change_one w (linked p (Some a)) j)) (led : LinksLead p j)
    (stores : (o : ℕ) (y : Object) → root j a ≡ o → object_at j o ≡ Some y → is_heavy_class p y.class ≡ true → OwesOrHolds p j o y → KeepsArgument p j w object o) where
  abbrev g : HeapContents
  g = change_one w (linked p (Some a)) j

  abbrev link : Link
  link = record { to = a; by_library = false }

  is_free : (x : Object) → object_at j w ≡ Some x → x.link ≡ None
  is_free x at = ap (λ (u : Object). u.link) (let both : Some x ≡ Some object = sym at ∙ present in (let one : x ≡ object = cc in one)) ∙ free

  stays : KeepsLeading p j g w
  stays = keeps p j w (linked p (Some a)) is_free

  linked_at : object_at g w ≡ Some (linked p (Some a) object)
  linked_at = one_here p j w (linked p (Some a)) object present

  -- no field owns what is linked
  stay : HoldersStay p j g
  stay = holders_but_one p j w (linked p (Some a)) (λ x u f at owner.
      let same : x ≡ object = (let both : Some x ≡ Some object = sym at ∙ present in (let it : x ≡ object = cc in it)) in
      let never : owners.Unowned ≡ owners.Field u f = sym (now w (linked p (Some a) object) link linked_at refl).owner ∙ ap (λ (z : Object). (linked p (Some a) z).owner) (sym same) ∙ owner in
      cc)

  one : LinksOne w link j g
  one = record {
    there = earlier.0;
    before = earlier.1;
    count = changed_count (only_at w (linked p (Some a))) j;
    others = λ n x apart at. (x, one_other p j w (linked p (Some a)) n x apart at, refl, refl);
    old = object;
    at = present;
    free = free;
    new = linked p (Some a) object;
    now = linked_at;
    linked = refl;
  }

  argument : (x : Object) × (object_at j a ≡ Some x)
  argument =
      let first = earlier.0 in
      let below = earlier.1 in
      let last = (in_range j w object present).1 in
      there j a (first, omega (arith, below, last))

  -- a root other than the object is one before and after
  pub linked_root : (v : Value) (o : ℕ) (x : Object) → (o ≡ w → ⊥) → root_of j v ≡ Some o → object_at j o ≡ Some x → root_of g v ≡ Some o
  linked_root v o x apart is at = (roots_over_a_link-value j g w link links one now v o x is at).1 apart

  -- calls on the object reach the root of the argument
  from_object : (o : ℕ) (y : Object) → (o ≡ w → ⊥) → root j a ≡ o → object_at j o ≡ Some y → is_heavy_class p y.class ≡ true → OwesOrHolds p j o y → Leads p g w o
  from_object o y apart is at heavy owes =
      let store = stores o y is at heavy owes in
      by_program w store.content o (linked p (Some a) object) link store.field store.declared linked_at refl store.at store.owning store.calls store.held
      (leads_elsewhere p j g w stays a o (led a o argument.0 y argument.1 is at heavy owes) apart) (leads_elsewhere p j g w stays store.content o store.leads apart)

  -- no root is the object, which is linked
  never_root : (n : ℕ) (x : Object) → object_at g n ≡ Some x → root g n ≡ w → ⊥
  never_root n x at is =
      let end = roots_of_links-there g n x now at in
      let same : end.0 ≡ linked p (Some a) object = (let both : Some end.0 ≡ Some (linked p (Some a) object) = sym end.1 ∙ ap (object_at g) is ∙ linked_at in cc) in
      let never : Some link ≡ None = sym (ap (λ (u : Object). u.link) same) ∙ end.2 in
      cc

  pub linked_leads : LinksLead p g
  linked_leads n o x y at root' at' heavy owes = elim y'.2 [
    | inl here' ↦ absurd (apart here'.0)
    | inr other ↦ by_root (y'.1 ∙ ap Some (sym other.1))
  ]
    where
      x' : (z : Object) × (object_at j n ≡ Some z) × (((n ≡ w) × (x ≡ linked p (Some a) z)) ⊎ ((n ≡ w → ⊥) × (x ≡ z)))
      x' = one_back p j w (linked p (Some a)) n x at

      y' : (z : Object) × (object_at j o ≡ Some z) × (((o ≡ w) × (y ≡ linked p (Some a) z)) ⊎ ((o ≡ w → ⊥) × (y ≡ z)))
      y' = one_back p j w (linked p (Some a)) o y at'

      apart : o ≡ w → ⊥
      apart same = never_root n x at (root' ∙ same)

      by_root : object_at j o ≡ Some y → Leads p g n o
      by_root there' = go (nat_eq (root j n) w) refl
        where
          over : (root j n ≡ w → root g n ≡ root j a) × ((root j n ≡ w → ⊥) → root g n ≡ root j n)
          over = roots_over_a_link-number j g w link links one now n x'.0 x'.1

          go : (b : Bool) → nat_eq (root j n) w ≡ b → Leads p g n o
          go true same =
              let through = eqb-true (root j n) w same in
              leads_through p j g w stays o (from_object o y apart (sym (over.0 through) ∙ root') there' heavy (bears_before p j g stay o y y refl refl refl owes)) n w
              (led n w x'.0 object x'.1 through present heavy_object (inl (unfinished_owes object unfinished))) refl
          go false other = leads_elsewhere p j g w stays n o
              (led n o x'.0 y x'.1 (sym (over.1 (λ same. true≢false (sym (eq-eqb (root j n) w same) ∙ other))) ∙ root') there' heavy (bears_before p j g stay o y y refl refl refl owes)) apart
