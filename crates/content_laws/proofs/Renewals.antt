-- Obligations that are created anew, of objects that no field owns, or one of an object that is not finished, or whose obligation is created anew, too, or on which nothing was
-- called: what owning fields hold and own stays.
use Rattle.covering_laws.proofs.OlderHolders.{field_of_owner}
use Rattle.covering_laws.proofs.Owners.{held_at}
use Rattle.std.proofs.Common.{◌≡◌, ◌⊎◌, inl, inr, ℕ, Bool, true, false, true≢false, Option, Some, None, List, [], ◌∷◌, refl, sym, ap, ◌∙◌, subst}
use Rattle.program_model.specs.declared.kinds.ClassId.{ClassId}
use Rattle.program_model.specs.declared.kinds.FieldId.{FieldId}
use Rattle.program_model.specs.declared.program.Method.{Method}
use Rattle.program_model.specs.declared.program.Program.{Program}
use Rattle.program_model.specs.SuperTests.{is_under}
use Rattle.java_control.specs.Owned.{is_owning, is_owning_field}
use Rattle.control_actions.specs.declared.action.Action.{Action}
use Rattle.stub_conduct.specs.declared.choice.Conduct.{Conduct}
use Rattle.ledger_state.specs.declared.locals.Locals.{Locals}
use Rattle.ledger_steps.specs.CallSteps.{library_heap}
use Rattle.ledger_steps.specs.LedgerCallsCalls.{interest_in, reset_position}
use Rattle.ledger_state.specs.Contents.{HeapContents}
use Rattle.ledger_state.specs.Fields.{field_value}
use Rattle.ledger_state.specs.Heaps.{object_at, root, root_of}
use Rattle.ledger_state.specs.declared.object.Link.{Link}
use Rattle.ledger_state.specs.declared.value.Value.{Value}
use Rattle.ledger_state.specs.declared.value.Value.TheVariants as values
use Rattle.ledger_state.specs.declared.entry.Owner.{Owner}
use Rattle.ledger_state.specs.declared.entry.Owner.TheVariants as owners
use Rattle.ledger_state.specs.declared.object.Object.{Object}
use Rattle.must_call_sets.specs.MustCallSets.{Names, is_heavy_class, must_of, must_of_type}
use Rattle.covering_laws.specs.Configuration.{Frame}
use Rattle.covering_laws.specs.Heaps.{HasEarlierLinks}
use Rattle.covering_laws.specs.PlainForms.{run_by}
use Rattle.covering_laws.specs.FieldContents.{AreDispatched, AreUnfinished, FieldsHold, IsContent, IsDispatched, IsKept, LinksLead, OwningFieldsOwn, has_obligation, promised_on}
use Rattle.covering_laws.specs.Renewable.{IsFollowed}
use Rattle.covering_laws.specs.PlaceFacts.{MayStore, OwesOrHolds}
use Rattle.ledger_obligations.specs.Obligations.{finished_in, is_library_owner, is_unmet}
use Rattle.rlc_base.proofs.SetLaws.{member_of-empty, within_self}
use Rattle.std.specs.Prelude.{not, ◌&&◌, ◌||◌}
use Rattle.std.proofs.lemmas.Bool.{or_right}
use Rattle.std.specs.FinSet as set
use Rattle.content_laws.proofs.Goes.{obligation_is_heavy}
use Rattle.content_laws.proofs.Leading.{KeepsLeading, leads_elsewhere, led_to}

-- The object goes on as `y`: it may be lost, where it is not the library's, and all else stays, but that its obligation may be created anew: then no name was called
-- on it, and, where it is linked to none, all that its class asks for must be called.
pub record StaysAside (p : Program) (anew : Bool) (x y : Object) : Type 0 where
  pub class : y.class ≡ x.class
  pub link : y.link ≡ x.link
  pub finished : y.finished ≡ x.finished
  pub owner : (y.owner ≡ x.owner) ⊎ ((y.owner ≡ owners.Lost) × (is_library_owner x.owner ≡ false))
  pub same : anew ≡ false → (y.must ≡ x.must) × (y.called ≡ x.called)
  pub emptied : anew ≡ true → (y.called ≡ set.empty) × (y.link ≡ None → y.must ≡ must_of p y.class)

-- So does each object of the heap `h` in the heap `k`, where the test tells of which the obligation is created anew. Where a field owns one that is linked to none, and whose class has an obligation, the
-- field's object is not finished, or its obligation is created anew, too, or nothing was called on it, and all that its class asks for must be. Owning fields hold what they held.
pub record Renews (p : Program) (anew : ℕ → Bool) (h k : HeapContents) : Type 0 where
  pub forth : (n : ℕ) (x : Object) → object_at h n ≡ Some x → (y : Object) × (object_at k n ≡ Some y) × StaysAside p (anew n) x y
  pub back : (n : ℕ) (y : Object) → object_at k n ≡ Some y → (x : Object) × (object_at h n ≡ Some x) × StaysAside p (anew n) x y
  pub roots : (n : ℕ) → root k n ≡ root h n
  pub fields : (w : ℕ) (f : FieldId) → is_owning p f ≡ true → field_value p k w f ≡ field_value p h w f
  pub up : (n : ℕ) (x : Object) (w : ℕ) (f : FieldId) → object_at h n ≡ Some x → anew n ≡ true → x.link ≡ None → is_heavy_class p x.class ≡ true → x.owner ≡ owners.Field w f
      → (finished_in (object_at h w) ≡ false) ⊎ ((anew w ≡ true) ⊎ ((z : Object) → object_at h w ≡ Some z → (z.called ≡ set.empty) × (z.must ≡ must_of p z.class)))

pub field_before : (p : Program) (b : Bool) (x y : Object) (w : ℕ) (f : FieldId) → StaysAside p b x y → y.owner ≡ owners.Field w f → x.owner ≡ owners.Field w f
field_before p b x y w f stays owner = elim stays.owner [ inl same ↦ sym same ∙ owner | inr lost ↦ absurd (let never : owners.Lost ≡ owners.Field w f = sym lost.0 ∙ owner in cc) ]

unowned_before : (p : Program) (b : Bool) (x y : Object) → StaysAside p b x y → y.owner ≡ owners.Unowned → x.owner ≡ owners.Unowned
unowned_before p b x y stays owner = elim stays.owner [ inl same ↦ sym same ∙ owner | inr lost ↦ absurd (let never : owners.Lost ≡ owners.Unowned = sym lost.0 ∙ owner in cc) ]

-- what may owe a call, or holds something, did so before
bore_aside : (p : Program) (anew : ℕ → Bool) (h k : HeapContents) → Renews p anew h k → (o : ℕ) (x y : Object) → StaysAside p (anew o) x y → OwesOrHolds p k o y → OwesOrHolds p h o x
bore_aside p anew h k renews o x y stays (inl owes) = inl (elim stays.owner [
  | inl same ↦ ap (λ (c : Bool). not (c && is_library_owner x.owner)) (sym stays.finished) ∙ ap (λ (a : Owner). not (y.finished && is_library_owner a)) (sym same) ∙ owes
  | inr lost ↦ ap (λ (c : Bool). not (x.finished && c)) lost.1 ∙ none x.finished
])
  where
    none : (c : Bool) → not (c && false) ≡ true
    none true = refl
    none false = refl
bore_aside p anew h k renews o x y stays (inr (inr may)) = inr (inr (subst (MayStore p) stays.class may))
bore_aside p anew h k renews o x y stays (inr (inl (c, z, now, done, heavy, held))) =
    let f = field_of_owner z.owner o held in
    let was = renews.back c z now in
    inr (inl (c, was.0, was.1, sym was.2.finished ∙ done, ap (is_heavy_class p) (sym was.2.class) ∙ heavy, held_at was.0.owner o f.0 (field_before p (anew c) was.0 z o f.0 was.2 f.1)))

-- what is linked was linked so
pub linked_before : (p : Program) (anew : ℕ → Bool) (h k : HeapContents) → Renews p anew h k → HasEarlierLinks k → HasEarlierLinks h
linked_before p anew h k renews links n x l at link =
    let y = renews.forth n x at in
    let later = links n y.0 l y.1 (y.2.link ∙ link) in
    record { there = later.there; before = later.before; owner = unowned_before p (anew n) x y.0 y.2 later.owner; finished = sym y.2.finished ∙ later.finished }

-- values have the roots that they had
pub value_roots : (h k : HeapContents) → ((n : ℕ) → root k n ≡ root h n) → (v : Value) → root_of k v ≡ root_of h v
value_roots h k roots (values.Object n) = ap Some (roots n)
value_roots h k roots v = refl

module _ (p : Program) (anew : ℕ → Bool) (h k : HeapContents) (renews : Renews p anew h k) where
  no_object : (x : Object) → object_at h 0 ≡ Some x → ⊥
  no_object x at = let never : None ≡ Some x = at in cc

  keeps : KeepsLeading p h k 0
  keeps = record {
    objects = λ n x at apart. (let y = renews.forth n x at in (y.0, y.1, y.2.link, y.2.class));
    fields = λ n x l f field at link declared owning. renews.fields n f (ap is_owning_field declared ∙ owning);
    free = λ x at. absurd (no_object x at);
  }

  pub leads_renewed : LinksLead p h → LinksLead p k
  leads_renewed led n o x y at is there heavy owes =
      let x' = renews.back n x at in
      let y' = renews.back o y there in
      let leads = led n o x'.0 y'.0 x'.1 (sym (renews.roots n) ∙ is) y'.1 (ap (is_heavy_class p) (sym y'.2.class) ∙ heavy) (bore_aside p anew h k renews o y'.0 y y'.2 owes) in
      leads_elsewhere p h k 0 keeps n o leads (λ zero. (let z = led_to p h n o leads in no_object z.0 (ap (object_at h) (sym zero) ∙ z.1)))

  pub unfinished_renewed : (frs : List Frame) → AreUnfinished p h frs → AreUnfinished p k frs
  unfinished_renewed [] all = tt
  unfinished_renewed (fr ∷ frs) all =
      ((λ w y declares new this at. (let x = renews.back w y at in x.2.finished ∙ all.0 w x.0 declares new this x.1)), unfinished_renewed frs all.1)

  dispatched_one : (fr caller : Frame) → IsDispatched p h fr caller → IsDispatched p k fr caller
  dispatched_one fr caller is i s named n w y here called at chosen target there =
      let x = renews.back w y there in
      let old = is i s named n w x.0 here called at chosen target x.1 in
      (old.0 ∙ ap (run_by p named) (sym x.2.class), ap (λ (c : ClassId). is_under p c n.class) x.2.class ∙ old.1, old.2)

  pub dispatched_renewed : (frs : List Frame) → AreDispatched p h frs → AreDispatched p k frs
  dispatched_renewed [] all = tt
  dispatched_renewed (fr ∷ []) all = tt
  dispatched_renewed (fr ∷ caller ∷ frs) all = (dispatched_one fr caller all.0, all.1, dispatched_renewed (caller ∷ frs) all.2)

  module _ (frs : List Frame) (o w : ℕ) (f : FieldId) (x y : Object) (content : IsContent p frs h o x w f) (now : Object) (at : object_at k w ≡ Some now) where
    -- where nothing was called on the holder, all that was called on it was done
    kept_uncalled : now.called ≡ set.empty → IsKept p now f y
    kept_uncalled none m d n at' class interest must has = absurd (true≢false (sym has ∙ ap (λ (s : Names). set.contains s n.0) none ∙ member_of-empty n.0))

    -- what was called on a holder whose obligation is created anew is nothing
    kept_emptied : StaysAside p true content.holder now → IsKept p now f y
    kept_emptied goes = kept_uncalled (goes.emptied refl).0

    -- nothing was called on one on which nothing was before
    still_uncalled : (b : Bool) → StaysAside p b content.holder now → content.holder.called ≡ set.empty → now.called ≡ set.empty
    still_uncalled true goes none = (goes.emptied refl).0
    still_uncalled false goes none = (goes.same refl).1 ∙ none

    -- and what was called on another one was done to the content, where this stays
    kept_renewed : StaysAside p false x y → is_unmet x ≡ true → (b : Bool) → StaysAside p b content.holder now → content.holder.finished ≡ true → IsKept p now f y
    kept_renewed stays unmet true goes done m d n at' class interest must has = kept_emptied goes m d n at' class interest must has
    kept_renewed stays unmet false goes done m d n at' class interest must has =
        ap (set.is_subset (promised_on f d)) (stays.same refl).1
        ∙ content.kept done unmet m d n at' (class ∙ goes.class) interest (ap (λ (c : ClassId). set.contains (must_of p c) n.0) (sym goes.class) ∙ must) (ap (λ (s : Names). set.contains s n.0) (sym (goes.same refl).1) ∙ has)

    -- all that the holder's class asks for must be called on it still, where the content was unmet, or the holder's obligation is created anew
    whole_emptied : StaysAside p true content.holder now → now.must ≡ must_of p now.class
    whole_emptied goes = (goes.emptied refl).1 (goes.link ∙ content.unlinked)

    still_whole : (b : Bool) → StaysAside p b content.holder now → content.holder.must ≡ must_of p content.holder.class → now.must ≡ must_of p now.class
    still_whole true goes all = whole_emptied goes
    still_whole false goes all = (goes.same refl).0 ∙ all ∙ ap (must_of p) (sym goes.class)

    whole_renewed : is_unmet x ≡ true → (b : Bool) → StaysAside p b content.holder now → content.holder.finished ≡ true → now.must ≡ must_of p now.class
    whole_renewed unmet b goes done = still_whole b goes (content.whole done unmet)

    content_renewed : y.class ≡ x.class → StaysAside p (anew w) content.holder now → set.is_subset y.must (must_of p y.class) ≡ true → (content.holder.finished ≡ true → is_unmet y ≡ true → (now.must ≡ must_of p now.class) × IsKept p now f y)
        → IsContent p frs k o y w f
    content_renewed same goes own kept = record {
      holder = now;
      at = at;
      field = content.field;
      declared = content.declared;
      class = goes.class ∙ content.class;
      program = content.program;
      owning = content.owning;
      held = value_roots h k renews.roots (field_value p k w f) ∙ ap (root_of h) (renews.fields w f (ap is_owning_field content.declared ∙ content.owning)) ∙ content.held;
      bounded = ap (λ (c : ClassId). set.is_subset (must_of p c) (must_of_type p content.field.vtype)) same ∙ content.bounded;
      own = own;
      whole = λ done unmet. (kept (sym goes.finished ∙ done) unmet).0;
      unlinked = goes.link ∙ content.unlinked;
      kept = λ done unmet. (kept (sym goes.finished ∙ done) unmet).1;
      made = λ none. content.made (sym goes.finished ∙ none);
    }

  -- an object that stays is unmet if it was
  pub same_unmet : (x y : Object) → StaysAside p false x y → is_unmet x ≡ is_unmet y
  same_unmet x y stays =
      ap (λ (b : Bool). b && not (set.is_subset x.must x.called)) (sym stays.finished) ∙ ap (λ (s : Names). y.finished && not (set.is_subset s x.called)) (sym (stays.same refl).0)
      ∙ ap (λ (s : Names). y.finished && not (set.is_subset y.must s)) (sym (stays.same refl).1)

  module _ (links : HasEarlierLinks k) (frs : List Frame) (o : ℕ) (y : Object) (w : ℕ) (f : FieldId) (have : (x : Object) → object_at h o ≡ Some x → has_obligation p x ≡ true → x.owner ≡ owners.Field w f → IsContent p frs h o x w f)
      (at : object_at k o ≡ Some y) (has : has_obligation p y ≡ true) (owner : y.owner ≡ owners.Field w f) where
    -- what a field owns is linked to none
    unlinked : y.link ≡ None
    unlinked = go y.link refl
      where
        go : (l : Option Link) → y.link ≡ l → y.link ≡ None
        go None none = none
        go (Some l) link = absurd (let never : owners.Field w f ≡ owners.Unowned = sym owner ∙ (links o y l at link).owner in cc)

    -- a content whose obligation is not created anew
    content_stays : (x : Object) → object_at h o ≡ Some x → StaysAside p false x y → IsContent p frs k o y w f
    content_stays x before stays =
        let unmet_as = same_unmet x y stays in
        let had : has_obligation p x ≡ true = ap (λ (b : Bool). b || is_heavy_class p x.class) unmet_as ∙ ap (λ (c : ClassId). is_unmet y || is_heavy_class p c) (sym stays.class) ∙ has in
        let content = have x before had (field_before p false x y w f stays owner) in
        let now = renews.forth w content.holder content.at in
        content_renewed frs o w f x y content now.0 now.1 stays.class now.2
        (ap (λ (s : Names). set.is_subset s (must_of p y.class)) (stays.same refl).0 ∙ ap (λ (c : ClassId). set.is_subset x.must (must_of p c)) stays.class ∙ content.own)
        (λ done unmet. (whole_renewed frs o w f x y content now.0 now.1 (unmet_as ∙ unmet) (anew w) now.2 done, kept_renewed frs o w f x y content now.0 now.1 stays (unmet_as ∙ unmet) (anew w) now.2 done))

    -- a content whose obligation is
    content_anew : anew o ≡ true → (x : Object) → object_at h o ≡ Some x → StaysAside p true x y → IsContent p frs k o y w f
    content_anew is x before stays =
        let own : set.is_subset y.must (must_of p y.class) ≡ true = ap (λ (s : Names). set.is_subset s (must_of p y.class)) ((stays.emptied refl).1 unlinked) ∙ within_self (must_of p y.class) in
        let heavy = obligation_is_heavy p y has (λ unmet. own) in
        let owned = field_before p true x y w f stays owner in
        let content = have x before (or_right (is_unmet x) (is_heavy_class p x.class) (ap (is_heavy_class p) (sym stays.class) ∙ heavy)) owned in
        let now = renews.forth w content.holder content.at in
        content_renewed frs o w f x y content now.0 now.1 stays.class now.2 own
        (λ done unmet. elim (renews.up o x w f before is (sym stays.link ∙ unlinked) (ap (is_heavy_class p) (sym stays.class) ∙ heavy) owned) [
          | inl unready ↦ absurd (true≢false (sym done ∙ sym (ap finished_in content.at) ∙ unready))
          | inr more ↦ elim more [
            | inl up ↦ (let goes = subst (λ (b : Bool). StaysAside p b content.holder now.0) up now.2 in (whole_emptied frs o w f x y content now.0 now.1 goes, kept_emptied frs o w f x y content now.0 now.1 goes))
            | inr uncalled ↦ (let none = uncalled content.holder content.at in (
              still_whole frs o w f x y content now.0 now.1 (anew w) now.2 none.1,
              kept_uncalled frs o w f x y content now.0 now.1 (still_uncalled frs o w f x y content now.0 now.1 (anew w) now.2 none.0),
            ))
          ]
        ])

    pub content_then : IsContent p frs k o y w f
    content_then = let x = renews.back o y at in by (anew o) refl x.0 x.1 x.2
      where
        by : (b : Bool) → anew o ≡ b → (x : Object) → object_at h o ≡ Some x → StaysAside p b x y → IsContent p frs k o y w f
        by true is x before stays = content_anew is x before stays
        by false is x before stays = content_stays x before stays

  pub owning_renewed : OwningFieldsOwn p h → OwningFieldsOwn p k
  owning_renewed own o y w f at owner =
      let x = renews.back o y at in
      let was = own o x.0 w f x.1 (field_before p (anew o) x.0 y w f x.2 owner) in
      (was.0, subst (IsFollowed p) (sym x.2.class) was.1)

  pub renewed_hold : HasEarlierLinks k → (frs : List Frame) → FieldsHold p frs h → FieldsHold p frs k
  renewed_hold links frs hold = record {
    contents = λ o y w f at has owner. content_then links frs o y w f (λ x before. hold.contents o x w f before) at has owner;
    owning = owning_renewed hold.owning;
    leads = leads_renewed hold.leads;
    new = hold.new;
    fresh = hold.fresh;
    unfinished = unfinished_renewed frs hold.unfinished;
    dispatched = dispatched_renewed frs hold.dispatched;
  }

-- The call of the library, which names the method `m` and which it answers by the signature of `r`, leaves the heap `k`, in which obligations may be created anew: but for what was called and must be, and what
-- is lost, the heap is that which the call leaves where its signature creates nothing anew.
pub record CreatesAnew (p : Program) (l : Locals) (a : Action) (m r : Option Method) (d : Conduct) (i : ℕ) (h k : HeapContents) : Type 0 where
  pub plain : Option Method
  pub nothing : reset_position plain ≡ None
  pub interest : interest_in plain ≡ interest_in m
  pub anew : ℕ → Bool
  pub renews : Renews p anew (library_heap p l a plain r d i h) k
