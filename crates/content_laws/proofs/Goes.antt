-- What owning fields hold and own goes on over a step: the contents, what fits a field, and the frames.
use Rattle.covering_laws.proofs.OlderHolders.{field_of_owner}
use Rattle.covering_laws.proofs.Owners.{HoldersStay, held_at}
use Rattle.std.specs.Prelude.{◌<◌, ◌&&◌, ◌||◌, not}
use Rattle.std.specs.List.{All}
use Rattle.std.specs.FinSet as set
use Rattle.std.proofs.Common.{◌≡◌, ◌⊎◌, ℕ, zero, suc, Bool, true, false, true≢false, Option, Some, None, List, [], ◌∷◌, length, slice_get, option_map, nat_eq, unwrap_or, if◌then◌else◌, refl, sym, ap, ◌∙◌, subst, inl, inr, eqb-true, arith}
use Rattle.std.specs.List.{find}
use Rattle.std.proofs.lemmas.Bool.{or_left, or_right}
use Rattle.std.proofs.lemmas.Bool.Decides.{nat_tests}
use Rattle.std.proofs.lemmas.List.Elements.{All-head, All-tail}
use Rattle.rlc_base.proofs.SetLaws.{empty_within, within_at, within_from, within_self, within_trans}
use Rattle.rlc_base.specs.declared.name_id.NameId.{NameId}
use Rattle.program_model.specs.NameSets.{Names}
use Rattle.program_model.specs.Overrides.{is_library}
use Rattle.program_model.specs.SuperTests.{is_under}
use Rattle.program_model.specs.declared.kinds.ClassId.{ClassId}
use Rattle.program_model.specs.declared.kinds.FieldId.{FieldId}
use Rattle.program_model.specs.declared.kinds.MethodId.{MethodId}
use Rattle.program_model.specs.declared.program.Field.{Field}
use Rattle.program_model.specs.declared.program.Method.{Method}
use Rattle.program_model.specs.declared.program.Program.{Program}
use Rattle.program_model.specs.Lookups.{field_at, method_at}
use Rattle.must_call_sets.specs.Bodies.{constructs}
use Rattle.must_call_sets.specs.MustCallSets.{is_empty, is_heavy_class, must_of, must_of_type}
use Rattle.must_call_sets.specs.Signatures.{is_of_field, promised_names}
use Rattle.java_control.specs.Owned.{is_owning, is_owning_field}
use Rattle.ledger_state.specs.Contents.{HeapContents}
use Rattle.ledger_state.specs.Fields.{default_in, field_value}
use Rattle.ledger_state.specs.Heaps.{change_each, change_one, is_field_of, next_number, object_at, only_at, root, root_of, value_stored}
use Rattle.ledger_state.specs.declared.object.StoredField.{StoredField}
use Rattle.ledger_state.specs.Values.{number_of}
use Rattle.ledger_state.specs.declared.entry.Owner.TheVariants as owners
use Rattle.ledger_state.specs.declared.object.Object.{Object}
use Rattle.ledger_state.specs.declared.value.Value.{Value}
use Rattle.ledger_state.specs.declared.value.Value.TheVariants as values
use Rattle.ledger_obligations.specs.declared.note.Note.{Note}
use Rattle.ledger_obligations.specs.Obligations.{all_notes, is_library_owner, is_unmet, lose, lost_object, name_of, noted, noted_object, own_promises}
use Rattle.control_actions.specs.declared.action.Action.{Action}
use Rattle.ledger_state.specs.declared.locals.Locals.{Locals}
use Rattle.covering_laws.specs.Configuration.{Frame}
use Rattle.covering_laws.specs.PlainForms.{run_by}
use Rattle.covering_laws.specs.Heaps.{Evolves, GoesOn, HasEarlierLinks}
use Rattle.covering_laws.specs.Leading.{Leads}
use Rattle.covering_laws.proofs.HeapLaws.{root_of_changed, roots_go_on-number, roots_of_links-absent}
use Rattle.covering_laws.proofs.NoteLaws.{noted_goes_on}
use Rattle.covering_laws.proofs.ObjectLaws.{changed_at, goes_on_further, in_range}
use Rattle.content_laws.proofs.Leaves.{Leaves, StaysBut, leaves_self, lose_leaves, loses}
use Rattle.content_laws.proofs.Noted.{AreNotesOf, noted_called}
use Rattle.covering_laws.specs.FieldContents.{AreDispatched, AreUnfinished, DeclaresOwning, HaveContents, IsContent, IsDispatched, IsKept, LinksLead, has_obligation, is_made_in, promised_on}
use Rattle.covering_laws.specs.PlaceFacts.{may_owe, OwesOrHolds}
use Rattle.covering_laws.specs.Ranges.{IsInRange, IsNumber, LocalsInRange}
use Rattle.covering_laws.proofs.RangeValues.{operand_in_range}
use Rattle.content_laws.proofs.Leading.{goes_hold, leads_forth}
use Rattle.content_laws.specs.Going.{Goes, IsBorn, IsDone, IsNotedBy, KeepsRoots, PromisesItsOwn}

-- an object that goes on was unmet if it is
pub unmet_then : (x y : Object) → GoesOn x y → is_unmet y ≡ true → is_unmet x ≡ true
unmet_then x y goes unmet = go x.finished refl (set.is_subset x.must x.called) refl
  where
    go : (b : Bool) → x.finished ≡ b → (c : Bool) → set.is_subset x.must x.called ≡ c → is_unmet x ≡ true
    go false not_yet c within = absurd (true≢false (sym unmet ∙ rw (goes.finished, not_yet) refl))
    go true done true within =
        absurd (true≢false (sym unmet ∙ rw (within_trans y.must x.called y.called (ap (λ (s : Names). set.is_subset s x.called) goes.must ∙ within) goes.called, goes.finished, done) refl))
    go true done false within = rw (done, within) refl

-- so it had an obligation, where it has one
pub obligation_then : (p : Program) (x y : Object) → GoesOn x y → has_obligation p y ≡ true → has_obligation p x ≡ true
obligation_then p x y goes has = go (is_unmet y) refl has
  where
    go : (b : Bool) → is_unmet y ≡ b → (b || is_heavy_class p y.class) ≡ true → has_obligation p x ≡ true
    go true unmet is = or_left (is_unmet x) (is_heavy_class p x.class) (unmet_then x y goes unmet)
    go false met heavy = or_right (is_unmet x) (is_heavy_class p x.class) (ap (is_heavy_class p) (sym goes.class) ∙ heavy)

owning_by : (p : Program) (f : FieldId) (field : Field) → field_at p f ≡ Some field → field.owning ≡ true → is_owning p f ≡ true
owning_by p f field at owning = ap is_owning_field at ∙ owning

-- an object that is held in range is there
pub there : (h : HeapContents) (o : ℕ) → IsNumber h o → (x : Object) × (object_at h o ≡ Some x)
there h zero number = let none = number.0 in absurd (omega (arith, none))
there h (suc o) number = go (slice_get h.objects o) refl
  where
    none_there : (xs : List Object) (i : ℕ) → slice_get xs i ≡ None → i < length xs → ⊥
    none_there [] i is below = omega (arith, below)
    none_there (x ∷ xs) zero is below = let never : Some x ≡ None = is in cc
    none_there (x ∷ xs) (suc i) is below = none_there xs i is (omega (arith, below))

    go : (z : Option Object) → slice_get h.objects o ≡ z → (x : Object) × (object_at h (suc o) ≡ Some x)
    go (Some x) is = (x, is)
    go None is = absurd (none_there h.objects o is (let below = number.1 in omega (arith, below)))

-- what a field holds leads to the object at the end of its links
pub led_there : (p : Program) (h : HeapContents) → LinksLead p h → (v : Value) (o : ℕ) (x : Object) → root_of h v ≡ Some o → object_at h o ≡ Some x → is_heavy_class p x.class ≡ true → OwesOrHolds p h o x
    → (c : ℕ) × (v ≡ values.Object c) × Leads p h c o
led_there p h led values.Nothing o x is at heavy owes = absurd (let never : None ≡ Some o = is in cc)
led_there p h led (values.Object c) o x is at heavy owes = go (object_at h c) refl
  where
    same : root h c ≡ o
    same = let both : Some (root h c) ≡ Some o = is in (let one : root h c ≡ o = cc in one)

    go : (z : Option Object) → object_at h c ≡ z → (c' : ℕ) × (values.Object c ≡ values.Object c') × Leads p h c' o
    go (Some z) there' = (c, refl, led c o z x there' same at heavy owes)
    go None absent = absurd (let never : None ≡ Some x = sym absent ∙ ap (object_at h) (sym (roots_of_links-absent h c absent) ∙ same) ∙ at in cc)
led_there p h led v o x is at heavy owes = absurd (let never : None ≡ Some o = is in cc)

-- what a field of an object owns it owned
pub holders_go : (p : Program) (h k : HeapContents) (noted : ℕ → ℕ → Type 0) → Goes p h k noted → HoldersStay p h k
holders_go p h k noted goes w (c, y, now, done, heavy, held) =
    let f = field_of_owner y.owner w held in
    let x = goes.back c y w f.0 now f.1 in
    (c, x.0, x.1, sym x.2.finished ∙ done, ap (is_heavy_class p) (sym x.2.class) ∙ heavy, held_at x.0.owner w f.0 x.3)

-- what the library does not own may owe a call
pub not_the_librarys_owes : (x : Object) → is_library_owner x.owner ≡ false → may_owe x ≡ true
not_the_librarys_owes x other = ap (λ (b : Bool). not (x.finished && b)) other ∙ none x.finished
  where
    none : (b : Bool) → not (b && false) ≡ true
    none true = refl
    none false = refl

-- the class of what is unmet has an obligation, where it bounds what must be called
pub unmet_is_heavy : (p : Program) (x : Object) → is_unmet x ≡ true → set.is_subset x.must (must_of p x.class) ≡ true → is_heavy_class p x.class ≡ true
unmet_is_heavy p x unmet own = go (is_empty (must_of p x.class)) refl
  where
    and_false : (b : Bool) → (b && false) ≡ false
    and_false true = refl
    and_false false = refl

    go : (b : Bool) → is_empty (must_of p x.class) ≡ b → is_heavy_class p x.class ≡ true
    go true none = absurd (true≢false (sym unmet
        ∙ ap (λ (c : Bool). x.finished && not c) (within_trans x.must set.empty x.called (within_trans x.must (must_of p x.class) set.empty own none) (empty_within x.called)) ∙ and_false x.finished))
    go false some = ap not some

-- what has an obligation is of a class that has one, where this bounds what is unmet
pub obligation_is_heavy : (p : Program) (x : Object) → has_obligation p x ≡ true → (is_unmet x ≡ true → set.is_subset x.must (must_of p x.class) ≡ true) → is_heavy_class p x.class ≡ true
obligation_is_heavy p x has own = go (is_unmet x) refl has
  where
    go : (b : Bool) → is_unmet x ≡ b → (b || is_heavy_class p x.class) ≡ true → is_heavy_class p x.class ≡ true
    go true unmet is = unmet_is_heavy p x unmet (own unmet)
    go false met heavy = heavy

-- ---- roots

-- the root of a value stays, where it is an object
pub root_stays : (h k : HeapContents) → KeepsRoots h k → (v : Value) (o : ℕ) (x : Object) → root_of h v ≡ Some o → object_at h o ≡ Some x → root_of k v ≡ Some o
root_stays h k keeps values.Nothing o x is at = absurd (let never : None ≡ Some o = is in cc)
root_stays h k keeps (values.Object n) o x is at = go (object_at h n) refl
  where
    go : (z : Option Object) → object_at h n ≡ z → root_of k (values.Object n) ≡ Some o
    go (Some z) there' = ap Some (keeps n z there') ∙ is
    go None absent =
        let same : n ≡ o = sym (roots_of_links-absent h n absent) ∙ (let both : Some (root h n) ≡ Some o = is in (let one : root h n ≡ o = cc in one)) in
        absurd (let never : None ≡ Some x = sym absent ∙ ap (object_at h) same ∙ at in cc)
root_stays h k keeps v o x is at = absurd (let never : None ≡ Some o = is in cc)

-- links are kept, and so are roots
pub roots_by_links : (h k : HeapContents) → HasEarlierLinks h → Evolves h k → KeepsRoots h k
roots_by_links h k links forth n x at = roots_go_on-number h k n x links (λ m z there'. (let y = forth m z there' in (y.0, y.1, y.2.link))) at

pub changed_roots : (change : ℕ → Object → Object) (h : HeapContents) → ((n : ℕ) (x : Object) → (change n x).link ≡ x.link) → KeepsRoots h (change_each change h)
changed_roots change h same n x at = root_of_changed change h n same

pub goes_forth : (p : Program) (h k : HeapContents) (noted : ℕ → ℕ → Type 0) → Goes p h k noted → Evolves h k
goes_forth p h k noted goes n x at = let y = goes.forth n x at in (y.0, y.1, y.2)

-- ---- one content

-- a content of one heap is a content of the next, where its holder goes on, its field holds it, and each name that is noted on the holder is kept
module _ (p : Program) (own : PromisesItsOwn p) (h k : HeapContents) (noted : ℕ → ℕ → Type 0) (frs gs : List Frame) (o : ℕ) (x y : Object) (w : ℕ) (f : FieldId) (content : IsContent p frs h o x w f)
    (before : object_at h o ≡ Some x) (now : object_at k o ≡ Some y) (on : GoesOn x y)
    (next : (z : Object) × (object_at k w ≡ Some z) × GoesOn content.holder z × ((i : ℕ) → set.contains z.called i ≡ true → (set.contains content.holder.called i ≡ true) ⊎ (noted w i ⊎ IsDone p h k w i)))
    (held : root_of k (field_value p k w f) ≡ Some o)
    (leads : (c : ℕ) × (field_value p h w f ≡ values.Object c) × Leads p h c o)
    (keeps : (m : MethodId) (d : Method) (n : NameId) → content.holder.finished ≡ true → method_at p m ≡ Some d → d.class ≡ content.holder.class → d.sig.interest ≡ Some n
    → set.contains (must_of p content.holder.class) n.0 ≡ true → noted w n.0 → is_unmet y ≡ true → set.is_subset (promised_on f d) y.called ≡ true)
    (made : content.holder.finished ≡ false → is_made_in p w content.field.class frs ≡ true → is_made_in p w content.field.class gs ≡ true) where
  done : next.0.finished ≡ true → content.holder.finished ≡ true
  done is = sym next.2.finished ∙ is

  -- what the holder's own method promises was done
  by_own : (m : MethodId) (d : Method) (n : NameId) → method_at p m ≡ Some d → d.class ≡ content.holder.class → d.sig.interest ≡ Some n → set.contains (must_of p content.holder.class) n.0 ≡ true
      → IsDone p h k w n.0 → set.is_subset (promised_on f d) y.called ≡ true
  by_own m d n at same interest must all = within_from (promised_on f d) y.called (λ i promised.
      (let mine = own m d n f i at interest (ap (λ (c : ClassId). set.contains (must_of p c) n.0) same ∙ must) (ap (is_library p) (same ∙ content.class) ∙ content.program) promised in
      all content.holder x y f leads.0 o i content.at (owning_by p f content.field content.declared content.owning) leads.1 leads.2 before now
      (subst (λ (c : ClassId). set.contains (promised_names (λ t. is_of_field t f) (own_promises p c n)) i ≡ true) same mine.0) mine.1))

  kept : next.0.finished ≡ true → is_unmet y ≡ true → IsKept p next.0 f y
  kept is unmet m d n at class interest must called =
      let same : d.class ≡ content.holder.class = class ∙ next.2.class in
      let has : set.contains (must_of p content.holder.class) n.0 ≡ true = ap (λ (c : ClassId). set.contains (must_of p c) n.0) (sym next.2.class) ∙ must in
      elim (next.3 n.0 called) [
        | inl old ↦ within_trans (promised_on f d) x.called y.called (content.kept (done is) (unmet_then x y on unmet) m d n at same interest has old) on.called
        | inr new ↦ elim new [
          | inl named ↦ keeps m d n (done is) at same interest has named unmet
          | inr all ↦ by_own m d n at same interest has all
        ]
      ]

  pub content_goes_on : IsContent p gs k o y w f
  content_goes_on = record {
    holder = next.0;
    at = next.1;
    field = content.field;
    declared = content.declared;
    class = next.2.class ∙ content.class;
    program = content.program;
    owning = content.owning;
    held = held;
    bounded = ap (λ (c : ClassId). set.is_subset (must_of p c) (must_of_type p content.field.vtype)) on.class ∙ content.bounded;
    own = ap (λ (s : Names). set.is_subset s (must_of p y.class)) on.must ∙ ap (λ (c : ClassId). set.is_subset x.must (must_of p c)) on.class ∙ content.own;
    whole = λ is unmet. next.2.must ∙ content.whole (done is) (unmet_then x y on unmet) ∙ ap (must_of p) (sym next.2.class);
    unlinked = next.2.link ∙ content.unlinked;
    kept = kept;
    made = λ is. made (sym next.2.finished ∙ is) (content.made (sym next.2.finished ∙ is));
  }

module _ (p : Program) (h k : HeapContents) (noted : ℕ → ℕ → Type 0) (goes : Goes p h k noted) where
  -- ---- contents

  -- each content goes on, where each noted name of a holder is kept
  pub contents_go_on : PromisesItsOwn p → LinksLead p h → (frs gs : List Frame) → HaveContents p frs h
      → ((o : ℕ) (x y : Object) (w : ℕ) (f : FieldId) → object_at h o ≡ Some x → object_at k o ≡ Some y → is_heavy_class p y.class ≡ true → GoesOn x y → x.owner ≡ owners.Field w f → (content : IsContent p frs h o x w f)
      → (m : MethodId) (d : Method) (n : NameId) → content.holder.finished ≡ true → method_at p m ≡ Some d → d.class ≡ content.holder.class → d.sig.interest ≡ Some n
      → set.contains (must_of p content.holder.class) n.0 ≡ true → noted w n.0 → is_unmet y ≡ true → set.is_subset (promised_on f d) y.called ≡ true)
      → ((o : ℕ) (x y : Object) (w : ℕ) (f : FieldId) (content : IsContent p frs h o x w f) → object_at k o ≡ Some y → y.owner ≡ owners.Field w f → content.holder.finished ≡ false
      → is_made_in p w content.field.class frs ≡ true → is_made_in p w content.field.class gs ≡ true)
      → HaveContents p gs k
  contents_go_on own led frs gs have keeps made o y w f at has owner =
      let was = goes.back o y w f at owner in
      let had = obligation_then p was.0 y was.2 has in
      let content = have o was.0 w f was.1 had was.3 in
      let heavy = obligation_is_heavy p was.0 had (λ unmet. content.own) in
      content_goes_on p own h k noted frs gs o was.0 y w f content was.1 at was.2 (goes.forth w content.holder content.at)
      (ap (root_of k) (goes.fields w f (owning_by p f content.field content.declared content.owning)) ∙ root_stays h k goes.roots (field_value p h w f) o was.0 content.held was.1)
      (led_there p h led (field_value p h w f) o was.0 content.held was.1 heavy (inl (not_the_librarys_owes was.0 (ap is_library_owner was.3))))
      (keeps o was.0 y w f was.1 at (ap (is_heavy_class p) was.2.class ∙ heavy) was.2 was.3 content) (made o was.0 y w f content at owner)

-- ---- frames

module _ (p : Program) (h k : HeapContents) (forth : Evolves h k) where
  pub unfinished_on : (frs : List Frame) → All (λ (fr : Frame). IsInRange h fr.locals.this) frs → AreUnfinished p h frs → AreUnfinished p k frs
  unfinished_on [] in' all = tt
  unfinished_on (fr ∷ frs) in' all = (top, unfinished_on frs (All-tail (λ (x : Frame). IsInRange h x.locals.this) fr frs in') all.1)
    where
      top : (w : ℕ) (y : Object) → DeclaresOwning p fr.method → constructs (method_at p fr.method) ≡ true → fr.locals.this ≡ values.Object w → object_at k w ≡ Some y → y.finished ≡ false
      top w y declares new this at =
          let was = there h w (All-head (λ (x : Frame). IsInRange h x.locals.this) fr frs in' w (ap number_of this)) in
          let z = forth w was.0 was.1 in
          let same : z.0 ≡ y = (let both : Some z.0 ≡ Some y = sym z.1 ∙ at in cc) in
          ap (λ (u : Object). u.finished) (sym same) ∙ z.2.finished ∙ all.0 w was.0 declares new this was.1

  dispatched_one : (fr caller : Frame) → LocalsInRange h caller.locals → IsDispatched p h fr caller → IsDispatched p k fr caller
  dispatched_one fr caller in' is i s named n w y here called at chosen target there' =
      let was = there h w (operand_in_range h caller.locals in' s.action 0 w (ap number_of target)) in
      let z = forth w was.0 was.1 in
      let same : z.0 ≡ y = (let both : Some z.0 ≡ Some y = sym z.1 ∙ there' in cc) in
      let class : was.0.class ≡ y.class = sym z.2.class ∙ ap (λ (u : Object). u.class) same in
      let old = is i s named n w was.0 here called at chosen target was.1 in
      (old.0 ∙ ap (run_by p named) class, ap (λ (c : ClassId). is_under p c n.class) (sym class) ∙ old.1, old.2)

  pub dispatched_on : (fr : Frame) (frs : List Frame) → All (λ (x : Frame). LocalsInRange h x.locals) frs → AreDispatched p h (fr ∷ frs) → AreDispatched p k (fr ∷ frs)
  dispatched_on fr [] in' all = tt
  dispatched_on fr (caller ∷ frs) in' all = (
    dispatched_one fr caller (All-head (λ (x : Frame). LocalsInRange h x.locals) caller frs in') all.0,
    all.1,
    dispatched_on caller frs (All-tail (λ (x : Frame). LocalsInRange h x.locals) caller frs in') all.2,
  )

-- ---- steps one after the other

module _ (p : Program) (h k j : HeapContents) (noted : ℕ → ℕ → Type 0) (a : Goes p h k noted) (b : Goes p k j noted) where
  -- what was done stays done
  done_on : (w n : ℕ) → IsDone p h k w n → IsDone p h j w n
  done_on w n all x z u f c o i at owning held leads before now promised small =
      let y = a.forth o z before in
      let last = b.forth o y.0 y.1 in
      let same : last.0 ≡ u = (let both : Some last.0 ≡ Some u = sym last.1 ∙ now in cc) in
      subst (λ (v : Object). set.contains v.called i ≡ true) same (within_at y.0.called last.0.called last.2.called i (all x z y.0 f c o i at owning held leads before y.1 promised small))

  -- what is done later is done on what was there first
  done_from : (w n : ℕ) → IsDone p k j w n → IsDone p h j w n
  done_from w n all x z u f c o i at owning held leads before now promised small =
      let x' = a.forth w x at in
      let z' = a.forth o z before in
      all x'.0 z'.0 u f c o i x'.1 owning (a.fields w f owning ∙ held) (leads_forth p h k (goes_forth p h k noted a) (goes_hold p h k noted a) c o leads) z'.1 now
      (ap (λ (c : ClassId). set.contains (promised_names (λ t. is_of_field t f) (own_promises p c (name_of n))) i) x'.2.class ∙ promised) small

  pub goes_further : Goes p h j noted
  goes_further = record {
    forth = λ n x at. (let y = a.forth n x at in let z = b.forth n y.0 y.1 in (
      z.0,
      z.1,
      goes_on_further x y.0 z.0 y.2 z.2,
      λ i has. elim (z.3 i has) [
        | inl old ↦ elim (y.3 i old) [
          | inl older ↦ inl older
          | inr new ↦ elim new [
            | inl named ↦ inr (inl named)
            | inr all ↦ inr (inr (done_on n i all))
          ]
        ]
        | inr new ↦ elim new [
          | inl named ↦ inr (inl named)
          | inr all ↦ inr (inr (done_from n i all))
        ]
      ],
    ));
    back = λ n z w f at owner. (let y = b.back n z w f at owner in let x = a.back n y.0 w f y.1 y.3 in (x.0, x.1, goes_on_further x.0 y.0 z x.2 y.2, x.3));
    fields = λ w f owning. b.fields w f owning ∙ a.fields w f owning;
    roots = λ n x at. (let y = a.forth n x at in b.roots n y.0 y.1 ∙ a.roots n x at);
    library = λ n x z at now is. (let y = a.forth n x at in b.library n y.0 z y.1 now (a.library n x y.0 at y.1 is));
    born = λ n z at. elim (b.born n z at) [
      | inr born ↦ inr born
      | inl y ↦ elim (a.born n y.0 y.1) [
        | inl x ↦ inl x
        | inr born ↦ (let next = b.forth n y.0 y.1 in
            let same : next.0 ≡ z = (let both : Some next.0 ≡ Some z = sym next.1 ∙ at in cc) in
            inr (λ l link. born l (sym next.2.link ∙ ap (λ (u : Object). u.link) same ∙ link)))
      ]
    ];
  }

-- ---- steps of one kind

-- all stays but the owner
pub stays_goes : (x y : Object) → StaysBut x y → GoesOn x y
stays_goes x y stays = record {
  class = stays.class;
  link = stays.link;
  finished = stays.finished;
  must = stays.must;
  called = ap (set.is_subset x.called) stays.called ∙ within_self x.called;
}

leaves_evolve : (h k : HeapContents) → Leaves h k → Evolves h k
leaves_evolve h k leaves n x at = let y = leaves.forth n x at in (y.0, y.1, stays_goes x y.0 y.2)

pub leaves_roots : (h k : HeapContents) → HasEarlierLinks h → Leaves h k → KeepsRoots h k
leaves_roots h k links leaves = roots_by_links h k links (leaves_evolve h k leaves)

-- owners change alone
pub leaves_goes : (p : Program) (h k : HeapContents) (noted : ℕ → ℕ → Type 0) → KeepsRoots h k → Leaves h k → Goes p h k noted
leaves_goes p h k noted roots leaves = record {
  forth = λ n x at. (let y = leaves.forth n x at in (y.0, y.1, stays_goes x y.0 y.2, λ i has. inl (ap (λ (s : Names). set.contains s i) (sym y.2.called) ∙ has)));
  back = λ n y w f at owner. (let x = leaves.back n y w f at owner in (x.0, x.1, stays_goes x.0 y x.2, x.3));
  fields = λ w f owning. ap (λ (fs : List StoredField). unwrap_or (value_stored (find (is_field_of w f) fs)) (default_in (field_at p f))) leaves.fields;
  roots = roots;
  library = λ n x y at now is. (let z = leaves.forth n x at in
      subst (λ (u : Object). is_library_owner u.owner ≡ true) (let both : Some z.0 ≡ Some y = sym z.1 ∙ now in (let one : z.0 ≡ y = cc in one)) (z.2.library is));
  born = λ n y at. elim (leaves.born n y at) [
    | inl x ↦ inl x
    | inr none ↦ inr (λ l link. absurd (let never : None ≡ Some l = sym none ∙ link in cc))
  ];
}

pub self_goes : (p : Program) (h : HeapContents) (noted : ℕ → ℕ → Type 0) → Goes p h h noted
self_goes p h noted = leaves_goes p h h noted (λ n x at. refl) (leaves_self h)

-- what no place holds is lost
pub lose_goes : (p : Program) (held : List (List Value)) (h : HeapContents) (noted : ℕ → ℕ → Type 0) → Goes p h (lose held h) noted
lose_goes p held h noted = leaves_goes p h (lose held h) noted (changed_roots (lost_object h held) h (λ n x. ((loses h held).stays n x).link)) (lose_leaves held h)

-- the call is noted, on its receiver and with what it keeps
pub noted_goes : (p : Program) (h : HeapContents) (l : Locals) (a : Action) (named : Option Method) (notes : List Note) → AreNotesOf l a named notes → Goes p h (noted p notes h) (IsNotedBy l a named)
noted_goes p h l a named notes its = record {
  forth = λ n x at. (all n x, changed_at all h n ∙ ap (option_map (all n)) at, noted_goes_on (all_notes p h notes) n x, λ i has. noted_called p h l a named notes its n i x has);
  back = λ n y w f at owner. (let z = back n y (object_at h n) refl (sym (changed_at all h n) ∙ at) in
      (z.0, z.1, subst (GoesOn z.0) z.2 (noted_goes_on (all_notes p h notes) n z.0), ap (λ (u : Object). u.owner) z.2 ∙ owner));
  fields = λ w f owning. refl;
  roots = changed_roots all h (λ n x. refl);
  library = λ n x y at now is. (let both : Some (all n x) ≡ Some y = sym (changed_at all h n ∙ ap (option_map (all n)) at) ∙ now in
      let one : all n x ≡ y = cc in ap (λ (u : Object). is_library_owner u.owner) (sym one) ∙ is);
  born = λ n y at. (let z = back n y (object_at h n) refl (sym (changed_at all h n) ∙ at) in inl (z.0, z.1));
}
  where
    all : ℕ → Object → Object
    all = noted_object (all_notes p h notes)

    back : (n : ℕ) (y : Object) (x : Option Object) → object_at h n ≡ x → option_map (all n) x ≡ Some y → (z : Object) × (object_at h n ≡ Some z) × (all n z ≡ y)
    back n y None at is = absurd (let never : None ≡ Some y = is in cc)
    back n y (Some z) at is = (z, at, (let both : Some (all n z) ≡ Some y = is in cc))

-- the object that the step has made is finished, or linked: it is none that was there before
module _ (p : Program) (h j : HeapContents) (noted : ℕ → ℕ → Type 0) (change : Object → Object) (k : ℕ) (links : HasEarlierLinks h) (is : k ≡ next_number h) (goes : Goes p h j noted)
    (gives : (x : Object) (w : ℕ) (f : FieldId) → (change x).owner ≡ owners.Field w f → x.owner ≡ owners.Field w f) (bears : (x : Object) → IsBorn x → IsBorn (change x)) where
  other : (n : ℕ) (x y : Object) → object_at h n ≡ Some x → object_at j n ≡ Some y → object_at (change_one k change j) n ≡ Some y
  other n x y before at =
      let below = (in_range h n x before).1 in
      let no : nat_eq n k ≡ false = grind (arith, nat_tests, below, is) in
      changed_at (only_at k change) j n ∙ ap (option_map (only_at k change n)) at ∙ ap (λ (b : Bool). Some (if b then change y else y)) no

  done_then : (w n : ℕ) → IsDone p h j w n → IsDone p h (change_one k change j) w n
  done_then w n all x z u f c o i at owning held leads before now promised small =
      let y = goes.forth o z before in
      let same : y.0 ≡ u = (let both : Some y.0 ≡ Some u = sym (other o z y.0 before y.1) ∙ now in cc) in
      subst (λ (v : Object). set.contains v.called i ≡ true) same (all x z y.0 f c o i at owning held leads before y.1 promised small)

  new_here : (n : ℕ) (y x : Object) (w : ℕ) (f : FieldId) → object_at j n ≡ Some x → nat_eq n k ≡ true → change x ≡ y → y.owner ≡ owners.Field w f → ⊥
  new_here n y x w f at eq same owner =
      let was = goes.back n x w f at (gives x w f (ap (λ (u : Object). u.owner) same ∙ owner)) in
      let below = (in_range h n was.0 was.1).1 in
      let here : n ≡ k = eqb-true n k eq in
      omega (arith, below, here, is)

  back : (n : ℕ) (y : Object) (w : ℕ) (f : FieldId) (x : Option Object) → object_at j n ≡ x → (b : Bool) → nat_eq n k ≡ b → option_map (λ (u : Object). if nat_eq n k then change u else u) x ≡ Some y
      → y.owner ≡ owners.Field w f → (z : Object) × (object_at h n ≡ Some z) × GoesOn z y × (z.owner ≡ owners.Field w f)
  back n y w f None at b eq same owner = absurd (let never : None ≡ Some y = same in cc)
  back n y w f (Some x) at true eq same owner =
      absurd (new_here n y x w f at eq (let both : Some (change x) ≡ Some y = sym (ap (λ (b : Bool). Some (if b then change x else x)) eq) ∙ same in (let one : change x ≡ y = cc in one)) owner)
  back n y w f (Some x) at false eq same owner =
      goes.back n y w f (at ∙ (sym (ap (λ (b : Bool). Some (if b then change x else x)) eq) ∙ same)) owner

  born : (n : ℕ) (y : Object) (x : Option Object) → object_at j n ≡ x → option_map (only_at k change n) x ≡ Some y → ((z : Object) × (object_at h n ≡ Some z)) ⊎ IsBorn y
  born n y None at same = absurd (let never : None ≡ Some y = same in cc)
  born n y (Some x) at same = elim (goes.born n x at) [
    | inl old ↦ inl old
    | inr free ↦ inr (subst IsBorn (let both : Some (only_at k change n x) ≡ Some y = same in (let one : only_at k change n x ≡ y = cc in one)) (by (nat_eq n k) free))
  ]
    where
      by : (b : Bool) → IsBorn x → IsBorn (if b then change x else x)
      by true free = bears x free
      by false free = free

  forth : (n : ℕ) (x : Object) → object_at h n ≡ Some x
      → (y : Object) × (object_at (change_one k change j) n ≡ Some y) × GoesOn x y × ((i : ℕ) → set.contains y.called i ≡ true → (set.contains x.called i ≡ true) ⊎ (noted n i ⊎ IsDone p h (change_one k change j) n i))
  forth n x at =
      let y = goes.forth n x at in (
        y.0,
        other n x y.0 at y.1,
        y.2,
        λ i has. elim (y.3 i has) [
          | inl old ↦ inl old
          | inr new ↦ elim new [
            | inl named ↦ inr (inl named)
            | inr all ↦ inr (inr (done_then n i all))
          ]
        ],
      )

  pub made_goes : Goes p h (change_one k change j) noted
  made_goes = record {
    forth = forth;
    back = λ n y w f at owner. back n y w f (object_at j n) refl (nat_eq n k) refl (sym (changed_at (only_at k change) j n) ∙ at) owner;
    fields = λ w f owning. goes.fields w f owning;
    roots = roots_by_links h (change_one k change j) links (λ n x at. (let y = forth n x at in (y.0, y.1, y.2)));
    library = λ n x y at now is. (let z = goes.forth n x at in
        let both : Some z.0 ≡ Some y = sym (other n x z.0 at z.1) ∙ now in
        let one : z.0 ≡ y = cc in subst (λ (u : Object). is_library_owner u.owner ≡ true) one (goes.library n x z.0 at z.1 is));
    born = λ n y at. born n y (object_at j n) refl (sym (changed_at (only_at k change) j n) ∙ at);
  }
