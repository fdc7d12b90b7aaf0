-- Each step of a run keeps what owning fields hold and own.
use Rattle.std.specs.List.{All}
use Rattle.std.specs.FinSet as set
use Rattle.std.proofs.Common.{◌≡◌, ℕ, true, Some, List, [], ◌∷◌, refl, sym, ap, ◌∙◌, subst}
use Rattle.std.proofs.lemmas.List.Elements.{All-cons, All-head, All-nil, All-tail}
use Rattle.rlc_base.specs.declared.name_id.NameId.{NameId}
use Rattle.program_model.specs.declared.kinds.ClassId.{ClassId}
use Rattle.program_model.specs.declared.kinds.FieldId.{FieldId}
use Rattle.program_model.specs.declared.kinds.MethodId.{MethodId}
use Rattle.program_model.specs.declared.program.Method.{Method}
use Rattle.program_model.specs.declared.program.Program.{Program}
use Rattle.program_model.specs.Lookups.{method_at}
use Rattle.must_call_sets.specs.Bodies.{constructs}
use Rattle.must_call_sets.specs.MustCallSets.{is_heavy_class, must_of}
use Rattle.java_control.specs.Control.{Step}
use Rattle.ledger_state.specs.Contents.{HeapContents}
use Rattle.ledger_state.specs.Heaps.{object_at}
use Rattle.ledger_state.specs.declared.entry.Owner.TheVariants as owners
use Rattle.ledger_state.specs.declared.object.Object.{Object}
use Rattle.ledger_state.specs.declared.value.Value.{Value}
use Rattle.ledger_obligations.specs.Obligations.{is_unmet, lose}
use Rattle.covering_laws.specs.Configuration.{Frame}
use Rattle.covering_laws.specs.Frames.{frame_after}
use Rattle.covering_laws.specs.Heaps.{GoesOn, HasEarlierLinks}
use Rattle.covering_laws.specs.FieldContents.{AreDispatched, AreFresh, AreNew, AreUnfinished, DeclaresOwning, FieldsHold, IsContent, OwningFieldsOwn, is_made_in, promised_on}
use Rattle.covering_laws.specs.Renewable.{IsFollowed}
use Rattle.covering_laws.specs.Ranges.{IsInRange, LocalsInRange}
use Rattle.content_laws.proofs.Goes.{contents_go_on, dispatched_on, goes_forth, lose_goes, unfinished_on}
use Rattle.content_laws.proofs.Leading.{goes_hold}
use Rattle.content_laws.proofs.Leaves.{lost_from}
use Rattle.content_laws.proofs.LinkSteps.{bore, leads_go_on, leads_stay}
use Rattle.content_laws.specs.Going.{Goes, NoName, PromisesItsOwn}

-- ---- the top frame takes a step of its own, or begins a frame: the frames that were there stay

abbrev pub LocalsIn : HeapContents → List Frame → Type 0
LocalsIn h frs = All (λ (x : Frame). LocalsInRange h x.locals) frs

pub this_in : (h : HeapContents) (frs : List Frame) → LocalsIn h frs → All (λ (x : Frame). IsInRange h x.locals.this) frs
this_in h [] in' = All-nil (λ (x : Frame). IsInRange h x.locals.this)
this_in h (fr ∷ frs) in' =
    All-cons (λ (x : Frame). IsInRange h x.locals.this) fr frs (All-head (λ (x : Frame). LocalsInRange h x.locals) fr frs in').this (this_in h frs (All-tail (λ (x : Frame). LocalsInRange h x.locals) fr frs in'))

-- the frame goes on as another of the same method and on the same object
pub record IsSameFrame (fr after : Frame) : Type 0 where
  pub method : after.method ≡ fr.method
  pub this : after.locals.this ≡ fr.locals.this

module _ (p : Program) (fr after : Frame) (frs : List Frame) (same : IsSameFrame fr after) where
  pub same_makes : (w : ℕ) (c : ClassId) → is_made_in p w c (after ∷ frs) ≡ is_made_in p w c (fr ∷ frs)
  same_makes w c = rw (same.method, same.this) refl

  pub same_new : AreNew p (fr ∷ frs) → AreNew p (after ∷ frs)
  same_new all =
      ((λ w declares new this. all.0 w (subst (λ (m : MethodId). DeclaresOwning p m) same.method declares) (ap (λ (m : MethodId). constructs (method_at p m)) (sym same.method) ∙ new) (sym same.this ∙ this)), all.1)

  same_fresh_by : (frs : List Frame) → AreFresh p (fr ∷ frs) → AreFresh p (after ∷ frs)
  same_fresh_by [] all = tt
  same_fresh_by (caller ∷ rest) all = ((λ i s w here new this. all.0 i s w here new (sym same.this ∙ this)), all.1)

  pub same_fresh : AreFresh p (fr ∷ frs) → AreFresh p (after ∷ frs)
  same_fresh all = same_fresh_by frs all

  pub same_unfinished : (g : HeapContents) → AreUnfinished p g (fr ∷ frs) → AreUnfinished p g (after ∷ frs)
  same_unfinished g all =
      ((λ w y declares new this at. all.0 w y (subst (λ (m : MethodId). DeclaresOwning p m) same.method declares) (ap (λ (m : MethodId). constructs (method_at p m)) (sym same.method) ∙ new) (sym same.this ∙ this) at), all.1)

  same_dispatched_by : (g : HeapContents) (frs : List Frame) → AreDispatched p g (fr ∷ frs) → AreDispatched p g (after ∷ frs)
  same_dispatched_by g [] all = tt
  same_dispatched_by g (caller ∷ rest) all =
      ((λ i s named n w x here called at chosen target there. (let old = all.0 i s named n w x here called at chosen target there in (same.method ∙ old.0, old.1, same.this ∙ old.2))), (λ i s named here called not. same.method ∙ all.1 i s named here called not), all.2)

  pub same_dispatched : (g : HeapContents) → AreDispatched p g (fr ∷ frs) → AreDispatched p g (after ∷ frs)
  same_dispatched g all = same_dispatched_by g frs all

-- what fields own they owned before
pub owning_on : (p : Program) (h k : HeapContents) (noted : ℕ → ℕ → Type 0) → Goes p h k noted → OwningFieldsOwn p h → OwningFieldsOwn p k
owning_on p h k noted goes own o y w f at owner =
    let x = goes.back o y w f at owner in
    let was = own o x.0 w f x.1 x.3 in
    (was.0, subst (IsFollowed p) (sym x.2.class) was.1)

-- a step that notes nothing on a holder, or of which each note is kept
pub stepped : (p : Program) → PromisesItsOwn p → (h k : HeapContents) (noted : ℕ → ℕ → Type 0) → HasEarlierLinks h → HasEarlierLinks k → (goes : Goes p h k noted) (fr after : Frame) (frs : List Frame) → IsSameFrame fr after → LocalsIn h (fr ∷ frs)
    → ((o : ℕ) (x y : Object) (w : ℕ) (f : FieldId) → object_at h o ≡ Some x → object_at k o ≡ Some y → is_heavy_class p y.class ≡ true → GoesOn x y → x.owner ≡ owners.Field w f → (content : IsContent p (fr ∷ frs) h o x w f)
    → (m : MethodId) (d : Method) (n : NameId) → content.holder.finished ≡ true → method_at p m ≡ Some d → d.class ≡ content.holder.class → d.sig.interest ≡ Some n
    → set.contains (must_of p content.holder.class) n.0 ≡ true → noted w n.0 → is_unmet y ≡ true → set.is_subset (promised_on f d) y.called ≡ true)
    → FieldsHold p (fr ∷ frs) h → FieldsHold p (after ∷ frs) k
stepped p own h k noted links now goes fr after frs same in' keeps hold = record {
  contents = contents_go_on p h k noted goes own hold.leads (fr ∷ frs) (after ∷ frs) hold.contents keeps
      (λ o x y w f content at owner unfinished made. same_makes p fr after frs same w content.field.class ∙ made);
  owning = owning_on p h k noted goes hold.owning;
  leads = leads_go_on p h k noted goes links hold.leads now;
  new = same_new p fr after frs same hold.new;
  fresh = same_fresh p fr after frs same hold.fresh;
  unfinished = same_unfinished p fr after frs same k (unfinished_on p h k (goes_forth p h k noted goes) (fr ∷ frs) (this_in h (fr ∷ frs) in') hold.unfinished);
  dispatched = same_dispatched p fr after frs same k (dispatched_on p h k (goes_forth p h k noted goes) fr frs (All-tail (λ (x : Frame). LocalsInRange h x.locals) fr frs in') hold.dispatched);
}

pub same_after : (p : Program) (h : HeapContents) (fr : Frame) (s : Step) (v : Value) → IsSameFrame fr (frame_after p h fr s v)
same_after p h fr s v = record { method = refl; this = refl }

-- the heap loses what no place holds: nothing changes for what fields hold and own
pub lost : (p : Program) → PromisesItsOwn p → (k : HeapContents) → HasEarlierLinks k → (held : List (List Value)) (fr : Frame) (frs : List Frame) → LocalsIn k frs → IsInRange k fr.locals.this → FieldsHold p (fr ∷ frs) k
    → FieldsHold p (fr ∷ frs) (lose held k)
lost p own k links held fr frs in' this hold = record {
  contents = contents_go_on p k (lose held k) NoName goes own hold.leads (fr ∷ frs) (fr ∷ frs) hold.contents (λ o x y w f at now unmet on owner content m d n fin there' class interest must never. absurd never)
      (λ o x y w f content at owner un' made'. made');
  owning = owning_on p k (lose held k) NoName goes hold.owning;
  leads = leads_stay p k (lose held k) (goes_forth p k (lose held k) NoName goes) (goes_hold p k (lose held k) NoName goes) links (bore p k (lose held k) NoName goes links hold.leads) hold.leads (λ n y at. (let x = lost_from held k n y at in (x.0, x.1)));
  new = hold.new;
  fresh = hold.fresh;
  unfinished = unfinished_on p k (lose held k) (goes_forth p k (lose held k) NoName goes) (fr ∷ frs) (All-cons (λ (x : Frame). IsInRange k x.locals.this) fr frs this (this_in k frs in')) hold.unfinished;
  dispatched = dispatched_on p k (lose held k) (goes_forth p k (lose held k) NoName goes) fr frs in' hold.dispatched;
}
  where
    goes : Goes p k (lose held k) NoName
    goes = lose_goes p held k NoName
