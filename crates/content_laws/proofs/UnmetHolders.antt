-- Where all that must be called on an object was called, all that must be called on what its owning fields own was called too: each name of
-- the field's type is promised by a must-call method of the class. So the way up from an unmet object ends at one that was not given up.
use Rattle.std.proofs.Common.{◌≡◌, ℕ, Bool, true, false, true≢false, not, None, Option, Some, List, refl, sym, ap, ◌∙◌}
use Rattle.std.specs.FinSet as set
use Rattle.std.proofs.lemmas.Bool.{and_from, and_parts, not-true, or_left}
use Rattle.rlc_base.proofs.SetLaws.{within_at, within_from}
use Rattle.program_model.specs.NameSets.{Names}
use Rattle.program_model.specs.declared.kinds.ClassId.{ClassId}
use Rattle.program_model.specs.declared.kinds.FieldId.{FieldId}
use Rattle.program_model.specs.declared.program.Program.{Program}
use Rattle.must_call_sets.specs.MustCallSets.{is_heavy_class, must_of, must_of_type}
use Rattle.must_call_sets.specs.OwningCases.{finalized}
use Rattle.covering_laws.specs.Accept.{Accept}
use Rattle.ledger_state.specs.Contents.{HeapContents}
use Rattle.ledger_state.specs.Heaps.{object_at}
use Rattle.ledger_state.specs.declared.entry.Owner.{Owner}
use Rattle.ledger_state.specs.declared.entry.Owner.TheVariants as owners
use Rattle.ledger_state.specs.declared.object.Link.{Link}
use Rattle.ledger_state.specs.declared.object.Object.{Object}
use Rattle.ledger_obligations.specs.Obligations.{is_unmet}
use Rattle.covering_laws.specs.Agreement.{is_answering}
use Rattle.covering_laws.specs.Chains.{Ends, HaveEnds, IsLast, ends_here, of_field}
use Rattle.covering_laws.specs.Configuration.{Frame}
use Rattle.covering_laws.specs.FieldContents.{HaveContents, IsContent, promised_on}
use Rattle.covering_laws.specs.HeapAnew.{is_field_owner}
use Rattle.covering_laws.specs.Heaps.{HasEarlierLinks}
use Rattle.covering_laws.specs.Holders.{by_field, itself}
use Rattle.covering_laws.specs.PlaceFacts.{IsAnswered, is_given_up}
use Rattle.covering_laws.proofs.Finalizers.{is_promised, owned_names}
use Rattle.covering_laws.proofs.RootLaws.{one_object}

module _ (p : Program) (ac : Accept p) (frs : List Frame) (h : HeapContents) (o : ℕ) (x : Object) (w : ℕ) (f : FieldId) (content : IsContent p frs h o x w f) (finished : content.holder.finished ≡ true) where
  -- a name of the content, where that is unmet and the holder is met
  called : is_unmet x ≡ true → set.is_subset content.holder.must content.holder.called ≡ true → (n : ℕ) → set.contains x.must n ≡ true → set.contains x.called n ≡ true
  called unmet met n one =
      let of_class = within_at x.must (must_of p x.class) content.own n one in
      let of_type = within_at (must_of p x.class) (must_of_type p content.field.vtype) content.bounded n of_class in
      let q = is_promised p ac content.field.class f n (within_at (must_of_type p content.field.vtype) (finalized p content.field.class f) (owned_names p ac f content.field content.declared content.owning) n of_type) in
      let needed : set.contains (must_of p content.holder.class) q.name.0 ≡ true = ap (λ (c : ClassId). set.contains (must_of p c) q.name.0) content.class ∙ q.needed in
      let was : set.contains content.holder.called q.name.0 ≡ true =
      within_at content.holder.must content.holder.called met q.name.0 (ap (λ (s : Names). set.contains s q.name.0) (content.whole finished unmet) ∙ needed) in
      within_at (promised_on f q.declared) x.called (content.kept finished unmet q.method q.declared q.name q.at (q.class ∙ sym content.class) q.interest needed was) n q.promised

  -- the holder of an unmet object is unmet, where it is finished
  pub holder_is_unmet : is_unmet x ≡ true → is_unmet content.holder ≡ true
  holder_is_unmet unmet = go (set.is_subset content.holder.must content.holder.called) refl
    where
      go : (b : Bool) → set.is_subset content.holder.must content.holder.called ≡ b → is_unmet content.holder ≡ true
      go true met = absurd (true≢false (
          sym (within_from x.must x.called (called unmet met)) ∙ not-true (set.is_subset x.must x.called) (and_parts x.finished (not (set.is_subset x.must x.called)) unmet).1))
      go false unmade = and_from content.holder.finished (not (set.is_subset content.holder.must content.holder.called)) finished (ap not unmade)

-- what is answered for was not given up
kept_up : (a : Owner) → is_answering a ≡ true → is_given_up a ≡ false
kept_up (owners.Frame j) is = refl
kept_up (owners.Field w f) is = refl
kept_up owners.Library is = refl
kept_up owners.Released is = absurd (true≢false (sym is))
kept_up owners.Lost is = absurd (true≢false (sym is))
kept_up owners.Unowned is = refl

last_unheld : (a : Owner) → IsLast a → is_field_owner a ≡ false
last_unheld (owners.Field w f) last = absurd last
last_unheld (owners.Frame j) last = refl
last_unheld owners.Library last = refl
last_unheld owners.Released last = refl
last_unheld owners.Lost last = refl
last_unheld owners.Unowned last = refl

module _ (p : Program) (ac : Accept p) (frs : List Frame) (h : HeapContents) (links : HasEarlierLinks h) (have : HaveEnds h) (contents : HaveContents p frs h)
    (answered : (o : ℕ) (x : Object) → object_at h o ≡ Some x → x.link ≡ None → is_unmet x ≡ true → is_answering x.owner ≡ true) where
  -- what a field owns is linked to none
  unlinked : (o : ℕ) (x : Object) (w : ℕ) (f : FieldId) → object_at h o ≡ Some x → x.owner ≡ owners.Field w f → x.link ≡ None
  unlinked o x w f at owner = go x.link refl
    where
      go : (l : Option Link) → x.link ≡ l → x.link ≡ None
      go None none = none
      go (Some l) link = absurd (let never : owners.Field w f ≡ owners.Unowned = sym owner ∙ (links o x l at link).owner in cc)

  further : (o : ℕ) (x : Object) (w : ℕ) (f : FieldId) → object_at h o ≡ Some x → x.owner ≡ owners.Field w f → IsAnswered h w → IsAnswered h o
  further o x w f at owner up = (up.0, record { within = by_field o w up.0 f x at owner up.1.within; object = up.1.object; at = up.1.at; unheld = up.1.unheld }, up.2)

  -- one step of the way, from what a field of the finished holder owns
  by_field_up : (o : ℕ) (x : Object) (w : ℕ) (f : FieldId) (z : Object) → object_at h o ≡ Some x → is_unmet x ≡ true → x.owner ≡ owners.Field w f → object_at h w ≡ Some z
      → (z.link ≡ None → is_unmet z ≡ true → IsAnswered h w) → IsAnswered h o
  by_field_up o x w f z at unmet owner there next = go content.holder.finished refl
    where
      content : IsContent p frs h o x w f
      content = contents o x w f at (or_left (is_unmet x) (is_heavy_class p x.class) unmet) owner

      one : z ≡ content.holder
      one = one_object z content.holder (object_at h w) there content.at

      go : (b : Bool) → content.holder.finished ≡ b → IsAnswered h o
      go true done = further o x w f at owner (next (ap (λ (u : Object). u.link) one ∙ content.unlinked) (ap is_unmet one ∙ holder_is_unmet p ac frs h o x w f content done unmet))
      go false open' =
          let unowned = have.unfinished w content.holder content.at open' in
          further o x w f at owner (w, record { within = itself w; object = content.holder; at = content.at; unheld = ap is_field_owner unowned }, ap is_given_up unowned)

  by_way : (o : ℕ) (x : Object) → object_at h o ≡ Some x → x.link ≡ None → is_unmet x ≡ true → (a : Owner) → x.owner ≡ a → Ends h a → IsAnswered h o
  by_way o x at none unmet _ owner (of_field w f z there rest) = by_field_up o x w f z at unmet owner there (λ none' unmet'. by_way w z there none' unmet' z.owner refl rest)
  by_way o x at none unmet _ owner (ends_here a last) =
      (o, record { within = itself o; object = x; at = at; unheld = ap is_field_owner owner ∙ last_unheld a last }, kept_up x.owner (answered o x at none unmet))

  -- the way up from an unmet object that is linked to none ends at one that was not given up
  pub unmet_is_answered : (o : ℕ) (x : Object) → object_at h o ≡ Some x → x.link ≡ None → is_unmet x ≡ true → IsAnswered h o
  unmet_is_answered o x at none unmet = by_way o x at none unmet x.owner refl (have.ends o x at)

  -- so does that from an unmet object that a field owns
  pub content_is_answered : (o : ℕ) (x : Object) (w : ℕ) (f : FieldId) → object_at h o ≡ Some x → x.owner ≡ owners.Field w f → is_unmet x ≡ true → IsAnswered h o
  content_is_answered o x w f at owner unmet = unmet_is_answered o x at (unlinked o x w f at owner) unmet
