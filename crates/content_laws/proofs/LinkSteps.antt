-- Calls on each object reach its root, as the heap goes on.
use Rattle.covering_laws.proofs.Waiting.{bore_before}
use Rattle.std.specs.Prelude.{◌<◌}
use Rattle.std.proofs.Common.{◌≡◌, ℕ, zero, suc, true, Option, Some, None, refl, sym, ap, ◌∙◌, subst, inl, inr, arith}
use Rattle.program_model.specs.declared.program.Program.{Program}
use Rattle.must_call_sets.specs.MustCallSets.{is_heavy_class}
use Rattle.ledger_state.specs.Contents.{HeapContents}
use Rattle.ledger_state.specs.Heaps.{object_at, root}
use Rattle.ledger_state.specs.declared.object.Link.{Link}
use Rattle.ledger_state.specs.declared.object.Object.{Object}
use Rattle.covering_laws.specs.Heaps.{Evolves, GoesOn, HasEarlierLinks}
use Rattle.covering_laws.specs.Leading.{Leads, by_library, here}
use Rattle.covering_laws.proofs.HeapLaws.{roots_of_links-itself, roots_of_links-linked, roots_of_links-there}
use Rattle.covering_laws.proofs.ObjectLaws.{in_range}
use Rattle.covering_laws.specs.FieldContents.{LinksLead}
use Rattle.covering_laws.specs.PlaceFacts.{OwesOrHolds}
use Rattle.content_laws.proofs.Goes.{goes_forth, holders_go, roots_by_links, there}
use Rattle.content_laws.proofs.Leading.{HoldsOn, goes_hold, leads_forth}
use Rattle.content_laws.specs.Going.{Goes, IsBorn}

module _ (p : Program) (h k : HeapContents) (forth : Evolves h k) (fields : HoldsOn p h k) (links : HasEarlierLinks h)
    (bore : (o : ℕ) (x y : Object) → object_at h o ≡ Some x → object_at k o ≡ Some y → OwesOrHolds p k o y → OwesOrHolds p h o x) (led : LinksLead p h) where
  -- calls on an object that was there
  of_old : (n o : ℕ) (x y : Object) → object_at h n ≡ Some x → root k n ≡ o → object_at k o ≡ Some y → is_heavy_class p y.class ≡ true → OwesOrHolds p k o y → Leads p k n o
  of_old n o x y at root' at' heavy owes =
      let same : root h n ≡ o = sym (roots_by_links h k links forth n x at) ∙ root' in
      let end = roots_of_links-there h n x links at in
      let before : object_at h o ≡ Some end.0 = ap (object_at h) (sym same) ∙ end.1 in
      let next = forth o end.0 before in
      let one : next.0 ≡ y = (let both : Some next.0 ≡ Some y = sym next.1 ∙ at' in cc) in
      let on : GoesOn end.0 y = subst (GoesOn end.0) one next.2 in
      leads_forth p h k forth fields n o (led n o x end.0 at same before (ap (is_heavy_class p) (sym on.class) ∙ heavy) (bore o end.0 y before at' owes))

  -- no object is made
  pub leads_stay : ((n : ℕ) (y : Object) → object_at k n ≡ Some y → (x : Object) × (object_at h n ≡ Some x)) → LinksLead p k
  leads_stay back n o x y at root' at' heavy owes = let old = back n x at in of_old n o old.0 y old.1 root' at' heavy owes

module _ (p : Program) (h k : HeapContents) (noted : ℕ → ℕ → Type 0) (goes : Goes p h k noted) (links : HasEarlierLinks h) (led : LinksLead p h) where
  -- what may owe a call, or holds something, did so
  pub bore : (o : ℕ) (x y : Object) → object_at h o ≡ Some x → object_at k o ≡ Some y → OwesOrHolds p k o y → OwesOrHolds p h o x
  bore o x y before at owes = bore_before p h k (λ w ready holds. inl (holders_go p h k noted goes w holds)) o x y before (λ done. (forward, goes.library o x y before at)) owes
    where
      forward : GoesOn x y
      forward = let z = goes_forth p h k noted goes o x before in subst (GoesOn x) (let both : Some z.0 ≡ Some y = sym z.1 ∙ at in (let one : z.0 ≡ y = cc in one)) z.2

  -- the library alone links an object that is made
  below : HasEarlierLinks k → (m n : ℕ) → n < m → (o : ℕ) (x y : Object) → object_at k n ≡ Some x → root k n ≡ o → object_at k o ≡ Some y → is_heavy_class p y.class ≡ true → OwesOrHolds p k o y
      → Leads p k n o
  below now zero n under o x y at root' at' heavy owes = absurd (omega (arith, under))
  below now (suc m) n under o x y at root' at' heavy owes = elim (goes.born n x at) [
    | inl old ↦ of_old p h k (goes_forth p h k noted goes) (goes_hold p h k noted goes) links bore led n o old.0 y old.1 root' at' heavy owes
    | inr born ↦ by_link (below now m) born x.link refl
  ]
    where
      by_link : ((n : ℕ) → n < m → (o : ℕ) (x y : Object) → object_at k n ≡ Some x → root k n ≡ o → object_at k o ≡ Some y → is_heavy_class p y.class ≡ true → OwesOrHolds p k o y → Leads p k n o)
          → IsBorn x → (l : Option Link) → x.link ≡ l → Leads p k n o
      by_link rest born None free = subst (λ (r : ℕ). Leads p k n r) (sym (roots_of_links-itself k n x at free) ∙ root') (here n x at free)
      by_link rest born (Some l) link =
          let earlier = now n x l at link in
          let first = earlier.there in
          let before = earlier.before in
          let last = (in_range k n x at).1 in
          let z = there k l.to (first, omega (arith, before, last)) in
          by_library n o x l at link (born l link)
          (rest l.to (omega (arith, before, under)) o z.0 y z.1 (sym (roots_of_links-linked k n x l now at link) ∙ root') at' heavy owes)

  pub leads_go_on : HasEarlierLinks k → LinksLead p k
  leads_go_on now n o x y at root' at' heavy owes = below now (suc n) n (omega arith) o x y at root' at' heavy owes
