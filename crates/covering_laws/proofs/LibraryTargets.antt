-- What a reset reaches whose target is an operand of a call of the library: the target, where its root is finished, and what the target is within.
use Rattle.std.proofs.Common.{Bool, None, Option, Some, ap, false, inl, inr, refl, slice_get, subst, sym, true, true≢false, ℕ, ◌∙◌, ◌≡◌, ◌⊎◌}
use Rattle.std.specs.Prelude.{if◌then◌else◌}
use Rattle.program_model.specs.declared.kinds.MethodId.{MethodId}
use Rattle.program_model.specs.declared.program.Method.{Method}
use Rattle.program_model.specs.declared.program.Program.{Program}
use Rattle.program_model.specs.Lookups.{method_at}
use Rattle.ledger_obligations.specs.Bodies.{reset_in}
use Rattle.ledger_obligations.specs.MustCallSets.{is_heavy_class}
use Rattle.ledger_obligations.specs.Obligations.{finished_holder, finished_in}
use Rattle.java_control.specs.Calls.{called_method}
use Rattle.java_control.specs.Control.{Step}
use Rattle.ownership_rules.specs.Callees.{callee, callee_in}
use Rattle.stub_conduct.specs.declared.choice.Conduct.{Conduct}
use Rattle.ledger_state.specs.Contents.{HeapContents}
use Rattle.ledger_state.specs.Heaps.{object_at, root}
use Rattle.ledger_state.specs.declared.entry.Owner.{Owner}
use Rattle.ledger_state.specs.declared.entry.Owner.TheVariants as owners
use Rattle.ledger_state.specs.declared.object.Object.{Object}
use Rattle.ledger_steps.specs.LedgerCallsCalls.{object_by, operand_of, reset_position, reset_target}
use Rattle.value_laws.specs.Choosing.{frame_steps}
use Rattle.value_laws.specs.Configuration.{Frame}
use Rattle.value_laws.specs.FieldContents.{OwningFieldsOwn}
use Rattle.value_laws.specs.HeapAnew.{HasNoHolder, finished_root, is_anew, target_root}
use Rattle.value_laws.specs.Heaps.{HasEarlierLinks}
use Rattle.value_laws.specs.Holders.{HoldersAreUnlinked, IsWithin, itself}
use Rattle.value_laws.specs.Renewing.{renews}
use Rattle.value_laws.proofs.HeapLaws.{roots_of_links-itself}
use Rattle.value_laws.proofs.LibraryCallLaws.{emptied_roots-root}
use Rattle.value_laws.proofs.Readings.{operand_renews}
use Rattle.value_laws.proofs.ResetsUp.{IsResetUp, IsTestedTarget, anew_is_up}
use Rattle.covering_laws.specs.Sight.{ActsInSight}
use Rattle.covering_laws.proofs.AnewAtEnds.{IsRisen}
use Rattle.covering_laws.proofs.TargetRoots.{same_position, target_value}
use Rattle.value_laws.specs.ClassValues.{IsOnInstance}

-- an object that is finished is there
finished_there : (h : HeapContents) (n : ℕ) → finished_in (object_at h n) ≡ true → (x : Object) × (object_at h n ≡ Some x) × (x.finished ≡ true)
finished_there h n done = go (object_at h n) refl done
  where
    go : (y : Option Object) → object_at h n ≡ y → finished_in y ≡ true → (x : Object) × (object_at h n ≡ Some x) × (x.finished ≡ true)
    go None at is = absurd (true≢false (sym is))
    go (Some x) at is = (x, at, is)

module _ (p : Program) (h : HeapContents) (links : HasEarlierLinks h) (fr : Frame) (named runs : MethodId) (d : Conduct) (i : ℕ) (s : Step) (here : slice_get (frame_steps p fr) i ≡ Some s) (called : called_method s.action ≡ Some named)
    (instance : IsOnInstance p h fr.locals s.action (method_at p named)) (own : OwningFieldsOwn p h) (sight : ActsInSight p h fr) (unlinked : HoldersAreUnlinked (is_heavy_class p) h) where
  abbrev m : Option Method
  m = method_at p named

  abbrev r : Option Method
  r = method_at p runs

  same_callee : callee p s.action ≡ m
  same_callee = ap (callee_in p) called

  -- the target's root is of a class with an obligation, or no field of a finished object owns it
  abbrev pub IsTop : Type 0
  IsTop = IsTestedTarget p fr.locals s.action m r d h links (is_heavy_class p) unlinked ⊎ HasNoHolder h (target_root h fr.locals s.action m)

  pub tops : IsTop
  tops = go (reset_target (operand_of fr.locals s.action) m) refl
    where
      not_heavy : (n : ℕ) (y : Object) → target_root h fr.locals s.action m ≡ Some n → object_at h n ≡ Some y → is_heavy_class p y.class ≡ false → (w : Owner) → y.owner ≡ w → finished_holder h w ≡ None
      not_heavy n y is there light (owners.Field w f) owner =
          absurd (true≢false (sym ((own n y w f there owner).1 (sight.renews i s named n y here called instance is there)) ∙ light))
      not_heavy n y is there light (owners.Frame j) owner = refl
      not_heavy n y is there light owners.Library owner = refl
      not_heavy n y is there light owners.Released owner = refl
      not_heavy n y is there light owners.Lost owner = refl
      not_heavy n y is there light owners.Unowned owner = refl

      by_class : (k : ℕ) → reset_target (operand_of fr.locals s.action) m ≡ Some k → (y : Object) → object_at h (root h k) ≡ Some y → (b : Bool) → is_heavy_class p y.class ≡ b → IsTop
      by_class k target y there true heavy = inl (λ k' target' z there'. (let one : k' ≡ k = (let both : Some k' ≡ Some k = sym target' ∙ target in cc) in
          let same' : y ≡ z = (let both : Some y ≡ Some z = sym there ∙ ap (λ (n : ℕ). object_at h (root h n)) (sym one) ∙ there' in cc) in
          ap (λ (u : Object). is_heavy_class p u.class) (sym same') ∙ heavy))
      by_class k target y there false light = inr (λ n z is there'. not_heavy n z is there' (ap (λ (u : Object). is_heavy_class p u.class) (sym (one_root n z is there')) ∙ light) z.owner refl)
        where
          one_root : (n : ℕ) (z : Object) → target_root h fr.locals s.action m ≡ Some n → object_at h n ≡ Some z → y ≡ z
          one_root n z is there' = by_test (finished_in (object_at h (root h k))) (sym (ap (finished_root h) target) ∙ is)
            where
              by_test : (b : Bool) → (if b then Some (root h k) else None) ≡ Some n → y ≡ z
              by_test true same' = (let one : root h k ≡ n = cc in (let both : Some y ≡ Some z = sym there ∙ ap (object_at h) one ∙ there' in cc))
              by_test false same' = absurd (let never : None ≡ Some n = same' in cc)

      by_object : (k : ℕ) → reset_target (operand_of fr.locals s.action) m ≡ Some k → (y : Option Object) → object_at h (root h k) ≡ y → IsTop
      by_object k target None there = inl (λ k' target' z there'. (let one : k' ≡ k = (let both : Some k' ≡ Some k = sym target' ∙ target in cc) in
          absurd (let never : None ≡ Some z = sym there ∙ ap (λ (n : ℕ). object_at h (root h n)) (sym one) ∙ there' in cc)))
      by_object k target (Some y) there = by_class k target y there (is_heavy_class p y.class) refl

      go : (t : Option ℕ) → reset_target (operand_of fr.locals s.action) m ≡ t → IsTop
      go None none = inr (λ n z is there. absurd (let never : None ≡ Some n = sym (ap (finished_root h) none) ∙ is in cc))
      go (Some k) target = by_object k target (object_at h (root h k)) refl

  -- the target's root is finished, and the call creates its obligation anew
  target_at : (n : ℕ) → target_root h fr.locals s.action m ≡ Some n → (renews p h fr.locals s.action n ≡ true) × (finished_in (object_at h n) ≡ true)
  target_at n is = go (reset_position m) refl is
    where
      go : (k : Option ℕ) → reset_position m ≡ k → finished_root h (object_by (operand_of fr.locals s.action) k) ≡ Some n → (renews p h fr.locals s.action n ≡ true) × (finished_in (object_at h n) ≡ true)
      go None none never = absurd (let no' : None ≡ Some n = never in cc)
      go (Some k) some found =
          let it = target_value h (operand_of fr.locals s.action k) n found in
          (operand_renews p h fr.locals s.action n k (ap reset_in same_callee ∙ same_position m ∙ some) it.0, it.1)

  -- what the reset reaches has its root finished, and the target's root within it
  pub reached_up : (n : ℕ) (x : Object) → object_at h n ≡ Some x → is_anew p fr.locals s.action m r d h n ≡ true → IsResetUp h (target_root h fr.locals s.action m) n
  reached_up n x there anew = elim tops [
    | inl tested ↦ anew_is_up p fr.locals s.action m r d h links (is_heavy_class p) unlinked n x tested there anew
    | inr free ↦ (let found = emptied_roots-root p fr.locals s.action m r d h n x links free there anew in record { start = root h n; is_target = found; within = itself (root h n); finished = (target_at (root h n) found).1 })
  ]

  -- where it is of a class with an obligation, so is the target
  heavy_target : (n : ℕ) (x : Object) → object_at h n ≡ Some x → root h n ≡ n → is_heavy_class p x.class ≡ true → is_anew p fr.locals s.action m r d h n ≡ true → (t : ℕ) → target_root h fr.locals s.action m ≡ Some t → (z : Object) → object_at h t ≡ Some z
      → is_heavy_class p z.class ≡ true
  heavy_target n x there root' heavy anew t is z at' = elim tops [
    | inl tested ↦ by_target tested (reset_target (operand_of fr.locals s.action) m) refl
    | inr free ↦ (let found = emptied_roots-root p fr.locals s.action m r d h n x links free there anew in
        let one : t ≡ n = (let both : Some t ≡ Some (root h n) = sym is ∙ found in (let same' : t ≡ root h n = cc in same')) ∙ root' in
        let same' : x ≡ z = (let both : Some x ≡ Some z = sym there ∙ ap (object_at h) (sym one) ∙ at' in cc) in
        ap (λ (u : Object). is_heavy_class p u.class) (sym same') ∙ heavy)
  ]
    where
      by_target : IsTestedTarget p fr.locals s.action m r d h links (is_heavy_class p) unlinked → (k : Option ℕ) → reset_target (operand_of fr.locals s.action) m ≡ k → is_heavy_class p z.class ≡ true
      by_target tested None none = absurd (let never : None ≡ Some t = sym (ap (finished_root h) none) ∙ is in cc)
      by_target tested (Some k) target = tested k target z (ap (object_at h) (by_test (finished_in (object_at h (root h k))) (sym (ap (finished_root h) target) ∙ is)) ∙ at')
        where
          by_test : (b : Bool) → (if b then Some (root h k) else None) ≡ Some t → root h k ≡ t
          by_test true same' = (let one : root h k ≡ t = cc in one)
          by_test false same' = absurd (let never : None ≡ Some t = same' in cc)

  -- an object whose obligation is created anew, and which is linked to none
  module _ (n : ℕ) (x : Object) (there : object_at h n ≡ Some x) (none : x.link ≡ None) (anew : is_anew p fr.locals s.action m r d h n ≡ true) where
    up : IsResetUp h (target_root h fr.locals s.action m) n
    up = reached_up n x there anew

    its_root : root h n ≡ n
    its_root = roots_of_links-itself h n x there none

    pub was_finished : x.finished ≡ true
    was_finished = ap finished_in (sym there) ∙ ap (λ (k : ℕ). finished_in (object_at h k)) (sym its_root) ∙ up.finished

    -- it is the target, or the target is within it
    pub risen : is_heavy_class p x.class ≡ true → IsRisen p h fr.locals s.action n
    risen heavy =
        let it = target_at up.start up.is_target in
        let z = finished_there h up.start it.1 in
        record {
          target = up.start;
          object = z.0;
          at = z.1;
          heavy = (z.2, heavy_target n x there its_root heavy anew up.start up.is_target z.0 z.1);
          renews = it.0;
          within = subst (IsWithin h up.start) its_root up.within;
        }
