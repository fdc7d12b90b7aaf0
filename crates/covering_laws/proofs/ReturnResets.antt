-- A frame ends, and with it the call at which the frame below waits, which may create an obligation anew.
use Rattle.std.proofs.Common.{◌≡◌, ℕ, ◌+◌, Bool, true, false, Option, Some, List, [], ◌∷◌, length, slice_get, sym, ◌∙◌, subst, ap}
use Rattle.std.proofs.lemmas.List.Elements.{All-head}
use Rattle.program_model.specs.declared.kinds.ClassId.{ClassId}
use Rattle.program_model.specs.declared.kinds.MethodId.{MethodId}
use Rattle.program_model.specs.declared.program.Method.{Method}
use Rattle.program_model.specs.declared.program.Program.{Program}
use Rattle.program_model.specs.Lookups.{method_at}
use Rattle.ledger_obligations.specs.MustCallSets.{is_heavy_class}
use Rattle.ledger_obligations.specs.WellFormed.{HasSmallInterests}
use Rattle.java_control.specs.Control.{Step}
use Rattle.control_actions.specs.declared.action.Action.TheVariants as actions
use Rattle.control_actions.specs.declared.action.Completion.{Completion}
use Rattle.ledger_state.specs.Contents.{HeapContents}
use Rattle.ledger_state.specs.Heaps.{object_at, root_of}
use Rattle.ledger_state.specs.declared.object.Object.{Object}
use Rattle.ledger_state.specs.declared.value.Value.{Value}
use Rattle.ledger_state.specs.declared.value.Value.TheVariants as values
use Rattle.ledger_steps.specs.Ends.{answered, exception_class, result_value, returned_heap, thrown_in}
use Rattle.value_laws.specs.Accept.{Accept}
use Rattle.value_laws.specs.Agreement.{AllStand, HasMadeClasses, IsMadeAfter, IsMadeByNew, RunsItself, Stands}
use Rattle.value_laws.specs.Arguments.{HasArguments}
use Rattle.value_laws.specs.Chains.{HaveEnds}
use Rattle.value_laws.specs.Choosing.{frame_steps}
use Rattle.value_laws.specs.Configuration.{Frame}
use Rattle.value_laws.specs.FieldContents.{AreNew, AreUnfinished, FieldsOwn, HaveContents, IsBeingMade, IsDispatched, LinksLead, MakersOwn, OwningFieldsOwn, RunOnOthers, TopRunsAlone, is_new}
use Rattle.value_laws.specs.Frames.{KeepsTargets, frame_after}
use Rattle.value_laws.specs.Heaps.{HasEarlierLinks}
use Rattle.value_laws.specs.Holders.{HoldersAreUnlinked}
use Rattle.value_laws.specs.Nexts.{IsBackStep}
use Rattle.value_laws.specs.PlaceFacts.{AreCovered, AreWaiting, IsCovered, IsOld, OwnersBelow, gives_none, is_given, renews_none}
use Rattle.value_laws.specs.PlainForms.{HasPlainForms, MayRun}
use Rattle.value_laws.specs.Ranges.{FieldsInRange, LocalsInRange}
use Rattle.value_laws.specs.Renewing.{is_reread}
use Rattle.value_laws.specs.Types.{GivesAsNamed, KeepsTypes, is_text}
use Rattle.value_laws.proofs.Renewed.{says_nothing, without_reset}
use Rattle.covering_laws.specs.Linking.{IsGivenAsAlias, LinkedAreAliases}
use Rattle.covering_laws.specs.Making.{IsUnheld}
use Rattle.covering_laws.specs.Running.{HasPlainRuns}
use Rattle.covering_laws.specs.Sight.{ActsInSight}
use Rattle.covering_laws.specs.Texts.{TextsAreLight}
use Rattle.covering_laws.specs.Throws.{EndsAsDeclared}
use Rattle.covering_laws.proofs.AlikeHeaps.{AreAlike}
use Rattle.covering_laws.proofs.AnewAtEnds.{AllTurned}
use Rattle.covering_laws.proofs.EndedHeaps.{end_ends, unfinished_but}
use Rattle.value_laws.specs.Agreement.{RunsOnSame}
use Rattle.value_laws.specs.Types.{StoredHoldNone}
use Rattle.covering_laws.proofs.FieldOwners.{fields_own_kept}
use Rattle.covering_laws.proofs.EndJoins.{anew_covered, ended_apart, ended_held_before, ended_makers, ended_owns, ended_unfinished, was}
use Rattle.covering_laws.proofs.EndTargets.{all_turned, heaps_alike, same_fields, same_roots}
use Rattle.covering_laws.proofs.LocalSteps.{LocalsIn}
use Rattle.covering_laws.proofs.RenewedOperands.{HoldsLent}
use Rattle.covering_laws.proofs.ResetCovers.{makers_alike, same_held}
use Rattle.covering_laws.proofs.Waiting.{AllHeldBefore, KeepsFields, KeepsUnfinished, held_before_further, IsCarried}
use Rattle.value_laws.proofs.SettledFrames.{AllRenewInHand, RenewsInHand}
use Rattle.covering_laws.proofs.WholeThis.{IsSingleThis}
use Rattle.covering_laws.proofs.IdleCalls.{LendsItsOwn}
use Rattle.value_laws.proofs.RootLaws.{one_object}

-- what the end of a call leaves of the heap `h`, where the caller goes on as `after`: what is said of objects apart from those that are made is asked of others alone
pub record IsReturned (p : Program) (h k : HeapContents) (after : Frame) (rest : List Frame) (made : ℕ → Type 0) : Type 0 where
  pub unfinished : KeepsUnfinished h k made
  pub linked : LinkedAreAliases p k
  pub before : AllHeldBefore p h k rest
  pub owns : FieldsOwn p k
  pub class : (w : ℕ) (x y : Object) → object_at h w ≡ Some x → object_at k w ≡ Some y → y.class ≡ x.class
  pub makers : MakersOwn p k (after ∷ rest)
  pub covered : AreCovered p k (after ∷ rest)

module _ (p : Program) (ac : Accept p) (forms : HasPlainForms p) (runs' : HasPlainRuns p) (names : HasSmallInterests p) (h : HeapContents) (texts : TextsAreLight p h) (links : HasEarlierLinks h) (apart : LinkedAreAliases p h) (ranges : FieldsInRange h)
    (fr caller : Frame) (rest : List Frame) (st : Stands p fr) (below : Stands p caller) (targets : KeepsTargets p caller) (keeps : KeepsTypes (is_text p h) p fr) (gives : GivesAsNamed p caller fr) (dispatched : IsDispatched p h fr caller)
    (making : IsBeingMade p h fr caller) (mine' : LocalsInRange h fr.locals) (old : ℕ → Bool) (covered : IsCovered p h gives_none renews_none old (caller ∷ rest) fr) (i : ℕ) (s : Step) (q : Completion) (here : slice_get (frame_steps p fr) i ≡ Some s) (is : s.action ≡ actions.End q)
    (t : Step) (named : MethodId) (back : IsBackStep p (frame_steps p caller) (exception_class p h (thrown_in fr.locals q)) named t) (may : MayRun p named fr.method) (makes : IsMadeByNew p h t.action fr.locals.this) (itself : RunsItself t.action named fr.method) (args : HasArguments p caller fr) (exits : EndsAsDeclared p h fr)
    (leads : LinksLead p h) (ends : HaveEnds h) (made_after : IsMadeAfter p caller.locals t.action fr.locals.this) (classes : HasMadeClasses p h) (unheld : IsUnheld p h fr caller rest) (in' : LocalsIn h (caller ∷ rest)) (alone : TopRunsAlone p h (fr ∷ caller ∷ rest)) (contents : HaveContents p (fr ∷ caller ∷ rest) h)
    (unlinked : HoldersAreUnlinked (is_heavy_class p) h) (fresh : (w : ℕ) → is_new t.action ≡ true → fr.locals.this ≡ values.Object w → RunOnOthers w (caller ∷ rest)) (on_same : RunsOnSame t.action caller.locals.this fr.locals.this)
    (stored : StoredHoldNone (is_text p h) p h) (stand : AllStand p rest) (aged : IsOld p h (caller ∷ rest) fr old) (older : ℕ → Bool) (up : (o : ℕ) → older o ≡ true → old o ≡ true) (was_old : IsOld p h rest caller older)
    (waiting : IsCovered p h (is_given p h caller) (is_reread p h caller) older rest caller) (lower : AreWaiting p h older rest) (holds : HoldsLent p h older rest caller below) (news : AreNew p (caller ∷ rest))
    (unready : AreUnfinished p h (caller ∷ rest)) (owned : FieldsOwn p h) (renews' : RenewsInHand p h caller rest) (all_renew : AllRenewInHand p h rest) (single : IsSingleThis p h caller) (lending : LendsItsOwn p caller t)
    (makers : MakersOwn p h (caller ∷ rest)) (own : OwningFieldsOwn p h) (sight : ActsInSight p h caller) where
  abbrev at : ℕ
  at = length rest + 1

  abbrev e : Option ClassId
  e = exception_class p h (thrown_in fr.locals q)

  abbrev v : Value
  v = result_value fr.locals (method_at p fr.method) q

  abbrev m : Option Method
  m = method_at p named

  -- the heap that the end would leave without the reset, and the one that it leaves
  abbrev K : HeapContents
  K = returned_heap p at fr.locals.this caller.locals t.action (method_at p fr.method) (without_reset m) v e h

  abbrev pub J : HeapContents
  J = returned_heap p at fr.locals.this caller.locals t.action (method_at p fr.method) m v e h

  abbrev pub after : Frame
  after = frame_after p h caller t (answered fr.locals.this t.action v e)

  caller_in : LocalsInRange h caller.locals
  caller_in = All-head (λ (x : Frame). LocalsInRange h x.locals) caller rest in'

  unmade : (w : ℕ) (x : Object) → is_new t.action ≡ true → fr.locals.this ≡ values.Object w → object_at h w ≡ Some x → x.finished ≡ false
  unmade w x new this at' = making back.index t w x back.here new this at'

  -- ---- the reset

  roots : (u : Value) → root_of J u ≡ root_of K u
  roots = same_roots p ac forms h links fr caller rest below sight dispatched making e v t named back ends made_after caller_in own

  fields_stay : KeepsFields p K J
  fields_stay = same_fields p ac forms h links fr caller rest below sight dispatched making e v t named back ends made_after caller_in own

  alike : AreAlike K J
  alike = heaps_alike p ac forms h links fr caller rest below sight dispatched making e v t named back ends made_after caller_in own

  its_was : (n : ℕ) (x : Object) → object_at K n ≡ Some x → IsCarried h n x
  its_was = was p ac forms runs' names h texts links apart ranges fr caller rest st below targets keeps gives dispatched making mine' old covered i s q here is t named back may makes itself args exits leads ends made_after classes unheld in' alone contents unlinked fresh on_same stored

  turns : AllTurned p h K J caller.locals t.action
  turns = all_turned p ac forms h links fr caller rest below sight dispatched making e v t named back ends made_after caller_in own unlinked its_was

  -- ---- all frames

  its_unfinished : KeepsUnfinished h K (λ o. (fr.locals.this ≡ values.Object o) × (is_new t.action ≡ true))
  its_unfinished = ended_unfinished p ac forms runs' names h texts links apart ranges fr caller rest st below targets keeps gives dispatched making mine' old covered i s q here is t named back may makes itself args exits leads ends made_after classes unheld in' alone contents unlinked fresh on_same stored

  returned_covered : OwnersBelow h (length (caller ∷ rest) + 1) → AreCovered p J (after ∷ rest)
  returned_covered low =
      anew_covered p ac forms runs' names h texts links apart ranges fr caller rest st below targets keeps gives dispatched making mine' old covered i s q here is t named back may makes itself args exits leads ends made_after classes unheld in' alone contents unlinked fresh on_same stored stand aged older up was_old waiting lower holds news unready owned renews' all_renew single lending makers J roots fields_stay alike
      (end_ends p at fr.locals.this caller.locals t.action (method_at p fr.method) (without_reset m) v e h (says_nothing m) ends unmade)
      (unfinished_but p h K (λ o. (fr.locals.this ≡ values.Object o) × (is_new t.action ≡ true)) its_unfinished (caller ∷ rest) (λ w is'. fresh w is'.1 is'.0) in' unready) turns low

  -- ---- what does not hang on names

  returned_apart : LinkedAreAliases p J
  returned_apart n y k now some =
      let z = alike.back n y now in
      subst (IsGivenAsAlias p) (sym z.2.class) (ended_apart p ac forms runs' names h texts links apart ranges fr caller rest st below targets keeps gives dispatched making mine' old covered i s q here is t named back may makes itself args exits leads ends made_after classes unheld in' alone contents unlinked fresh on_same stored n z.0 k z.1 (sym z.2.link ∙ some))

  returned_unfinished : KeepsUnfinished h J (λ o. (fr.locals.this ≡ values.Object o) × (is_new t.action ≡ true))
  returned_unfinished o x y other before now open' = let z = alike.back o y now in z.2.finished ∙ its_unfinished o x z.0 other before z.1 open'

  returned_held_before : AllHeldBefore p h J rest
  returned_held_before = held_before_further p h K J (λ w y now. let z = alike.back w y now in (z.0, z.1, z.2.class, z.2.finished)) rest (ended_held_before p ac forms runs' names h texts links apart ranges fr caller rest st below targets keeps gives dispatched making mine' old covered i s q here is t named back may makes itself args exits leads ends made_after classes unheld in' alone contents unlinked fresh on_same stored) (stays rest)
    where
      stays : (frs : List Frame) → AllHeldBefore p K J frs
      stays [] = tt
      stays (g ∷ frs) = ((λ place w y small root now heavy open'. sym (same_held p K J roots fields_stay alike g.method g.locals place) ∙ root), stays frs)

  -- what fields hold they own
  returned_owns : FieldsOwn p J
  returned_owns = fields_own_kept p K J fields_stay roots (λ o y now. let z = alike.back o y now in (z.0, z.1, z.2.class, z.2.link, z.2.finished, z.2.owner)) (ended_owns p ac forms runs' names h texts links apart ranges fr caller rest st below targets keeps gives dispatched making mine' old covered i s q here is t named back may makes itself args exits leads ends made_after classes unheld in' alone contents unlinked fresh on_same stored owned)

  -- so do the fields of what the frames make
  returned_makers : MakersOwn p J (after ∷ rest)
  returned_makers = makers_alike p K J roots fields_stay alike (after ∷ rest) (ended_makers p ac forms runs' names h texts links apart ranges fr caller rest st below targets keeps gives dispatched making mine' old covered i s q here is t named back may makes itself args exits leads ends made_after classes unheld in' alone contents unlinked fresh on_same stored makers)

  pub call_returned : OwnersBelow h (length (caller ∷ rest) + 1) → IsReturned p h J after rest (λ o. (fr.locals.this ≡ values.Object o) × (is_new t.action ≡ true))
  call_returned low = record {
    unfinished = returned_unfinished;
    linked = returned_apart;
    before = returned_held_before;
    owns = returned_owns;
    makers = returned_makers;
    class = λ w x y before now.
        let z = alike.back w y now in
        let u = its_was w z.0 z.1 in
        z.2.class ∙ u.2 ∙ ap (λ (v' : Object). v'.class) (one_object u.0 x (object_at h w) u.1 before);
    covered = returned_covered low;
  }
