-- The top frame takes a step of a call that has ended: one of the library, or one whose frame has gone.
use Rattle.std.proofs.Common.{◌≡◌, ◌⊎◌, inl, inr, ℕ, ◌+◌, Bool, true, false, true≢false, Some, None, List, length, slice_get, refl, sym, ◌∙◌, arith}
use Rattle.std.proofs.lemmas.Bool.{or_left}
use Rattle.std.specs.FinSet as set
use Rattle.rlc_base.specs.declared.name_id.NameId.{NameId}
use Rattle.program_model.specs.declared.kinds.ClassId.{ClassId}
use Rattle.program_model.specs.declared.program.Program.{Program}
use Rattle.ledger_obligations.specs.MustCallSets.{is_heavy_class}
use Rattle.java_control.specs.Control.{Step}
use Rattle.java_control.specs.PlaceNumbers.{IsSmall}
use Rattle.java_control.specs.Sources.{source}
use Rattle.control_actions.specs.declared.place.Place.{Place}
use Rattle.ownership_rules.specs.Callees.{callee, is_super_target}
use Rattle.value_laws.specs.Aliases.{gives_alias}
use Rattle.value_laws.specs.CalledRows.{interest_in, is_emptied, promises_at, called_after}
use Rattle.value_laws.specs.Accept.{Accept}
use Rattle.ledger_state.specs.Contents.{HeapContents}
use Rattle.ledger_state.specs.Heaps.{object_at, root_of}
use Rattle.ledger_state.specs.declared.entry.Owner.TheVariants as owners
use Rattle.ledger_state.specs.declared.object.Object.{Object}
use Rattle.ledger_state.specs.declared.value.Value.{Value}
use Rattle.value_laws.specs.Places.{place_value}
use Rattle.ledger_steps.specs.LedgerCallsCalls.{operand_of}
use Rattle.value_laws.specs.Configuration.{Frame}
use Rattle.value_laws.specs.Choosing.{frame_steps}
use Rattle.value_laws.specs.Frames.{frame_after, is_made, made_place}
use Rattle.value_laws.specs.Heaps.{GoesOn, HasEarlierLinks}
use Rattle.value_laws.specs.PlacePlaces.{is_local}
use Rattle.value_laws.specs.Agreement.{Stands}
use Rattle.value_laws.specs.Outcomes.{After, IsCallRow}
use Rattle.value_laws.specs.Anew.{GoesAnew, is_target}
use Rattle.value_laws.proofs.Going.{moves_away}
use Rattle.ledger_obligations.specs.MustCallSets.{Names}
use Rattle.value_laws.proofs.Resetting.{call_goes_so}
use Rattle.value_laws.specs.PlaceFacts.{Covers, IsCovered, IsOwned, gives_away, gives_none, is_idle, is_lent, OwesOrHolds, owned, unowned, IsOld}
use Rattle.ownership_rules.specs.Facts.{has, is_held, is_own}
use Rattle.covering_laws.proofs.GivenArguments.{away_moves}
use Rattle.covering_laws.proofs.Owners.{KeepsHeld, StaysApart}
use Rattle.rlc_base.proofs.SetLaws.{within_at}
use Rattle.covering_laws.proofs.KnownNames.{AreKept, known_unless_emptied, operand_holds, receiver_is_operand}
use Rattle.covering_laws.proofs.SaidFacts.{claimed_is_said, said_apart}
use Rattle.covering_laws.proofs.TopSteps.{IsBornAnew, IsKeyedFrom, IsLeftOut, IsLocalStep, IsMadeSo, IsSureOf, StaysIdle, after_as, after_both, top_from}
use Rattle.covering_laws.proofs.Waiting.{Carries, HoldsThere, KeepsFieldsButTexts, KeepsReady, KeepsRootsOf}
use Rattle.value_laws.specs.FactGoing.{GoesAs, is_owned_in}
use Rattle.program_model.specs.Lookups.{method_at}
use Rattle.control_actions.specs.declared.fact.Fact.{Fact}
use Rattle.control_actions.specs.declared.fact.Origin.{Origin}
use Rattle.ownership_rules.specs.MovesAtCalls.{moved_at_call}
use Rattle.value_laws.specs.Flow.{flow}
use Rattle.value_laws.specs.PlaceRows.{places_after}
use Rattle.ownership_rules.specs.declared.moved.Moved.TheVariants as moves

module _ (p : Program) (ac : Accept p) (h k : HeapContents) (links : HasEarlierLinks h) (carries : Carries h k) (fields : KeepsFieldsButTexts p h k)
    (fr : Frame) (st : Stands p fr) (i : ℕ) (s : Step) (here : slice_get (frame_steps p fr) i ≡ Some s) (r : IsLocalStep p fr st s) (inside : HoldsThere p h fr) (roots : KeepsRootsOf p h k fr) (v : Value)
    (row : IsCallRow s.action) where
  abbrev after : Frame
  after = frame_after p h fr s v

  -- the fact says that the object is owned, or it is that of what is lent
  abbrev pub IsTrustedIn : Origin → Fact → Type 0
  IsTrustedIn o g = (is_owned_in g.mode ≡ true) ⊎ (is_lent p (method_at p fr.method) o.kind ≡ true)

  -- where the object moves, the fact says no longer that it is owned; where its obligation is created anew, the fact goes on anew
  abbrev pub IsGivenOr : Origin → Fact → Fact → Type 0
  IsGivenOr o f g =
      (moved_at_call p o s.action s.edge f ≡ moves.Moves → is_owned_in g.mode ≡ false)
      × (is_target p s.action f.places ≡ true → GoesAnew p st.number o s.action f (places_after p st.number s.action s.edge f.places) g)

  -- what goes on in a fact that owns it is not given away
  stays_here : (old : ℕ → Bool) (frs : List Frame) (away anew : Bool) (o : ℕ) (x : Object) (c : Covers p h away anew old frs fr o x) → IsOwned p h away anew old frs fr o x c → is_heavy_class p x.class ≡ true → (g : Fact) → IsGivenOr c.origin c.fact g → is_own g.mode ≡ true
      → gives_away p h fr.locals s.action o x.class ≡ false
  stays_here old frs away anew o x c key heavy g more own = go (gives_away p h fr.locals s.action o x.class) refl
    where
      go : (b : Bool) → gives_away p h fr.locals s.action o x.class ≡ b → gives_away p h fr.locals s.action o x.class ≡ false
      go false none = none
      go true gives = absurd (true≢false (sym (or_left (is_own g.mode) (is_held g.mode) own) ∙ more.0 (away_moves p ac h fr st old frs i s here row away anew o x c key heavy gives)))

  -- something is said of the object of a fact that is sure
  pub sure_is_said : (old : ℕ → Bool) (frs : List Frame) (away anew : Bool) (o : ℕ) (x : Object) (c : Covers p h away anew old frs fr o x) → IsSureOf p ac h k links carries fields fr st i s here r inside roots v old frs away anew o x c → is_idle p frs fr c.fact ≡ false
  sure_is_said old frs away anew o x c (inl owns) = claimed_is_said p frs fr c.origin c.fact (owns.0).owning
  sure_is_said old frs away anew o x c (inr told) = (told.1).3

  -- `at_step`: what is given away is given by this call. `owner`: what is not, the frame goes on owning. `noted`: the call is noted on its receiver.
  -- `kept`: what the signature promises at the places of a fact was done. `alias`: an alias of the object of a fact has that object for its root. `bears`: where it
  -- creates the obligation of `this` anew, it bears the facts of fields. `made`: what the call gives is covered, or comes from an operand
  module _ (old : ℕ → Bool) (frs : List Frame) (gives : ℕ → ClassId → Bool) (renewed : ℕ → Bool)
      (at_step : (o : ℕ) (c : ClassId) → gives o c ≡ true → gives_away p h fr.locals s.action o c ≡ true)
      (covered : IsCovered p h gives (λ o owner. renewed o) old frs fr)
      (aged : IsOld p h frs fr old)
      (idle : StaysIdle p ac h k links carries fields fr st i s here r inside roots v frs)
      (ready : KeepsReady p h k fr)
      (others : StaysApart p h k frs fr)
      (lasting : KeepsHeld p h k fr)
      (owner : (o : ℕ) (x y : Object) → object_at h o ≡ Some x → object_at k o ≡ Some y → x.finished ≡ true → is_heavy_class p x.class ≡ true → gives_away p h fr.locals s.action o x.class ≡ false → x.owner ≡ owners.Frame (length frs + 1) → y.owner ≡ owners.Frame (length frs + 1))
      (noted : (o : ℕ) (x y : Object) (c : Covers p h (gives o x.class) (renewed o) old frs fr o x) (n : NameId) → object_at h o ≡ Some x → object_at k o ≡ Some y → root_of h (operand_of fr.locals s.action 0) ≡ Some o → is_super_target s.action ≡ false → interest_in (callee p s.action) ≡ Some n → IsSureOf p ac h k links carries fields fr st i s here r inside roots v old frs (gives o x.class) (renewed o) o x c → is_emptied p s.action c.fact.places ≡ false → renewed o ≡ false → x.finished ≡ true → GoesOn x y → is_heavy_class p x.class ≡ true → OwesOrHolds p h o x → set.contains y.called n.0 ≡ true)
      (kept : (o : ℕ) (x y : Object) (c : Covers p h (gives o x.class) (renewed o) old frs fr o x) → object_at h o ≡ Some x → object_at k o ≡ Some y → (g : Fact) → IsGivenOr c.origin c.fact g → IsTrustedIn c.origin g → IsSureOf p ac h k links carries fields fr st i s here r inside roots v old frs (gives o x.class) (renewed o) o x c → is_emptied p s.action c.fact.places ≡ false → renewed o ≡ false → x.finished ≡ true → GoesOn x y → is_heavy_class p x.class ≡ true → OwesOrHolds p h o x → (names : Names) → set.is_subset y.called names ≡ true → set.is_subset c.fact.called names ≡ true → AreKept p st.number s.action c.fact.places names (promises_at p s.action s.edge))
      (alias : (o : ℕ) (x : Object) (c : Covers p h (gives o x.class) (renewed o) old frs fr o x) → object_at h o ≡ Some x → is_heavy_class p x.class ≡ true → OwesOrHolds p h o x → is_idle p frs fr c.fact ≡ false → gives_alias p s.action s.edge c.fact.places ≡ true → root_of k v ≡ Some o)
      (bears : (q : Place) (o : ℕ) (y : Object) → IsSmall q → IsLeftOut p ac h k links carries fields fr st i s here r inside roots v q → root_of k (place_value p k fr.method after.locals q) ≡ Some o → object_at k o ≡ Some y → is_heavy_class p y.class ≡ true → OwesOrHolds p k o y → IsBornAnew p ac h k links carries fields fr st i s here r inside roots v old frs renewed q o y)
      (made : (q : Place) (o : ℕ) (y : Object) → IsSmall q → is_local q ≡ true → source p st.body s.action s.edge q ≡ None → is_made (made_place s.action) q ≡ true → place_value p k fr.method after.locals q ≡ v → root_of k v ≡ Some o → object_at k o ≡ Some y → is_heavy_class p y.class ≡ true → OwesOrHolds p k o y → IsMadeSo p ac h k links carries fields fr st i s here r inside roots v old frs gives renewed IsGivenOr q o y) where
    not_given : (b : Bool) {d : Bool} → (b ≡ true → d ≡ true) → d ≡ false → b ≡ false
    not_given false goes none = refl
    not_given true goes none = absurd (true≢false (sym (goes refl) ∙ none))

    -- what the call makes of a fact of the frame
    call_row : (o : ℕ) (x : Object) (c : Covers p h (gives o x.class) (renewed o) old frs fr o x) (q : Place) → has (places_after p st.number s.action s.edge c.fact.places) q ≡ true
        → After (λ (g : Fact). GoesAs c.fact (places_after p st.number s.action s.edge c.fact.places) (called_after p st.number s.action s.edge c.fact) g × IsGivenOr c.origin c.fact g) (flow p st.number c.origin s.action s.edge c.fact)
    call_row o x c q is =
        after_as
        (λ (g : Fact). (GoesAs c.fact (places_after p st.number s.action s.edge c.fact.places) (called_after p st.number s.action s.edge c.fact) g
        × (is_target p s.action c.fact.places ≡ true → GoesAnew p st.number c.origin s.action c.fact (places_after p st.number s.action s.edge c.fact.places) g))
        × (moved_at_call p c.origin s.action s.edge c.fact ≡ moves.Moves → is_owned_in g.mode ≡ false))
        (λ (g : Fact). GoesAs c.fact (places_after p st.number s.action s.edge c.fact.places) (called_after p st.number s.action s.edge c.fact) g × IsGivenOr c.origin c.fact g)
        (flow p st.number c.origin s.action s.edge c.fact) (λ g both. (both.0.0, (both.1, both.0.1)))
        (after_both
        (λ (g : Fact). GoesAs c.fact (places_after p st.number s.action s.edge c.fact.places) (called_after p st.number s.action s.edge c.fact) g
        × (is_target p s.action c.fact.places ≡ true → GoesAnew p st.number c.origin s.action c.fact (places_after p st.number s.action s.edge c.fact.places) g))
        (λ (g : Fact). is_owned_in g.mode ≡ false) (flow p st.number c.origin s.action s.edge c.fact) (moved_at_call p c.origin s.action s.edge c.fact ≡ moves.Moves)
        (call_goes_so p st.number c.origin s.action s.edge c.fact q row is) (λ one. moves_away p st.number c.origin s.action s.edge c.fact q row is one))

    -- each place after the call is in a fact that comes from one before it, or was born
    pub call_from : (q : Place) (o : ℕ) (y : Object) → IsSmall q → root_of k (place_value p k fr.method after.locals q) ≡ Some o → object_at k o ≡ Some y → is_heavy_class p y.class ≡ true → OwesOrHolds p k o y
        → IsKeyedFrom p ac h k links carries fields fr st i s here r inside roots v old frs gives renewed IsGivenOr q o y
    call_from = top_from p ac h k links carries fields fr st i s here r inside roots v old frs gives renewed covered aged idle ready others lasting
        IsGivenOr
        call_row
        (λ o x y c before at g more trusted sure stays done goes some owes names less was.
        known_unless_emptied p st.number s.action s.edge c.fact names row was
        (λ none n receives interest.
        let hold = said_apart p h frs fr o c.fact c.places (sure_is_said old frs (gives o x.class) (renewed o) o x c sure) in
        let operand = receiver_is_operand p h fr.method fr.locals o s.action c.fact.places hold receives in
        within_at y.called names less n.0 (noted o x y c n before at (operand_holds p h fr.method fr.locals s.action o 0 c.fact.places r.small (omega arith) hold operand.1) operand.0 interest sure none stays done goes some owes))
        (λ none. kept o x y c before at g more trusted sure none stays done goes some owes names less was))
        alias
        (λ o x y c key before at heavy owes g more own.
        let stays = stays_here old frs (gives o x.class) (renewed o) o x c key heavy g more own in (
          not_given (gives o x.class) (at_step o x.class) stays,
          (λ done mine. owner o x y before at done heavy stays mine),
        ))
        bears
        made

    pub call_covered : IsCovered p k gives_none (λ o owner. renewed o) old frs after
    call_covered q o y small lent held at heavy owes = elim (call_from q o y small held at heavy owes) [
      | inl key ↦ owned key.0 key.1 key.2
      | inr free ↦ unowned free
    ]
