-- What the signature of a call promises was called on the object of a fact whose places are variables and temps; and what the end of a frame shows of
-- such objects.
use Rattle.std.proofs.Common.{◌≡◌, inl, inr, ℕ, zero, suc, ◌+◌, Bool, true, false, Some, None, List, [], ◌∷◌, length, slice_get, refl, sym, ap, ◌∙◌, subst, true≢false, if◌then◌else◌}
use Rattle.std.specs.FinSet as set
use Rattle.std.specs.List.{All}
use Rattle.std.proofs.lemmas.List.Elements.{All-head, All-tail}
use Rattle.rlc_base.proofs.SetLaws.{within_at, within_from}
use Rattle.program_model.specs.declared.kinds.BodyId.{BodyId}
use Rattle.program_model.specs.declared.kinds.ClassId.{ClassId}
use Rattle.program_model.specs.declared.kinds.FieldId.{FieldId}
use Rattle.program_model.specs.declared.kinds.MethodId.{MethodId}
use Rattle.program_model.specs.declared.kinds.Target.{Target}
use Rattle.program_model.specs.declared.kinds.Target.TheVariants as promised
use Rattle.program_model.specs.declared.program.Program.{Program}
use Rattle.program_model.specs.declared.program.Promise.{Promise}
use Rattle.program_model.specs.Lookups.{method_at}
use Rattle.ledger_obligations.specs.Bodies.{throwing_promises_in}
use Rattle.ledger_obligations.specs.MustCallSets.{Names, is_heavy_class}
use Rattle.control_actions.specs.declared.action.Action.{Action}
use Rattle.control_actions.specs.declared.action.Edge.{Edge}
use Rattle.control_actions.specs.declared.action.Edge.TheVariants as edges
use Rattle.ownership_rules.specs.Callees.{callee, holds_operand, may_be_null_target}
use Rattle.ownership_rules.specs.Signatures.{is_at, promised_names, when}
use Rattle.ownership_rules.specs.Facts.{PlaceSet}
use Rattle.ownership_rules.specs.SmallActions.{IsSmallAction}
use Rattle.content_laws.specs.CalledRows.{holds_target, promises_at}
use Rattle.content_laws.specs.Aliases.{gives_alias}
use Rattle.content_laws.specs.Accept.{Accept}
use Rattle.stub_conduct.specs.declared.choice.Conduct.{Conduct}
use Rattle.stub_conduct.specs.declared.choice.Conduct.TheVariants as conducts
use Rattle.ledger_state.specs.Contents.{HeapContents}
use Rattle.ledger_state.specs.Heaps.{object_at, root, root_of}
use Rattle.ledger_state.specs.declared.locals.Locals.{Locals}
use Rattle.ledger_state.specs.declared.object.Object.{Object}
use Rattle.ledger_state.specs.declared.value.Value.{Value}
use Rattle.ledger_state.specs.declared.value.Value.TheVariants as values
use Rattle.ledger_steps.specs.LedgerCallsCalls.{alias_position, operand_of}
use Rattle.ledger_steps.specs.Conducts.{promises_by}
use Rattle.ledger_steps.specs.CallSteps.{library_heap}
use Rattle.content_laws.specs.Heaps.{HasEarlierLinks}
use Rattle.content_laws.specs.Leading.{Leads}
use Rattle.content_laws.proofs.RootLaws.{has_object}
use Rattle.java_control.specs.Control.{Step}
use Rattle.control_actions.specs.declared.action.Action.TheVariants as actions
use Rattle.control_actions.specs.declared.action.Completion.{Completion}
use Rattle.ownership_rules.specs.MovesAtCalls.{moved_at_call}
use Rattle.ownership_rules.specs.declared.moved.Moved.TheVariants as moves
use Rattle.ledger_state.specs.declared.entry.Owner.TheVariants as owners
use Rattle.content_laws.specs.Configuration.{Frame}
use Rattle.content_laws.specs.Choosing.{frame_steps}
use Rattle.ledger_steps.specs.Ends.{answered, exception_class, result_value, thrown_in}
use Rattle.content_laws.specs.Heaps.{GoesOn}
use Rattle.content_laws.specs.Agreement.{Stands, TracksAs}
use Rattle.content_laws.specs.Renewing.{is_renewed}
use Rattle.content_laws.specs.FieldContents.{LinksLead}
use Rattle.content_laws.specs.PlaceFacts.{may_owe}
use Rattle.content_laws.specs.Outcomes.{IsCallRow}
use Rattle.content_laws.specs.HeapAnew.{is_anew}
use Rattle.content_laws.proofs.LibraryCallLaws.{any_promised_names_are_called-position}
use Rattle.content_laws.proofs.TopSteps.{small_interest}
use Rattle.content_laws.proofs.SignedPromises.{promised_name_is_small}
use Rattle.content_laws.proofs.CallNames.{no_target, operand_has_position, operand_of_fact}
use Rattle.content_laws.proofs.Carried.{HoldIt}
use Rattle.content_laws.proofs.KnownNames.{AreKept, all_kept}
use Rattle.content_laws.proofs.LibraryPromises.{at_position, edge_promises, promise_of}
use Rattle.content_laws.proofs.LibraryRuns.{promises_answered}
use Rattle.content_laws.proofs.NoteLists.{name_from_all, name_where}
use Rattle.content_laws.specs.PlainForms.{IsAnsweredBy, IsKeptBy, LibraryRunsFor}

-- ---- a null target

-- the exception of a null target is thrown before the call starts: nothing is promised
pub null_target_promises : (p : Program) (b : BodyId) (a : Action) (e : Edge) (held : PlaceSet) (names : Names) → may_be_null_target p a e ≡ true → AreKept p b a held names (promises_at p a e)
null_target_promises p b a edges.Go held names target = absurd (true≢false (sym target))
null_target_promises p b a (edges.Throws t) held names target =
    subst (λ (x : Bool). AreKept p b a held names (if x then [] else throwing_promises_in (callee p a))) (sym target) tt
null_target_promises p b a e held names target = tt

-- ---- the end of a frame

-- what the call gives is an alias of object `o`: the result, or the object that a `new` makes of this argument
abbrev pub GivesRoot : Program → HeapContents → Locals → Action → Value → ℕ → Type 0
GivesRoot p h l (actions.New m d n) v o = (k : ℕ) × (alias_position (method_at p m) ≡ Some k) × (root_of h (operand_of l (actions.New m d n) k) ≡ Some o)
GivesRoot p h l a v o = root_of h v ≡ Some o

-- what the call gives is an alias of the object, where it gives one of what is at these places
abbrev pub ReturnsAlias : Program → HeapContents → Frame → Frame → Action → Edge → PlaceSet → Completion → ℕ → Type 0
ReturnsAlias p h fr caller a e held q o =
    gives_alias p a e held ≡ true → GivesRoot p h caller.locals a (answered fr.locals.this a (result_value fr.locals (method_at p fr.method) q) (exception_class p h (thrown_in fr.locals q))) o

-- The frame ends, and its caller, at position `n`, takes this step of its call, by `Go` where the frame ends normally. The object of a fact of the caller, which
-- it owns, does not move at the call: what the signature promises of it was called on it, where the call does not create its obligation anew, and what the call gives is the
-- object, where the fact says that it is an alias.
abbrev pub ShowsOperands : Program → HeapContents → Frame → Frame → ℕ → Type 0
ShowsOperands p h fr caller n = (below : Stands p caller) (i j : ℕ) (s t : Step) (q : Completion) (o : ℕ) (x : Object) (anew : Bool) (w : TracksAs p h anew caller o x) → slice_get (frame_steps p fr) i ≡ Some s → s.action ≡ actions.End q
    → slice_get (frame_steps p caller) j ≡ Some t → IsCallRow t.action → (exception_class p h (thrown_in fr.locals q) ≡ None → t.edge ≡ edges.Go)
    → ((c : ClassId) → exception_class p h (thrown_in fr.locals q) ≡ Some c → (k : ClassId) × (t.edge ≡ edges.Throws k)) → object_at h o ≡ Some x → x.finished ≡ true → is_heavy_class p x.class ≡ true → x.owner ≡ owners.Frame n
    → (moved_at_call p w.origin t.action t.edge w.fact ≡ moves.Moves → ⊥)
    → ((y : Object) → GoesOn x y → is_renewed p h caller o ≡ false → anew ≡ false → AreKept p below.number t.action w.fact.places y.called (promises_at p t.action t.edge)) × ReturnsAlias p h fr caller t.action t.edge w.fact.places q o

-- the top one of these frames, for which the one below waits
abbrev pub TopShowsOperands : Program → HeapContents → List Frame → Type 0
TopShowsOperands p h [] = Unit {0}
TopShowsOperands p h (fr ∷ []) = Unit {0}
TopShowsOperands p h (fr ∷ caller ∷ frs) = ShowsOperands p h fr caller (length frs + 1)

-- ---- a method of the library

-- calls on a value lead to the object at the end of its links
pub led_value : (p : Program) (h : HeapContents) → LinksLead p h → (v : Value) (w o : ℕ) (x : Object) → v ≡ values.Object w → root_of h v ≡ Some o → object_at h o ≡ Some x → is_heavy_class p x.class ≡ true → may_owe x ≡ true
    → Leads p h w o
led_value p h led v w o x is root' at heavy owes =
    let same : root h w ≡ o = (let both : Some (root h w) ≡ Some o = sym (ap (root_of h) is) ∙ root' in cc) in
    let y = has_object h w o x same at in
    led w o y.0 x y.1 same at heavy (inl owes)

all_at : {X : Type 0} (P : X → Type 0) (xs : List X) (k : ℕ) (x : X) → All P xs → slice_get xs k ≡ Some x → P x
all_at P [] k x all at = absurd (let never : None ≡ Some x = at in cc)
all_at P (y ∷ ys) zero x all at = subst P (let both : Some y ≡ Some x = at in (let same : y ≡ x = cc in same)) (All-head P y ys all)
all_at P (y ∷ ys) (suc k) x all at = all_at P ys k x (All-tail P y ys all) at

module _ (p : Program) (ac : Accept p) (h : HeapContents) (links : HasEarlierLinks h) (led : LinksLead p h) (m : MethodId) (l : Locals) (a : Action) (named runs : MethodId) (answers : IsAnsweredBy p named runs) (d : Conduct) (i : ℕ)
    (small : IsSmallAction p a) (held : PlaceSet) (o : ℕ) (stays : is_anew p l a (method_at p named) (method_at p runs) d h o ≡ false) (hold : HoldIt p h m l o held) (x y : Object) (before : object_at h o ≡ Some x) (heavy : is_heavy_class p x.class ≡ true) (owes : may_owe x ≡ true)
    (now : object_at (library_heap p l a (method_at p named) (method_at p runs) d i h) o ≡ Some y) (b : BodyId) where
  -- a name that the method promises by whose signature the library answers
  position_called : (j : ℕ) (q : Promise) → slice_get (promises_by (method_at p runs) d) j ≡ Some q → (n : ℕ) → set.contains q.names n ≡ true
      → (k : ℕ) → q.target ≡ promised.At k → holds_operand a held k ≡ true → set.contains y.called n ≡ true
  position_called j q at n has k is holds =
      let method = promise_of (method_at p runs) d j q at in
      let root' = operand_of_fact p h m l a o k held small (operand_has_position p a held k small holds) hold holds in
      any_promised_names_are_called-position p l a (method_at p named) (method_at p runs) d i h j q k n o x y links (small_interest p ac named) stays at is has
      (promised_name_is_small p ac runs method.0 q n method.1 method.2 has) root' before (λ w operand. led_value p h led (operand_of l a k) w o x operand root' before heavy owes) now

  -- a fact that tracks an object has no field
  no_field : (f : FieldId) → holds_target p b a held (promised.OfField f) ≡ true → ⊥
  no_field f holds = true≢false (sym holds ∙ no_target p ac b a held (promised.OfField f) (λ z room one. (hold z room one).0) tt)

  target_called : (j : ℕ) (q : Promise) → slice_get (promises_by (method_at p runs) d) j ≡ Some q → (n : ℕ) → set.contains q.names n ≡ true
      → (t : Target) → q.target ≡ t → holds_target p b a held t ≡ true → set.contains y.called n ≡ true
  target_called j q at n has (promised.At k) is holds = position_called j q at n has k is holds
  target_called j q at n has (promised.OfField f) is holds = absurd (no_field f holds)

  -- the named method runs itself
  conduct_kept : AreKept p b a held y.called (promises_by (method_at p runs) d)
  conduct_kept = all_kept p b a held y.called (promises_by (method_at p runs) d) (λ j q at holds. within_from q.names y.called (λ n has. target_called j q at n has q.target refl holds))

  -- another runs for it
  answered_kept : LibraryRunsFor p named runs → AreKept p b a held y.called (promises_by (method_at p named) d)
  answered_kept other = all_kept p b a held y.called (promises_by (method_at p named) d) (λ j q at holds.
      one q.target q.names (all_at (λ (u : Promise). IsKeptBy (promises_by (method_at p runs) d) u.target u.names) (promises_by (method_at p named) d) j q (promises_answered p named runs other d) at) holds)
    where
      one : (t : Target) (names : Names) → IsKeptBy (promises_by (method_at p runs) d) t names → holds_target p b a held t ≡ true → set.is_subset names y.called ≡ true
      one (promised.OfField f) names kept holds = absurd kept
      one (promised.At k) names kept holds = within_from names y.called (λ n has.
          let mine = name_from_all (λ (w : Promise). when (is_at w.target k) w.names) (promises_by (method_at p runs) d) n (within_at names (promised_names (λ w. is_at w k) (promises_by (method_at p runs) d)) kept n has) in
          let parts = name_where (is_at mine.0.target k) mine.0.names n mine.3 in
          position_called mine.1 mine.0 mine.2 n parts.1 k (at_position mine.0.target k parts.0) holds)

  all_promised : IsAnsweredBy p named runs → AreKept p b a held y.called (promises_by (method_at p named) d)
  all_promised (inl same) = subst (λ (z : MethodId). AreKept p b a held y.called (promises_by (method_at p z) d)) same conduct_kept
  all_promised (inr other) = answered_kept other

  pub library_promises_kept : (e : Edge) → callee p a ≡ method_at p named → ((c : ClassId) → d ≡ conducts.Throws c → (k : ClassId) × (e ≡ edges.Throws k))
      → (((c : ClassId) → d ≡ conducts.Throws c → ⊥) → e ≡ edges.Go) → AreKept p b a held y.called (promises_at p a e)
  library_promises_kept e same thrown normal = elim (edge_promises p a e (method_at p named) d same thrown normal) [
    | inl none ↦ subst (λ (qs : List Promise). AreKept p b a held y.called qs) (sym none) tt
    | inr all ↦ subst (λ (qs : List Promise). AreKept p b a held y.called qs) (sym all) (all_promised answers)
  ]
