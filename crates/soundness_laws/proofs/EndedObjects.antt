-- Objects when a frame has ended: what becomes of their owners.
use Rattle.std.proofs.Common.{if◌then◌else◌, ◌≡◌, ◌⊎◌, inl, inr, ℕ, ◌+◌, Bool, true, false, Option, Some, None, slice_get, refl, sym, ap, ◌∙◌, subst, true≢false, arith, eqb-true}
use Rattle.program_model.specs.declared.kinds.ClassId.{ClassId}
use Rattle.program_model.specs.declared.kinds.VType.{VType}
use Rattle.program_model.specs.declared.program.Method.{Method}
use Rattle.program_model.specs.declared.program.Program.{Program}
use Rattle.ledger_obligations.specs.Bodies.{constructs, reset_in}
use Rattle.ownership_rules.specs.Signatures.{is_present}
use Rattle.java_control.specs.Control.{Step}
use Rattle.control_actions.specs.declared.action.Action.{Action}
use Rattle.ownership_rules.specs.Callees as callees
use Rattle.ownership_rules.specs.Facts.{PlaceSet}
use Rattle.ownership_rules.specs.SmallActions.{IsSmallAction}
use Rattle.ownership_rules.specs.MovesAtReturns.{owning_result_in, result_in}
use Rattle.ledger_state.specs.Contents.{HeapContents}
use Rattle.ledger_state.specs.Heaps.{object_at}
use Rattle.ledger_state.specs.declared.entry.Owner.{Owner}
use Rattle.ledger_state.specs.declared.entry.Owner.TheVariants as owners
use Rattle.ledger_state.specs.declared.object.Object.{Object}
use Rattle.ledger_state.specs.Values.{number_of}
use Rattle.ledger_state.specs.declared.value.Value.{Value}
use Rattle.ledger_obligations.specs.Obligations.{end_holder, is_frame, is_held_by, is_library_owner, is_unmet, with_owner}
use Rattle.ledger_steps.specs.LedgerCallsCalls as calls
use Rattle.ledger_steps.specs.Conducts as conducts
use Rattle.content_laws.specs.Configuration.{Frame}
use Rattle.content_laws.specs.Choosing.{frame_steps}
use Rattle.ledger_steps.specs.Ends.{constructor_ended, frame_ended, frame_gone, result_moved}
use Rattle.content_laws.specs.Heaps.{GoesOn, IsKeptOr}
use Rattle.content_laws.proofs.ObjectLaws.{goes_on_further}
use Rattle.content_laws.specs.ProgramCalls.{IsFinished, IsOlderAtResult, IsReturned}
use Rattle.content_laws.proofs.Returned.{finished_by, result_back}
use Rattle.content_laws.specs.Chains.{HaveEnds, IsLast}
use Rattle.content_laws.specs.Agreement.{is_answering}
use Rattle.content_laws.specs.Anew.{holds_target, is_target}
use Rattle.content_laws.specs.Renewing.{is_renewed}
use Rattle.content_laws.proofs.CallNames.{operand_has_position, operand_of_fact}
use Rattle.content_laws.proofs.Carried.{HoldIt}
use Rattle.content_laws.proofs.Readings.{operand_renews}
use Rattle.content_laws.proofs.Renewed.{without_reset}
use Rattle.content_laws.proofs.RenewedOperands.{step_renews}
use Rattle.content_laws.proofs.Chains.{IsLastOwned, IsSame, given_up_last, kept_owner}
use Rattle.content_laws.proofs.EndLaws.{frame_back, holder_back, is_held}

pub owned_by_frame : (w : Owner) (j : ℕ) → is_frame w j ≡ true → w ≡ owners.Frame j
owned_by_frame (owners.Frame i) j is = ap owners.Frame (eqb-true i j is)
owned_by_frame (owners.Field v f) j is = absurd (true≢false (sym is))
owned_by_frame owners.Library j is = absurd (true≢false (sym is))
owned_by_frame owners.Released j is = absurd (true≢false (sym is))
owned_by_frame owners.Lost j is = absurd (true≢false (sym is))
owned_by_frame owners.Unowned j is = absurd (true≢false (sym is))

pub owning_same : (m : Option Method) → owning_result_in m ≡ true → conducts.owning_in m ≡ true
owning_same None is = is
owning_same (Some m) is = is

pub result_same : (m : Option Method) (t : VType) → result_in m ≡ Some t → conducts.result_in m ≡ Some t
result_same None t is = is
result_same (Some m) t is = is

pub not_next : (i : ℕ) → owners.Frame i ≡ owners.Frame (i + 1) → ⊥
not_next i same = let one : i ≡ i + 1 = cc in omega (arith, one)

pub none_present : (x : Option ℕ) → is_present x ≡ false → x ≡ None
none_present None is = refl
none_present (Some k) is = absurd (true≢false is)

pub plain_interest : (m : Option Method) → calls.interest_in (without_reset m) ≡ calls.interest_in m
plain_interest None = refl
plain_interest (Some m) = refl

pub answers_library : (w : Owner) → is_library_owner w ≡ true → is_answering w ≡ true
answers_library owners.Library is = refl
answers_library (owners.Frame j) is = refl
answers_library (owners.Field v f) is = refl
answers_library owners.Released is = absurd (true≢false (sym is))
answers_library owners.Lost is = absurd (true≢false (sym is))
answers_library owners.Unowned is = absurd (true≢false (sym is))

-- a call that has the target of a fact creates the obligation of its object anew
pub target_renews : (p : Program) (h : HeapContents) (fr : Frame) (i : ℕ) (s : Step) (o : ℕ) (held : PlaceSet) → slice_get (frame_steps p fr) i ≡ Some s → IsSmallAction p s.action → HoldIt p h fr.method fr.locals o held
    → is_target p s.action held ≡ true → is_renewed p h fr o ≡ true
target_renews p h fr i s o held here small hold is = go (reset_in (callees.callee p s.action)) refl is
  where
    go : (k : Option ℕ) → reset_in (callees.callee p s.action) ≡ k → holds_target s.action held k ≡ true → is_renewed p h fr o ≡ true
    go None none in' = absurd (true≢false (sym in'))
    go (Some k) some in' = step_renews p h fr i s o here
        (operand_renews p h fr.locals s.action o k some (operand_of_fact p h fr.method fr.locals s.action o k held small (operand_has_position p s.action held k small in') hold in'))

-- what a `new` has finished by a signature without its reset it has finished by this
pub finished_as : (p : Program) (i : ℕ) (self : Value) (a : Action) (e : Option ClassId) (n : ℕ) (x y : Object) (m : Option Method) → IsFinished p i self a (without_reset m) e n x y → IsFinished p i self a m e n x y
finished_as p i self a e n x y None it = it
finished_as p i self a e n x y (Some m) it = record {
  normal = it.normal;
  new = it.new;
  own = it.own;
  self = it.self;
  class = it.class;
  finished = it.finished;
  link = it.link;
  must = it.must;
  owner = it.owner;
  called = it.called;
}

-- an unmet object that no `new` has just finished: it was there before, when the result had moved and when the frame had gone, and the call was
-- noted on it
pub record IsKept (p : Program) (i : ℕ) (runs : Option Method) (v : Value) (e : Option ClassId) (h k g : HeapContents) (noted_as : ℕ → Object → Object) (n : ℕ) (y : Object) : Type 0 where
  pub before : Object
  pub there : object_at h n ≡ Some before
  pub goes_on : GoesOn before y
  pub between : Object
  pub present : object_at k n ≡ Some between
  pub remains : object_at g n ≡ Some between
  pub unmet : is_unmet between ≡ true
  pub owned : between.owner ≡ y.owner
  pub noted : noted_as n between ≡ y
  pub owner : (y.owner ≡ before.owner) ⊎ IsReturned p i runs v e h n before y

-- so it is with an unmet object that was there when the result had moved
pub kept_object : (p : Program) (i : ℕ) (runs : Option Method) (v : Value) (e : Option ClassId) (h k g : HeapContents) (noted_as : ℕ → Object → Object) (n : ℕ) (x y : Object) → object_at k n ≡ Some x → object_at g n ≡ Some x → GoesOn x y → is_unmet x ≡ true
    → noted_as n x ≡ y → x.owner ≡ y.owner → IsOlderAtResult p i runs v e h n x → IsKept p i runs v e h k g noted_as n y
kept_object p i runs v e h k g noted_as n x y there now goes unmet noted same old = record {
  before = old.before;
  there = old.at;
  goes_on = goes_on_further old.before x y old.goes_on goes;
  between = x;
  present = there;
  remains = now;
  unmet = unmet;
  owned = same;
  noted = noted;
  owner = elim old.owner [
    | inl kept ↦ inl (sym same ∙ kept)
    | inr given ↦ inr (record { normal = given.normal; owning = given.owning; own = given.own; type = given.type; result = given.result; root = given.root; may = given.may; owner = sym same ∙ given.owner })
  ];
}

-- ---- owners

-- an object with an owner and a state
pub last_as : (x y : Object) → y.owner ≡ x.owner → y.finished ≡ x.finished → IsLastOwned x → IsLastOwned y
last_as x y owner finished last = (
  subst IsLast (sym owner) last.0,
  elim last.1 [
    | inl done ↦ inl (finished ∙ done)
    | inr none' ↦ inr (owner ∙ none')
  ],
)

module _ (p : Program) (at : ℕ) (this : Value) (runs : Option Method) (v : Value) (e : Option ClassId) (h : HeapContents) (have : HaveEnds h) where
  abbrev moved : HeapContents
  moved = result_moved p at runs v e h

  -- what a frame or a field owns is finished
  held_finished : (n : ℕ) (x : Object) (test : Owner → Bool) → test owners.Unowned ≡ false → object_at moved n ≡ Some x → test x.owner ≡ true → x.finished ≡ true
  held_finished n x test none' now is' = go x.finished refl
    where
      go : (b : Bool) → x.finished ≡ b → b ≡ true
      go true made = refl
      go false unmade = absurd (true≢false (sym is' ∙ by (result_back p at runs v h e n x now)))
        where
          by : IsOlderAtResult p at runs v e h n x → test x.owner ≡ false
          by old = elim old.owner [
            | inl same ↦ ap test (same ∙ have.unfinished n old.before old.at (sym old.goes_on.finished ∙ unmade)) ∙ none'
            | inr given' ↦ absurd (true≢false (sym (finished_by p given'.type old.before given'.may) ∙ sym old.goes_on.finished ∙ unmade))
          ]

  frame_owner : (n : ℕ) (z : Object) → object_at (frame_ended p at runs v e h) n ≡ Some z → (x : Object) × (object_at moved n ≡ Some x) × (IsLastOwned z ⊎ IsSame x z)
  frame_owner n z now =
      let x = frame_back (at + 1) moved n z now in
      (x.0, x.1, kept_owner (is_frame x.0.owner (at + 1)) x.0 z (held_finished n x.0 (λ w. is_frame w (at + 1)) refl x.1) x.2)

  -- an object that the frame's end leaves has the owner that it had when the result had moved, or one that is no field
  thrown_owner : (n : ℕ) (y z : Object) (w : Option ℕ) → (x : Object) × (object_at moved n ≡ Some x) × (IsLastOwned z ⊎ IsSame x z) → IsKeptOr (is_held w z) z y
      → (x : Object) × (object_at moved n ≡ Some x) × (IsLastOwned y ⊎ IsSame x y)
  thrown_owner n y z w x (inl same) = (x.0, x.1, subst (λ (u : Object). IsLastOwned u ⊎ IsSame x.0 u) (sym same) x.2)
  thrown_owner n y z w x (inr gave) = (x.0, x.1, inl (subst (λ (u : Object). IsLast u.owner) (sym gave.1) (given_up_last z), inl (ap (λ (u : Object). u.finished) gave.1 ∙ made (is_held w z) gave.0 x.2)))
    where
      by_number : (o : Option ℕ) (u : Object) → u.owner ≡ owners.Unowned → is_held o u ≡ false
      by_number None u none' = refl
      by_number (Some c) u none' = ap (λ (q' : Owner). is_held_by q' c) none'

      as_held : (o : Option ℕ) (a b : Object) → a.owner ≡ b.owner → is_held o a ≡ is_held o b
      as_held None a b same = refl
      as_held (Some c) a b same = ap (λ (q' : Owner). is_held_by q' c) same

      unheld : (o : Option ℕ) (u : Object) → is_held o u ≡ true → u.owner ≡ owners.Unowned → ⊥
      unheld o u held none' = true≢false (sym held ∙ by_number o u none')

      made : (b : Bool) → is_held w z ≡ true → IsLastOwned z ⊎ IsSame x.0 z → z.finished ≡ true
      made b held (inl last) = elim last.1 [
        | inl done ↦ done
        | inr none' ↦ absurd (unheld w z held none')
      ]
      made b held (inr same) =
          same.1 ∙ held_finished n x.0 (λ o. is_held w (with_owner o x.0)) (by_number w (with_owner owners.Unowned x.0) refl) x.1 (as_held w (with_owner x.0.owner x.0) z (sym same.0) ∙ held)

  pub gone_owner : (n : ℕ) (y : Object) → object_at (frame_gone p at this runs v e h) n ≡ Some y → (x : Object) × (object_at moved n ≡ Some x) × (IsLastOwned y ⊎ IsSame x y)
  gone_owner n y now = by_thrown e now
    where
      by_thrown : (c : Option ClassId) → object_at (constructor_ended this runs c (frame_ended p at runs v e h)) n ≡ Some y → (x : Object) × (object_at moved n ≡ Some x) × (IsLastOwned y ⊎ IsSame x y)
      by_thrown None now' = frame_owner n y now'
      by_thrown (Some c) now' = go (constructs runs) now'
        where
          go : (b : Bool) → object_at (if b then end_holder (number_of this) (frame_ended p at runs v e h) else frame_ended p at runs v e h) n ≡ Some y
              → (x : Object) × (object_at moved n ≡ Some x) × (IsLastOwned y ⊎ IsSame x y)
          go true there' =
              let z = holder_back (number_of this) (frame_ended p at runs v e h) n y there' in
              thrown_owner n y z.0 (number_of this) (frame_owner n z.0 z.1) z.2
          go false there' = frame_owner n y there'
