-- What each step makes of ways up: objects stay as they were, and what is made, or finished, no field owns, nor a frame below.
use Rattle.std.proofs.Common.{◌≡◌, ◌⊎◌, inl, inr, ℕ, ◌≤◌, Bool, true, false, true≢false, Option, None, Some, List, [], ◌∷◌, ltb-true, refl, sym, ap, ◌∙◌, subst, arith, if◌then◌else◌}
use Rattle.std.specs.Prelude.{nat_eq, nat_lt}
use Rattle.program_model.specs.declared.kinds.ClassId.{ClassId}
use Rattle.program_model.specs.declared.kinds.FieldId.{FieldId}
use Rattle.program_model.specs.declared.program.Method.{Method}
use Rattle.program_model.specs.declared.program.Program.{Program}
use Rattle.program_model.specs.Lookups.{field_at}
use Rattle.control_actions.specs.declared.action.Action.{Action}
use Rattle.control_actions.specs.declared.action.Action.TheVariants as actions
use Rattle.stub_conduct.specs.declared.choice.Conduct.{Conduct}
use Rattle.stub_conduct.specs.declared.choice.Conduct.TheVariants as conducts
use Rattle.ledger_obligations.specs.MustCallSets.{is_heavy_class}
use Rattle.ledger_state.specs.Contents.{HeapContents}
use Rattle.ledger_state.specs.Heaps.{next_number, object_at, unfinished}
use Rattle.ledger_obligations.specs.Obligations.{given_up, type_of_field}
use Rattle.ledger_state.specs.declared.entry.Owner.{Owner}
use Rattle.ledger_state.specs.declared.entry.Owner.TheVariants as owners
use Rattle.ledger_state.specs.declared.locals.Locals.{Locals}
use Rattle.ledger_state.specs.declared.object.Link.{Link}
use Rattle.ledger_state.specs.declared.object.Object.{Object}
use Rattle.ledger_state.specs.Values.{number_of}
use Rattle.ledger_state.specs.declared.value.Value.{Value}
use Rattle.ledger_state.specs.declared.value.Value.TheVariants as values
use Rattle.ledger_steps.specs.Ends.{frame_gone, returned_called, returned_heap, returned_roots}
use Rattle.ledger_steps.specs.CallSteps.{began_heap, library_heap, object_of_new}
use Rattle.ledger_steps.specs.Conducts.{owning_in, result_owner}
use Rattle.ledger_steps.specs.InnerSteps.{thrown_heap}
use Rattle.ledger_steps.specs.LedgerCallsCalls.{alias_position, alias_target, operand_of, params_in, position_object, position_of, reset_position}
use Rattle.value_laws.specs.Chains.{HaveEnds, IsLast}
use Rattle.value_laws.specs.Configuration.{Frame}
use Rattle.value_laws.specs.FieldContents.{RunOnOthers, is_new}
use Rattle.value_laws.specs.HeapAnew.{is_field_owner}
use Rattle.value_laws.specs.Heaps.{HasEarlierLinks}
use Rattle.value_laws.specs.Holders.{HoldersAreUnlinked, UnfinishedAreUnowned}
use Rattle.value_laws.specs.LibraryCalls.{IsAliasMadeAs, IsAliasOf, IsMadeAs}
use Rattle.value_laws.specs.PlaceFacts.{is_frame_below}
use Rattle.value_laws.specs.ProgramCalls.{IsLinkedTo}
use Rattle.value_laws.specs.Stores.{IsStored}
use Rattle.value_laws.proofs.Begun.{begun_from}
use Rattle.value_laws.proofs.Chains.{IsOwnedAs, ends_on, object_there}
use Rattle.value_laws.proofs.HeapLaws.{appended_object_at-object, moved_arguments_are_given, moved_arguments_are_older-older, numbers_are_in_range}
use Rattle.value_laws.proofs.LibraryCallLaws.{exceptions_are_the_librarys, library_aliases_are_older_or_made, library_objects_are_older_or_made, any_unfinished_objects_stay_unowned, unfinished_objects_stay_unowned-exception}
use Rattle.value_laws.proofs.Returned.{end_back, finished_by, gone_back, gone_unowned, result_back}
use Rattle.value_laws.proofs.EndResets.{renewed_at_end}
use Rattle.value_laws.proofs.ObjectLaws.{goes_on_further}
use Rattle.value_laws.proofs.Renewed.{says_nothing, without_reset}
use Rattle.value_laws.proofs.ResetHeaps.{reset_was}
use Rattle.value_laws.proofs.RootLaws.{one_object}
use Rattle.covering_laws.specs.TextUpdates.{IsLeftByText}
use Rattle.covering_laws.proofs.EndOwners.{number_value, same_new}
use Rattle.covering_laws.proofs.Owners.{WaysGo}
use Rattle.covering_laws.proofs.Waiting.{Carries, KeepsUnfinished}

-- no field owns it, nor a frame below this position
abbrev pub IsFreeBelow : ℕ → Owner → Type 0
IsFreeBelow j a = (is_field_owner a ≡ false) × ((n : ℕ) → n ≤ j → is_frame_below n a ≡ false)

-- so it is with what the frame at this position owns
frame_is_free : (j : ℕ) → IsFreeBelow j (owners.Frame j)
frame_is_free j = (refl, λ n under. go n under (nat_lt j n) refl)
  where
    go : (n : ℕ) → n ≤ j → (b : Bool) → nat_lt j n ≡ b → nat_lt j n ≡ false
    go n under true is = absurd (let less = ltb-true j n is in omega (arith, under, less))
    go n under false is = is

-- what is finished after a step was so before it, or is such an object
abbrev pub BirthsAreFree : ℕ → HeapContents → HeapContents → Type 0
BirthsAreFree j h k = (o : ℕ) (y : Object) → object_at k o ≡ Some y → y.finished ≡ true → ((x : Object) × (object_at h o ≡ Some x) × (x.finished ≡ true)) ⊎ IsFreeBelow j y.owner

-- ---- by what a step carries

stable : (frs : List Frame) (w : ℕ) → ((RunOnOthers w frs → ⊥) → ⊥) → RunOnOthers w frs
stable [] w possible = tt
stable (fr ∷ frs) w possible = ((λ this. possible (λ others. others.0 this)), stable frs w (λ never. possible (λ others. never others.1)))

module _ (p : Program) (into : Option ℕ) (below : List Frame) (j : ℕ) (h k : HeapContents) (have : HaveEnds h) (unlinked : HoldersAreUnlinked (is_heavy_class p) h) (later : UnfinishedAreUnowned k) (count : next_number h ≤ next_number k)
    (carries : Carries h k) (births : BirthsAreFree j h k) (apart : ℕ → Type 0) (unfinished : KeepsUnfinished h k apart) (away : (o : ℕ) → apart o → RunOnOthers o below)
    (unready : (w : ℕ) → into ≡ Some w → (z : Object) × (object_at h w ≡ Some z) × (z.finished ≡ false)) where
  objects : (o : ℕ) (x : Object) → object_at h o ≡ Some x → (y : Object) × (object_at k o ≡ Some y) × (y.class ≡ x.class) × (x.finished ≡ true → (y.finished ≡ true) × (y.link ≡ x.link))
  objects o x at =
      let range = numbers_are_in_range h o x at in
      let above = range.0 in
      let under = range.1 in
      let y = object_there k o x above (omega (arith, under, count)) in
      let was = carries o y.0 y.1 under in
      let same = one_object was.0 x (object_at h o) was.1 at in (
        y.0,
        y.1,
        was.2 ∙ ap (λ (z : Object). z.class) same,
        λ done. (let goes = (was.3 (ap (λ (z : Object). z.finished) same ∙ done)).0 in (goes.finished ∙ ap (λ (z : Object). z.finished) same ∙ done, goes.link ∙ ap (λ (z : Object). z.link) same)),
      )

  -- what was not finished
  unmade : (o : ℕ) (x y : Object) → object_at h o ≡ Some x → object_at k o ≡ Some y → x.finished ≡ false
      → ((y.finished ≡ false) × (y.owner ≡ owners.Unowned)) ⊎ (RunOnOthers o below × (is_field_owner y.owner ≡ false) × ((n : ℕ) → n ≤ j → is_frame_below n y.owner ≡ false))
  unmade o x y before now open' = go y.finished refl
    where
      go : (b : Bool) → y.finished ≡ b → ((y.finished ≡ false) × (y.owner ≡ owners.Unowned)) ⊎ (RunOnOthers o below × (is_field_owner y.owner ≡ false) × ((n : ℕ) → n ≤ j → is_frame_below n y.owner ≡ false))
      go false still = inl (still, later o y now still)
      go true done = elim (births o y now done) [
        | inl was ↦ absurd (true≢false (sym was.2 ∙ ap (λ (z : Object). z.finished) (one_object was.0 x (object_at h o) was.1 before) ∙ open'))
        | inr free ↦ inr (stable below o (λ none. true≢false (sym done ∙ unfinished o x y (λ is. none (away o is)) before now open')), free.0, free.1)
      ]

  fresh : (o : ℕ) (y : Object) → object_at h o ≡ None → object_at k o ≡ Some y → (is_field_owner y.owner ≡ false) × ((n : ℕ) → n ≤ j → is_frame_below n y.owner ≡ false)
  fresh o y none now = go y.finished refl
    where
      go : (b : Bool) → y.finished ≡ b → (is_field_owner y.owner ≡ false) × ((n : ℕ) → n ≤ j → is_frame_below n y.owner ≡ false)
      go false open' = let nobody = later o y now open' in (ap is_field_owner nobody, λ n under. ap (is_frame_below n) nobody)
      go true done = elim (births o y now done) [ inl was ↦ absurd (let never : None ≡ Some was.0 = sym none ∙ was.1 in cc) | inr free ↦ free ]

  pub ways_by : WaysGo p into below j h k
  ways_by = record { have = have; unlinked = unlinked; objects = objects; unmade = unmade; fresh = fresh; unready = unready }

-- ---- nobody owns what is not finished: so it stays over each kind of step

-- each object after the step was there, and it is as it was, or what was owned is given up
kept_unowned : (h k : HeapContents) → UnfinishedAreUnowned h → ((o : ℕ) (y : Object) → object_at k o ≡ Some y → (x : Object) × (object_at h o ≡ Some x) × ((y ≡ x) ⊎ ((y ≡ given_up x) × (x.owner ≡ owners.Unowned → ⊥))))
    → UnfinishedAreUnowned k
kept_unowned h k before was o y now open' = by (was o y now)
  where
    by : (x : Object) × (object_at h o ≡ Some x) × ((y ≡ x) ⊎ ((y ≡ given_up x) × (x.owner ≡ owners.Unowned → ⊥))) → y.owner ≡ owners.Unowned
    by (x, at, inl same) = ap (λ (u : Object). u.owner) same ∙ before o x at (sym (ap (λ (u : Object). u.finished) same) ∙ open')
    by (x, at, inr gone) = absurd (gone.1 (before o x at (sym (ap (λ (u : Object). u.finished) gone.0) ∙ open')))

-- a call begins
pub start_unowned : (p : Program) (l : Locals) (a : Action) (named : Option Method) (i : ℕ) (h : HeapContents) → HasEarlierLinks h → UnfinishedAreUnowned h → UnfinishedAreUnowned (began_heap p l a named i h)
start_unowned p l a named i h links before o y now open' =
    let old = moved_arguments_are_older-older p (owners.Frame i) (operand_of l a) 1 (params_in named) (object_of_new a named h) o y now in
    elim (moved_arguments_are_given p (owners.Frame i) (operand_of l a) 1 (params_in named) (object_of_new a named h) o old.before y old.at now) [
      | inl same ↦ same ∙ made a named o old.before old.at (sym old.goes_on.finished ∙ open')
      | inr given ↦ absurd (true≢false (sym (old.goes_on.finished ∙ finished_by p given.param.vtype old.before given.may) ∙ open'))
    ]
  where
    appended : (c : ClassId) (n : ℕ) (x : Object) (b : Bool) → nat_eq n (next_number h) ≡ b → (if b then Some (unfinished c) else object_at h n) ≡ Some x → x.finished ≡ false → x.owner ≡ owners.Unowned
    appended c n x true here same none = sym (ap (λ (z : Object). z.owner) (let one : unfinished c ≡ x = cc in one))
    appended c n x false here same none = before n x same none

    made : (b : Action) (k : Option Method) (n : ℕ) (x : Object) → object_at (object_of_new b k h) n ≡ Some x → x.finished ≡ false → x.owner ≡ owners.Unowned
    made actions.Skip k n x at none = before n x at none
    made (actions.New m d c) None n x at none = before n x at none
    made (actions.New m d c) (Some k) n x at none = appended k.class n x (nat_eq n (next_number h)) refl (sym (appended_object_at-object h k.class n) ∙ at) none
    made b k n x at none = before n x at none

-- an exception is thrown
pub thrown_unowned : (p : Program) (e : Option ClassId) (h : HeapContents) → UnfinishedAreUnowned h → UnfinishedAreUnowned (thrown_heap p e h)
thrown_unowned p e h before o y now open' = before o y (unfinished_objects_stay_unowned-exception p e h o y now open') open'

-- the library is called
pub library_unowned : (p : Program) (l : Locals) (a : Action) (named m : Option Method) (d : Conduct) (j : ℕ) (h : HeapContents) → UnfinishedAreUnowned h → UnfinishedAreUnowned (library_heap p l a named m d j h)
library_unowned p l a named m d j h before o y now open' = any_unfinished_objects_stay_unowned p l a named m d j h o y before now open'

-- a text is stored in an owning field
pub text_unowned : (p : Program) (h k : HeapContents) → ((o : ℕ) (y : Object) → object_at k o ≡ Some y → (x : Object) × (object_at h o ≡ Some x) × IsLeftByText p x y) → UnfinishedAreUnowned h → UnfinishedAreUnowned k
text_unowned p h k was before = kept_unowned h k before (λ o y now. by o y (was o y now))
  where
    by : (o : ℕ) (y : Object) → (x : Object) × (object_at h o ≡ Some x) × IsLeftByText p x y → (x : Object) × (object_at h o ≡ Some x) × ((y ≡ x) ⊎ ((y ≡ given_up x) × (x.owner ≡ owners.Unowned → ⊥)))
    by o y (x, at, inl same) = (x, at, inl same)
    by o y (x, at, inr gone) = (x, at, inr (gone.0, λ none. let never : owners.Unowned ≡ owners.Field gone.2.0 gone.2.1 = sym none ∙ gone.2.2 in cc))

-- a value is stored in an owning field
pub stored_unowned : (p : Program) (w : ℕ) (f : FieldId) (v : Value) (h k : HeapContents) → ((o : ℕ) (y : Object) → object_at k o ≡ Some y → (x : Object) × (object_at h o ≡ Some x) × IsStored p h w f v o x y)
    → UnfinishedAreUnowned h → UnfinishedAreUnowned k
stored_unowned p w f v h k was before o y now open' = by (was o y now)
  where
    by : (x : Object) × (object_at h o ≡ Some x) × IsStored p h w f v o x y → y.owner ≡ owners.Unowned
    by (x, at, inl same) = ap (λ (u : Object). u.owner) same ∙ before o x at (sym (ap (λ (u : Object). u.finished) same) ∙ open')
    by (x, at, inr (inl gone)) =
        absurd (let never : owners.Unowned ≡ owners.Field w f = sym (before o x at (sym (ap (λ (u : Object). u.finished) gone.1) ∙ open')) ∙ gone.0.owner in cc)
    by (x, at, inr (inr moved)) = absurd (true≢false (sym (finished_by p (type_of_field (field_at p f)) x moved.0.may) ∙ sym (ap (λ (u : Object). u.finished) moved.1) ∙ open'))

-- ---- ways up end

last_by : (a : Owner) → is_field_owner a ≡ false → IsLast a
last_by (owners.Field w f) none = absurd (true≢false none)
last_by (owners.Frame i) none = tt
last_by owners.Library none = tt
last_by owners.Released none = tt
last_by owners.Lost none = tt
last_by owners.Unowned none = tt

-- What was finished has the owner that it had, or no field owns it; what is made, or finished, no field owns, and nobody owns what is not finished: so each way up ends after the step.
pub ends_by : (j : ℕ) (h k : HeapContents) → HaveEnds h → next_number h ≤ next_number k → BirthsAreFree j h k → UnfinishedAreUnowned k
    → ((o : ℕ) (x y : Object) → object_at h o ≡ Some x → object_at k o ≡ Some y → x.finished ≡ true → (y.owner ≡ x.owner) ⊎ (is_field_owner y.owner ≡ false)) → HaveEnds k
ends_by j h k have count births nobody goes = ends_on h k have count (λ o y now. by_state o y now y.finished refl)
  where
    by_state : (o : ℕ) (y : Object) → object_at k o ≡ Some y → (b : Bool) → y.finished ≡ b → IsOwnedAs h k o y
    by_state o y now false open' = let none = nobody o y now open' in inl (subst IsLast (sym none) tt, inr none)
    by_state o y now true done = elim (births o y now done) [
      | inl was ↦ elim (goes o was.0 y was.1 now was.2) [ inl same ↦ inr (inl (was.0, was.1, (same, done ∙ sym was.2))) | inr free ↦ inl (last_by y.owner free, inl done) ]
      | inr free ↦ inl (last_by y.owner free.0, inl done)
    ]

-- ---- what each step makes

pub start_births : (p : Program) (l : Locals) (a : Action) (named : Option Method) (i j : ℕ) (h : HeapContents) → HasEarlierLinks h → BirthsAreFree j h (began_heap p l a named i h)
start_births p l a named i j h links o y now done = elim (begun_from p l a named i h links o y now) [
  | inl new ↦ absurd (true≢false (sym done ∙ new.unfinished))
  | inr old ↦ inl (old.before, old.at, sym old.goes_on.finished ∙ done)
]

pub thrown_births : (p : Program) (e : Option ClassId) (j : ℕ) (h : HeapContents) → BirthsAreFree j h (thrown_heap p e h)
thrown_births p e j h o y now done = elim (exceptions_are_the_librarys p e h o y now) [
  | inl old ↦ inl (y, old, done)
  | inr new ↦ inr (ap is_field_owner new.1, λ n under. ap (is_frame_below n) new.1)
]

library_is_free : (j : ℕ) → IsFreeBelow j owners.Library
library_is_free j = (refl, λ n under. refl)

-- a call of the library, where the caller is at this position
module _ (p : Program) (l : Locals) (a : Action) (named m : Option Method) (d : Conduct) (j : ℕ) (h : HeapContents) (none : reset_position named ≡ None) where
  made_free : (y : Object) (c : Conduct) → IsMadeAs p a m j c y → IsFreeBelow j y.owner
  made_free y (conducts.Throws e) made = subst (IsFreeBelow j) (sym made.0) (library_is_free j)
  made_free y (conducts.Fresh e) made = subst (IsFreeBelow j) (sym made.2) (by_action a)
    where
      either : (b : Bool) → IsFreeBelow j (if b then owners.Frame j else owners.Library)
      either true = frame_is_free j
      either false = library_is_free j

      by_action : (b : Action) → IsFreeBelow j (result_owner b m j)
      by_action actions.Skip = either (owning_in m)
      by_action (actions.New k d' c') = frame_is_free j
      by_action (actions.Plain q x) = library_is_free j
      by_action b = either (owning_in m)
  made_free y conducts.Null made = absurd made
  made_free y (conducts.Existing k) made = absurd made
  made_free y conducts.Argument made = absurd made
  made_free y (conducts.Value z) made = absurd made
  made_free y conducts.Nothing made = absurd made

  alias_free : (y : Object) (k : ℕ) (c : Conduct) → IsAliasMadeAs l a k c y → IsFreeBelow j y.owner
  alias_free y k (conducts.Throws e) made = subst (IsFreeBelow j) (sym made.0) (library_is_free j)
  alias_free y k (conducts.Fresh e) made = of_target (position_object (position_of None l a) k) made.2
    where
      of_target : (t : Option ℕ) → IsAliasOf t y → IsFreeBelow j y.owner
      of_target None is = subst (IsFreeBelow j) (sym is.1) (library_is_free j)
      of_target (Some w) is = subst (IsFreeBelow j) (sym is.0) (refl, λ n under. refl)
  alias_free y k conducts.Null made = absurd made
  alias_free y k (conducts.Existing i) made = absurd made
  alias_free y k conducts.Argument made = absurd made
  alias_free y k (conducts.Value z) made = absurd made
  alias_free y k conducts.Nothing made = absurd made

  pub library_births : BirthsAreFree j h (library_heap p l a named m d j h)
  library_births o y now done = by (alias_position m) refl
    where
      by : (k : Option ℕ) → alias_position m ≡ k → ((x : Object) × (object_at h o ≡ Some x) × (x.finished ≡ true)) ⊎ IsFreeBelow j y.owner
      by None plain = elim (library_objects_are_older_or_made p l a named m d j h o y none plain now) [ inl old ↦ inl (old.before, old.at, sym old.goes_on.finished ∙ done) | inr new ↦ inr (made_free y d new.1) ]
      by (Some k) alias = elim (library_aliases_are_older_or_made p l a named m d j h o k y none alias now) [ inl old ↦ inl (old.before, old.at, sym old.goes_on.finished ∙ done) | inr new ↦ inr (alias_free y k d new.1) ]

-- ---- the end of a call

-- where the caller is at this position
module _ (p : Program) (at : ℕ) (self : Value) (l : Locals) (a : Action) (runs named : Option Method) (v : Value) (e : Option ClassId) (h : HeapContents) (no_reset : reset_position named ≡ None) (have : HaveEnds h)
    (making : (w : ℕ) (x : Object) → is_new a ≡ true → self ≡ values.Object w → object_at h w ≡ Some x → x.finished ≡ false) where
  abbrev heap_gone : HeapContents
  heap_gone = frame_gone p at self runs v e h

  -- an object when the frame has gone was there
  before_gone : (o : ℕ) (z : Object) → object_at heap_gone o ≡ Some z → (x : Object) × (object_at h o ≡ Some x) × (z.finished ≡ x.finished)
  before_gone o z there =
      let w = gone_back p at self runs v e h o z there in
      let old = result_back p at runs v h e o w.0 w.1 in
      (old.before, old.at, w.2.finished ∙ old.goes_on.finished)

  -- the object that a `new` made is nobody's till then
  unowned_gone : (o : ℕ) (z : Object) → is_new a ≡ true → number_of self ≡ Some o → object_at heap_gone o ≡ Some z → z.owner ≡ owners.Unowned
  unowned_gone o z new is there =
      let x = before_gone o z there in
      let open' = making o x.0 new (number_value self o is) x.1 in
      (gone_unowned p at self runs v e h o x.0 z x.1 open' (have.unfinished o x.0 x.1 open') there).1

  linked_free : (target : Option ℕ) (z y : Object) → z.owner ≡ owners.Unowned → IsLinkedTo p target z y → IsFreeBelow at y.owner
  linked_free None z y nobody linked = subst (IsFreeBelow at) (sym linked.1) (library_is_free at)
  linked_free (Some w) z y nobody linked = subst (IsFreeBelow at) (sym (linked.1 ∙ nobody)) (refl, λ n under. refl)

  pub end_births : BirthsAreFree at h (returned_heap p at self l a runs named v e h)
  end_births o y now done = elim (end_back p at self l a named heap_gone no_reset e o y now) [
    | inl made ↦ inr (subst (IsFreeBelow at) (sym made.2.owner) (frame_is_free at))
    | inr other ↦ elim other [
      | inl alias ↦ inr (linked_free (alias_target (operand_of l a) named) alias.0 y (unowned_gone o alias.0 (same_new a alias.2.new) alias.2.self alias.1) alias.2.linked)
      | inr noted ↦ (let x = before_gone o noted.0 noted.1 in inl (x.0, x.1, sym x.2 ∙ ap (λ (u : Object). u.finished) noted.2 ∙ done))
    ]
  ]

  -- nobody owns what is not finished when the call has ended
  pub end_unowned : UnfinishedAreUnowned (returned_heap p at self l a runs named v e h)
  end_unowned o y now open' = elim (end_back p at self l a named heap_gone no_reset e o y now) [
    | inl made ↦ absurd (true≢false (sym made.2.finished ∙ open'))
    | inr other ↦ elim other [
      | inl alias ↦ absurd (true≢false (sym alias.2.finished ∙ open'))
      | inr noted ↦ (
          let x = before_gone o noted.0 noted.1 in
          let open'' : noted.0.finished ≡ false = ap (λ (u : Object). u.finished) noted.2 ∙ open' in
          let unmade : x.0.finished ≡ false = sym x.2 ∙ open'' in
          sym (ap (λ (u : Object). u.owner) noted.2) ∙ (gone_unowned p at self runs v e h o x.0 noted.0 x.1 unmade (have.unfinished o x.0 x.1 unmade) noted.1).1)
    ]
  ]

-- so it is where the call creates an obligation anew, too
module _ (p : Program) (at : ℕ) (self : Value) (l : Locals) (a : Action) (runs named : Option Method) (v : Value) (e : Option ClassId) (h : HeapContents) (have : HaveEnds h) (links : HasEarlierLinks h)
    (making : (w : ℕ) (x : Object) → is_new a ≡ true → self ≡ values.Object w → object_at h w ≡ Some x → x.finished ≡ false) where
  abbrev left_by_frame : HeapContents
  left_by_frame = frame_gone p at self runs v e h

  unlinked : (w : ℕ) (x : Object) → object_at h w ≡ Some x → x.finished ≡ false → x.link ≡ None
  unlinked w x there open' = go x.link refl
    where
      go : (k : Option Link) → x.link ≡ k → x.link ≡ None
      go None none = none
      go (Some k) some = absurd (true≢false (sym (links w x k there some).finished ∙ open'))

  made_free_then : (w : ℕ) (x : Object) → is_new a ≡ true → number_of self ≡ Some w → object_at left_by_frame w ≡ Some x → (x.finished ≡ false) × (x.link ≡ None)
  made_free_then w x new is now =
      let y = gone_back p at self runs v e h w x now in
      let old = result_back p at runs v h e w y.0 y.1 in
      let goes = goes_on_further old.before y.0 x old.goes_on y.2 in
      let open' = making w old.before new (number_value self w is) old.at in
      (goes.finished ∙ open', goes.link ∙ unlinked w old.before old.at open')

  pub returned_unowned : UnfinishedAreUnowned (returned_heap p at self l a runs named v e h)
  returned_unowned o y now open' =
      let z = reset_was p (returned_called p l a named left_by_frame) (returned_roots p l a named left_by_frame) (returned_heap p at self l a runs (without_reset named) v e h) (returned_heap p at self l a runs named v e h)
      (renewed_at_end p at self l a named e left_by_frame made_free_then) o y now in
      z.5 ∙ end_unowned p at self l a runs (without_reset named) v e h (says_nothing named) have making o z.0 z.1 (sym z.4 ∙ open')
