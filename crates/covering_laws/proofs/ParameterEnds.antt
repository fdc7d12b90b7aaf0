-- As a frame ends, what its method promises was called on what the places of a fact hold: on a parameter or on `this`, where callers lend it, and
-- on owning fields.
use Rattle.std.specs.Prelude.{if◌then◌else◌, ◌&&◌}
use Rattle.std.proofs.Common.{◌≡◌, ℕ, zero, suc, Bool, true, false, true≢false, Some, None, List, [], ◌∷◌, slice_get, refl, sym, ap, ◌∙◌, subst, inl, inr}
use Rattle.std.specs.FinSet as set
use Rattle.rlc_base.proofs.SetLaws.{within_self, within_trans, within_union_left, within_union_right}
use Rattle.program_model.specs.declared.kinds.BodyId.{BodyId}
use Rattle.program_model.specs.declared.kinds.FieldId.{FieldId}
use Rattle.program_model.specs.declared.kinds.Target.TheVariants as promised
use Rattle.program_model.specs.declared.program.Program.{Program}
use Rattle.program_model.specs.declared.program.Promise.{Promise}
use Rattle.ledger_obligations.specs.Bodies.{alias_position, method_of, promises_in, throwing_promises_in}
use Rattle.ledger_obligations.specs.MustCallSets.{Names, is_heavy_as}
use Rattle.ownership_rules.specs.Signatures.{is_present, when}
use Rattle.java_control.specs.Control.{Step}
use Rattle.control_actions.specs.declared.action.Action.{Action}
use Rattle.control_actions.specs.declared.action.Action.TheVariants as actions
use Rattle.control_actions.specs.declared.action.Completion.{Completion}
use Rattle.control_actions.specs.declared.action.Completion.TheVariants as completions
use Rattle.control_actions.specs.declared.fact.Fact.{Fact}
use Rattle.control_actions.specs.declared.fact.Mode.{Mode}
use Rattle.control_actions.specs.declared.fact.Mode.TheVariants as modes
use Rattle.control_actions.specs.declared.fact.Origin.{Origin}
use Rattle.control_actions.specs.declared.fact.OriginKind.{OriginKind}
use Rattle.control_actions.specs.declared.fact.Rule.TheVariants as rules
use Rattle.control_actions.specs.declared.place.Place.TheVariants as places
use Rattle.ownership_rules.specs.Facts.{PlaceSet, has, is_alias, is_origin_at}
use Rattle.value_laws.specs.CalledRows.{holds_field}
use Rattle.value_laws.specs.Promises.{is_of_held_field, is_of_origin, promised_by_end, promised_on_both, promised_on_fields, promised_on_position}
use Rattle.ownership_rules.specs.Heavy.{is_owned}
use Rattle.ownership_rules.specs.MovesAtReturns.{heavy_result, kept_alias, moved_at_return, owned_result, owning_result_in, result_type}
use Rattle.ownership_rules.specs.declared.moved.Moved.TheVariants as moves
use Rattle.value_laws.specs.Ends.{is_throw}
use Rattle.value_laws.specs.Flow.{flow}
use Rattle.value_laws.specs.Paths.{Reach, move_of, relation_of}
use Rattle.value_laws.specs.Accept.{Accept}
use Rattle.ledger_state.specs.Contents.{HeapContents}
use Rattle.ledger_state.specs.declared.object.Object.{Object}
use Rattle.value_laws.specs.Configuration.{Frame}
use Rattle.value_laws.specs.Choosing.{body_id, frame_steps}
use Rattle.value_laws.specs.Agreement.{Stands}
use Rattle.value_laws.specs.Outcomes.{IsFault}
use Rattle.value_laws.proofs.Ending as at_ends
use Rattle.value_laws.specs.PlaceFacts.{Covers, is_owning_fact}
use Rattle.covering_laws.proofs.Following.{breaks_nothing, same_body, step_there}

-- ---- what is not owned is no result, but an alias

alias_mode : (m : Mode) → (if is_alias m then moves.Moves else moves.Bad rules.AliasKept) ≡ moves.Moves → m ≡ modes.Alias
alias_mode modes.Own is = absurd (let never : moves.Bad rules.AliasKept ≡ moves.Moves = is in cc)
alias_mode modes.None is = absurd (let never : moves.Bad rules.AliasKept ≡ moves.Moves = is in cc)
alias_mode modes.Held is = absurd (let never : moves.Bad rules.AliasKept ≡ moves.Moves = is in cc)
alias_mode modes.Lent is = absurd (let never : moves.Bad rules.AliasKept ≡ moves.Moves = is in cc)
alias_mode modes.Alias is = refl

module _ (p : Program) (b : BodyId) (o : Origin) (f : Fact) (none : is_owning_fact p o f ≡ false) where
  not_owned : is_owned p o f ≡ false
  not_owned = none

  heavy_moves : heavy_result p b o f ≡ moves.Moves → f.mode ≡ modes.Alias
  heavy_moves is = go (is_present (alias_position p b)) (owning_result_in (method_of p b)) is
    where
      go : (x y : Bool) → (if x then kept_alias f else (if y then owned_result p b o f else moves.Stays)) ≡ moves.Moves → f.mode ≡ modes.Alias
      go true y same = alias_mode f.mode same
      go false true same = absurd (let bad : moves.Bad rules.NotOwned ≡ moves.Moves = rw not_owned at same in cc)
      go false false same = absurd (let never : moves.Stays ≡ moves.Moves = same in cc)

  -- it moves as an alias alone
  pub unowned_moves : (c : Completion) → moved_at_return p b o (actions.End c) f ≡ moves.Moves → f.mode ≡ modes.Alias
  unowned_moves (completions.Break pos) is = absurd (let never : moves.Stays ≡ moves.Moves = is in cc)
  unowned_moves (completions.ReturnValue d pos) is = go (has f.places (places.Temp d) && is_heavy_as p o.class (result_type p b)) is
    where
      go : (x : Bool) → (if x then heavy_result p b o f else moves.Stays) ≡ moves.Moves → f.mode ≡ modes.Alias
      go true same = heavy_moves same
      go false same = absurd (let never : moves.Stays ≡ moves.Moves = same in cc)
  unowned_moves c is = absurd (let never : moves.Stays ≡ moves.Moves = is in cc)

-- ---- one promise among several

no_promise_at : (j : ℕ) (u : Promise) → slice_get [] j ≡ Some u → ⊥
no_promise_at zero u is = let never : None ≡ Some u = is in cc
no_promise_at (suc j) u is = let never : None ≡ Some u = is in cc

one_on_position : (kind : OriginKind) (k : ℕ) (xs : List Promise) (j : ℕ) (u : Promise) → slice_get xs j ≡ Some u → u.target ≡ promised.At k → is_origin_at kind (Some k) ≡ true
    → set.is_subset u.names (promised_on_position kind xs) ≡ true
one_on_position kind k [] j u at target own = absurd (no_promise_at j u at)
one_on_position kind k (x ∷ xs) zero u at target own =
    let same : x ≡ u = (let both : Some x ≡ Some u = at in (let one : x ≡ u = cc in one)) in
    let on : is_of_origin kind x.target ≡ true = ap (λ (v : Promise). is_of_origin kind v.target) same ∙ ap (is_of_origin kind) target ∙ own in
    subst (λ (v : Promise). set.is_subset v.names (promised_on_position kind (x ∷ xs)) ≡ true) same (rw on (within_union_left x.names (promised_on_position kind xs)))
one_on_position kind k (x ∷ xs) (suc j) u at target own =
    within_trans u.names (promised_on_position kind xs) (promised_on_position kind (x ∷ xs)) (one_on_position kind k xs j u at target own)
    (within_union_right (when (is_of_origin kind x.target) x.names) (promised_on_position kind xs))

one_on_field : (p : Program) (b : BodyId) (held : PlaceSet) (f : FieldId) (xs : List Promise) (j : ℕ) (u : Promise) → slice_get xs j ≡ Some u → u.target ≡ promised.OfField f → holds_field p b held f ≡ true
    → set.is_subset u.names (promised_on_fields p b held xs) ≡ true
one_on_field p b held f [] j u at target own = absurd (no_promise_at j u at)
one_on_field p b held f (x ∷ xs) zero u at target own =
    let same : x ≡ u = (let both : Some x ≡ Some u = at in (let one : x ≡ u = cc in one)) in
    let on : is_of_held_field p b held x.target ≡ true = ap (λ (v : Promise). is_of_held_field p b held v.target) same ∙ ap (is_of_held_field p b held) target ∙ own in
    subst (λ (v : Promise). set.is_subset v.names (promised_on_fields p b held (x ∷ xs)) ≡ true) same (rw on (within_union_left x.names (promised_on_fields p b held xs)))
one_on_field p b held f (x ∷ xs) (suc j) u at target own =
    within_trans u.names (promised_on_fields p b held xs) (promised_on_fields p b held (x ∷ xs)) (one_on_field p b held f xs j u at target own)
    (within_union_right (when (is_of_held_field p b held x.target) x.names) (promised_on_fields p b held xs))

-- ---- what the end asks for

-- the end of the body by this completion asks for all of these promises
abbrev pub AsksFor : Program → BodyId → Completion → List Promise → Type 0
AsksFor p b c xs = (kind : OriginKind) (held : PlaceSet) → set.is_subset (promised_on_both p b kind held xs) (promised_by_end p b kind held c) ≡ true

pub return_asks : (p : Program) (b : BodyId) (c : Completion) → is_throw c ≡ false → AsksFor p b c (promises_in (method_of p b))
return_asks p b (completions.Return pos) normal kind held = within_self (promised_on_both p b kind held (promises_in (method_of p b)))
return_asks p b (completions.ReturnValue d pos) normal kind held = within_self (promised_on_both p b kind held (promises_in (method_of p b)))
return_asks p b (completions.Throw d t pos) normal kind held = absurd (true≢false normal)
return_asks p b (completions.Break pos) normal kind held = within_self (promised_on_both p b kind held (promises_in (method_of p b)))
return_asks p b (completions.Continue pos) normal kind held = within_self (promised_on_both p b kind held (promises_in (method_of p b)))

pub throw_asks : (p : Program) (b : BodyId) (c : Completion) → is_throw c ≡ true → AsksFor p b c (throwing_promises_in (method_of p b))
throw_asks p b (completions.Return pos) throws kind held = absurd (true≢false (sym throws))
throw_asks p b (completions.ReturnValue d pos) throws kind held = absurd (true≢false (sym throws))
throw_asks p b (completions.Throw d t pos) throws kind held = within_union_left (promised_on_both p b kind held (throwing_promises_in (method_of p b))) _
throw_asks p b (completions.Break pos) throws kind held = absurd (true≢false (sym throws))
throw_asks p b (completions.Continue pos) throws kind held = absurd (true≢false (sym throws))

-- ---- the end of a frame

module _ (p : Program) (ac : Accept p) (h : HeapContents) (fr : Frame) (st : Stands p fr) (i : ℕ) (s : Step) (q : Completion) (here : slice_get (frame_steps p fr) i ≡ Some s) (is : s.action ≡ actions.End q)
    (old : ℕ → Bool) (frs : List Frame) (o : ℕ) (x : Object) (c : Covers p h false false old frs fr o x) (alias : moved_at_return p st.number c.origin (actions.End q) c.fact ≡ moves.Moves → c.fact.mode ≡ modes.Alias) (names : Names) (known : set.is_subset c.fact.called names ≡ true)
    (xs : List Promise) (asks : AsksFor p st.number q xs) where
  reached : Reach p st.number (relation_of p st.number) c.origin fr.control c.fact
  reached = subst (λ (b : BodyId). Reach p b (relation_of p b) c.origin fr.control c.fact) (same_body c.body st.number (body_id p fr.method) c.id st.id) c.reached

  -- what the end asks for is among the names that hold all that the fact knows
  ended : set.is_subset (promised_by_end p st.number c.origin.kind c.fact.places q) names ≡ true
  ended = within_trans (promised_by_end p st.number c.origin.kind c.fact.places q) c.fact.called names
      (elim (at_ends.promises_kept p st.number c.origin q s.edge c.fact alias) [
        | inl fault ↦ absurd (breaks_nothing p ac st.number c.origin i (move_of s) c.fact reached (step_there p fr st i s here) (subst (λ (a : Action). IsFault (flow p st.number c.origin a s.edge c.fact)) (sym is) fault))
        | inr good ↦ good
      ]) known

  both : set.is_subset (promised_on_both p st.number c.origin.kind c.fact.places xs) names ≡ true
  both = within_trans (promised_on_both p st.number c.origin.kind c.fact.places xs) (promised_by_end p st.number c.origin.kind c.fact.places q) names (asks c.origin.kind c.fact.places) ended

  pub shown_on_position : (k j : ℕ) (u : Promise) → slice_get xs j ≡ Some u → u.target ≡ promised.At k → is_origin_at c.origin.kind (Some k) ≡ true → set.is_subset u.names names ≡ true
  shown_on_position k j u at target own =
      within_trans u.names (promised_on_position c.origin.kind xs) names (one_on_position c.origin.kind k xs j u at target own)
      (within_trans (promised_on_position c.origin.kind xs) (promised_on_both p st.number c.origin.kind c.fact.places xs) names
      (within_union_left (promised_on_position c.origin.kind xs) (promised_on_fields p st.number c.fact.places xs)) both)

  pub shown_on_field : (f : FieldId) (j : ℕ) (u : Promise) → slice_get xs j ≡ Some u → u.target ≡ promised.OfField f → holds_field p st.number c.fact.places f ≡ true → set.is_subset u.names names ≡ true
  shown_on_field f j u at target own =
      within_trans u.names (promised_on_fields p st.number c.fact.places xs) names (one_on_field p st.number c.fact.places f xs j u at target own)
      (within_trans (promised_on_fields p st.number c.fact.places xs) (promised_on_both p st.number c.origin.kind c.fact.places xs) names
      (within_union_right (promised_on_position c.origin.kind xs) (promised_on_fields p st.number c.fact.places xs)) both)
