-- The object whose obligation a call creates anew: the frame that calls owns it, or it is lent to the frame, or a field of what the frame's constructor makes owns it, or a field of
-- `this`, which is lent to the frame.
use Rattle.control_actions.specs.declared.fact.Origin.{Origin}
use Rattle.control_actions.specs.declared.fact.Fact.{Fact}
use Rattle.program_model.specs.declared.program.Method.{Method}
use Rattle.ownership_rules.specs.Signatures.{is_position, is_present}
use Rattle.covering_laws.proofs.AliasedResets.{aliased_resets_nothing}
use Rattle.covering_laws.proofs.HeavyFields.{alone_answers, claims_by, claims_owned, held_claims, own_claims, reopening_answers}
use Rattle.covering_laws.proofs.Owners.{lent_not_from}
use Rattle.std.proofs.Common.{Bool, List, Option, Some, ap, false, inl, inr, length, not, eqb-true, nat_eq, refl, slice_get, subst, sym, true, true≢false, ℕ, ◌&&◌, ◌+◌, ◌||◌, ◌∙◌, ◌≡◌, ◌⊎◌}
use Rattle.std.proofs.lemmas.Bool.{and_from, and_parts, or_left, or_parts}
use Rattle.program_model.specs.declared.kinds.BodyId.{BodyId}
use Rattle.program_model.specs.declared.program.Program.{Program}
use Rattle.program_model.specs.Lookups.{method_at}
use Rattle.ledger_obligations.specs.Bodies.{alias_in, constructs, is_alias_constructor, is_extended_constructor, is_extended_in, method_of, reset_in}
use Rattle.ledger_obligations.specs.MustCallSets.{is_heavy_class}
use Rattle.java_control.specs.Calls.{operand_at}
use Rattle.java_control.specs.Control.{Step}
use Rattle.java_control.specs.PlaceNumbers.{IsSmall}
use Rattle.control_actions.specs.declared.fact.Mode.TheVariants as modes
use Rattle.control_actions.specs.declared.place.Place.TheVariants as places
use Rattle.ownership_rules.specs.Callees.{callee, is_this_target}
use Rattle.ownership_rules.specs.Facts.{has, has_temp, is_held, is_lent, is_this_origin}
use Rattle.ownership_rules.specs.MovesAtCalls.{moved_at_call}
use Rattle.ownership_rules.specs.declared.moved.Moved.TheVariants as moves
use Rattle.ownership_rules.specs.SmallActions.{IsSmallTemp}
use Rattle.ownership_rules.proofs.SmallOperands.{operand_has_room}
use Rattle.ledger_state.specs.Contents.{HeapContents}
use Rattle.ledger_state.specs.Heaps.{object_at, root_of}
use Rattle.ledger_state.specs.Locals.{temp_value}
use Rattle.ledger_state.specs.declared.entry.Owner.{Owner}
use Rattle.ledger_state.specs.declared.entry.Owner.TheVariants as owners
use Rattle.ledger_state.specs.declared.object.Object.{Object}
use Rattle.ledger_steps.specs.LedgerCallsCalls.{operand_of}
use Rattle.value_laws.specs.Accept.{Accept}
use Rattle.value_laws.specs.Agreement.{Stands}
use Rattle.value_laws.specs.Chains.{HaveEnds}
use Rattle.value_laws.specs.Choosing.{body_id, frame_steps}
use Rattle.value_laws.specs.Configuration.{Frame}
use Rattle.value_laws.specs.Frames.{KeepsTargets}
use Rattle.value_laws.specs.Anew.{IsInHands, MayBeAnew, holds_target, is_target}
use Rattle.value_laws.specs.Outcomes.{IsCallRow}
use Rattle.value_laws.specs.Paths.{Reach, move_of, relation_of}
use Rattle.value_laws.specs.PlaceFacts.{Covers, IsCovered, IsKeyed, IsOwned, claims, gives_away, gives_none, OwesOrHolds, owned, renews_none, unowned}
use Rattle.value_laws.specs.Renewing.{HasInHand, HasOwningField, IsHeldBy, IsHeldByLent, IsLentFrom, IsMadeBy, IsWhole, answers_for_fields, is_renewed, makes_alone, renews, reopens}
use Rattle.value_laws.proofs.ResetTargets.{answered_targets}
use Rattle.value_laws.proofs.Resetting.{answered_target}
use Rattle.value_laws.proofs.Readings.{operand_renews, renewed_operand}
use Rattle.covering_laws.proofs.Bodies.{running_method}
use Rattle.covering_laws.proofs.Following.{breaks_nothing, method_here, same_body, small_step, step_there}
use Rattle.covering_laws.proofs.GivenArguments.{away_moves, away_owner}
use Rattle.covering_laws.proofs.GivenAway.{any_at}
use Rattle.covering_laws.proofs.OwnerSteps.{own_frame}
use Rattle.covering_laws.proofs.KnownNames.{operand_temp}
use Rattle.covering_laws.proofs.ThisOperands.{on_this}
use Rattle.covering_laws.specs.Sight.{MakesThis}

-- ---- the frame's steps

-- a frame waits for the creation of an obligation anew where its step of a call creates it
pub step_renews : (p : Program) (h : HeapContents) (fr : Frame) (i : ℕ) (s : Step) (o : ℕ) → slice_get (frame_steps p fr) i ≡ Some s → renews p h fr.locals s.action o ≡ true → is_renewed p h fr o ≡ true
step_renews p h fr i s o here does = any_at (λ (t : Step). renews p h fr.locals t.action o) (frame_steps p fr) i s here does

-- ---- its fact

-- a fact that may have the target claims the object, or says that it is lent
pub claims_or_lends : (p : Program) (fr : Frame) (st : Stands p fr) (o : Origin) (f : Fact) → IsInHands p st.number f.mode (is_heavy_class p o.class) → (claims p (method_at p fr.method) o f ≡ true) ⊎ (f.mode ≡ modes.Lent)
claims_or_lends p fr st o f (inl (own, heavy)) = inl (own_claims p (method_at p fr.method) o f own heavy)
claims_or_lends p fr st o f (inr (inl lent)) = inr lent
claims_or_lends p fr st o f (inr (inr (held, heavy, inr (other, resets)))) = inl (held_claims p (method_at p fr.method) o f (reopening_answers (method_at p fr.method) opens) held heavy)
  where
    opens : reopens (method_at p fr.method) ≡ true
    opens = and_from (not (constructs (method_at p fr.method))) (is_position (reset_in (method_at p fr.method)) 0) (ap not (sym (ap constructs (method_here p fr st)) ∙ other))
        (sym (ap (λ (m : Option Method). is_position (reset_in m) 0) (method_here p fr st)) ∙ resets)
claims_or_lends p fr st o f (inr (inr (held, heavy, inl (makes, single)))) = inl (held_claims p (method_at p fr.method) o f (alone_answers (method_at p fr.method) alone) held heavy)
  where
    new : constructs (method_at p fr.method) ≡ true
    new = sym (ap constructs (method_here p fr st)) ∙ makes

    no_alias : is_present (alias_in (method_at p fr.method)) ≡ false
    no_alias = sym (ap (λ (m : Option Method). constructs m && is_present (alias_in m)) (method_here p fr st) ∙ ap (λ (b : Bool). b && is_present (alias_in (method_at p fr.method))) new) ∙ single

    alone : makes_alone (method_at p fr.method) ≡ true
    alone = and_from (constructs (method_at p fr.method)) (not (is_present (alias_in (method_at p fr.method)))) new (ap not no_alias)

-- the frame makes it, and nobody owns it
abbrev pub IsMadeHere : Program → Frame → ℕ → Owner → Type 0
IsMadeHere p fr o owner = IsMadeBy p fr o × (owner ≡ owners.Unowned)

-- it is lent, or a field of what the frame's constructor makes owns it, or a field of `this`, which is lent, or the frame makes it
abbrev pub IsHeldOrLent : Program → HeapContents → List Frame → Frame → ℕ → Owner → Type 0
IsHeldOrLent p h frs fr o owner = IsLentFrom p h frs o owner ⊎ (IsHeldBy p fr owner ⊎ (IsHeldByLent p h (IsLentFrom p h frs) fr owner ⊎ IsMadeHere p fr o owner))

-- so it is with what the frame creates the obligation of anew, and a fact in mode Held claims
abbrev pub HoldsLent : (p : Program) → HeapContents → (ℕ → Bool) → List Frame → (fr : Frame) → Stands p fr → Type 0
HoldsLent p h old frs fr st = (o : ℕ) (x : Object) → object_at h o ≡ Some x → is_heavy_class p x.class ≡ true → OwesOrHolds p h o x → IsWhole p x → is_renewed p h fr o ≡ true
    → (away anew : Bool) (c : Covers p h away anew old frs fr o x) → is_held c.fact.mode ≡ true → answers_for_fields (method_at p fr.method) ≡ true → is_heavy_class p c.origin.class ≡ true → IsHeldOrLent p h frs fr o x.owner

-- ---- a fact that says that the target is lent

module _ (p : Program) (ac : Accept p) (h : HeapContents) (have : HaveEnds h) (fr : Frame) (st : Stands p fr) (targets : KeepsTargets p fr) (making : MakesThis p h fr) (old : ℕ → Bool) (frs : List Frame) (i : ℕ) (s : Step)
    (here : slice_get (frame_steps p fr) i ≡ Some s) (away anew : Bool) (o : ℕ) (x : Object) (at : object_at h o ≡ Some x) (c : Covers p h away anew old frs fr o x) (mode : c.fact.mode ≡ modes.Lent) (k : ℕ)
    (root : root_of h (operand_of fr.locals s.action k) ≡ Some o) (may : MayBeAnew p st.number c.origin s.action k c.fact) where
  this_made : constructs (method_at p fr.method) ≡ true → is_this_origin c.origin.kind ≡ true → HasOwningField p x.class → IsMadeBy p fr o
  this_made makes this fields = (making alone whole o x root_this at fields).0
    where
      shown : (nat_eq k 0 && is_this_target s.action) ≡ true
      shown = go (nat_eq k 0 && is_this_target s.action) refl
        where
          go : (b : Bool) → (nat_eq k 0 && is_this_target s.action) ≡ b → b ≡ true
          go true is = refl
          go false is = absurd (true≢false (sym (and_from (is_this_origin c.origin.kind) (not (nat_eq k 0 && is_this_target s.action)) this (ap not is)) ∙ may.shown))

      both : (nat_eq k 0 ≡ true) × (is_this_target s.action ≡ true)
      both = and_parts (nat_eq k 0) (is_this_target s.action) shown

      root_this : root_of h fr.locals.this ≡ Some o
      root_this = ap (root_of h) (sym (ap (operand_of fr.locals s.action) (eqb-true k 0 both.0) ∙ on_this p ac fr st targets i s here both.1)) ∙ root

      partly : (a b : Bool) → (a && b) ≡ false → b ≡ true → a ≡ false
      partly false b none is = refl
      partly true b none is = absurd (true≢false (sym is ∙ none))

      none : (is_alias_constructor p st.number || is_extended_constructor p st.number) ≡ false
      none = partly (is_alias_constructor p st.number || is_extended_constructor p st.number) (is_lent c.fact.mode || is_held c.fact.mode && is_this_origin c.origin.kind) may.whole
          (or_left (is_lent c.fact.mode) (is_held c.fact.mode && is_this_origin c.origin.kind) (ap is_lent mode))

      neither : (is_alias_constructor p st.number ≡ false) × (is_extended_constructor p st.number ≡ false)
      neither = or_parts (is_alias_constructor p st.number) (is_extended_constructor p st.number) none

      makes' : constructs (method_of p st.number) ≡ true
      makes' = ap constructs (method_here p fr st) ∙ makes

      alone : makes_alone (method_at p fr.method) ≡ true
      alone = and_from (constructs (method_at p fr.method)) (not (is_present (alias_in (method_at p fr.method)))) makes
          (ap not (sym (ap (λ (m : Option Method). is_present (alias_in m)) (method_here p fr st)) ∙ sym (ap (λ (b : Bool). b && is_present (alias_in (method_of p st.number))) makes') ∙ neither.0))

      whole : is_extended_in p (method_at p fr.method) ≡ false
      whole = sym (ap (is_extended_in p) (method_here p fr st)) ∙ sym (ap (λ (b : Bool). b && is_extended_in p (method_of p st.number)) makes') ∙ neither.1

  pub lent_hand : IsWhole p x → IsLentFrom p h frs o x.owner ⊎ IsMadeHere p fr o x.owner
  lent_hand whole = go x.finished refl whole
    where
      by : x.finished ≡ false → HasOwningField p x.class → (a b : Bool) → constructs (method_at p fr.method) ≡ a → is_this_origin c.origin.kind ≡ b → IsLentFrom p h frs o x.owner ⊎ IsMadeHere p fr o x.owner
      by open' fields true true makes this = inr (this_made makes this fields, have.unfinished o x at open')
      by open' fields true false makes other = inl (c.begun mode (ap (λ (b : Bool). constructs (method_at p fr.method) && b) other ∙ no_and (constructs (method_at p fr.method))) fields open').1
        where
          no_and : (a : Bool) → (a && false) ≡ false
          no_and true = refl
          no_and false = refl
      by open' fields false b plain is = inl (c.begun mode (ap (λ (d : Bool). d && is_this_origin c.origin.kind) plain) fields open').1

      go : (b : Bool) → x.finished ≡ b → IsWhole p x → IsLentFrom p h frs o x.owner ⊎ IsMadeHere p fr o x.owner
      go true done whole' = inl (c.lends mode done).1
      go false open' (inl done) = absurd (true≢false (sym done ∙ open'))
      go false open' (inr fields) = by open' fields (constructs (method_at p fr.method)) (is_this_origin c.origin.kind) refl refl

module _ (p : Program) (ac : Accept p) (h : HeapContents) (fr : Frame) (st : Stands p fr) (old : ℕ → Bool) (frs : List Frame) (i : ℕ) (s : Step) (here : slice_get (frame_steps p fr) i ≡ Some s) (row : IsCallRow s.action)
    (covered : IsCovered p h gives_none renews_none old frs fr) (holds : HoldsLent p h old frs fr st) (have : HaveEnds h) (targets : KeepsTargets p fr) (making : MakesThis p h fr) (o : ℕ) (x : Object) (before : object_at h o ≡ Some x) (heavy : is_heavy_class p x.class ≡ true) (owes : OwesOrHolds p h o x) where
  module _ (k : ℕ) (position : reset_in (callee p s.action) ≡ Some k) (root : root_of h (operand_of fr.locals s.action k) ≡ Some o) where
    pub temp : (n : ℕ) × (operand_at s.action k ≡ Some n) × (operand_of fr.locals s.action k ≡ temp_value fr.locals n)
    temp = operand_temp fr.locals s.action k h o root

    pub small : IsSmall (places.Temp temp.0)
    small = subst IsSmallTemp temp.1 (operand_has_room p s.action k (small_step p ac fr st i s here))

    module _ (c : Covers p h false false old frs fr o x) (in' : has c.fact.places (places.Temp temp.0) ≡ true) where
      target : is_target p s.action c.fact.places ≡ true
      target = ap (holds_target s.action c.fact.places) position ∙ ap (has_temp c.fact.places) temp.1 ∙ in'

      reached : Reach p st.number (relation_of p st.number) c.origin fr.control c.fact
      reached = subst (λ (b : BodyId). Reach p b (relation_of p b) c.origin fr.control c.fact) (same_body c.body st.number (body_id p fr.method) c.id st.id) c.reached

      pub answer : (j : ℕ) × (reset_in (callee p s.action) ≡ Some j) × MayBeAnew p st.number c.origin s.action j c.fact × (moved_at_call p c.origin s.action s.edge c.fact ≡ moves.Moves → ⊥)
      answer = elim (answered_target p st.number c.origin s.action s.edge c.fact row target) [
        | inl fault ↦ absurd (breaks_nothing p ac st.number c.origin i (move_of s) c.fact reached (step_there p fr st i s here) fault)
        | inr is ↦ is
      ]

      pub its_mode : (claims p (method_at p fr.method) c.origin c.fact ≡ true) ⊎ (c.fact.mode ≡ modes.Lent)
      its_mode =
          let run = running_method p ac fr st in
          let of : method_at p st.body.method ≡ Some run.0 = ap (method_at p) st.method ∙ run.1 in
          claims_or_lends p fr st c.origin c.fact (answered_targets p ac st.number st.body run.0 st.at of (λ aliased u n t comes there. aliased_resets_nothing p ac st.number n t comes there aliased)
          c.origin fr.control c.fact reached s.action answer.0 answer.2)

      -- what moves is not the target
      moves_not : moved_at_call p c.origin s.action s.edge c.fact ≡ moves.Moves → ⊥
      moves_not = answer.3

    abbrev IsThere : Type 0
    IsThere = HasInHand p h (IsLentFrom p h frs) (length frs + 1) fr o x.owner

    renewed : is_renewed p h fr o ≡ true
    renewed = step_renews p h fr i s o here (operand_renews p h fr.locals s.action o k position root)

    -- the one of a fact that says that it is lent
    its_lent : (c : Covers p h false false old frs fr o x) → has c.fact.places (places.Temp temp.0) ≡ true → c.fact.mode ≡ modes.Lent → IsWhole p x → IsLentFrom p h frs o x.owner ⊎ IsMadeHere p fr o x.owner
    its_lent c in' mode whole =
        let is = answer c in' in
        lent_hand p ac h have fr st targets making old frs i s here false false o x before c mode k root
        (subst (λ (n : ℕ). MayBeAnew p st.number c.origin s.action n c.fact) (let both : Some is.0 ≡ Some k = sym is.1 ∙ position in (let one : is.0 ≡ k = cc in one)) is.2) whole

    -- what the fact of the target claims
    claimed_hand : (c : Covers p h false false old frs fr o x) → IsWhole p x → IsOwned p h false false old frs fr o x c → (x.owner ≡ owners.Frame (length frs + 1)) ⊎ IsHeldOrLent p h frs fr o x.owner
    claimed_hand c whole key = elim (claims_by p (method_at p fr.method) c.origin c.fact key.owning) [
      | inl own ↦ inl (key.owner refl own)
      | inr held ↦ inr (holds o x before heavy owes whole renewed false false c held.0 held.1 (claims_owned p (method_at p fr.method) c.origin c.fact key.owning).0)
    ]

    by_place : IsWhole p x → IsKeyed p h false false old frs fr (places.Temp temp.0) o x → IsThere
    by_place whole (owned c in' key) = claimed_hand c whole key
    by_place whole (unowned u) = elim (its_mode u.covers u.here) [
      | inl claimed ↦ absurd (true≢false (sym claimed ∙ u.unowned))
      | inr lent ↦ elim (its_lent u.covers u.here lent whole) [ inl is ↦ inr (inl is) | inr made ↦ inr (inr (inr (inr made))) ]
    ]

    -- it is not given away besides
    pub operand_not_given : IsWhole p x → gives_away p h fr.locals s.action o x.class ≡ true → ⊥
    operand_not_given whole gives = by (covered (places.Temp temp.0) o x small refl (ap (root_of h) (sym temp.2) ∙ root) before heavy owes)
      where
        owner : x.owner ≡ owners.Frame (length frs + 1)
        owner = away_owner p ac h fr st old frs i s here row covered o x before heavy owes gives

        by : IsKeyed p h false false old frs fr (places.Temp temp.0) o x → ⊥
        by (owned c in' key) = moves_not c in' (away_moves p ac h fr st old frs i s here row false false o x c key heavy gives)
        by (unowned u) = elim (its_mode u.covers u.here) [
          | inl claimed ↦ true≢false (sym claimed ∙ u.unowned)
          | inr lent ↦ elim (its_lent u.covers u.here lent whole) [
            | inl is ↦ true≢false (sym (own_frame (length frs + 1) x.owner owner) ∙ lent_not_from p h frs o x.owner is)
            | inr made ↦ (let never : ◌≡◌ {A = Owner} owners.Unowned (owners.Frame (length frs + 1)) = sym made.1 ∙ owner in cc)
          ]
        ]

    pub operand_answered : IsWhole p x → IsThere
    operand_answered whole = by_place whole (covered (places.Temp temp.0) o x small refl (ap (root_of h) (sym temp.2) ∙ root) before heavy owes)

  -- the frame has it in hand
  pub renewed_answered : renews p h fr.locals s.action o ≡ true → IsWhole p x → HasInHand p h (IsLentFrom p h frs) (length frs + 1) fr o x.owner
  renewed_answered is whole = let k = renewed_operand p h fr.locals s.action o is in operand_answered k.0 k.1 k.2 whole

  pub renewed_not_given : renews p h fr.locals s.action o ≡ true → IsWhole p x → gives_away p h fr.locals s.action o x.class ≡ false
  renewed_not_given is whole = go (gives_away p h fr.locals s.action o x.class) refl
    where
      go : (b : Bool) → gives_away p h fr.locals s.action o x.class ≡ b → gives_away p h fr.locals s.action o x.class ≡ false
      go false none = none
      go true gives = absurd (let k = renewed_operand p h fr.locals s.action o is in operand_not_given k.0 k.1 k.2 whole gives)
