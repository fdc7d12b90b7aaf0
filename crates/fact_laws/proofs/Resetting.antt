-- A fact of the object whose obligation a call creates anew goes on with no names and full, or a rule is broken; and facts in mode Own of which
-- something is owed then are never gone.
use Rattle.std.proofs.Common.{◌≡◌, ◌⊎◌, inl, inr, ℕ, Bool, true, false, true≢false, Option, Some, None, refl, sym, ◌∙◌, subst}
use Rattle.std.specs.FinSet as set
use Rattle.program_model.specs.declared.kinds.BodyId.{BodyId}
use Rattle.program_model.specs.declared.program.Program.{Program}
use Rattle.control_actions.specs.declared.action.Action.{Action}
use Rattle.control_actions.specs.declared.action.Action.TheVariants as actions
use Rattle.control_actions.specs.declared.action.Edge.{Edge}
use Rattle.control_actions.specs.declared.fact.Fact.{Fact}
use Rattle.control_actions.specs.declared.fact.Mode.TheVariants as modes
use Rattle.control_actions.specs.declared.fact.Origin.{Origin}
use Rattle.control_actions.specs.declared.place.Place.{Place}
use Rattle.ownership_rules.specs.Bodies.{reset_in}
use Rattle.place_laws.specs.CalledRows.{called_after}
use Rattle.ownership_rules.specs.Callees.{callee}
use Rattle.place_laws.specs.Calls.{after_reset, anew, at_move, at_precondition, called, given_away, with_called}
use Rattle.ownership_rules.specs.Facts.{Names, PlaceSet, has, is_met, is_nowhere, leave}
use Rattle.place_laws.specs.Flow.{flow, placed, turned}
use Rattle.ownership_rules.specs.MustCallSets.{no_names}
use Rattle.fact_laws.specs.Outcomes.{After, IsCallRow, IsFault}
use Rattle.place_laws.specs.PlaceRows.{places_after}
use Rattle.place_laws.specs.Preconditions.{precondition_missing}
use Rattle.fact_laws.proofs.OwedFacts.{leaves}
use Rattle.ownership_rules.specs.MovesAtCalls.{moved_at_call}
use Rattle.ownership_rules.specs.declared.moved.Moved.{Moved}
use Rattle.ownership_rules.specs.declared.moved.Moved.TheVariants as moves
use Rattle.must_call_reset.specs.Resets.{is_bad_target, is_unannounced, reset_target}
use Rattle.must_call_reset.specs.declared.reset_move.ResetMove.{ResetMove}
use Rattle.fact_laws.specs.Anew.{GoesAnew, MayBeAnew, fact_anew, is_target}
use Rattle.rlc_base.proofs.SetLaws.{empty_within}
use Rattle.control_actions.specs.declared.fact.Outcome.{Outcome}
use Rattle.control_actions.specs.declared.fact.Outcome.TheVariants.{Next, Gone, Fault}
use Rattle.fact_laws.specs.Going.{GoesAs}
use Rattle.fact_laws.proofs.Going.{apart, held_stays, left_as, lent_before, mode_stays}
use Rattle.fact_laws.proofs.FactTargets.{may_be_anew, targeted, untouched}

-- the fact goes on in mode Own, at these places and with these names
abbrev GoesOwned : Fact → PlaceSet → Names → Bool → Fact → Type 0
GoesOwned f held names full g = g ≡ record f { places = held; mode = modes.Own; called = names; full = full }

module _ (p : Program) (b : BodyId) (o : Origin) (f : Fact) where
  -- the fact of the target, where what goes on anew is as it is wanted
  target_fact : (P : Fact → Type 0) (a : Action) (e : Edge) (held : PlaceSet) → is_target p a f.places ≡ true
      → ((k : ℕ) → reset_in (callee p a) ≡ Some k → MayBeAnew p b o a k f → (names : Names) → After P (leave o (anew (with_called f names)) held))
      → After P (placed o f held (turned (called p b o a e f)))
  target_fact P a e held is good = go (precondition_missing p a f)
    where
      decided : (k : ℕ) → reset_in (callee p a) ≡ Some k → (names : Names) (bad said : Bool) → is_bad_target p b o a k f ≡ bad → is_unannounced p b f ≡ said
          → After P (placed o f held (turned (after_reset p o (with_called f names) (reset_target p b o a k (with_called f names)))))
      decided k at names true said one two = rw one tt
      decided k at names false true one two = rw (one, two) tt
      decided k at names false false one two = rw (one, two) (good k at (may_be_anew p b o a k f one two) names)

      moved : (x : Moved) → After P (placed o f held (turned (at_move p b o a e f x)))
      moved moves.Stays =
          let it = targeted p b o a (with_called f (called_after p b a e f)) is in
          subst (λ (r : ResetMove). After P (placed o f held (turned (after_reset p o (with_called f (called_after p b a e f)) r)))) (sym it.2)
          (decided it.0 it.1 (called_after p b a e f) (is_bad_target p b o a it.0 f) (is_unannounced p b f) refl refl)
      moved moves.Moves =
          let it = targeted p b o a (with_called (given_away f) (called_after p b a e (given_away f))) is in
          subst (λ (r : ResetMove). After P (placed o f held (turned (after_reset p o (with_called (given_away f) (called_after p b a e (given_away f))) r)))) (sym it.2) tt
      moved (moves.Bad rule) = tt

      go : (x : Option Names) → After P (placed o f held (turned (at_precondition p b o a e f x)))
      go None = moved (moved_at_call p o a e f)
      go (Some names) = tt

  target_row : (P : Fact → Type 0) (a : Action) (e : Edge) → IsCallRow a → is_target p a f.places ≡ true
      → ((k : ℕ) → reset_in (callee p a) ≡ Some k → MayBeAnew p b o a k f → (names : Names) → After P (leave o (anew (with_called f names)) (places_after p b a e f.places)))
      → After P (flow p b o a e f)
  target_row P actions.Skip e row is good = absurd row
  target_row P (actions.Call m d n form) e row is good = target_fact P (actions.Call m d n form) e (places_after p b (actions.Call m d n form) e f.places) is good
  target_row P (actions.New m d n) e row is good = target_fact P (actions.New m d n) e (places_after p b (actions.New m d n) e f.places) is good
  target_row P (actions.Super m d n) e row is good = target_fact P (actions.Super m d n) e (places_after p b (actions.Super m d n) e f.places) is good
  target_row P a e row is good = absurd row

  -- somebody answers for the target, which does not move, or a rule is broken
  answered_fact : (a : Action) (e : Edge) (held : PlaceSet) → is_target p a f.places ≡ true
      → IsFault (placed o f held (turned (called p b o a e f))) ⊎ ((k : ℕ) × (reset_in (callee p a) ≡ Some k) × MayBeAnew p b o a k f × (moved_at_call p o a e f ≡ moves.Moves → ⊥))
  answered_fact a e held is = go (precondition_missing p a f) (moved_at_call p o a e f) refl
    where
      decided : (k : ℕ) → reset_in (callee p a) ≡ Some k → (names : Names) → (moved_at_call p o a e f ≡ moves.Moves → ⊥) → (bad said : Bool) → is_bad_target p b o a k f ≡ bad → is_unannounced p b f ≡ said
          → IsFault (placed o f held (turned (after_reset p o (with_called f names) (reset_target p b o a k (with_called f names)))))
          ⊎ ((j : ℕ) × (reset_in (callee p a) ≡ Some j) × MayBeAnew p b o a j f × (moved_at_call p o a e f ≡ moves.Moves → ⊥))
      decided k at names stays true said one two = inl (rw one tt)
      decided k at names stays false true one two = inl (rw (one, two) tt)
      decided k at names stays false false one two = inr (k, at, may_be_anew p b o a k f one two, stays)

      go : (x : Option Names) (m : Moved) → moved_at_call p o a e f ≡ m
          → IsFault (placed o f held (turned (at_precondition p b o a e f x))) ⊎ ((k : ℕ) × (reset_in (callee p a) ≡ Some k) × MayBeAnew p b o a k f × (moved_at_call p o a e f ≡ moves.Moves → ⊥))
      go (Some names) m same = inl tt
      go None moves.Stays same =
          let it = targeted p b o a (with_called f (called_after p b a e f)) is in
          elim (decided it.0 it.1 (called_after p b a e f) (λ one. (let never : moves.Stays ≡ moves.Moves = sym same ∙ one in cc)) (is_bad_target p b o a it.0 f) (is_unannounced p b f) refl refl) [
            | inl fault ↦ inl (subst (λ (m : Moved). IsFault (placed o f held (turned (at_move p b o a e f m)))) (sym same)
                (subst (λ (r : ResetMove). IsFault (placed o f held (turned (after_reset p o (with_called f (called_after p b a e f)) r)))) (sym it.2) fault))
            | inr may ↦ inr may
          ]
      go None moves.Moves same =
          let it = targeted p b o a (with_called (given_away f) (called_after p b a e (given_away f))) is in
          inl (subst (λ (m : Moved). IsFault (placed o f held (turned (at_move p b o a e f m)))) (sym same)
          (subst (λ (r : ResetMove). IsFault (placed o f held (turned (after_reset p o (with_called (given_away f) (called_after p b a e (given_away f))) r)))) (sym it.2) tt))
      go None (moves.Bad rule) same = inl (subst (λ (m : Moved). IsFault (placed o f held (turned (at_move p b o a e f m)))) (sym same) tt)

  pub target_answer : (a : Action) (e : Edge) → IsCallRow a → is_target p a f.places ≡ true
      → IsFault (flow p b o a e f) ⊎ ((k : ℕ) × (reset_in (callee p a) ≡ Some k) × MayBeAnew p b o a k f × (moved_at_call p o a e f ≡ moves.Moves → ⊥))
  target_answer actions.Skip e row is = absurd row
  target_answer (actions.Call m d n form) e row is = answered_fact (actions.Call m d n form) e (places_after p b (actions.Call m d n form) e f.places) is
  target_answer (actions.New m d n) e row is = answered_fact (actions.New m d n) e (places_after p b (actions.New m d n) e f.places) is
  target_answer (actions.Super m d n) e row is = answered_fact (actions.Super m d n) e (places_after p b (actions.Super m d n) e f.places) is
  target_answer a e row is = absurd row

  -- a fact in mode Own that is not the target, and whose need is not met after the call
  apart_fact : (P : Fact → Type 0) (a : Action) (e : Edge) (held : PlaceSet) → is_target p a f.places ≡ false → f.mode ≡ modes.Own
      → is_met o (with_called f (called_after p b a e f)) ≡ false → (moved_at_call p o a e f ≡ moves.Moves → ⊥)
      → (is_nowhere held ≡ false → P (record f { places = held; mode = modes.Own; called = called_after p b a e f }))
      → After P (placed o f held (turned (called p b o a e f)))
  apart_fact P a e held out own unmet stays good = go (precondition_missing p a f)
    where
      moved : (x : Moved) → moved_at_call p o a e f ≡ x → After P (placed o f held (turned (at_move p b o a e f x)))
      moved moves.Stays one =
          subst (λ (r : ResetMove). After P (placed o f held (turned (after_reset p o (with_called f (called_after p b a e f)) r))))
          (sym (untouched p b o a (with_called f (called_after p b a e f)) out))
          (leaves P o (with_called f (called_after p b a e f)) held own unmet good)
      moved moves.Moves one = absurd (stays one)
      moved (moves.Bad rule) one = tt

      go : (x : Option Names) → After P (placed o f held (turned (at_precondition p b o a e f x)))
      go None = moved (moved_at_call p o a e f) refl
      go (Some names) = tt

  pub apart_row : (P : Fact → Type 0) (a : Action) (e : Edge) → IsCallRow a → is_target p a f.places ≡ false → f.mode ≡ modes.Own
      → is_met o (record f { called = called_after p b a e f }) ≡ false → (moved_at_call p o a e f ≡ moves.Moves → ⊥)
      → (is_nowhere (places_after p b a e f.places) ≡ false → P (record f { places = places_after p b a e f.places; mode = modes.Own; called = called_after p b a e f }))
      → After P (flow p b o a e f)
  apart_row P actions.Skip e row out own unmet stays good = absurd row
  apart_row P (actions.Call m d n form) e row out own unmet stays good =
      apart_fact P (actions.Call m d n form) e (places_after p b (actions.Call m d n form) e f.places) out own unmet stays good
  apart_row P (actions.New m d n) e row out own unmet stays good = apart_fact P (actions.New m d n) e (places_after p b (actions.New m d n) e f.places) out own unmet stays good
  apart_row P (actions.Super m d n) e row out own unmet stays good = apart_fact P (actions.Super m d n) e (places_after p b (actions.Super m d n) e f.places) out own unmet stays good
  apart_row P a e row out own unmet stays good = absurd row

  -- a fact in mode Own that is the target, and whose class has an obligation
  pub anew_row : (P : Fact → Type 0) (a : Action) (e : Edge) → IsCallRow a → is_target p a f.places ≡ true → f.mode ≡ modes.Own → set.is_subset o.full no_names ≡ false
      → (is_nowhere (places_after p b a e f.places) ≡ false → P (record f { places = places_after p b a e f.places; mode = modes.Own; called = no_names; full = true }))
      → After P (flow p b o a e f)
  anew_row P a e row is own unmet good = target_row P a e row is (λ k at may names. leaves P o (anew (with_called f names)) (places_after p b a e f.places) own unmet good)

-- ---- the laws

pub target_goes : (p : Program) (b : BodyId) (o : Origin) (a : Action) (e : Edge) (f : Fact) (q : Place) → IsCallRow a → is_target p a f.places ≡ true
    → has (places_after p b a e f.places) q ≡ true → After (GoesAnew p b o a f (places_after p b a e f.places)) (flow p b o a e f)
target_goes p b o a e f q row is there = target_row p b o f (GoesAnew p b o a f held) a e row is (λ k at may names.
    left_as (GoesAnew p b o a f held) o (anew (with_called f names)) held q there (record { position = k; target = at; may = may; anew = refl }))
  where
    held : PlaceSet
    held = places_after p b a e f.places

pub target_owed : (p : Program) (b : BodyId) (o : Origin) (a : Action) (e : Edge) (f : Fact) → IsCallRow a → is_target p a f.places ≡ true → f.mode ≡ modes.Own
    → set.is_subset o.full no_names ≡ false
    → After (λ g. g ≡ record f { places = places_after p b a e f.places; mode = modes.Own; called = no_names; full = true }) (flow p b o a e f)
target_owed p b o a e f row is own unmet = anew_row p b o f (GoesOwned f (places_after p b a e f.places) no_names true) a e row is own unmet (λ some. refl)

pub owed_apart : (p : Program) (b : BodyId) (o : Origin) (a : Action) (e : Edge) (f : Fact) → IsCallRow a → is_target p a f.places ≡ false → f.mode ≡ modes.Own
    → is_met o (record f { called = called_after p b a e f }) ≡ false → (moved_at_call p o a e f ≡ moves.Moves → ⊥)
    → After (λ g. g ≡ record f { places = places_after p b a e f.places; mode = modes.Own; called = called_after p b a e f }) (flow p b o a e f)
owed_apart p b o a e f row out own unmet stays =
    apart_row p b o f (GoesOwned f (places_after p b a e f.places) (called_after p b a e f) f.full) a e row out own unmet stays (λ some. refl)

-- a fact of the target goes on as others do, with fewer names
anew_goes : (f : Fact) (held : PlaceSet) (names : Names) → GoesAs f held names (fact_anew f held)
anew_goes f held names = record {
  places = λ n. refl;
  full = inr refl;
  mode = λ owned. mode_stays f.mode held owned;
  lent = λ lent. lent_before f.mode held lent;
  known = empty_within names;
  held = λ is inside. held_stays f.mode held is inside;
}

-- each call lets a fact go on that has a place after it; where it is that of the target, it goes on anew
pub call_goes_so : (p : Program) (b : BodyId) (o : Origin) (a : Action) (e : Edge) (f : Fact) (q : Place) → IsCallRow a → has (places_after p b a e f.places) q ≡ true
    → After (λ (g : Fact). GoesAs f (places_after p b a e f.places) (called_after p b a e f) g × (is_target p a f.places ≡ true → GoesAnew p b o a f (places_after p b a e f.places) g)) (flow p b o a e f)
call_goes_so p b o a e f q row there = go (is_target p a f.places) refl
  where
    turns : (P Q : Fact → Type 0) (x : Outcome) → ((g : Fact) → P g → Q g) → After P x → After Q x
    turns P Q (Next g) as' is = as' g is
    turns P Q Gone as' is = is
    turns P Q (Fault rule names) as' is = tt

    go : (t : Bool) → is_target p a f.places ≡ t
        → After (λ (g : Fact). GoesAs f (places_after p b a e f.places) (called_after p b a e f) g × (is_target p a f.places ≡ true → GoesAnew p b o a f (places_after p b a e f.places) g)) (flow p b o a e f)
    go true is = turns (GoesAnew p b o a f (places_after p b a e f.places)) _ (flow p b o a e f)
        (λ g anew'. (subst (GoesAs f (places_after p b a e f.places) (called_after p b a e f)) (sym anew'.anew) (anew_goes f (places_after p b a e f.places) (called_after p b a e f)), λ target. anew'))
        (target_goes p b o a e f q row is there)
    go false out = turns (GoesAs f (places_after p b a e f.places) (called_after p b a e f)) _ (flow p b o a e f)
        (λ g on. (on, λ target. absurd (true≢false (sym target ∙ out)))) (apart p b o a e f q row out there)

pub calls : (p : Program) (b : BodyId) (o : Origin) (a : Action) (e : Edge) (f : Fact) (q : Place) → IsCallRow a
    → has (places_after p b a e f.places) q ≡ true → After (GoesAs f (places_after p b a e f.places) (called_after p b a e f)) (flow p b o a e f)
calls p b o a e f q row there = turns (flow p b o a e f) (call_goes_so p b o a e f q row there)
  where
    turns : (x : Outcome) → After (λ (g : Fact). GoesAs f (places_after p b a e f.places) (called_after p b a e f) g × (is_target p a f.places ≡ true → GoesAnew p b o a f (places_after p b a e f.places) g)) x
        → After (GoesAs f (places_after p b a e f.places) (called_after p b a e f)) x
    turns (Next g) is = is.0
    turns Gone is = is
    turns (Fault rule names) is = tt

pub answered_target : (p : Program) (b : BodyId) (o : Origin) (a : Action) (e : Edge) (f : Fact) → IsCallRow a → is_target p a f.places ≡ true
    → IsFault (flow p b o a e f) ⊎ ((k : ℕ) × (reset_in (callee p a) ≡ Some k) × MayBeAnew p b o a k f × (moved_at_call p o a e f ≡ moves.Moves → ⊥))
answered_target p b o a e f row is = target_answer p b o f a e row is
